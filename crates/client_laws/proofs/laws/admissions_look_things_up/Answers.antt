use Rattle.client_laws.proofs.Steps.{looked_up}
use Rattle.client_laws.proofs.laws.admissions_look_things_up.Goals as goal

pub returns : goal.returns
returns c = looked_up
