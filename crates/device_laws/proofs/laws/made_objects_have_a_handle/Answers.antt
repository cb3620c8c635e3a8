use Rattle.device_laws.proofs.Outcomes.{made_has_handle}
use Rattle.device_laws.proofs.laws.made_objects_have_a_handle.Goals as goal

pub returns : goal.returns
returns c = made_has_handle
