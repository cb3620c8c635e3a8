use Rattle.fx_capability.proofs.Others.{told_alike}
use Rattle.fx_capability.proofs.laws.a_device_lists_for_clients.Goals as goal

pub returns : goal.returns
returns c = told_alike
