use Rattle.device_laws.proofs.InSlots.{object_stands, plain_stand}
use Rattle.device_laws.proofs.handles.handles_stand_for_what_is_there.Goals as goal

pub returns-clause-object : goal.returns-clause-object
returns-clause-object c = object_stands

pub returns-clause-plain : goal.returns-clause-plain
returns-clause-plain c = plain_stand
