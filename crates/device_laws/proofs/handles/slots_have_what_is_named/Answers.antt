use Rattle.device_laws.proofs.InSlots.{both_plain_there, free_is_room, object_and_plain_there}
use Rattle.device_laws.proofs.handles.slots_have_what_is_named.Goals as goal

pub returns-clause-object : goal.returns-clause-object
returns-clause-object c = object_and_plain_there

pub returns-clause-plain : goal.returns-clause-plain
returns-clause-plain c = both_plain_there

pub returns-clause-room : goal.returns-clause-room
returns-clause-room c = free_is_room
