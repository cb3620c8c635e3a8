use Rattle.std.proofs.Common.{◌∙◌}
use Rattle.device_slots.specs.Views.{slots_of}
use Rattle.device_slots.proofs.Listed.{objects_counted}
use Rattle.device_slots.proofs.slots.object_count.Goals as goal

pub returns-clause-count : goal.returns-clause-count
returns-clause-count c = c.taken_count.ensures.count ∙ objects_counted (slots_of c.args.slots.now)
