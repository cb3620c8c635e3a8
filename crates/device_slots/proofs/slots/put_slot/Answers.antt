use Rattle.std.specs.Prelude.{option_map}
use Rattle.std.proofs.lemmas.List.{map-set}
use Rattle.tab_values.specs.Views.{object_of}
use Rattle.device_slots.proofs.slots.put_slot.Goals as goal

pub returns-then-slot-slots : goal.returns-then-slot-slots
returns-then-slot-slots c = map-set (option_map object_of) c.args.slots.now c.args.slot c.args.held
