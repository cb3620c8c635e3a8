use Rattle.std.specs.Prelude.{get_or}
use Rattle.tab_spec.specs.declared.Kind.TheVariants.{Absent}
use Rattle.device_slots.specs.Views.{object_under, places_of, session_under, slots_of}
use Rattle.device_slots.proofs.Standing.{stands_for}
use Rattle.device_slots.proofs.operands.operands.Goals as goal

pub returns-clause-stands : goal.returns-clause-stands
returns-clause-stands c =
    let shape = c.args.shape.now in
    let objects = object_under (slots_of c.args.slots.now) in
    let sessions = session_under (places_of c.args.places.now) in
    record {
      first = rw c.operand.ensures (stands_for objects sessions (get_or shape.row.handles 0 Absent) (get_or shape.handles 0 0));
      second = rw c.operand-2.ensures (stands_for objects sessions (get_or shape.row.handles 1 Absent) (get_or shape.handles 1 0));
    }
