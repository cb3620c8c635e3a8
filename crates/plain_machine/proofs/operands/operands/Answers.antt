use Rattle.std.specs.Prelude.{get_or}
use Rattle.tab_spec.specs.declared.Kind.TheVariants.{Absent}
use Rattle.history_spec.specs.Table.{held_under}
use Rattle.world_spec.specs.World.{session_of}
use Rattle.plain_machine.specs.Owners.{owners_of}
use Rattle.plain_machine.specs.Views.{objects_of}
use Rattle.plain_machine.proofs.Standing.{stands_for}
use Rattle.plain_machine.proofs.operands.operands.Goals as goal

pub returns-clause-stands : goal.returns-clause-stands
returns-clause-stands c =
    let shape = c.args.shape.now in
    let objects = held_under (objects_of c.args.places.now) in
    let sessions = session_of (owners_of c.args.sessions.now) c.args.client in
    record {
      first = rw c.operand.ensures (stands_for objects sessions (get_or shape.row.handles 0 Absent) (get_or shape.handles 0 0));
      second = rw c.operand-2.ensures (stands_for objects sessions (get_or shape.row.handles 1 Absent) (get_or shape.handles 1 0));
    }
