use Rattle.std.proofs.Common.{arith, sym, ◌∙◌}
use Rattle.broker_core.proofs.Placing.{room_for_client, room_there}
use Rattle.broker_core.proofs.broker.has_room_for_client.Goals as goal

pub returns : goal.returns
returns c = (
  λ is. room_for_client c.args.journal.now c.args.present c.args.opened c.requires.present c.requires.opened (sym c.room_for_client.ensures ∙ is) (omega arith),
  λ has. c.room_for_client.ensures ∙ room_there c.args.journal.now c.args.present c.requires.present has,
)

pub returns-then-opened-ge-MOST_CLIENTS : goal.returns-then-opened-ge-MOST_CLIENTS
returns-then-opened-ge-MOST_CLIENTS c = (λ is. absurd cc, λ has. absurd (omega (arith, has.number, c.requires.opened)))
