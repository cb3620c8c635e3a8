use Rattle.std.proofs.Common.{sym, ◌∙◌, arith}
use Rattle.crossbeam_channel.specs.Claims.{view}
use Rattle.connection_core.proofs.Holding.{held_count, held_sent, something_held}
use Rattle.connection_core.proofs.hands.Keeper.send_first.Goals as goal

pub pop-requires : goal.pop-requires
pop-requires g c = something_held _ (sym c.is_empty.ensures ∙ c.if-is_empty.false)

pub send-requires-clause-few : goal.send-requires-clause-few
send-requires-clause-few g c = omega (arith, held_count (view c.args.side.now.pass) c.args.held.now, c.requires.few, something_held _ (sym c.is_empty.ensures ∙ c.if-is_empty.false))

pub returns-clause-sent : goal.returns-clause-sent
returns-clause-sent g c = held_sent _ _ _ _ _ c.pop.ensures c.send.ensures.sent
