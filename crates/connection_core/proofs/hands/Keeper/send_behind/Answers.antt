use Rattle.std.proofs.Common.{length, ap, ◌∙◌, arith}
use Rattle.connection_core.specs.Line.{LineView, with_sent}
use Rattle.connection_core.specs.declared.message.Message.TheVariants as messages
use Rattle.connection_core.proofs.Holding.{held_none}
use Rattle.connection_core.proofs.hands.Keeper.send_behind.Goals as goal

pub send-requires-clause-few : goal.send-requires-clause-few
send-requires-clause-few g c = omega (arith, ap (λ (v : LineView). length v.sent) c.send_held.ensures.sent, c.requires.few)

pub returns-clause-sent : goal.returns-clause-sent
returns-clause-sent g c =
    held_none _ _ c.send_held.ensures.none ∙ c.send.ensures.sent ∙ ap (λ (v : LineView). with_sent v (messages.Command c.args.command)) c.send_held.ensures.sent
