use Rattle.std.proofs.Common.{length, ap, ◌∙◌, arith}
use Rattle.connection_core.specs.Line.{LineView, with_sent}
use Rattle.connection_core.specs.declared.message.Message.TheVariants as messages
use Rattle.connection_core.proofs.Holding.{held_more, held_same}
use Rattle.connection_core.proofs.hands.Keeper.put.Goals as goal

pub send_first-requires-clause-few : goal.send_first-requires-clause-few
send_first-requires-clause-few g c =
    omega (arith, ap (λ (v : LineView). length v.sent) (held_same _ _ _ _ (c.push.ensures.full c.if-push.false) c.loop.invariant.sent), c.requires.few)

pub loop-preserved : goal.loop-preserved
loop-preserved g c = record {
  goes = (tt, tt);
  may_send = c.send_first.ensures.may_send;
  sent = c.send_first.ensures.sent ∙ held_same _ _ _ _ (c.push.ensures.full c.if-push.false) c.loop.invariant.sent;
  seat = c.send_first.ensures.seat ∙ c.loop.invariant.seat;
}

pub send_behind-requires-then-is_empty-clause-few : goal.send_behind-requires-then-is_empty-clause-few
send_behind-requires-then-is_empty-clause-few g c =
    omega (arith, ap (λ (v : LineView). length v.sent) (held_same _ _ _ _ (c.push.ensures.full c.if-push.false) c.loop.invariant.sent), c.requires.few)

pub returns-then-is_empty-clause-sent : goal.returns-then-is_empty-clause-sent
returns-then-is_empty-clause-sent g c =
    c.send_behind-then-is_empty.ensures.sent ∙ ap (λ (v : LineView). with_sent v (messages.Command c.args.command)) (held_same _ _ _ _ (c.push.ensures.full c.if-push.false) c.loop.invariant.sent)

pub returns-then-push-clause-sent : goal.returns-then-push-clause-sent
returns-then-push-clause-sent g c =
    held_more _ _ _ _ (c.push.ensures.room c.if-push.true) ∙ ap (λ (v : LineView). with_sent v (messages.Command c.args.command)) c.loop.invariant.sent
