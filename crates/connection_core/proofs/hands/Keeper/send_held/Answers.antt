use Rattle.std.proofs.Common.{length, sym, ap, ◌∙◌, arith}
use Rattle.connection_core.specs.Line.{LineView}
use Rattle.connection_core.proofs.Holding.{held_none, nothing_held}
use Rattle.connection_core.proofs.hands.Keeper.send_held.Goals as goal

pub send_first-requires-clause-few : goal.send_first-requires-clause-few
send_first-requires-clause-few g c = omega (arith, ap (λ (v : LineView). length v.sent) c.loop.invariant.sent, c.requires.few)

pub loop-preserved : goal.loop-preserved
loop-preserved g c = record {
  goes = (tt, tt);
  may_send = c.send_first.ensures.may_send;
  sent = c.send_first.ensures.sent ∙ c.loop.invariant.sent;
  seat = c.send_first.ensures.seat ∙ c.loop.invariant.seat;
}

pub returns-then-is_empty-clause-none : goal.returns-then-is_empty-clause-none
returns-then-is_empty-clause-none g c = nothing_held _ (sym c.is_empty.ensures ∙ c.if-is_empty.true)

pub returns-then-is_empty-clause-sent : goal.returns-then-is_empty-clause-sent
returns-then-is_empty-clause-sent g c = sym (held_none _ _ (nothing_held _ (sym c.is_empty.ensures ∙ c.if-is_empty.true))) ∙ c.loop.invariant.sent
