use Rattle.std.proofs.Common.{Some, rules, sym, ap, ◌∙◌, subst}
use Rattle.broker_lock.proofs.Steps.{is_out, takes_it}
use Rattle.broker_lock.specs.Turn.{IsIdle}
use Rattle.broker_lock.proofs.turn.take_turn.Goals as goal

pub compare_exchange-requires : goal.compare_exchange-requires
compare_exchange-requires g c = let same = c.loop.invariant.1 in (
  c.loop.invariant.0 ∙ c.requires.own,
  search rules,
  takes_it g.B.Recorded.history g.B.Recorded.fixed g.B.Recorded.wrong _ _ _ (subst IsIdle (sym (ap (λ me. me.0) same)) c.requires.idle.0) (ap (λ me. me.1) same ∙ c.requires.idle.1),
)

pub exchange-requires : goal.exchange-requires
exchange-requires g c = let turn = c.compare_exchange.ensures.2.0 c.if-compare_exchange-eq0.true in
    (c.compare_exchange.ensures.0 ∙ (c.loop.invariant.0 ∙ c.requires.own), (Some turn.0, is_out _ _ turn.1))
