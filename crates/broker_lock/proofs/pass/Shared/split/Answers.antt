use Rattle.std.proofs.Common.{◌≤◌, rules, sym, ap, subst}
use Rattle.broker_lock.specs.Pass.{PassView}
use Rattle.broker_lock.specs.Turn.{IsIdle}
use Rattle.broker_lock.proofs.Parts.{splits_it}
use Rattle.broker_lock.proofs.Passes.{split_off_is_idle}
use Rattle.broker_lock.proofs.pass.Shared.split.Goals as goal

pub split_seat-seat-requires : goal.split_seat-seat-requires
split_seat-seat-requires g c = (
  search rules,
  search rules,
  splits_it g.B.Recorded.history g.B.Recorded.fixed g.B.Recorded.wrong c.pass.inside.seat.id c.pass.inside.seat.me.0 (subst (λ (p : PassView). 2 ≤ p.parts) (sym c.pass.view_is) c.requires.parts) c.pass.invariant.0.resting,
)

pub invariant_of-result : goal.invariant_of-result
invariant_of-result g c = let given = c.split_seat-seat.ensures.4 in
    (subst IsIdle (sym (ap (λ me. me.0) given)) (split_off_is_idle c.pass.inside.seat.me.0), ap (λ me. me.1) given)
