use Rattle.std.proofs.Common.{rules, ap, ◌∙◌}
use Rattle.broker_lock.proofs.Parts.{joins_it}
use Rattle.broker_lock.proofs.Passes.{joined_at, joined_is_idle, settles_at, settles_to}
use Rattle.broker_lock.proofs.pass.Shared.join.Goals as goal

pub join_seat-requires : goal.join_seat-requires
join_seat-requires g c = let ours = c.pass.invariant.0 in let theirs = c.into_seat-seat.ensures.idle.0 in (
  search rules,
  search rules,
  c.into_seat-seat.ensures.idle.1,
  search rules,
  joins_it g.B.Recorded.history g.B.Recorded.fixed g.B.Recorded.wrong c.pass.inside.seat.id c.into_seat-seat.result.id c.pass.inside.seat.me.0 c.into_seat-seat.result.me.0 ours.some_part theirs.some_part ours.resting theirs.resting,
)

pub load-requires : goal.load-requires
load-requires g c = (
  search rules,
  search rules,
  settles_at g.B.Recorded.history g.B.Recorded.fixed g.B.Recorded.wrong _ c.join_seat.new.seat.id c.pass.inside.seat.me.0 c.into_seat-seat.result.me.0 c.join_seat.new.seat.me (ap (λ me. me.0) c.join_seat.ensures.2) c.pass.invariant.0,
)

pub invariant_of-pass : goal.invariant_of-pass
invariant_of-pass g c = (
  joined_is_idle c.pass.inside.seat.me.0 c.into_seat-seat.result.me.0 c.load.new.seat.me.0 c.pass.invariant.0 c.into_seat-seat.ensures.idle.0
      (settles_to c.pass.inside.seat.me.0 c.into_seat-seat.result.me.0 c.join_seat.new.seat.me.0 c.load.new.seat.me.0 (ap (λ me. me.0) c.join_seat.ensures.2) c.load.ensures.2.1),
  c.load.ensures.2.0 ∙ (ap (λ me. me.1) c.join_seat.ensures.2 ∙ c.pass.invariant.1),
)

pub returns : goal.returns
returns g c =
    joined_at c.pass.inside.seat.table_id c.into_seat-seat.result.table_id c.load.new.seat.table_id c.pass.inside.seat.me.0 c.into_seat-seat.result.me.0 c.load.new.seat.me.0 c.args.pass.now c.args.ended
    c.pass.invariant.0 c.into_seat-seat.ensures.idle.0 c.pass.view_is c.into_seat-seat.ensures.view (c.load.ensures.0 ∙ c.join_seat.ensures.0)
    (settles_to c.pass.inside.seat.me.0 c.into_seat-seat.result.me.0 c.join_seat.new.seat.me.0 c.load.new.seat.me.0 (ap (λ me. me.0) c.join_seat.ensures.2) c.load.ensures.2.1)
