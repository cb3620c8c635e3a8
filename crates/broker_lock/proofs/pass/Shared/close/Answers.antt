use Rattle.std.proofs.Common.{ap, ◌∙◌}
use Rattle.std.specs.Slots.{slots_items}
use mathlib.Core.Option.{some}
use Rattle.broker_lock.specs.Pass.{PassView}
use Rattle.broker_lock.proofs.Parts.{ends_it}
use Rattle.broker_lock.proofs.Passes.{ends_at, value_is}
use Rattle.broker_lock.proofs.pass.Shared.close.Goals as goal

pub unreachable-requires : goal.unreachable-requires
unreachable-requires g c =
    let end = ends_it g.B.Recorded.history g.B.Recorded.fixed g.B.Recorded.wrong _ c.into_seat-seat.result.me.0 _ (slots_items c.close_with-closed.result.slots) (ap (λ (p : PassView). p.parts) c.into_seat-seat.ensures.view ∙ c.requires.parts) c.into_seat-seat.ensures.idle.0.resting c.close_with-closed.ensures.values.2 in
    c.in_default.not-Some end.value (value_is g.B.Recorded.history g.B.Recorded.fixed g.B.Recorded.wrong c.into_seat-seat.result.me.0 (slots_items c.close_with-closed.result.slots) c.take.result end c.take.ensures.value)

pub returns : goal.returns
returns g c =
    let end = ends_it g.B.Recorded.history g.B.Recorded.fixed g.B.Recorded.wrong _ c.into_seat-seat.result.me.0 _ (slots_items c.close_with-closed.result.slots) (ap (λ (p : PassView). p.parts) c.into_seat-seat.ensures.view ∙ c.requires.parts) c.into_seat-seat.ensures.idle.0.resting c.close_with-closed.ensures.values.2 in
    ends_at g.B.Recorded.history g.B.Recorded.fixed g.B.Recorded.wrong c.into_seat-seat.result.table_id c.into_seat-seat.result.me.0 (slots_items c.close_with-closed.result.slots) c.in-Some.value c.args.pass c.into_seat-seat.ensures.idle.0 end
    (c.take.ensures.value ∙ ap some c.in-Some.is) c.into_seat-seat.ensures.view
