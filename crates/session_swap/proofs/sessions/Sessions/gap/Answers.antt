use Rattle.std.proofs.Common.{◌∙◌, ℕ, List, ap, subst, arith}
use Rattle.std.specs.Prelude.{Option}
use Rattle.device_spec.specs.Slots.{gap_from}
use Rattle.session_swap.specs.declared.record.Record.{Record}
use Rattle.session_swap.specs.Items.{ListsThose, SessionsView, gap_first, is_saved_item, number_at}
use Rattle.session_swap.specs.Records.{items_of}
use Rattle.session_swap.proofs.Firsts.{first_at, first_inside, first_most, first_risen}
use Rattle.session_swap.proofs.sessions.Sessions.gap.Goals as goal

pub gap_above-requires : goal.gap_above-requires
gap_above-requires c =
    first_inside c.self.inside.records.items c.deref.result.now c.self.inside.order c.first_saved-first.result c.self.invariant.listed
    c.first_saved-first.ensures.first c.deref.ensures.value

pub returns-clause-most : goal.returns-clause-most
returns-clause-most c =
    let items = items_of c.self.inside.records.items in
    let next = c.self.inside.next in
    let is = c.gap_above.ensures
    ∙ ap (λ (l : List Record). gap_from next (number_at (items_of l) c.first_saved-first.result)) c.deref.ensures.value
    ∙ ap (λ (o : Option ℕ). gap_from next (number_at items o)) c.first_saved-first.ensures.first
    ∙ ap (gap_from next) (first_at items c.self.inside.order.saved) ∙ ap gap_first c.self.view_is in
    omega (arith, is, first_most c.args.self.now)

pub returns-clause-rise : goal.returns-clause-rise
returns-clause-rise c rise =
    let items = items_of c.self.inside.records.items in
    let next = c.self.inside.next in
    let is = c.gap_above.ensures
    ∙ ap (λ (l : List Record). gap_from next (number_at (items_of l) c.first_saved-first.result)) c.deref.ensures.value
    ∙ ap (λ (o : Option ℕ). gap_from next (number_at items o)) c.first_saved-first.ensures.first
    ∙ ap (gap_from next) (first_at items c.self.inside.order.saved) ∙ ap gap_first c.self.view_is in
    is ∙ first_risen c.args.self.now (subst (λ (v : SessionsView). ListsThose is_saved_item v.saved v.items) c.self.view_is c.self.invariant.listed.saved) rise
