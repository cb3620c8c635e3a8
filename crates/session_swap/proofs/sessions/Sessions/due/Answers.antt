use Rattle.std.proofs.Common.{◌∙◌, ℕ, List, ap, arith}
use Rattle.std.specs.Prelude.{Some}
use Rattle.device_spec.specs.Slots.{gap_from}
use Rattle.session_swap.specs.declared.record.Record.{Record}
use Rattle.session_swap.specs.Items.{SessionsView, number_at}
use Rattle.session_swap.specs.Records.{items_of}
use Rattle.session_swap.proofs.Firsts.{first_gap, first_most}
use Rattle.session_swap.proofs.sessions.Sessions.due.Goals as goal

pub returns-clause-due : goal.returns-clause-due
returns-clause-due g c =
    let view = c.args.self.now in
    let first = c.in_ok-handle.ensures.oldest in
    let is = c.gap_above.ensures
    ∙ ap (λ (l : List Record). gap_from c.self.inside.next (number_at (items_of l) (Some c.number_of.result))) c.deref.ensures.value
    ∙ ap (λ (v : SessionsView). gap_from v.next (number_at v.items (Some c.number_of.result))) c.self.view_is
    ∙ ap (λ (n : ℕ). gap_from view.next (number_at view.items (Some n))) c.number_of.ensures
    ∙ first_gap view c.in_ok-handle.handle first.first in
    (first, omega (arith, is, first_most view, c.renewal_gap.ensures, c.if-gap_above-renewal_gap.false))
