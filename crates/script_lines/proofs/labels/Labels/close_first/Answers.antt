use Rattle.std.proofs.Common.{refl, sym, ap, ◌∙◌}
use Rattle.script_lines.specs.Labels.{LabelsView}
use Rattle.script_lines.proofs.LabelLemmas.{none_open, is_first}
use Rattle.script_lines.proofs.labels.Labels.close_first.Goals as goal

pub returns-in_err-label : goal.returns-in_err-label
returns-in_err-label c =
    let passed = rw c.deref.ensures.value at c.first_open-self-inside.ensures.closed in
    let there = rw c.deref.ensures.value at c.first_open-self-inside.ensures.there in
    let none = rw c.deref-2.ensures.value at c.in_err-label.ensures in
    rw c.from_residual.ensures (none_open c.self.inside.items.items c.self.inside.first _ c.self.invariant c.args.self.now c.self.view_is c.first_open-self-inside.result passed there none, c.self.view_is)

pub close-requires : goal.close-requires
close-requires c =
    let passed = rw c.deref.ensures.value at c.first_open-self-inside.ensures.closed in
    let named = rw c.deref-2.ensures.value at c.in_ok-label.ensures in
    let first = is_first c.self.inside.items.items c.self.inside.first _ c.self.invariant c.args.self.now c.self.view_is c.first_open-self-inside.result c.in_ok-label.label passed named in
    rw first.found refl

pub returns : goal.returns
returns c =
    let passed = rw c.deref.ensures.value at c.first_open-self-inside.ensures.closed in
    let named = rw c.deref-2.ensures.value at c.in_ok-label.ensures in
    let first = is_first c.self.inside.items.items c.self.inside.first _ c.self.invariant c.args.self.now c.self.view_is c.first_open-self-inside.result c.in_ok-label.label passed named in
    let done = c.close.ensures first.x first.found in (
      first.x,
      first.rest,
      ap (λ (v : LabelsView). v.present) (sym c.self.view_is) ∙ first.open_is,
      done.0,
      done.1 ∙ rw (first.without_is, ap (λ (v : LabelsView). v.opened) c.self.view_is) refl,
    )
