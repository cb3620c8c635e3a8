use Rattle.std.proofs.Common.{◌≡◌, ◌<◌, ◌^◌, ℕ, List, None, length, ap, ◌∙◌, arith, rules}
use Rattle.std.specs.BTreeMap as tree
use Rattle.std.specs.Ordering.{nat_cmp}
use Rattle.script_lines.specs.declared.label.Label.{Label}
use Rattle.script_lines.specs.Labels.{LabelsView}
use Rattle.script_lines.proofs.LabelLemmas.{not_mapped_seen, kept_opened, opened_seen}
use Rattle.script_lines.proofs.labels.Labels.open.Goals as goal

pub invariant_of-self-2 : goal.invariant_of-self-2
invariant_of-self-2 c =
    let long : c.len-client.result ≡ length c.self.inside.items.items = search rules in
    let fresh : tree.get nat_cmp c.self.inside.clients c.args.label ≡ None = not_mapped_seen c.self.inside.items.items c.self.inside.first _ c.self.invariant c.args.self.now c.self.view_is c.args.label c.requires.new in
    let few : length c.self.inside.items.items < 2 ^ 32 = omega (arith, ap (λ (v : LabelsView). v.opened) c.self.view_is, c.requires.few) in
    rw (c.push_reserved.ensures.items, c.reserve.ensures.items)
    (kept_opened c.self.inside.items.items c.self.inside.first _ c.self.invariant _ _ long fresh few (λ q. rw long at (c.in_ok-insert.ensures.updates.0 q)))

pub returns-clause-ok : goal.returns-clause-ok
returns-clause-ok c =
    let long : c.len-client.result ≡ length c.self.inside.items.items = search rules in
    let labelled : List ℕ → Label = λ k. record { label = c.args.label; client = c.len-client.result; commands = 0; kept = k } in (
      long ∙ ap (λ (v : LabelsView). v.opened) c.self.view_is,
      rw (c.push_reserved.ensures.items, c.reserve.ensures.items) (opened_seen c.self.inside.items.items c.self.inside.first _ c.self.invariant c.args.self.now c.self.view_is _ _ (ap labelled c.in_ok-kept.ensures)),
    )
