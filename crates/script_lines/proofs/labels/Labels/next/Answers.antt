use Rattle.std.proofs.Common.{◌≡◌, Some, sym, ap, ◌∙◌, arith}
use Rattle.std.specs.BTreeMap as tree
use Rattle.std.specs.Ordering.{nat_cmp}
use Rattle.script_lines.specs.declared.label.Label.{Label}
use Rattle.script_lines.proofs.LabelLemmas.{is_mapped_seen, stands, label_same, read_at, read_is, written_seen, written_kept}
use Rattle.script_lines.proofs.labels.Labels.next.Goals as goal

pub unwrap-place-requires : goal.unwrap-place-requires
unwrap-place-requires c = rw (c.copied.ensures, c.get.ensures.value) (is_mapped_seen c.self.inside.items.items c.self.inside.first _ c.self.invariant c.args.self.now c.self.view_is c.args.label c.requires)

pub index_mut-requires : goal.index_mut-requires
index_mut-requires c =
    let place : tree.get nat_cmp c.self.inside.clients c.args.label ≡ Some c.unwrap-place.result =
    sym c.get.ensures.value ∙ sym c.copied.ensures ∙ c.unwrap-place.ensures in
    omega (arith, (stands c.self.inside.items.items c.self.inside.first _ c.self.invariant c.args.label c.unwrap-place.result place).inside, c.self.inside.items.ok.0)

pub next_of_item-requires : goal.next_of_item-requires
next_of_item-requires c =
    let place : tree.get nat_cmp c.self.inside.clients c.args.label ≡ Some c.unwrap-place.result =
    sym c.get.ensures.value ∙ sym c.copied.ensures ∙ c.unwrap-place.ensures in
    rw (read_is c.self.inside.items.items c.self.inside.first _ c.self.invariant c.args.self.now c.self.view_is c.args.label c.unwrap-place.result c.index_mut.result.now place c.index_mut.ensures.value) c.requires

pub invariant_of-self : goal.invariant_of-self
invariant_of-self c =
    let place : tree.get nat_cmp c.self.inside.clients c.args.label ≡ Some c.unwrap-place.result =
    sym c.get.ensures.value ∙ sym c.copied.ensures ∙ c.unwrap-place.ensures in
    let s = stands c.self.inside.items.items c.self.inside.first _ c.self.invariant c.args.label c.unwrap-place.result place in
    let read = read_at c.self.inside.items.items c.self.inside.first _ c.self.invariant c.args.self.now c.self.view_is c.args.label c.unwrap-place.result c.index_mut.result.now place c.index_mut.ensures.value in
    let done = c.next_of_item.ensures s.x read in
    written_kept c.self.inside.items.items c.self.inside.first _ c.self.invariant c.args.self.now c.self.view_is c.args.label c.unwrap-place.result _ _ place s.named s.client_is done.2

pub returns : goal.returns
returns c = λ x found.
    let place : tree.get nat_cmp c.self.inside.clients c.args.label ≡ Some c.unwrap-place.result =
    sym c.get.ensures.value ∙ sym c.copied.ensures ∙ c.unwrap-place.ensures in
    let s = stands c.self.inside.items.items c.self.inside.first _ c.self.invariant c.args.label c.unwrap-place.result place in
    let at = read_at c.self.inside.items.items c.self.inside.first _ c.self.invariant c.args.self.now c.self.view_is c.args.label c.unwrap-place.result c.index_mut.result.now place c.index_mut.ensures.value in
    let read = read_is c.self.inside.items.items c.self.inside.first _ c.self.invariant c.args.self.now c.self.view_is c.args.label c.unwrap-place.result c.index_mut.result.now place c.index_mut.ensures.value ∙ found in
    let done = c.next_of_item.ensures x read in
    let named : x.label ≡ c.args.label = ap (λ (v : Label). v.label) (label_same x s.x (sym read ∙ at)) ∙ s.named in
    (done.0, done.1, written_seen c.self.inside.items.items c.self.inside.first _ c.self.invariant c.args.self.now c.self.view_is c.args.label c.unwrap-place.result x _ _ place found done.2 named)
