use Rattle.std.proofs.Common.{◌≡◌, ◌<◌, Some, refl, sym, ap, ◌∙◌, arith}
use Rattle.std.specs.BTreeMap as tree
use Rattle.std.specs.Ordering.{nat_cmp}
use Rattle.script_lines.specs.declared.label.Label.{Label}
use Rattle.script_lines.proofs.LabelLemmas.{mapped_seen, stands, label_same, read_at, read_is, written_seen, written_kept, client_is}
use Rattle.tab_spec.specs.Count.{largest_count}
use Rattle.script_lines.proofs.labels.Labels.count.Goals as goal

pub unwrap-client-requires : goal.unwrap-client-requires
unwrap-client-requires c = rw (c.copied.ensures, c.get.ensures.value) (mapped_seen c.self.inside.items.items c.self.inside.first _ c.self.invariant c.args.self.now c.self.view_is c.args.label (λ x. x.commands < largest_count) c.requires)

pub index_mut-requires : goal.index_mut-requires
index_mut-requires c =
    let place : tree.get nat_cmp c.self.inside.clients c.args.label ≡ Some c.unwrap-client.result =
    sym c.get.ensures.value ∙ sym c.copied.ensures ∙ c.unwrap-client.ensures in
    omega (arith, (stands c.self.inside.items.items c.self.inside.first _ c.self.invariant c.args.label c.unwrap-client.result place).inside, c.self.inside.items.ok.0)

pub count_item-requires : goal.count_item-requires
count_item-requires c =
    let place : tree.get nat_cmp c.self.inside.clients c.args.label ≡ Some c.unwrap-client.result =
    sym c.get.ensures.value ∙ sym c.copied.ensures ∙ c.unwrap-client.ensures in
    rw (read_is c.self.inside.items.items c.self.inside.first _ c.self.invariant c.args.self.now c.self.view_is c.args.label c.unwrap-client.result c.index_mut.result.now place c.index_mut.ensures.value) c.requires

pub invariant_of-self : goal.invariant_of-self
invariant_of-self c =
    let place : tree.get nat_cmp c.self.inside.clients c.args.label ≡ Some c.unwrap-client.result =
    sym c.get.ensures.value ∙ sym c.copied.ensures ∙ c.unwrap-client.ensures in
    let s = stands c.self.inside.items.items c.self.inside.first _ c.self.invariant c.args.label c.unwrap-client.result place in
    let read = read_at c.self.inside.items.items c.self.inside.first _ c.self.invariant c.args.self.now c.self.view_is c.args.label c.unwrap-client.result c.index_mut.result.now place c.index_mut.ensures.value in
    let done = c.count_item.ensures s.x read in
    written_kept c.self.inside.items.items c.self.inside.first _ c.self.invariant c.args.self.now c.self.view_is c.args.label c.unwrap-client.result _ _ place s.named s.client_is done.1

pub returns : goal.returns
returns c = λ x found.
    let place : tree.get nat_cmp c.self.inside.clients c.args.label ≡ Some c.unwrap-client.result =
    sym c.get.ensures.value ∙ sym c.copied.ensures ∙ c.unwrap-client.ensures in
    let s = stands c.self.inside.items.items c.self.inside.first _ c.self.invariant c.args.label c.unwrap-client.result place in
    let at = read_at c.self.inside.items.items c.self.inside.first _ c.self.invariant c.args.self.now c.self.view_is c.args.label c.unwrap-client.result c.index_mut.result.now place c.index_mut.ensures.value in
    let read = read_is c.self.inside.items.items c.self.inside.first _ c.self.invariant c.args.self.now c.self.view_is c.args.label c.unwrap-client.result c.index_mut.result.now place c.index_mut.ensures.value ∙ found in
    let done = c.count_item.ensures x read in
    let named : x.label ≡ c.args.label = ap (λ (v : Label). v.label) (label_same x s.x (sym read ∙ at)) ∙ s.named in
    (rw (client_is c.self.inside.items.items c.self.inside.first _ c.self.invariant c.args.self.now c.self.view_is c.args.label c.unwrap-client.result x place found, done.0) refl, written_seen c.self.inside.items.items c.self.inside.first _ c.self.invariant c.args.self.now c.self.view_is c.args.label c.unwrap-client.result x _ _ place found done.1 named)
