use Rattle.std.proofs.Common.{◌≡◌, ◌<◌, ◌+◌, Some, length, sym, ◌∙◌, arith}
use Rattle.std.specs.BTreeMap as tree
use Rattle.std.specs.Ordering.{nat_cmp}
use Rattle.script_lines.proofs.LabelLemmas.{mapped_seen, stands, read_is}
use Rattle.tab_spec.specs.Count.{largest_count}
use Rattle.script_lines.proofs.labels.Labels.canceled_up_to.Goals as goal

pub unwrap-place-requires : goal.unwrap-place-requires
unwrap-place-requires c = rw (c.copied.ensures, c.get.ensures.value)
    (mapped_seen c.self.inside.items.items c.self.inside.first _ c.self.invariant c.args.self.now c.self.view_is c.args.label (λ x. x.commands + length x.kept + length c.args.piece.now < largest_count) c.requires)

pub index-requires : goal.index-requires
index-requires c =
    let place : tree.get nat_cmp c.self.inside.clients c.args.label ≡ Some c.unwrap-place.result =
    sym c.get.ensures.value ∙ sym c.copied.ensures ∙ c.unwrap-place.ensures in
    omega (arith, (stands c.self.inside.items.items c.self.inside.first _ c.self.invariant c.args.label c.unwrap-place.result place).inside, c.self.inside.items.ok.0)

pub item_canceled_up_to-requires : goal.item_canceled_up_to-requires
item_canceled_up_to-requires c =
    let place : tree.get nat_cmp c.self.inside.clients c.args.label ≡ Some c.unwrap-place.result =
    sym c.get.ensures.value ∙ sym c.copied.ensures ∙ c.unwrap-place.ensures in
    rw (read_is c.self.inside.items.items c.self.inside.first _ c.self.invariant c.args.self.now c.self.view_is c.args.label c.unwrap-place.result c.index.result.now place c.index.ensures) c.requires

pub returns : goal.returns
returns c = λ x found.
    let place : tree.get nat_cmp c.self.inside.clients c.args.label ≡ Some c.unwrap-place.result =
    sym c.get.ensures.value ∙ sym c.copied.ensures ∙ c.unwrap-place.ensures in
    c.item_canceled_up_to.ensures x (read_is c.self.inside.items.items c.self.inside.first _ c.self.invariant c.args.self.now c.self.view_is c.args.label c.unwrap-place.result c.index.result.now place c.index.ensures ∙ found)
