use Rattle.std.proofs.Common.{◌≡◌, Some, sym, ◌∙◌, arith}
use Rattle.std.specs.BTreeMap as tree
use Rattle.std.specs.Ordering.{nat_cmp}
use Rattle.script_lines.proofs.LabelLemmas.{is_mapped_seen, stands, kept_closed, client_is, closed_seen}
use Rattle.script_lines.proofs.labels.Labels.close.Goals as goal

pub unwrap-client-requires : goal.unwrap-client-requires
unwrap-client-requires c = rw c.remove.ensures.value (is_mapped_seen c.self.inside.items.items c.self.inside.first _ c.self.invariant c.args.self.now c.self.view_is c.args.label c.requires)

pub index_mut-requires : goal.index_mut-requires
index_mut-requires c =
    let place : tree.get nat_cmp c.self.inside.clients c.args.label ≡ Some c.unwrap-client.result =
    sym c.remove.ensures.value ∙ c.unwrap-client.ensures in
    omega (arith, (stands c.self.inside.items.items c.self.inside.first _ c.self.invariant c.args.label c.unwrap-client.result place).inside, c.self.inside.items.ok.0)

pub invariant_of-self : goal.invariant_of-self
invariant_of-self c =
    let place : tree.get nat_cmp c.self.inside.clients c.args.label ≡ Some c.unwrap-client.result =
    sym c.remove.ensures.value ∙ c.unwrap-client.ensures in
    kept_closed c.self.inside.items.items c.self.inside.first _ c.self.invariant c.args.label c.unwrap-client.result _ place c.remove.ensures.updates.0

pub returns : goal.returns
returns c = λ x found.
    let place : tree.get nat_cmp c.self.inside.clients c.args.label ≡ Some c.unwrap-client.result =
    sym c.remove.ensures.value ∙ c.unwrap-client.ensures in
    (client_is c.self.inside.items.items c.self.inside.first _ c.self.invariant c.args.self.now c.self.view_is c.args.label c.unwrap-client.result x place found, closed_seen c.self.inside.items.items c.self.inside.first _ c.self.invariant c.args.self.now c.self.view_is c.args.label c.unwrap-client.result place)
