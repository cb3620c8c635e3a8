-- The place is taken.
use Rattle.std.proofs.Common.{◌≡◌, Some, ap, rules, ◌∙◌}
use Rattle.history_spec.specs.Table.{held_under}
use Rattle.virtual_handles.proofs.Kept.{Held, held_there, is_taken, counted_removed}
use Rattle.virtual_handles.proofs.table.ClientTable.remove.Goals as goal

pub overflow_sub-self : goal.overflow_sub-self
overflow_sub-self c =
    let there : Some c.in_ok-item.item ≡ held_under c.self.inside.places.items c.args.handle =
    c.in_ok-item.ensures ∙ ap (λ places. held_under places c.args.handle) c.deref.ensures.value in
    let held : Held c.self.inside.places.items c.number_of-number.result =
    held_there c.self.inside.places.items c.args.handle c.number_of-number.result c.in_ok-item.item there c.number_of-number.ensures in
    let told = is_taken c.self.inside.places.items c.self.inside.taken c.self.inside.held c.number_of-number.result c.self.invariant c.self.told held.within held.there in
    told.count

pub invariant_of-self : goal.invariant_of-self
invariant_of-self c =
    let there : Some c.in_ok-item.item ≡ held_under c.self.inside.places.items c.args.handle =
    c.in_ok-item.ensures ∙ ap (λ places. held_under places c.args.handle) c.deref.ensures.value in
    let held : Held c.self.inside.places.items c.number_of-number.result =
    held_there c.self.inside.places.items c.args.handle c.number_of-number.result c.in_ok-item.item there c.number_of-number.ensures in
    counted_removed c.self.inside.places.items c.self.inside.taken c.self.inside.held c.number_of-number.result c.self.invariant c.self.told held.within held.there

pub returns-clause-items : goal.returns-clause-items
returns-clause-items c = search rules
