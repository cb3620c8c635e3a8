use Rattle.std.proofs.Common.{◌∙◌, ℕ, List, ap, subst, sym}
use Rattle.std.specs.Prelude.{Option}
use Rattle.object_swap.specs.Items.{HasNone, Item, ObjectsView, owner_at}
use Rattle.object_swap.specs.Records.{IsOwnedBy, items_of}
use Rattle.object_swap.proofs.Owned.{owned_ended}
use Rattle.object_swap.proofs.swapper.Objects.end_client.Goals as goal

pub invariant_of-self : goal.invariant_of-self
invariant_of-self c =
    let inside = c.self.inside in
    let items = ap (λ (v : ObjectsView). v.items) c.self.view_is in
    let client = c.requires.0 in
    let owner = ap (λ (v : ObjectsView). owner_at v.owners c.args.list) c.self.view_is ∙ c.requires.1 in
    record {
      owned = subst (λ (l : List (Option ℕ)). IsOwnedBy (items_of inside.records.items) inside.lists l inside.vacant) (sym c.end.ensures)
          (owned_ended (items_of inside.records.items) inside.lists inside.owners.owners inside.vacant c.self.invariant.owned c.args.list client owner
          (subst (λ (l : List Item). HasNone l client) (sym items) c.requires.2));
      held = c.self.invariant.held;
    }
