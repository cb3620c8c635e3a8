use Rattle.std.proofs.Common.{◌≡◌, ◌∙◌, List, ap, subst}
use Rattle.std.specs.Prelude.{Some, MatchOption}
use Rattle.object_swap.specs.Items.{HasNone, Item, Names, ObjectsView, item_at, owner_at}
use Rattle.object_swap.specs.Records.{items_of}
use Rattle.object_swap.proofs.Owned.{first_found}
use Rattle.object_swap.proofs.swapper.Objects.first_by.Goals as goal

pub returns-clause-first : goal.returns-clause-first
returns-clause-first g c client owner =
    let inside = c.self.inside in
    let owner_is = ap (λ (v : ObjectsView). owner_at v.owners c.args.list) c.self.view_is ∙ owner in
    subst (λ (l : List Item). MatchOption c.first.result (HasNone l client) (λ item. Names l item × ((item_at l item).client ≡ Some client)))
    (ap (λ (v : ObjectsView). v.items) c.self.view_is)
    (first_found (items_of inside.records.items) inside.lists inside.owners.owners inside.vacant c.self.invariant.owned c.args.list client owner_is
    c.first.result c.first.ensures.first)
