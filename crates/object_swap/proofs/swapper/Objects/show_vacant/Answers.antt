use Rattle.std.proofs.Common.{◌≡◌, ◌∙◌, ℕ, None, true, ap, subst}
use Rattle.object_swap.specs.Items.{ObjectsView, is_nobodys, is_vacant, item_at}
use Rattle.object_swap.proofs.swapper.Objects.show_vacant.Goals as goal

pub returns : goal.returns
returns c =
    subst (λ (v : ObjectsView). (index : ℕ) → (item_at v.items index).client ≡ None → is_vacant (item_at v.items index) ≡ true) c.self.view_is
    (λ index none. c.self.invariant.owned.somebodys index ∙ ap is_nobodys none)
