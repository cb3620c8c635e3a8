use Rattle.std.proofs.Common.{◌≡◌, Bool, List, [], ◌∷◌, map, refl, ap, ◌∙◌}
use Rattle.std.specs.Prelude.{◌||◌}
use Rattle.std.specs.List.{list_any}
use Rattle.object_swap.specs.Items.{Item, ObjectsView, is_kept, keeps_context}
use Rattle.object_swap.specs.Records.{item_of}
use Rattle.object_swap.proofs.swapper.Objects.keeps_context.Goals as goal

any_map : {X Y : Type 0} (p : Y → Bool) (f : X → Y) (xs : List X) → list_any (λ x. p (f x)) xs ≡ list_any p (map f xs)
any_map p f [] = refl
any_map p f (x ∷ xs) = ap (λ (b : Bool). p (f x) || b) (any_map p f xs)

pub returns : goal.returns
returns c =
    let context = c.args.context.now in
    c.any_keeps.ensures
    ∙ ap (list_any (λ r. is_kept context (item_of r).blob)) c.deref.ensures.value
    ∙ any_map (λ (item : Item). is_kept context item.blob) item_of c.self.inside.records.items
    ∙ ap (λ (v : ObjectsView). keeps_context v.items context) c.self.view_is
