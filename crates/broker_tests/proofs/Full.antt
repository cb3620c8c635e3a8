-- Swappers in which each item is an object.
use Rattle.std.proofs.Common.{◌≡◌, ◌+◌, ◌<◌, ℕ, zero, suc, Bool, true, false, List, [], ◌∷◌, ◌++◌, length, get_or, set, map, refl, ap, subst, sym, ◌∙◌, ◌⊎◌, inl, inr, arith, length-append, length-set}
use Rattle.std.specs.Prelude.{◌||◌, Option, None, Result, Ok, Err, is_err, OnOk, OnErr}
use Rattle.std.specs.List.{AllByRecursion, list_any}
use Rattle.std.proofs.lemmas.Bool.{or_from, or_parts}
use Rattle.std.proofs.lemmas.List.{get_or-set_same, length-map}
use Rattle.object_swap.specs.Items.{AreThere, Item, Names, is_vacant, item_at, no_item, owners}

any_owner : (items : List Item) → list_any (λ p. p.1) (owners items) ≡ list_any is_vacant items
any_owner [] = refl
any_owner (item ∷ items) = ap (λ (b : Bool). is_vacant item || b) (any_owner items)

pub full_again : (items new_items : List Item) → owners new_items ≡ owners items → list_any is_vacant items ≡ false → list_any is_vacant new_items ≡ false
full_again items new_items same full = sym (any_owner new_items) ∙ ap (list_any (λ (p : Option ℕ × Bool). p.1)) same ∙ any_owner items ∙ full

pub same_count : (items new_items : List Item) → owners new_items ≡ owners items → length new_items ≡ length items
same_count items new_items same =
    omega (
      arith,
      ap (λ (l : List (Option ℕ × Bool)). length l) same,
      length-map {B = Option ℕ × Bool} items (λ (item : Item). (item.client, is_vacant item)),
      length-map {B = Option ℕ × Bool} new_items (λ (item : Item). (item.client, is_vacant item)),
    )

-- the one vacant item is filled
pub filled : (items : List Item) (at : ℕ) (item : Item) → list_any is_vacant items ≡ false → at < length (items ++ no_item ∷ [])
    → is_vacant (item_at (items ++ no_item ∷ []) at) ≡ true → is_vacant item ≡ false → list_any is_vacant (set (items ++ no_item ∷ []) at item) ≡ false
filled [] zero item full inside vacant there = or_from (is_vacant item) false there refl
filled [] (suc at) item full inside vacant there = absurd (omega arith)
filled (x ∷ items) zero item full inside vacant there = absurd (let no = (or_parts (is_vacant x) (list_any is_vacant items) full).0 in cc)
filled (x ∷ items) (suc at) item full inside vacant there =
    let parts = or_parts (is_vacant x) (list_any is_vacant items) full in
    or_from (is_vacant x) (list_any is_vacant (set (items ++ no_item ∷ []) at item)) parts.0
    (filled items at item parts.1 (omega arith) vacant there)

-- with room, there is one vacant item more
pub one_more : (items new_items : List Item) → list_any is_vacant items ≡ false → list_any is_vacant new_items ≡ true
    → (new_items ≡ items) ⊎ (list_any is_vacant items ≡ false) × (new_items ≡ items ++ no_item ∷ []) → new_items ≡ items ++ no_item ∷ []
one_more items new_items full room (inl same) = absurd (let no = ap (list_any is_vacant) same in cc)
one_more items new_items full room (inr more) = more.1

pub full_at : (items : List Item) (at : ℕ) → list_any is_vacant items ≡ false → at < length items → is_vacant (item_at items at) ≡ false
full_at [] at full inside = absurd (omega arith)
full_at (x ∷ items) zero full inside = (or_parts (is_vacant x) (list_any is_vacant items) full).0
full_at (x ∷ items) (suc at) full inside = full_at items at (or_parts (is_vacant x) (list_any is_vacant items) full).1 (omega arith)

pub all_there : (needed : List ℕ) (items : List Item) → list_any is_vacant items ≡ false → AllByRecursion (λ item. item < length items) needed → AreThere needed items
all_there [] items full inside = tt
all_there (n ∷ needed) items full inside =
    (record { inside = inside.0; there = full_at items n full inside.0 }, all_there needed items full inside.1)

at_owner : (items : List Item) (index : ℕ) → (get_or (owners items) index (None, true)).1 ≡ is_vacant (item_at items index)
at_owner [] index = refl
at_owner (item ∷ items) zero = refl
at_owner (item ∷ items) (suc index) = at_owner items index

-- an object that was there is there, where each has its owner still
pub still_there : (items new_items : List Item) (index : ℕ) → owners new_items ≡ owners items → Names items index → AreThere (index ∷ []) new_items
still_there items new_items index same names = (
  record {
    inside = omega (arith, same_count items new_items same, names.inside);
    there = sym (at_owner new_items index) ∙ ap (λ (l : List (Option ℕ × Bool)). (get_or l index (None, true)).1) same ∙ at_owner items index ∙ names.there;
  },
  tt,
)

-- an object that was put there is
pub put_there : (items new_items : List Item) (index : ℕ) (item : Item) → new_items ≡ set items index item → index < length items → is_vacant item ≡ false
    → Names new_items index
put_there items new_items index item is inside there = record {
  inside = omega (arith, ap (λ (l : List Item). length l) is, length-set items index item, inside);
  there = ap (λ (l : List Item). is_vacant (item_at l index)) is ∙ ap is_vacant (get_or-set_same items index item no_item inside) ∙ there;
}

pub from_ok : {A E : Type 0} (r : Result A E) (P : Type 0) → OnOk r P → is_err r ≡ false → P
from_ok (Ok x) P p e = p
from_ok (Err x) P p e = absurd cc

pub from_err : {A E : Type 0} (r : Result A E) (P : Type 0) → OnErr r P → is_err r ≡ true → P
from_err (Ok x) P p e = absurd cc
from_err (Err x) P p e = p
