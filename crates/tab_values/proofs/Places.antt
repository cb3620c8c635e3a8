-- NV indexes as they are kept, and as they are seen.
use Rattle.std.proofs.Common.{◌≡◌, ◌+◌, ◌<◌, ◌≤◌, ℕ, suc, Bool, true, false, cond, eqb, ltb, List, [], ◌∷◌, length, set, get_or, map, take, drop, refl, ap, sym, subst, ◌∙◌, arith}
use Rattle.std.specs.Prelude.{Option, Some, None, not, IfSome, MatchOption}
use Rattle.std.specs.Option.{option_map}
use denote.Ref.{Bor}
use Rattle.std.specs.List.{position_or_len, remove, find}
use Rattle.std.proofs.lemmas.List.{take-map, drop-map, map-append, map-set, get_or-map, length-map}
use Rattle.std.proofs.lemmas.Bool.{cond_both, ltb-true, ltb-false}
use Rattle.tab_spec.specs.NvIndex as nv_index
use Rattle.tab_spec.specs.NvIndex.{IsNvIndex, index_in, without_index, with_index}
use Rattle.tab_laws.proofs.Indexes.{place_of, Stands, stands, removed, replaced}
use Rattle.tab_values.specs.declared.nv_index.NvIndex.{NvIndex}
use Rattle.tab_values.specs.Views.{nv_index_of}

-- whether a kept index has this handle
abbrev pub has_handle : ℕ → NvIndex → Bool
has_handle index item = eqb item.public.index index

found_by : (is : Bool) (item : NvIndex) (found : Option NvIndex) → cond is (Some (nv_index_of item)) (option_map nv_index_of found) ≡ option_map nv_index_of (cond is (Some item) found)
found_by true item found = refl
found_by false item found = refl

pub found_shown : (index : ℕ) (items : List NvIndex) → index_in index (map nv_index_of items) ≡ option_map nv_index_of (find (has_handle index) items)
found_shown index [] = refl
found_shown index (item ∷ items) = rw (found_shown index items) (found_by (has_handle index item) item (find (has_handle index) items))

-- what a search answers by reference
pub told_found : (answer : Option (Bor NvIndex)) (found : Option nv_index.NvIndex) → found ≡ option_map nv_index_of (option_map (λ (b : Bor NvIndex). b.now) answer)
    → MatchOption answer (found ≡ None) (λ item. found ≡ Some (nv_index_of item.now))
told_found None found is = is
told_found (Some item) found is = is

pub sound_found : (answer : Option (Bor NvIndex)) (found : Option nv_index.NvIndex) → found ≡ option_map nv_index_of (option_map (λ (b : Bor NvIndex). b.now) answer)
    → IfSome found IsNvIndex → IfSome answer (λ item. IsNvIndex (nv_index_of item.now))
sound_found None found is sound = tt
sound_found (Some item) found is sound = subst (λ (o : Option nv_index.NvIndex). IfSome o IsNvIndex) is sound

pub place_shown : (index : ℕ) (items : List NvIndex) → place_of index (map nv_index_of items) ≡ position_or_len (has_handle index) items
place_shown index [] = refl
place_shown index (item ∷ items) = ap (λ (n : ℕ). cond (not (has_handle index item)) (1 + n) 0) (place_shown index items)

pub removed_shown : (items : List NvIndex) (place : ℕ) → map nv_index_of (remove items place) ≡ remove (map nv_index_of items) place
removed_shown items place =
    map-append nv_index_of (take place items) (drop (suc place) items)
    ∙ rw (take-map nv_index_of place items, drop-map nv_index_of (suc place) items) refl

-- what a search for the place answers
absent_at : (found : Option nv_index.NvIndex) (nv : List nv_index.NvIndex) (place : ℕ) → Stands found nv place → length nv ≤ place → found ≡ None
absent_at None nv place stands past = refl
absent_at (Some item) nv place stands past = absurd (omega (arith, stands.0))

pub place_told : (index : ℕ) (nv : List nv_index.NvIndex) (place size : ℕ) → place ≡ place_of index nv → size ≡ length nv
    → MatchOption (cond (ltb place size) (Some place) None) (index_in index nv ≡ None) (λ p. (p < length nv) × (p ≡ place_of index nv))
place_told index nv place size is count =
    cond_both (ltb place size) (Some place) None (λ answer. MatchOption answer (index_in index nv ≡ None) (λ p. (p < length nv) × (p ≡ place_of index nv)))
    (λ within. (omega (arith, ltb-true place size within), is))
    (λ past. absent_at (index_in index nv) nv (place_of index nv) (stands index nv) (omega (arith, ltb-false place size past)))

-- the index at its place
at_stand : (found : Option nv_index.NvIndex) (nv : List nv_index.NvIndex) (place : ℕ) (item : nv_index.NvIndex) → Stands found nv place → place < length nv
    → get_or nv place item ≡ item → found ≡ Some item
at_stand None nv place item stands within at = absurd (omega (arith, stands, within))
at_stand (Some found) nv place item stands within at = ap (λ (x : nv_index.NvIndex). Some x) (sym (stands.1 item) ∙ at)

pub item_at : (index : ℕ) (items : List NvIndex) (place : ℕ) (item : NvIndex) → place < length items → place ≡ place_of index (map nv_index_of items)
    → item ≡ get_or items place item → index_in index (map nv_index_of items) ≡ Some (nv_index_of item)
item_at index items place item within is at =
    let nv = map nv_index_of items in
    at_stand (index_in index nv) nv place (nv_index_of item) (subst (Stands (index_in index nv) nv) (sym is) (stands index nv)) (omega (arith, length-map items nv_index_of))
    (get_or-map nv_index_of items place item (nv_index_of item) within ∙ ap nv_index_of (sym at))

pub item_seen : (index : ℕ) (items : List NvIndex) (nv : List nv_index.NvIndex) (place : ℕ) (item : NvIndex) → map nv_index_of items ≡ nv
    → place < length nv → place ≡ place_of index nv → item ≡ get_or items place item → index_in index nv ≡ Some (nv_index_of item)
item_seen index items nv place item seen within is at =
    subst (λ (xs : List nv_index.NvIndex). index_in index xs ≡ Some (nv_index_of item)) seen
    (item_at index items place item (omega (arith, ap length seen, length-map items nv_index_of, within)) (is ∙ ap (place_of index) (sym seen)) at)

-- what is left behind a change at that place
pub without_shown : (index : ℕ) (items : List NvIndex) (place : ℕ) → place ≡ place_of index (map nv_index_of items)
    → map nv_index_of (remove items place) ≡ without_index index (map nv_index_of items)
without_shown index items place is =
    removed_shown items place ∙ ap (remove (map nv_index_of items)) is ∙ removed index (map nv_index_of items)

pub with_shown : (index : ℕ) (items : List NvIndex) (place : ℕ) (new : NvIndex) → place ≡ place_of index (map nv_index_of items)
    → map nv_index_of (set items place new) ≡ with_index index (nv_index_of new) (map nv_index_of items)
with_shown index items place new is =
    map-set nv_index_of items place new ∙ ap (λ (p : ℕ). set (map nv_index_of items) p (nv_index_of new)) is ∙ replaced index (nv_index_of new) (map nv_index_of items)
