-- Items by number, the handles that name them, and loaded sessions among those that are needed: there are no more of them.
use Rattle.std.proofs.Common.{◌≡◌, ◌≢◌, ◌<◌, ◌≤◌, inl, inr, ℕ, zero, suc, Bool, true, false, List, [], ◌∷◌, length, get_or, set, refl, ap, subst, sym, ◌∙◌, arith}
use Rattle.std.specs.Prelude.{◌==◌, not, Option, Some, None, is_some, if◌then◌else◌}
use Rattle.std.proofs.lemmas.Bool.{false≢true, not-false, cases_eq, cases_lt}
use Rattle.std.proofs.lemmas.List.{get_or_past, get_or-set_same, get_or-set_other}
use Rattle.std.proofs.lemmas.List.Elements.{All-from_recursion}
use Rattle.tab_spec.specs.Shape.{number_of_session}
use Rattle.session_swap.specs.Items.{AreLoaded, AreNamed, Holder, Item, Names, holder_of, holders, is_loaded_item, is_saved_item, item_at, item_of, with_handle}

-- ---- the item of a handle

by_test : (item : Option Item) (test : Bool) → is_some (if test then item else None) ≡ true → (if test then item else None) ≡ item
by_test item true is = refl
by_test item false is = absurd cc

with_named : (handle : ℕ) (item : Option Item) → is_some (with_handle handle item) ≡ true → with_handle handle item ≡ item
with_named handle None is = absurd cc
with_named handle (Some item) is = by_test (Some item) (item.handle == handle) is

-- a handle that names a session finds the item of its number
pub named_is : (items : List (Option Item)) (handle : ℕ) → Names items handle
    → item_of items handle ≡ item_at items (number_of_session handle)
named_is items handle names = with_named handle (item_at items (number_of_session handle)) names

pub named_some : (items : List (Option Item)) (handle : ℕ) → Names items handle
    → is_some (item_at items (number_of_session handle)) ≡ true
named_some items handle names = ap (λ (o : Option Item). is_some o) (sym (named_is items handle names)) ∙ names

none_past : (items : List (Option Item)) (number : ℕ) → length items ≤ number → is_some (item_at items number) ≡ false
none_past items number past = ap (λ (o : Option Item). is_some o) (get_or_past items number None past)

pub some_inside : (items : List (Option Item)) (number : ℕ) → is_some (item_at items number) ≡ true → number < length items
some_inside items number there =
    elim (cases_lt number (length items)) [
      | inl inside ↦ inside
      | inr past ↦ absurd (false≢true (sym (none_past items number past) ∙ there))
    ]

pub named_inside : (items : List (Option Item)) (handle : ℕ) → Names items handle → number_of_session handle < length items
named_inside items handle names = some_inside items (number_of_session handle) (named_some items handle names)

pub loaded_some : (item : Option Item) → is_loaded_item item ≡ true → is_some item ≡ true
loaded_some None is = absurd cc
loaded_some (Some item) is = refl

pub loaded_inside : (items : List (Option Item)) (number : ℕ) → is_loaded_item (item_at items number) ≡ true
    → number < length items
loaded_inside items number is = some_inside items number (loaded_some (item_at items number) is)

saved_some : (item : Option Item) → is_saved_item item ≡ true → is_some item ≡ true
saved_some None is = absurd cc
saved_some (Some item) is = refl

pub saved_inside : (items : List (Option Item)) (number : ℕ) → is_saved_item (item_at items number) ≡ true → number < length items
saved_inside items number is = some_inside items number (saved_some (item_at items number) is)

-- a saved session isn't loaded
pub not_loaded : (item : Option Item) → is_saved_item item ≡ true → is_loaded_item item ≡ false
not_loaded None is = refl
not_loaded (Some item) is = ap not is

-- and one that isn't loaded is saved
pub saved_or : (item : Option Item) → is_some item ≡ true → is_loaded_item item ≡ false → is_saved_item item ≡ true
saved_or None there is = absurd cc
saved_or (Some item) there is = not-false (is_some item.saved) is

whole_by : (item : Option Item) (test : Bool) → is_loaded_item (if test then item else None) ≡ true → is_loaded_item item ≡ true
whole_by item true is = is
whole_by item false is = absurd cc

pub loaded_whole : (handle : ℕ) (item : Option Item) → is_loaded_item (with_handle handle item) ≡ true
    → is_loaded_item item ≡ true
loaded_whole handle None is = absurd cc
loaded_whole handle (Some item) is = whole_by (Some item) (item.handle == handle) is

-- ---- whose each is stays

named_by : ℕ → Option Holder → Bool
named_by handle None = false
named_by handle (Some holder) = holder.handle == handle

pub some_by : (item : Item) (test : Bool) → is_some (if test then Some item else None) ≡ test
some_by item true = refl
some_by item false = refl

named_holder : (handle : ℕ) (item : Option Item) → is_some (with_handle handle item) ≡ named_by handle (holder_of item)
unfolding named_by
named_holder handle None = refl
named_holder handle (Some item) = some_by item (item.handle == handle)

holder_at : (items : List (Option Item)) (number : ℕ) → get_or (holders items) number None ≡ holder_of (item_at items number)
holder_at [] number = refl
holder_at (item ∷ items) zero = refl
holder_at (item ∷ items) (suc number) = holder_at items number

pub holder_again : (items new_items : List (Option Item)) (number : ℕ) → holders new_items ≡ holders items
    → holder_of (item_at new_items number) ≡ holder_of (item_at items number)
holder_again items new_items number same =
    sym (holder_at new_items number) ∙ ap (λ (l : List (Option Holder)). get_or l number None) same ∙ holder_at items number

pub named_again : (items new_items : List (Option Item)) (handle : ℕ) → holders new_items ≡ holders items → Names items handle
    → Names new_items handle
named_again items new_items handle same names =
    let number = number_of_session handle in
    named_holder handle (item_at new_items number) ∙ ap (named_by handle) (holder_again items new_items number same)
    ∙ sym (named_holder handle (item_at items number)) ∙ names

pub all_named : (needed : List ℕ) (items new_items : List (Option Item)) → holders new_items ≡ holders items
    → AreNamed needed items → AreNamed needed new_items
all_named [] items new_items same named = tt
all_named (n ∷ needed) items new_items same named =
    (named_again items new_items n same named.0, all_named needed items new_items same named.1)

pub needed_named : (needed : List ℕ) (items : List (Option Item)) (k d : ℕ) → AreNamed needed items → k < length needed
    → Names items (get_or needed k d)
needed_named needed items k d named inside = All-from_recursion (λ (handle : ℕ). Names items handle) needed named k d inside

pub all_loaded : (needed : List ℕ) (items : List (Option Item))
    → ((k : ℕ) → k < length needed → is_loaded_item (item_of items (get_or needed k 0)) ≡ true) → AreLoaded needed items
all_loaded [] items each = tt
all_loaded (n ∷ needed) items each = (each 0 (omega arith), all_loaded needed items (λ k inside. each (suc k) (omega arith)))

-- what holds of every item holds with one of them changed
pub set_each : (P : ℕ → Option Item → Type 0) (items : List (Option Item)) (number : ℕ) (item : Option Item)
    → number < length items
    → ((j : ℕ) → j ≢ number → P j (item_at items j)) → P number item → (j : ℕ) → P j (item_at (set items number item) j)
set_each P items number item inside others this j =
    elim (cases_eq j number) [
      | inl same ↦ subst (λ (n : ℕ). P n (item_at (set items number item) n)) (sym same)
          (subst (λ (o : Option Item). P number o) (sym (get_or-set_same items number item None inside)) this)
      | inr apart ↦ subst (λ (o : Option Item). P j o) (sym (get_or-set_other items number j item None apart)) (others j apart)
    ]
