-- What a device that tells its state has of the numbers of saved sessions: those that are kept, and so the same gap.
use Rattle.std.proofs.Common.{◌≡◌, ◌≢◌, ◌+◌, ◌-◌, ◌<◌, ◌≤◌, inl, inr, ℕ, zero, suc, Bool, true, List, [], ◌∷◌, length, get_or, refl, ap, sym, ◌∙◌, arith}
use Rattle.std.specs.Prelude.{◌==◌, Option, Some, None, is_some, IfSome}
use Rattle.std.specs.List.{count_by, list_any}
use Rattle.std.proofs.lemmas.Bool.{cases_eq, cases_lt, eq-eqb}
use Rattle.std.proofs.lemmas.List.{get_or_past}
use Rattle.std.proofs.lemmas.List.Elements.{All-from_recursion}
use Rattle.std.proofs.lemmas.List.Folds.{list_any_at}
use Rattle.std.proofs.lemmas.Option.{none-some, same_Some}
use Rattle.device_spec.specs.Slots.{SessionPlace, SlotState, IsPlace, IsSlots, inactive, loaded, saved, gap_from, gap_of, is_active, is_loaded, is_saved_as, number_saved, oldest_saved}
use Rattle.session_swap.specs.Items.{IsPlaceOf, Item, ItemStands, Saved, SessionsStand, SessionsView, flag, gap_kept, is_saved_item, item_at, number_of_item, oldest_number, place_at, saved_number}
use Rattle.session_swap.proofs.Counts.{count_cons, count_one, flag_true}
use Rattle.session_swap.proofs.Gaps.{items_least, least_same, places_least}

-- ---- the number of an item is that of its place

unsaved : (place : SessionPlace) → is_loaded place ≡ true → number_saved place ≡ None
unsaved inactive is = absurd cc
unsaved (loaded octet s) is = refl
unsaved (saved octet number) is = absurd cc

unused : (place : SessionPlace) → 0 ≡ flag (is_active place) → number_saved place ≡ None
unused inactive is = refl
unused (loaded octet s) is = refl
unused (saved octet number) is = absurd (omega arith)

pub by_saved : (handle : ℕ) (last : Option Saved) (place : SessionPlace) → IsPlaceOf handle last place → number_saved place ≡ saved_number last
by_saved handle None place is = unsaved place is
by_saved handle (Some last) place is = ap number_saved is

by_item : (slots : SlotState) (number : ℕ) (item : Option Item) → IfSome item (λ item. ItemStands slots number item)
    → flag (is_some item) + count_by (λ other. other == number) [] ≡ flag (is_active (place_at slots number))
    → number_saved (place_at slots number) ≡ number_of_item item
by_item slots number None stands owned = unused (place_at slots number) owned
by_item slots number (Some item) stands owned = by_saved item.handle item.saved (place_at slots number) stands.place

pub number_told : (slots : SlotState) (view : SessionsView) → SessionsStand slots view [] → (number : ℕ)
    → number_saved (place_at slots number) ≡ number_of_item (item_at view.items number)
number_told slots view stand number = by_item slots number (item_at view.items number) (stand.each number) (stand.owned number)

pub oldest_told : (slots : SlotState) (view : SessionsView) → SessionsStand slots view [] → oldest_saved slots.sessions ≡ oldest_number view.items
oldest_told slots view stand =
    least_same (λ number. number_saved (place_at slots number)) (λ number. number_of_item (item_at view.items number)) (oldest_saved slots.sessions)
    (oldest_number view.items) (number_told slots view stand) (places_least slots.sessions) (items_least view.items)

-- ---- the gap

is_saved_last : (last : Option Saved) (n : ℕ) → saved_number last ≡ Some n → is_some last ≡ true
is_saved_last None n is = absurd (none-some n is)
is_saved_last (Some last) n is = refl

pub is_saved_with : (item : Option Item) (n : ℕ) → number_of_item item ≡ Some n → is_saved_item item ≡ true
is_saved_with None n is = absurd (none-some n is)
is_saved_with (Some item) n is = is_saved_last item.saved n is

number_kept : (last : Option Saved) → is_some last ≡ true → (n : ℕ) × (saved_number last ≡ Some n)
number_kept None is = absurd cc
number_kept (Some last) is = (last.number, refl)

-- a saved session has a number
pub has_last : (item : Option Item) → is_saved_item item ≡ true → (n : ℕ) × (number_of_item item ≡ Some n)
has_last None is = absurd cc
has_last (Some item) is = number_kept item.saved is

pub number_inside : (items : List (Option Item)) (number n : ℕ) → number_of_item (item_at items number) ≡ Some n → number < length items
number_inside items number n is =
    elim (cases_lt number (length items)) [
      | inl inside ↦ inside
      | inr past ↦ absurd (none-some n (sym (ap number_of_item (get_or_past items number None past)) ∙ is))
    ]

some_saved : (items : List (Option Item)) (n : ℕ) → oldest_number items ≡ Some n → list_any is_saved_item items ≡ true
some_saved items n is =
    let there = (items_least items).there n is in
    list_any_at is_saved_item items there.0 None (number_inside items there.0 n there.1) (is_saved_with (item_at items there.0) n there.1)

gap_by : (next counter : ℕ) (oldest : Option ℕ) → ((n : ℕ) → oldest ≡ Some n → next ≡ counter) → gap_from next oldest ≡ gap_from counter oldest
gap_by next counter None same = refl
gap_by next counter (Some n) same = ap (λ (c : ℕ). c - n) (same n refl)

pub gap_told : (slots : SlotState) (view : SessionsView) → SessionsStand slots view [] → gap_kept view ≡ gap_of slots
gap_told slots view stand =
    gap_by view.next slots.counter (oldest_number view.items) (λ n is. stand.next (some_saved view.items n is))
    ∙ ap (gap_from slots.counter) (sym (oldest_told slots view stand))

-- ---- the numbers are below the next one, and no two are the same

below_by : (counter : ℕ) (place : SessionPlace) (n : ℕ) → IsPlace counter place → number_saved place ≡ Some n → n < counter
below_by counter inactive n sound is = absurd (none-some n is)
below_by counter (loaded octet s) n sound is = absurd (none-some n is)
below_by counter (saved octet number) n sound is = omega (arith, sound.1, same_Some number n is)

place_inside : (places : List SessionPlace) (number n : ℕ) → number_saved (get_or places number inactive) ≡ Some n → number < length places
place_inside places number n is =
    elim (cases_lt number (length places)) [
      | inl inside ↦ inside
      | inr past ↦ absurd (none-some n (sym (ap number_saved (get_or_past places number inactive past)) ∙ is))
    ]

pub below_place : (slots : SlotState) → IsSlots slots → (number n : ℕ) → number_saved (place_at slots number) ≡ Some n → n < slots.counter
below_place slots sound number n is =
    below_by slots.counter (place_at slots number) n
    (All-from_recursion (λ (place : SessionPlace). IsPlace slots.counter place) slots.sessions sound.places number inactive
    (place_inside slots.sessions number n is)) is

pub number_below : (slots : SlotState) (view : SessionsView) → SessionsStand slots view [] → (number n : ℕ)
    → number_of_item (item_at view.items number) ≡ Some n → n < slots.counter
number_below slots view stand number n is = below_place slots stand.sound number n (number_told slots view stand number ∙ is)

saved_as : (place : SessionPlace) (n : ℕ) → number_saved place ≡ Some n → is_saved_as n place ≡ true
saved_as inactive n is = absurd (none-some n is)
saved_as (loaded octet s) n is = absurd (none-some n is)
saved_as (saved octet number) n is = eq-eqb number n (same_Some number n is)

-- two items of a list
count_two : {X : Type 0} (p : X → Bool) (xs : List X) (i j : ℕ) (d : X) → i < length xs → j < length xs → j ≢ i
    → flag (p (get_or xs i d)) + flag (p (get_or xs j d)) ≤ count_by p xs
count_two p [] i j d inside other apart = absurd (omega arith)
count_two p (x ∷ xs) zero zero d inside other apart = absurd (apart refl)
count_two p (x ∷ xs) zero (suc j) d inside other apart = omega (arith, count_cons p x xs, count_one p xs j d (omega arith))
count_two p (x ∷ xs) (suc i) zero d inside other apart = omega (arith, count_cons p x xs, count_one p xs i d (omega arith))
count_two p (x ∷ xs) (suc i) (suc j) d inside other apart =
    omega (arith, count_cons p x xs, count_two p xs i j d (omega arith) (omega arith) (λ same. apart (ap suc same)))

once_by : (slots : SlotState) → IsSlots slots → (i j n : ℕ) → number_saved (place_at slots i) ≡ Some n → number_saved (place_at slots j) ≡ Some n → j ≡ i
once_by slots sound i j n one two =
    elim (cases_eq j i) [
      | inl same ↦ same
      | inr apart ↦ absurd (omega (
        arith,
        sound.apart n,
        count_two (is_saved_as n) slots.sessions i j inactive (place_inside slots.sessions i n one) (place_inside slots.sessions j n two) apart,
        flag_true (is_saved_as n (place_at slots i)) (saved_as (place_at slots i) n one),
        flag_true (is_saved_as n (place_at slots j)) (saved_as (place_at slots j) n two),
      ))
    ]

pub number_once : (slots : SlotState) (view : SessionsView) → SessionsStand slots view [] → (i j n : ℕ)
    → number_of_item (item_at view.items i) ≡ Some n → number_of_item (item_at view.items j) ≡ Some n → j ≡ i
number_once slots view stand i j n one two =
    once_by slots stand.sound i j n (number_told slots view stand i ∙ one) (number_told slots view stand j ∙ two)
