-- How many slots are taken: as many as there are residents, and these are at most as many as are needed.
use Rattle.std.proofs.Common.{◌≡◌, ◌+◌, ◌*◌, ◌<◌, ◌≤◌, inl, inr, ℕ, zero, suc, Bool, true, false, List, [], ◌∷◌, length, get_or, refl, ap, sym, ◌∙◌, arith}
use Rattle.std.specs.Prelude.{◌==◌, not, ◌&&◌, Option, Some, None, is_some, IfSome}
use Rattle.std.specs.List.{count_by, list_any}
use Rattle.std.proofs.lemmas.Bool.{cases_lt, eq-eqb, eqb-false, eqb-true, ne_eqb}
use Rattle.std.proofs.lemmas.List.{get_or_past}
use Rattle.std.proofs.lemmas.List.Sums.{sum_by-le-sum_by}
use Rattle.tab_spec.specs.Object.{Object}
use Rattle.device_spec.specs.Slots.{IsSlots, SlotState, is_free}
use Rattle.object_swap.specs.Items.{Item, AreFree, HasSlots, ObjectsStand, ObjectsView, Stand, counter_of, evictions, is_named, is_resident, is_unsaved, item_at, missing, moves_of, naming, pending_of, residents, rest_of, taken}
use Rattle.object_swap.specs.Moves.{HasSlotRoom}
use Rattle.object_swap.specs.Records.{number}
use Rattle.object_swap.proofs.Counts.{count_cons, number_false, number_most, number_true}
use Rattle.object_swap.proofs.Order.{leaves_few}

-- how many commands are sent at most, where those that leave are no more than those that come
pub moves_most : (needed : List ℕ) (new_slots : ℕ) (view : ObjectsView) → evictions needed new_slots view ≤ missing needed view.items + new_slots
    → moves_of needed new_slots view ≤ 2 * (missing needed view.items + new_slots) + missing needed view.items
moves_most needed new_slots view few =
    omega (
      arith,
      few,
      leaves_few (λ (index : ℕ). is_unsaved (item_at view.items index)) needed view.order (evictions needed new_slots view),
    )

-- ---- a sum over the numbers below one

abbrev sum_below : (ℕ → ℕ) → ℕ → ℕ
sum_below f zero = 0
sum_below f (suc n) = f 0 + sum_below (λ k. f (suc k)) n

sum_zero : (n : ℕ) → sum_below (λ k. 0) n ≡ 0
sum_zero zero = refl
sum_zero (suc n) = omega (arith, sum_zero n)

sum_same : (f g : ℕ → ℕ) (n : ℕ) → ((k : ℕ) → f k ≡ g k) → sum_below f n ≡ sum_below g n
sum_same f g zero same = refl
sum_same f g (suc n) same = omega (arith, same 0, sum_same (λ k. f (suc k)) (λ k. g (suc k)) n (λ k. same (suc k)))

sum_both : (f g : ℕ → ℕ) (n : ℕ) → sum_below (λ k. f k + g k) n ≡ sum_below f n + sum_below g n
sum_both f g zero = refl
sum_both f g (suc n) = omega (arith, sum_both (λ k. f (suc k)) (λ k. g (suc k)) n)

next_by : (k slot : ℕ) (same : Bool) → (k == slot) ≡ same → (suc k == suc slot) ≡ same
next_by k slot true is = eq-eqb (suc k) (suc slot) (ap suc (eqb-true k slot is))
next_by k slot false is = ne_eqb (suc k) (suc slot) (λ next. eqb-false k slot is (omega (arith, next)))

-- one number is this one
sum_one : (k n : ℕ) → k < n → sum_below (λ slot. number (k == slot)) n ≡ 1
sum_one k zero below = absurd (omega arith)
sum_one zero (suc n) below =
    let other = λ (slot : ℕ). number_false (0 == suc slot) (ne_eqb 0 (suc slot) (omega arith)) in
    omega (arith, sum_same (λ slot. number (0 == suc slot)) (λ slot. 0) n other, sum_zero n)
sum_one (suc k) (suc n) below =
    let next = λ (slot : ℕ). ap number (next_by k slot (k == slot) refl) in
    let first = number_false (suc k == 0) (ne_eqb (suc k) 0 (omega arith)) in
    omega (arith, first, sum_same (λ slot. number (suc k == suc slot)) (λ slot. number (k == slot)) n next, sum_one k n (omega arith))

-- ---- the slots of a device

-- each is free or taken
sum_taken : (held : List (Option Object)) → count_by is_free held + sum_below (λ slot. number (is_some (get_or held slot None))) (length held) ≡ length held
sum_taken [] = refl
sum_taken (None ∷ held) = omega (arith, count_cons is_free None held, sum_taken held)
sum_taken (Some o ∷ held) = omega (arith, count_cons is_free (Some o) held, sum_taken held)

-- ---- residents name slots

-- an item in a slot names one of the first ones, where it names no other
sum_named : (named : Option ℕ) (count : ℕ) → ((slot : ℕ) → count ≤ slot → number (is_named named slot) ≡ 0)
    → sum_below (λ slot. number (is_named named slot)) count ≡ number (is_some named)
sum_named None count below = sum_zero count
sum_named (Some n) count below =
    elim (cases_lt n count) [
      | inl fits ↦ sum_one n count fits
      | inr past ↦ absurd (omega (arith, below n past, number_true (n == n) (eq-eqb n n refl)))
    ]

sum_naming : (items : List Item) (count : ℕ) → ((slot : ℕ) → count ≤ slot → naming items slot ≡ 0) → sum_below (naming items) count ≡ residents items
sum_naming [] count below = sum_zero count
sum_naming (item ∷ items) count below =
    let names : ℕ → ℕ = λ slot. number (is_named item.slot slot) in
    let named = λ (slot : ℕ). count_cons (λ (i : Item). is_named i.slot slot) item items in
    omega (
      arith,
      sum_same (naming (item ∷ items)) (λ slot. names slot + naming items slot) count named,
      sum_both names (naming items) count,
      sum_named item.slot count (λ slot past. omega (arith, below slot past, named slot)),
      sum_naming items count (λ slot past. omega (arith, below slot past, named slot)),
      count_cons is_resident item items,
    )

taken_past : (slots : SlotState) (slot : ℕ) → length slots.slots ≤ slot → taken slots slot ≡ 0
taken_past slots slot past = ap (λ (o : Option Object). number (is_some o)) (get_or_past slots.slots slot None (omega arith))

-- each slot is free or a resident's, where no others are there
pub free_count : (slots : SlotState) (items : List Item) → ObjectsStand slots items [] → count_by is_free slots.slots + residents items ≡ length slots.slots
free_count slots items stand =
    let owned : (slot : ℕ) → naming items slot ≡ taken slots slot = λ slot. omega (arith, stand.owned slot) in
    omega (
      arith,
      sum_taken slots.slots,
      sum_same (naming items) (taken slots) (length slots.slots) owned,
      sum_naming items (length slots.slots) (λ slot past. owned slot ∙ taken_past slots slot past),
    )

unsaved_by : (slot blob : Bool) → number (slot && not blob) ≤ number slot
unsaved_by false blob = omega arith
unsaved_by true blob = number_most (not blob)

unsaved_most : (items : List Item) → count_by is_unsaved items ≤ residents items
unsaved_most items =
    sum_by-le-sum_by (λ (item : Item). number (is_unsaved item)) (λ (item : Item). number (is_resident item)) items
    (λ item. unsaved_by (is_some item.slot) (is_some item.blob))

-- a swapper saves as many contexts as a device may have slots, at most
pub pending_most : (state : Option SlotState) (items : List Item) → Stand state items [] → pending_of state items ≤ counter_of state + 254
pending_most None items stand = omega arith
pending_most (Some slots) items stand =
    omega (arith, free_count slots items stand, unsaved_most items, stand.sound.count, stand.sound.range.slots_most)

some_free : (held : List (Option Object)) → 1 ≤ count_by is_free held → list_any is_free held ≡ true
some_free [] some = absurd (omega arith)
some_free (None ∷ held) some = refl
some_free (Some o ∷ held) some = some_free held (omega (arith, count_cons is_free (Some o) held))

-- where fewer residents than slots are there, one is free
pub room_free : (state : Option SlotState) (items : List Item) (count : ℕ) → Stand state items [] → HasSlots state count → residents items < count
    → IfSome state (λ slots. list_any is_free slots.slots ≡ true)
room_free None items count stand has few = tt
room_free (Some slots) items count stand has few = some_free slots.slots (omega (arith, free_count slots items stand, has))

pub are_free : (state : Option SlotState) (items : List Item) (count new_slots : ℕ) → Stand state items [] → HasSlots state count
    → residents items + new_slots ≤ count → AreFree state new_slots
are_free None items count new_slots stand has few = tt
are_free (Some slots) items count new_slots stand has few = omega (arith, free_count slots items stand, has)

-- as many as the device's numbers say
pub slots_are : (state : Option SlotState) (items : List Item) (others : List ℕ) (count : ℕ) → Stand state items others
    → IfSome state (λ slots. slots.numbers.slots ≡ count) → HasSlots state count
slots_are None items others count stand is = tt
slots_are (Some slots) items others count stand is = stand.sound.count ∙ is

-- ---- how many slots there are doesn't change

abbrev slots_in : Option SlotState → ℕ
slots_in None = 0
slots_in (Some slots) = slots.numbers.slots

same_slots : (slots new : SlotState) → IsSlots slots → IsSlots new → rest_of (Some new) ≡ rest_of (Some slots) → length new.slots ≡ length slots.slots
same_slots slots new sound new_sound same = new_sound.count ∙ ap slots_in same ∙ sym sound.count

pub slots_again : (state new_state : Option SlotState) (items new_items : List Item) (count : ℕ) → HasSlots state count → Stand state items [] → Stand new_state new_items []
    → rest_of new_state ≡ rest_of state → HasSlots new_state count
slots_again None None items new_items count has stand new_stand same = tt
slots_again None (Some new) items new_items count has stand new_stand same = absurd cc
slots_again (Some slots) None items new_items count has stand new_stand same = tt
slots_again (Some slots) (Some new) items new_items count has stand new_stand same = same_slots slots new stand.sound new_stand.sound same ∙ has

-- ---- room for objects

pub has_room : (state : Option SlotState) (count few : ℕ) → HasSlots state count → few ≤ count → HasSlotRoom state few
has_room None count few has less = tt
has_room (Some slots) count few has less = omega (arith, has)

-- where one more is to come into a slot, and there is room for it
pub room_left : (state : Option SlotState) (items : List Item) (count left : ℕ) → Stand state items [] → HasSlotRoom state count → residents items + left ≤ count
    → 1 ≤ left → IfSome state (λ slots. list_any is_free slots.slots ≡ true)
room_left None items count left stand room few some = tt
room_left (Some slots) items count left stand room few some = room_free (Some slots) items (length slots.slots) stand refl (omega arith)

pub room_fewer : (state : Option SlotState) (count few : ℕ) → HasSlotRoom state count → few ≤ count → HasSlotRoom state few
room_fewer None count few room less = tt
room_fewer (Some slots) count few room less = omega arith

pub room_again : (state new_state : Option SlotState) (items new_items : List Item) (count : ℕ) → Stand state items [] → Stand new_state new_items []
    → rest_of new_state ≡ rest_of state → HasSlotRoom state count → HasSlotRoom new_state count
room_again None None items new_items count stand new_stand same room = tt
room_again None (Some new) items new_items count stand new_stand same room = absurd cc
room_again (Some slots) None items new_items count stand new_stand same room = tt
room_again (Some slots) (Some new) items new_items count stand new_stand same room =
    omega (arith, same_slots slots new stand.sound new_stand.sound same, room)
