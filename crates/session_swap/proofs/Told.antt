-- What a device that tells its state has of the sessions.
use Rattle.std.proofs.Common.{◌≡◌, ◌+◌, ℕ, false, List, [], length, refl, ap, ◌∙◌, sym, arith}
use Rattle.std.specs.Prelude.{◌==◌, not, Option, Some, None, is_some, IfSome}
use Rattle.std.specs.List.{count_by}
use Rattle.tab_spec.specs.declared.numbers.Numbers.{Numbers}
use Rattle.device_spec.specs.Slots.{SessionPlace, SlotState, inactive, loaded, saved, is_active, is_loaded, loaded_count}
use Rattle.session_swap.specs.Items.{IsPlaceOf, Item, ItemStands, Saved, SessionsStand, SessionsView, flag, is_loaded_item, item_at, loaded_items, place_at, renewal_gap, rest_of}
use Rattle.session_swap.proofs.Counts.{count_same}

-- a session that isn't saved is loaded
by_saved : (handle : ℕ) (last : Option Saved) (place : SessionPlace) → IsPlaceOf handle last place
    → is_loaded place ≡ not (is_some last)
by_saved handle None place is = is
by_saved handle (Some last) place is = ap is_loaded is

unused : (place : SessionPlace) → 0 ≡ flag (is_active place) → is_loaded place ≡ false
unused inactive is = refl
unused (loaded octet s) is = absurd (omega arith)
unused (saved octet number) is = refl

loaded_by : (slots : SlotState) (number : ℕ) (item : Option Item) → IfSome item (λ item. ItemStands slots number item)
    → flag (is_some item) + count_by (λ other. other == number) [] ≡ flag (is_active (place_at slots number))
    → is_loaded (place_at slots number) ≡ is_loaded_item item
loaded_by slots number None stands owned = unused (place_at slots number) owned
loaded_by slots number (Some item) stands owned = by_saved item.handle item.saved (place_at slots number) stands.place

-- the device has as many loaded sessions as are kept as loaded
pub loaded_told : (slots : SlotState) (view : SessionsView) → SessionsStand slots view []
    → loaded_count slots.sessions ≡ loaded_items view.items
loaded_told slots view stand =
    let count : length slots.sessions ≡ length view.items = stand.sound.numbers ∙ sym stand.count in
    count_same is_loaded is_loaded_item slots.sessions view.items inactive None count
    (λ number inside. loaded_by slots number (item_at view.items number) (stand.each number) (stand.owned number))

-- and as many places as is kept
pub places_told : (slots : SlotState) (view : SessionsView) (others : List ℕ) → SessionsStand slots view others
    → slots.numbers.loaded ≡ view.numbers.loaded
places_told slots view others stand = ap (λ (n : Numbers). n.loaded) stand.numbers

pub renewal_told : (slots : SlotState) (view : SessionsView) (others : List ℕ) → SessionsStand slots view others
    → renewal_gap slots.numbers ≡ renewal_gap view.numbers
renewal_told slots view others stand = ap renewal_gap stand.numbers

-- the numbers of a device are what a move leaves
abbrev numbers_or : Numbers → Option SlotState → Numbers
numbers_or numbers None = numbers
numbers_or numbers (Some slots) = slots.numbers

pub numbers_kept : (slots new : SlotState) → rest_of (Some new) ≡ rest_of (Some slots) → new.numbers ≡ slots.numbers
numbers_kept slots new rest = ap (numbers_or slots.numbers) rest
