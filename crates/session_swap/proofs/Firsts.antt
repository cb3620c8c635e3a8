-- The session that was saved first, and the gap above it.
use Rattle.std.proofs.Common.{◌≡◌, ◌<◌, ◌≤◌, ℕ, true, List, [], ◌∷◌, ◌++◌, length, take, drop, refl, ap, subst, sym, ◌∙◌, arith}
use Rattle.std.specs.Prelude.{IfSome, None, Option, Some, get_or, is_some, slice_get}
use Rattle.std.proofs.lemmas.List.{length-map}
use Rattle.std.proofs.lemmas.Option.{get_or_from_slice_get, none-some, slice_get_within}
use Rattle.tab_spec.specs.Shape.{number_of_session}
use Rattle.device_spec.specs.Slots.{SlotState, gap_from}
use Rattle.device_port.specs.Use.{used_after}
use Rattle.tab_spec.specs.declared.numbers.Numbers.{Numbers}
use Rattle.tab_spec.specs.declared.contexts.ContextLimits.{ContextLimits}
use Rattle.session_swap.specs.declared.record.Record.{Record}
use Rattle.session_swap.specs.Items.{IsFirst, IsOldest, IsSavedAgain, Item, ListsThose, Rise, SessionsView, Stand, first_number, full_kept, gap_first, gap_kept, is_saved_item, item_at, number_at, number_of_item, numbers_along, oldest_number}
use Rattle.session_swap.specs.Moves.{IsOldestAt}
use Rattle.session_swap.specs.Records.{AreListed, IsHandleOf, IsSoundView, ListsIn, OrderView, handed_of, item_of_record, items_of, order_renewed, whole_view}
use Rattle.session_swap.proofs.Among.{named_is, saved_inside}
use Rattle.session_swap.proofs.Listing.{listed_is}
use Rattle.session_swap.proofs.Making.{own_item, own_number, read_there}
use Rattle.session_swap.proofs.Moved.{saved_some}
use Rattle.session_swap.proofs.Gaps.{items_least}
use Rattle.session_swap.proofs.Rising.{oldest_first}

-- that of the first in the list
pub first_at : (items : List (Option Item)) (saved : List ℕ) → number_at items (slice_get saved 0) ≡ first_number items saved
first_at items [] = refl
first_at items (number ∷ saved) = refl

first_by : (items : List (Option Item)) (saved : List ℕ) (number : ℕ) → slice_get saved 0 ≡ Some number
    → number_of_item (item_at items number) ≡ first_number items saved
first_by items saved number is = ap (number_at items) (sym is) ∙ first_at items saved

-- where the numbers rise it is the oldest one
pub oldest_at : (state : Option SlotState) (view : SessionsView) (handle : ℕ) → IsSoundView view → Stand state view [] → IsFirst view handle
    → IsOldestAt state view.items (number_of_session handle)
oldest_at None view handle sound stand first =
    record { saved = ap is_saved_item (sym (named_is view.items handle first.named)) ∙ first.saved; oldest = tt {0} }
oldest_at (Some slots) view handle sound stand first = record {
  saved = ap is_saved_item (sym (named_is view.items handle first.named)) ∙ first.saved;
  oldest = first_by view.items view.saved (number_of_session handle) first.first ∙ oldest_first view.items view.saved sound.saved stand.rise;
}

-- and so the handle names the oldest one
pub first_oldest : (view : SessionsView) (handle : ℕ) → ListsThose is_saved_item view.saved view.items
    → Rise (numbers_along view.items view.saved) → IsFirst view handle → IsOldest view.items handle
first_oldest view handle listed rise first = record {
  named = first.named;
  saved = first.saved;
  oldest = ap number_of_item (named_is view.items handle first.named)
      ∙ first_by view.items view.saved (number_of_session handle) first.first ∙ oldest_first view.items view.saved listed rise;
}

pub oldest_of : (slots : SlotState) (view : SessionsView) (handle : ℕ) → IsSoundView view → Stand (Some slots) view [] → IsFirst view handle
    → IsOldest view.items handle
oldest_of slots view handle sound stand first = first_oldest view handle sound.saved stand.rise first

-- ---- the gap

gap_least : (next : ℕ) (first least : Option ℕ) → ((n : ℕ) → first ≡ Some n → (m : ℕ) × (least ≡ Some m) × (m ≤ n))
    → gap_from next first ≤ gap_from next least
gap_least next None least below = omega arith
gap_least next (Some n) least below =
    let there = below n refl in
    omega (arith, ap (gap_from next) there.1, there.2)

-- no first one is older than the oldest
pub first_most : (view : SessionsView) → gap_first view ≤ gap_kept view
first_most view =
    gap_least view.next (first_number view.items view.saved) (oldest_number view.items)
    (λ n is. first_below view.items view.saved n is)
  where
    first_below : (items : List (Option Item)) (saved : List ℕ) (n : ℕ) → first_number items saved ≡ Some n
        → (m : ℕ) × (oldest_number items ≡ Some m) × (m ≤ n)
    first_below items [] n is = absurd (none-some n is)
    first_below items (number ∷ saved) n is = (items_least items).below number n is

pub first_risen : (view : SessionsView) → ListsThose is_saved_item view.saved view.items → Rise (numbers_along view.items view.saved)
    → gap_first view ≡ gap_kept view
first_risen view listed rise = ap (gap_from view.next) (oldest_first view.items view.saved listed rise)

-- by its number
pub first_gap : (view : SessionsView) (handle : ℕ) → slice_get view.saved 0 ≡ Some (number_of_session handle)
    → gap_from view.next (number_at view.items (Some (number_of_session handle))) ≡ gap_first view
first_gap view handle is = ap (gap_from view.next) (first_by view.items view.saved (number_of_session handle) is)

-- ---- its record

first_is_saved : {numbers : Numbers} (records : List Record) (order : OrderView) (number : ℕ) → ListsIn numbers records order → slice_get order.saved 0 ≡ Some number
    → is_saved_item (item_at (items_of records) number) ≡ true
first_is_saved records order number listed is =
    ap (λ (n : ℕ). is_saved_item (item_at (items_of records) n)) (sym (get_or_from_slice_get order.saved 0 number 0 is))
    ∙ listed_is is_saved_item refl (items_of records) order.saved 0 0 listed.saved (slice_get_within order.saved 0 number is)

pub first_below : {numbers : Numbers} (records : List Record) (order : OrderView) (number : ℕ) → ListsIn numbers records order → slice_get order.saved 0 ≡ Some number
    → number < length records
first_below records order number listed is =
    omega (arith, saved_inside (items_of records) number (first_is_saved records order number listed is), length-map records item_of_record)

pub first_inside : {numbers : Numbers} (records lent : List Record) (order : OrderView) (first : Option ℕ) → ListsIn numbers records order → first ≡ slice_get order.saved 0
    → lent ≡ records → IfSome first (λ n. n < length lent)
first_inside records lent order None listed is same = tt {0}
first_inside records lent order (Some number) listed is same =
    omega (arith, first_below records order number listed (sym is), ap (λ (l : List Record). length l) same)

pub first_named : {contexts : ContextLimits} (numbers : Numbers) (records : List Record) (next held : ℕ) (order : OrderView) (left : List ℕ)
    (number : ℕ) (r : Record) → AreListed contexts numbers records order left held
    → slice_get order.saved 0 ≡ Some number → r ≡ get_or records number r → IsFirst (whole_view numbers records next order left contexts) r.handle
first_named numbers records next held order left number r kept is there =
    let items = items_of records in
    let saved = first_is_saved records order number kept.listed is in
    let inside = first_below records order number kept.listed is in
    let here = read_there records number r inside there in
    let some : is_some (item_of_record r) ≡ true = ap is_some (sym here) ∙ saved_some (item_at items number) saved in
    let own = own_item records number r kept.sound inside there some in
    let handle : IfSome (item_of_record r) (λ item. IsHandleOf number item) =
    subst (λ (o : Option Item). IfSome o (λ item. IsHandleOf number item)) here (kept.sound.handles number) in
    record {
      named = ap is_some own ∙ some;
      saved = ap is_saved_item (own ∙ sym here) ∙ saved;
      first = is ∙ ap (λ (n : ℕ). Some n) (sym (own_number r.place r.client r.handle r.context.items (handed_of r) number some handle));
    }

-- ---- saved again

pub saved_again : {contexts : ContextLimits} (numbers : Numbers) (order new_order : OrderView) (left : List ℕ) (old new_items : List (Option Item))
    (view : SessionsView) (count new_next next n handle : ℕ) → count ≡ full_kept view
    → record { numbers = numbers; items = old; next = next; order = order.loaded; saved = order.saved; left = left; contexts = contexts } ≡ view
    → n ≡ number_of_session handle → new_order ≡ order_renewed count n order
    → IsSavedAgain view (record {
      numbers = numbers;
      items = new_items;
      next = new_next;
      order = new_order.loaded;
      saved = new_order.saved;
      left = left;
      contexts = contexts;
    }) handle
saved_again numbers order new_order left old new_items view kept new_next next n handle count is here renewed =
    record {
      order = ap (λ (o : OrderView). o.loaded) renewed ∙ ap (λ (k : ℕ). drop k order.loaded) count
          ∙ ap (λ (v : SessionsView). drop (full_kept view) v.order) is;
      saved = ap (λ (o : OrderView). o.saved) renewed
          ∙ ap (λ (k : ℕ). used_after (order.saved ++ take k order.loaded) n) count
          ∙ ap (λ (v : SessionsView). used_after (v.saved ++ take (full_kept view) v.order) n) is
          ∙ ap (used_after (view.saved ++ take (full_kept view) view.order)) here;
    }
