-- Sessions are saved and loaded, one after the other: what is kept, how many contexts there may be, when a place is free.
use Rattle.std.proofs.Common.{◌≡◌, ◌≢◌, ◌+◌, ◌<◌, ◌≤◌, inl, inr, ℕ, Bool, true, false, List, [], length, get_or, set, refl, ap, subst, sym, ◌∙◌, arith}
use Rattle.std.specs.Prelude.{◌==◌, ◌&&◌, ◌||◌, Option, Some, None, is_some, not, IfSome, Result, Ok, Err, OnOk, OnErr, if◌then◌else◌}
use Rattle.std.specs.List.{count_by}
use Rattle.std.proofs.lemmas.Bool.{false≢true, cases_eq, eq-eqb, ne_eqb}
use Rattle.std.proofs.lemmas.List.{get_or-map, get_or-set_other, length-map, length-set, map-set}
use Rattle.std.proofs.lemmas.List.Elements.{All-set}
use Rattle.tab_spec.specs.Shape.{number_of_session}
use Rattle.tab_spec.specs.declared.numbers.Numbers.{Numbers}
use Rattle.tab_spec.specs.declared.contexts.ContextLimits.{ContextLimits}
use Rattle.device_spec.specs.Slots.{SlotState}
use Rattle.device_port.specs.Device.{Seen}
use Rattle.session_swap.specs.declared.TheConstants.{NEEDED_MOST}
use Rattle.session_swap.specs.declared.record.Place.{Place}
use Rattle.session_swap.specs.declared.record.Place.TheVariants as places
use Rattle.session_swap.specs.declared.record.Record.{Record}
use Rattle.session_swap.specs.Items.{Holder, IsNarrow, Item, KeepsSessions, ListsThose, Moved, Names, SessionsView, Stand, counter_of, flag, gap_in, holder_of, holders, is_held, is_left, is_loaded_item, is_saved_item, item_at, item_of, loaded_items, owner_by, renewal_gap, rest_of, with_handle}
use Rattle.device_port.specs.Use.{is_among}
use Rattle.session_swap.specs.Records.{AreListed, AreRecords, IsHandleOf, IsRecord, ListsIn, OrderView, handed_of, item_in, item_of_record, items_of, view_of, whole_view}
use Rattle.session_swap.specs.Moves.{HasPlace, MaySaveAllIf, MaySaveIf, Ready, ReadyIn, RiseIn, Saves, Swaps, handle_at, handle_of}
use Rattle.session_swap.proofs.Counts.{count_same, count_set, flag_false, flag_true}
use Rattle.session_swap.proofs.Among.{holder_again, loaded_inside, loaded_whole, named_inside, named_is, named_some, not_loaded, saved_or, set_each}
use Rattle.session_swap.proofs.Missing.{handle_by}
use Rattle.session_swap.proofs.Moved.{stand_alike, stand_rise}
use Rattle.session_swap.proofs.Rising.{rise_none}
use Rattle.session_swap.proofs.Told.{loaded_told, numbers_kept, places_told, renewal_told}

-- ---- one move after another

pub swaps_then : {D : Type 0} (seen : D → Seen) (a b c : D)
    (xs ys zs : List Record) → Swaps seen a b xs ys → Swaps seen b c ys zs → Swaps seen a c xs zs
swaps_then seen a b c xs ys zs first second = record {
  rest = second.rest ∙ first.rest;
  sessions = record {
    sessions = second.sessions.sessions ∙ first.sessions.sessions;
    holders = second.sessions.holders ∙ first.sessions.holders;
  };
  gap = omega (arith, first.gap, second.gap);
  rises = omega (arith, first.rises, second.rises);
  base_is = second.base_is ∙ first.base_is;
  count = omega (arith, first.count, second.count);
}

pub swaps_start : {D : Type 0} (seen : D → Seen) (a : D) (xs : List Record)
    → Swaps seen a a xs xs
swaps_start seen a xs = record {
  rest = refl;
  sessions = record { sessions = refl; holders = refl };
  gap = omega arith;
  rises = omega arith;
  base_is = refl;
  count = omega arith;
}

-- what holds of both outcomes
pub either_way : {A E : Type 0} (r : Result A E) (P Q R : Type 0) → OnOk r P → OnErr r Q → (P → R) → (Q → R) → R
either_way (Ok a) P Q R ok err by_ok by_err = by_ok ok
either_way (Err e) P Q R ok err by_ok by_err = by_err err

-- ---- the item of a record

pub item_there : (records : List Record) (number : ℕ) (d : Record) → number < length records
    → item_at (items_of records) number ≡ item_of_record (get_or records number d)
item_there records number d inside = get_or-map item_of_record records number d None inside

-- of a record that was read
pub read_there : (records : List Record) (number : ℕ) (r : Record) → number < length records → r ≡ get_or records number r
    → item_at (items_of records) number ≡ item_of_record r
read_there records number r inside is = item_there records number r inside ∙ ap item_of_record (sym is)

pub named_record : (records : List Record) (handle : ℕ) → Names (items_of records) handle
    → number_of_session handle < length records
named_record records handle names = omega (arith, named_inside (items_of records) handle names, length-map records item_of_record)

handle_in : (place : Place) (client : Option ℕ) (handle : ℕ) (context : List ℕ) (handed : Option (List ℕ))
    → is_loaded_item (item_in place client handle context handed) ≡ true → handle_of (item_in place client handle context handed) ≡ handle
handle_in places.Unused client handle context handed there = absurd cc
handle_in places.Loaded client handle context handed there = refl
handle_in (places.Saved last) client handle context handed there = refl

-- the handle of a loaded session is its record's
pub handle_read : (records : List Record) (number : ℕ) (r : Record) → number < length records → r ≡ get_or records number r
    → is_loaded_item (item_at (items_of records) number) ≡ true → handle_at (items_of records) number ≡ r.handle
handle_read records number r inside is there =
    let here = read_there records number r inside is in
    ap handle_of here
    ∙ handle_in r.place r.client r.handle r.context.items (handed_of r) (ap is_loaded_item (sym here) ∙ there)

if_same : (item : Option Item) (test : Bool) → test ≡ true → (if test then item else None) ≡ item
if_same item true is = refl
if_same item false is = absurd cc

own_by : (place : Place) (client : Option ℕ) (handle : ℕ) (context : List ℕ) (handed : Option (List ℕ))
    → with_handle handle (item_in place client handle context handed) ≡ item_in place client handle context handed
own_by places.Unused client handle context handed = refl
own_by places.Loaded client handle context handed =
    if_same (item_in places.Loaded client handle context handed) (handle == handle) (eq-eqb handle handle refl)
own_by (places.Saved number) client handle context handed =
    if_same (item_in (places.Saved number) client handle context handed) (handle == handle) (eq-eqb handle handle refl)

pub own_number : (place : Place) (client : Option ℕ) (handle : ℕ) (context : List ℕ) (handed : Option (List ℕ)) (number : ℕ)
    → is_some (item_in place client handle context handed) ≡ true
    → IfSome (item_in place client handle context handed) (λ item. IsHandleOf number item) → number_of_session handle ≡ number
own_number places.Unused client handle context handed number there is = absurd cc
own_number places.Loaded client handle context handed number there is = is.number_is
own_number (places.Saved last) client handle context handed number there is = is.number_is

-- the number of a record's handle is that of its item
pub own_handle : {contexts : ContextLimits} (records : List Record) (number : ℕ) (r : Record) → AreRecords contexts records → number < length records
    → r ≡ get_or records number r → is_some (item_of_record r) ≡ true → number_of_session r.handle ≡ number
own_handle records number r sound inside is there =
    let here = read_there records number r inside is in
    let handle : IfSome (item_of_record r) (λ item. IsHandleOf number item) =
    subst (λ (o : Option Item). IfSome o (λ item. IsHandleOf number item)) here (sound.handles number) in
    own_number r.place r.client r.handle r.context.items (handed_of r) number there handle

-- under which its item stands
pub own_there : {contexts : ContextLimits} (records : List Record) (number : ℕ) (r : Record) → AreRecords contexts records → number < length records
    → r ≡ get_or records number r
    → is_some (item_of_record r) ≡ true → item_at (items_of records) (number_of_session r.handle) ≡ item_of_record r
own_there records number r sound inside is there =
    ap (λ (n : ℕ). item_at (items_of records) n) (own_handle records number r sound inside is there) ∙ read_there records number r inside is

-- the handle of a record names its item
pub own_item : {contexts : ContextLimits} (records : List Record) (number : ℕ) (r : Record) → AreRecords contexts records → number < length records
    → r ≡ get_or records number r
    → is_some (item_of_record r) ≡ true → item_of (items_of records) r.handle ≡ item_of_record r
own_item records number r sound inside is there =
    ap (with_handle r.handle) (own_there records number r sound inside is there)
    ∙ own_by r.place r.client r.handle r.context.items (handed_of r)

-- with another record of the same number
pub records_set : {contexts : ContextLimits} (records : List Record) (number : ℕ) (n : Record) → AreRecords contexts records → number < length records → IsRecord contexts n
    → IfSome (item_of_record n) (λ item. IsHandleOf number item) → AreRecords contexts (set records number n)
records_set {contexts = contexts} records number n sound inside is handle =
    let inside_items : number < length (items_of records) = omega (arith, length-map records item_of_record) in
    let each = set_each (λ j o. IfSome o (λ item. IsHandleOf j item)) (items_of records) number (item_of_record n) inside_items
    (λ j apart. sound.handles j) handle in
    record {
      count = length-set records number n ∙ sound.count;
      each = All-set (λ (r : Record). IsRecord contexts r) records number n is sound.each;
      handles = subst (λ (l : List (Option Item)). (j : ℕ) → IfSome (item_at l j) (λ item. IsHandleOf j item))
          (sym (map-set item_of_record records number n)) each;
    }

-- ---- saving

-- before the last of those that have to leave
pub can_save : (start state : Option SlotState) (items : List (Option Item)) (first : ℕ) → MaySaveAllIf start
    → rest_of state ≡ rest_of start
    → gap_in state + counter_of start ≤ gap_in start + counter_of state
    → counter_of state + loaded_items items ≤ counter_of start + first → first < loaded_items items + NEEDED_MOST
    → MaySaveIf state
can_save start None items first may rest gap left few = tt
can_save None (Some slots) items first may rest gap left few = absurd cc
can_save (Some begun) (Some slots) items first may rest gap left few = record {
  below = omega (arith, may.below, left, few);
  narrow = omega (arith, may.narrow, gap, left, few, ap renewal_gap (numbers_kept begun slots rest));
}

-- every other item stays
pub kept_at : (items new_items : List (Option Item)) (number other : ℕ) → new_items ≡ set items number (item_at new_items number)
    → other ≢ number
    → item_at new_items other ≡ item_at items other
kept_at items new_items number other items_are apart =
    ap (λ (l : List (Option Item)). item_at l other) items_are ∙ get_or-set_other items number other (item_at new_items number) None apart

pub one_fewer : (items new_items : List (Option Item)) (number : ℕ) → is_loaded_item (item_at items number) ≡ true
    → is_saved_item (item_at new_items number) ≡ true → new_items ≡ set items number (item_at new_items number)
    → loaded_items new_items + 1 ≡ loaded_items items
one_fewer items new_items number is saved items_are =
    let this = item_at new_items number in
    omega (
      arith,
      ap loaded_items items_are,
      count_set is_loaded_item items number this None (loaded_inside items number is),
      flag_true (is_loaded_item (item_at items number)) is,
      flag_false (is_loaded_item this) (not_loaded this saved),
    )

-- it takes one number, and leaves one session fewer that could be saved
pub saved_left : (state new_state : Option SlotState) (items new_items : List (Option Item)) (number : ℕ)
    → Saves state new_state items new_items number
    → is_loaded_item (item_at items number) ≡ true → rest_of new_state ≡ rest_of state
    → counter_of new_state + loaded_items new_items ≤ counter_of state + loaded_items items
saved_left None None items new_items number saves is rest = omega (arith, one_fewer items new_items number is saves.saved_is saves.items_are)
saved_left None (Some slots) items new_items number saves is rest = absurd cc
saved_left (Some slots) None items new_items number saves is rest = absurd cc
saved_left (Some slots) (Some new) items new_items number saves is rest =
    omega (arith, saves.counted, one_fewer items new_items number is saves.saved_is saves.items_are)

-- ---- loading

-- a place is free, where fewer are loaded than there are places
pub place_kept : {contexts : ContextLimits} (numbers : Numbers) (state : Option SlotState) (records : List Record) (next : ℕ) → Ready contexts state numbers records next []
    → loaded_items (items_of records) < numbers.loaded → HasPlace state
place_kept numbers None records next ready few = tt
place_kept numbers (Some slots) records next ready few =
    let view = view_of numbers records next in
    omega (arith, few, loaded_told slots view ready.stand, places_told slots view [] ready.stand)

-- a needed session that isn't loaded is saved
pub needed_saved : (records : List Record) (handle number : ℕ) (d : Record) → number ≡ number_of_session handle
    → Names (items_of records) handle
    → is_loaded_item (item_of_record (get_or records number d)) ≡ false → is_saved_item (item_at (items_of records) number) ≡ true
needed_saved records handle number d here names out =
    let inside : number < length records = omega (arith, here, named_record records handle names) in
    let some = ap (λ (n : ℕ). is_some (item_at (items_of records) n)) here ∙ named_some (items_of records) handle names in
    saved_or (item_at (items_of records) number) some (ap is_loaded_item (item_there records number d inside) ∙ out)

-- one that is needed stays as it is, where the one that is saved isn't needed
pub needed_kept : (items new_items : List (Option Item)) (needed : List ℕ) (number handle : ℕ) → is_among needed (handle_at items number) ≡ false
    → new_items ≡ set items number (item_at new_items number) → Names items handle → is_among needed handle ≡ true
    → item_of new_items handle ≡ item_of items handle
needed_kept items new_items needed number handle out items_are names any =
    elim (cases_eq (number_of_session handle) number) [
      | inl same ↦
          let own : handle_at items number ≡ handle =
          ap (λ (n : ℕ). handle_at items n) (sym same) ∙ handle_by handle (item_at items (number_of_session handle)) names in
          absurd (false≢true (sym out ∙ ap (is_among needed) own ∙ any))
      | inr apart ↦ ap (with_handle handle) (kept_at items new_items number (number_of_session handle) items_are apart)
    ]

-- a loaded session stays as it is, where another one is loaded
pub stay_brought : (records new_records : List Record) (handle : ℕ) → Names (items_of records) handle
    → ((other : ℕ) → (other == number_of_session handle) ≡ false → item_at (items_of new_records) other ≡ item_at (items_of records) other)
    → (is_loaded_item (item_of (items_of records) handle) ≡ true → new_records ≡ records)
    → (number : ℕ) → is_loaded_item (item_at (items_of records) number) ≡ true → item_at (items_of new_records) number ≡ item_at (items_of records) number
stay_brought records new_records handle names others idle number is =
    elim (cases_eq number (number_of_session handle)) [
      | inl same ↦ ap (λ (l : List Record). item_at (items_of l) number)
          (idle (ap is_loaded_item (named_is (items_of records) handle names) ∙ ap (λ (n : ℕ). is_loaded_item (item_at (items_of records) n)) (sym same) ∙ is))
      | inr apart ↦ others number (ne_eqb number (number_of_session handle) apart)
    ]

-- what stays by its number stays by its handle
pub stay_named : (items new_items : List (Option Item)) (handle : ℕ)
    → ((number : ℕ) → is_loaded_item (item_at items number) ≡ true → item_at new_items number ≡ item_at items number)
    → is_loaded_item (item_of items handle) ≡ true → item_of new_items handle ≡ item_of items handle
stay_named items new_items handle stay is =
    ap (with_handle handle) (stay (number_of_session handle) (loaded_whole handle (item_at items (number_of_session handle)) is))

-- what stays in one step and then in the next
pub stay_then : (items mid new : List (Option Item))
    → ((number : ℕ) → is_loaded_item (item_at items number) ≡ true → item_at mid number ≡ item_at items number)
    → ((number : ℕ) → is_loaded_item (item_at mid number) ≡ true → item_at new number ≡ item_at mid number)
    → (number : ℕ) → is_loaded_item (item_at items number) ≡ true → item_at new number ≡ item_at items number
stay_then items mid new first second number is = second number (ap is_loaded_item (first number is) ∙ is) ∙ first number is

-- the same of a handle
pub same_then : (items mid new : List (Option Item)) (handle : ℕ) → item_of mid handle ≡ item_of items handle
    → (is_loaded_item (item_of mid handle) ≡ true → item_of new handle ≡ item_of mid handle)
    → is_loaded_item (item_of items handle) ≡ true → item_of new handle ≡ item_of items handle
same_then items mid new handle first second is = second (ap is_loaded_item first ∙ is) ∙ first

-- ---- making

-- there is room for the contexts of a device
pub made_for : {v w : SessionsView} {contexts : ContextLimits} → v ≡ w → w.contexts ≡ contexts → v.contexts ≡ contexts
made_for is room = ap (λ (v : SessionsView). v.contexts) is ∙ room

-- records that were lent out of a swapper
pub ready_lent : {contexts made : ContextLimits} (numbers : Numbers) (state : Option SlotState) (records lent : List Record) (next : ℕ)
    (order : OrderView) (left : List ℕ) (view : SessionsView) (others : List ℕ)
    → lent ≡ records → AreRecords contexts records → whole_view numbers records next order left contexts ≡ view → view.contexts ≡ made
    → Stand state view others → Ready made state numbers lent next others
ready_lent {contexts = contexts} numbers state records lent next order left view others same sound view_is room stand =
    let items = ap (λ (l : List Record). items_of l) same ∙ ap (λ (v : SessionsView). v.items) view_is in
    let next_is = ap (λ (v : SessionsView). v.next) view_is in
    let numbers_are = ap (λ (v : SessionsView). v.numbers) view_is in
    record {
      sound = subst (λ (c : ContextLimits). AreRecords c lent) (made_for view_is room) (subst (λ (l : List Record). AreRecords contexts l) (sym same) sound);
      stand = stand_alike state view (view_of numbers lent next) others (sym numbers_are) (sym items) (sym next_is) (rise_none state (items_of lent)) stand;
    }

pub rise_lent : {contexts : ContextLimits} (numbers : Numbers) (state : Option SlotState) (records lent : List Record) (next : ℕ) (order : OrderView)
    (left : List ℕ) (view : SessionsView) (others : List ℕ)
    → lent ≡ records → whole_view numbers records next order left contexts ≡ view → Stand state view others → RiseIn state (items_of lent) order.saved
rise_lent numbers state records lent next order left view others same view_is stand =
    subst (λ (l : List Record). RiseIn state (items_of l) order.saved) (sym same)
    (subst (λ (v : SessionsView). RiseIn state v.items v.saved) (sym view_is) (stand_rise state view others stand))

pub lent_in : {contexts made : ContextLimits} (numbers : Numbers) (state : Option SlotState) (records lent : List Record) (next held : ℕ)
    (order : OrderView) (left : List ℕ) (view : SessionsView)
    → lent ≡ records → AreListed contexts numbers records order left held → whole_view numbers records next order left contexts ≡ view
    → view.contexts ≡ made → Stand state view [] → ReadyIn made state numbers lent next order
lent_in numbers state records lent next held order left view same kept view_is room stand = record {
  ready = ready_lent numbers state records lent next order left view [] same kept.sound view_is room stand;
  listed = subst (λ (l : List Record). ListsIn numbers l order) (sym same) kept.listed;
  rise = rise_lent numbers state records lent next order left view [] same view_is stand;
}

-- what moves of the lent records leave of the swapper
pub moved_lent : {contexts made : ContextLimits} {D : Type 0} (numbers : Numbers) (seen : D → Seen) (old new : D)
    (records lent new_records whole : List Record) (next new_next : ℕ) (order new_order : OrderView) (left : List ℕ) (view : SessionsView)
    → lent ≡ records → whole_view numbers records next order left contexts ≡ view → whole ≡ new_records
    → Swaps seen old new lent new_records → ReadyIn made (seen new).state numbers new_records new_next new_order
    → Moved seen old new view (whole_view numbers whole new_next new_order left contexts)
moved_lent {contexts = contexts} numbers seen old new records lent new_records whole next new_next order new_order left view same view_is back swaps held =
    let start = (seen old).state in
    let state = (seen new).state in
    let before = ap (λ (l : List Record). items_of l) same ∙ ap (λ (v : SessionsView). v.items) view_is in
    let after = ap (λ (l : List Record). items_of l) (sym back) in
    record {
      numbers = ap (λ (v : SessionsView). v.numbers) view_is;
      left = ap (λ (v : SessionsView). v.left) view_is;
      contexts = ap (λ (v : SessionsView). v.contexts) view_is;
      sessions = subst (λ (l : List (Option Item)). KeepsSessions start state view.items l) after
          (subst (λ (l : List (Option Item)). KeepsSessions start state l (items_of new_records)) before swaps.sessions);
      stand = stand_alike state (view_of numbers new_records new_next) (whole_view numbers whole new_next new_order left contexts) [] refl after refl
          (subst (λ (l : List (Option Item)). RiseIn state l new_order.saved) after held.rise) held.ready.stand;
      rest = record { base_is = swaps.base_is; rest = swaps.rest; rises = swaps.rises; count = swaps.count };
    }

-- ---- what holds of an item by whose it is, and what was handed out for it

module _ (is : Option Item → Bool) (by : Option Holder → Bool) (same : (item : Option Item) → is item ≡ by (holder_of item)) where
  at_moved : (items new_items : List (Option Item)) → holders new_items ≡ holders items → (number : ℕ)
      → is (item_at new_items number) ≡ is (item_at items number)
  at_moved items new_items held number =
      same (item_at new_items number) ∙ ap by (holder_again items new_items number held) ∙ sym (same (item_at items number))

  count_moved : (items new_items : List (Option Item)) → holders new_items ≡ holders items → count_by is new_items ≡ count_by is items
  count_moved items new_items held =
      let long : length new_items ≡ length items = sym (length-map new_items holder_of) ∙ ap length held ∙ length-map items holder_of in
      count_same is is new_items items None None long (λ i inside. at_moved items new_items held i)

  lists_moved : (items new_items : List (Option Item)) (numbers : List ℕ) → holders new_items ≡ holders items → ListsThose is numbers items
      → ListsThose is numbers new_items
  lists_moved items new_items numbers held lists = record {
    each = λ number. lists.each number ∙ ap flag (sym (at_moved items new_items held number));
    count = lists.count ∙ sym (count_moved items new_items held);
  }

holder_left : Option Holder → Bool
holder_left None = false
holder_left (Some holder) = not (is_some holder.client) && is_some holder.handed

left_by : (item : Option Item) → is_left item ≡ holder_left (holder_of item)
unfolding holder_left
left_by None = refl
left_by (Some item) = refl

holder_held : Option Holder → Bool
holder_held None = false
holder_held (Some holder) =
    is_some (owner_by (not (is_some holder.handed)) holder.client) || (not (is_some holder.client) && is_some holder.handed)

held_by : (item : Option Item) → is_held item ≡ holder_held (holder_of item)
unfolding holder_held
held_by None = refl
held_by (Some item) = refl

some_of : (item : Option Item) → is_some item ≡ is_some (holder_of item)
some_of None = refl
some_of (Some item) = refl

-- how many there are
pub some_moved : (items new_items : List (Option Item)) → holders new_items ≡ holders items → count_by is_some new_items ≡ count_by is_some items
some_moved items new_items held = count_moved is_some is_some some_of items new_items held

-- what holds of all that is kept, after moves of lent records
pub kept_lent : {contexts made : ContextLimits} (numbers : Numbers) (records lent new_records whole : List Record) (order new_order : OrderView)
    (left : List ℕ) (count : ℕ)
    → AreListed contexts numbers records order left count → contexts ≡ made → lent ≡ records → whole ≡ new_records → AreRecords made new_records
    → ListsIn numbers new_records new_order → holders (items_of new_records) ≡ holders (items_of lent) → AreListed contexts numbers whole new_order left count
kept_lent {contexts = contexts} numbers records lent new_records whole order new_order left count kept room same back sound listed held =
    let items = items_of records in
    let new_items = items_of new_records in
    let holders_are = held ∙ ap (λ (l : List Record). holders (items_of l)) same in
    subst (λ (l : List Record). AreListed contexts numbers l new_order left count) (sym back) (record {
      sound = subst (λ (c : ContextLimits). AreRecords c new_records) (sym room) sound;
      listed = listed;
      left_are = lists_moved is_left holder_left left_by items new_items left holders_are kept.left_are;
      held_is = kept.held_is ∙ sym (count_moved is_held holder_held held_by items new_items holders_are);
      few = omega (arith, kept.few, some_moved items new_items holders_are);
    })

pub gap_below : (state new_state : Option SlotState) (view : SessionsView) → Stand state view [] → IsNarrow state
    → rest_of new_state ≡ rest_of state
    → gap_in new_state + counter_of state ≤ gap_in state + counter_of new_state
    → counter_of new_state ≤ counter_of state + NEEDED_MOST
    → gap_in new_state < renewal_gap view.numbers + NEEDED_MOST
gap_below state None view stand narrow rest gap counter = omega arith
gap_below None (Some new) view stand narrow rest gap counter = absurd cc
gap_below (Some slots) (Some new) view stand narrow rest gap counter =
    omega (arith, narrow, gap, counter, renewal_told slots view [] stand)
