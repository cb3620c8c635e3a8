-- What the calls of a swapper leave, over what is seen of it.
use Rattle.std.proofs.Common.{◌≡◌, ◌+◌, ◌<◌, ◌≤◌, ◌++◌, ℕ, suc, List, [], ◌∷◌, length, take, drop, set, map, refl, ap, subst, sym, ◌∙◌, arith, get_or, true, ◌-◌, ◌/◌, ◌^◌, length-append}
use Rattle.std.specs.Prelude.{◌==◌, slice_get, Option, Some, None, IfSome, Result}
use Rattle.std.proofs.lemmas.Bool.{eqb-true}
use Rattle.std.proofs.lemmas.List.{get_or_push, map_push, take_at}
use Rattle.tab_spec.specs.declared.TheConstants.{HT_TRANSIENT, TRANSIENT_FIRST}
use Rattle.tab_spec.specs.Shape.{octet_of}
use Rattle.tab_spec.specs.declared.contexts.ContextLimits.{ContextLimits}
use Rattle.device_spec.specs.Slots.{SlotState, slot_of}
use Rattle.device_port.specs.Device.{Seen}
use Rattle.device_port.specs.Own.{AsksSome}
use Rattle.device_port.specs.declared.own.SwapError.{SwapError}
use Rattle.object_swap.specs.declared.record.Record.{Record}
use Rattle.object_swap.specs.Items.{AreNeeded, AreResident, Dropped, HasSlots, HaveSlots, Item, Forgets, MakesRoom, Moved, Names, ObjectsView, Stand, counter_of, evictions, item_at, missing, no_item, objects_of, owners, residents, rest_of}
use Rattle.object_swap.specs.Moves.{KeepsStanding, Swaps, emptied}
use Rattle.object_swap.specs.Records.{AreRecords, AreTransient, items_of, view_of, view_with}
use Rattle.object_swap.proofs.Listed.{named_inside, none_slot}
use Rattle.object_swap.proofs.Moved.{emptied_counter, emptied_rest, flushed_drops, left_drops}
use Rattle.object_swap.proofs.Recorded.{record_at, slot_is, was}
use Rattle.object_swap.proofs.Room.{are_free, slots_again}
use Rattle.object_swap.proofs.Vacancies.{same_length}

-- ---- objects move

-- all records are written back
pub written_back : (old lent new : List Record) (len : ℕ) → lent ≡ old → len ≡ length old → owners (items_of new) ≡ owners (items_of lent)
    → take len (new ++ drop (length new) old) ≡ new
written_back old lent new len lent_is len_is same =
    take_at new (drop (length new) old) len (omega (arith, len_is, ap (λ (l : List Record). length l) lent_is, same_length lent new same))

pub swapped : {D A : Type 0} {contexts : ContextLimits} (seen : D → Seen) (a b : D) (result : Result A SwapError) (records new_records : List Record) (old new : ObjectsView)
    → Swaps contexts seen a b records new_records → AsksSome contexts seen a b result → items_of records ≡ old.items → new.items ≡ items_of new_records → new.slots ≡ old.slots
    → new.owners ≡ old.owners → new.left ≡ old.left → new.contexts ≡ old.contexts → Moved seen a b old new
swapped seen a b result records new_records old new swaps asks old_is new_is slots owners left room =
    let keeps : KeepsStanding (seen a).state (seen b).state old.items new.items [] =
    subst (λ (l : List Item). KeepsStanding (seen a).state (seen b).state l new.items []) old_is
    (subst (λ (l : List Item). KeepsStanding (seen a).state (seen b).state (items_of records) l []) (sym new_is) swaps.keeps) in
    record {
      slots = slots;
      owners = owners;
      left = left;
      contexts = room;
      objects = keeps.objects;
      stand = keeps.stand;
      rest = record { base_is = asks.base; rest = keeps.rest; rises = keeps.rises; count = asks.count };
    }

pub have_slots : {D : Type 0} (seen : D → Seen) (a b : D) (needed : List ℕ) (new_slots : ℕ) (items : List Item) (old new : ObjectsView) → AreNeeded needed new_slots old
    → HasSlots (seen a).state old.slots → Stand (seen a).state old.items [] → Moved seen a b old new → new.items ≡ items → AreResident needed items
    → residents new.items + evictions needed new_slots old ≡ residents old.items + missing needed old.items → HaveSlots needed new_slots (seen b).state new
have_slots seen a b needed new_slots items old new fit has stand moved new_is all full =
    let few : residents new.items + new_slots ≤ old.slots = omega (arith, full, fit.fits) in
    let has_new = slots_again (seen a).state (seen b).state old.items new.items old.slots has stand moved.stand moved.rest.rest in
    record {
      resident = subst (λ (l : List Item). AreResident needed l) (sym new_is) all;
      few = omega (arith, few, moved.slots);
      free = are_free (seen b).state new.items old.slots new_slots moved.stand has_new few;
    }

-- how much room is made has to do with items, slots and order alone
pub room_seen : {D : Type 0} (seen : D → Seen) (a b : D) (needed : List ℕ) (new_slots : ℕ) (records new_records : List Record) (loaded new_loaded : List ℕ)
    (slots : ℕ) (owners : List (Option ℕ)) (left : List ℕ) (contexts : ContextLimits) (result : Result (Unit {0}) SwapError)
    → MakesRoom seen a b needed new_slots (view_of records loaded slots) (view_of new_records new_loaded slots) result
    → MakesRoom seen a b needed new_slots (view_with records loaded slots owners left contexts) (view_with new_records new_loaded slots owners left contexts) result
room_seen seen a b needed new_slots records new_records loaded new_loaded slots owners left contexts result made = record {
  sent = made.sent;
  few = made.few;
  full = made.full;
  rest = made.rest;
  same = made.same;
  idle = made.idle;
  order = made.order;
  failed = made.failed;
  listed = made.listed;
  counter = made.counter;
}

-- ---- an object of nobody goes

some_same : {a b : ℕ} → ◌≡◌ {A = Option ℕ} (Some a) (Some b) → a ≡ b
some_same same = cc

-- the last of those of nobody
pub cut_last : (handles : List ℕ) (handle : ℕ) → slice_get handles (length handles - 1) ≡ Some handle
    → handles ≡ take (length handles - 1) handles ++ handle ∷ []
cut_last [] handle is = absurd cc
cut_last (x ∷ []) handle is = ap (λ (n : ℕ). n ∷ []) (some_same is)
cut_last (x ∷ y ∷ handles) handle is =
    let less : length (x ∷ y ∷ handles) - 1 ≡ suc (length (y ∷ handles) - 1) = omega arith in
    let rest = cut_last (y ∷ handles) handle (sym (ap (slice_get (x ∷ y ∷ handles)) less) ∙ is) in
    ap (λ (l : List ℕ). x ∷ l) rest ∙ sym (ap (λ (n : ℕ). take n (x ∷ y ∷ handles) ++ handle ∷ []) less)

pub last_same : (xs ys : List ℕ) (x y : ℕ) → xs ++ x ∷ [] ≡ ys ++ y ∷ [] → x ≡ y
last_same xs ys x y same =
    let count : length xs ≡ length ys = omega (arith, ap (λ (l : List ℕ). length l) same, length-append xs (x ∷ []), length-append ys (y ∷ [])) in
    sym (get_or_push xs x 0 (length xs) refl) ∙ ap (λ (l : List ℕ). get_or l (length xs) 0) same ∙ get_or_push ys y 0 (length xs) (sym count)

-- what is seen of the handles of nobody's objects
pub left_seen : (handles rest : List ℕ) (handle : ℕ) → handles ≡ rest ++ handle ∷ [] → map slot_of handles ≡ map slot_of rest ++ slot_of handle ∷ []
left_seen handles rest handle is = ap (map slot_of) is ∙ map_push slot_of rest handle

-- the last of the handles of nobody's objects, and the rest
pub record Last (handles left : List ℕ) (last : ℕ) : Type 0 where
  pub rest : List ℕ
  pub seen : left ≡ rest ++ slot_of last ∷ []
  pub popped : (new : List ℕ) (count : ℕ) → count ≡ length handles → new ≡ take (count - 1) handles → handles ≡ new ++ last ∷ []
  -- it is that of the last slot
  pub handle : (others : List ℕ) (slot : ℕ) → left ≡ others ++ slot ∷ [] → TRANSIENT_FIRST + slot ≡ last

pub last_of_left : (handles left lent : List ℕ) (last : ℕ) → map slot_of handles ≡ left → lent ≡ handles → Some last ≡ slice_get lent (length lent - 1)
    → AreTransient handles → Last handles left last
last_of_left handles left lent last left_is lent_is is transient =
    let there : slice_get handles (length handles - 1) ≡ Some last = sym (subst (λ (l : List ℕ). Some last ≡ slice_get l (length l - 1)) lent_is is) in
    let rest = take (length handles - 1) handles in
    let cut = cut_last handles last there in
    let seen = sym left_is ∙ left_seen handles rest last cut in
    record {
      rest = map slot_of rest;
      seen = seen;
      popped = λ new count count_is new_is. cut
          ∙ ap (λ (l : List ℕ). l ++ last ∷ []) (sym (new_is ∙ ap (λ (n : ℕ). take (n - 1) handles) count_is));
      handle = λ others slot other.
          let same : slot ≡ slot_of last = last_same others (map slot_of rest) slot (slot_of last) (sym other ∙ seen) in
          let at : get_or handles (length rest) 0 ≡ last = ap (λ (l : List ℕ). get_or l (length rest) 0) cut ∙ get_or_push rest last 0 (length rest) refl in
          let is_transient = transient (length rest) 0 (omega (arith, ap (λ (l : List ℕ). length l) cut, length-append rest (last ∷ []))) in
          let octet : last / 2 ^ 24 ≡ HT_TRANSIENT = eqb-true (last / 2 ^ 24) HT_TRANSIENT (ap (λ (h : ℕ). octet_of h == HT_TRANSIENT) (sym at) ∙ is_transient) in
          omega (arith, octet, same);
    }

-- ---- an object is dropped

-- what the handle of its record says of an item
pub record Met (items : List Item) (index handle : ℕ) : Type 0 where
  pub slot : (item_at items index).slot ≡ Some (slot_of handle)
  pub transient : (octet_of handle == HT_TRANSIENT) ≡ true

pub met : {contexts : ContextLimits} (records : List Record) (items : List Item) (index handle : ℕ) (d : Record) → AreRecords contexts records → items_of records ≡ items → Names items index
    → d ≡ get_or records index d → d.handle ≡ Some handle → Met items index handle
met records items index handle d sound view names d_is handle_is =
    let inside = named_inside records index (subst (λ (l : List Item). Names l index) (sym view) names) in
    let is = ap (λ (r : Record). r.handle) (sym d_is) ∙ handle_is in
    record {
      slot = ap (λ (l : List Item). (item_at l index).slot) (sym view) ∙ slot_is records index handle _ (was records index d inside) is;
      transient = subst (λ (h : Option ℕ). IfSome h (λ handle. (octet_of handle == HT_TRANSIENT) ≡ true)) is (record_at records index d sound inside).handle;
    }

-- and a record without one
pub met_out : (records : List Record) (items : List Item) (index : ℕ) (d : Record) → items_of records ≡ items → Names items index → d ≡ get_or records index d
    → d.handle ≡ None → (item_at items index).slot ≡ None
met_out records items index d view names d_is none =
    let inside = named_inside records index (subst (λ (l : List Item). Names l index) (sym view) names) in
    ap (λ (l : List Item). (item_at l index).slot) (sym view) ∙ none_slot records index d inside (ap (λ (r : Record). r.handle) (sym d_is) ∙ none)

pub left_loses : (state : Option SlotState) (others : List ℕ) (index : ℕ) (old new : List Item) → Stand state old others → index < length old
    → (item_at old index).slot ≡ None → new ≡ set old index no_item → Forgets index state state old new
left_loses state others index old new stand inside slot items = record {
  items = items;
  objects = ap (objects_of state) items ∙ (left_drops state old others index stand inside slot).objects;
}

pub flushed_loses : (state new_state : Option SlotState) (others : List ℕ) (index handle : ℕ) (old new : List Item) → Stand state old others → index < length old
    → (item_at old index).slot ≡ Some (slot_of handle) → new_state ≡ emptied handle state → new ≡ set old index no_item → Forgets index state new_state old new
flushed_loses state new_state others index handle old new stand inside slot state_is items = record {
  items = items;
  objects = (λ i. objects_of (state_is i) (items i)) ∙ (flushed_drops state old others index handle stand inside slot).objects;
}

pub left_dropped : {D : Type 0} (seen : D → Seen) (a : D) (index : ℕ) (old new : ObjectsView) → index < length old.items
    → (item_at old.items index).slot ≡ None → new.items ≡ set old.items index no_item → new.slots ≡ old.slots
    → new.owners ≡ old.owners → new.left ≡ old.left → new.contexts ≡ old.contexts → Dropped seen a a old new
left_dropped seen a index old new inside slot items slots owners left room = record {
  slots = slots;
  owners = owners;
  left = left;
  contexts = room;
  stand = λ others stand. subst (λ (l : List Item). Stand (seen a).state l others) (sym items) (left_drops (seen a).state old.items others index stand inside slot).stand;
  counter = refl;
  rest = record { base_is = refl; rest = refl; rises = omega arith; count = omega arith };
}

pub flushed_dropped : {D : Type 0} (seen : D → Seen) (a b : D) (index handle : ℕ) (old new : ObjectsView) → index < length old.items
    → (item_at old.items index).slot ≡ Some (slot_of handle) → (seen b).state ≡ emptied handle (seen a).state → (seen b).base ≡ (seen a).base
    → (seen a).faults ≤ (seen b).faults → new.items ≡ set old.items index no_item → new.slots ≡ old.slots
    → new.owners ≡ old.owners → new.left ≡ old.left → new.contexts ≡ old.contexts → Dropped seen a b old new
flushed_dropped seen a b index handle old new inside slot state base count items slots owners left room =
    let counter : counter_of (seen b).state ≡ counter_of (seen a).state = ap counter_of state ∙ emptied_counter handle (seen a).state in
    record {
      slots = slots;
      owners = owners;
      left = left;
      contexts = room;
      stand = λ others stand. subst (λ (st : Option SlotState). Stand st new.items others) (sym state)
          (subst (λ (l : List Item). Stand (emptied handle (seen a).state) l others) (sym items) (flushed_drops (seen a).state old.items others index handle stand inside slot).stand);
      counter = counter;
      rest = record { base_is = base; rest = ap rest_of state ∙ emptied_rest handle (seen a).state; rises = omega (arith, counter); count = count };
    }
