-- What bringing one session in comes to, and what making room for sessions does.
use Rattle.std.proofs.Common.{◌≡◌, ◌+◌, ◌-◌, ◌<◌, ◌≤◌, ◌∙◌, [], ◌∷◌, ℕ, true, false, List, set, take, length, refl, ap, subst, sym, arith}
use Rattle.std.specs.Prelude.{◌==◌, Option, Some, None, Result, Ok, Err, min}
use Rattle.std.specs.List.{count_by}
use Rattle.std.proofs.lemmas.Bool.{eqb-false, false≢true}
use Rattle.std.proofs.lemmas.Result.{on_ok_weaker}
use Rattle.tab_spec.specs.declared.numbers.Numbers.{Numbers}
use Rattle.tab_spec.specs.Shape.{number_of_session}
use Rattle.tab_spec.specs.declared.contexts.ContextLimits.{ContextLimits}
use Rattle.device_spec.specs.Slots.{SlotState}
use Rattle.device_port.specs.Device.{Seen, sent_of}
use Rattle.device_port.specs.Use.{all_used, used_after}
use Rattle.device_port.specs.declared.own.SwapError.{SwapError}
use Rattle.session_swap.specs.declared.record.Record.{Record}
use Rattle.session_swap.specs.Items.{AreFree, AreLoaded, AreNamed, Item, Lists, MakesRoom, Names, SessionsView, Stand, evictions, is_loaded_item, is_saved_item, item_at, loaded_items, missing, numbers_of, saved_by_client, without_all}
use Rattle.session_swap.specs.Records.{OrderView, items_of, order_evicted, order_filled, order_in, order_used, view_of, view_with}
use Rattle.session_swap.specs.Moves.{Brings, Evicts, Fills, loadedness}
use Rattle.session_swap.proofs.Among.{named_is}
use Rattle.session_swap.proofs.Listing.{none_if_failed, on_err_all, on_err_weaker}
use Rattle.session_swap.proofs.Making.{kept_at}
use Rattle.session_swap.proofs.Missing.{flags_same, flags_set, loaded_more, missing_same}
use Rattle.session_swap.proofs.Told.{loaded_told, places_told}
use Rattle.session_swap.proofs.Uses.{without_absent}

-- ---- one session

pub brings_idle : {D : Type 0} (seen : D → Seen) (a : D) (records : List Record) (before after : OrderView) (number handle : ℕ)
    → number ≡ number_of_session handle → Names (items_of records) handle → is_loaded_item (item_at (items_of records) number) ≡ true
    → count_by (λ one. one == number) before.saved ≡ 0 → after ≡ order_used number before
    → Brings seen a a records records before after handle (Ok tt)
brings_idle seen a records before after number handle here names is none order = record {
  others = λ other apart. refl;
  sent = omega arith;
  loaded_is = flags_same (items_of records) (number_of_session handle) (ap (λ (n : ℕ). is_loaded_item (item_at (items_of records) n)) (sym here) ∙ is);
  order =
      let saved_is = sym (without_absent number before.saved none) in
      order ∙ (λ i. record { loaded = used_after before.loaded number; saved = saved_is i }) ∙ ap (λ (n : ℕ). order_in n before) here;
  failed = tt;
  paid = omega arith;
  idle = λ here. (refl, refl, refl);
}

pub brings_one : {D : Type 0} (seen : D → Seen) (a b : D) (records new_records : List Record) (before after : OrderView) (number handle : ℕ)
    → number ≡ number_of_session handle
    → number < length records → Names (items_of records) handle → is_loaded_item (item_at (items_of records) number) ≡ false
    → is_loaded_item (item_at (items_of new_records) number) ≡ true
    → items_of new_records ≡ set (items_of records) number (item_at (items_of new_records) number) → after ≡ order_in number before
    → sent_of (seen b) ≤ sent_of (seen a) + 1 → Brings seen a b records new_records before after handle (Ok tt)
brings_one seen a b records new_records before after number handle here fits names out is items_are order sent =
    let items = items_of records in
    let flags = flags_set items (items_of new_records) number items_are is in
    let more = loaded_more records new_records number fits out flags in
    record {
      others = λ other apart. kept_at items (items_of new_records) number other items_are
          (λ same. eqb-false other (number_of_session handle) apart (same ∙ here));
      sent = sent;
      loaded_is = flags ∙ ap (λ (n : ℕ). set (loadedness records) n true) here;
      order = order ∙ ap (λ (n : ℕ). order_in n before) here;
      failed = tt;
      paid = omega (arith, sent, more);
      idle = λ there. absurd
          (false≢true (sym out ∙ ap (λ (n : ℕ). is_loaded_item (item_at items n)) here ∙ ap is_loaded_item (sym (named_is items handle names)) ∙ there));
    }

pub brings_none : {D : Type 0} (seen : D → Seen) (a b : D) (records new_records : List Record) (order : OrderView) (number handle : ℕ)
    (result : Result (Unit {0}) SwapError) (e : SwapError)
    → result ≡ Err e → number ≡ number_of_session handle → Names (items_of records) handle → is_loaded_item (item_at (items_of records) number) ≡ false
    → items_of new_records ≡ items_of records → sent_of (seen b) ≤ sent_of (seen a) + 1
    → Brings seen a b records new_records order order handle result
brings_none seen a b records new_records order number handle result e failed here names out same sent = record {
  others = λ other apart. ap (λ (l : List (Option Item)). item_at l other) same;
  sent = sent;
  loaded_is = none_if_failed _ result e failed;
  order = none_if_failed _ result e failed;
  failed = on_err_all _ result refl;
  paid = none_if_failed _ result e failed;
  idle = λ there. absurd (false≢true (sym out ∙ ap (λ (n : ℕ). is_loaded_item (item_at (items_of records) n)) here
      ∙ ap is_loaded_item (sym (named_is (items_of records) handle names)) ∙ there));
}

-- ---- a session that was saved for its client

saved_listed : (context : List ℕ) (item : Option Item) → is_loaded_item item ≡ true → is_saved_item (saved_by_client context item) ≡ true
saved_listed context None there = absurd cc
saved_listed context (Some item) there = refl

pub saved_apart : (items new_items : List (Option Item)) (number handle : ℕ) (context : List ℕ) → number ≡ number_of_session handle
    → is_loaded_item (item_at items number) ≡ true
    → new_items ≡ set items (number_of_session handle) (saved_by_client context (item_at items (number_of_session handle)))
    → (item : Option Item) × (new_items ≡ set items number item) × (is_saved_item item ≡ true)
saved_apart items new_items number handle context here there is =
    let item = saved_by_client context (item_at items (number_of_session handle)) in (
      item,
      is ∙ ap (λ (n : ℕ). set items n item) (sym here),
      saved_listed context (item_at items (number_of_session handle)) (ap (λ (n : ℕ). is_loaded_item (item_at items n)) (sym here) ∙ there),
    )

-- ---- making room

-- so many have to be saved
out_by : (places old lost new most : ℕ) → lost ≤ most → most + new ≡ places → old - (most - lost) ≡ old + lost + new - places
out_by places old lost new most few fits = omega (arith, few, fits)

full_by : (old lost most mid new : ℕ) → lost ≤ most → mid ≡ min old (most - lost) → new ≡ mid + lost → new + (old - (most - lost)) ≡ old + lost
full_by old lost most mid new few left count = omega (arith, few, left, count)

abbrev done : Result (Unit {0}) SwapError
done = Ok tt

abbrev failing : SwapError → Result (Unit {0}) SwapError
failing e = Err e

-- what is to be made room for: this many are loaded, this many that are needed aren't, and so many may stay beside them
pub record Room (numbers : Numbers) (records : List Record) (needed : List ℕ) (new most count : ℕ) : Type 0 where
  pub is : count ≡ missing needed (items_of records)
  pub few : count ≤ most
  pub fits : most + new ≡ numbers.loaded
  pub places : loaded_items (items_of records) ≤ numbers.loaded

out_of : (numbers : Numbers) (records : List Record) (needed : List ℕ) (new most count : ℕ) → Room numbers records needed new most count
    → loaded_items (items_of records) - (most - count) ≡ evictions needed new (view_of numbers records 0)
out_of numbers records needed new most count room =
    let old = loaded_items (items_of records) in
    ap (λ (n : ℕ). old - (most - n)) room.is ∙ out_by numbers.loaded old (missing needed (items_of records)) new most (omega (arith, room.is, room.few)) room.fits

-- the order, once all that is needed is loaded
filled_loaded : (numbers : List ℕ) (order : OrderView) → (order_filled numbers order).loaded ≡ all_used order.loaded numbers
filled_loaded [] order = refl
filled_loaded (number ∷ numbers) order = filled_loaded numbers (order_in number order)

filled_saved : (numbers : List ℕ) (order : OrderView) → (order_filled numbers order).saved ≡ without_all order.saved numbers
filled_saved [] order = refl
filled_saved (number ∷ numbers) order = filled_saved numbers (order_in number order)

-- sessions are saved, and then those that are needed are loaded
pub room_made : {contexts : ContextLimits} {D : Type 0} (numbers : Numbers) (seen : D → Seen) (a b c : D) (needed : List ℕ) (new most count : ℕ) (xs ys zs : List Record)
    (next mid_next : ℕ) (first mid last : OrderView) (result : Result (Unit {0}) SwapError)
    → Room numbers xs needed new most count → AreNamed needed (items_of xs) → Evicts seen a b xs ys first mid needed (most - count) (Ok tt)
    → (loaded_items (items_of xs) ≤ most - count → (b ≡ a) × (ys ≡ xs) × (mid_next ≡ next) × (done ≡ Ok tt))
    → Fills seen b c ys zs mid last needed result → Lists last.loaded (items_of zs)
    → MakesRoom seen a c needed new (view_with numbers xs next first contexts) (view_with numbers zs mid_next last contexts) result
room_made numbers seen a b c needed new most count xs ys zs next mid_next first mid last result room named cleared still filled listed =
    let missing_is = missing_same needed (items_of xs) (items_of ys) named cleared.stay in
    let out = out_of numbers xs needed new most count room in
    record {
      sent = omega (arith, cleared.sent, filled.sent, missing_is, out);
      few = omega (arith, out, room.is, room.few, room.fits, room.places);
      full = on_ok_weaker result
          (λ more. omega (
            arith,
            out,
            full_by (loaded_items (items_of xs)) (missing needed (items_of xs)) most (loaded_items (items_of ys)) (loaded_items (items_of zs))
                (omega (arith, room.is, room.few)) (omega (arith, cleared.left, room.is)) (omega (arith, more, missing_is)),
            room.is,
          )) filled.count;
      rest = λ none number here.
          let same = (still (omega (arith, none, out))).1 in
          filled.stay number (ap (λ (l : List Record). is_loaded_item (item_at (items_of l) number)) same ∙ here)
          ∙ ap (λ (l : List Record). item_at (items_of l) number) same;
      idle = λ all none.
          let before = still (omega (arith, none, out)) in
          let after = filled.idle (subst (λ (l : List Record). AreLoaded needed (items_of l)) (sym before.1) all) in
          (after.0 ∙ before.0, ap (λ (l : List Record). items_of l) (after.1 ∙ before.1), before.2, after.2);
      order = on_ok_weaker result
          (λ used.
          let cleared_is = cleared.order ∙ ap (λ (n : ℕ). order_evicted n (numbers_of needed) first) out in
          ap (λ (o : OrderView). o.loaded) (used ∙ ap (order_filled (numbers_of needed)) cleared_is)
          ∙ filled_loaded (numbers_of needed) (order_evicted (evictions needed new (view_of numbers xs 0)) (numbers_of needed) first)) filled.order;
      saved = on_ok_weaker result
          (λ used.
          let cleared_is = cleared.order ∙ ap (λ (n : ℕ). order_evicted n (numbers_of needed) first) out in
          ap (λ (o : OrderView). o.saved) (used ∙ ap (order_filled (numbers_of needed)) cleared_is)
          ∙ filled_saved (numbers_of needed) (order_evicted (evictions needed new (view_of numbers xs 0)) (numbers_of needed) first)) filled.order;
      failed = on_err_weaker result
          (λ some.
          let cleared_is = cleared.order ∙ ap (λ (n : ℕ). order_evicted n (numbers_of needed) first) out in
          let used = take some.0 (numbers_of needed) in
          let is : last ≡ order_filled used (order_evicted (evictions needed new (view_of numbers xs 0)) (numbers_of needed) first) =
          some.1 ∙ ap (order_filled used) cleared_is in (
            evictions needed new (view_of numbers xs 0),
            some.0,
            omega arith,
            ap (λ (o : OrderView). o.loaded) is
                ∙ filled_loaded used (order_evicted (evictions needed new (view_of numbers xs 0)) (numbers_of needed) first),
            ap (λ (o : OrderView). o.saved) is
                ∙ filled_saved used (order_evicted (evictions needed new (view_of numbers xs 0)) (numbers_of needed) first),
          )) filled.failed;
      listed = listed;
    }

-- where not all of them were saved that had to be
pub room_failed : {contexts : ContextLimits} {D : Type 0} (numbers : Numbers) (seen : D → Seen) (a b : D) (needed : List ℕ) (new most count : ℕ) (xs ys : List Record)
    (next new_next : ℕ) (first last : OrderView) (result : Result (Unit {0}) SwapError) (e : SwapError)
    → Room numbers xs needed new most count → Evicts seen a b xs ys first last needed (most - count) (Err e)
    → (loaded_items (items_of xs) ≤ most - count → (b ≡ a) × (ys ≡ xs) × (new_next ≡ next) × (failing e ≡ Ok tt))
    → result ≡ Err e → Lists last.loaded (items_of ys) → MakesRoom seen a b needed new (view_with numbers xs next first contexts) (view_with numbers ys new_next last contexts) result
room_failed numbers seen a b needed new most count xs ys next new_next first last result e room cleared still failed listed =
    let out = out_of numbers xs needed new most count room in
    record {
      sent = omega (arith, cleared.sent, out);
      few = omega (arith, out, room.is, room.few, room.fits, room.places);
      full = none_if_failed _ result e failed;
      rest = λ none number here. ap (λ (l : List Record). item_at (items_of l) number) (still (omega (arith, none, out))).1;
      idle = λ all none. let no = (still (omega (arith, none, out))).3 in absurd cc;
      order = none_if_failed _ result e failed;
      saved = none_if_failed _ result e failed;
      failed = on_err_all _ result (
        cleared.failed.0,
        0,
        omega (arith, cleared.failed.1, out),
        ap (λ (o : OrderView). o.loaded) cleared.failed.2,
        ap (λ (o : OrderView). o.saved) cleared.failed.2,
      );
      listed = listed;
    }

-- which sessions were left doesn't count
pub room_whole : {D : Type 0} (seen : D → Seen) (a b : D) (needed : List ℕ) (new : ℕ) (view new_view : SessionsView)
    (result : Result (Unit {0}) SwapError)
    → MakesRoom seen a b needed new (record view { left = [] }) (record new_view { left = [] }) result
    → MakesRoom seen a b needed new view new_view result
room_whole seen a b needed new view new_view result room = record {
  sent = room.sent;
  few = room.few;
  full = room.full;
  rest = room.rest;
  idle = room.idle;
  order = room.order;
  saved = room.saved;
  failed = room.failed;
  listed = room.listed;
}

-- so many places are free, where that is so by what is kept
pub free_places : (state : Option SlotState) (view : SessionsView) (new : ℕ) → Stand state view [] → loaded_items view.items + new ≤ view.numbers.loaded
    → AreFree state new
free_places None view new stand few = tt
free_places (Some slots) view new stand few = omega (arith, few, loaded_told slots view stand, places_told slots view [] stand)
