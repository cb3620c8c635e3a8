use Rattle.std.proofs.Common.{◌≡◌, ◌+◌, ◌<◌, ◌≤◌, ◌∙◌, ℕ, List, drop, length, true, false, refl, sym, ap, arith, get_or}
use borrow.Author.Count.{below_more}
use Rattle.std.specs.Prelude.{Ok}
use Rattle.std.proofs.lemmas.Bool.{false_from_ne_true}
use Rattle.std.proofs.lemmas.List.{length-map}
use Rattle.std.proofs.lemmas.Result.{err_from_is_err_and}
use Rattle.tab_spec.specs.Shape.{number_of_session}
use Rattle.session_swap.specs.declared.record.Record.{Record}
use Rattle.tab_spec.specs.declared.numbers.Numbers.{Numbers}
use Rattle.session_swap.specs.Items.{Names, is_loaded_item, item_at, item_of, loaded_items, missing, numbers_of}
use Rattle.session_swap.specs.Records.{items_of, order_in}
use Rattle.session_swap.specs.Moves.{CanFill, loadedness}
use Rattle.session_swap.proofs.Among.{all_loaded, named_again, named_is, needed_named}
use Rattle.device_port.proofs.Sending.{asks_none, asks_then, some_failed}
use Rattle.session_swap.proofs.Listing.{none_if_failed, on_err_all}
use Rattle.session_swap.proofs.Making.{named_record, stay_brought, stay_named, stay_then, swaps_start, swaps_then}
use Rattle.session_swap.proofs.Missing.{brought_loaded, brought_next, loaded_needed, missing_in, missing_numbers, none_past, number_at, some_missing}
use Rattle.session_swap.proofs.Uses.{filled_all, filled_next}
use Rattle.session_swap.proofs.places.fill_places.Goals as goal

pub loop-handle-init : goal.loop-handle-init
loop-handle-init g c =
    let items = items_of c.args.records.now in
    record {
      swaps = swaps_start _ c.args.device.now c.args.records.now;
      ready = λ numbers ready can. ready;
      counter = refl;
      filled = λ k below. absurd (omega (arith, below));
      stay = λ number is. refl;
      left = omega (arith, missing_numbers c.args.needed.now items c.requires.ready.2.named);
      paid = omega arith;
      idle = λ all. (refl, refl);
      order = refl;
      asks = asks_none g.D.Device.CONTEXTS g.D.Device.seen c.args.device.now;
    }

-- where a session that is needed isn't loaded, a place is free
room_for : (numbers : Numbers) (first records : List Record) (needed : List ℕ) (index : ℕ) → CanFill numbers first needed
    → missing_in (drop index (numbers_of needed)) (loadedness records) + loaded_items (items_of records)
    ≡ missing needed (items_of first) + loaded_items (items_of first)
    → index < length needed → Names (items_of records) (get_or needed index 0)
    → is_loaded_item (item_of (items_of records) (get_or needed index 0)) ≡ false → loaded_items (items_of records) < numbers.loaded
room_for numbers first records needed index can left inside names out =
    let handle = get_or needed index 0 in
    let gone : is_loaded_item (item_at (items_of records) (number_of_session handle)) ≡ false =
    ap is_loaded_item (sym (named_is (items_of records) handle names)) ∙ out in
    omega (arith, can.fits, left, some_missing needed index records inside (named_record records handle names) gone)

pub make_loaded-requires-clause-named : goal.make_loaded-requires-clause-named
make_loaded-requires-clause-named g c =
    let items = items_of c.args.records.now in
    named_again items (items_of c.loop-handle.records) _ c.loop-handle.invariant.swaps.sessions.holders
    (needed_named c.args.needed.now items c.loop-handle.handle-index 0 c.requires.ready.2.named c.loop-handle-test.true)

pub make_loaded-requires-clause-ready : goal.make_loaded-requires-clause-ready
make_loaded-requires-clause-ready g c =
    let items = items_of c.args.records.now in
    let needed = c.args.needed.now in
    let records = c.loop-handle.records in
    let held = c.loop-handle.invariant in
    let index = c.loop-handle.handle-index in
    let inside = c.loop-handle-test.true in
    let numbers = c.requires.ready.0 in
    let can = c.requires.ready.2 in
    let names = named_again items (items_of records) _ held.swaps.sessions.holders (needed_named needed items index 0 can.named inside) in (
      numbers,
      held.ready numbers c.requires.ready.1 can,
      room_for numbers c.args.records.now records needed index can held.left inside names,
    )

pub loop-handle-preserved : goal.loop-handle-preserved
loop-handle-preserved g c =
    let held = c.loop-handle.invariant in
    let next = c.in_ok-make_loaded.ensures in
    let brings = next.brings in
    let needed = c.args.needed.now in
    let items = items_of c.args.records.now in
    let records = c.loop-handle.records in
    let new = c.make_loaded.new.records in
    let index = c.loop-handle.handle-index in
    let handle = get_or needed index 0 in
    let inside = c.loop-handle-test.true in
    let names = named_again items (items_of records) _ held.swaps.sessions.holders (needed_named needed items index 0 c.requires.ready.2.named inside) in
    let fits = named_record records handle names in
    let step = stay_brought records new handle names brings.others (λ here. (brings.idle here).1) in
    record {
      swaps = swaps_then _ c.args.device.now c.loop-handle.device c.make_loaded.new.device _ _ _ held.swaps next.swaps;
      ready = λ numbers ready can.
          next.ready numbers (held.ready numbers ready can) (room_for numbers c.args.records.now records needed index can held.left inside names);
      counter = next.counter ∙ held.counter;
      filled = below_more (λ k. is_loaded_item (item_of (items_of new) (get_or needed k 0)) ≡ true) index
          (λ k below. ap is_loaded_item (stay_named (items_of records) (items_of new) (get_or needed k 0) step (held.filled k below)) ∙ held.filled k below)
          (brought_loaded records new handle names next.swaps.sessions.holders fits brings.loaded_is);
      stay = stay_then items (items_of records) (items_of new) held.stay step;
      left = sym (brought_next needed index records new inside fits brings.loaded_is) ∙ held.left;
      paid = omega (arith, held.paid, brings.paid);
      idle = λ all.
          let so_far = held.idle all in
          let here : is_loaded_item (item_of (items_of records) handle) ≡ true =
          ap (λ (l : List Record). is_loaded_item (item_of (items_of l) handle)) so_far.1 ∙ loaded_needed needed items index all inside in
          let same = brings.idle here in
          (same.0 ∙ so_far.0, same.1 ∙ so_far.1);
      order =
          let numbers = numbers_of needed in
          let within : index < length numbers = omega (arith, inside, length-map needed number_of_session) in
          let used : c.make_loaded.new.order ≡ order_in (get_or numbers index 0) c.loop-handle.order =
          brings.order ∙ ap (λ (n : ℕ). order_in n c.loop-handle.order) (sym (number_at needed index inside)) in
          used ∙ ap (order_in (get_or numbers index 0)) held.order ∙ filled_next numbers c.args.order.now index within;
      asks = asks_then g.D.Device.CONTEXTS g.D.Device.seen c.args.device.now c.loop-handle.device c.make_loaded.new.device tt (Ok tt) held.asks next.asks;
    }

pub returns-clause-fills : goal.returns-clause-fills
returns-clause-fills g c =
    let held = c.loop-handle.invariant in
    let past = none_past c.args.needed.now c.loop-handle.handle-index (loadedness c.loop-handle.records) (omega arith) in
    record {
      stay = held.stay;
      loaded_is = all_loaded c.args.needed.now (items_of c.loop-handle.records) (λ k inside. held.filled k (omega arith));
      count = omega (arith, held.left, past);
      sent = omega (arith, held.left, held.paid, past);
      idle = λ all. ((held.idle all).0, (held.idle all).1, refl);
      order =
          let past : length (numbers_of c.args.needed.now) ≤ c.loop-handle.handle-index = omega (arith, length-map c.args.needed.now number_of_session) in
          held.order ∙ filled_all (numbers_of c.args.needed.now) c.args.order.now c.loop-handle.handle-index past;
      failed = tt;
    }

pub returns-in_err-make_loaded-clause-fills : goal.returns-in_err-make_loaded-clause-fills
returns-in_err-make_loaded-clause-fills g c =
    let held = c.loop-handle.invariant in
    let brings = c.in_err-make_loaded.ensures.brings in
    let needed = c.args.needed.now in
    let items = items_of c.args.records.now in
    let records = c.loop-handle.records in
    let new = c.make_loaded.new.records in
    let index = c.loop-handle.handle-index in
    let handle = get_or needed index 0 in
    let inside = c.loop-handle-test.true in
    let failed = err_from_is_err_and c.from_residual.result c.from_residual.ensures.1 in
    let names = named_again items (items_of records) _ held.swaps.sessions.holders (needed_named needed items index 0 c.requires.ready.2.named inside) in
    let never : is_loaded_item (item_of (items_of records) handle) ≡ true → ⊥ = λ here. let ok = (brings.idle here).2 in absurd cc in
    let out = false_from_ne_true (is_loaded_item (item_of (items_of records) handle)) never in
    let gone : is_loaded_item (item_at (items_of records) (number_of_session handle)) ≡ false =
    ap is_loaded_item (sym (named_is (items_of records) handle names)) ∙ out in
    let some = some_missing needed index records inside (named_record records handle names) gone in
    record {
      stay = stay_then items (items_of records) (items_of new) held.stay (stay_brought records new handle names brings.others (λ here. (brings.idle here).1));
      loaded_is = none_if_failed _ c.from_residual.result _ failed.1;
      count = none_if_failed _ c.from_residual.result _ failed.1;
      order = none_if_failed _ c.from_residual.result _ failed.1;
      failed = on_err_all _ c.from_residual.result (index, brings.failed ∙ held.order);
      sent = omega (arith, held.left, held.paid, brings.sent, some);
      idle = λ all.
          let so_far = held.idle all in
          absurd (never (ap (λ (l : List Record). is_loaded_item (item_of (items_of l) handle)) so_far.1 ∙ loaded_needed needed items index all inside));
    }

pub returns-in_err-make_loaded-clause-asks : goal.returns-in_err-make_loaded-clause-asks
returns-in_err-make_loaded-clause-asks g c =
    let seen = g.D.Device.seen in
    asks_then g.D.Device.CONTEXTS seen c.args.device.now c.loop-handle.device c.make_loaded.new.device tt c.from_residual.result c.loop-handle.invariant.asks
    (some_failed g.D.Device.CONTEXTS seen c.loop-handle.device c.make_loaded.new.device _ c.from_residual.result
    (err_from_is_err_and c.from_residual.result c.from_residual.ensures.1) c.in_err-make_loaded.ensures.asks)

pub returns-in_err-make_loaded-clause-ready : goal.returns-in_err-make_loaded-clause-ready
returns-in_err-make_loaded-clause-ready g c numbers ready can =
    let held = c.loop-handle.invariant in
    let needed = c.args.needed.now in
    let items = items_of c.args.records.now in
    let records = c.loop-handle.records in
    let index = c.loop-handle.handle-index in
    let inside = c.loop-handle-test.true in
    let names = named_again items (items_of records) _ held.swaps.sessions.holders (needed_named needed items index 0 can.named inside) in
    c.in_err-make_loaded.ensures.ready numbers (held.ready numbers ready can)
    (room_for numbers c.args.records.now records needed index can held.left inside names)
