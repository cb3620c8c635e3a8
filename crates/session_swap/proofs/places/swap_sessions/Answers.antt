use Rattle.std.proofs.Common.{◌≡◌, ◌≤◌, ◌∙◌, ◌+◌, ◌-◌, ℕ, List, true, ap, arith}
use Rattle.std.specs.Prelude.{Err, min}
use Rattle.std.proofs.lemmas.Result.{err_from_is_err_and}
use Rattle.device_port.specs.declared.own.SwapError.{SwapError}
use Rattle.device_port.proofs.Sending.{asks_then}
use Rattle.tab_spec.specs.declared.numbers.Numbers.{Numbers}
use Rattle.device_port.specs.Use.{is_among}
use Rattle.session_swap.specs.declared.record.Record.{Record}
use Rattle.session_swap.specs.Items.{AreNamed, Names, holders, item_of, loaded_items, missing}
use Rattle.session_swap.specs.Moves.{CanFill}
use Rattle.session_swap.specs.Records.{items_of, view_of}
use Rattle.session_swap.proofs.Among.{all_named, loaded_some}
use Rattle.session_swap.proofs.Asking.{on_ok_both}
use Rattle.session_swap.proofs.Bringing.{Room, free_places, room_failed, room_made}
use Rattle.session_swap.proofs.Making.{same_then, stay_named, swaps_then}
use Rattle.session_swap.proofs.Missing.{missing_same}
use Rattle.session_swap.proofs.places.swap_sessions.Goals as goal

pub clear_places-requires-clause-ready : goal.clear_places-requires-clause-ready
clear_places-requires-clause-ready g c = (c.args.numbers, c.requires.ready)

-- what is needed can be loaded then
can_fill : (numbers : Numbers) (first mid : List Record) (needed : List ℕ) (new count : ℕ) → AreNamed needed (items_of first)
    → holders (items_of mid) ≡ holders (items_of first)
    → ((handle : ℕ) → Names (items_of first) handle → is_among needed handle ≡ true
    → item_of (items_of mid) handle ≡ item_of (items_of first) handle)
    → loaded_items (items_of mid) ≡ min (loaded_items (items_of first)) (numbers.loaded - new - count)
    → count ≡ missing needed (items_of first) → count + new ≤ numbers.loaded → CanFill numbers mid needed
can_fill numbers first mid needed new count named same stay left is fits =
    let missing_is = missing_same needed (items_of first) (items_of mid) named stay in
    record { named = all_named needed (items_of first) (items_of mid) same named; fits = omega (arith, left, missing_is, is, fits) }

pub fill_places-requires : goal.fill_places-requires
fill_places-requires g c =
    let cleared = c.in_ok-clear_places.ensures in
    let can = can_fill c.args.numbers c.args.records.now c.clear_places.new.records c.args.needed.now c.args.new_places c.count_missing-missing.result
    c.requires.needed.named cleared.swaps.sessions.holders cleared.evicts.stay (omega (arith, cleared.evicts.left, c.from.ensures, c.from-2.ensures))
    c.count_missing-missing.ensures.count
    (omega (arith, c.count_missing-missing.ensures.most, c.requires.needed.fits, c.requires.ready.listed.range.loaded_least)) in
    record { ready = (c.args.numbers, cleared.ready c.args.numbers c.requires.ready, can) }

pub returns-clause-swaps : goal.returns-clause-swaps
returns-clause-swaps g c =
    let cleared = c.in_ok-clear_places.ensures in
    let filled = c.fill_places.ensures in
    let items = items_of c.args.records.now in
    let mid = items_of c.clear_places.new.records in
    let new_items = items_of c.fill_places.new.records in
    record {
      swaps = swaps_then _ c.args.device.now c.clear_places.new.device c.fill_places.new.device _ _ _ cleared.swaps filled.swaps;
      stay = λ handle any is.
          same_then items mid new_items handle (cleared.evicts.stay handle (loaded_some (item_of items handle) is) any)
          (stay_named mid new_items handle filled.fills.stay) is;
      counter = omega (arith, filled.counter, cleared.evicts.counter);
    }

pub returns-in_err-clear_places-clause-swaps : goal.returns-in_err-clear_places-clause-swaps
returns-in_err-clear_places-clause-swaps g c =
    let cleared = c.in_err-clear_places.ensures in
    record {
      swaps = cleared.swaps;
      stay = λ handle any is. cleared.evicts.stay handle (loaded_some (item_of (items_of c.args.records.now) handle) is) any;
      counter = cleared.evicts.counter;
    }

pub returns-clause-ok : goal.returns-clause-ok
returns-clause-ok g c =
    let cleared = c.in_ok-clear_places.ensures in
    let can = can_fill c.args.numbers c.args.records.now c.clear_places.new.records c.args.needed.now c.args.new_places c.count_missing-missing.result
    c.requires.needed.named cleared.swaps.sessions.holders cleared.evicts.stay (omega (arith, cleared.evicts.left, c.from.ensures, c.from-2.ensures))
    c.count_missing-missing.ensures.count
    (omega (arith, c.count_missing-missing.ensures.most, c.requires.needed.fits, c.requires.ready.listed.range.loaded_least)) in
    let fills = c.fill_places.ensures.fills in
    let count = c.count_missing-missing.ensures in
    let new = c.fill_places.new in
    let missing_is = missing_same c.args.needed.now (items_of c.args.records.now) (items_of c.clear_places.new.records) c.requires.needed.named
    cleared.evicts.stay in
    let held = c.fill_places.ensures.ready c.args.numbers (cleared.ready c.args.numbers c.requires.ready) can in
    on_ok_both c.fill_places.result _ _
    (λ loaded more.
    let few : loaded_items (items_of new.records) + c.args.new_places ≤ c.args.numbers.loaded =
    omega (
      arith,
      more,
      cleared.evicts.left,
      missing_is,
      count.count,
      count.most,
      c.requires.needed.fits,
      c.requires.ready.listed.range.loaded_least,
      c.from.ensures,
      c.from-2.ensures,
    ) in
    record {
      loaded = loaded;
      few = few;
      free = free_places (g.D.Device.seen new.device).state (view_of c.args.numbers new.records c.clear_places.new.next) c.args.new_places
          held.ready.stand few;
    }) fills.loaded_is fills.count

pub returns-clause-room : goal.returns-clause-room
returns-clause-room g c =
    let count = c.count_missing-missing.ensures in
    let cleared = c.in_ok-clear_places.ensures in
    let can = can_fill c.args.numbers c.args.records.now c.clear_places.new.records c.args.needed.now c.args.new_places c.count_missing-missing.result
    c.requires.needed.named cleared.swaps.sessions.holders cleared.evicts.stay (omega (arith, cleared.evicts.left, c.from.ensures, c.from-2.ensures))
    c.count_missing-missing.ensures.count
    (omega (arith, c.count_missing-missing.ensures.most, c.requires.needed.fits, c.requires.ready.listed.range.loaded_least)) in
    let fits = c.requires.needed.fits in
    let most = c.from.result - c.from-2.result in
    let listed = c.requires.ready.listed in
    let room : Room c.args.numbers c.args.records.now c.args.needed.now c.args.new_places most c.count_missing-missing.result = record {
      is = count.count;
      few = omega (arith, count.most, fits, listed.range.loaded_least, c.from.ensures, c.from-2.ensures);
      fits = omega (arith, fits, listed.range.loaded_least, c.from.ensures, c.from-2.ensures);
      places = omega (arith, listed.most, listed.lists.count);
    } in
    room_made c.args.numbers g.D.Device.seen c.args.device.now c.clear_places.new.device c.fill_places.new.device c.args.needed.now c.args.new_places most
    c.count_missing-missing.result c.args.records.now c.clear_places.new.records c.fill_places.new.records c.args.next.now c.clear_places.new.next
    c.args.order.now c.clear_places.new.order c.fill_places.new.order c.fill_places.result
    room c.requires.needed.named cleared.evicts cleared.idle c.fill_places.ensures.fills
    (c.fill_places.ensures.ready c.args.numbers (cleared.ready c.args.numbers c.requires.ready) can).listed.lists

pub returns-in_err-clear_places-clause-room : goal.returns-in_err-clear_places-clause-room
returns-in_err-clear_places-clause-room g c =
    let count = c.count_missing-missing.ensures in
    let cleared = c.in_err-clear_places.ensures in
    let fits = c.requires.needed.fits in
    let most = c.from.result - c.from-2.result in
    let listed = c.requires.ready.listed in
    let room : Room c.args.numbers c.args.records.now c.args.needed.now c.args.new_places most c.count_missing-missing.result = record {
      is = count.count;
      few = omega (arith, count.most, fits, listed.range.loaded_least, c.from.ensures, c.from-2.ensures);
      fits = omega (arith, fits, listed.range.loaded_least, c.from.ensures, c.from-2.ensures);
      places = omega (arith, listed.most, listed.lists.count);
    } in
    let failed = err_from_is_err_and c.from_residual.result c.from_residual.ensures.1 in
    room_failed c.args.numbers g.D.Device.seen c.args.device.now c.clear_places.new.device c.args.needed.now c.args.new_places most c.count_missing-missing.result
    c.args.records.now c.clear_places.new.records c.args.next.now c.clear_places.new.next c.args.order.now c.clear_places.new.order
    c.from_residual.result _ room cleared.evicts cleared.idle (failed.1 ∙ ap (λ (e : SwapError). Err e) failed.2) (cleared.ready c.args.numbers c.requires.ready).listed.lists

pub returns-clause-asks : goal.returns-clause-asks
returns-clause-asks g c =
    asks_then g.D.Device.CONTEXTS g.D.Device.seen _ c.clear_places.new.device _ tt c.fill_places.result c.in_ok-clear_places.ensures.asks c.fill_places.ensures.asks

pub returns-clause-ready : goal.returns-clause-ready
returns-clause-ready g c =
    let cleared = c.in_ok-clear_places.ensures in
    let can = can_fill c.args.numbers c.args.records.now c.clear_places.new.records c.args.needed.now c.args.new_places c.count_missing-missing.result
    c.requires.needed.named cleared.swaps.sessions.holders cleared.evicts.stay (omega (arith, cleared.evicts.left, c.from.ensures, c.from-2.ensures))
    c.count_missing-missing.ensures.count
    (omega (arith, c.count_missing-missing.ensures.most, c.requires.needed.fits, c.requires.ready.listed.range.loaded_least)) in
    c.fill_places.ensures.ready c.args.numbers (cleared.ready c.args.numbers c.requires.ready) can

pub returns-in_err-clear_places-clause-ready : goal.returns-in_err-clear_places-clause-ready
returns-in_err-clear_places-clause-ready g c = c.in_err-clear_places.ensures.ready c.args.numbers c.requires.ready
