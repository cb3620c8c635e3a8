use Rattle.std.proofs.Common.{◌≡◌, ◌≤◌, ◌∙◌, ◌-◌, ℕ, List, true, [], length, ap, sym, refl, arith}
use Rattle.std.specs.Prelude.{Err, Ok, Option}
use Rattle.std.proofs.lemmas.Result.{err_from_is_err_and}
use Rattle.device_spec.specs.ContextCommands.{context_save_command}
use Rattle.session_swap.specs.Items.{Item, counter_of, is_loaded_item, item_at, item_of, loaded_items, numbers_of}
use Rattle.session_swap.specs.Records.{OrderView, items_of, order_evicted}
use Rattle.session_swap.proofs.Among.{all_named, named_again}
use Rattle.device_port.proofs.Sending.{asks_none, asks_then, some_failed}
use Rattle.session_swap.proofs.Asking.{asks_any, sent_any}
use Rattle.session_swap.proofs.Listing.{listed_loaded, listed_once, none_if_failed, on_err_all}
use Rattle.session_swap.proofs.Readying.{ready_out, ready_still}
use Rattle.session_swap.proofs.Threads.{length_without}
use Rattle.session_swap.proofs.Making.{can_save, needed_kept, one_fewer, saved_left, swaps_start, swaps_then}
use Rattle.session_swap.proofs.Missing.{chosen, chosen_gone, chosen_one, fit_alone, missing_same, some_chosen}
use Rattle.session_swap.proofs.Uses.{none_evicted, one_more_gone}
use Rattle.session_swap.proofs.places.clear_places.Goals as goal

pub loop-records-init : goal.loop-records-init
loop-records-init g c = record {
  swaps = swaps_start _ c.args.device.now c.args.records.now;
  ready = λ numbers ready. ready;
  left = omega arith;
  stay = λ handle names any. refl;
  least = omega arith;
  less = omega arith;
  order =
      let none : 0 ≡ loaded_items (items_of c.args.records.now) - loaded_items (items_of c.args.records.now) = omega arith in
      sym (none_evicted (numbers_of c.args.needed.now) c.args.order.now)
      ∙ ap (λ (n : ℕ). order_evicted n (numbers_of c.args.needed.now) c.args.order.now) none;
  sent = omega arith;
  idle = λ room. (refl, refl, refl);
  asks = asks_none g.D.Device.CONTEXTS g.D.Device.seen c.args.device.now;
}

pub unwrap-number-requires : goal.unwrap-number-requires
unwrap-number-requires g c =
    let held = c.loop-records.invariant in
    let ready = held.ready c.requires.ready.0 c.requires.ready.1 in
    let needed = c.args.needed.now in
    let items = items_of c.args.records.now in
    let mid = items_of c.loop-records.records in
    let full = c.loop-records-test.true in
    let named = all_named needed items mid held.swaps.sessions.holders c.requires.needed.named in
    some_chosen needed mid c.loop-records.order.loaded c.unneeded.result c.unneeded.ensures
    (λ among. omega (
      arith,
      full,
      c.loaded.ensures,
      c.requires.needed.fits,
      missing_same needed items mid c.requires.needed.named held.stay,
      fit_alone needed c.loop-records.records c.loop-records.order.loaded ready.ready.sound named ready.listed.lists among,
    ))

pub put_out-requires-clause-loaded : goal.put_out-requires-clause-loaded
put_out-requires-clause-loaded g c =
    let held = c.loop-records.invariant in
    let ready = held.ready c.requires.ready.0 c.requires.ready.1 in
    let mid = items_of c.loop-records.records in
    let found = chosen c.args.needed.now mid c.loop-records.order.loaded c.unneeded.result c.unwrap-number.result c.unneeded.ensures
    c.unwrap-number.ensures in
    ap (λ (n : ℕ). is_loaded_item (item_at mid n)) (sym found.here)
    ∙ listed_loaded mid c.loop-records.order.loaded found.at 0 ready.listed.lists found.inside

pub move_out-requires : goal.move_out-requires
move_out-requires g c =
    let held = c.loop-records.invariant in
    let ready = held.ready c.requires.ready.0 c.requires.ready.1 in
    let mid = items_of c.loop-records.records in
    let found = chosen c.args.needed.now mid c.loop-records.order.loaded c.unneeded.result c.unwrap-number.result c.unneeded.ensures
    c.unwrap-number.ensures in
    let there : is_loaded_item (item_at mid c.unwrap-number.result) ≡ true = ap (λ (n : ℕ). is_loaded_item (item_at mid n)) (sym found.here)
    ∙ listed_loaded mid c.loop-records.order.loaded found.at 0 ready.listed.lists found.inside in
    listed_once is_loaded_item refl mid c.loop-records.order.loaded c.unwrap-number.result ready.listed.lists there

pub put_out-requires-clause-ready : goal.put_out-requires-clause-ready
put_out-requires-clause-ready g c =
    (c.requires.ready.0, [], (c.loop-records.invariant.ready c.requires.ready.0 c.requires.ready.1).ready)

pub put_out-requires-clause-may : goal.put_out-requires-clause-may
put_out-requires-clause-may g c =
    let held = c.loop-records.invariant in
    let ready = held.ready c.requires.ready.0 c.requires.ready.1 in
    can_save (g.D.Device.seen c.args.device.now).state (g.D.Device.seen c.loop-records.device).state (items_of c.loop-records.records)
    (loaded_items (items_of c.args.records.now)) c.requires.may held.swaps.rest held.swaps.gap held.left
    (omega (arith, c.requires.needed.few, c.loop-records-test.true, c.loaded.ensures, ready.listed.lists.count))

pub loop-records-smaller : goal.loop-records-smaller
loop-records-smaller g c =
    let held = c.loop-records.invariant in
    let ready = held.ready c.requires.ready.0 c.requires.ready.1 in
    let mid = items_of c.loop-records.records in
    let found = chosen c.args.needed.now mid c.loop-records.order.loaded c.unneeded.result c.unwrap-number.result c.unneeded.ensures
    c.unwrap-number.ensures in
    let there : is_loaded_item (item_at mid c.unwrap-number.result) ≡ true = ap (λ (n : ℕ). is_loaded_item (item_at mid n)) (sym found.here)
    ∙ listed_loaded mid c.loop-records.order.loaded found.at 0 ready.listed.lists found.inside in
    let once = listed_once is_loaded_item refl mid c.loop-records.order.loaded c.unwrap-number.result ready.listed.lists there in
    omega (
      arith,
      once,
      ap (λ (o : OrderView). length o.loaded) c.move_out.ensures.order,
      length_without c.unwrap-number.result c.loop-records.order.loaded (omega (arith, once)),
    )

pub loop-records-preserved : goal.loop-records-preserved
loop-records-preserved g c =
    let held = c.loop-records.invariant in
    let ready = held.ready c.requires.ready.0 c.requires.ready.1 in
    let next = c.in_ok-put_out.ensures in
    let needed = c.args.needed.now in
    let full = c.loop-records-test.true in
    let items = items_of c.args.records.now in
    let mid = items_of c.loop-records.records in
    let new_items = items_of c.put_out.new.records in
    let numbers = c.loop-records.order.loaded in
    let number = c.unwrap-number.result in
    let found = chosen needed mid numbers c.unneeded.result number c.unneeded.ensures c.unwrap-number.ensures in
    let is : is_loaded_item (item_at mid number) ≡ true =
    ap (λ (n : ℕ). is_loaded_item (item_at mid n)) (sym found.here) ∙ listed_loaded mid numbers found.at 0 ready.listed.lists found.inside in
    let saves = next.ok.saves in
    let less = one_fewer mid new_items number is saves.saved_is saves.items_are in
    let was = ready.listed.lists.count in
    let count = c.loaded.ensures in
    let sent = sent_any g.D.Device.CONTEXTS g.D.Device.seen c.loop-records.device c.put_out.new.device (Ok tt) (item_at mid number) (λ item. context_save_command item.handle)
    next.asks in
    record {
      swaps = swaps_then _ c.args.device.now c.loop-records.device c.put_out.new.device _ _ _ held.swaps next.swaps;
      ready = λ numbers start.
          let before = held.ready numbers start in
          ready_out (g.D.Device.seen c.loop-records.device).state (g.D.Device.seen c.put_out.new.device).state c.loop-records.records
          c.put_out.new.records c.loop-records.next c.put_out.new.next c.loop-records.order c.move_out.new.self number before
          (next.ready numbers [] before.ready) next.swaps.rest is saves c.move_out.ensures.order;
      left = omega (
        arith,
        held.left,
        saved_left (g.D.Device.seen c.loop-records.device).state (g.D.Device.seen c.put_out.new.device).state mid new_items
            number saves is
            next.swaps.rest,
      );
      stay = λ handle names any.
          let there = named_again items mid handle held.swaps.sessions.holders names in
          needed_kept mid new_items needed number handle found.out saves.items_are there any ∙ held.stay handle names any;
      least = omega (arith, less, was, full, count, held.least);
      less = omega (arith, less, held.less);
      order =
          let named = all_named needed items mid held.swaps.sessions.holders c.requires.needed.named in
          let gone = chosen_gone needed c.loop-records.records numbers number ready.ready.sound named ready.listed.lists found in
          let one = chosen_one needed c.loop-records.records numbers number ready.ready.sound named ready.listed.lists found in
          let count = loaded_items items - loaded_items mid in
          let next = loaded_items items - loaded_items new_items in
          one_more_gone (numbers_of needed) c.args.order.now c.loop-records.order c.move_out.new.self count next number
          (omega (arith, less, held.less)) held.order gone one c.move_out.ensures.order;
      sent = omega (arith, less, sent, held.sent);
      idle = λ few. absurd (omega (arith, few, full, count, was, held.less));
      asks = asks_then g.D.Device.CONTEXTS g.D.Device.seen c.args.device.now c.loop-records.device c.put_out.new.device tt (Ok tt) held.asks
          (asks_any g.D.Device.CONTEXTS g.D.Device.seen c.loop-records.device c.put_out.new.device (Ok tt) (item_at mid number) (λ item. context_save_command item.handle)
          next.asks);
    }

pub returns-clause-evicts : goal.returns-clause-evicts
returns-clause-evicts g c =
    let held = c.loop-records.invariant in
    let ready = held.ready c.requires.ready.0 c.requires.ready.1 in
    let few = c.loop-records-test.false in
    let many = c.loaded.ensures in
    let was = ready.listed.lists.count in
    record {
      stay = held.stay;
      left = omega (arith, few, many, was, held.least, held.less);
      order =
          let items = items_of c.args.records.now in
          let mid = items_of c.loop-records.records in
          let gone : loaded_items items - loaded_items mid ≡ loaded_items items - c.args.most = omega (arith, few, many, was, held.least, held.less) in
          held.order ∙ ap (λ (n : ℕ). order_evicted n (numbers_of c.args.needed.now) c.args.order.now) gone;
      failed = tt;
      sent = omega (arith, few, many, was, held.sent, held.least);
      counter = omega (arith, few, many, was, held.left, held.least, c.requires.needed.few);
    }

pub returns-clause-idle : goal.returns-clause-idle
returns-clause-idle g c few =
    let held = c.loop-records.invariant.idle few in
    (held.0, held.1, held.2, refl)

pub returns-in_err-put_out-clause-ready : goal.returns-in_err-put_out-clause-ready
returns-in_err-put_out-clause-ready g c numbers start =
    let held = c.loop-records.invariant.ready numbers start in
    ready_still (g.D.Device.seen c.loop-records.device).state (g.D.Device.seen c.put_out.new.device).state c.loop-records.records c.put_out.new.records
    c.loop-records.next c.put_out.new.next c.loop-records.order c.loop-records.order held (c.put_out.ensures.ready numbers [] held.ready)
    c.in_err-put_out.ensures.err.0 refl

pub returns-in_err-put_out-clause-evicts : goal.returns-in_err-put_out-clause-evicts
returns-in_err-put_out-clause-evicts g c =
    let held = c.loop-records.invariant in
    let ready = held.ready c.requires.ready.0 c.requires.ready.1 in
    let full = c.loop-records-test.true in
    let mid = items_of c.loop-records.records in
    let stays = c.in_err-put_out.ensures.err.0 in
    let failed = err_from_is_err_and c.from_residual.result c.from_residual.ensures.1 in
    let sent = sent_any g.D.Device.CONTEXTS g.D.Device.seen c.loop-records.device c.put_out.new.device (Err _) (item_at mid c.unwrap-number.result)
    (λ item. context_save_command item.handle)
    c.in_err-put_out.ensures.asks in
    record {
      stay = λ handle names any. ap (λ (l : List (Option Item)). item_of l handle) stays.items_are ∙ held.stay handle names any;
      left = none_if_failed _ c.from_residual.result _ failed.1;
      order = none_if_failed _ c.from_residual.result _ failed.1;
      failed =
          let items = items_of c.args.records.now in
          let fewer : loaded_items items - loaded_items mid ≤ loaded_items items - c.args.most =
          omega (arith, full, c.loaded.ensures, ready.listed.lists.count) in
          on_err_all _ c.from_residual.result (loaded_items items - loaded_items mid, fewer, held.order);
      sent = omega (arith, full, c.loaded.ensures, ready.listed.lists.count, held.sent, held.less, sent);
      counter = omega (
        arith,
        full,
        c.loaded.ensures,
        ready.listed.lists.count,
        held.left,
        ap counter_of stays.state_is,
        c.requires.needed.few,
      );
    }

pub returns-in_err-put_out-clause-idle : goal.returns-in_err-put_out-clause-idle
returns-in_err-put_out-clause-idle g c few =
    let held = c.loop-records.invariant in
    let ready = held.ready c.requires.ready.0 c.requires.ready.1 in
    let full = c.loop-records-test.true in
    absurd (omega (arith, few, full, c.loaded.ensures, ready.listed.lists.count, held.less))

pub returns-in_err-put_out-clause-asks : goal.returns-in_err-put_out-clause-asks
returns-in_err-put_out-clause-asks g c =
    let seen = g.D.Device.seen in
    let failed = asks_any g.D.Device.CONTEXTS seen c.loop-records.device c.put_out.new.device (Err _) (item_at (items_of c.loop-records.records) c.unwrap-number.result)
    (λ item. context_save_command item.handle) c.in_err-put_out.ensures.asks in
    asks_then g.D.Device.CONTEXTS seen c.args.device.now c.loop-records.device c.put_out.new.device tt c.from_residual.result c.loop-records.invariant.asks
    (some_failed g.D.Device.CONTEXTS seen c.loop-records.device c.put_out.new.device _ c.from_residual.result
    (err_from_is_err_and c.from_residual.result c.from_residual.ensures.1) failed)
