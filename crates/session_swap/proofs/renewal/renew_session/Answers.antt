use Rattle.std.proofs.Common.{◌≡◌, ◌<◌, ◌≤◌, ◌+◌, ◌∙◌, List, [], length, ap, refl, arith, subst, sym, true}
use Rattle.std.proofs.lemmas.List.{length-map}
use Rattle.std.specs.Prelude.{Err, Ok, Option}
use Rattle.std.proofs.lemmas.Result.{err_from_is_err_and, on_ok_weaker}
use Rattle.device_spec.specs.Slots.{SlotState}
use Rattle.device_spec.specs.ContextCommands.{context_save_command}
use Rattle.session_swap.specs.Items.{HasGapRoom, Item, counter_of, full_flag, full_kept, is_loaded_item, is_saved_item, item_at}
use Rattle.session_swap.specs.Records.{OrderView, item_of_record, items_of, view_of}
use Rattle.session_swap.proofs.Among.{not_loaded, saved_inside}
use Rattle.device_port.proofs.Sending.{asks_then, some_failed}
use Rattle.session_swap.proofs.Asking.{answered_any, asks_any, asks_loaded, on_ok_three, sent_any, sent_loaded}
use Rattle.session_swap.proofs.Listing.{listed_once, on_err_weaker, unlisted}
use Rattle.session_swap.proofs.Readying.{order_again, ready_in, ready_saved, ready_still}
use Rattle.session_swap.proofs.Renewed.{brought_fits, can_number, counter_saved, either_way, fits_room, freed, fresh_again, moved, once_more, one_in, one_left, one_out, others_kept, renewed, same_set}
use Rattle.session_swap.proofs.renewal.renew_session.Goals as goal

pub put_out-saved-requires-clause-ready : goal.put_out-saved-requires-clause-ready
put_out-saved-requires-clause-ready g c = (c.args.numbers, [], c.bring_in.ensures.ready _ c.in_ok-free_place.ensures.ready.ready)

pub bring_in-requires-clause-ready : goal.bring_in-requires-clause-ready
bring_in-requires-clause-ready g c = (c.args.numbers, c.in_ok-free_place.ensures.ready.ready)

pub put_out-saved-requires-clause-may : goal.put_out-saved-requires-clause-may
put_out-saved-requires-clause-may g c =
    let number = c.args.number in
    let items = items_of c.args.records.now in
    let mid = c.free_place.new.records in
    let next = c.free_place.new.next in
    let brought = c.bring_in.ensures.ready _ c.free_place.ensures.ready.ready in
    let loads = c.in_ok-bring_in.ensures.ok in
    let counts = c.free_place.ensures.counts in
    let fits = brought_fits _ _ _ items mid next c.bring_in.new.records next number c.requires.oldest.saved c.requires.oldest.oldest
    c.free_place.ensures.swaps.rest (c.free_place.ensures.kept.others number c.requires.oldest.saved) c.in_ok-free_place.ensures.ok.oldest
    (moved c.free_place.ensures.ready.ready brought c.bring_in.ensures.swaps) loads counts.0.room in
    can_number _ c.bring_in.new.records next [] brought fits (omega (arith, c.requires.may.1, counts.0.counter, loads.counted))

pub move_in-requires : goal.move_in-requires
move_in-requires g c =
    let mid = items_of c.free_place.new.records in
    let number = c.args.number in
    let was = subst (λ (item : Option Item). is_saved_item item ≡ true) (sym (c.free_place.ensures.kept.others number c.requires.oldest.saved))
    c.requires.oldest.saved in
    listed_once is_saved_item refl mid c.free_place.new.order.saved number c.in_ok-free_place.ensures.ready.listed.saved was

pub list_saved-requires : goal.list_saved-requires
list_saved-requires g c =
    let number = c.args.number in
    let frees = c.in_ok-free_place.ensures in
    let mid = c.free_place.new.records in
    let brought = c.bring_in.new.records in
    let loads = c.in_ok-bring_in.ensures.ok in
    let was = c.requires.ready.listed in
    let few = one_left (view_of c.args.numbers c.args.records.now c.args.next.now) c.args.order.now.loaded c.free_place.new.order.loaded
    was.range was.lists was.most
    (ap (λ (o : OrderView). o.loaded) frees.ok.order) in
    let inside = saved_inside (items_of c.args.records.now) number c.requires.oldest.saved in
    let fits : number < length mid =
    omega (arith, inside, length-map c.args.records.now item_of_record, c.requires.ready.ready.sound.count, frees.ready.ready.sound.count) in
    let held = ready_in (g.D.Device.seen c.free_place.new.device).state (g.D.Device.seen c.bring_in.new.device).state mid brought c.free_place.new.next
    c.free_place.new.order c.move_in.new.self number frees.ready (c.bring_in.ensures.ready _ frees.ready.ready) c.bring_in.ensures.swaps.rest few fits loads.items_are
    loads.loaded_is c.move_in.ensures.order in
    listed_once is_loaded_item refl (items_of brought) c.move_in.new.self.loaded number held.listed.lists loads.loaded_is

pub returns-clause-ready : goal.returns-clause-ready
returns-clause-ready g c =
    let number = c.args.number in
    let frees = c.in_ok-free_place.ensures in
    let mid = c.free_place.new.records in
    let brought = c.bring_in.new.records in
    let loads = c.in_ok-bring_in.ensures.ok in
    let was = c.requires.ready.listed in
    let few = one_left (view_of c.args.numbers c.args.records.now c.args.next.now) c.args.order.now.loaded c.free_place.new.order.loaded
    was.range was.lists was.most
    (ap (λ (o : OrderView). o.loaded) frees.ok.order) in
    let inside = saved_inside (items_of c.args.records.now) number c.requires.oldest.saved in
    let fits : number < length mid =
    omega (arith, inside, length-map c.args.records.now item_of_record, c.requires.ready.ready.sound.count, frees.ready.ready.sound.count) in
    let state = (g.D.Device.seen c.bring_in.new.device).state in
    let held = ready_in (g.D.Device.seen c.free_place.new.device).state state mid brought c.free_place.new.next
    c.free_place.new.order c.move_in.new.self number frees.ready (c.bring_in.ensures.ready _ frees.ready.ready) c.bring_in.ensures.swaps.rest few fits loads.items_are
    loads.loaded_is c.move_in.ensures.order in
    let out = c.put_out-saved in
    let told = c.list_saved.ensures in
    ready_saved out.result state (g.D.Device.seen out.new.device).state brought out.new.records c.free_place.new.next out.new.next
    c.move_in.new.self c.list_saved.new.order number held (out.ensures.ready _ [] (c.bring_in.ensures.ready _ frees.ready.ready)) out.ensures.swaps.rest loads.loaded_is
    (on_ok_weaker out.result (λ put. put.saves) out.ensures.ok) (on_err_weaker out.result (λ same. same.0) out.ensures.err) told.ok told.err

pub returns-in_err-bring_in-clause-ready : goal.returns-in_err-bring_in-clause-ready
returns-in_err-bring_in-clause-ready g c =
    ready_still (g.D.Device.seen c.free_place.new.device).state (g.D.Device.seen c.bring_in.new.device).state c.free_place.new.records
    c.bring_in.new.records c.free_place.new.next c.free_place.new.next c.free_place.new.order c.free_place.new.order c.in_ok-free_place.ensures.ready
    (c.in_err-bring_in.ensures.ready _ c.in_ok-free_place.ensures.ready.ready) c.in_err-bring_in.ensures.err refl

pub returns-clause-ok : goal.returns-clause-ok
returns-clause-ok g c =
    let seen = g.D.Device.seen in
    let start = (seen c.args.device.now).state in
    let number = c.args.number in
    let items = items_of c.args.records.now in
    let mid = c.free_place.new.records in
    let brought = items_of c.bring_in.new.records in
    let new_items = items_of c.put_out-saved.new.records in
    let next = c.free_place.new.next in
    let frees = c.in_ok-free_place.ensures in
    let loads = c.in_ok-bring_in.ensures.ok in
    let left = c.put_out-saved.ensures.swaps in
    let kept = c.free_place.ensures.kept in
    let fits = brought_fits _ _ _ items mid next c.bring_in.new.records next number c.requires.oldest.saved c.requires.oldest.oldest
    c.free_place.ensures.swaps.rest (kept.others number c.requires.oldest.saved) frees.ok.oldest
    (moved c.free_place.ensures.ready.ready (c.bring_in.ensures.ready _ c.free_place.ensures.ready.ready) c.bring_in.ensures.swaps) loads c.free_place.ensures.counts.0.room in
    let none = unlisted (items_of mid) c.free_place.new.order.loaded number frees.ready.listed.lists
    (ap is_loaded_item (kept.others number c.requires.oldest.saved) ∙ not_loaded (item_at items number) c.requires.oldest.saved) in
    let was = subst (λ (item : Option Item). is_saved_item item ≡ true) (sym (kept.others number c.requires.oldest.saved)) c.requires.oldest.saved in
    let answered = answered_any g.D.Device.CONTEXTS seen c.bring_in.new.device c.put_out-saved.new.device c.put_out-saved.result (item_at brought number)
    (λ item. context_save_command item.handle) c.put_out-saved.ensures.asks in
    on_ok_three c.put_out-saved.result _ _ _ c.put_out-saved.ensures.ok answered c.list_saved.ensures.ok
    (λ out asks gone. (
      record {
        renewed = renewed _ _ brought new_items number left.rest out.saves;
        fresh = fresh_again start (seen c.free_place.new.device).state (seen c.bring_in.new.device).state (seen c.put_out-saved.new.device).state
            items (items_of mid) brought new_items number kept.fresh c.free_place.ensures.swaps.rises loads.counted loads.items_are out.saves;
        sent = out.sent;
        answered = asks;
        free = (freed _ _ brought new_items number left.rest left.gap fits out.saves).free;
        saved = omega (
          arith,
          kept.saved,
          one_in (items_of mid) brought number was loads.loaded_is loads.items_are,
          (one_out brought new_items number loads.loaded_is out.saves.saved_is out.saves.items_are).saved,
        );
        exact = once_more (seen c.bring_in.new.device).state (seen c.put_out-saved.new.device).state brought new_items
            number (counter_of start + full_flag start) left.rest out.saves (omega (arith, frees.ok.exact, loads.counted));
      },
      order_again c.args.order.now c.free_place.new.order c.move_in.new.self c.list_saved.new.order (full_kept (view_of c.args.numbers c.args.records.now c.args.next.now)) number frees.ok.order
          c.move_in.ensures.order none gone,
    ))

pub returns-clause-kept : goal.returns-clause-kept
returns-clause-kept g c =
    let seen = g.D.Device.seen in
    let number = c.args.number in
    let items = items_of c.args.records.now in
    let mid = c.free_place.new.records in
    let brought = items_of c.bring_in.new.records in
    let new_items = items_of c.put_out-saved.new.records in
    let next = c.free_place.new.next in
    let out = c.put_out-saved in
    let loads = c.in_ok-bring_in.ensures.ok in
    let counts = c.free_place.ensures.counts in
    let left = out.ensures.swaps in
    let fits = brought_fits _ _ _ items mid next c.bring_in.new.records next number c.requires.oldest.saved c.requires.oldest.oldest
    c.free_place.ensures.swaps.rest (c.free_place.ensures.kept.others number c.requires.oldest.saved) c.in_ok-free_place.ensures.ok.oldest
    (moved c.free_place.ensures.ready.ready (c.bring_in.ensures.ready _ c.free_place.ensures.ready.ready) c.bring_in.ensures.swaps) loads counts.0.room in
    let by_one = either_way {R = counter_of (seen out.new.device).state ≤ counter_of (seen c.bring_in.new.device).state + 1}
    out.result out.ensures.ok out.ensures.err
    (λ put. (counter_saved _ _ brought new_items number left.rest put.saves).1)
    (λ same. omega (arith, ap counter_of same.0.state_is)) in
    let kept = others_kept items (items_of mid) brought new_items number c.free_place.ensures.kept.others loads.items_are in (
      either_way out.result out.ensures.ok out.ensures.err (λ put. kept put.saves.items_are)
          (λ same. kept (same_set brought new_items number same.0.items_are)),
      record {
        room = either_way out.result out.ensures.ok out.ensures.err
            (λ put. (freed _ _ brought new_items number left.rest left.gap fits put.saves).room)
            (λ same. subst (λ (state : Option SlotState). HasGapRoom state) (sym same.0.state_is) (fits_room _ fits));
        counter = omega (arith, by_one, loads.counted, counts.0.counter);
        counter_free = λ free. omega (arith, by_one, loads.counted, counts.0.counter_free free);
        sent = omega (
          arith,
          counts.0.sent,
          sent_loaded g.D.Device.CONTEXTS seen c.free_place.new.device c.bring_in.new.device (Ok tt) (item_at (items_of mid) number) c.in_ok-bring_in.ensures.asks,
          sent_any g.D.Device.CONTEXTS seen c.bring_in.new.device out.new.device out.result (item_at brought number) (λ item. context_save_command item.handle)
              out.ensures.asks,
        );
      },
      omega (arith, counts.1, c.move_in.ensures.steps, c.list_saved.ensures.steps),
    )

pub returns-in_err-bring_in-clause-kept : goal.returns-in_err-bring_in-clause-kept
returns-in_err-bring_in-clause-kept g c =
    let seen = g.D.Device.seen in
    let number = c.args.number in
    let mid = c.free_place.new.records in
    let stays = c.in_err-bring_in.ensures.err in
    let counts = c.free_place.ensures.counts in
    let counter_is = ap counter_of stays.state_is in (
      λ other apart saved.
          ap (λ (l : List (Option Item)). item_at l other) stays.items_are ∙ c.free_place.ensures.kept.others other saved,
      record {
        room = subst (λ (state : Option SlotState). HasGapRoom state) (sym stays.state_is) counts.0.room;
        counter = omega (arith, counter_is, counts.0.counter);
        counter_free = λ free. omega (arith, counter_is, counts.0.counter_free free);
        sent = omega (
          arith,
          counts.0.sent,
          sent_loaded g.D.Device.CONTEXTS seen c.free_place.new.device c.bring_in.new.device (Err _) (item_at (items_of mid) number) c.in_err-bring_in.ensures.asks,
        );
      },
      omega (arith, counts.1),
    )

pub returns-clause-asks : goal.returns-clause-asks
returns-clause-asks g c =
    let seen = g.D.Device.seen in
    let brought = c.bring_in.new.device in
    let loaded = asks_loaded g.D.Device.CONTEXTS seen c.free_place.new.device brought (Ok tt) (item_at (items_of c.free_place.new.records) c.args.number)
    c.in_ok-bring_in.ensures.asks in
    asks_then g.D.Device.CONTEXTS seen c.args.device.now brought c.put_out-saved.new.device tt c.put_out-saved.result
    (asks_then g.D.Device.CONTEXTS seen c.args.device.now c.free_place.new.device brought tt (Ok tt) c.in_ok-free_place.ensures.asks loaded)
    (asks_any g.D.Device.CONTEXTS seen brought c.put_out-saved.new.device c.put_out-saved.result (item_at (items_of c.bring_in.new.records) c.args.number)
    (λ item. context_save_command item.handle) c.put_out-saved.ensures.asks)

pub returns-in_err-bring_in-clause-asks : goal.returns-in_err-bring_in-clause-asks
returns-in_err-bring_in-clause-asks g c =
    let seen = g.D.Device.seen in
    let brought = c.bring_in.new.device in
    let returned = c.from_residual-in_err-bring_in in
    asks_then g.D.Device.CONTEXTS seen c.args.device.now c.free_place.new.device brought tt returned.result c.in_ok-free_place.ensures.asks
    (some_failed g.D.Device.CONTEXTS seen c.free_place.new.device brought _ returned.result (err_from_is_err_and returned.result returned.ensures.1)
    (asks_loaded g.D.Device.CONTEXTS seen c.free_place.new.device brought (Err _) (item_at (items_of c.free_place.new.records) c.args.number)
    c.in_err-bring_in.ensures.asks))
