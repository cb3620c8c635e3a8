use Rattle.std.proofs.Common.{◌≡◌, ◌≤◌, ℕ, List, true, [], ap, refl, arith, subst, sym, ◌∙◌}
use Rattle.std.specs.Prelude.{Option, Some}
use Rattle.std.proofs.lemmas.Result.{on_ok_weaker}
use Rattle.device_spec.specs.Slots.{SlotState}
use Rattle.device_spec.specs.ContextCommands.{context_save_command}
use Rattle.session_swap.specs.Items.{HasGapRoom, Item, counter_of, full_kept, is_loaded_item, item_at, loaded_items, number_of_item, oldest_number, saved_items}
use Rattle.session_swap.specs.Records.{items_of, view_of}
use Rattle.device_port.proofs.Sending.{asks_none}
use Rattle.session_swap.proofs.Asking.{asks_any, on_ok_both, sent_any}
use Rattle.session_swap.proofs.Listing.{listed_once, listed_there, on_err_weaker}
use Rattle.session_swap.proofs.Readying.{order_first, order_none, ready_saved, some_first}
use Rattle.session_swap.proofs.Renewed.{can_number, counter_saved, either_way, freed, fresh_saved, full_fits, kept_free, kept_full, none_free, not_full, oldest_stays, one_out, one_taken, saved_stays, some_free, told_all}
use Rattle.session_swap.proofs.renewal.free_place.Goals as goal

pub put_out-saved-requires-clause-ready : goal.put_out-saved-requires-clause-ready
put_out-saved-requires-clause-ready g c = (c.args.numbers, [], c.requires.ready.ready)

pub put_out-saved-requires-clause-may : goal.put_out-saved-requires-clause-may
put_out-saved-requires-clause-may g c =
    let records = c.args.records.now in
    let next = c.args.next.now in
    let ready = c.requires.ready.ready in
    let full : c.args.numbers.loaded ≤ loaded_items (items_of records) = omega (arith, c.loaded.ensures, c.requires.ready.listed.lists.count) in
    can_number _ records next [] ready (full_fits c.args.numbers _ records next ready c.requires.may.0 full) c.requires.may.1

pub put_out-saved-requires-clause-loaded : goal.put_out-saved-requires-clause-loaded
put_out-saved-requires-clause-loaded g c =
    listed_there (items_of c.args.records.now) c.args.order.now.loaded 0 c.unwrap-number.result c.requires.ready.listed.lists
    (sym c.first_loaded.ensures.first ∙ c.unwrap-number.ensures)

pub returns-clause-ready : goal.returns-clause-ready
returns-clause-ready g c =
    let held = c.requires.ready in
    let out = c.put_out-saved in
    let number = c.unwrap-number.result in
    let loaded_is = listed_there (items_of c.args.records.now) c.args.order.now.loaded 0 number held.listed.lists
    (sym c.first_loaded.ensures.first ∙ c.unwrap-number.ensures) in
    let told = c.list_saved.ensures in
    ready_saved out.result (g.D.Device.seen c.args.device.now).state (g.D.Device.seen out.new.device).state c.args.records.now out.new.records
    c.args.next.now out.new.next c.args.order.now c.list_saved.new.order number held (out.ensures.ready _ [] held.ready) out.ensures.swaps.rest loaded_is
    (on_ok_weaker out.result (λ put. put.saves) out.ensures.ok) (on_err_weaker out.result (λ same. same.0) out.ensures.err) told.ok told.err

pub list_saved-requires : goal.list_saved-requires
list_saved-requires g c =
    let number = c.unwrap-number.result in
    let items = items_of c.args.records.now in
    let listed = c.requires.ready.listed in
    listed_once is_loaded_item refl items c.args.order.now.loaded number listed.lists
    (listed_there items c.args.order.now.loaded 0 number listed.lists (sym c.first_loaded.ensures.first ∙ c.unwrap-number.ensures))

pub unwrap-number-requires : goal.unwrap-number-requires
unwrap-number-requires g c =
    some_first c.args.order.now.loaded c.first_loaded.result c.first_loaded.ensures.first
    (omega (arith, c.loaded.ensures, c.if-loaded-from.false))

pub returns-then-loaded-from-clause-ok : goal.returns-then-loaded-from-clause-ok
returns-then-loaded-from-clause-ok g c =
    let state = (g.D.Device.seen c.args.device.now).state in
    let records = c.args.records.now in
    let items = items_of records in
    let view = view_of c.args.numbers records c.args.next.now in
    let free = kept_free view (omega (arith, c.loaded.ensures, c.requires.ready.listed.lists.count)) in
    record {
      free = some_free _ records c.args.next.now c.requires.ready.ready (omega (arith, c.loaded.ensures, c.requires.ready.listed.lists.count));
      oldest = told_all state (λ slots. (number : ℕ) → oldest_number items ≡ Some number → oldest_number items ≡ Some number) (λ slots number is. is);
      exact = omega (arith, not_full c.args.numbers _ records c.args.next.now c.requires.ready.ready (omega (arith, c.loaded.ensures, c.requires.ready.listed.lists.count)));
      order = order_none c.args.order.now (full_kept view) free;
    }

pub returns-clause-ok : goal.returns-clause-ok
returns-clause-ok g c =
    let loaded_is : is_loaded_item (item_at (items_of c.args.records.now) c.unwrap-number.result) ≡ true =
    listed_there (items_of c.args.records.now) c.args.order.now.loaded 0 c.unwrap-number.result c.requires.ready.listed.lists
    (sym c.first_loaded.ensures.first ∙ c.unwrap-number.ensures) in
    let records = c.args.records.now in
    let next = c.args.next.now in
    let new_items = items_of c.put_out-saved.new.records in
    let number = c.unwrap-number.result in
    let ready = c.requires.ready.ready in
    let full : c.args.numbers.loaded ≤ loaded_items (items_of records) = omega (arith, c.loaded.ensures, c.requires.ready.listed.lists.count) in
    let left = c.put_out-saved.ensures.swaps in
    let fits = full_fits c.args.numbers _ records next ready c.requires.may.0 full in
    let listed = c.requires.ready.listed in
    let kept = kept_full (view_of c.args.numbers records c.args.next.now) (omega (arith, full, listed.lists.count, listed.most)) in
    on_ok_both c.put_out-saved.result _ _
    (λ out gone. record {
      free = (freed _ _ (items_of records) new_items number left.rest left.gap fits out.saves).free;
      oldest = oldest_stays _ _ records next new_items number ready loaded_is out.saves;
      exact = one_taken c.args.numbers _ _ records next new_items number ready full left.rest out.saves;
      order = gone ∙ order_first c.args.order.now number (full_kept (view_of c.args.numbers records c.args.next.now))
          (sym c.first_loaded.ensures.first ∙ c.unwrap-number.ensures) kept;
    }) c.put_out-saved.ensures.ok c.list_saved.ensures.ok

pub returns-clause-kept : goal.returns-clause-kept
returns-clause-kept g c =
    let loaded_is : is_loaded_item (item_at (items_of c.args.records.now) c.unwrap-number.result) ≡ true =
    listed_there (items_of c.args.records.now) c.args.order.now.loaded 0 c.unwrap-number.result c.requires.ready.listed.lists
    (sym c.first_loaded.ensures.first ∙ c.unwrap-number.ensures) in
    let out = c.put_out-saved in
    let number = c.unwrap-number.result in
    let items = items_of c.args.records.now in
    let new_items = items_of out.new.records in
    record {
      others = λ other saved. either_way out.result out.ensures.ok out.ensures.err
          (λ put. saved_stays items new_items number other loaded_is put.saves.items_are saved)
          (λ same. ap (λ (items : List (Option Item)). item_at items other) same.0.items_are);
      saved = either_way out.result out.ensures.ok out.ensures.err
          (λ put. omega (arith, (one_out items new_items number loaded_is put.saves.saved_is put.saves.items_are).saved))
          (λ same. omega (arith, ap saved_items same.0.items_are));
      fresh = λ other last is below. either_way out.result out.ensures.ok out.ensures.err
          (λ put. (fresh_saved _ _ items new_items number put.saves other last is below).1)
          (λ same. ap (λ (items : List (Option Item)). number_of_item (item_at items other)) (sym same.0.items_are) ∙ is);
    }

pub returns-clause-counts : goal.returns-clause-counts
returns-clause-counts g c =
    let records = c.args.records.now in
    let next = c.args.next.now in
    let out = c.put_out-saved in
    let new_items = items_of out.new.records in
    let number = c.unwrap-number.result in
    let full : c.args.numbers.loaded ≤ loaded_items (items_of records) = omega (arith, c.loaded.ensures, c.requires.ready.listed.lists.count) in
    let left = out.ensures.swaps in
    let fits = full_fits c.args.numbers _ records next c.requires.ready.ready c.requires.may.0 full in (
      record {
        room = either_way out.result out.ensures.ok out.ensures.err
            (λ put. (freed _ _ (items_of records) new_items number left.rest left.gap fits put.saves).room)
            (λ same. subst (λ (state : Option SlotState). HasGapRoom state) (sym same.0.state_is) c.requires.may.0);
        counter = either_way out.result out.ensures.ok out.ensures.err
            (λ put. (counter_saved _ _ (items_of records) new_items number left.rest put.saves).1)
            (λ same. omega (arith, ap counter_of same.0.state_is));
        counter_free = λ free. none_free _ _ records next c.requires.ready.ready full left.rest free;
        sent =
            let listed = c.requires.ready.listed in
            omega (
              arith,
              kept_full (view_of c.args.numbers records c.args.next.now) (omega (arith, full, listed.lists.count, listed.most)),
              sent_any g.D.Device.CONTEXTS g.D.Device.seen c.args.device.now out.new.device out.result (item_at (items_of records) number)
                  (λ item. context_save_command item.handle) out.ensures.asks,
            );
      },
      omega (
        arith,
        c.first_loaded.ensures.steps,
        c.list_saved.ensures.steps,
        kept_full (view_of c.args.numbers records c.args.next.now) (omega (arith, full, c.requires.ready.listed.lists.count, c.requires.ready.listed.most)),
      ),
    )

pub returns-then-loaded-from-clause-asks : goal.returns-then-loaded-from-clause-asks
returns-then-loaded-from-clause-asks g c = asks_none g.D.Device.CONTEXTS g.D.Device.seen c.args.device.now

pub returns-clause-asks : goal.returns-clause-asks
returns-clause-asks g c =
    asks_any g.D.Device.CONTEXTS g.D.Device.seen c.args.device.now c.put_out-saved.new.device c.put_out-saved.result
    (item_at (items_of c.args.records.now) c.unwrap-number.result)
    (λ item. context_save_command item.handle) c.put_out-saved.ensures.asks
