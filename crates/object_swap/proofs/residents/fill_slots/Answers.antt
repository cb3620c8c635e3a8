use Rattle.std.proofs.Common.{◌≡◌, sym, ap, ◌∙◌, subst, arith, refl, List, ℕ, Bool, true, false, get_or, drop, ◌+◌, ◌<◌}
use Rattle.std.proofs.lemmas.Bool.{false_from_ne_true}
use Rattle.std.proofs.lemmas.Result.{err_from_is_err_and}
use Rattle.object_swap.specs.declared.record.Record.{Record}
use Rattle.device_port.specs.Use.{used_after}
use Rattle.object_swap.specs.Items.{is_resident, item_at, missing}
use Rattle.object_swap.specs.Records.{items_of, residency}
use Rattle.object_swap.proofs.Costs.{none_if_failed, on_err_all}
use Rattle.object_swap.proofs.Listed.{all_resident, among_itself, apart_among, filled_more, flags_length, named_again, named_inside, needed_at, stay_brought, stay_then}
use Rattle.object_swap.proofs.Missing.{brought_next, none_missing_past, resident_needed, same_residents, some_missing}
use Rattle.object_swap.proofs.Order.{used_all, used_next}
use Rattle.device_port.proofs.Sending.{asks_none, asks_then, some_failed}
use Rattle.object_swap.proofs.Recorded.{swaps_none, swaps_then}
use Rattle.object_swap.proofs.Room.{room_again, room_left}
use Rattle.object_swap.proofs.residents.fill_slots.Goals as goal

pub loop-item-init : goal.loop-item-init
loop-item-init g c = record {
  swaps = swaps_none g.D.Device.seen c.args.device.now c.args.records.now c.requires.ready;
  listed = c.requires.listed;
  filled = λ k inside. absurd (omega arith);
  stay = λ index is. refl;
  others = λ index apart. refl;
  order = refl;
  left = refl;
  sent = omega arith;
  paid = omega arith;
  idle = λ all. (refl, refl);
  asks = asks_none g.D.Device.CONTEXTS g.D.Device.seen c.args.device.now;
}

pub make_resident-requires-clause-named : goal.make_resident-requires-clause-named
make_resident-requires-clause-named g c =
    named_again (items_of c.args.records.now) (items_of c.loop-item.records) _ c.loop-item.invariant.swaps.keeps.objects.owners
    (needed_at c.args.needed.now (items_of c.args.records.now) c.loop-item.item-index 0 c.requires.needed.there c.loop-item-test.true)

pub make_resident-requires-clause-room : goal.make_resident-requires-clause-room
make_resident-requires-clause-room g c out =
    let records = c.loop-item.records in
    let held = c.loop-item.invariant in
    let index = c.loop-item.item-index in
    let needed = c.args.needed.now in
    let inside = c.loop-item-test.true in
    let named = named_again (items_of c.args.records.now) (items_of records) _ held.swaps.keeps.objects.owners
    (needed_at needed (items_of c.args.records.now) index 0 c.requires.needed.there inside) in
    room_left _ (items_of records) _ (missing (drop index needed) (items_of records)) held.swaps.keeps.stand
    (room_again _ _ (items_of c.args.records.now) (items_of records) _ c.requires.ready.stand held.swaps.keeps.stand held.swaps.keeps.rest c.requires.needed.room) (omega (arith, held.left))
    (some_missing needed index records inside (named_inside records _ named) out)

pub loop-item-preserved : goal.loop-item-preserved
loop-item-preserved g c =
    let held = c.loop-item.invariant in
    let next = c.in_ok-make_resident.ensures in
    let brings = next.brings in
    let needed = c.args.needed.now in
    let records = c.loop-item.records in
    let new = c.make_resident.new.records in
    let flags = residency records in
    let index = c.loop-item.item-index in
    let inside = c.loop-item-test.true in
    let named = named_again (items_of c.args.records.now) (items_of records) _ held.swaps.keeps.objects.owners
    (needed_at needed (items_of c.args.records.now) index 0 c.requires.needed.there inside) in
    let fits = named_inside records _ named in
    record {
      swaps = swaps_then _ c.args.device.now c.loop-item.device c.make_resident.new.device _ _ _ held.swaps next.swaps;
      listed = next.listed;
      filled = subst (λ (f : List Bool). (k : ℕ) → k < index + 1 → get_or f (get_or needed k 0) false ≡ true) (sym brings.resident)
          (filled_more needed flags index held.filled (omega (arith, flags_length records, fits)));
      stay = stay_then (items_of c.args.records.now) (items_of records) (items_of new) held.stay
          (stay_brought records new (get_or needed index 0) brings.others (λ here. (brings.idle here).1));
      others = λ other apart. brings.others other (apart_among needed (get_or needed index 0) other (among_itself needed index 0 inside) apart)
          ∙ held.others other apart;
      order = brings.order ∙ ap (λ (l : List ℕ). used_after l (get_or needed index 0)) held.order
          ∙ used_next needed c.args.loaded.now.items index inside;
      left = sym (brought_next needed index records new inside fits brings.resident) ∙ held.left;
      sent = omega (arith, held.sent, brings.sent);
      paid = omega (arith, held.paid, brings.paid);
      idle = λ all.
          let so_far = held.idle all in
          let here : is_resident (item_at (items_of records) (get_or needed index 0)) ≡ true =
          ap (λ (l : List Record). is_resident (item_at (items_of l) (get_or needed index 0))) so_far.1
          ∙ resident_needed needed (items_of c.args.records.now) index all inside in
          let same = brings.idle here in
          (same.0 ∙ so_far.0, same.1 ∙ so_far.1);
      asks = asks_then g.D.Device.CONTEXTS g.D.Device.seen c.args.device.now c.loop-item.device c.make_resident.new.device tt _ held.asks next.asks;
    }

pub returns-clause-fills : goal.returns-clause-fills
returns-clause-fills g c =
    let held = c.loop-item.invariant in
    let past = none_missing_past c.args.needed.now c.loop-item.item-index (items_of c.loop-item.records) (omega arith) in
    record {
      stay = held.stay;
      others = held.others;
      resident = all_resident c.args.needed.now c.loop-item.records (λ k inside. held.filled k (omega arith));
      count = omega (arith, held.left, past);
      few = omega (arith, held.left, past);
      order = held.order ∙ used_all c.args.needed.now c.args.loaded.now.items c.loop-item.item-index (omega arith);
      failed = tt;
      sent = omega (arith, held.left, held.paid, past);
      idle = λ all. ((held.idle all).0, (held.idle all).1, refl);
    }

pub returns-in_err-make_resident-clause-fills : goal.returns-in_err-make_resident-clause-fills
returns-in_err-make_resident-clause-fills g c =
    let held = c.loop-item.invariant in
    let brings = c.in_err-make_resident.ensures.brings in
    let needed = c.args.needed.now in
    let records = c.loop-item.records in
    let new = c.make_resident.new.records in
    let index = c.loop-item.item-index in
    let n = get_or needed index 0 in
    let inside = c.loop-item-test.true in
    let failed = err_from_is_err_and c.from_residual.result c.from_residual.ensures.1 in
    let named = named_again (items_of c.args.records.now) (items_of records) _ held.swaps.keeps.objects.owners
    (needed_at needed (items_of c.args.records.now) index 0 c.requires.needed.there inside) in
    let never : is_resident (item_at (items_of records) n) ≡ true → ⊥ = λ here. let ok = (brings.idle here).2 in absurd cc in
    let out : is_resident (item_at (items_of records) n) ≡ false = false_from_ne_true (is_resident (item_at (items_of records) n)) never in
    let some = some_missing needed index records inside (named_inside records _ named) out in
    record {
      stay = stay_then (items_of c.args.records.now) (items_of records) (items_of new) held.stay
          (stay_brought records new n brings.others (λ here. (brings.idle here).1));
      others = λ other apart. brings.others other (apart_among needed n other (among_itself needed index 0 inside) apart) ∙ held.others other apart;
      resident = none_if_failed _ c.from_residual.result _ failed.1;
      count = none_if_failed _ c.from_residual.result _ failed.1;
      few = omega (arith, held.left, same_residents records new brings.failed);
      order = none_if_failed _ c.from_residual.result _ failed.1;
      failed = on_err_all _ c.from_residual.result (index, brings.unused ∙ held.order, omega (arith, held.sent, brings.sent));
      sent = omega (arith, held.left, held.paid, brings.sent, some);
      idle = λ all.
          let so_far = held.idle all in
          absurd (never (ap (λ (l : List Record). is_resident (item_at (items_of l) n)) so_far.1
          ∙ resident_needed needed (items_of c.args.records.now) index all inside));
    }

pub returns-in_err-make_resident-clause-swaps : goal.returns-in_err-make_resident-clause-swaps
returns-in_err-make_resident-clause-swaps g c =
    swaps_then g.D.Device.seen c.args.device.now c.loop-item.device c.make_resident.new.device _ _ _ c.loop-item.invariant.swaps c.in_err-make_resident.ensures.swaps

pub returns-in_err-make_resident-clause-asks : goal.returns-in_err-make_resident-clause-asks
returns-in_err-make_resident-clause-asks g c =
    let returned = c.from_residual in
    asks_then g.D.Device.CONTEXTS g.D.Device.seen _ c.loop-item.device _ tt returned.result c.loop-item.invariant.asks
    (some_failed g.D.Device.CONTEXTS g.D.Device.seen c.loop-item.device _ _ returned.result (err_from_is_err_and returned.result returned.ensures.1) c.in_err-make_resident.ensures.asks)
