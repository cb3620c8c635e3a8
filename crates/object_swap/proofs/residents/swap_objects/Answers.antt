use Rattle.std.proofs.Common.{ap, sym, ◌∙◌, arith}
use Rattle.std.specs.Prelude.{Err}
use Rattle.std.proofs.lemmas.Result.{err_from_is_err_and}
use Rattle.device_port.specs.declared.own.SwapError.{SwapError}
use Rattle.device_port.proofs.Sending.{asks_then}
use Rattle.object_swap.specs.Items.{is_resident}
use Rattle.object_swap.specs.Records.{items_of}
use Rattle.object_swap.proofs.Costs.{none_if_failed}
use Rattle.object_swap.proofs.Listed.{all_named, flag_at}
use Rattle.object_swap.proofs.Making.{residents_less, room_failed, room_made}
use Rattle.object_swap.proofs.Missing.{listed_residents, missing_same}
use Rattle.object_swap.proofs.Recorded.{swaps_then}
use Rattle.object_swap.proofs.Room.{room_again, room_fewer}
use Rattle.object_swap.proofs.residents.swap_objects.Goals as goal

pub clear_slots-requires-clause-fits : goal.clear_slots-requires-clause-fits
clear_slots-requires-clause-fits g c = omega (arith, c.requires.needed.fits, c.from-most.ensures, c.count_missing-missing.ensures.count)

pub fill_slots-requires-clause-needed : goal.fill_slots-requires-clause-needed
fill_slots-requires-clause-needed g c =
    let keeps = c.in_ok-clear_slots.ensures.swaps.keeps in
    let evicts = c.in_ok-clear_slots.ensures.evicts in
    let count = c.count_missing-missing.ensures in
    let missing_is = missing_same c.args.needed.now (items_of c.args.records.now) (items_of c.clear_slots.new.records) evicts.stay in
    record {
      there = all_named c.args.needed.now (items_of c.args.records.now) (items_of c.clear_slots.new.records) keeps.objects.owners c.requires.needed.there;
      room = room_fewer _ c.args.slots _ (room_again _ _ (items_of c.args.records.now) (items_of c.clear_slots.new.records) c.args.slots c.requires.ready.stand keeps.stand keeps.rest c.requires.needed.room)
          (omega (arith, evicts.left, missing_is, count.count, count.most, c.from-most.ensures, c.requires.needed.fits));
    }

pub returns-clause-listed : goal.returns-clause-listed
returns-clause-listed g c =
    let evicts = c.in_ok-clear_slots.ensures.evicts in
    let left = c.fill_slots.ensures in
    let count = c.count_missing-missing.ensures in
    let missing_is = missing_same c.args.needed.now (items_of c.args.records.now) (items_of c.clear_slots.new.records) evicts.stay in (
      left.listed,
      omega (
        arith,
        listed_residents c.fill_slots.new.records c.fill_slots.new.loaded.items left.listed.lists,
        left.fills.few,
        evicts.left,
        missing_is,
        count.count,
        count.most,
        c.from-most.ensures,
        c.requires.needed.fits,
      ),
    )

pub returns-in_err-clear_slots-clause-listed : goal.returns-in_err-clear_slots-clause-listed
returns-in_err-clear_slots-clause-listed g c =
    let left = c.in_err-clear_slots.ensures in (
      left.listed,
      omega (
        arith,
        listed_residents c.clear_slots.new.records c.clear_slots.new.loaded.items left.listed.lists,
        residents_less c.args.records.now c.clear_slots.new.records left.evicts.fewer,
        c.requires.needed.few,
      ),
    )

pub returns-clause-stay : goal.returns-clause-stay
returns-clause-stay g c =
    let evicts = c.in_ok-clear_slots.ensures.evicts in
    let fills = c.fill_slots.ensures.fills in (
      record {
        stay = λ index any is.
            let cleared = evicts.stay index any in
            fills.stay index (ap is_resident cleared ∙ is) ∙ cleared;
        others = λ index apart out. ap is_resident (fills.others index apart)
            ∙ sym (flag_at (items_of c.clear_slots.new.records) index) ∙ evicts.fewer index (flag_at (items_of c.args.records.now) index ∙ out);
      },
      fills.resident,
    )

pub returns-in_err-clear_slots-clause-stay : goal.returns-in_err-clear_slots-clause-stay
returns-in_err-clear_slots-clause-stay g c =
    let evicts = c.in_err-clear_slots.ensures.evicts in
    let failed = err_from_is_err_and c.from_residual.result c.from_residual.ensures.1 in (
      record {
        stay = λ index any is. evicts.stay index any;
        others = λ index apart out. sym (flag_at (items_of c.clear_slots.new.records) index)
            ∙ evicts.fewer index (flag_at (items_of c.args.records.now) index ∙ out);
      },
      none_if_failed _ c.from_residual.result _ failed.1,
    )

pub returns-clause-room : goal.returns-clause-room
returns-clause-room g c =
    let count = c.count_missing-missing.ensures in
    let swaps = swaps_then g.D.Device.seen c.args.device.now c.clear_slots.new.device c.fill_slots.new.device _ _ _ c.in_ok-clear_slots.ensures.swaps c.fill_slots.ensures.swaps in
    room_made g.D.Device.seen c.args.device.now c.clear_slots.new.device c.fill_slots.new.device c.args.needed.now c.args.slots c.args.new_slots _
    c.args.records.now c.clear_slots.new.records c.fill_slots.new.records c.args.loaded.now.items c.clear_slots.new.loaded.items c.fill_slots.new.loaded.items
    c.fill_slots.result (record {
      left_is = omega (arith, count.count, c.from-most.ensures);
      fits = omega (arith, count.count, count.most, c.requires.needed.fits);
      some = omega (arith, count.count, count.most);
      few = c.requires.needed.few;
    }) c.in_ok-clear_slots.ensures.evicts c.fill_slots.ensures.fills c.fill_slots.ensures.swaps.keeps.objects swaps.keeps c.fill_slots.ensures.listed.lists

pub returns-in_err-clear_slots-clause-room : goal.returns-in_err-clear_slots-clause-room
returns-in_err-clear_slots-clause-room g c =
    let count = c.count_missing-missing.ensures in
    let left = c.in_err-clear_slots.ensures in
    let failed = err_from_is_err_and c.from_residual.result c.from_residual.ensures.1 in
    room_failed g.D.Device.seen c.args.device.now c.clear_slots.new.device c.args.needed.now c.args.slots c.args.new_slots _
    c.args.records.now c.clear_slots.new.records c.args.loaded.now.items c.clear_slots.new.loaded.items c.from_residual.result _ (record {
      left_is = omega (arith, count.count, c.from-most.ensures);
      fits = omega (arith, count.count, count.most, c.requires.needed.fits);
      some = omega (arith, count.count, count.most);
      few = c.requires.needed.few;
    }) left.evicts left.swaps.keeps left.listed.lists (failed.1 ∙ ap (λ (e : SwapError). Err e) failed.2)

pub returns-clause-asks : goal.returns-clause-asks
returns-clause-asks g c =
    asks_then g.D.Device.CONTEXTS g.D.Device.seen _ c.clear_slots.new.device _ tt c.fill_slots.result c.in_ok-clear_slots.ensures.asks c.fill_slots.ensures.asks
