use Rattle.std.proofs.Common.{◌≡◌, ◌+◌, ◌-◌, ◌≤◌, ℕ, suc, ap, sym, ◌∙◌, arith, refl, length, get_or}
use Rattle.std.proofs.lemmas.List.Edits.{length-remove}
use Rattle.std.proofs.lemmas.Result.{err_from_is_err_and}
use Rattle.device_port.specs.Use.{first_unneeded, without_first, without_unneeded}
use Rattle.object_swap.specs.Items.{is_unsaved, item_at, residents, unsaved_of}
use Rattle.object_swap.specs.Records.{items_of}
use Rattle.object_swap.proofs.Costs.{none_if_failed, number_listed, on_err_all}
use Rattle.object_swap.proofs.Listed.{apart_needed, kept_still}
use Rattle.object_swap.proofs.Missing.{chosen, fit_alone, listed_residents, missing_same, some_chosen}
use Rattle.object_swap.proofs.Order.{leaves_least, leaves_more}
use Rattle.device_port.proofs.Sending.{asks_none, asks_then, some_failed}
use Rattle.object_swap.proofs.Recorded.{ready_again, swaps_none, swaps_then}
use Rattle.object_swap.proofs.residents.clear_slots.Goals as goal

pub loop-loaded-init : goal.loop-loaded-init
loop-loaded-init g c =
    let items = items_of c.args.records.now in
    let none : 0 ≡ residents items - residents items = omega arith in
    record {
      swaps = swaps_none g.D.Device.seen c.args.device.now c.args.records.now c.requires.ready;
      listed = c.requires.listed;
      fewer = λ index out. out;
      stay = λ index is. refl;
      kept = λ index is. refl;
      order = ap (λ (n : ℕ). without_first n c.args.needed.now c.args.loaded.now.items) none;
      least = omega arith;
      less = omega arith;
      sent = omega arith;
      saved = omega arith;
      spends = omega arith;
      idle = λ few. (refl, refl);
      asks = asks_none g.D.Device.CONTEXTS g.D.Device.seen c.args.device.now;
    }

pub unwrap-at-requires : goal.unwrap-at-requires
unwrap-at-requires g c =
    let held = c.loop-loaded.invariant in
    let needed = c.args.needed.now in
    let full = c.loop-loaded-test.true in
    some_chosen needed c.loop-loaded.loaded.items c.unneeded.result c.deref.result.now c.deref.ensures.value c.unneeded.ensures
    (λ among. omega (
      arith,
      full,
      c.requires.fits,
      missing_same needed (items_of c.args.records.now) (items_of c.loop-loaded.records) held.stay,
      fit_alone needed c.loop-loaded.records c.loop-loaded.loaded.items held.listed.lists among,
    ))

pub put_away-requires-clause-inside : goal.put_away-requires-clause-inside
put_away-requires-clause-inside g c =
    (chosen c.args.needed.now c.loop-loaded.loaded.items c.unneeded.result c.deref.result.now c.unwrap-at.result c.deref.ensures.value c.unneeded.ensures
    c.unwrap-at.ensures).0

pub put_away-requires-clause-ready : goal.put_away-requires-clause-ready
put_away-requires-clause-ready g c =
    let held = c.loop-loaded.invariant in
    ready_again _ _ c.args.records.now c.loop-loaded.records c.requires.ready held.swaps.keeps held.swaps.sound

pub loop-loaded-smaller : goal.loop-loaded-smaller
loop-loaded-smaller g c =
    let chosen = chosen c.args.needed.now c.loop-loaded.loaded.items c.unneeded.result c.deref.result.now c.unwrap-at.result c.deref.ensures.value
    c.unneeded.ensures c.unwrap-at.ensures in
    omega (arith, ap length c.in_ok-put_away.ensures.leaves.order, length-remove c.loop-loaded.loaded.items c.unwrap-at.result chosen.0)

pub loop-loaded-preserved : goal.loop-loaded-preserved
loop-loaded-preserved g c =
    let held = c.loop-loaded.invariant in
    let next = c.in_ok-put_away.ensures in
    let needed = c.args.needed.now in
    let full = c.loop-loaded-test.true in
    let items = items_of c.args.records.now in
    let mid = items_of c.loop-loaded.records in
    let chosen = chosen needed c.loop-loaded.loaded.items c.unneeded.result c.deref.result.now c.unwrap-at.result c.deref.ensures.value c.unneeded.ensures
    c.unwrap-at.ensures in
    let was : length c.loop-loaded.loaded.items ≡ residents mid = listed_residents c.loop-loaded.records c.loop-loaded.loaded.items held.listed.lists in
    let is : length c.put_away.new.loaded.items ≡ residents (items_of c.put_away.new.records) =
    listed_residents c.put_away.new.records c.put_away.new.loaded.items next.listed.lists in
    let one = length-remove c.loop-loaded.loaded.items c.unwrap-at.result chosen.0 in
    let less : residents (items_of c.put_away.new.records) + 1 ≡ residents mid = omega (arith, was, is, one, ap length next.leaves.order) in
    let count : suc (residents items - residents mid) ≡ residents items - residents (items_of c.put_away.new.records) = omega (arith, less, held.less) in
    let first = c.args.loaded.now.items in
    let gone = residents items - residents mid in
    let index = get_or c.loop-loaded.loaded.items c.unwrap-at.result 0 in
    let this = number_listed items c.loop-loaded.records c.loop-loaded.loaded.items c.unwrap-at.result held.listed.lists held.kept chosen.0 in
    let more = leaves_more (λ (n : ℕ). is_unsaved (item_at items n)) needed first c.loop-loaded.loaded.items gone index held.order chosen.3 in
    let costs = next.leaves.costs in
    record {
      swaps = swaps_then _ c.args.device.now c.loop-loaded.device c.put_away.new.device _ _ _ held.swaps next.swaps;
      listed = next.listed;
      fewer = λ other out. next.leaves.fewer other (held.fewer other out);
      stay = λ other is. next.leaves.others other (apart_needed needed index other chosen.1 is) ∙ held.stay other is;
      kept = kept_still items mid (items_of c.put_away.new.records) index held.kept next.leaves.others next.leaves.out;
      order = next.leaves.order ∙ sym chosen.2 ∙ ap (without_unneeded needed) held.order
          ∙ ap (λ (n : ℕ). without_first n needed c.args.loaded.now.items) count;
      least = omega (arith, less, was, full, held.least);
      less = omega (arith, less, held.less);
      sent = omega (
        arith,
        count,
        held.sent,
        costs.sent,
        this,
        more,
        ap (λ (n : ℕ). unsaved_of items (first_unneeded n needed first)) count,
      );
      saved = omega (arith, less, held.saved, costs.saved);
      spends = omega (arith, count, held.spends, next.leaves.spends);
      idle = λ few. absurd (omega (arith, few, full, was, held.less));
      asks = asks_then g.D.Device.CONTEXTS g.D.Device.seen c.args.device.now c.loop-loaded.device c.put_away.new.device tt _ held.asks next.asks;
    }

pub returns-clause-evicts : goal.returns-clause-evicts
returns-clause-evicts g c =
    let held = c.loop-loaded.invariant in
    let few = c.loop-loaded-test.false in
    let is = listed_residents c.loop-loaded.records c.loop-loaded.loaded.items held.listed.lists in
    let items = items_of c.args.records.now in
    let count : residents items - residents (items_of c.loop-loaded.records) ≡ residents items - c.args.most = omega (arith, few, is, held.least, held.less) in
    record {
      fewer = held.fewer;
      stay = held.stay;
      left = omega (arith, few, is, held.least, held.less);
      order = held.order ∙ ap (λ (n : ℕ). without_first n c.args.needed.now c.args.loaded.now.items) count;
      spends = omega (arith, count, held.spends);
      failed = tt;
      kept = held.kept;
      sent = omega (
        arith,
        count,
        held.sent,
        ap (λ (n : ℕ). unsaved_of items (first_unneeded n c.args.needed.now c.args.loaded.now.items)) count,
      );
      saved = omega (arith, few, is, held.saved, held.least);
      idle = λ room. ((held.idle room).0, (held.idle room).1, refl);
    }

pub returns-in_err-put_away-clause-evicts : goal.returns-in_err-put_away-clause-evicts
returns-in_err-put_away-clause-evicts g c =
    let held = c.loop-loaded.invariant in
    let next = c.in_err-put_away.ensures in
    let needed = c.args.needed.now in
    let full = c.loop-loaded-test.true in
    let chosen = chosen needed c.loop-loaded.loaded.items c.unneeded.result c.deref.result.now c.unwrap-at.result c.deref.ensures.value c.unneeded.ensures
    c.unwrap-at.ensures in
    let was = listed_residents c.loop-loaded.records c.loop-loaded.loaded.items held.listed.lists in
    let items = items_of c.args.records.now in
    let first = c.args.loaded.now.items in
    let gone = residents items - residents (items_of c.loop-loaded.records) in
    let index = get_or c.loop-loaded.loaded.items c.unwrap-at.result 0 in
    let this = number_listed items c.loop-loaded.records c.loop-loaded.loaded.items c.unwrap-at.result held.listed.lists held.kept chosen.0 in
    let more = leaves_more (λ (n : ℕ). is_unsaved (item_at items n)) needed first c.loop-loaded.loaded.items gone index held.order chosen.3 in
    let within : suc gone ≤ residents items - c.args.most = omega (arith, full, was, held.less) in
    let costs = next.leaves.costs in
    let failed = err_from_is_err_and c.from_residual.result c.from_residual.ensures.1 in
    record {
      fewer = λ other out. next.leaves.fewer other (held.fewer other out);
      stay = λ other is. next.leaves.others other (apart_needed needed index other chosen.1 is) ∙ held.stay other is;
      left = none_if_failed _ c.from_residual.result _ failed.1;
      order = none_if_failed _ c.from_residual.result _ failed.1;
      spends = none_if_failed _ c.from_residual.result _ failed.1;
      failed = on_err_all _ c.from_residual.result (
        gone,
        omega (arith, within),
        next.leaves.failed ∙ held.order,
        omega (arith, held.spends, next.leaves.spends),
      );
      kept = none_if_failed _ c.from_residual.result _ failed.1;
      sent = omega (
        arith,
        held.sent,
        costs.sent,
        this,
        more,
        within,
        leaves_least (λ (n : ℕ). is_unsaved (item_at items n)) needed first (suc gone) (residents items - c.args.most) within,
      );
      saved = omega (arith, full, was, held.saved, held.less, costs.saved);
      idle = λ few. absurd (omega (arith, few, full, was, held.less));
    }

pub returns-in_err-put_away-clause-asks : goal.returns-in_err-put_away-clause-asks
returns-in_err-put_away-clause-asks g c =
    let returned = c.from_residual in
    asks_then g.D.Device.CONTEXTS g.D.Device.seen _ c.loop-loaded.device _ tt returned.result c.loop-loaded.invariant.asks
    (some_failed g.D.Device.CONTEXTS g.D.Device.seen c.loop-loaded.device _ _ returned.result (err_from_is_err_and returned.result returned.ensures.1) c.in_err-put_away.ensures.asks)

pub returns-in_err-put_away-clause-swaps : goal.returns-in_err-put_away-clause-swaps
returns-in_err-put_away-clause-swaps g c =
    swaps_then g.D.Device.seen c.args.device.now c.loop-loaded.device _ c.args.records.now c.loop-loaded.records _ c.loop-loaded.invariant.swaps c.put_away.ensures.swaps
