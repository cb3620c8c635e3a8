use Rattle.std.proofs.Common.{◌≡◌, ◌+◌, ap, sym, ◌∙◌, subst, arith, refl, List, ℕ, Bool, false, get_or, set}
use Rattle.std.specs.Prelude.{◌==◌, Ok, Err}
use Rattle.std.specs.List.{remove}
use Rattle.std.proofs.lemmas.Result.{err_from_is_err_and}
use Rattle.device_port.proofs.Sending.{asks_some, asks_then, some_failed}
use Rattle.object_swap.specs.Items.{is_unsaved, item_at}
use Rattle.object_swap.specs.Records.{ListsFlags, items_of, number, residency}
use Rattle.object_swap.proofs.Costs.{costs_then, none_if_failed, on_err_all, sent_one}
use Rattle.object_swap.proofs.Flags.{lists_removed}
use Rattle.object_swap.proofs.Listed.{flag_cleared, get_or_any, is_out, item_again, item_listed, same_flags}
use Rattle.object_swap.proofs.Recorded.{swaps_then}
use Rattle.object_swap.proofs.residents.put_away.Goals as goal

pub keep_context-requires-clause-item : goal.keep_context-requires-clause-item
keep_context-requires-clause-item g c =
    item_listed c.args.records.now c.args.loaded.now.items c.args.at c.index.result.now c.requires.listed.lists c.requires.inside c.index.ensures

pub leave_slot-requires-clause-item : goal.leave_slot-requires-clause-item
leave_slot-requires-clause-item g c = (
  item_again c.args.records.now c.keep_context.new.records c.index.result.now c.in_ok-keep_context.ensures.residency
      (item_listed c.args.records.now c.args.loaded.now.items c.args.at c.index.result.now c.requires.listed.lists c.requires.inside c.index.ensures),
  c.in_ok-keep_context.ensures.kept.there,
)

pub returns-clause-listed : goal.returns-clause-listed
returns-clause-listed g c =
    let flags = residency c.args.records.now in
    let indices = c.args.loaded.now.items in
    let d = c.index.result.now in
    let flags_are : residency c.leave_slot.new.records ≡ set flags (get_or indices c.args.at d) false =
    c.in_ok-leave_slot.ensures.ok ∙ (λ i. set (c.in_ok-keep_context.ensures.residency i) (c.index.ensures i) false) in
    record {
      lists = subst (λ (l : List ℕ). ListsFlags (residency c.leave_slot.new.records) l) (sym c.remove.ensures.items)
          (subst (λ (f : List Bool). ListsFlags f (remove indices c.args.at)) (sym flags_are)
          (lists_removed flags indices c.args.at d c.requires.listed.lists c.requires.inside));
      most = omega (arith, c.requires.listed.most, c.remove.ensures.capacity);
    }

pub returns-in_err-keep_context-clause-leaves : goal.returns-in_err-keep_context-clause-leaves
returns-in_err-keep_context-clause-leaves g c =
    let d = c.index.result.now in
    let here : d ≡ get_or c.args.loaded.now.items c.args.at 0 = c.index.ensures ∙ get_or_any c.args.loaded.now.items c.args.at d 0 c.requires.inside in
    let left = c.in_err-keep_context.ensures in
    let returned = c.from_residual in
    let failed = err_from_is_err_and returned.result returned.ensures.1 in
    record {
      fewer = same_flags (residency c.args.records.now) _ left.residency;
      others = λ other apart. left.others other (ap (λ (n : ℕ). other == n) here ∙ apart);
      costs = record {
        sent = omega (arith, left.costs.sent, ap (λ (n : ℕ). number (is_unsaved (item_at (items_of c.args.records.now) n))) here);
        saved = left.costs.saved;
      };
      spends = left.spends.1;
      out = none_if_failed _ returned.result _ failed.1;
      order = none_if_failed _ returned.result _ failed.1;
      failed = on_err_all _ returned.result refl;
    }

pub returns-in_err-leave_slot-clause-leaves : goal.returns-in_err-leave_slot-clause-leaves
returns-in_err-leave_slot-clause-leaves g c =
    let d = c.index.result.now in
    let here : d ≡ get_or c.args.loaded.now.items c.args.at 0 = c.index.ensures ∙ get_or_any c.args.loaded.now.items c.args.at d 0 c.requires.inside in
    let saved = c.in_ok-keep_context.ensures in
    let left = c.in_err-leave_slot.ensures in
    let returned = c.from_residual-in_err-leave_slot in
    let failed = err_from_is_err_and returned.result returned.ensures.1 in
    record {
      fewer = same_flags (residency c.args.records.now) _ (left.err ∙ saved.residency);
      others = λ other apart.
          let is = ap (λ (n : ℕ). other == n) here ∙ apart in
          left.others.0 other is ∙ saved.others other is;
      costs = costs_then g.D.Device.seen c.args.device.now c.keep_context.new.device c.leave_slot.new.device c.args.records.now c.keep_context.new.records
          c.leave_slot.new.records _ _ (ap (λ (n : ℕ). number (is_unsaved (item_at (items_of c.args.records.now) n)) + 1) here)
          saved.costs left.others.1 (sent_one g.D.Device.seen c.keep_context.new.device c.leave_slot.new.device _ _ left.asks.2);
      spends = omega (arith, saved.spends.0, left.others.1, sent_one g.D.Device.seen c.keep_context.new.device c.leave_slot.new.device _ _ left.asks.2);
      out = none_if_failed _ returned.result _ failed.1;
      order = none_if_failed _ returned.result _ failed.1;
      failed = on_err_all _ returned.result refl;
    }

pub returns-clause-leaves : goal.returns-clause-leaves
returns-clause-leaves g c =
    let d = c.index.result.now in
    let here : d ≡ get_or c.args.loaded.now.items c.args.at 0 = c.index.ensures ∙ get_or_any c.args.loaded.now.items c.args.at d 0 c.requires.inside in
    let saved = c.in_ok-keep_context.ensures in
    let left = c.in_ok-leave_slot.ensures in
    let flags = residency c.args.records.now in
    let flags_are : residency c.leave_slot.new.records ≡ set flags d false = left.ok ∙ ap (λ (f : List Bool). set f d false) saved.residency in
    record {
      fewer = subst (λ (f : List Bool). (index : ℕ) → get_or flags index false ≡ false → get_or f index false ≡ false) (sym flags_are) (flag_cleared flags d);
      others = λ other apart.
          let is = ap (λ (n : ℕ). other == n) here ∙ apart in
          left.others.0 other is ∙ saved.others other is;
      costs = costs_then g.D.Device.seen c.args.device.now c.keep_context.new.device c.leave_slot.new.device c.args.records.now c.keep_context.new.records
          c.leave_slot.new.records _ _ (ap (λ (n : ℕ). number (is_unsaved (item_at (items_of c.args.records.now) n)) + 1) here)
          saved.costs left.others.1 (sent_one g.D.Device.seen c.keep_context.new.device c.leave_slot.new.device _ _ left.asks.2);
      spends = omega (arith, saved.spends.0, left.others.1, sent_one g.D.Device.seen c.keep_context.new.device c.leave_slot.new.device _ _ left.asks.2);
      out = is_out c.leave_slot.new.records flags d _ flags_are here;
      order = c.remove.ensures.items;
      failed = tt;
    }

pub returns-in_err-leave_slot-clause-swaps : goal.returns-in_err-leave_slot-clause-swaps
returns-in_err-leave_slot-clause-swaps g c =
    swaps_then g.D.Device.seen _ c.keep_context.new.device _ _ c.keep_context.new.records _ c.in_ok-keep_context.ensures.swaps c.in_err-leave_slot.ensures.swaps

pub returns-clause-swaps : goal.returns-clause-swaps
returns-clause-swaps g c =
    swaps_then g.D.Device.seen _ c.keep_context.new.device _ _ c.keep_context.new.records _ c.in_ok-keep_context.ensures.swaps c.in_ok-leave_slot.ensures.swaps

pub returns-in_err-leave_slot-clause-asks : goal.returns-in_err-leave_slot-clause-asks
returns-in_err-leave_slot-clause-asks g c =
    let seen = g.D.Device.seen in
    let returned = c.from_residual-in_err-leave_slot in
    asks_then g.D.Device.CONTEXTS seen _ c.keep_context.new.device _ tt returned.result c.in_ok-keep_context.ensures.asks
    (some_failed g.D.Device.CONTEXTS seen c.keep_context.new.device _ _ returned.result (err_from_is_err_and returned.result returned.ensures.1)
    (asks_some g.D.Device.CONTEXTS seen _ _ _ (Err _) c.in_err-leave_slot.ensures.asks.2))

pub returns-clause-asks : goal.returns-clause-asks
returns-clause-asks g c =
    let seen = g.D.Device.seen in
    asks_then g.D.Device.CONTEXTS seen _ c.keep_context.new.device _ tt (Ok tt) c.in_ok-keep_context.ensures.asks (asks_some g.D.Device.CONTEXTS seen _ _ _ (Ok tt) c.in_ok-leave_slot.ensures.asks.2)
