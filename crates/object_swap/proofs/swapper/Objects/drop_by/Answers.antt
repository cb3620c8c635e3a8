use Rattle.std.proofs.Common.{◌≡◌, get_or, List, ℕ, ap, sym, ◌∙◌, subst, refl, set, rules}
use Rattle.std.specs.Prelude.{Option, Result, Ok, Err, is_some, vec_capacity}
use Rattle.std.proofs.lemmas.Result.{err_from_is_err_and}
use Rattle.device_spec.specs.ContextCommands.{flush_context_command}
use Rattle.device_port.specs.Own.{Asks}
use Rattle.device_port.proofs.Sending.{asks_none, asks_some, some_failed}
use Rattle.device_port.specs.declared.own.SwapError.{SwapError}
use Rattle.device_port.specs.Use.{without_one}
use Rattle.object_swap.specs.declared.record.Record.{Record}
use Rattle.object_swap.specs.Items.{Item, Names, ObjectsView, is_resident, item_at, no_item}
use Rattle.object_swap.specs.Records.{items_of, number, residency}
use Rattle.object_swap.proofs.Flags.{flag_listed}
use Rattle.object_swap.proofs.Listed.{flag_at, named_inside}
use Rattle.object_swap.proofs.Order.{without_unlisted}
use Rattle.object_swap.proofs.Recorded.{can_flush, of_handle, unsent}
use Rattle.object_swap.proofs.Vacancies.{held_flushed, held_out}
use Rattle.object_swap.proofs.Views.{flushed_dropped, flushed_loses, left_dropped, left_loses, met, met_out}
use Rattle.object_swap.proofs.swapper.Objects.drop_by.Goals as goal

-- the record that was looked up
found : (records lent : List Record) (item : ℕ) (d : Record) → lent ≡ records → d ≡ get_or lent item d → d ≡ get_or records item d
found records lent item d same is = subst (λ (l : List Record). d ≡ get_or l item d) same is

pub invariant_of-self : goal.invariant_of-self
invariant_of-self g c =
    let is = found c.self.inside.records.items c.deref.result.now c.args.item c.look_up.result.now c.deref.ensures.value c.look_up.ensures.found in
    let inside = c.self.inside in
    let view = ap (λ (v : ObjectsView). v.items) c.self.view_is in
    let out = met_out inside.records.items c.args.self.now.items c.args.item c.look_up.result.now view c.requires.named is c.in_default.is in
    let left = c.release.ensures in
    record {
      owned = left.owned inside.owners.owners c.self.invariant.owned;
      held = held_out inside.records.items c.release.new.records.items inside.loaded.items inside.left.items _ _ inside.slots c.args.item c.self.invariant.held
          left.items (left.sound inside.contexts c.self.invariant.held.sound) left.count (ap (λ (l : List Item). is_resident (item_at l c.args.item)) view ∙ ap (λ (s : Option ℕ). is_some s) out);
    }

pub returns-in_default-clause-drops : goal.returns-in_default-clause-drops
returns-in_default-clause-drops g c =
    let is = found c.self.inside.records.items c.deref.result.now c.args.item c.look_up.result.now c.deref.ensures.value c.look_up.ensures.found in
    let view = ap (λ (v : ObjectsView). v.items) c.self.view_is in
    let out = met_out c.self.inside.records.items c.args.self.now.items c.args.item c.look_up.result.now view c.requires.named is c.in_default.is in
    let records = c.self.inside.records.items in
    let flag = flag_at (items_of records) c.args.item ∙ ap (λ (l : List Item). is_resident (item_at l c.args.item)) view ∙ ap (λ (s : Option ℕ). is_some s) out in
    let unlisted = without_unlisted c.args.item c.self.inside.loaded.items (c.self.invariant.held.residents.each c.args.item ∙ ap number flag) in
    let items = c.release.ensures.items ∙ ap (λ (l : List Item). set l c.args.item no_item) view in
    record {
      ok = (
        left_loses _ c.requires.stand.0 c.args.item c.args.self.now.items _ c.requires.stand.1 c.requires.named.inside out items,
        sym unlisted ∙ ap (λ (v : ObjectsView). without_one c.args.item v.order) c.self.view_is,
      );
      err = tt;
      sent = unsent _ _ _ out (refl, refl);
      dropped = left_dropped g.D.Device.seen c.args.device.now c.args.item c.args.self.now _ c.requires.named.inside out items
          (ap (λ (v : ObjectsView). v.slots) c.self.view_is) (ap (λ (v : ObjectsView). v.owners) c.self.view_is)
          (ap (λ (v : ObjectsView). v.left) c.self.view_is) (ap (λ (v : ObjectsView). v.contexts) c.self.view_is);
      asks = asks_none g.D.Device.CONTEXTS g.D.Device.seen c.args.device.now;
    }

pub flush-requires-clause-transient : goal.flush-requires-clause-transient
flush-requires-clause-transient g c =
    let is = found c.self.inside.records.items c.deref.result.now c.args.item c.look_up.result.now c.deref.ensures.value c.look_up.ensures.found in
    let met = met c.self.inside.records.items c.args.self.now.items c.args.item c.in-Some.handle c.look_up.result.now c.self.invariant.held.sound (ap (λ (v : ObjectsView). v.items) c.self.view_is) c.requires.named is c.in-Some.is in
    met.transient

pub flush-requires-clause-told : goal.flush-requires-clause-told
flush-requires-clause-told g c =
    let is = found c.self.inside.records.items c.deref.result.now c.args.item c.look_up.result.now c.deref.ensures.value c.look_up.ensures.found in
    let met = met c.self.inside.records.items c.args.self.now.items c.args.item c.in-Some.handle c.look_up.result.now c.self.invariant.held.sound (ap (λ (v : ObjectsView). v.items) c.self.view_is) c.requires.named is c.in-Some.is in
    can_flush _ c.args.self.now.items c.requires.stand.0 c.args.item c.in-Some.handle c.requires.stand.1 c.requires.named.inside met.slot

pub unlist-requires : goal.unlist-requires
unlist-requires g c =
    let is = found c.self.inside.records.items c.deref.result.now c.args.item c.look_up.result.now c.deref.ensures.value c.look_up.ensures.found in
    let view = ap (λ (v : ObjectsView). v.items) c.self.view_is in
    let met = met c.self.inside.records.items c.args.self.now.items c.args.item c.in-Some.handle c.look_up.result.now c.self.invariant.held.sound view c.requires.named is c.in-Some.is in
    let records = c.self.inside.records.items in
    flag_listed (residency records) c.self.inside.loaded.items c.args.item c.self.invariant.held.residents
    (flag_at (items_of records) c.args.item ∙ ap (λ (l : List Item). is_resident (item_at l c.args.item)) view ∙ ap (λ (s : Option ℕ). is_some s) met.slot)

pub invariant_of-self-2 : goal.invariant_of-self-2
invariant_of-self-2 g c =
    let is = found c.self.inside.records.items c.deref.result.now c.args.item c.look_up.result.now c.deref.ensures.value c.look_up.ensures.found in
    let inside = c.self.inside in
    let records = inside.records.items in
    let view = ap (λ (v : ObjectsView). v.items) c.self.view_is in
    let met = met records c.args.self.now.items c.args.item c.in-Some.handle c.look_up.result.now c.self.invariant.held.sound view c.requires.named is c.in-Some.is in
    let left = c.release-2.ensures in
    record {
      owned = left.owned inside.owners.owners c.self.invariant.owned;
      held = held_flushed records c.release-2.new.records.items inside.loaded.items inside.left.items (vec_capacity inside.loaded) (vec_capacity inside.left)
          inside.slots c.args.item c.self.invariant.held left.items (left.sound inside.contexts c.self.invariant.held.sound) left.count c.unlist.new.indices.items (vec_capacity c.unlist.new.indices)
          (named_inside records c.args.item (subst (λ (l : List Item). Names l c.args.item) (sym view) c.requires.named))
          (ap (λ (l : List Item). is_resident (item_at l c.args.item)) view ∙ ap (λ (s : Option ℕ). is_some s) met.slot)
          (c.unlist.ensures.listed (residency records) c.self.invariant.held.residents) c.unlist.ensures.capacity;
    }

pub returns-in_err-flush-clause-drops : goal.returns-in_err-flush-clause-drops
returns-in_err-flush-clause-drops g c =
    let seen = g.D.Device.seen in
    let is = found c.self.inside.records.items c.deref.result.now c.args.item c.look_up.result.now c.deref.ensures.value c.look_up.ensures.found in
    let met = met c.self.inside.records.items c.args.self.now.items c.args.item c.in-Some.handle c.look_up.result.now c.self.invariant.held.sound (ap (λ (v : ObjectsView). v.items) c.self.view_is) c.requires.named is c.in-Some.is in
    let failed = err_from_is_err_and c.from_residual.result c.from_residual.ensures.1 in
    let asks = subst (λ (r : Result (Unit {0}) SwapError). Asks g.D.Device.CONTEXTS seen c.args.device.now c.flush.new.device (flush_context_command c.in-Some.handle) r) (sym (failed.1 ∙ ap (λ (e : SwapError). Err e) failed.2))
    c.in_err-flush.ensures.asks in
    record {
      ok = search rules;
      err = search rules;
      sent = of_handle _ _ (item_at c.args.self.now.items c.args.item).slot c.in-Some.handle met.slot met.transient asks;
      dropped = search rules;
      asks = some_failed g.D.Device.CONTEXTS seen _ _ _ c.from_residual.result failed
          (asks_some g.D.Device.CONTEXTS seen _ _ _ (Err _) c.in_err-flush.ensures.asks);
    }

pub returns-clause-drops : goal.returns-clause-drops
returns-clause-drops g c =
    let seen = g.D.Device.seen in
    let is = found c.self.inside.records.items c.deref.result.now c.args.item c.look_up.result.now c.deref.ensures.value c.look_up.ensures.found in
    let view = ap (λ (v : ObjectsView). v.items) c.self.view_is in
    let met = met c.self.inside.records.items c.args.self.now.items c.args.item c.in-Some.handle c.look_up.result.now c.self.invariant.held.sound view c.requires.named is c.in-Some.is in
    let items = c.release-2.ensures.items ∙ ap (λ (l : List Item). set l c.args.item no_item) view in
    let flushed = c.in_ok-flush.ensures in
    record {
      ok = (
        flushed_loses _ _ c.requires.stand.0 c.args.item c.in-Some.handle c.args.self.now.items _ c.requires.stand.1 c.requires.named.inside met.slot flushed.state items,
        c.unlist.ensures.order ∙ ap (λ (v : ObjectsView). without_one c.args.item v.order) c.self.view_is,
      );
      err = tt;
      sent = of_handle _ _ (item_at c.args.self.now.items c.args.item).slot c.in-Some.handle met.slot met.transient flushed.asks;
      dropped = flushed_dropped seen c.args.device.now c.flush.new.device c.args.item c.in-Some.handle c.args.self.now _ c.requires.named.inside met.slot
          flushed.state flushed.asks.base flushed.asks.count items (ap (λ (v : ObjectsView). v.slots) c.self.view_is)
          (ap (λ (v : ObjectsView). v.owners) c.self.view_is) (ap (λ (v : ObjectsView). v.left) c.self.view_is)
          (ap (λ (v : ObjectsView). v.contexts) c.self.view_is);
      asks = asks_some g.D.Device.CONTEXTS seen _ _ _ (Ok tt) flushed.asks;
    }
