use Rattle.std.proofs.Common.{arith, List, [], ◌∷◌, ℕ, true, length, length-append, map, ap, sym, ◌∙◌, subst}
use Rattle.std.specs.Prelude.{◌≤◌, Bool, false, Ok, Err, OnErr, Option, Result}
use Rattle.std.proofs.lemmas.Result.{err_from_is_err_and}
use Rattle.device_spec.specs.ContextCommands.{flush_context_command}
use Rattle.device_spec.specs.Slots.{SlotState, slot_of}
use Rattle.device_port.specs.Own.{Asks}
use Rattle.device_port.specs.declared.own.SwapError.{SwapError}
use Rattle.device_port.proofs.Sending.{asks_failed, asks_none, asks_ok, asks_some, some_failed}
use Rattle.object_swap.specs.Items.{Item, ObjectsView, Stand, counter_of, objects_of}
use Rattle.object_swap.proofs.Costs.{some_ok}
use Rattle.object_swap.proofs.Moved.{emptied_counter}
use Rattle.object_swap.proofs.Orphans.{can_flush_last, last_flushed}
use Rattle.object_swap.proofs.Vacancies.{held_popped}
use Rattle.object_swap.proofs.Views.{Last, last_of_left, left_seen}
use Rattle.object_swap.proofs.swapper.Objects.flush_orphan.Goals as goal

pub flush-requires-clause-told : goal.flush-requires-clause-told
flush-requires-clause-told g c =
    let inside = c.self.inside in
    let last : Last inside.left.items c.args.self.now.left c.in-Some.handle.now =
    last_of_left inside.left.items c.args.self.now.left c.deref.result.now c.in-Some.handle.now (ap (λ (v : ObjectsView). v.left) c.self.view_is)
    c.deref.ensures.value c.in-Some.ensures.value c.self.invariant.held.transient in
    let state = (g.D.Device.seen c.args.device.now).state in
    can_flush_last state c.args.self.now.items last.rest c.in-Some.handle.now
    (subst (λ (l : List ℕ). Stand state c.args.self.now.items l) last.seen c.requires.stand)

pub returns-in_err-flush-clause-some : goal.returns-in_err-flush-clause-some
returns-in_err-flush-clause-some g c =
    let inside = c.self.inside in
    let last : Last inside.left.items c.args.self.now.left c.in-Some.handle.now =
    last_of_left inside.left.items c.args.self.now.left c.deref.result.now c.in-Some.handle.now (ap (λ (v : ObjectsView). v.left) c.self.view_is)
    c.deref.ensures.value c.in-Some.ensures.value c.self.invariant.held.transient in
    let failed = err_from_is_err_and c.from_residual.result c.from_residual.ensures.1 in
    let some : 1 ≤ length c.args.self.now.left =
    omega (arith, ap (λ (l : List ℕ). length l) last.seen, length-append last.rest (slot_of c.in-Some.handle.now ∷ [])) in
    subst (λ (r : Result Bool SwapError). OnErr r (1 ≤ length c.args.self.now.left)) (sym failed.1) some

pub returns-in_err-flush-clause-sent : goal.returns-in_err-flush-clause-sent
returns-in_err-flush-clause-sent g c left slot is =
    let inside = c.self.inside in
    let seen = g.D.Device.seen in
    let last : Last inside.left.items c.args.self.now.left c.in-Some.handle.now =
    last_of_left inside.left.items c.args.self.now.left c.deref.result.now c.in-Some.handle.now (ap (λ (v : ObjectsView). v.left) c.self.view_is)
    c.deref.ensures.value c.in-Some.ensures.value c.self.invariant.held.transient in
    subst (λ (handle : ℕ). Asks g.D.Device.CONTEXTS seen c.args.device.now c.flush.new.device (flush_context_command handle) c.from_residual.result) (sym (last.handle left slot is))
    (asks_failed g.D.Device.CONTEXTS seen c.args.device.now c.flush.new.device (flush_context_command c.in-Some.handle.now) _ c.from_residual.result
    (err_from_is_err_and c.from_residual.result c.from_residual.ensures.1) c.in_err-flush.ensures.asks)

pub invariant_of-self : goal.invariant_of-self
invariant_of-self g c =
    let inside = c.self.inside in
    let last : Last inside.left.items c.args.self.now.left c.in-Some.handle.now =
    last_of_left inside.left.items c.args.self.now.left c.deref.result.now c.in-Some.handle.now (ap (λ (v : ObjectsView). v.left) c.self.view_is)
    c.deref.ensures.value c.in-Some.ensures.value c.self.invariant.held.transient in
    record {
      owned = c.self.invariant.owned;
      held = held_popped inside.records.items inside.loaded.items inside.left.items c.pop.new.self.items _ _ _ inside.slots c.in-Some.handle.now
          c.self.invariant.held (last.popped c.pop.new.self.items inside.left.len (omega arith) c.pop.ensures.rest) c.pop.ensures.capacity;
    }

pub returns-clause-flushed : goal.returns-clause-flushed
returns-clause-flushed g c some =
    let inside = c.self.inside in
    let view = c.self.view_is in
    let seen = g.D.Device.seen in
    let items = c.args.self.now.items in
    let handle = c.in-Some.handle.now in
    let last : Last inside.left.items c.args.self.now.left handle =
    last_of_left inside.left.items c.args.self.now.left c.deref.result.now handle (ap (λ (v : ObjectsView). v.left) view)
    c.deref.ensures.value c.in-Some.ensures.value c.self.invariant.held.transient in
    let popped = last.popped c.pop.new.self.items inside.left.len (omega arith) c.pop.ensures.rest in
    let left = sym (ap (λ (v : ObjectsView). v.left) view) ∙ left_seen inside.left.items c.pop.new.self.items handle popped in
    let others = map slot_of c.pop.new.self.items in
    let state = (seen c.args.device.now).state in
    let flushed = last_flushed state items others handle (subst (λ (l : List ℕ). Stand state items l) left c.requires.stand) in
    let state_is = c.in_ok-flush.ensures.state in
    let items_is = ap (λ (v : ObjectsView). v.items) view in
    let new_state = (seen c.flush.new.device).state in
    let slots = ap (λ (v : ObjectsView). v.slots) view in
    let order = ap (λ (v : ObjectsView). v.order) view in
    let owners = ap (λ (v : ObjectsView). v.owners) view in
    let room = ap (λ (v : ObjectsView). v.contexts) view in
    record {
      slot = slot_of handle;
      left = left;
      same = λ i. record { items = items_is i; slots = slots i; order = order i; owners = owners i; left = others; contexts = room i };
      objects = ap (objects_of new_state) items_is ∙ ap (λ (st : Option SlotState). objects_of st items) state_is ∙ flushed.objects;
      stand = subst (λ (l : List Item). Stand new_state l others) (sym items_is)
          (subst (λ (st : Option SlotState). Stand st items others) (sym state_is) flushed.stand);
      counter = ap counter_of state_is ∙ emptied_counter handle state;
    }

pub returns-clause-sent : goal.returns-clause-sent
returns-clause-sent g c left slot is =
    let inside = c.self.inside in
    let seen = g.D.Device.seen in
    let last : Last inside.left.items c.args.self.now.left c.in-Some.handle.now =
    last_of_left inside.left.items c.args.self.now.left c.deref.result.now c.in-Some.handle.now (ap (λ (v : ObjectsView). v.left) c.self.view_is)
    c.deref.ensures.value c.in-Some.ensures.value c.self.invariant.held.transient in
    subst (λ (handle : ℕ). Asks g.D.Device.CONTEXTS seen c.args.device.now c.flush.new.device (flush_context_command handle) (Ok true)) (sym (last.handle left slot is))
    (asks_ok g.D.Device.CONTEXTS seen c.args.device.now c.flush.new.device (flush_context_command c.in-Some.handle.now) tt true c.in_ok-flush.ensures.asks)

pub returns-in_default-clause-asks : goal.returns-in_default-clause-asks
returns-in_default-clause-asks g c = some_ok g.D.Device.CONTEXTS g.D.Device.seen _ _ tt false (asks_none g.D.Device.CONTEXTS g.D.Device.seen c.args.device.now)

pub returns-in_err-flush-clause-asks : goal.returns-in_err-flush-clause-asks
returns-in_err-flush-clause-asks g c =
    let seen = g.D.Device.seen in
    some_failed g.D.Device.CONTEXTS seen _ _ _ c.from_residual.result (err_from_is_err_and c.from_residual.result c.from_residual.ensures.1)
    (asks_some g.D.Device.CONTEXTS seen _ _ _ (Err _) c.in_err-flush.ensures.asks)

pub returns-clause-asks : goal.returns-clause-asks
returns-clause-asks g c = some_ok g.D.Device.CONTEXTS g.D.Device.seen _ _ tt true (asks_some g.D.Device.CONTEXTS g.D.Device.seen _ _ _ (Ok tt) c.in_ok-flush.ensures.asks)
