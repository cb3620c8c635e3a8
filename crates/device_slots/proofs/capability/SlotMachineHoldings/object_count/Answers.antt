use Rattle.std.proofs.Common.{◌≡◌, ◌∙◌, ℕ, List, length, ap, sym, arith}
use Rattle.std.specs.Prelude.{Option, option_map}
use Rattle.std.proofs.lemmas.List.{length-map}
use Rattle.tab_spec.specs.declared.TheConstants.{TRANSIENT_FIRST}
use Rattle.effect_spec.specs.Capabilities.{transient_from}
use Rattle.device_spec.specs.Slots.{SlotState}
use Rattle.tab_values.specs.declared.object.Object.{Object}
use Rattle.tab_values.specs.Views.{object_of}
use Rattle.device_slots.specs.Listed.{objects_of}
use Rattle.device_slots.specs.Views.{places_of, slots_of}
use Rattle.device_slots.proofs.Capabilities.{all_objects}
use Rattle.device_slots.proofs.capability.SlotMachineHoldings.object_count.Goals as goal

pub returns : goal.returns
returns c =
    let inside = c.self.inside in
    let slots : SlotState = record { started = inside.started; persist = inside.persist; numbers = inside.numbers; slots = slots_of inside.slots.items; sessions = places_of inside.sessions.items; object_counter = inside.object_counter; counter = inside.counter } in
    let few : length slots.slots ≡ length inside.slots.items = length-map inside.slots.items (option_map object_of) in
    let all : objects_of slots ≡ transient_from TRANSIENT_FIRST (slots_of inside.slots.items) = all_objects slots (omega (arith, few, c.self.invariant.0, c.self.invariant.3)) in
    c.object_count.ensures.count
    ∙ ap (λ (os : List (Option Object)). length (transient_from TRANSIENT_FIRST (slots_of os))) c.deref.ensures.value
    ∙ ap (λ (handles : List ℕ). length handles) (sym all)
    ∙ ap (λ (m : SlotState). length (objects_of m)) c.self.view_is
