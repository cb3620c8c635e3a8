use Rattle.std.proofs.Common.{◌≡◌, ◌∙◌, List, length, ap, arith}
use Rattle.std.specs.Prelude.{option_map}
use Rattle.std.proofs.lemmas.List.{length-map}
use Rattle.std.proofs.lemmas.Result.{err_from_is_err_and}
use Rattle.tab_spec.specs.declared.TheConstants.{SESSION_NUMBERS}
use Rattle.tab_values.specs.Views.{object_of}
use Rattle.fx_capability.specs.Views.{limits_of}
use Rattle.device_spec.specs.Slots.{SlotState, active_count, capability_row, capability_told}
use Rattle.device_slots.specs.declared.sessions.Place.{Place}
use Rattle.device_slots.specs.Views.{place_of, places_of, slots_of}
use Rattle.device_slots.proofs.Saving.{saved_reply}
use Rattle.device_slots.proofs.Capabilities.{row_seen, refused_as, refuses, succeeds}
use Rattle.device_slots.proofs.machine.SlotMachine.get_capability.Goals as goal

pub returns : goal.returns
returns c =
    let inside = c.self.inside in
    let slots : SlotState = record { started = inside.started; persist = inside.persist; numbers = inside.numbers; slots = slots_of inside.slots.items; sessions = places_of inside.sessions.items; object_counter = inside.object_counter; counter = inside.counter } in
    let counted : c.active_count-active.result ≡ active_count slots.sessions =
    c.active_count-active.ensures.count ∙ ap (λ (ps : List Place). active_count (places_of ps)) c.deref.ensures.value in
    let few : length slots.slots ≡ inside.numbers.slots = length-map inside.slots.items (option_map object_of) ∙ c.self.invariant.0 in
    let less : length slots.sessions ≡ SESSION_NUMBERS = length-map inside.sessions.items place_of ∙ c.self.invariant.1 in
    let row = row_seen slots c.args.self.now (limits_of c.of_the_device.result) c.active_count-active.result c.args.params.now c.self.view_is c.of_the_device.ensures counted
    (omega (arith, few, c.self.invariant.3)) (omega (arith, less)) in
    let put = c.in_ok-capability.ensures.row in
    succeeds c.args.self.now (capability_row c.args.self.now c.args.params.now) put.0 c.end_response.new.reply (row ∙ put.1)
    (saved_reply c.start_response.new.reply put.0 c.capability.new.reply c.end_response.new.reply c.start_response.ensures put.2 c.end_response.ensures)

pub returns-in_err-capability : goal.returns-in_err-capability
returns-in_err-capability c =
    let inside = c.self.inside in
    let slots : SlotState = record { started = inside.started; persist = inside.persist; numbers = inside.numbers; slots = slots_of inside.slots.items; sessions = places_of inside.sessions.items; object_counter = inside.object_counter; counter = inside.counter } in
    let counted : c.active_count-active.result ≡ active_count slots.sessions =
    c.active_count-active.ensures.count ∙ ap (λ (ps : List Place). active_count (places_of ps)) c.deref.ensures.value in
    let few : length slots.slots ≡ inside.numbers.slots = length-map inside.slots.items (option_map object_of) ∙ c.self.invariant.0 in
    let less : length slots.sessions ≡ SESSION_NUMBERS = length-map inside.sessions.items place_of ∙ c.self.invariant.1 in
    let row = row_seen slots c.args.self.now (limits_of c.of_the_device.result) c.active_count-active.result c.args.params.now c.self.view_is c.of_the_device.ensures counted
    (omega (arith, few, c.self.invariant.3)) (omega (arith, less)) in
    let failed = err_from_is_err_and c.from_residual.result c.from_residual.ensures.1 in
    let answer = capability_told c.args.self.now (capability_row c.args.self.now c.args.params.now) in
    refused_as c.from_residual.result answer _ c.in_err-capability.field-0.0 failed.0 failed.1 failed.2
    (refuses c.args.self.now (capability_row c.args.self.now c.args.params.now) c.in_err-capability.field-0.0 (row ∙ c.in_err-capability.ensures.row.0))
