use Rattle.std.proofs.Common.{◌≡◌, ◌∙◌, ◌+◌, ℕ, List, Ok, ap, subst}
use Rattle.std.specs.Prelude.{Some}
use Rattle.std.specs.Result.{is_err}
use Rattle.tab_spec.specs.declared.TheConstants.{ST_NO_SESSIONS, RC_SUCCESS}
use Rattle.tab_spec.specs.Reply.{response}
use Rattle.effect_spec.specs.Contexts.{object_context}
use Rattle.device_spec.specs.Slots.{SlotState, in_slot, object_saved}
use Rattle.tab_laws.proofs.Outcomes.{from_ok}
use Rattle.tab_values.specs.Views.{object_of}
use Rattle.device_slots.specs.Views.{slots_of, places_of}
use Rattle.device_slots.proofs.Saving.{object_saves, saved_reply, must_be_ok, has_room}
use Rattle.device_slots.proofs.machine.SlotMachine.save_object.Goals as goal

pub unwrap-requires : goal.unwrap-requires
unwrap-requires c =
    let context : List ℕ = object_context c.self.inside.context_keys c.self.inside.object_counter (object_of c.in-Some.object.now) in
    must_be_ok c.seal_object.result _ c.seal_object.ensures.err (λ is. has_room context c.start_response.new.reply c.start_response.ensures c.seal_object.ensures.most is.0)

pub returns : goal.returns
returns c =
    let inside = c.self.inside in
    let o = object_of c.in-Some.object.now in
    let slots : SlotState = record { started = inside.started; persist = inside.persist; numbers = inside.numbers; slots = slots_of inside.slots.items; sessions = places_of inside.sessions.items; object_counter = inside.object_counter; counter = inside.counter } in
    let whole = saved_reply c.start_response.new.reply (object_context inside.context_keys inside.object_counter o) c.seal_object.new.out c.end_response.new.reply
    c.start_response.ensures (from_ok c.seal_object.result _ c.seal_object.ensures.ok (ap is_err c.unwrap.ensures)) c.end_response.ensures
    ∙ ap (λ (seed : List ℕ). response ST_NO_SESSIONS RC_SUCCESS (object_context seed inside.object_counter o)) c.self.invariant.2 in
    let held : in_slot slots c.args.handle ≡ Some o = ap (λ (m : SlotState). in_slot m c.args.handle) c.self.view_is ∙ c.in-Some.ensures in
    subst (λ (m : SlotState). object_saved m (in_slot m c.args.handle) ≡ Ok (record slots { object_counter = slots.object_counter + 1 }, c.end_response.new.reply)) c.self.view_is
    (object_saves slots (in_slot slots c.args.handle) c.end_response.new.reply o held c.if-self-ge-CONTEXT_LIMIT.false whole)
