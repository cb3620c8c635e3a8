use Rattle.std.proofs.Common.{◌≡◌, ◌∙◌, ◌+◌, ◌<◌, ℕ, List, length, Ok, set, ap, sym, subst, arith}
use Rattle.std.specs.Prelude.{Some}
use Rattle.std.specs.Result.{is_err}
use Rattle.std.specs.Vec.{with_items}
use Rattle.std.proofs.lemmas.List.{with_items_is}
use Rattle.tab_spec.specs.Shape.{octet_of, number_of_session}
use Rattle.tab_spec.specs.declared.TheConstants.{ST_NO_SESSIONS, RC_SUCCESS}
use Rattle.tab_spec.specs.Reply.{response}
use Rattle.effect_spec.specs.Contexts.{session_context}
use Rattle.device_spec.specs.Slots.{SlotState, SessionPlace, saved, loaded_session, gap_from, gap_of, oldest_saved, session_saved}
use Rattle.tab_laws.proofs.Outcomes.{from_ok}
use Rattle.tab_values.specs.Views.{session_of}
use Rattle.device_slots.specs.declared.sessions.Place.{Place}
use Rattle.device_slots.specs.Views.{slots_of, places_of}
use Rattle.device_slots.proofs.Saving.{session_saves, saved_reply}
use Rattle.device_slots.proofs.Capabilities.{done}
use Rattle.device_slots.proofs.machine.SlotMachine.save_session.Goals as goal

pub returns : goal.returns
returns c =
    let inside = c.self.inside in
    let handle = c.args.handle in
    let items : List Place = inside.sessions.items in
    let s = session_of c.in-Some.session.now in
    let slots : SlotState = record { started = inside.started; persist = inside.persist; numbers = inside.numbers; slots = slots_of inside.slots.items; sessions = places_of items; object_counter = inside.object_counter; counter = inside.counter } in
    let answer = saved_reply c.start_response.new.reply (session_context inside.context_keys handle inside.counter s) c.seal_session.new.out c.end_response.new.reply
    c.start_response.ensures (from_ok c.seal_session.result _ c.seal_session.ensures.ok (ap is_err c.unwrap.ensures)) c.end_response.ensures
    ∙ ap (λ (seed : List ℕ). response ST_NO_SESSIONS RC_SUCCESS (session_context seed handle inside.counter s)) c.self.invariant.2 in
    let held : loaded_session slots handle ≡ Some s = ap (λ (m : SlotState). loaded_session m handle) c.self.view_is ∙ c.in-Some.ensures in
    let same : c.gap.result ≡ gap_of slots = c.gap.ensures ∙ ap (λ (ps : List Place). gap_from inside.counter (oldest_saved (places_of ps))) c.deref.ensures.value in
    let put : places_of c.put_place.new.places ≡ set (places_of items) (number_of_session handle) (saved (octet_of handle) inside.counter) =
    c.put_place.ensures
    ∙ ap (λ (ps : List Place). set (places_of ps) (number_of_session handle) (saved c.first_octet.result inside.counter)) c.deref_mut.ensures.value
    ∙ ap (λ (o : ℕ). set (places_of items) (number_of_session handle) (saved o inside.counter)) c.first_octet.ensures in
    let now : List Place = (with_items inside.sessions c.put_place.new.places).items in
    let whole : length c.put_place.new.places ≡ inside.sessions.len = omega arith in
    let place : places_of now ≡ set (places_of items) (number_of_session handle) (saved (octet_of handle) inside.counter) =
    ap places_of (with_items_is inside.sessions c.put_place.new.places whole) ∙ put in
    subst (λ (m : SlotState). session_saved m handle (loaded_session m handle) ≡ Ok (record slots { sessions = places_of now; counter = slots.counter + 1 }, c.end_response.new.reply)) c.self.view_is
    (session_saves slots handle (loaded_session slots handle) c.end_response.new.reply s held c.if-number-ge-CONTEXT_LIMIT.false
    (subst (λ (n : ℕ). n < inside.numbers.gap) same (subst (λ (n : ℕ). c.gap.result < n) c.from.ensures c.if-gap-from.false)) answer
    ∙ ap (λ (ps : List SessionPlace). done (record slots { sessions = ps; counter = slots.counter + 1 }) c.end_response.new.reply) (sym place))
