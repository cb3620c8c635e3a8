use Rattle.std.proofs.Common.{◌≡◌, ◌∙◌, ℕ, List, length, set, ap, sym, arith}
use Rattle.std.specs.Prelude.{Option, Some, option_map}
use Rattle.std.specs.Vec.{with_items}
use Rattle.std.proofs.lemmas.List.{with_items_is}
use Rattle.tab_spec.specs.Shape.{number_of_session}
use Rattle.tab_values.specs.Views.{session_of}
use Rattle.history_spec.specs.Entry.{without}
use Rattle.world_spec.specs.World as worlds
use Rattle.world_spec.specs.World.{ClientState, loadable_under, own_place}
use Rattle.plain_machine.specs.declared.sessions.Owned.{Owned}
use Rattle.plain_machine.specs.Owners.{owned_of, owners_of, saved_as}
use Rattle.plain_machine.specs.Views.{state_of}
use Rattle.plain_machine.proofs.Handing.{session_back, session_handle}
use Rattle.plain_machine.proofs.contexts.load_session.Goals as goal

pub returns : goal.returns
returns c = λ objects.
    let client = c.args.client in
    let handle = c.args.handle in
    let bytes = c.args.params.now in
    let sessions = c.args.shared.now.sessions in
    let state : ClientState = state_of c.args.shared.now objects in
    let number = number_of_session handle in
    let found = loadable_under state.sessions client handle in
    let s = session_of c.in-Some.session in
    let saved : saved_as bytes found ≡ Some s =
    ap (λ (places : List (Option Owned)). saved_as bytes (loadable_under (owners_of places) client handle)) (sym c.deref.ensures.value) ∙ c.in-Some.ensures in
    let whole : length c.put_place.new.places ≡ sessions.len = omega arith in
    let placed : owners_of (with_items sessions c.put_place.new.places).items ≡ set state.sessions number (own_place client handle s) =
    ap owners_of (with_items_is sessions c.put_place.new.places whole) ∙ c.put_place.ensures
    ∙ ap (λ (places : List (Option Owned)). set (owners_of places) c.number_of_session-number.result (option_map owned_of c.own_place.result)) c.deref_mut.ensures.value
    ∙ ap (λ (n : ℕ). set state.sessions n (option_map owned_of c.own_place.result)) c.number_of_session-number.ensures
    ∙ ap (λ (place : Option worlds.Owned). set state.sessions number place) c.own_place.ensures in
    let out : c.take.new.self ≡ without number state.left =
    c.take.ensures ∙ ap (λ (n : ℕ). without n state.left) c.number_of_session-number.ensures in
    session_handle handle _ _ (sym c.if-not-is_session_handle.ensures)
    ∙ session_back client state handle bytes found s (owners_of (with_items sessions c.put_place.new.places).items) c.take.new.self
    c.tell_handle.new.reply saved placed out c.tell_handle.ensures
