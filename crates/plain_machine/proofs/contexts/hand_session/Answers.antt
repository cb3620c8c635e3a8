use Rattle.std.proofs.Common.{◌≡◌, ◌∙◌, ℕ, List, length, set, ap, sym, arith}
use Rattle.std.specs.Prelude.{Option, Some, option_map}
use Rattle.std.specs.Vec.{with_items}
use Rattle.std.proofs.lemmas.List.{with_items_is}
use Rattle.tab_spec.specs.Session.{Session}
use Rattle.tab_spec.specs.Shape.{number_of_session}
use Rattle.effect_spec.specs.Contexts.{session_context}
use Rattle.tab_values.specs.Views.{session_of}
use Rattle.world_spec.specs.World as worlds
use Rattle.world_spec.specs.World.{ClientState, saved_place}
use Rattle.plain_machine.specs.declared.sessions.Owned.{Owned}
use Rattle.plain_machine.specs.Owners.{owned_of, owners_of}
use Rattle.plain_machine.specs.Views.{state_of}
use Rattle.plain_machine.proofs.Handing.{session_hands}
use Rattle.plain_machine.proofs.contexts.hand_session.Goals as goal

pub returns-clause-ran : goal.returns-clause-ran
returns-clause-ran c = λ objects.
    let client = c.args.client in
    let handle = c.args.handle in
    let sessions = c.args.shared.now.sessions in
    let state : ClientState = state_of c.args.shared.now objects in
    let s = session_of c.in-Some.session.now in
    let context = c.put_context-context.result in
    let same : session_of c.copied-session.result ≡ s = c.copied-session.ensures in
    let held : worlds.session_of state.sessions client handle ≡ Some s =
    ap (λ (places : List (Option Owned)). worlds.session_of (owners_of places) client handle) (sym c.deref.ensures.value) ∙ c.in-Some.ensures in
    let is : context ≡ session_context state.persist.seed handle c.args.sequence s =
    c.put_context-context.ensures.context ∙ ap (λ (t : Session). session_context state.persist.seed handle c.args.sequence t) same in
    let whole : length c.put_place.new.places ≡ sessions.len = omega arith in
    let placed : owners_of (with_items sessions c.put_place.new.places).items
    ≡ set state.sessions (number_of_session handle) (saved_place client handle s context) =
    ap owners_of (with_items_is sessions c.put_place.new.places whole) ∙ c.put_place.ensures
    ∙ ap (λ (places : List (Option Owned)). set (owners_of places) c.number_of_session.result (option_map owned_of c.saved_place-place.result)) c.deref_mut.ensures.value
    ∙ ap (λ (n : ℕ). set state.sessions n (option_map owned_of c.saved_place-place.result)) c.number_of_session.ensures
    ∙ ap (λ (place : Option worlds.Owned). set state.sessions (number_of_session handle) place)
    (c.saved_place-place.ensures ∙ ap (λ (t : Session). saved_place client handle t context) same) in
    session_hands client state handle (worlds.session_of state.sessions client handle) c.args.sequence s context c.put_context-context.new.reply
    (owners_of (with_items sessions c.put_place.new.places).items) held (sym c.if-not-may_hand_out.ensures.may) is c.put_context-context.ensures.put placed
