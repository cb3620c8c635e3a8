-- Which session an effect leaves for the authorization of a client's command: the one that it had.
use Rattle.std.proofs.Common.{◌≡◌, ℕ, Bool, true, false, List, refl, ◌∙◌}
use Rattle.std.specs.Prelude.{◌==◌, ◌&&◌, not, Option, Some, None, is_some, IfSome, Result, Ok, Err, if◌then◌else◌}
use Rattle.tab_spec.specs.declared.TheConstants.{ST_SESSIONS}
use Rattle.tab_spec.specs.declared.Admitted.{Admitted}
use Rattle.tab_spec.specs.declared.Auths.{Auths}
use Rattle.tab_spec.specs.declared.Shape.{Shape}
use Rattle.tab_spec.specs.Admission.{is_session_handle}
use Rattle.tab_spec.specs.Persist.{Persist}
use Rattle.tab_spec.specs.Session.{Session}
use Rattle.effect_spec.specs.Effect.{RowOutcome, effect_authorized, effect_in, effect_of, outcome_of, response_auth_of}
use Rattle.effect_spec.specs.Operands.{Operands, command_auth, session_left, with_handle}
use Rattle.effect_spec.specs.SessionAuths.{ResponseAuth, continues}
use Rattle.world_spec.specs.World.{ClientState, client_operands, session_of}
use Rattle.client_laws.specs.Ready.{client_effect}
use Rattle.client_machine.proofs.SessionsAfter.{IsAuthorized}

-- ---- which session an effect leaves for the authorization

given_handle : (is : Bool) (handle : ℕ) (found : Option Session) → IfSome (if is then with_handle handle found else None) (λ held. held.0 ≡ handle)
given_handle true handle None = tt
given_handle true handle (Some s) = refl
given_handle false handle found = tt

left_handle : (handle : ℕ) (session : Option (ℕ × Session)) (left : Option Session) → IfSome session (λ held. held.0 ≡ handle)
    → IfSome (session_left session left) (λ held. held.0 ≡ handle)
left_handle handle None left is = tt
left_handle handle (Some held) None is = is
left_handle handle (Some held) (Some s) is = is

left_there : (session : Option (ℕ × Session)) (left : Option Session) → is_some (session_left session left) ≡ is_some session
left_there None left = refl
left_there (Some held) None = refl
left_there (Some held) (Some s) = refl

there_by : (tag there more : Bool) → (tag && there && more) ≡ true → there ≡ true
there_by true true more is = refl
there_by true false more is = absurd cc
there_by false there more is = absurd cc

failed_authorized : (handle : ℕ) (operands : Operands) → IfSome operands.session (λ held. held.0 ≡ handle) → IsAuthorized handle false operands.session
failed_authorized handle operands is = record { handle_is = is; there = λ ended. absurd cc }

closed_authorized : (handle : ℕ) (persist : Persist) (operands : Operands) (shape : Shape) (auths : Auths) (done : RowOutcome) (closed : Result ResponseAuth ℕ)
    → IfSome operands.session (λ held. held.0 ≡ handle)
    → let effect = effect_authorized persist operands shape auths done closed in IsAuthorized handle effect.outcome.auth_ended effect.operands.session
closed_authorized handle persist operands shape auths done (Err code) is = failed_authorized handle operands is
closed_authorized handle persist operands shape auths done (Ok closed) is = record {
  handle_is = left_handle handle operands.session closed.session is;
  there = λ ended.
      left_there operands.session closed.session
      ∙ there_by (shape.tag == ST_SESSIONS) (is_some operands.session) (not (continues (command_auth auths))) ended;
}

in_authorized : (handle : ℕ) (persist : Persist) (operands : Operands) (shape : Shape) (auths : Auths) (bytes : List ℕ) (row : Result RowOutcome ℕ)
    → IfSome operands.session (λ held. held.0 ≡ handle)
    → let effect = effect_in persist operands shape auths bytes row in IsAuthorized handle effect.outcome.auth_ended effect.operands.session
in_authorized handle persist operands shape auths bytes (Err code) is = failed_authorized handle operands is
in_authorized handle persist operands shape auths bytes (Ok done) is =
    closed_authorized handle persist operands shape auths done (response_auth_of persist operands shape auths bytes done) is

of_authorized : (handle : ℕ) (persist : Persist) (operands : Operands) (shape : Shape) (auths : Auths) (bytes : List ℕ)
    → IfSome operands.session (λ held. held.0 ≡ handle)
    → let effect = effect_of persist operands shape auths bytes in IsAuthorized handle effect.outcome.auth_ended effect.operands.session
unfolding effect_of
of_authorized handle persist operands shape auths bytes is =
    in_authorized handle persist operands shape auths bytes (outcome_of persist operands shape auths bytes) is

pub left_authorized : (client : ℕ) (state : ClientState) (bytes : List ℕ) (a : Admitted)
    → let effect = client_effect client state a bytes in
    IsAuthorized (command_auth a.auths).session effect.outcome.auth_ended effect.operands.session
left_authorized client state bytes a =
    let handle = (command_auth a.auths).session in
    of_authorized handle state.persist (client_operands client state a.shape a.auths) a.shape a.auths bytes
    (given_handle (is_session_handle handle) handle (session_of state.sessions client handle))
