-- Which entity a struct is, and what the calls over sessions leave.
use Rattle.std.proofs.Common.{inl, inr}
use Rattle.std.specs.Prelude.{◌≡◌, ◌⊎◌, ℕ, List, ◌++◌, Option, Some, None, Result, Ok, Err, MatchResult}
use Rattle.std.specs.Borrow.{Bor, MutBor}
use Rattle.tab_spec.specs.declared.Auth.{Auth}
use Rattle.tab_spec.specs.Persist.{Persist}
use Rattle.tab_spec.specs.Session as session
use Rattle.tab_values.specs.declared.session.Session.{Session}
use Rattle.tab_values.specs.Views.{session_of}
use Rattle.effect_spec.specs.Authorization as authorizations
use Rattle.effect_spec.specs.SessionAuths.{response_auth}
use Rattle.effect_spec.specs.Sessions as sessions
use Rattle.effect_spec.specs.Sessions.{start_session_row}
use Rattle.fx_sessions.specs.declared.entity.Entity.{Entity}
use Rattle.fx_sessions.specs.declared.start.StartParameters.{StartParameters}

abbrev pub entity_of : Entity → authorizations.Entity
entity_of e = record { auth = e.auth; user_with_auth = e.user_with_auth; is_object = e.is_object; policy = e.policy }

-- the session that is given, where one is
abbrev pub session_given : Option (Bor Session) → Option session.Session
session_given None = None
session_given (Some s) = Some (session_of s.now)

-- the same of an `Option<&mut Session>`, as it comes in and as it is left
abbrev pub session_before : Option (MutBor Session) → Option session.Session
session_before None = None
session_before (Some s) = Some (session_of s.now)

abbrev pub session_after : Unit {0} ⊎ ((MutBor Session × Unit {0}) ⊎ ⊥) → Option session.Session
session_after (inl none) = None
session_after (inr (inl left)) = Some (session_of left.0.now)
session_after (inr (inr never)) = None

abbrev pub start_parameters_of : StartParameters → sessions.StartParameters
start_parameters_of b = record { nonce = b.nonce.now; salt = b.salt.now; kind = b.kind; symmetric = b.symmetric; hash = b.hash }

-- what StartAuthSession leaves: the session, what is kept, and the parameters that were appended; or its error, and all as
-- it was
abbrev pub Starts : Result Session ℕ → Persist → Persist → List ℕ → List ℕ → List ℕ → Type 0
Starts result persist persist_new params reply reply_new = MatchResult result
    (λ s. (parameters : List ℕ) × (start_session_row persist params ≡ Ok (session_of s, persist_new, parameters)) × (reply_new ≡ reply ++ parameters))
    (λ code. (start_session_row persist params ≡ Err code) × (persist_new ≡ persist) × (reply_new ≡ reply))

-- what the authorization of a response leaves: what is kept, the session where one is given, and the response authorization that
-- was appended; or its error, and all as it was
abbrev pub AuthorizesResponse : {A : Type 0} → Result A ℕ → Persist → Persist → authorizations.Entity → Option session.Session → Option session.Session → Auth → List ℕ → List ℕ → List ℕ
    → List ℕ → Type 0
AuthorizesResponse result persist persist_new e before after auth bytes hash reply reply_new = MatchResult result
    (λ done. (answer : List ℕ) × (response_auth persist e before auth bytes hash ≡ Ok (record { persist = persist_new; session = after; answer = answer }))
    × (reply_new ≡ reply ++ answer))
    (λ code. (response_auth persist e before auth bytes hash ≡ Err code) × (persist_new ≡ persist) × (after ≡ before) × (reply_new ≡ reply))
