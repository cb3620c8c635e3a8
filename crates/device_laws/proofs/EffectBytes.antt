-- An effect doesn't depend on the bytes of the command's handles.
use Rattle.std.proofs.Common.{◌≡◌, ◌+◌, ◌-◌, ◌≤◌, ◌⊎◌, inl, inr, ℕ, List, [], ◌∷◌, ◌++◌, length, take, drop, refl, ap, sym, ◌∙◌, subst}
use Rattle.std.specs.Prelude.{Option, Some, None, Result, Ok, Err, IfOk, bytes_eq, slice_range, not, ◌==◌, ◌||◌, ◌&&◌, nat_lt, if◌then◌else◌}
use Rattle.tab_spec.specs.declared.Auth.{Auth}
use Rattle.tab_spec.specs.declared.Auths.{Auths}
use Rattle.tab_spec.specs.declared.Shape.{Shape}
use Rattle.tab_spec.specs.declared.Admitted.{Admitted}
use Rattle.tab_spec.specs.declared.TheConstants.{RC_1, RC_ATTRIBUTES, RC_AUTH_UNAVAILABLE, RC_BAD_AUTH, RC_NONCE, RC_S, RC_SIZE, ST_SESSIONS}
use Rattle.tab_spec.specs.Auths.{no_auth}
use Rattle.tab_spec.specs.Admission.{Tables, admitted, unless_fault}
use Rattle.tab_spec.specs.Commands.{row_of}
use Rattle.tab_spec.specs.Hash.{hmac}
use Rattle.tab_spec.specs.Persist.{Persist, drawn}
use Rattle.tab_spec.specs.Session.{Session}
use Rattle.tab_spec.specs.Shape.{with_handles}
use Rattle.tab_spec.specs.Values.{sized_bytes, without_zeros}
use Rattle.effect_spec.specs.Authorization.{Entity, has_other_attributes}
use Rattle.effect_spec.specs.Operands.{Operands, named_session, number_of, operand_at, command_auth}
use Rattle.effect_spec.specs.Nv.{undefined_index}
use Rattle.effect_spec.specs.SessionAuths.{ResponseAuth, asks_password, auth_fault, continued_session, cp_hash, fault_by, response_auth, response_hmac, rp_hash, session_key, session_response_auth, session_response_with}
use Rattle.effect_spec.specs.Effect.{RowOutcome, authorization_fault, command_entity, effect_authorized, effect_in, effect_of, effect_row, outcome_of, response_auth_of}
use Rattle.tab_laws.specs.OtherHandles.{handled}
use Rattle.tab_laws.proofs.Behind.{Agree, AuthBehind, AuthsBehind, auths_of_behind, drop_behind}
use Rattle.tab_laws.proofs.Handled.{handled_is, passed}

-- the fields of an authorization are the same in both
record SameFields (auth : Auth) (old new : List ℕ) : Type 0 where
  nonce : slice_range new auth.nonce.0 auth.nonce.1 ≡ slice_range old auth.nonce.0 auth.nonce.1
  hmac : slice_range new auth.hmac.0 auth.hmac.1 ≡ slice_range old auth.hmac.0 auth.hmac.1

place_same : (at : ℕ) (place : ℕ × ℕ) (old new : List ℕ) → Agree at old new → at ≤ place.0 → slice_range new place.0 place.1 ≡ slice_range old place.0 place.1
place_same at place old new agree later = ap (take (place.1 - place.0)) (drop_behind at place.0 old new agree later)

behind_same : (at : ℕ) (auth : Auth) (old new : List ℕ) → Agree at old new → AuthBehind at auth → SameFields auth old new
behind_same at auth old new agree behind =
    record { nonce = place_same at auth.nonce old new agree behind.nonce; hmac = place_same at auth.hmac old new agree behind.hmac }

none_same : (auth : Auth) (old new : List ℕ) → auth ≡ no_auth → SameFields auth old new
none_same auth old new is = subst (λ (x : Auth). SameFields x old new) (sym is) (record { nonce = refl; hmac = refl })

fields_by : (at : ℕ) (auth : Auth) (old new : List ℕ) → Agree at old new → AuthBehind at auth ⊎ (auth ≡ no_auth) → SameFields auth old new
fields_by at auth old new agree (inl behind) = behind_same at auth old new agree behind
fields_by at auth old new agree (inr none) = none_same auth old new none

-- ---- the fault of an authorization

fault_same : (entity : Entity) (session : Option Session) (auth : Auth) (code : ℕ) (hash : List ℕ) (updates : ℕ) (old new : List ℕ) → SameFields auth old new
    → auth_fault entity session auth new code hash updates ≡ auth_fault entity session auth old code hash updates
fault_same entity None auth code hash updates old new same =
    let by : List ℕ → List ℕ → Option ℕ = λ nonce field.
    if has_other_attributes auth then Some (RC_ATTRIBUTES + RC_S + RC_1)
    else if not (length nonce == 0) then Some (RC_NONCE + RC_S + RC_1)
    else if not entity.user_with_auth then Some RC_AUTH_UNAVAILABLE
    else if bytes_eq (without_zeros field) entity.auth then None
    else Some (RC_BAD_AUTH + RC_S + RC_1) in
    let nonce = same.nonce in
    let field = same.hmac in
    λ i. by (nonce i) (field i)
fault_same entity (Some s) auth code hash updates old new same =
    let by : List ℕ → List ℕ → Option ℕ = λ nonce field.
    if has_other_attributes auth then Some (RC_ATTRIBUTES + RC_S + RC_1)
    else if nat_lt 32 (length nonce) then Some (RC_SIZE + RC_S + RC_1)
    else fault_by s.kind entity s code updates
    (if asks_password s then (if bytes_eq (without_zeros field) entity.auth then None else Some (RC_BAD_AUTH + RC_S + RC_1))
    else if (length field == 0 && length (session_key entity s) == 0)
    || bytes_eq field (hmac (session_key entity s) (hash ++ nonce ++ s.nonce ++ auth.attributes ∷ []))
    then None else Some (RC_BAD_AUTH + RC_S + RC_1)) in
    let nonce = same.nonce in
    let field = same.hmac in
    λ i. by (nonce i) (field i)

-- ---- the authorization of the response

answer_same : (entity : Entity) (s : Session) (auth : Auth) (hash nonce : List ℕ) (old new : List ℕ) → SameFields auth old new
    → response_hmac entity s auth new hash nonce ≡ response_hmac entity s auth old hash nonce
answer_same entity s auth hash nonce old new same =
    let by : List ℕ → List ℕ → List ℕ = λ caller field.
    if length field == 0 || asks_password s then [] else hmac (session_key entity s) (hash ++ nonce ++ caller ++ auth.attributes ∷ []) in
    let caller = same.nonce in
    let field = same.hmac in
    λ i. by (caller i) (field i)

closed_with_same : (entity : Entity) (s : Session) (auth : Auth) (hash : List ℕ) (old new : List ℕ) (draw : Result (List ℕ × Persist) ℕ) → SameFields auth old new
    → session_response_with entity s auth new hash draw ≡ session_response_with entity s auth old hash draw
closed_with_same entity s auth hash old new (Err code) same = refl
closed_with_same entity s auth hash old new (Ok nonce) same =
    let answer = answer_same entity s auth hash nonce.0 old new same in
    λ i. Ok (record {
      persist = nonce.1;
      session = continued_session s.kind (record s { nonce = nonce.0 });
      answer = sized_bytes nonce.0 ++ auth.attributes ∷ sized_bytes (answer i);
    })

closed_same : (persist : Persist) (entity : Entity) (session : Option Session) (auth : Auth) (hash : List ℕ) (old new : List ℕ) → SameFields auth old new
    → response_auth persist entity session auth new hash ≡ response_auth persist entity session auth old hash
closed_same persist entity None auth hash old new same = refl
closed_same persist entity (Some s) auth hash old new same =
    ap session_response_auth (closed_with_same entity s auth hash old new (drawn persist (length s.nonce)) same)

-- ---- the effect

-- all of a command that its effect reads
record SameReads (auths : Auths) (old new : List ℕ) : Type 0 where
  fields : SameFields (command_auth auths) old new
  params : drop auths.params new ≡ drop auths.params old

authorization_same : (persist : Persist) (operands : Operands) (shape : Shape) (first second : ℕ) (auths : Auths) (old new : List ℕ) → SameReads auths old new
    → authorization_fault persist operands (handled shape first second) auths new ≡ authorization_fault persist operands shape auths old
authorization_same persist operands shape first second auths old new same =
    let entity = command_entity persist operands in
    let session = named_session operands.session in
    let auth = command_auth auths in
    let code = shape.row.code in
    let hash : List ℕ → List ℕ = λ params. cp_hash persist code operands.handles params in
    ap (λ (fault : Option ℕ). if shape.row.authorized == 0 then None else fault)
    (ap (λ (params : List ℕ). auth_fault entity session auth new code (hash params) persist.updates) same.params
    ∙ fault_same entity session auth code (hash (drop auths.params old)) persist.updates old new same.fields)

outcome_same : (persist : Persist) (operands : Operands) (shape : Shape) (first second : ℕ) (auths : Auths) (old new : List ℕ) → SameReads auths old new
    → outcome_of persist operands (handled shape first second) auths new ≡ outcome_of persist operands shape auths old
outcome_same persist operands shape first second auths old new same =
    let missing = undefined_index persist.nv 1 (number_of (operand_at operands.handles 0) ∷ number_of (operand_at operands.handles 1) ∷ []) in
    let fault = authorization_same persist operands shape first second auths old new same in
    let params = same.params in
    λ i. unless_fault missing (unless_fault (fault i) (effect_row shape.row.code persist operands.handles (params i)))

left_same : (persist : Persist) (operands : Operands) (shape : Shape) (first second : ℕ) (auths : Auths) (done : RowOutcome) (closed : Result ResponseAuth ℕ)
    → effect_authorized persist operands (handled shape first second) auths done closed ≡ effect_authorized persist operands shape auths done closed
left_same persist operands shape first second auths done (Err code) = refl
left_same persist operands shape first second auths done (Ok closed) = refl

answered_same : (persist : Persist) (operands : Operands) (shape : Shape) (first second : ℕ) (auths : Auths) (old new : List ℕ) (done : RowOutcome) → SameReads auths old new
    → response_auth_of persist operands (handled shape first second) auths new done ≡ response_auth_of persist operands shape auths old done
answered_same persist operands shape first second auths old new done same =
    ap (λ (closed : Result ResponseAuth ℕ).
    if shape.tag == ST_SESSIONS then closed else Ok (record { persist = done.persist; session = named_session operands.session; answer = [] }))
    (closed_same done.persist (command_entity persist operands) (named_session operands.session) (command_auth auths) (rp_hash shape.row.code done.params) old new same.fields)

effect_in_same : (persist : Persist) (operands : Operands) (shape : Shape) (first second : ℕ) (auths : Auths) (old new : List ℕ) (row : Result RowOutcome ℕ)
    → SameReads auths old new → effect_in persist operands (handled shape first second) auths new row ≡ effect_in persist operands shape auths old row
effect_in_same persist operands shape first second auths old new (Err code) same = refl
effect_in_same persist operands shape first second auths old new (Ok done) same =
    ap (effect_authorized persist operands (handled shape first second) auths done) (answered_same persist operands shape first second auths old new done same)
    ∙ left_same persist operands shape first second auths done (response_auth_of persist operands shape auths old done)

reads_same : (tables : Tables) (bytes : List ℕ) (a : Admitted) (first second : ℕ) → admitted row_of tables bytes ≡ Ok a
    → SameReads a.auths bytes (with_handles bytes a.shape (first ∷ second ∷ []))
reads_same tables bytes a first second e =
    let new = with_handles bytes a.shape (first ∷ second ∷ []) in
    let agree = (handled_is tables bytes a first second e).agree in
    let behind : AuthsBehind a.shape.rest a.auths =
    subst (λ (auths : Result Auths ℕ). IfOk auths (AuthsBehind a.shape.rest)) (passed tables bytes a e).given.auths_are (auths_of_behind bytes a.shape) in
    record {
      fields = fields_by a.shape.rest (command_auth a.auths) bytes new agree behind.first;
      params = drop_behind a.shape.rest a.auths.params bytes new agree behind.params;
    }

-- the effect of a command with other handles in its bytes
pub effect_same : (persist : Persist) (operands : Operands) (tables : Tables) (bytes : List ℕ) (a : Admitted) (first second : ℕ) → admitted row_of tables bytes ≡ Ok a
    → effect_of persist operands (handled a.shape first second) a.auths (with_handles bytes a.shape (first ∷ second ∷ []))
    ≡ effect_of persist operands a.shape a.auths bytes
unfolding effect_of
effect_same persist operands tables bytes a first second e =
    let new = with_handles bytes a.shape (first ∷ second ∷ []) in
    let same = reads_same tables bytes a first second e in
    ap (effect_in persist operands (handled a.shape first second) a.auths new) (outcome_same persist operands a.shape first second a.auths bytes new same)
    ∙ effect_in_same persist operands a.shape first second a.auths bytes new (outcome_of persist operands a.shape a.auths bytes) same
