-- StartAuthSession names nothing that is a client's, and starts a session where its row does.
use Rattle.std.proofs.Common.{◌≡◌, ℕ, Bool, true, false, List, [], ◌∷◌, drop, get_or, refl, ◌∙◌, ap, sym, subst}
use Rattle.std.specs.Prelude.{Option, Some, None, Result, Ok, Err, ◌==◌, is_ok, if◌then◌else◌}
use Rattle.std.proofs.lemmas.Bool.{and_parts, cond-false, cond_both, eqb-true}
use Rattle.tab_spec.specs.declared.CommandRow.{CommandRow}
use Rattle.tab_spec.specs.declared.Kind.TheVariants.{Absent, Null}
use Rattle.tab_spec.specs.declared.Shape.{Shape}
use Rattle.tab_spec.specs.declared.Auth.{Auth}
use Rattle.tab_spec.specs.declared.Auths.{Auths}
use Rattle.tab_spec.specs.declared.TheConstants.{CC_START_AUTH_SESSION, RH_NULL, ST_SESSIONS}
use Rattle.tab_spec.specs.Admission.{is_session_handle, unless_fault}
use Rattle.tab_spec.specs.Commands.{command_row, row_of}
use Rattle.tab_spec.specs.Object.{Object}
use Rattle.tab_spec.specs.Persist.{Persist}
use Rattle.tab_spec.specs.Session.{Session}
use Rattle.tab_spec.specs.Shape.{IsShape, are_of_kinds}
use Rattle.effect_spec.specs.Authorization.{Entity}
use Rattle.effect_spec.specs.Effect.{RowOutcome, command_entity, effect_authorized, effect_in, effect_of, effect_row, making_session, outcome_of, response_auth_of}
use Rattle.effect_spec.specs.Nv.{undefined_index}
use Rattle.effect_spec.specs.Operands.{Operand, Operands, command_auth, handles_left, named_session, operand_by, operands_by, plain, session_named, sessions_after, with_handle}
use Rattle.effect_spec.specs.SessionAuths.{ResponseAuth, auth_fault, cp_hash, response_auth, rp_hash}
use Rattle.effect_spec.specs.Sessions.{start_session_row}
use Rattle.world_spec.specs.World.{Owned, own_place}

abbrev pub start_row : CommandRow
start_row = command_row CC_START_AUTH_SESSION Null Null 0 true

pub row_is : (shape : Shape) → IsShape shape → (shape.row.code == CC_START_AUTH_SESSION) ≡ true → shape.row ≡ start_row
row_is shape is so =
    let known : row_of CC_START_AUTH_SESSION ≡ Some start_row = refl in
    let found : row_of CC_START_AUTH_SESSION ≡ Some shape.row =
    subst (λ (code : ℕ). row_of code ≡ Some shape.row) (eqb-true shape.row.code CC_START_AUTH_SESSION so) is.row in
    let same : Some shape.row ≡ Some start_row = sym found ∙ known in
    cc

-- ---- what its handles stand for

abbrev pub null_operands : Operands
null_operands = record { handles = plain RH_NULL ∷ plain RH_NULL ∷ []; session = None }

null_handles : (handles : List ℕ) → are_of_kinds (Null ∷ Null ∷ []) handles ≡ true → (get_or handles 0 0 ≡ RH_NULL) × (get_or handles 1 0 ≡ RH_NULL)
null_handles [] are = absurd cc
null_handles (first ∷ []) are = absurd (let parts = and_parts (first == RH_NULL) false are in cc)
null_handles (first ∷ second ∷ rest) are =
    let parts = and_parts (first == RH_NULL) (are_of_kinds (Null ∷ []) (second ∷ rest)) are in
    let more = and_parts (second == RH_NULL) true parts.1 in
    (eqb-true first RH_NULL parts.0, eqb-true second RH_NULL more.0)

none_named : (sessions : ℕ → Option Session) (handle : ℕ) → is_session_handle handle ≡ false → session_named sessions handle ≡ None
none_named sessions handle is = cond-false (is_session_handle handle) (with_handle handle (sessions handle)) None is

pub null_stand : (objects : ℕ → Option Object) (sessions : ℕ → Option Session) (shape : Shape) (auths : Auths) → IsShape shape
    → shape.row ≡ start_row → is_session_handle (command_auth auths).session ≡ false → operands_by objects sessions shape auths ≡ null_operands
null_stand objects sessions shape auths is row bare =
    let handles = null_handles shape.handles (subst (λ (r : CommandRow). are_of_kinds r.handles shape.handles ≡ true) row is.kinds) in
    λ i. record {
      handles = operand_by objects sessions (get_or (row i).handles 0 Absent) (handles.0 i)
          ∷ operand_by objects sessions (get_or (row i).handles 1 Absent) (handles.1 i) ∷ [];
      session = none_named sessions (command_auth auths).session bare i;
    }

-- ---- what it leaves

pub start_outcome : (persist : Persist) (shape : Shape) (auths : Auths) (bytes : List ℕ) → shape.row ≡ start_row
    → outcome_of persist null_operands shape auths bytes ≡ making_session (start_session_row persist (drop auths.params bytes))
start_outcome persist shape auths bytes row =
    let params = drop auths.params bytes in
    ap (λ (r : CommandRow). unless_fault (undefined_index persist.nv 1 (RH_NULL ∷ RH_NULL ∷ []))
    (unless_fault (if r.authorized == 0 then None
    else auth_fault (command_entity persist null_operands) None (command_auth auths) bytes r.code
    (cp_hash persist r.code null_operands.handles params) persist.updates)
    (effect_row r.code persist null_operands.handles params))) row

-- no session authorizes it, so its response is whole
closed_none : (persist : Persist) (entity : Entity) (session : Option Session) (auth : Auth) (bytes hash : List ℕ) → session ≡ None
    → is_ok (response_auth persist entity session auth bytes hash) ≡ true
closed_none persist entity None auth bytes hash is = refl
closed_none persist entity (Some s) auth bytes hash is = absurd cc

pub closes : (persist : Persist) (operands : Operands) (shape : Shape) (auths : Auths) (bytes : List ℕ) (done : RowOutcome)
    → named_session operands.session ≡ None → is_ok (response_auth_of persist operands shape auths bytes done) ≡ true
closes persist operands shape auths bytes done none =
    let entity = command_entity persist operands in
    let session = named_session operands.session in
    let hash = rp_hash shape.row.code done.params in
    let Closes : Result ResponseAuth ℕ → Type 0 = λ closed. is_ok closed ≡ true in
    cond_both (shape.tag == ST_SESSIONS) (response_auth done.persist entity session (command_auth auths) bytes hash)
    (Ok (record { persist = done.persist; session = session; answer = [] })) Closes
    (λ sessions. closed_none done.persist entity session (command_auth auths) bytes hash none) (λ other. refl)

handles_same : (policy : Option Session) → handles_left policy null_operands.handles ≡ null_operands.handles
handles_same None = refl
handles_same (Some s) = refl

closed_same : (persist : Persist) (shape : Shape) (auths : Auths) (done : RowOutcome) (closed : Result ResponseAuth ℕ)
    → (effect_authorized persist null_operands shape auths done closed).operands ≡ null_operands
closed_same persist shape auths done (Err code) = refl
closed_same persist shape auths done (Ok closed) =
    ap (λ (handles : List Operand). let operands : Operands = record { handles = handles; session = None } in operands) (handles_same done.policy)

same_in : (persist : Persist) (shape : Shape) (auths : Auths) (bytes : List ℕ) (row : Result RowOutcome ℕ)
    → (effect_in persist null_operands shape auths bytes row).operands ≡ null_operands
same_in persist shape auths bytes (Err code) = refl
same_in persist shape auths bytes (Ok done) =
    closed_same persist shape auths done (response_auth_of persist null_operands shape auths bytes done)

operands_same : (persist : Persist) (shape : Shape) (auths : Auths) (bytes : List ℕ)
    → (effect_of persist null_operands shape auths bytes).operands ≡ null_operands
unfolding effect_of
operands_same persist shape auths bytes =
    same_in persist shape auths bytes (outcome_of persist null_operands shape auths bytes)

-- so no session is another than it was
pub sessions_same : (client : ℕ) (sessions : List (Option Owned)) (persist : Persist) (operands : Operands) (shape : Shape) (auths : Auths)
    (bytes : List ℕ) (ended : Bool) → operands ≡ null_operands
    → sessions_after (own_place client) None sessions (effect_of persist operands shape auths bytes).operands ended ≡ sessions
sessions_same client sessions persist operands shape auths bytes ended is =
    ap (λ (o : Operands). sessions_after (own_place client) None sessions (effect_of persist o shape auths bytes).operands ended) is
    ∙ ap (λ (o : Operands). sessions_after (own_place client) None sessions o ended) (operands_same persist shape auths bytes)
