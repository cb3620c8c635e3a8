-- What a client's command makes, and that its response tells it.
use Rattle.std.proofs.Common.{◌≡◌, ℕ, Bool, true, false, List, [], ◌++◌, drop, refl, ap, ◌∙◌, arith}
use Rattle.std.specs.Prelude.{◌^◌, Result, Ok, Err, not, nat_lt, ◌==◌, ◌||◌, ◌&&◌, if◌then◌else◌}
use Rattle.std.proofs.lemmas.Bool.{and_from, cond_both, eq-eqb, ltb-true}
use Rattle.tab_spec.specs.declared.TheConstants.{CC_CONTEXT_LOAD, RC_BAD_TAG, RC_SUCCESS, ST_NO_SESSIONS, ST_RSP_COMMAND, ST_SESSIONS}
use Rattle.tab_spec.specs.declared.Auths.{Auths}
use Rattle.tab_spec.specs.declared.Admitted.{Admitted}
use Rattle.tab_spec.specs.declared.Shape.{Shape}
use Rattle.tab_spec.specs.Admission.{Tables, client_admitted}
use Rattle.tab_spec.specs.Frame.{code_of}
use Rattle.tab_spec.specs.Persist.{Persist}
use Rattle.tab_spec.specs.Reply.{error_reply, response}
use Rattle.tab_spec.specs.Shape.{IsShape, loads_object, makes_object_by}
use Rattle.tab_spec.specs.declared.contexts.TheConstants.{PROFILE_CONTEXTS}
use Rattle.effect_spec.specs.Effect.{HasHandle, RowOutcome, command_entity, effect_authorized, effect_in, effect_of, handle_area, outcome_of, response_auth_of, response_body}
use Rattle.effect_spec.specs.Operands.{Created, Operands, command_auth, named_session, new_object, new_session, nothing}
use Rattle.effect_spec.specs.SessionAuths.{ResponseAuth, response_auth, rp_hash}
use Rattle.world_spec.specs.World.{ClientState, client_operands, tables_of}
use Rattle.device_laws.specs.Effects.{is_managed, is_of_effects}
use Rattle.device_laws.proofs.AnswerForms.{of_effects}
use Rattle.device_laws.proofs.Answering.{MadeAs, Makes, clients_have_effects, made_outcome}
use Rattle.device_laws.proofs.FaultRows.{closed_plain, outcome_plain}
use Rattle.device_laws.proofs.Faults.{Fails, IsPlain}
use Rattle.device_laws.proofs.Frames.{code_of_response}
use Rattle.device_laws.proofs.Outcomes.{Tells, TellsBy, made_has_handle, tells_outcome}
use Rattle.tab_laws.proofs.Handled.{client_is}
use Rattle.client_laws.specs.Ready.{TellsMade, client_effect, starts_session}
use Rattle.client_laws.proofs.Commands.{clients_command, makes_one, unmanaged}
use Rattle.client_laws.proofs.Starts.{IsStarted, StartsIn, outcome_starts}

-- ---- what a command makes, by whether it starts a session and whether its response has a handle

abbrev MakesSession : Created → Type 0
MakesSession nothing = ⊥
MakesSession (new_object o) = ⊥
MakesSession (new_session s) = Unit

abbrev MadeBy : Bool → Bool → Created → Type 0
MadeBy true named created = MakesSession created
MadeBy false named created = Makes named created

abbrev MadeIn : Bool → Bool → Result RowOutcome ℕ → Type 0
MadeIn start named (Err code) = Unit
MadeIn start named (Ok done) = MadeBy start named done.created

session_made : (params : List ℕ) (created : Created) → IsStarted params created → MakesSession created
session_made params nothing started = started
session_made params (new_object o) started = started
session_made params (new_session s) started = tt

starting : (params : List ℕ) (named : Bool) (row : Result RowOutcome ℕ) → StartsIn params row → MadeIn true named row
starting params named (Err code) starts = tt
starting params named (Ok done) starts = session_made params done.created starts.1

not_starting : (named : Bool) (row : Result RowOutcome ℕ) → MadeAs named row → MadeIn false named row
not_starting named (Err code) made = tt
not_starting named (Ok done) made = made

-- ---- that it is told

is_told : (start named success : Bool) → start ≡ false → named ≡ true → success ≡ true → (not start && named && success) ≡ true
is_told start named success a b c = rw (a, b, c) refl

nothing_told : (start named success : Bool) → start ≡ false → named ≡ false → ((not start && named && success) ≡ false) × ((start && success) ≡ false)
nothing_told start named success a b = (rw (a, b) refl, rw a refl)

failed_tells : (start named success : Bool) → success ≡ false → ((not start && named && success) ≡ false) × ((start && success) ≡ false)
failed_tells true named success is = (refl, is)
failed_tells false true success is = (is, refl)
failed_tells false false success is = (refl, refl)

-- where the response of a command has a handle, it makes an object, and where it starts a session its response has one
record IsMaker (a : Admitted) (bytes : List ℕ) : Type 0 where
  object : starts_session a ≡ false → a.shape.row.response_handle ≡ true → makes_object_by PROFILE_CONTEXTS (Ok a.shape) bytes ≡ true
  session : starts_session a ≡ true → a.shape.row.response_handle ≡ true

told_by : (a : Admitted) (bytes : List ℕ) (created : Created) (reply : List ℕ) (start named : Bool) → starts_session a ≡ start → a.shape.row.response_handle ≡ named
    → (code_of reply == RC_SUCCESS) ≡ true → MadeBy start named created → TellsBy named created → HasHandle created reply → IsMaker a bytes
    → TellsMade a bytes created reply
told_by a bytes nothing reply true named start_is has success made tells handle maker = absurd made
told_by a bytes nothing reply false true start_is has success made tells handle maker = absurd made
told_by a bytes nothing reply false false start_is has success made tells handle maker =
    nothing_told (starts_session a) a.shape.row.response_handle (code_of reply == RC_SUCCESS) start_is has
told_by a bytes (new_object o) reply true named start_is has success made tells handle maker = absurd made
told_by a bytes (new_object o) reply false true start_is has success made tells handle maker = (
  is_told (starts_session a) a.shape.row.response_handle (code_of reply == RC_SUCCESS) start_is has success,
  handle,
  maker.object start_is has,
)
told_by a bytes (new_object o) reply false false start_is has success made tells handle maker = absurd cc
told_by a bytes (new_session s) reply true named start_is has success made tells handle maker =
    (and_from (starts_session a) (code_of reply == RC_SUCCESS) start_is success, handle)
told_by a bytes (new_session s) reply false true start_is has success made tells handle maker = absurd made
told_by a bytes (new_session s) reply false false start_is has success made tells handle maker = absurd cc

-- ---- errors

failed_code : (success bad hidden small : Bool) → (not success && not bad && not hidden && small) ≡ true → (success ≡ false) × (small ≡ true)
failed_code true bad hidden small e = absurd cc
failed_code false true hidden small e = absurd cc
failed_code false false true small e = absurd cc
failed_code false false false true e = (refl, refl)
failed_code false false false false e = absurd cc

pub error_fails : (code : ℕ) → IsPlain code → (code_of (error_reply code) == RC_SUCCESS) ≡ false
error_fails code fails =
    let parts = failed_code (code == RC_SUCCESS) (code == RC_BAD_TAG) _ (nat_lt code (2 ^ 32)) fails in
    let code_is : code_of (error_reply code) ≡ code =
    code_of_response (if code == RC_BAD_TAG then ST_RSP_COMMAND else ST_NO_SESSIONS) code [] (ltb-true code (2 ^ 32) parts.1) in
    ap (λ (c : ℕ). c == RC_SUCCESS) code_is ∙ parts.0

failed : (a : Admitted) (bytes : List ℕ) (code : ℕ) → IsPlain code → TellsMade a bytes nothing (error_reply code)
failed a bytes code fails =
    failed_tells (starts_session a) a.shape.row.response_handle (code_of (error_reply code) == RC_SUCCESS) (error_fails code fails)

pub closes_plain : (persist : Persist) (operands : Operands) (shape : Shape) (auths : Auths) (bytes : List ℕ) (done : RowOutcome)
    → Fails IsPlain (response_auth_of persist operands shape auths bytes done)
closes_plain persist operands shape auths bytes done =
    let entity = command_entity persist operands in
    let session = named_session operands.session in
    let hash = rp_hash shape.row.code done.params in
    cond_both (shape.tag == ST_SESSIONS) (response_auth done.persist entity session (command_auth auths) bytes hash)
    (Ok (record { persist = done.persist; session = session; answer = [] })) (λ (closed : Result ResponseAuth ℕ). Fails IsPlain closed)
    (λ some. closed_plain done.persist entity session (command_auth auths) bytes hash) (λ none. tt)

-- ---- the whole effect

made_closed : (persist : Persist) (operands : Operands) (a : Admitted) (bytes : List ℕ) (start : Bool) (done : RowOutcome) (closed : Result ResponseAuth ℕ)
    → starts_session a ≡ start → Fails IsPlain closed → MadeBy start a.shape.row.response_handle done.created → TellsBy a.shape.row.response_handle done.created
    → HasHandle (effect_authorized persist operands a.shape a.auths done closed).outcome.created (effect_authorized persist operands a.shape a.auths done closed).reply
    → IsMaker a bytes
    → TellsMade a bytes (effect_authorized persist operands a.shape a.auths done closed).outcome.created (effect_authorized persist operands a.shape a.auths done closed).reply
made_closed persist operands a bytes start done (Err code) is fails made tells handle maker = failed a bytes code fails
made_closed persist operands a bytes start done (Ok closed) is fails made tells handle maker =
    let body = handle_area a.shape.row.response_handle ++ response_body a.shape.tag done.params closed.answer in
    let reply = response a.shape.tag RC_SUCCESS body in
    told_by a bytes done.created reply start a.shape.row.response_handle is refl
    (eq-eqb (code_of reply) RC_SUCCESS (code_of_response a.shape.tag RC_SUCCESS body (omega arith))) made tells handle maker

made_in : (persist : Persist) (operands : Operands) (a : Admitted) (bytes : List ℕ) (start : Bool) (row : Result RowOutcome ℕ) → starts_session a ≡ start
    → Fails IsPlain row → MadeIn start a.shape.row.response_handle row → Tells a.shape.row (drop a.auths.params bytes) row
    → HasHandle (effect_in persist operands a.shape a.auths bytes row).outcome.created (effect_in persist operands a.shape a.auths bytes row).reply
    → IsMaker a bytes
    → TellsMade a bytes (effect_in persist operands a.shape a.auths bytes row).outcome.created (effect_in persist operands a.shape a.auths bytes row).reply
made_in persist operands a bytes start (Err code) is fails made tells handle maker = failed a bytes code fails
made_in persist operands a bytes start (Ok done) is fails made tells handle maker =
    made_closed persist operands a bytes start done (response_auth_of persist operands a.shape a.auths bytes done) is
    (closes_plain persist operands a.shape a.auths bytes done) made tells.0 handle maker

made_of : (persist : Persist) (operands : Operands) (a : Admitted) (bytes : List ℕ) (start : Bool) → starts_session a ≡ start → IsShape a.shape
    → MadeIn start a.shape.row.response_handle (outcome_of persist operands a.shape a.auths bytes) → IsMaker a bytes
    → TellsMade a bytes (effect_of persist operands a.shape a.auths bytes).outcome.created (effect_of persist operands a.shape a.auths bytes).reply
unfolding effect_of
made_of persist operands a bytes start is shape made maker =
    made_in persist operands a bytes start (outcome_of persist operands a.shape a.auths bytes) is (outcome_plain persist operands a.shape a.auths bytes) made
    (tells_outcome persist operands a.shape a.auths bytes shape.row) (made_has_handle persist operands a.shape a.auths bytes shape) maker

-- a client's command has effects alone, where it is neither StartAuthSession nor one that a resource manager carries out
pub of_effects_only : (tables : Tables) (bytes : List ℕ) (a : Admitted) → client_admitted tables bytes ≡ Ok a → is_managed a.shape.row.code ≡ false
    → starts_session a ≡ false → is_of_effects a.shape.row.code ≡ true
of_effects_only tables bytes a e managed start = clients_have_effects a.shape.row.code managed (client_is tables bytes a e).other start

outcome_made : (tables : Tables) (persist : Persist) (operands : Operands) (bytes : List ℕ) (a : Admitted) (start : Bool) → starts_session a ≡ start
    → client_admitted tables bytes ≡ Ok a → is_managed a.shape.row.code ≡ false
    → MadeIn start a.shape.row.response_handle (outcome_of persist operands a.shape a.auths bytes)
outcome_made tables persist operands bytes a true is e managed =
    starting (drop a.auths.params bytes) a.shape.row.response_handle (outcome_of persist operands a.shape a.auths bytes)
    (outcome_starts persist operands a.shape a.auths bytes is)
outcome_made tables persist operands bytes a false is e managed =
    not_starting a.shape.row.response_handle (outcome_of persist operands a.shape a.auths bytes)
    (made_outcome persist operands a.shape a.auths bytes (clients_command tables bytes a e).row
    (of_effects a.shape.row.code (of_effects_only tables bytes a e managed is)))

-- none of them makes an object but by its row
no_load : (one load loads : Bool) → (one || load) ≡ true → load ≡ false → (one || (load && loads)) ≡ true
no_load true load loads e none = refl
no_load false true loads e none = absurd cc
no_load false false loads e none = absurd cc

pub command_made : (client : ℕ) (state : ClientState) (bytes : List ℕ) (a : Admitted) → client_admitted (tables_of client state) bytes ≡ Ok a
    → is_managed a.shape.row.code ≡ false
    → TellsMade a bytes (client_effect client state a bytes).outcome.created (client_effect client state a bytes).reply
command_made client state bytes a e managed =
    let tables = tables_of client state in
    let operands = client_operands client state a.shape a.auths in
    let known = clients_command tables bytes a e in
    made_of state.persist operands a bytes (starts_session a) refl known.shape
    (outcome_made tables state.persist operands bytes a (starts_session a) refl e managed)
    (record {
      object = λ other has.
          no_load (makes_one a.shape.row) (a.shape.row.code == CC_CONTEXT_LOAD) (loads_object PROFILE_CONTEXTS bytes) (known.makes other has)
          (unmanaged a.shape.row.code managed).load;
      session = λ so. (known.starts so).0;
    })
