-- What a command does to what the device keeps, and its reply: a row for each command (Part 3).
use Rattle.std.specs.Prelude.{ℕ, ◌≤◌, ◌+◌, ◌==◌, ◌&&◌, not, nat_le, min, Bool, List, [], ◌∷◌, ◌++◌, length, drop, Option, Some, None, is_some, Result, Ok, Err, if◌then◌else◌}
use Rattle.std.specs.Int.{w32, to_be_bytes}
use Rattle.tab_spec.specs.declared.TheConstants.{ST_SESSIONS, CC_GET_RANDOM, CC_SELF_TEST, CC_PCR_READ, CC_PCR_EXTEND, CC_NV_DEFINE_SPACE, CC_NV_UNDEFINE_SPACE, CC_NV_READ_PUBLIC, CC_NV_WRITE, CC_NV_INCREMENT, CC_NV_READ, CC_CREATE_PRIMARY, CC_CREATE, CC_LOAD, CC_UNSEAL, CC_HMAC, CC_READ_PUBLIC, CC_START_AUTH_SESSION, CC_POLICY_SECRET, CC_POLICY_AUTH_VALUE, CC_POLICY_PASSWORD, CC_POLICY_COMMAND_CODE, CC_POLICY_OR, CC_POLICY_PCR, CC_POLICY_RESTART, CC_POLICY_GET_DIGEST, MOST_RANDOM_BYTES, RC_SUCCESS, RC_P, RC_1, RC_VALUE, RC_INSUFFICIENT, RC_COMMAND_CODE}
use Rattle.tab_spec.specs.declared.Shape.{Shape}
use Rattle.tab_spec.specs.declared.Auths.{Auths}
use Rattle.effect_spec.specs.Operands.{CommandOutcome, Operands, Created, nothing, new_object, new_session, nothing_created, Operand, command_auth, operand_at, number_of, object_in, policy_session_in, handles_left, named_session, session_left}
use Rattle.tab_spec.specs.Persist.{Persist, drawn}
use Rattle.tab_spec.specs.Values.{sized_bytes, number16, number8, ◌>>=◌}
use Rattle.tab_spec.specs.Admission.{unless_fault}
use Rattle.tab_spec.specs.Parameters.{in_parameter, when_read}
use Rattle.effect_spec.specs.Nv.{nv_define_row, nv_increment_row, nv_read_public_row, nv_read_row, nv_undefine_row, nv_write_row, undefined_index}
use Rattle.effect_spec.specs.Pcr.{pcr_extend_row, pcr_read_row}
use Rattle.tab_spec.specs.Object.{Object}
use Rattle.effect_spec.specs.Objects.{create_row, hmac_row, read_public_row, unseal_row, load_row, create_primary_row}
use Rattle.effect_spec.specs.Authorization.{Entity, entity_of}
use Rattle.effect_spec.specs.SessionAuths.{ResponseAuth, auth_fault, continues, cp_hash, operand_name, response_auth, rp_hash}
use Rattle.effect_spec.specs.Sessions.{start_session_row}
use Rattle.effect_spec.specs.Policies.{silent_policy, policy_secret_row, policy_needs_row, policy_command_code_row, policy_or_row, policy_pcr_row, policy_restart_row, policy_get_digest_row}
use Rattle.tab_spec.specs.Session.{Session}
use Rattle.tab_spec.specs.declared.AuthNeeded.TheVariants.{AuthValue, Password}
use Rattle.tab_spec.specs.Reply.{error_reply, response}

pub record Effect : Type 0 where
  pub persist : Persist
  pub operands : Operands
  pub outcome : CommandOutcome
  pub reply : List ℕ

-- ---- the rows: what is kept afterwards, and the parameters of the response

abbrev pub random_row_drawn : Result (List ℕ × Persist) ℕ → Result (Persist × List ℕ) ℕ
random_row_drawn draw = do
  (bytes, kept) ← draw
  Ok (kept, sized_bytes bytes)

-- GetRandom: bytesRequested, and the lesser of it and the most bytes at once
abbrev pub random_row : Persist → List ℕ → Result (Persist × List ℕ) ℕ
random_row persist params = when_read (in_parameter 1 (number16 RC_INSUFFICIENT params)) (λ requested. random_row_drawn (drawn persist (min requested MOST_RANDOM_BYTES)))

-- SelfTest: fullTest, which is yes or no; nothing is tested
abbrev pub self_test_row : List ℕ → Result (List ℕ) ℕ
self_test_row params = when_read (in_parameter 1 (number8 RC_INSUFFICIENT params)) (λ full_test. if nat_le full_test 1 then Ok [] else Err (RC_VALUE + RC_P + RC_1))

-- a row that changes nothing
abbrev pub keeping : Persist → Result (List ℕ) ℕ → Result (Persist × List ℕ) ℕ
keeping persist row = do
  params ← row
  Ok (persist, params)

-- a row whose response has no parameters
abbrev pub silent : Result Persist ℕ → Result (Persist × List ℕ) ℕ
silent row = do
  kept ← row
  Ok (kept, [])

-- the rows of NV indexes, with the handles of the command's operands
abbrev pub nv_row : ℕ → Persist → ℕ → ℕ → List ℕ → Result (Persist × List ℕ) ℕ
nv_row code persist first second params =
    if code == CC_NV_DEFINE_SPACE then silent (nv_define_row persist params)
    else if code == CC_NV_UNDEFINE_SPACE then silent (nv_undefine_row persist second params)
    else if code == CC_NV_READ_PUBLIC then keeping persist (nv_read_public_row persist first params)
    else if code == CC_NV_WRITE then silent (nv_write_row persist first second params)
    else if code == CC_NV_INCREMENT then silent (nv_increment_row persist first second params)
    else if code == CC_NV_READ then keeping persist (nv_read_row persist first second params)
    else Err RC_COMMAND_CODE

-- with the handles of the command's operands
abbrev pub row_with : ℕ → Persist → ℕ → ℕ → List ℕ → Result (Persist × List ℕ) ℕ
row_with code persist first second params =
    if code == CC_SELF_TEST then keeping persist (self_test_row params)
    else if code == CC_GET_RANDOM then random_row persist params
    else if code == CC_PCR_READ then keeping persist (pcr_read_row persist params)
    else if code == CC_PCR_EXTEND then silent (pcr_extend_row persist first params)
    else nv_row code persist first second params

-- what a row leaves: what is kept, what was created, the policy session that the handles name, and the parameters of
-- the response
pub record RowOutcome : Type 0 where
  pub persist : Persist
  pub created : Created
  pub policy : Option Session
  pub params : List ℕ

abbrev pub making_nothing : Result (Persist × List ℕ) ℕ → Result RowOutcome ℕ
making_nothing row = do
  (kept, params) ← row
  Ok (record { persist = kept; created = nothing; policy = None; params = params })

-- a row that makes an object and changes nothing of what is kept
abbrev pub making_object : Persist → Result (Object × List ℕ) ℕ → Result RowOutcome ℕ
making_object persist row = do
  (made, params) ← row
  Ok (record { persist = persist; created = new_object made; policy = None; params = params })

-- a row that starts a session
abbrev pub making_session : Result (Session × Persist × List ℕ) ℕ → Result RowOutcome ℕ
making_session row = do
  (started, kept, params) ← row
  Ok (record { persist = kept; created = new_session started; policy = None; params = params })

-- a row that changes a policy session, and nothing of what is kept
abbrev pub changing_policy : Persist → Result (Session × List ℕ) ℕ → Result RowOutcome ℕ
changing_policy persist row = do
  (changed, params) ← row
  Ok (record { persist = persist; created = nothing; policy = Some changed; params = params })

-- the rows of the commands that name a policy session; the Name is that of the first handle
abbrev pub keeping_session : Session → Result (List ℕ) ℕ → Result (Session × List ℕ) ℕ
keeping_session s row = do
  params ← row
  Ok (s, params)

abbrev pub policy_row : ℕ → Persist → Session → List ℕ → List ℕ → Result (Session × List ℕ) ℕ
policy_row code persist s name params =
    if code == CC_POLICY_SECRET then policy_secret_row s name params
    else if code == CC_POLICY_AUTH_VALUE then silent_policy (policy_needs_row AuthValue s params)
    else if code == CC_POLICY_PASSWORD then silent_policy (policy_needs_row Password s params)
    else if code == CC_POLICY_COMMAND_CODE then silent_policy (policy_command_code_row s params)
    else if code == CC_POLICY_OR then silent_policy (policy_or_row s params)
    else if code == CC_POLICY_PCR then silent_policy (policy_pcr_row persist s params)
    else if code == CC_POLICY_RESTART then silent_policy (policy_restart_row s params)
    else if code == CC_POLICY_GET_DIGEST then keeping_session s (policy_get_digest_row s params)
    else Err RC_COMMAND_CODE

-- the rows of the commands whose first handle stands for an object
abbrev pub item_row : ℕ → Persist → Object → List ℕ → Result (Persist × List ℕ) ℕ
item_row code persist item params =
    if code == CC_CREATE then create_row persist item params
    else if code == CC_UNSEAL then keeping persist (unseal_row item params)
    else if code == CC_HMAC then keeping persist (hmac_row item params)
    else if code == CC_READ_PUBLIC then keeping persist (read_public_row item params)
    else Err RC_COMMAND_CODE

abbrev pub object_row : ℕ → Persist → Object → List ℕ → Result RowOutcome ℕ
object_row code persist item params =
    if code == CC_LOAD then making_object persist (load_row item params) else making_nothing (item_row code persist item params)

-- the rows of the others
abbrev pub other_row : ℕ → Persist → ℕ → ℕ → List ℕ → Result RowOutcome ℕ
other_row code persist first second params =
    if code == CC_CREATE_PRIMARY then making_object persist (create_primary_row persist params)
    else if code == CC_START_AUTH_SESSION then making_session (start_session_row persist params)
    else making_nothing (row_with code persist first second params)

-- by the policy session among the handles, and else by the object of the first one
abbrev pub row_by : ℕ → Persist → List Operand → Option Session → Option Object → List ℕ → Result RowOutcome ℕ
row_by code persist operands (Some s) item params =
    changing_policy persist (policy_row code persist s (operand_name persist (operand_at operands 0)) params)
row_by code persist operands None (Some item) params = object_row code persist item params
row_by code persist operands None None params =
    other_row code persist (number_of (operand_at operands 0)) (number_of (operand_at operands 1)) params

abbrev pub effect_row : ℕ → Persist → List Operand → List ℕ → Result RowOutcome ℕ
effect_row code persist operands params =
    row_by code persist operands (policy_session_in operands) (object_in (operand_at operands 0)) params

-- ---- the whole effect

-- what is authorized: the first handle
abbrev pub command_entity : Persist → Operands → Entity
command_entity persist operands = entity_of persist (operand_at operands.handles 0)

-- the first fault of the authorization, where the command needs one
abbrev pub authorization_fault : Persist → Operands → Shape → Auths → List ℕ → Option ℕ
authorization_fault persist operands shape auths bytes =
    if shape.row.authorized == 0 then None
    else auth_fault (command_entity persist operands) (named_session operands.session) (command_auth auths) bytes shape.row.code
    (cp_hash persist shape.row.code operands.handles (drop auths.params bytes)) persist.updates

-- what comes after the header and the response handle: with authorizations the size of the parameters, the parameters,
-- and the response's authorization (Part 1, "Command/Response Structure")
abbrev pub response_body : ℕ → List ℕ → List ℕ → List ℕ
response_body tag params answer = if tag == ST_SESSIONS then to_be_bytes w32 (length params) ++ params ++ answer else params

-- the response handle: 0, until what was made has a place
abbrev pub handle_area : Bool → List ℕ
handle_area has_handle = if has_handle then to_be_bytes w32 0 else []

-- the authorization of the response, by what was authorized before the row: a password's where the command has no
-- session, and nothing is said of it without authorizations
abbrev pub response_auth_of : Persist → Operands → Shape → Auths → List ℕ → RowOutcome → Result ResponseAuth ℕ
response_auth_of persist operands shape auths bytes done =
    if shape.tag == ST_SESSIONS
    then response_auth done.persist (command_entity persist operands) (named_session operands.session) (command_auth auths) bytes
    (rp_hash shape.row.code done.params)
    else Ok (record { persist = done.persist; session = named_session operands.session; answer = [] })

-- whether the session of the authorization ends with this command
abbrev pub ends_session : Operands → Shape → Auths → Bool
ends_session operands shape auths =
    shape.tag == ST_SESSIONS && is_some operands.session && not (continues (command_auth auths))

-- what is left, with the command's tag in the response
abbrev pub effect_left : Operands → Shape → Auths → RowOutcome → ResponseAuth → Effect
effect_left operands shape auths done authorized = record {
  persist = authorized.persist;
  operands = record {
    handles = handles_left done.policy operands.handles;
    session = session_left operands.session authorized.session;
  };
  outcome = record { created = done.created; auth_ended = ends_session operands shape auths };
  reply = response shape.tag RC_SUCCESS
      (handle_area shape.row.response_handle ++ response_body shape.tag done.params authorized.answer);
}

-- an error changes nothing
abbrev pub effect_failed : Persist → Operands → ℕ → Effect
effect_failed persist operands code =
    record { persist = persist; operands = operands; outcome = nothing_created; reply = error_reply code }

abbrev pub effect_authorized : Persist → Operands → Shape → Auths → RowOutcome → Result ResponseAuth ℕ → Effect
effect_authorized persist operands shape auths done (Err code) = effect_failed persist operands code
effect_authorized persist operands shape auths done (Ok authorized) = effect_left operands shape auths done authorized

abbrev pub effect_in : Persist → Operands → Shape → Auths → List ℕ → Result RowOutcome ℕ → Effect
effect_in persist operands shape auths bytes (Err code) = effect_failed persist operands code
effect_in persist operands shape auths bytes (Ok done) =
    effect_authorized persist operands shape auths done (response_auth_of persist operands shape auths bytes done)

-- what a command does: each NV index that it names has to be there, then its authorization is tested, then its row is done
abbrev pub outcome_of : Persist → Operands → Shape → Auths → List ℕ → Result RowOutcome ℕ
outcome_of persist operands shape auths bytes =
    let first = operand_at operands.handles 0 in
    let second = operand_at operands.handles 1 in
    unless_fault (undefined_index persist.nv 1 (number_of first ∷ number_of second ∷ []))
    (unless_fault (authorization_fault persist operands shape auths bytes)
    (effect_row shape.row.code persist operands.handles (drop auths.params bytes)))

-- the response to a command that made something has a place for its handle
abbrev pub HasHandle : Created → List ℕ → Type 0
HasHandle nothing reply = Unit
HasHandle (new_object o) reply = 14 ≤ length reply
HasHandle (new_session s) reply = 14 ≤ length reply

unfoldable pub effect_of : Persist → Operands → Shape → Auths → List ℕ → Effect
effect_of persist operands shape auths bytes =
    effect_in persist operands shape auths bytes (outcome_of persist operands shape auths bytes)
