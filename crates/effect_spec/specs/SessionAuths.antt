-- Whether a session's authorization stands for what a command names, and the authorization of the response (Part 1, "Session-Based
-- Authorizations" and "Enhanced Authorization"). The order of the faults is this project's own profile.
use Rattle.std.specs.Prelude.{ℕ, ◌+◌, ◌==◌, ◌||◌, ◌&&◌, not, nat_lt, Bool, true, false, List, [], ◌∷◌, ◌++◌, length, slice_range, bit_and, bytes_eq, Option, Some, None, Result, Ok, Err, if◌then◌else◌}
use Rattle.std.specs.Int.{w32, to_be_bytes}
use Rattle.sha2.specs.Sha256.{sha256}
use Rattle.tab_spec.specs.declared.Auth.{Auth}
use Rattle.tab_spec.specs.declared.SessionKind.{SessionKind}
use Rattle.tab_spec.specs.declared.SessionKind.TheVariants as kinds
use Rattle.tab_spec.specs.declared.AuthNeeded.{AuthNeeded}
use Rattle.tab_spec.specs.declared.AuthNeeded.TheVariants as needs
use Rattle.tab_spec.specs.declared.TheConstants.{RC_SUCCESS, RC_S, RC_1, RC_ATTRIBUTES, RC_SIZE, RC_BAD_AUTH, RC_AUTH_UNAVAILABLE, RC_PCR_CHANGED, RC_POLICY_FAIL, RC_POLICY_CC, HT_NV_INDEX}
use Rattle.tab_spec.specs.NvIndex.{NvIndex, index_in}
use Rattle.tab_spec.specs.Hash.{name_of, hmac}
use Rattle.tab_spec.specs.Values.{nv_public_bytes, without_zeros, sized_bytes, ◌>>=◌}
use Rattle.effect_spec.specs.Operands.{Operand, a_session, absent, an_object, plain, operand_at}
use Rattle.tab_spec.specs.Persist.{Persist, drawn}
use Rattle.effect_spec.specs.Objects.{object_name}
use Rattle.tab_spec.specs.Shape.{octet_of}
use Rattle.effect_spec.specs.Authorization.{Entity, has_other_attributes, password_fault, password_response_auth}
use Rattle.tab_spec.specs.Session.{Session, is_set_to_another, restarted}

-- ---- what is authorized

abbrev pub index_name : Option NvIndex → List ℕ
index_name None = []
index_name (Some item) = name_of (nv_public_bytes item.public)

-- the Name of what a handle stands for (Part 1, "Names")
abbrev pub operand_name : Persist → Operand → List ℕ
operand_name persist absent = []
operand_name persist (plain handle) =
    if octet_of handle == HT_NV_INDEX then index_name (index_in handle persist.nv) else to_be_bytes w32 handle
operand_name persist (an_object o) = object_name o.public
operand_name persist (a_session handle s) = to_be_bytes w32 handle

-- cpHash and rpHash (Part 1, "Command Parameter Hash" and "Response Parameter Hash")
abbrev pub cp_hash : Persist → ℕ → List Operand → List ℕ → List ℕ
cp_hash persist code operands params =
    sha256 (to_be_bytes w32 code ++ operand_name persist (operand_at operands 0) ++ operand_name persist (operand_at operands 1) ++ params)

abbrev pub rp_hash : ℕ → List ℕ → List ℕ
rp_hash code params = sha256 (to_be_bytes w32 RC_SUCCESS ++ to_be_bytes w32 code ++ params)

-- ---- the fields of an authorization

abbrev pub nonce_caller : Auth → List ℕ → List ℕ
nonce_caller auth bytes = slice_range bytes auth.nonce.0 auth.nonce.1

abbrev pub hmac_field : Auth → List ℕ → List ℕ
hmac_field auth bytes = slice_range bytes auth.hmac.0 auth.hmac.1

abbrev pub continues : Auth → Bool
continues auth = bit_and 1 auth.attributes == 1

-- ---- what a session asks for

abbrev pub needed_key : Entity → AuthNeeded → List ℕ
needed_key entity needs.Nothing = []
needed_key entity needs.AuthValue = entity.auth
needed_key entity needs.Password = []

-- the key of its hmacs
abbrev pub key_by : Entity → AuthNeeded → SessionKind → List ℕ
key_by entity needed kinds.Hmac = entity.auth
key_by entity needed kinds.Policy = needed_key entity needed
key_by entity needed kinds.Trial = needed_key entity needed

abbrev pub session_key : Entity → Session → List ℕ
session_key entity s = key_by entity s.needed s.kind

abbrev pub is_password : AuthNeeded → Bool
is_password needs.Nothing = false
is_password needs.AuthValue = false
is_password needs.Password = true

-- whether the hmac field holds the auth value itself: a policy may ask for that, and an HMAC session has an hmac there
abbrev pub password_by : SessionKind → AuthNeeded → Bool
password_by kinds.Hmac needed = false
password_by kinds.Policy needed = is_password needed
password_by kinds.Trial needed = is_password needed

abbrev pub asks_password : Session → Bool
asks_password s = password_by s.kind s.needed

abbrev pub hmac_passes : Entity → Session → Auth → List ℕ → List ℕ → Bool
hmac_passes entity s auth bytes hash =
    (length (hmac_field auth bytes) == 0 && length (session_key entity s) == 0)
    || bytes_eq (hmac_field auth bytes) (hmac (session_key entity s) (hash ++ nonce_caller auth bytes ++ s.nonce ++ auth.attributes ∷ []))

-- the comparison that its field has to pass: with the auth value itself, or with an hmac
abbrev pub field_fault : Entity → Session → Auth → List ℕ → List ℕ → Option ℕ
field_fault entity s auth bytes hash =
    if asks_password s
    then (if bytes_eq (without_zeros (hmac_field auth bytes)) entity.auth then None else Some (RC_BAD_AUTH + RC_S + RC_1))
    else if hmac_passes entity s auth bytes hash then None else Some (RC_BAD_AUTH + RC_S + RC_1)

-- what a policy asks for: an object with this policy, this command, and PCRs that weren't updated
abbrev pub policy_fault : Entity → Session → ℕ → ℕ → Option ℕ → Option ℕ
policy_fault entity s code updates field =
    if not entity.is_object then Some RC_AUTH_UNAVAILABLE
    else if not (bytes_eq s.digest entity.policy) then Some (RC_POLICY_FAIL + RC_S + RC_1)
    else if is_set_to_another s.command_code code then Some (RC_POLICY_CC + RC_S + RC_1)
    else if is_set_to_another s.pcr_updates updates then Some RC_PCR_CHANGED
    else field

abbrev pub fault_by : SessionKind → Entity → Session → ℕ → ℕ → Option ℕ → Option ℕ
fault_by kinds.Hmac entity s code updates field = if not entity.user_with_auth then Some RC_AUTH_UNAVAILABLE else field
fault_by kinds.Policy entity s code updates field = policy_fault entity s code updates field
fault_by kinds.Trial entity s code updates field = Some (RC_ATTRIBUTES + RC_S + RC_1)

-- the first fault of a session's authorization of a command with this code and cpHash, at this PCR update count
abbrev pub session_fault : Entity → Session → Auth → List ℕ → ℕ → List ℕ → ℕ → Option ℕ
session_fault entity s auth bytes code hash updates =
    if has_other_attributes auth then Some (RC_ATTRIBUTES + RC_S + RC_1)
    else if nat_lt 32 (length (nonce_caller auth bytes)) then Some (RC_SIZE + RC_S + RC_1)
    else fault_by s.kind entity s code updates (field_fault entity s auth bytes hash)

-- ---- the authorization of the response

-- an empty hmac is answered with an empty one, and so is a password
abbrev pub response_hmac : Entity → Session → Auth → List ℕ → List ℕ → List ℕ → List ℕ
response_hmac entity s auth bytes hash nonce =
    if length (hmac_field auth bytes) == 0 || asks_password s then []
    else hmac (session_key entity s) (hash ++ nonce ++ nonce_caller auth bytes ++ auth.attributes ∷ [])

-- a session after a command that it authorized and that continues it: a policy begins again
abbrev pub continued_session : SessionKind → Session → Session
continued_session kinds.Hmac s = s
continued_session kinds.Policy s = restarted s
continued_session kinds.Trial s = restarted s

-- what a session's authorization of a response leaves
pub record SessionResponse : Type 0 where
  pub persist : Persist
  pub session : Session
  -- the response authorization (Part 2, "TPMS_AUTH_RESPONSE")
  pub answer : List ℕ

abbrev pub session_response_with : Entity → Session → Auth → List ℕ → List ℕ → Result (List ℕ × Persist) ℕ → Result SessionResponse ℕ
session_response_with entity s auth bytes hash draw = do
  (nonce, kept) ← draw
  Ok (record {
    persist = kept;
    session = continued_session s.kind (record s { nonce = nonce });
    answer = sized_bytes nonce ++ auth.attributes
        ∷ sized_bytes (response_hmac entity s auth bytes hash nonce);
  })

-- a session draws a new nonceTPM of its length, also where it ends
abbrev pub session_response : Persist → Entity → Session → Auth → List ℕ → List ℕ → Result SessionResponse ℕ
session_response persist entity s auth bytes hash = session_response_with entity s auth bytes hash (drawn persist (length s.nonce))

-- ---- an authorization of either sort: by a session where one is named, and else by a password

abbrev pub auth_fault : Entity → Option Session → Auth → List ℕ → ℕ → List ℕ → ℕ → Option ℕ
auth_fault entity None auth bytes code hash updates = password_fault entity auth bytes
auth_fault entity (Some s) auth bytes code hash updates = session_fault entity s auth bytes code hash updates

-- what is left of a session, and the authorization of the response, of either sort
pub record ResponseAuth : Type 0 where
  pub persist : Persist
  pub session : Option Session
  pub answer : List ℕ

abbrev pub session_response_auth : Result SessionResponse ℕ → Result ResponseAuth ℕ
session_response_auth made = do
  left ← made
  Ok (record { persist = left.persist; session = Some left.session; answer = left.answer })

abbrev pub response_auth : Persist → Entity → Option Session → Auth → List ℕ → List ℕ → Result ResponseAuth ℕ
response_auth persist entity None auth bytes hash = Ok (record { persist = persist; session = None; answer = password_response_auth })
response_auth persist entity (Some s) auth bytes hash = session_response_auth (session_response persist entity s auth bytes hash)
