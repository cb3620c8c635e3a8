-- Contexts: objects and sessions as they stand outside of the device (Part 1, "Context Management"; Part 2, "TPMS_CONTEXT"). How they are hidden, and how the
-- device knows them again, are this project's own profile.
use Rattle.std.specs.Prelude.{ℕ, codes, ◌==◌, nat_le, Bool, List, [], ◌++◌, length, bytes_eq, Option, Some, None, Ok, Err, if◌then◌else◌}
use Rattle.std.specs.Int.{w32, w64, to_be_bytes}
use Rattle.tab_spec.specs.declared.TheConstants.{MOST_BLOB_BYTES, RC_SIZE, RC_INSUFFICIENT, RH_OWNER, RH_NULL, TRANSIENT_FIRST}
use Rattle.tab_spec.specs.Parameters.{in_parameter}
use Rattle.tab_spec.specs.Values.{Reading, number32, number64, require, sized, ◌>>=◌, sized_bytes}
use Rattle.tab_spec.specs.Hash.{masked, kdfa, hmac}
use Rattle.tab_spec.specs.Object.{Object, object_bytes, object_of}
use Rattle.tab_spec.specs.Session.{Session, session_bytes, session_of}

pub record Context : Type 0 where
  pub sequence : ℕ
  pub saved_handle : ℕ
  pub hierarchy : ℕ
  pub blob : List ℕ

-- ---- its bytes

-- what stands in front of its blob
abbrev pub context_head : ℕ → ℕ → ℕ → List ℕ
context_head sequence saved_handle hierarchy = to_be_bytes w64 sequence ++ to_be_bytes w32 saved_handle ++ to_be_bytes w32 hierarchy

abbrev pub context_of : List ℕ → Reading Context
context_of bytes = do
  (sequence, rest) ← number64 RC_INSUFFICIENT bytes
  (saved_handle, rest) ← number32 RC_INSUFFICIENT rest
  (hierarchy, rest) ← number32 RC_INSUFFICIENT rest
  (blob, rest) ← sized RC_INSUFFICIENT rest
  Ok (record { sequence = sequence; saved_handle = saved_handle; hierarchy = hierarchy; blob = blob }, rest)

-- the parameters of ContextLoad (Part 3): a context whose blob isn't too long
abbrev pub blob_fits : Context → Bool
blob_fits c = nat_le (length c.blob) MOST_BLOB_BYTES

abbrev pub context_parameter : List ℕ → Reading Context
context_parameter params = in_parameter 1 (require blob_fits RC_SIZE (context_of params))

-- ---- what its blob has

-- bytes as a device of this seed encrypts them under a number and a handle, and back
abbrev pub context_encrypted : List ℕ → ℕ → ℕ → List ℕ → List ℕ
context_encrypted seed sequence saved_handle bytes =
    masked seed (codes "CONTEXT") (to_be_bytes w64 sequence) (to_be_bytes w32 saved_handle) bytes

-- the integrity value of them
abbrev pub context_key : List ℕ → List ℕ
context_key seed = kdfa seed (codes "CONTEXT MAC") [] [] 32

abbrev pub context_integrity : List ℕ → ℕ → ℕ → ℕ → List ℕ → List ℕ
context_integrity seed sequence saved_handle hierarchy bytes = hmac (context_key seed) (context_head sequence saved_handle hierarchy ++ bytes)

-- the whole context of bytes
abbrev pub context_bytes : List ℕ → ℕ → ℕ → ℕ → List ℕ → List ℕ
context_bytes seed sequence saved_handle hierarchy plain =
    let bytes = context_encrypted seed sequence saved_handle plain in
    context_head sequence saved_handle hierarchy ++ sized_bytes (sized_bytes (context_integrity seed sequence saved_handle hierarchy bytes) ++ bytes)

-- the bytes of a blob: its integrity value, and what is encrypted after it
abbrev pub revealed : List ℕ → Context → Reading (List ℕ) → Option (List ℕ)
revealed seed c (Err code) = None
revealed seed c (Ok blob) =
    if bytes_eq blob.0 (context_integrity seed c.sequence c.saved_handle c.hierarchy blob.1) then Some (context_encrypted seed c.sequence c.saved_handle blob.1) else None

-- the bytes of one whole context, where its integrity value is right
abbrev pub opened_by : List ℕ → Reading Context → Option (List ℕ)
opened_by seed (Err code) = None
opened_by seed (Ok read) = if length read.1 == 0 then revealed seed read.0 (sized RC_SIZE read.0.blob) else None

abbrev pub opened_context : List ℕ → List ℕ → Option (List ℕ)
opened_context seed bytes = opened_by seed (context_of bytes)

-- ---- objects

abbrev pub object_context : List ℕ → ℕ → Object → List ℕ
object_context seed sequence o = context_bytes seed sequence TRANSIENT_FIRST RH_OWNER (object_bytes o)

abbrev pub whole_object : Reading Object → Option Object
whole_object (Err code) = None
whole_object (Ok read) = if length read.1 == 0 then Some read.0 else None

abbrev pub object_within : Option (List ℕ) → Option Object
object_within None = None
object_within (Some plain) = whole_object (object_of plain)

-- the object of one whole context, where its integrity value is right and its bytes are an object's
unfoldable pub opened_object : List ℕ → List ℕ → Option Object
opened_object seed bytes = object_within (opened_context seed bytes)

-- ---- sessions

-- a session is saved under its own handle
abbrev pub session_context : List ℕ → ℕ → ℕ → Session → List ℕ
session_context seed handle sequence s = context_bytes seed sequence handle RH_NULL (session_bytes s)

abbrev pub whole_session : Reading Session → Option Session
whole_session (Err code) = None
whole_session (Ok read) = if length read.1 == 0 then Some read.0 else None

abbrev pub session_within : Option (List ℕ) → Option Session
session_within None = None
session_within (Some plain) = whole_session (session_of plain)

-- the session of one whole context, where its integrity value is right and its bytes are a session's
unfoldable pub opened_session : List ℕ → List ℕ → Option Session
opened_session seed bytes = session_within (opened_context seed bytes)
