-- Worked examples, which the examples in src/ cite: a device whose seed is zero, and commands and replies by
-- their bytes.
use Rattle.std.specs.Prelude.{ℕ, zero, suc, ◌/◌, ◌%◌, ◌==◌, true, false, Bool, List, [], ◌∷◌, ◌++◌, length, replicate, Option, Some, None, Result, Ok, Err}
use Rattle.std.specs.Int.{w16, w32, w64, to_be_bytes}
use Rattle.tab_spec.specs.declared.Shape.{Shape}
use Rattle.tab_spec.specs.declared.Kind.TheVariants.{Absent}
use Rattle.tab_spec.specs.declared.TheConstants.{CC_GET_RANDOM, CC_PCR_READ, CC_PCR_EXTEND, CC_FLUSH_CONTEXT, CC_CONTEXT_SAVE, RS_PW}
use Rattle.tab_spec.specs.declared.SessionKind.TheVariants.{Policy}
use Rattle.tab_spec.specs.declared.AuthNeeded.TheVariants.{Nothing}
use Rattle.tab_spec.specs.declared.contexts.ContextLimits.{ContextLimits}
use Rattle.tab_spec.specs.declared.contexts.TheConstants.{PROFILE_CONTEXTS}
use Rattle.sha2.specs.Sha256.{sha256}
use Rattle.tab_spec.specs.NvIndex.{NvIndex}
use Rattle.tab_spec.specs.Object.{Object}
use Rattle.tab_spec.specs.Persist.{Persist, fresh_persist, with_pcr}
use Rattle.tab_spec.specs.Values.{Public, public_bytes, sized_bytes}
use Rattle.tab_spec.specs.Session.{Session}
use Rattle.tab_spec.specs.Admission.{Tables}
use Rattle.tab_spec.specs.Commands.{command_row}
use Rattle.tab_spec.specs.Reply.{response}
use Rattle.tab_spec.specs.Shape.{needs_slot, shape_of}

-- PCR 7 extended by 32 zeros
abbrev pub extended_persist : Persist
extended_persist = with_pcr (fresh_persist (replicate 32 0)) 7 (
    0xf5 ∷ 0xa5 ∷ 0xfd ∷ 0x42 ∷ 0xd1 ∷ 0x6a ∷ 0x20 ∷ 0x30 ∷ 0x27 ∷ 0x98 ∷ 0xef ∷ 0x6e ∷ 0xd3 ∷ 0x09 ∷ 0x97 ∷ 0x9b
    ∷ 0x43 ∷ 0x00 ∷ 0x3d ∷ 0x23 ∷ 0x20 ∷ 0xd9 ∷ 0xf0 ∷ 0xe8 ∷ 0xea ∷ 0x98 ∷ 0x31 ∷ 0xa9 ∷ 0x27 ∷ 0x59 ∷ 0xfb ∷ 0x4b ∷ [])

-- by the two bytes of bytesRequested
abbrev pub get_random : ℕ → ℕ → List ℕ
get_random high low = 0x80 ∷ 0x01 ∷ 0 ∷ 0 ∷ 0 ∷ 0x0c ∷ 0 ∷ 0 ∷ 0x01 ∷ 0x7b ∷ high ∷ low ∷ []

abbrev pub cancel_frame : List ℕ
cancel_frame = 0x80 ∷ 0x01 ∷ 0 ∷ 0 ∷ 0 ∷ 0x0a ∷ 0x20 ∷ 0 ∷ 0 ∷ 0x01 ∷ []

-- ten bytes, by the two low bytes of the code
abbrev pub refusal : ℕ → ℕ → List ℕ
refusal high low = 0x80 ∷ 0x01 ∷ 0 ∷ 0 ∷ 0 ∷ 0x0a ∷ 0 ∷ 0 ∷ high ∷ low ∷ []

-- ---- commands by their parts

abbrev pub u32 : ℕ → List ℕ
u32 n = to_be_bytes w32 n

-- so many bytes, as the one number that they spell
abbrev pub bytes_onto : ℕ → ℕ → List ℕ → List ℕ
bytes_onto zero number bytes = bytes
bytes_onto (suc count) number bytes = bytes_onto count (number / 256) (number % 256 ∷ bytes)

abbrev pub bytes_of : ℕ → ℕ → List ℕ
bytes_of count number = bytes_onto count number []

-- a command has the form of a response
abbrev pub frame : ℕ → ℕ → List ℕ → List ℕ
frame tag code body = response tag code body

-- an authorization by this session, whose nonce and hmac are empty
abbrev pub plain_auth : ℕ → List ℕ
plain_auth session = u32 session ++ 0 ∷ 0 ∷ 0 ∷ 0 ∷ 0 ∷ []

-- a password's authorization
abbrev pub password : List ℕ → ℕ → List ℕ → List ℕ
password nonce attributes hmac = u32 RS_PW ++ sized_bytes nonce ++ attributes ∷ sized_bytes hmac

-- an authorization area
abbrev pub area : List ℕ → List ℕ
area auths = u32 (length auths) ++ auths

-- PCR_Extend of PCR 7, with these authorizations and this list of digests; and such a list
abbrev pub extend : List ℕ → List ℕ → List ℕ
extend auths digests = frame 0x8002 CC_PCR_EXTEND (u32 7 ++ area auths ++ digests)

abbrev pub one_digest : List ℕ → List ℕ
one_digest digest = u32 1 ++ 0 ∷ 0x0b ∷ digest

-- PCR_Read of the PCRs with these bits
abbrev pub read_pcrs : List ℕ → List ℕ
read_pcrs bits = frame 0x8001 CC_PCR_READ (u32 1 ++ 0 ∷ 0x0b ∷ 3 ∷ bits)

-- the replies to an extend, and to a read of PCR 7 after it
abbrev pub extend_reply : List ℕ
extend_reply = 0x80 ∷ 0x02 ∷ 0 ∷ 0 ∷ 0 ∷ 0x13 ∷ 0 ∷ 0 ∷ 0 ∷ 0 ∷ 0 ∷ 0 ∷ 0 ∷ 0 ∷ 0 ∷ 0 ∷ 1 ∷ 0 ∷ 0 ∷ []

abbrev pub pcr_7_reply : List ℕ
pcr_7_reply =
    0x80 ∷ 0x01 ∷ 0 ∷ 0 ∷ 0 ∷ 0x3e ∷ 0 ∷ 0 ∷ 0 ∷ 0 ∷ 0 ∷ 0 ∷ 0 ∷ 1 ∷ 0 ∷ 0 ∷ 0 ∷ 1 ∷ 0 ∷ 0x0b ∷ 3 ∷ 0x80 ∷ 0 ∷ 0 ∷ 0 ∷ 0 ∷ 0 ∷ 1 ∷ 0 ∷ 0x20
    ∷ 0xf5 ∷ 0xa5 ∷ 0xfd ∷ 0x42 ∷ 0xd1 ∷ 0x6a ∷ 0x20 ∷ 0x30 ∷ 0x27 ∷ 0x98 ∷ 0xef ∷ 0x6e ∷ 0xd3 ∷ 0x09 ∷ 0x97 ∷ 0x9b
    ∷ 0x43 ∷ 0x00 ∷ 0x3d ∷ 0x23 ∷ 0x20 ∷ 0xd9 ∷ 0xf0 ∷ 0xe8 ∷ 0xea ∷ 0x98 ∷ 0x31 ∷ 0xa9 ∷ 0x27 ∷ 0x59 ∷ 0xfb ∷ 0x4b ∷ []

-- the transient object 0, the policy session 1, and no room for another object
abbrev pub full_tables : Tables
full_tables = record { has_object = λ handle. handle == 0x80000000; has_session = λ handle. handle == 0x03000001; is_full = true; contexts = PROFILE_CONTEXTS }

-- whether a command needs a free slot; nothing where it has no shape
abbrev pub slot_needed_by : ContextLimits → Result Shape ℕ → List ℕ → Option Bool
slot_needed_by contexts (Err code) bytes = None
slot_needed_by contexts (Ok shape) bytes = Some (needs_slot contexts shape bytes)

abbrev pub slot_needed : ContextLimits → List ℕ → Option Bool
slot_needed contexts bytes = slot_needed_by contexts (shape_of bytes) bytes

-- the shape of a GetRandom with this tag
abbrev pub random_shape : ℕ → Shape
random_shape tag = record { row = command_row CC_GET_RANDOM Absent Absent 0 false; tag = tag; handles = 0 ∷ 0 ∷ []; count = 0; rest = 10 }

-- an HMAC key and a storage parent as they are wished for
abbrev pub hmac_key : Public
hmac_key = record { form = 0x08; attributes = 0x00040072; policy = []; unique = [] }

abbrev pub storage_parent : Public
storage_parent = record { form = 0x25; attributes = 0x00030072; policy = []; unique = [] }

-- sealed bytes with this unique field
abbrev pub sealed_bytes : List ℕ → Public
sealed_bytes unique = record { form = 0x08; attributes = 0x00000052; policy = []; unique = unique }

-- a loaded key with these attributes, the auth value 5 and the policy 6
abbrev pub key_with : ℕ → Object
key_with attributes = record {
  public = record hmac_key { attributes = attributes; policy = 6 ∷ [] };
  auth = 5 ∷ [];
  seed = replicate 32 1;
  secret = 7 ∷ [];
  qualified_name = replicate 34 0;
}

-- a policy session that was just begun
abbrev pub policy_session : Session
policy_session = record { kind = Policy; nonce = replicate 32 1; digest = replicate 32 0; command_code = None; needed = Nothing; pcr_updates = None }

-- a counter, 0x01000001, which its own auth value alone writes and reads; when it stands at a number
abbrev pub counter : NvIndex
counter = record {
  public = record { index = 0x01000001; attributes = 0x02040014; policy = []; size = 8 };
  auth = [];
  bytes = replicate 8 0;
}

abbrev pub counter_at : ℕ → NvIndex
counter_at number = record {
  public = record { index = 0x01000001; attributes = 0x22040014; policy = []; size = 8 };
  auth = [];
  bytes = to_be_bytes w64 number;
}

-- four bytes that everybody may write and read, of the index 0x01000002
abbrev pub four_bytes : ℕ → List ℕ → NvIndex
four_bytes attributes bytes = record {
  public = record { index = 0x01000002; attributes = attributes; policy = []; size = 4 };
  auth = [];
  bytes = bytes;
}

-- what a device keeps that has these indexes
abbrev pub with_indexes : List NvIndex → Persist
with_indexes nv = record (fresh_persist (replicate 32 0)) { nv = nv }

-- the parameters that define the counter, with these attributes and more bytes after its public area
abbrev pub counter_definition : ℕ → List ℕ → List ℕ
counter_definition attributes more =
    0 ∷ 0 ∷ [] ++ sized_bytes (u32 0x01000001 ++ 0 ∷ 0x0b ∷ [] ++ u32 attributes ++ 0 ∷ 0 ∷ 0 ∷ 8 ∷ [] ++ more)

-- the parameters that define four_bytes, with this auth value, policy and size
abbrev pub plain_definition : List ℕ → List ℕ → ℕ → List ℕ
plain_definition auth policy size =
    sized_bytes auth ++ sized_bytes (u32 0x01000002 ++ 0 ∷ 0x0b ∷ [] ++ u32 0x00060006 ++ sized_bytes policy ++ to_be_bytes w16 size)

-- what such an index is, and what a device keeps that has it alone
abbrev pub plain_index : List ℕ → List ℕ → List ℕ → NvIndex
plain_index auth policy bytes = record {
  public = record { index = 0x01000002; attributes = 0x00060006; policy = policy; size = length bytes };
  auth = auth;
  bytes = bytes;
}

-- what a device keeps that has one index: of so many zeros, of four bytes that were written, or a counter
abbrev pub zeros_kept : ℕ → Persist
zeros_kept size = with_indexes (plain_index [] [] (replicate size 0) ∷ [])

abbrev pub four_kept : Persist
four_kept = with_indexes (four_bytes 0x20060006 (1 ∷ 2 ∷ 3 ∷ 4 ∷ []) ∷ [])

abbrev pub counter_kept : ℕ → Persist
counter_kept number = with_indexes (counter_at number ∷ [])

-- ---- objects

-- the parameters that create an object with this secret, public area, outsideInfo and selection
abbrev pub template : List ℕ → Public → List ℕ → List ℕ → List ℕ
template sensitive public outside selection = sized_bytes sensitive ++ sized_bytes (public_bytes public) ++ sized_bytes outside ++ selection

-- no auth value and no data; and an auth value and these data
abbrev pub no_secret : List ℕ
no_secret = 0 ∷ 0 ∷ 0 ∷ 0 ∷ []

abbrev pub no_pcrs : List ℕ
no_pcrs = u32 0

-- an object whose fields are as long as they may be
abbrev pub largest_object : Object
largest_object = record {
  public = record storage_parent { policy = replicate 32 1; unique = replicate 32 1 };
  auth = replicate 32 5;
  seed = replicate 32 1;
  secret = replicate 128 7;
  qualified_name = replicate 34 0;
}

-- what a private area hides, by its parts
abbrev pub plain_parts : List ℕ → List ℕ → List ℕ → List ℕ
plain_parts auth seed secret = sized_bytes auth ++ sized_bytes seed ++ sized_bytes secret

-- a loaded storage parent, and a key's bytes with these parts
abbrev pub loaded_parent : Object
loaded_parent = record { public = storage_parent; auth = []; seed = replicate 32 1; secret = replicate 16 2; qualified_name = replicate 34 0 }

abbrev pub object_parts : List ℕ → List ℕ → List ℕ → List ℕ → List ℕ
object_parts auth seed secret qualified_name =
    sized_bytes (public_bytes hmac_key) ++ plain_parts auth seed secret ++ sized_bytes qualified_name

-- a context whose blob has so many bytes, of which the first two are a size that it doesn't have
abbrev pub context_with : ℕ → ℕ → List ℕ
context_with saved_handle size = u32 0 ++ u32 0 ++ u32 saved_handle ++ u32 0x40000001 ++ sized_bytes (replicate size 255)

-- what a row gives, with the hash of its response parameters
abbrev pub hashed : {X : Type 0} → Result (X × List ℕ) ℕ → Result (X × List ℕ) ℕ
hashed (Err code) = Err code
hashed (Ok given) = Ok (given.0, sha256 given.1)

-- three bytes sealed under it with the auth value 5, the private area that its creation tells, and its public area
abbrev pub sealed : Object
sealed = record {
  public = sealed_bytes (0xc5 ∷ 0xd5 ∷ 0x67 ∷ 0x62 ∷ 0xe1 ∷ 0x6a ∷ 0xc1 ∷ 0x01 ∷ 0xd7 ∷ 0x96 ∷ 0xb4 ∷ 0x49 ∷ 0x84 ∷ 0x3e ∷ 0xa0 ∷ 0xde ∷ 0xeb ∷ 0x17 ∷ 0x66 ∷ 0xd3 ∷ 0x75 ∷ 0x02 ∷ 0xd4 ∷ 0x8e ∷ 0x12 ∷ 0x93 ∷ 0x0f ∷ 0xfa ∷ 0x9d ∷ 0x8d ∷ 0x03 ∷ 0x79 ∷ []);
  auth = 5 ∷ [];
  seed = 0x76 ∷ 0xb8 ∷ 0xe0 ∷ 0xad ∷ 0xa0 ∷ 0xf1 ∷ 0x3d ∷ 0x90 ∷ 0x40 ∷ 0x5d ∷ 0x6a ∷ 0xe5 ∷ 0x53 ∷ 0x86 ∷ 0xbd ∷ 0x28 ∷ 0xbd ∷ 0xd2 ∷ 0x19 ∷ 0xb8 ∷ 0xa0 ∷ 0x8d ∷ 0xed ∷ 0x1a ∷ 0xa8 ∷ 0x36 ∷ 0xef ∷ 0xcc ∷ 0x8b ∷ 0x77 ∷ 0x0d ∷ 0xc7 ∷ [];
  secret = 1 ∷ 2 ∷ 3 ∷ [];
  qualified_name = 0x00 ∷ 0x0b ∷ 0x25 ∷ 0x23 ∷ 0x19 ∷ 0x96 ∷ 0x5c ∷ 0x31 ∷ 0x8d ∷ 0x1e ∷ 0x6c ∷ 0x52 ∷ 0x38 ∷ 0x5a ∷ 0x76 ∷ 0x73 ∷ 0x48 ∷ 0x8d ∷ 0x83 ∷ 0x81 ∷ 0xa3 ∷ 0x13 ∷ 0xe2 ∷ 0xad ∷ 0x1f ∷ 0x03 ∷ 0x53 ∷ 0xc0 ∷ 0x37 ∷ 0xcc ∷ 0xdb ∷ 0x5d ∷ 0x89 ∷ 0x3e ∷ [];
}

abbrev pub sealed_private : List ℕ
sealed_private = 0x00 ∷ 0x20 ∷ 0x3f ∷ 0xa5 ∷ 0xb9 ∷ 0x3a ∷ 0x19 ∷ 0xc2 ∷ 0x64 ∷ 0xc3 ∷ 0xba ∷ 0xc5 ∷ 0x8e ∷ 0x5c ∷ 0x40 ∷ 0x5d ∷ 0x62 ∷ 0xab ∷ 0xe8 ∷ 0xec ∷ 0x44 ∷ 0xd6 ∷ 0x49 ∷ 0x3a ∷ 0xa1 ∷ 0x0a ∷ 0xcb ∷ 0xc0 ∷ 0x47 ∷ 0x51 ∷ 0x09 ∷ 0x59 ∷ 0xfe ∷ 0xca ∷ 0x2d ∷ 0xfc ∷ 0x08 ∷ 0x46 ∷ 0x13 ∷ 0x8e ∷ 0xb6 ∷ 0x78 ∷ 0x57 ∷ 0x60 ∷ 0x18 ∷ 0x8d ∷ 0xa8 ∷ 0x6d ∷ 0x66 ∷ 0xd5 ∷ 0xf6 ∷ 0xa0 ∷ 0xf6 ∷ 0xb9 ∷ 0xa7 ∷ 0x38 ∷ 0x1a ∷ 0xf8 ∷ 0xed ∷ 0x96 ∷ 0xf9 ∷ 0xd6 ∷ 0xc0 ∷ 0x49 ∷ 0xaf ∷ 0x1b ∷ 0x2e ∷ 0x4b ∷ 0xf6 ∷ 0xed ∷ 0x7c ∷ 0x77 ∷ 0xfe ∷ 0xf7 ∷ 0x8e ∷ 0x61 ∷ []

-- the first context of it, by the last byte of its hierarchy and what stands in place of its last byte, which is 0xdb
abbrev pub sealed_context : ℕ → List ℕ → List ℕ
sealed_context hierarchy last = 0x00 ∷ 0x00 ∷ 0x00 ∷ 0x00 ∷ 0x00 ∷ 0x00 ∷ 0x00 ∷ 0x00 ∷ 0x80 ∷ 0x00 ∷ 0x00 ∷ 0x00 ∷ 0x40 ∷ 0x00 ∷ 0x00 ∷ hierarchy ∷ 0x00 ∷ 0xa0 ∷ 0x00 ∷ 0x20 ∷ 0xd1 ∷ 0xbe ∷ 0xce ∷ 0x2a ∷ 0xc1 ∷ 0xf5 ∷ 0xa8 ∷ 0xc8 ∷ 0x84 ∷ 0x10 ∷ 0xb5 ∷ 0x06 ∷ 0x1b ∷ 0xcc ∷ 0x7b ∷ 0x1f ∷ 0x36 ∷ 0xa1 ∷ 0x76 ∷ 0x77 ∷ 0x05 ∷ 0x72 ∷ 0x79 ∷ 0x1d ∷ 0xad ∷ 0x11 ∷ 0x14 ∷ 0xd7 ∷ 0x57 ∷ 0xd6 ∷ 0xd0 ∷ 0x1e ∷ 0x7b ∷ 0x8e ∷ 0x9e ∷ 0xde ∷ 0x80 ∷ 0xfb ∷ 0x6f ∷ 0x4e ∷ 0x0f ∷ 0xe4 ∷ 0x55 ∷ 0x92 ∷ 0x90 ∷ 0x83 ∷ 0x35 ∷ 0xf8 ∷ 0xae ∷ 0x63 ∷ 0x69 ∷ 0xba ∷ 0x57 ∷ 0xed ∷ 0x33 ∷ 0xeb ∷ 0x70 ∷ 0xcd ∷ 0xc2 ∷ 0xfc ∷ 0x93 ∷ 0xf3 ∷ 0xe3 ∷ 0xb4 ∷ 0x59 ∷ 0xea ∷ 0x40 ∷ 0xf6 ∷ 0xce ∷ 0x44 ∷ 0x76 ∷ 0x63 ∷ 0x63 ∷ 0x7a ∷ 0x23 ∷ 0x87 ∷ 0xbf ∷ 0xf3 ∷ 0x42 ∷ 0xf5 ∷ 0x2f ∷ 0x4b ∷ 0xac ∷ 0x3a ∷ 0xef ∷ 0xde ∷ 0x46 ∷ 0x95 ∷ 0x70 ∷ 0x04 ∷ 0x53 ∷ 0x4c ∷ 0xfd ∷ 0x78 ∷ 0xbd ∷ 0x0e ∷ 0x64 ∷ 0x0a ∷ 0x7c ∷ 0xe6 ∷ 0x3d ∷ 0x4e ∷ 0x4a ∷ 0x06 ∷ 0x59 ∷ 0x8c ∷ 0xc5 ∷ 0x3c ∷ 0x0c ∷ 0x2b ∷ 0x40 ∷ 0x79 ∷ 0xff ∷ 0x24 ∷ 0x99 ∷ 0x9e ∷ 0x13 ∷ 0x2e ∷ 0xdc ∷ 0xbe ∷ 0x97 ∷ 0xbc ∷ 0x35 ∷ 0x45 ∷ 0x9b ∷ 0x23 ∷ 0xce ∷ 0xe7 ∷ 0x5e ∷ 0xe1 ∷ 0xe6 ∷ 0xf3 ∷ 0x79 ∷ 0x26 ∷ 0xed ∷ 0xf7 ∷ 0xcf ∷ 0x89 ∷ 0x07 ∷ 0x81 ∷ 0x43 ∷ 0xe5 ∷ 0xdf ∷ 0x10 ∷ 0xc7 ∷ 0x77 ∷ 0xe5 ∷ 0x70 ∷ 0x00 ∷ 0x0f ∷ 0x9c ∷ 0xea ∷ 0x90 ∷ 0x1a ∷ 0x03 ∷ 0x56 ∷ 0xd7 ∷ last

-- FlushContext of a handle, and ContextSave of one
abbrev pub flush : ℕ → List ℕ
flush handle = frame 0x8001 CC_FLUSH_CONTEXT (u32 handle)

abbrev pub save : ℕ → List ℕ
save handle = frame 0x8001 CC_CONTEXT_SAVE (u32 handle)
