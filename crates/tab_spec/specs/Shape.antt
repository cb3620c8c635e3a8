-- The shape of a command, or the code of its first fault (Part 1, "Command/Response Structure" and "Handles"; Part
-- 3, "Command Code and Command Handling"). The order of the faults is this project's own profile. They are steps 1 to 5
-- of the refusals in docs/PROTOCOL.md.
use Rattle.std.specs.Prelude.{◌≡◌, ℕ, zero, suc, ◌+◌, ◌*◌, ◌/◌, ◌%◌, ◌^◌, ◌==◌, ◌||◌, ◌&&◌, not, nat_lt, Bool, true, false, List, [], ◌∷◌, ◌++◌, length, take, drop, Option, Some, None, Result, Ok, Err, if◌then◌else◌}
use Rattle.std.specs.Int.{w32, from_be_bytes, to_be_bytes}
use Rattle.tab_spec.specs.declared.Kind.{Kind}
use Rattle.tab_spec.specs.declared.Kind.TheVariants.{Absent, Owner, Pcr, Nv, NvAuth, Object, Policy, Entity, Saved, Null}
use Rattle.tab_spec.specs.declared.CommandRow.{CommandRow}
use Rattle.tab_spec.specs.declared.Shape.{Shape}
use Rattle.tab_spec.specs.declared.TheConstants.{HEADER_BYTES, ST_NO_SESSIONS, ST_SESSIONS, CC_CREATE, CC_CREATE_PRIMARY, CC_LOAD, CC_CONTEXT_LOAD, RC_BAD_TAG, RC_COMMAND_SIZE, RC_COMMAND_CODE, RC_INSUFFICIENT, RC_VALUE, RC_HANDLE, RC_1, RH_OWNER, RH_NULL, HT_NV_INDEX, HT_HMAC_SESSION, HT_POLICY_SESSION, HT_TRANSIENT, HT_PERSISTENT, PCRS}
use Rattle.tab_spec.specs.declared.contexts.ContextLimits.{ContextLimits}
use Rattle.tab_spec.specs.Contexts.{is_saved_object}
use Rattle.tab_spec.specs.Frame.{code_of, is_frame, tag_of}
use Rattle.tab_spec.specs.Commands.{row_of}

-- ---- size, tag and code

abbrev pub is_command_tag : ℕ → Bool
is_command_tag tag = tag == ST_NO_SESSIONS || tag == ST_SESSIONS

abbrev pub known_row : Option CommandRow → Result CommandRow ℕ
known_row None = Err RC_COMMAND_CODE
known_row (Some row) = Ok row

-- the row among these commands, or the code of the first fault: of the size (step 1), of the tag (step 2), of the command
-- code (step 3)
abbrev pub row_in : (ℕ → Option CommandRow) → List ℕ → Result CommandRow ℕ
row_in rows bytes =
    if not (is_frame bytes) then Err RC_COMMAND_SIZE
    else if not (is_command_tag (tag_of bytes)) then Err RC_BAD_TAG
    else known_row (rows (code_of bytes))

-- ---- handles

-- the first octet of a handle is its most significant byte, which says what it is a handle of (Part 2, "TPM_HT")
abbrev pub octet_of : ℕ → ℕ
octet_of handle = handle / 2 ^ 24

abbrev pub is_session_octet : ℕ → Bool
is_session_octet octet = octet == HT_HMAC_SESSION || octet == HT_POLICY_SESSION

-- the number of a session, which its handle has in the other three bytes
abbrev pub number_of_session : ℕ → ℕ
number_of_session handle = handle % 2 ^ 24

abbrev pub is_present : Kind → Bool
is_present Absent = false
is_present Owner = true
is_present Pcr = true
is_present Nv = true
is_present NvAuth = true
is_present Object = true
is_present Policy = true
is_present Entity = true
is_present Saved = true
is_present Null = true

-- whether a handle may stand where this kind is asked for
abbrev pub is_of_kind : Kind → ℕ → Bool
is_of_kind Absent handle = true
is_of_kind Owner handle = handle == RH_OWNER
is_of_kind Pcr handle = nat_lt handle PCRS
is_of_kind Nv handle = octet_of handle == HT_NV_INDEX
is_of_kind NvAuth handle = handle == RH_OWNER || octet_of handle == HT_NV_INDEX
is_of_kind Object handle = octet_of handle == HT_TRANSIENT
is_of_kind Policy handle = octet_of handle == HT_POLICY_SESSION
is_of_kind Entity handle = handle == RH_OWNER || nat_lt handle PCRS || octet_of handle == HT_NV_INDEX || octet_of handle == HT_TRANSIENT
is_of_kind Saved handle = octet_of handle == HT_TRANSIENT || octet_of handle == HT_HMAC_SESSION || octet_of handle == HT_POLICY_SESSION
is_of_kind Null handle = handle == RH_NULL

-- whether an object may stand there
abbrev pub may_be_object : Kind → Bool
may_be_object Absent = false
may_be_object Owner = false
may_be_object Pcr = false
may_be_object Nv = false
may_be_object NvAuth = false
may_be_object Object = true
may_be_object Policy = false
may_be_object Entity = true
may_be_object Saved = true
may_be_object Null = false

-- the code that refuses a handle of another kind, without its number
abbrev pub kind_code : Kind → ℕ → ℕ
kind_code kind handle = if may_be_object kind && octet_of handle == HT_PERSISTENT then RC_HANDLE else RC_VALUE

-- the handle of this number, from 1 (Part 1, "Handle Area")
abbrev pub handle_at : ℕ → List ℕ → ℕ
handle_at n bytes = from_be_bytes w32 (take 4 (drop (6 + 4 * n) bytes))

-- the handles of these kinds, the first of which has this number; 0 for an absent one
abbrev pub handles_in : List Kind → ℕ → List ℕ → List ℕ
handles_in [] n bytes = []
handles_in (kind ∷ kinds) n bytes = (if is_present kind then handle_at n bytes else 0) ∷ handles_in kinds (n + 1) bytes

abbrev pub count_in : List Kind → ℕ
count_in [] = 0
count_in (kind ∷ kinds) = (if is_present kind then 1 else 0) + count_in kinds

-- step 4: the code of the first handle that isn't whole
abbrev pub cut_handle : List Kind → ℕ → List ℕ → Option ℕ
cut_handle [] n bytes = None
cut_handle (kind ∷ kinds) n bytes =
    if is_present kind && nat_lt (length bytes) (HEADER_BYTES + 4 * n) then Some (RC_INSUFFICIENT + RC_1 * n)
    else cut_handle kinds (n + 1) bytes

-- step 5: the code of the first handle that is of another kind
abbrev pub wrong_handle : List Kind → ℕ → List ℕ → Option ℕ
wrong_handle [] n bytes = None
wrong_handle (kind ∷ kinds) n bytes =
    if is_of_kind kind (handle_at n bytes) then wrong_handle kinds (n + 1) bytes
    else Some (kind_code kind (handle_at n bytes) + RC_1 * n)

-- where the bytes after the handles begin
abbrev pub rest_of : CommandRow → ℕ
rest_of row = HEADER_BYTES + 4 * count_in row.handles

abbrev pub shape_from : CommandRow → List ℕ → Option ℕ → Option ℕ → Result Shape ℕ
shape_from row bytes (Some code) wrong = Err code
shape_from row bytes None (Some code) = Err code
shape_from row bytes None None = Ok (record {
  row = row;
  tag = tag_of bytes;
  handles = handles_in row.handles 1 bytes;
  count = count_in row.handles;
  rest = rest_of row;
})

-- whether each handle is of its kind
abbrev pub are_of_kinds : List Kind → List ℕ → Bool
are_of_kinds [] handles = true
are_of_kinds (kind ∷ kinds) [] = false
are_of_kinds (kind ∷ kinds) (handle ∷ handles) = is_of_kind kind handle && are_of_kinds kinds handles

-- what holds of the shape of a command: it has its code's row, and handles of its kinds
pub record IsShape (shape : Shape) : Type 0 where
  pub row : row_of shape.row.code ≡ Some shape.row
  pub kinds : are_of_kinds shape.row.handles shape.handles ≡ true

-- the shape of a command with this row: first each handle is whole (step 4), then each is of its kind (step 5)
abbrev pub shape_with : CommandRow → List ℕ → Result Shape ℕ
shape_with row bytes = shape_from row bytes (cut_handle row.handles 1 bytes) (wrong_handle row.handles 1 bytes)

abbrev pub shape_by : Result CommandRow ℕ → List ℕ → Result Shape ℕ
shape_by (Err code) bytes = Err code
shape_by (Ok row) bytes = shape_with row bytes

-- the shape among these commands, or the code of the first fault
abbrev pub shape_in : (ℕ → Option CommandRow) → List ℕ → Result Shape ℕ
shape_in rows bytes = shape_by (row_in rows bytes) bytes

-- the shape among all commands of the profile
unfoldable pub shape_of : List ℕ → Result Shape ℕ
shape_of bytes = shape_in row_of bytes

-- ---- other handles

abbrev pub handle_bytes : ℕ → List ℕ → List ℕ
handle_bytes zero handles = []
handle_bytes (suc count) [] = []
handle_bytes (suc count) (handle ∷ handles) = to_be_bytes w32 handle ++ handle_bytes count handles

-- the command of this shape with these handles, and all else equal
abbrev pub with_handles : List ℕ → Shape → List ℕ → List ℕ
with_handles bytes shape handles = take 10 bytes ++ handle_bytes shape.count handles ++ drop shape.rest bytes

-- ---- what makes an object

-- whether ContextLoad's savedHandle is that of an object
abbrev pub loads_object : ContextLimits → List ℕ → Bool
loads_object contexts bytes = not (nat_lt (length bytes) 22) && is_saved_object contexts (from_be_bytes w32 (take 4 (drop 18 bytes)))

abbrev pub makes_object_by : ContextLimits → Result Shape ℕ → List ℕ → Bool
makes_object_by contexts (Err code) bytes = false
makes_object_by contexts (Ok shape) bytes =
    (shape.row.code == CC_CREATE_PRIMARY || shape.row.code == CC_LOAD) || (shape.row.code == CC_CONTEXT_LOAD && loads_object contexts bytes)

-- whether a command makes a transient object where it succeeds
abbrev pub makes_object : ContextLimits → List ℕ → Bool
makes_object contexts bytes = makes_object_by contexts (shape_of bytes) bytes

-- whether it needs a free slot: it makes an object, or it is Create, where the device builds the object in a slot
abbrev pub needs_slot : ContextLimits → Shape → List ℕ → Bool
needs_slot contexts shape bytes = (contexts.create_takes_slot && shape.row.code == CC_CREATE) || makes_object_by contexts (Ok shape) bytes
