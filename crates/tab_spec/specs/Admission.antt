-- What refuses a command before its own checks: its shape, what its handles name, its authorizations and the sessions that
-- they name, and the room for an object (Part 1, "Command/Response Structure" and "Handles"). The order is this
-- project's own profile.
use Rattle.std.specs.Prelude.{ℕ, ◌+◌, ◌*◌, ◌==◌, ◌&&◌, not, nat_lt, Bool, false, List, [], ◌∷◌, take, Option, Some, None, Result, Ok, Err, if◌then◌else◌}
use Rattle.std.specs.List.{list_any}
use Rattle.tab_spec.specs.declared.CommandRow.{CommandRow}
use Rattle.tab_spec.specs.declared.Shape.{Shape}
use Rattle.tab_spec.specs.declared.Auth.{Auth}
use Rattle.tab_spec.specs.declared.Auths.{Auths}
use Rattle.tab_spec.specs.declared.Admitted.{Admitted}
use Rattle.tab_spec.specs.declared.TheConstants.{CC_STARTUP, RC_VALUE, RC_HANDLE, RC_ATTRIBUTES, RC_S, RC_1, RC_INITIALIZE, RC_OBJECT_MEMORY, RC_REFERENCE_H0, RC_REFERENCE_S0, RS_PW, HT_TRANSIENT}
use Rattle.tab_spec.specs.declared.contexts.ContextLimits.{ContextLimits}
use Rattle.tab_spec.specs.declared.contexts.TheConstants.{PROFILE_CONTEXTS}
use Rattle.tab_spec.specs.Commands.{row_of}
use Rattle.tab_spec.specs.Shape.{is_session_octet, octet_of, makes_object_by, shape_by, row_in}
use Rattle.tab_spec.specs.Auths.{auths_of}

-- ---- what is there

-- what a command may name: by handle, the objects, and the sessions that are in use; whether there is no room for another
-- object; and what the contexts of the device may be, which ContextLoad makes an object of
pub record Tables : Type 0 where
  pub has_object : ℕ → Bool
  pub has_session : ℕ → Bool
  pub is_full : Bool
  pub contexts : ContextLimits

-- nothing is there
abbrev pub no_tables : Tables
no_tables = record { has_object = λ handle. false; has_session = λ handle. false; is_full = false; contexts = PROFILE_CONTEXTS }

abbrev pub is_session_handle : ℕ → Bool
is_session_handle handle = is_session_octet (octet_of handle)

abbrev pub is_missing : Tables → ℕ → Bool
is_missing tables handle =
    if octet_of handle == HT_TRANSIENT then not (tables.has_object handle)
    else if is_session_handle handle then not (tables.has_session handle)
    else false

-- ---- the refusals, in their order: the steps have the numbers of docs/PROTOCOL.md

-- step 6: the first handle, counted from this index, that names nothing
abbrev pub missing_handle : Tables → ℕ → List ℕ → Option ℕ
missing_handle tables index [] = None
missing_handle tables index (handle ∷ handles) =
    if is_missing tables handle then Some (RC_REFERENCE_H0 + index) else missing_handle tables (index + 1) handles

-- steps 8a and 8b: the first authorization, counted from this index, that names neither a password nor a session that is
-- there
abbrev pub missing_session : Tables → ℕ → List Auth → Option ℕ
missing_session tables index [] = None
missing_session tables index (auth ∷ auths) =
    if auth.session == RS_PW then missing_session tables (index + 1) auths
    else if not (is_session_handle auth.session) then Some (RC_VALUE + RC_S + RC_1 * (index + 1))
    else if not (tables.has_session auth.session) then Some (RC_REFERENCE_S0 + index)
    else missing_session tables (index + 1) auths

-- step 9: the first authorization, counted from this number, whose session was named before it
abbrev pub repeated_session : List ℕ → ℕ → List Auth → Option ℕ
repeated_session named number [] = None
repeated_session named number (auth ∷ auths) =
    if not (auth.session == RS_PW) && list_any (λ handle. handle == auth.session) named then Some (RC_HANDLE + RC_S + RC_1 * number)
    else repeated_session (auth.session ∷ named) (number + 1) auths

-- step 10: the first authorization that belongs to no handle
abbrev pub spare_auth : Shape → Auths → Option ℕ
spare_auth shape auths =
    if nat_lt shape.row.authorized auths.count then Some (RC_ATTRIBUTES + RC_S + RC_1 * (shape.row.authorized + 1)) else None

-- step 11: an object that there is no room for
abbrev pub object_too_many : Tables → Shape → List ℕ → Option ℕ
object_too_many tables shape bytes = if makes_object_by tables.contexts (Ok shape) bytes && tables.is_full then Some RC_OBJECT_MEMORY else None

-- where there is a fault that is the error, and else what comes next
abbrev pub unless_fault : {Y : Type 0} → Option ℕ → Result Y ℕ → Result Y ℕ
unless_fault (Some code) next = Err code
unless_fault None next = next

-- what step 7 gave, and the steps after it
abbrev pub admitted_auths : Tables → List ℕ → Shape → Result Auths ℕ → Result Admitted ℕ
admitted_auths tables bytes shape (Err code) = Err code
admitted_auths tables bytes shape (Ok auths) =
    let given = take auths.count auths.auths in
    -- step 8
    unless_fault (missing_session tables 0 given)
    -- step 9
    (unless_fault (repeated_session shape.handles 1 given)
    -- step 10
    (unless_fault (spare_auth shape auths)
    -- step 11
    (unless_fault (object_too_many tables shape bytes) (Ok (record { shape = shape; auths = auths })))))

-- what steps 1 to 5 gave, then step 6 and those after it
abbrev pub admitted_shape : Tables → List ℕ → Result Shape ℕ → Result Admitted ℕ
admitted_shape tables bytes (Err code) = Err code
admitted_shape tables bytes (Ok shape) = unless_fault (missing_handle tables 0 shape.handles) (admitted_auths tables bytes shape (auths_of bytes shape))

-- the shape and the authorizations of a command with a row that was found for it, or the code that refuses it
abbrev pub admitted_by : Tables → Result CommandRow ℕ → List ℕ → Result Admitted ℕ
admitted_by tables row bytes = admitted_shape tables bytes (shape_by row bytes)

-- the same of a command, where these are the commands that there are
unfoldable pub admitted : (ℕ → Option CommandRow) → Tables → List ℕ → Result Admitted ℕ
admitted rows tables bytes = admitted_by tables (row_in rows bytes) bytes

-- A client's command. Its device has started, so a Startup that passed all of this is refused (Part 3, "TPM2_Startup").
abbrev pub unless_startup : Result Admitted ℕ → Result Admitted ℕ
unless_startup (Err code) = Err code
unless_startup (Ok admitted) = if admitted.shape.row.code == CC_STARTUP then Err RC_INITIALIZE else Ok admitted

abbrev pub client_admitted : Tables → List ℕ → Result Admitted ℕ
client_admitted tables bytes = unless_startup (admitted row_of tables bytes)
