-- What a started device does with the commands that move objects out of it and into it.
use Rattle.std.proofs.Common.{◌≡◌, ◌+◌, ◌*◌, ◌^◌, ◌<◌, ◌≤◌, ℕ, Bool, true, false, List, [], ◌∷◌, length, replicate, refl, ap, sym, ◌∙◌, arith}
use Rattle.std.specs.Prelude.{◌==◌, ◌||◌, ◌&&◌, not, is_some, Option, Some, None, Result, Ok, Err, if◌then◌else◌}
use Rattle.std.specs.List.{list_any}
use Rattle.std.specs.Int.{w32, to_be_bytes}
use Rattle.std.proofs.lemmas.List.{append-nil}
use Rattle.std.proofs.lemmas.Nat.{from_be_bytes-to_be_bytes_4}
use Rattle.tab_spec.specs.declared.TheConstants.{CC_STARTUP, CC_CONTEXT_SAVE, CC_CONTEXT_LOAD, CC_FLUSH_CONTEXT, HT_TRANSIENT, TRANSIENT_FIRST, ST_NO_SESSIONS, RC_1, RC_BAD_TAG, RC_COMMAND_SIZE, RC_INITIALIZE, RC_INSUFFICIENT, RC_OBJECT_MEMORY, RC_P, RC_REFERENCE_H0, RC_SIZE, RC_VALUE}
use Rattle.tab_spec.specs.declared.Kind.TheVariants.{Absent, Saved}
use Rattle.tab_spec.specs.declared.Shape.{Shape}
use Rattle.tab_spec.specs.declared.Admitted.{Admitted}
use Rattle.tab_spec.specs.declared.CommandRow.{CommandRow}
use Rattle.tab_spec.specs.Commands.{row_of, command_row}
use Rattle.tab_spec.specs.Frame.{code_of, is_frame, tag_of}
use Rattle.tab_spec.specs.Shape.{is_command_tag, is_of_kind, handle_at, kind_code, known_row, loads_object, octet_of, row_in, shape_from, shape_with}
use Rattle.tab_spec.specs.Auths.{auths_of, no_auth}
use Rattle.tab_spec.specs.Admission.{admitted_auths, admitted_by, admitted_shape, is_session_handle, missing_handle, unless_fault}
use Rattle.tab_spec.specs.Reply.{error_reply}
use Rattle.tab_spec.specs.Object.{Object}
use Rattle.tab_spec.specs.Values.{Reading, number32, require}
use Rattle.tab_spec.specs.Parameters.{in_parameter, when_read}
use Rattle.tab_spec.specs.declared.contexts.TheConstants.{PROFILE_CONTEXTS}
use Rattle.effect_spec.specs.Contexts.{Context, context_of, opened_object, opened_session, blob_fits}
use Rattle.device_spec.specs.ContextCommands.{command_bytes, context_load_command, context_save_command, flush_context_command}
use Rattle.device_spec.specs.Slots.{SlotState, Step, context_load, context_object, context_save, flush_context, in_slot, is_free, loaded_session, object_at, object_flushed, object_loaded, object_saved, session_flushed, session_loaded, session_saved, slot_admitted, slot_row, slot_step, slot_tables, step_by}
use Rattle.tab_laws.proofs.ReadBack.{number32_again}
use Rattle.device_laws.proofs.Frames.{response_is_frame}

-- ---- the row of a command

row_by : (frame tag : Bool) (found : Option CommandRow) (row : CommandRow) → frame ≡ true → tag ≡ true → found ≡ Some row
    → (if not frame then Err RC_COMMAND_SIZE else if not tag then Err RC_BAD_TAG else known_row found) ≡ Ok row
row_by frame tag found row frame_is tag_is found_is = rw (frame_is, tag_is, found_is) refl

pub row_known : (code : ℕ) (row : CommandRow) (body : List ℕ) → length body ≤ 4086 → code_of (command_bytes code body) ≡ code → row_of code ≡ Some row
    → row_in row_of (command_bytes code body) ≡ Ok row
row_known code row body fits code_is found =
    let bytes = command_bytes code body in
    row_by (is_frame bytes) (is_command_tag (tag_of bytes)) (row_of (code_of bytes)) row (response_is_frame ST_NO_SESSIONS code body fits) refl
    (ap row_of code_is ∙ found)

starts_by : (started startup : Bool) (next refused : Step) → started ≡ true → (if started || startup then next else refused) ≡ next
starts_by started startup next refused is = rw is refl

-- a started device goes on with a command whose row is known
pub step_goes : (slots : SlotState) (row : CommandRow) (bytes : List ℕ) → slots.started ≡ true → row_in row_of bytes ≡ Ok row
    → slot_step slots bytes ≡ slot_admitted slots (admitted_by (slot_tables slots) (Ok row) bytes) bytes
unfolding slot_step
step_goes slots row bytes started known =
    ap (λ (found : Result CommandRow ℕ). slot_row slots found bytes) known
    ∙ starts_by slots.started (row.code == CC_STARTUP) (slot_admitted slots (admitted_by (slot_tables slots) (Ok row) bytes) bytes)
    (slots, error_reply RC_INITIALIZE) started

-- ---- ContextSave

abbrev pub save_row : CommandRow
save_row = command_row CC_CONTEXT_SAVE Saved Absent 0 false

abbrev pub save_shape : ℕ → Shape
save_shape handle = record { row = save_row; tag = ST_NO_SESSIONS; handles = handle ∷ 0 ∷ []; count = 1; rest = 14 }

save_shape_by : (kind : Bool) (handle code : ℕ) → kind ≡ true
    → shape_from save_row (context_save_command handle) None (if kind then None else Some code)
    ≡ Ok (save_shape (handle_at 1 (context_save_command handle)))
save_shape_by kind handle code is = rw is refl

save_shape_is : (handle : ℕ) → handle < 2 ^ 32 → is_of_kind Saved handle ≡ true → shape_with save_row (context_save_command handle) ≡ Ok (save_shape handle)
save_shape_is handle fits kind =
    let read = handle_at 1 (context_save_command handle) in
    let same : read ≡ handle = from_be_bytes-to_be_bytes_4 handle fits in
    save_shape_by (is_of_kind Saved read) handle (kind_code Saved read + RC_1 * 1) (ap (is_of_kind Saved) same ∙ kind)
    ∙ ap (λ (h : ℕ). let found : Result Shape ℕ = Ok (save_shape h) in found) same

pub save_goes : (slots : SlotState) (handle : ℕ) → slots.started ≡ true → handle < 2 ^ 32 → is_of_kind Saved handle ≡ true
    → slot_step slots (context_save_command handle)
    ≡ slot_admitted slots (admitted_shape (slot_tables slots) (context_save_command handle) (Ok (save_shape handle))) (context_save_command handle)
save_goes slots handle started fits kind =
    let bytes = context_save_command handle in
    step_goes slots save_row bytes started (row_known CC_CONTEXT_SAVE save_row (to_be_bytes w32 handle) (omega arith) refl refl)
    ∙ ap (λ (shape : Result Shape ℕ). slot_admitted slots (admitted_shape (slot_tables slots) bytes shape) bytes) (save_shape_is handle fits kind)

pub object_there : (transient : Bool) (slot : Option Object) (o : Object) (session : Bool) → transient ≡ true → slot ≡ Some o
    → (if transient then not (is_some slot) else session) ≡ false
object_there transient slot o session is there = rw (is, there) refl

object_not_missing : (slots : SlotState) (handle : ℕ) (o : Object) → (octet_of handle == HT_TRANSIENT) ≡ true → in_slot slots handle ≡ Some o
    → missing_handle (slot_tables slots) 0 (handle ∷ 0 ∷ []) ≡ None
object_not_missing slots handle o transient there =
    ap (λ (missing : Bool). if missing then Some (RC_REFERENCE_H0 + 0) else None)
    (object_there (octet_of handle == HT_TRANSIENT) (in_slot slots handle) o _ transient there)

saved_by : (slots : SlotState) (transient : Bool) (slot : Option Object) (o : Object) (session : Result Step ℕ) → transient ≡ true → slot ≡ Some o
    → (if transient then object_saved slots slot else session) ≡ object_saved slots (Some o)
saved_by slots transient slot o session is there = rw (is, there) refl

-- what comes where its handle names what is there
abbrev pub save_admitted : SlotState → ℕ → Option ℕ → Step
save_admitted slots handle missing =
    let bytes = context_save_command handle in
    let shape = save_shape handle in
    slot_admitted slots (unless_fault missing (admitted_auths (slot_tables slots) bytes shape (auths_of bytes shape))) bytes

pub save_there : (slots : SlotState) (handle : ℕ) → save_admitted slots handle None ≡ step_by slots (context_save slots handle [])
unfolding auths_of
save_there slots handle = refl

saved_object : (slots : SlotState) (handle : ℕ) (o : Object) → (octet_of handle == HT_TRANSIENT) ≡ true → in_slot slots handle ≡ Some o
    → slot_admitted slots (admitted_shape (slot_tables slots) (context_save_command handle) (Ok (save_shape handle))) (context_save_command handle)
    ≡ step_by slots (object_saved slots (Some o))
saved_object slots handle o transient there =
    ap (save_admitted slots handle) (object_not_missing slots handle o transient there)
    ∙ save_there slots handle
    ∙ ap (step_by slots) (saved_by slots (octet_of handle == HT_TRANSIENT) (in_slot slots handle) o (session_saved slots handle (loaded_session slots handle)) transient there)

transient_kind : (handle : ℕ) → (octet_of handle == HT_TRANSIENT) ≡ true → is_of_kind Saved handle ≡ true
transient_kind handle transient = rw transient refl

-- ContextSave of an object in a slot
pub object_save_step : (slots : SlotState) (handle : ℕ) (o : Object) → slots.started ≡ true → handle < 2 ^ 32
    → (octet_of handle == HT_TRANSIENT) ≡ true → in_slot slots handle ≡ Some o
    → slot_step slots (context_save_command handle) ≡ step_by slots (object_saved slots (Some o))
object_save_step slots handle o started fits transient there =
    save_goes slots handle started fits (transient_kind handle transient) ∙ saved_object slots handle o transient there

-- ---- FlushContext

abbrev pub flush_row : CommandRow
flush_row = command_row CC_FLUSH_CONTEXT Absent Absent 0 false

pub flush_goes : (slots : SlotState) (handle : ℕ) → slots.started ≡ true
    → slot_step slots (flush_context_command handle) ≡ step_by slots (flush_context slots (to_be_bytes w32 handle))
unfolding auths_of
flush_goes slots handle started =
    step_goes slots flush_row (flush_context_command handle) started
    (row_known CC_FLUSH_CONTEXT flush_row (to_be_bytes w32 handle) (omega arith) refl refl)

abbrev pub flushed_by : SlotState → Reading ℕ → Result Step ℕ
flushed_by slots read =
    when_read (in_parameter 1 read) (λ handle.
    if octet_of handle == HT_TRANSIENT then object_flushed slots handle (in_slot slots handle)
    else if is_session_handle handle then session_flushed slots handle
    else Err (RC_VALUE + RC_P + RC_1))

pub handle_read : (handle : ℕ) → handle < 2 ^ 32 → number32 RC_INSUFFICIENT (to_be_bytes w32 handle) ≡ Ok (handle, [])
handle_read handle fits =
    ap (number32 RC_INSUFFICIENT) (sym (append-nil (to_be_bytes w32 handle))) ∙ number32_again RC_INSUFFICIENT handle [] fits

flushed_object : (slots : SlotState) (handle : ℕ) (o : Object) → (octet_of handle == HT_TRANSIENT) ≡ true → in_slot slots handle ≡ Some o
    → flushed_by slots (Ok (handle, [])) ≡ object_flushed slots handle (Some o)
flushed_object slots handle o transient there = rw (transient, there) refl

-- FlushContext of an object in a slot
pub object_flush_step : (slots : SlotState) (handle : ℕ) (o : Object) → slots.started ≡ true → handle < 2 ^ 32
    → (octet_of handle == HT_TRANSIENT) ≡ true → in_slot slots handle ≡ Some o
    → slot_step slots (flush_context_command handle) ≡ step_by slots (object_flushed slots handle (Some o))
object_flush_step slots handle o started fits transient there =
    flush_goes slots handle started ∙ ap (λ (read : Reading ℕ). step_by slots (flushed_by slots read)) (handle_read handle fits)
    ∙ ap (step_by slots) (flushed_object slots handle o transient there)

-- ---- ContextLoad

abbrev pub load_row : CommandRow
load_row = command_row CC_CONTEXT_LOAD Absent Absent 0 true

abbrev load_shape : Shape
load_shape = record { row = load_row; tag = ST_NO_SESSIONS; handles = 0 ∷ 0 ∷ []; count = 0; rest = 10 }

-- the command with its shape and no authorizations
abbrev load_passed : Result Admitted ℕ
load_passed = Ok (record { shape = load_shape; auths = record { count = 0; auths = replicate 3 no_auth; params = 10 } })

load_shaped : (slots : SlotState) (context : List ℕ)
    → let bytes = context_load_command context in
    slot_admitted slots (admitted_by (slot_tables slots) (Ok load_row) bytes) bytes
    ≡ slot_admitted slots (unless_fault (if loads_object PROFILE_CONTEXTS bytes && (slot_tables slots).is_full then Some RC_OBJECT_MEMORY else None) load_passed) bytes
unfolding auths_of
load_shaped slots context = refl

load_admitted : (slots : SlotState) (context : List ℕ) (too_many : Bool) → too_many ≡ false
    → slot_admitted slots (unless_fault (if too_many then Some RC_OBJECT_MEMORY else None) load_passed) (context_load_command context)
    ≡ step_by slots (context_load slots context)
load_admitted slots context true is = absurd cc
load_admitted slots context false is = refl

pub room_by : (makes full : Bool) → full ≡ false → (makes && full) ≡ false
room_by true full is = is
room_by false full is = refl

-- where there is room for an object, or the context is of none
pub load_goes : (slots : SlotState) (context : List ℕ) → slots.started ≡ true → length context ≤ 4086
    → (loads_object PROFILE_CONTEXTS (context_load_command context) && (slot_tables slots).is_full) ≡ false
    → slot_step slots (context_load_command context) ≡ step_by slots (context_load slots context)
load_goes slots context started fits room =
    let bytes = context_load_command context in
    step_goes slots load_row bytes started (row_known CC_CONTEXT_LOAD load_row context fits refl refl)
    ∙ load_shaped slots context
    ∙ load_admitted slots context (loads_object PROFILE_CONTEXTS bytes && (slot_tables slots).is_full) room

abbrev pub loaded_by : SlotState → List ℕ → Reading Context → Result Step ℕ
loaded_by slots params read =
    when_read (in_parameter 1 (require blob_fits RC_SIZE read)) (λ c.
    if c.saved_handle == TRANSIENT_FIRST then object_loaded slots (opened_object slots.persist.seed params)
    else if is_session_handle c.saved_handle then session_loaded slots c (opened_session slots.persist.seed params)
    else Err (RC_VALUE + RC_P + RC_1))

record Passed (whole fits same : Bool) (opened : Option Object) (o : Object) : Type 0 where
  whole_is : whole ≡ true
  fits_is : fits ≡ true
  same_is : same ≡ true
  opened_is : opened ≡ Some o

passed_by : (whole fits same : Bool) (opened : Option Object) (o : Object) → (if whole && fits && same then opened else None) ≡ Some o
    → Passed whole fits same opened o
passed_by true true true opened o is = record { whole_is = refl; fits_is = refl; same_is = refl; opened_is = is }
passed_by true true false opened o is = absurd cc
passed_by true false same opened o is = absurd cc
passed_by false fits same opened o is = absurd cc

loaded_object : (slots : SlotState) (params : List ℕ) (r : Reading Context) (o : Object) → context_object slots.persist.seed params r ≡ Some o
    → loaded_by slots params r ≡ object_loaded slots (Some o)
loaded_object slots params (Err code) o is = absurd cc
loaded_object slots params (Ok read) o is =
    let opened = opened_object slots.persist.seed params in
    let passed = passed_by (length read.1 == 0) (blob_fits read.0) (read.0.saved_handle == TRANSIENT_FIRST) opened o is in
    rw (passed.fits_is, passed.whole_is, passed.same_is, passed.opened_is) refl

-- ContextLoad of an object's context, where a slot is free
pub object_load_step : (slots : SlotState) (context : List ℕ) (o : Object) → slots.started ≡ true → length context ≤ 4086
    → list_any is_free slots.slots ≡ true → object_at slots None (Some context) ≡ Some o
    → slot_step slots (context_load_command context) ≡ step_by slots (object_loaded slots (Some o))
object_load_step slots context o started fits free is =
    load_goes slots context started fits (room_by (loads_object PROFILE_CONTEXTS (context_load_command context)) (slot_tables slots).is_full (ap not free))
    ∙ ap (step_by slots) (loaded_object slots context (context_of context) o is)
