-- The device as a machine of few slots. How many of each it has are its numbers, which no command changes.
use Rattle.std.specs.Prelude.{◌≡◌, ◌<◌, ◌≤◌, ℕ, ◌+◌, ◌-◌, ◌*◌, ◌^◌, ◌==◌, ◌||◌, ◌&&◌, not, nat_le, min, Bool, true, false, List, [], ◌∷◌, ◌++◌, length, get_or, set, replicate, drop, Option, Some, None, is_some, IfSome, Result, Ok, Err, if◌then◌else◌}
use Rattle.std.specs.List.{AllByRecursion, list_any, count_by}
use Rattle.std.specs.Int.{w32, to_be_bytes}
use Rattle.tab_spec.specs.declared.TheConstants.{ST_NO_SESSIONS, CC_STARTUP, CC_CONTEXT_LOAD, CC_CONTEXT_SAVE, CC_FLUSH_CONTEXT, CC_GET_CAPABILITY, CC_START_AUTH_SESSION, HT_TRANSIENT, TRANSIENT_FIRST, SESSION_NUMBERS, CONTEXT_LIMIT, RC_SUCCESS, RC_P, RC_1, RC_VALUE, RC_HANDLE, RC_INTEGRITY, RC_INSUFFICIENT, RC_FAILURE, RC_INITIALIZE, RC_CONTEXT_GAP, RC_SESSION_HANDLES, RC_SESSION_MEMORY}
use Rattle.tab_spec.specs.declared.Shape.{Shape}
use Rattle.tab_spec.specs.declared.Auths.{Auths}
use Rattle.tab_spec.specs.declared.CommandRow.{CommandRow}
use Rattle.tab_spec.specs.declared.numbers.Numbers.{Numbers}
use Rattle.tab_spec.specs.declared.Admitted.{Admitted}
use Rattle.tab_spec.specs.Numbers.{AreInRange}
use Rattle.tab_spec.specs.Object.{Object, IsObject}
use Rattle.tab_spec.specs.Persist.{Persist, IsPersist}
use Rattle.tab_spec.specs.Admission.{Tables, is_session_handle, admitted_by}
use Rattle.tab_spec.specs.Commands.{all_commands, row_of}
use Rattle.effect_spec.specs.Operands.{Operands, operands_by, sessions_after, Created, new_object, new_session, nothing}
use Rattle.tab_spec.specs.Shape.{is_session_octet, number_of_session, octet_of, row_in}
use Rattle.tab_spec.specs.Session.{Session, IsSession, kind_octet}
use Rattle.effect_spec.specs.Contexts.{Context, blob_fits, context_of, context_parameter, object_context, opened_object, session_context, opened_session}
use Rattle.effect_spec.specs.Capabilities.{Listed, capability_of, device_limits, transient_from}
use Rattle.effect_spec.specs.Sessions.{StartParameters, start_check}
use Rattle.tab_spec.specs.Values.{Reading, number16, number32, ◌>>=◌}
use Rattle.tab_spec.specs.Reply.{error_reply, response, with_response_handle}
use Rattle.tab_spec.specs.Parameters.{in_parameter, when_read, nothing_of}
use Rattle.tab_spec.specs.declared.contexts.TheConstants.{PROFILE_CONTEXTS}
use Rattle.effect_spec.specs.Effect.{Effect, effect_of}

-- what a session number is: unused, that of a loaded session, with the first octet of its handle, or that of one that
-- was saved, with the same octet and the number of its context
pub data SessionPlace : Type 0 where
  inactive : SessionPlace
  loaded : ℕ → Session → SessionPlace
  saved : ℕ → ℕ → SessionPlace

pub record SlotState : Type 0 where
  pub started : Bool
  pub persist : Persist
  -- how much of each it has
  pub numbers : Numbers
  -- what stands in each slot
  pub slots : List (Option Object)
  -- what each session number is
  pub sessions : List SessionPlace
  -- the number of the next context of an object, and of a session
  pub object_counter : ℕ
  pub counter : ℕ

abbrev pub empty_slots : Numbers → List (Option Object)
empty_slots numbers = replicate numbers.slots None

abbrev pub no_sessions : List SessionPlace
no_sessions = replicate SESSION_NUMBERS inactive

-- a device of these numbers that was never started, and keeps this
abbrev pub new_slots : Numbers → Persist → SlotState
new_slots numbers persist = record {
  started = false;
  persist = persist;
  numbers = numbers;
  slots = empty_slots numbers;
  sessions = no_sessions;
  object_counter = 0;
  counter = 0;
}

-- ---- session numbers

abbrev pub is_loaded : SessionPlace → Bool
is_loaded inactive = false
is_loaded (loaded octet s) = true
is_loaded (saved octet number) = false

abbrev pub is_active : SessionPlace → Bool
is_active inactive = false
is_active (loaded octet s) = true
is_active (saved octet number) = true

-- whether it is saved under this number of its context
abbrev pub is_saved_as : ℕ → SessionPlace → Bool
is_saved_as number inactive = false
is_saved_as number (loaded octet s) = false
is_saved_as number (saved octet kept) = kept == number

-- the same, and under a handle with this octet
abbrev pub is_saved_with : ℕ → ℕ → SessionPlace → Bool
is_saved_with octet number inactive = false
is_saved_with octet number (loaded kept s) = false
is_saved_with octet number (saved kept last) = kept == octet && last == number

-- whether it is that of a session with this octet, loaded or saved
abbrev pub is_active_with : ℕ → SessionPlace → Bool
is_active_with octet inactive = false
is_active_with octet (loaded kept s) = kept == octet
is_active_with octet (saved kept number) = kept == octet

abbrev pub loaded_count : List SessionPlace → ℕ
loaded_count sessions = count_by is_loaded sessions

abbrev pub active_count : List SessionPlace → ℕ
active_count sessions = count_by is_active sessions

-- a session number that a device of this profile may have, where the next session's context gets this number
abbrev pub IsPlace : ℕ → SessionPlace → Type 0
IsPlace counter inactive = Unit {0}
IsPlace counter (loaded octet s) = (is_session_octet octet ≡ true) × IsSession s
IsPlace counter (saved octet number) = (is_session_octet octet ≡ true) × (number < counter)

-- a state that a device may be in whose numbers are those of one that a broker can serve
pub record IsSlots (slots : SlotState) : Type 0 where
  pub persist : IsPersist slots.persist
  pub range : AreInRange slots.numbers
  pub count : length slots.slots ≡ slots.numbers.slots
  pub objects : AllByRecursion (λ slot. IfSome slot IsObject) slots.slots
  pub object_counter : slots.object_counter ≤ CONTEXT_LIMIT
  pub numbers : length slots.sessions ≡ SESSION_NUMBERS
  pub places : AllByRecursion (λ place. IsPlace slots.counter place) slots.sessions
  pub loaded : loaded_count slots.sessions ≤ slots.numbers.loaded
  -- no two sessions are saved under one number
  pub apart : (number : ℕ) → count_by (is_saved_as number) slots.sessions ≤ 1
  pub counter : slots.counter ≤ CONTEXT_LIMIT

-- how many slots are taken and how many session numbers are active
abbrev pub held : SlotState → ℕ
held slots = count_by is_some slots.slots + active_count slots.sessions

abbrev pub HoldsNothing : SlotState → Type 0
HoldsNothing slots = held slots ≡ 0

-- ---- what a command names

-- the slot of a transient handle, and its object
abbrev pub slot_of : ℕ → ℕ
slot_of handle = handle - TRANSIENT_FIRST

abbrev pub in_slot : SlotState → ℕ → Option Object
in_slot slots handle = get_or slots.slots (slot_of handle) None

-- whether a slot is free, and the least one
abbrev pub is_free : Option Object → Bool
is_free slot = not (is_some slot)

abbrev pub free_slot : List (Option Object) → ℕ
free_slot [] = 0
free_slot (slot ∷ slots) = if is_free slot then 0 else 1 + free_slot slots

-- what the number of a session handle is; unused where there is no such number
abbrev pub place_of : SlotState → ℕ → SessionPlace
place_of slots handle = get_or slots.sessions (number_of_session handle) inactive

-- the session of a place, where it is loaded under a handle with this octet
abbrev pub loaded_in : ℕ → SessionPlace → Option Session
loaded_in octet inactive = None
loaded_in octet (loaded kept s) = if kept == octet then Some s else None
loaded_in octet (saved kept number) = None

-- the loaded session of a handle
abbrev pub loaded_session : SlotState → ℕ → Option Session
loaded_session slots handle = loaded_in (octet_of handle) (place_of slots handle)

abbrev pub slot_tables : SlotState → Tables
slot_tables slots = record {
  has_object = λ handle. is_some (in_slot slots handle);
  has_session = λ handle. is_some (loaded_session slots handle);
  is_full = not (list_any is_free slots.slots);
  contexts = PROFILE_CONTEXTS;
}

-- what a command's handles and its authorization stand for
abbrev pub slot_operands : SlotState → Shape → Auths → Operands
slot_operands slots shape auths = operands_by (in_slot slots) (loaded_session slots) shape auths

-- ---- where an object or a session is

-- what a context hides that ContextLoad reads whole, with the savedHandle of an object
abbrev pub context_object : List ℕ → List ℕ → Reading Context → Option Object
context_object seed bytes (Err code) = None
context_object seed bytes (Ok read) =
    if length read.1 == 0 && blob_fits read.0 && read.0.saved_handle == TRANSIENT_FIRST then opened_object seed bytes else None

abbrev pub object_of_context : SlotState → Option (List ℕ) → Option Object
object_of_context slots None = None
object_of_context slots (Some bytes) = context_object slots.persist.seed bytes (context_of bytes)

-- the object of a slot, from 0, or where there is no slot of a context
abbrev pub object_at : SlotState → Option ℕ → Option (List ℕ) → Option Object
object_at slots None context = object_of_context slots context
object_at slots (Some slot) context = get_or slots.slots slot None

-- the session of a context that ContextLoad reads whole, under its own handle
abbrev pub context_session : List ℕ → List ℕ → ℕ → ℕ → Reading Context → Option Session
context_session seed bytes handle number (Err code) = None
context_session seed bytes handle number (Ok read) =
    if length read.1 == 0 && blob_fits read.0 && read.0.saved_handle == handle && read.0.sequence == number
    then opened_session seed bytes else None

abbrev pub session_of_context : List ℕ → ℕ → ℕ → Option (List ℕ) → Option Session
session_of_context seed handle number None = None
session_of_context seed handle number (Some bytes) = context_session seed bytes handle number (context_of bytes)

abbrev pub session_in_place : List ℕ → ℕ → SessionPlace → Option (List ℕ) → Option Session
session_in_place seed handle inactive context = None
session_in_place seed handle (loaded octet s) context = if octet == octet_of handle then Some s else None
session_in_place seed handle (saved octet number) context =
    if octet == octet_of handle then session_of_context seed handle number context else None

-- the loaded session of a handle, or where its number is saved, the one that the context is of
abbrev pub session_at : SlotState → ℕ → Option (List ℕ) → Option Session
session_at slots handle context = session_in_place slots.persist.seed handle (place_of slots handle) context

-- ---- the commands of the machine itself

abbrev pub Step : Type 0
Step = SlotState × List ℕ

-- an error changes nothing
abbrev pub step_by : SlotState → Result Step ℕ → Step
step_by slots (Err code) = (slots, error_reply code)
step_by slots (Ok step) = step

-- Startup (Part 3): startupType TPM_SU_CLEAR alone, and once
abbrev pub startup_row : List ℕ → Result ℕ ℕ
startup_row params =
    when_read (in_parameter 1 (number16 RC_INSUFFICIENT params)) (λ startup_type. if startup_type == 0 then Ok RC_SUCCESS else Err (RC_VALUE + RC_P + RC_1))

abbrev pub code_by : Result ℕ ℕ → ℕ
code_by (Err code) = code
code_by (Ok code) = code

abbrev pub startup_code : Bool → List ℕ → ℕ
startup_code started params = if started then RC_INITIALIZE else code_by (startup_row params)

abbrev pub started_with : SlotState → ℕ → Step
started_with slots code =
    if code == RC_SUCCESS then (record slots { started = true }, response ST_NO_SESSIONS RC_SUCCESS []) else (slots, error_reply code)

-- with another object in a slot, or none
abbrev pub with_slot : SlotState → ℕ → Option Object → SlotState
with_slot slots slot held = record slots { slots = set slots.slots slot held }

-- an object goes to the least free slot, and the response has its handle
abbrev pub placed : SlotState → Object → List ℕ → Step
placed slots o reply = (with_slot slots (free_slot slots.slots) (Some o), with_response_handle reply (TRANSIENT_FIRST + free_slot slots.slots))

-- with a session number that is this now
abbrev pub with_place : SlotState → ℕ → SessionPlace → SlotState
with_place slots number place = record slots { sessions = set slots.sessions number place }

-- the lesser of two context numbers, where there are two
abbrev pub older : Option ℕ → Option ℕ → Option ℕ
older None other = other
older (Some number) None = Some number
older (Some number) (Some other) = Some (min number other)

abbrev pub number_saved : SessionPlace → Option ℕ
number_saved inactive = None
number_saved (loaded octet s) = None
number_saved (saved octet number) = Some number

-- the number of the oldest session context that may be loaded yet
abbrev pub oldest_saved : List SessionPlace → Option ℕ
oldest_saved [] = None
oldest_saved (place ∷ places) = older (number_saved place) (oldest_saved places)

abbrev pub gap_from : ℕ → Option ℕ → ℕ
gap_from counter None = 0
gap_from counter (Some oldest) = counter - oldest

-- how far the next session context's number is above that of the oldest (Part 1, "Session Context Management")
abbrev pub gap_of : SlotState → ℕ
gap_of slots = gap_from slots.counter (oldest_saved slots.sessions)

-- ContextSave (Part 3): the context of an object under the next number; the object stays
abbrev pub object_saved : SlotState → Option Object → Result Step ℕ
object_saved slots None = Err RC_FAILURE
object_saved slots (Some o) =
    if nat_le CONTEXT_LIMIT slots.object_counter then Err RC_FAILURE
    else Ok (
      record slots { object_counter = slots.object_counter + 1 },
      response ST_NO_SESSIONS RC_SUCCESS (object_context slots.persist.seed slots.object_counter o),
    )

-- the context of a session under the next number, where the oldest isn't too old; the session isn't loaded afterwards
abbrev pub session_saved : SlotState → ℕ → Option Session → Result Step ℕ
session_saved slots handle None = Err RC_FAILURE
session_saved slots handle (Some s) =
    if nat_le CONTEXT_LIMIT slots.counter then Err RC_FAILURE
    else if nat_le slots.numbers.gap (gap_of slots) then Err RC_CONTEXT_GAP
    else Ok (
      record (with_place slots (number_of_session handle) (saved (octet_of handle) slots.counter))
          { counter = slots.counter + 1 },
      response ST_NO_SESSIONS RC_SUCCESS (session_context slots.persist.seed handle slots.counter s),
    )

abbrev pub context_save : SlotState → ℕ → List ℕ → Result Step ℕ
context_save slots handle params =
    when_read (nothing_of params) (λ none.
    if octet_of handle == HT_TRANSIENT then object_saved slots (in_slot slots handle)
    else session_saved slots handle (loaded_session slots handle))

-- ContextLoad (Part 3): the object of a context
abbrev pub object_loaded : SlotState → Option Object → Result Step ℕ
object_loaded slots None = Err (RC_INTEGRITY + RC_P + RC_1)
object_loaded slots (Some o) = Ok (placed slots o (response ST_NO_SESSIONS RC_SUCCESS (0 ∷ 0 ∷ 0 ∷ 0 ∷ [])))

-- whether a number is that of a session which was saved under this handle and number
abbrev pub is_saved_under : SlotState → ℕ → ℕ → Bool
is_saved_under slots handle number = is_saved_with (octet_of handle) number (place_of slots handle)

-- the session of a context, where that is the one under which it was saved last, and where there is room for it
abbrev pub session_loaded : SlotState → Context → Option Session → Result Step ℕ
session_loaded slots c None = Err (RC_INTEGRITY + RC_P + RC_1)
session_loaded slots c (Some s) =
    if not (is_saved_under slots c.saved_handle c.sequence) then Err (RC_HANDLE + RC_P + RC_1)
    else if nat_le slots.numbers.loaded (loaded_count slots.sessions) then Err RC_SESSION_MEMORY
    else Ok (
      with_place slots (number_of_session c.saved_handle) (loaded (octet_of c.saved_handle) s),
      response ST_NO_SESSIONS RC_SUCCESS (to_be_bytes w32 c.saved_handle),
    )

abbrev pub context_load : SlotState → List ℕ → Result Step ℕ
context_load slots params =
    when_read (context_parameter params) (λ c.
    if c.saved_handle == TRANSIENT_FIRST then object_loaded slots (opened_object slots.persist.seed params)
    else if is_session_handle c.saved_handle then session_loaded slots c (opened_session slots.persist.seed params)
    else Err (RC_VALUE + RC_P + RC_1))

-- FlushContext (Part 3): an object leaves its slot
abbrev pub object_flushed : SlotState → ℕ → Option Object → Result Step ℕ
object_flushed slots handle None = Err (RC_HANDLE + RC_P + RC_1)
object_flushed slots handle (Some o) =
    Ok (with_slot slots (slot_of handle) None, response ST_NO_SESSIONS RC_SUCCESS [])

-- a session ends, also one that is saved
abbrev pub session_flushed : SlotState → ℕ → Result Step ℕ
session_flushed slots handle =
    if is_active_with (octet_of handle) (place_of slots handle)
    then Ok (with_place slots (number_of_session handle) inactive, response ST_NO_SESSIONS RC_SUCCESS [])
    else Err (RC_HANDLE + RC_P + RC_1)

abbrev pub flush_context : SlotState → List ℕ → Result Step ℕ
flush_context slots params =
    when_read (in_parameter 1 (number32 RC_INSUFFICIENT params)) (λ handle.
    if octet_of handle == HT_TRANSIENT then object_flushed slots handle (in_slot slots handle)
    else if is_session_handle handle then session_flushed slots handle
    else Err (RC_VALUE + RC_P + RC_1))

-- GetCapability (Part 3): what the device says of itself
-- the session of this number, where there is one
abbrev pub listed_place : ℕ → SessionPlace → List Listed
listed_place number inactive = []
listed_place number (loaded octet s) = record { handle = octet * 2 ^ 24 + number; in_use = true } ∷ []
listed_place number (saved octet kept) = record { handle = octet * 2 ^ 24 + number; in_use = false } ∷ []

abbrev pub listed_from : ℕ → List SessionPlace → List Listed
listed_from number [] = []
listed_from number (place ∷ places) = listed_place number place ++ listed_from (number + 1) places

abbrev pub capability_row : SlotState → List ℕ → Result (List ℕ) ℕ
capability_row slots params =
    capability_of (device_limits slots.numbers) all_commands slots.persist (transient_from TRANSIENT_FIRST slots.slots)
    (listed_from 0 slots.sessions) (active_count slots.sessions) params

abbrev pub capability_told : SlotState → Result (List ℕ) ℕ → Result Step ℕ
capability_told slots row = do
  params ← row
  Ok (slots, response ST_NO_SESSIONS RC_SUCCESS params)

abbrev pub get_capability : SlotState → List ℕ → Result Step ℕ
get_capability slots params = capability_told slots (capability_row slots params)

-- ---- steps

-- whether a number is unused
abbrev pub is_inactive : SessionPlace → Bool
is_inactive place = not (is_active place)

-- the least unused number; how many numbers there are, where none is
abbrev pub free_number : List SessionPlace → ℕ
free_number [] = 0
free_number (place ∷ places) = if is_inactive place then 0 else 1 + free_number places

-- a session that started gets that number, and the response has its handle
abbrev pub session_placed : SlotState → Session → List ℕ → Step
session_placed slots s reply =
    let number = free_number slots.sessions in
    let octet = kind_octet s.kind in
    (with_place slots number (loaded octet s), with_response_handle reply (octet * 2 ^ 24 + number))

-- what was made gets a place
abbrev pub made_by : SlotState → Created → List ℕ → Step
made_by slots nothing reply = (slots, reply)
made_by slots (new_object o) reply = placed slots o reply
made_by slots (new_session s) reply = session_placed slots s reply

-- the place of a session that is loaded under this handle
abbrev pub loaded_under : ℕ → Session → SessionPlace
loaded_under handle s = loaded (octet_of handle) s

-- the session numbers as a command leaves them
abbrev pub sessions_left : List SessionPlace → Operands → Bool → List SessionPlace
sessions_left sessions operands ended = sessions_after loaded_under inactive sessions operands ended

abbrev pub effect_by : SlotState → Effect → Step
effect_by slots effect =
    made_by (record slots { persist = effect.persist; sessions = sessions_left slots.sessions effect.operands effect.outcome.auth_ended })
    effect.outcome.created effect.reply

-- where there is no room for a session that may start otherwise: as many are active as may be, then no place is free
abbrev pub session_too_many : SlotState → Result StartParameters ℕ → Option ℕ
session_too_many slots (Err code) = None
session_too_many slots (Ok beginning) =
    if nat_le slots.numbers.active (active_count slots.sessions) || nat_le SESSION_NUMBERS (active_count slots.sessions)
    then Some RC_SESSION_HANDLES
    else if nat_le slots.numbers.loaded (loaded_count slots.sessions) then Some RC_SESSION_MEMORY
    else None

abbrev pub room_for : SlotState → ℕ → List ℕ → Option ℕ
room_for slots code params = if code == CC_START_AUTH_SESSION then session_too_many slots (start_check params) else None

abbrev pub unless_full : SlotState → Option ℕ → Step → Step
unless_full slots (Some code) next = (slots, error_reply code)
unless_full slots None next = next

abbrev pub slot_effect : SlotState → Shape → Auths → List ℕ → Step
slot_effect slots shape auths bytes =
    let params = drop auths.params bytes in
    if shape.row.code == CC_STARTUP then started_with slots (startup_code slots.started params)
    else if shape.row.code == CC_CONTEXT_SAVE then step_by slots (context_save slots (get_or shape.handles 0 0) params)
    else if shape.row.code == CC_CONTEXT_LOAD then step_by slots (context_load slots params)
    else if shape.row.code == CC_FLUSH_CONTEXT then step_by slots (flush_context slots params)
    else if shape.row.code == CC_GET_CAPABILITY then step_by slots (get_capability slots params)
    else unless_full slots (room_for slots shape.row.code params)
    (effect_by slots (effect_of slots.persist (slot_operands slots shape auths) shape auths bytes))

abbrev pub slot_admitted : SlotState → Result Admitted ℕ → List ℕ → Step
slot_admitted slots (Err code) bytes = (slots, error_reply code)
slot_admitted slots (Ok admitted) bytes = slot_effect slots admitted.shape admitted.auths bytes

-- before Startup every other command is refused once its code is known
abbrev pub slot_row : SlotState → Result CommandRow ℕ → List ℕ → Step
slot_row slots (Err code) bytes = (slots, error_reply code)
slot_row slots (Ok row) bytes =
    if slots.started || row.code == CC_STARTUP then slot_admitted slots (admitted_by (slot_tables slots) (Ok row) bytes) bytes
    else (slots, error_reply RC_INITIALIZE)

-- the state after a command, and the response
unfoldable pub slot_step : SlotState → List ℕ → Step
slot_step slots bytes = slot_row slots (row_in row_of bytes) bytes
