-- Every reply of the device is one frame, and a device of this profile stays one.
use Rattle.std.proofs.Common.{◌≡◌, ◌+◌, ◌*◌, ◌^◌, ◌<◌, ◌≤◌, ℕ, zero, suc, Bool, true, false, true≢false, List, [], ◌∷◌, ◌++◌, length, get_or, set, drop, refl, ◌∙◌, sym, ap, subst, arith, length-append, length-set}
use Rattle.std.specs.Prelude.{Option, Some, None, IfSome, Result, Ok, Err, is_ok, replicate, nat_le, not, ◌==◌, ◌||◌, if◌then◌else◌}
use Rattle.std.specs.List.{AllByRecursion}
use Rattle.std.specs.Int.{w32, to_be_bytes}
use Rattle.std.proofs.lemmas.Bool.{leb-false, cond_both}
use Rattle.std.proofs.lemmas.List.{length-replicate}
use Rattle.tab_spec.specs.declared.TheConstants.{CONTEXT_LIMIT, SESSION_NUMBERS, TRANSIENT_FIRST, HT_TRANSIENT, PCRS, ST_NO_SESSIONS, ST_SESSIONS, CC_STARTUP, CC_GET_CAPABILITY, CC_CONTEXT_SAVE, CC_CONTEXT_LOAD, CC_FLUSH_CONTEXT, RC_SUCCESS, RC_BAD_TAG, RC_COMMAND_SIZE, RC_CONTEXT_GAP, RC_SESSION_HANDLES, RC_SESSION_MEMORY, RC_SIZE, RC_HANDLE, RC_INTEGRITY, RC_FAILURE, RC_INITIALIZE, RC_INSUFFICIENT, RC_VALUE, RC_P, RC_1}
use Rattle.tab_spec.specs.Frame.{tag_of, code_of, is_frame}
use Rattle.tab_spec.specs.declared.SessionKind.{SessionKind}
use Rattle.tab_spec.specs.declared.SessionKind.TheVariants as session_kinds
use Rattle.tab_spec.specs.declared.Shape.{Shape}
use Rattle.tab_spec.specs.declared.Auths.{Auths}
use Rattle.tab_spec.specs.declared.CommandRow.{CommandRow}
use Rattle.tab_spec.specs.declared.numbers.Numbers.{Numbers}
use Rattle.tab_spec.specs.Numbers.{AreInRange}
use Rattle.tab_spec.specs.declared.Admitted.{Admitted}
use Rattle.tab_spec.specs.Commands.{row_of, all_commands, startup_command}
use Rattle.tab_spec.specs.Shape.{IsShape, octet_of, is_command_tag, is_session_octet, known_row, row_in, number_of_session}
use Rattle.tab_spec.specs.Auths.{auths_of}
use Rattle.tab_spec.specs.Admission.{is_session_handle, admitted_by}
use Rattle.tab_spec.specs.Reply.{response, error_reply}
use Rattle.tab_spec.specs.Values.{AreBytes, require, number32}
use Rattle.tab_spec.specs.Persist.{Persist, IsPersist, fresh_persist}
use Rattle.tab_spec.specs.Object.{IsObject, Object}
use Rattle.tab_spec.specs.Session.{IsSession, Session, kind_octet}
use Rattle.tab_spec.specs.Parameters.{in_parameter, nothing_of}
use Rattle.tab_spec.specs.declared.contexts.TheConstants.{PROFILE_CONTEXTS}
use Rattle.effect_spec.specs.Capabilities.{device_limits, transient_from}
use Rattle.effect_spec.specs.Contexts.{Context, context_of, object_context, opened_object, opened_session, session_context, blob_fits}
use Rattle.effect_spec.specs.Operands.{Operands, Created, nothing, new_object, new_session, handles_left, named_session, session_left, command_auth}
use Rattle.effect_spec.specs.Sessions.{StartParameters, start_check}
use Rattle.effect_spec.specs.SessionAuths.{ResponseAuth, response_auth, rp_hash}
use Rattle.effect_spec.specs.Effect.{RowOutcome, command_entity, effect_authorized, effect_of, effect_in, ends_session, response_auth_of, outcome_of, handle_area, response_body}
use Rattle.device_spec.specs.Slots.{SlotState, SessionPlace, inactive, loaded, saved, Step, IsSlots, IsPlace, active_count, loaded_count, new_slots, in_slot, slot_of, free_slot, free_number, loaded_session, listed_from, slot_tables, slot_operands, step_by, startup_code, started_with, with_slot, with_place, placed, session_placed, gap_of, object_saved, session_saved, context_save, object_loaded, is_saved_under, session_loaded, context_load, object_flushed, session_flushed, flush_context, capability_row, capability_told, get_capability, made_by, sessions_left, effect_by, session_too_many, room_for, unless_full, slot_effect, slot_admitted, slot_row, slot_step}
use Rattle.device_spec.specs.Answers.{takes}
use Rattle.tab_laws.proofs.Admissions.{admitted_is_shape, found_code}
use Rattle.device_laws.proofs.Capabilities.{short_capability}
use Rattle.device_laws.proofs.Contexts.{object_context_small, opened_is}
use Rattle.device_laws.proofs.Frames.{error_is_frame, handled_is_frame, response_is_frame}
use Rattle.device_laws.proofs.NvRows.{Short}
use Rattle.device_laws.proofs.Outcomes.{IsMade, LeftWell, StartsBy, Tells, TellsBy, dropped_bytes, left_outcome, tells_outcome}
use Rattle.device_laws.proofs.PcrRows.{fitting_read}
use Rattle.device_laws.proofs.Places.{ArePlaces, loaded_new, made_inactive, saved_next}
use Rattle.device_laws.proofs.SessionContexts.{session_context_small, session_opened_is}
use Rattle.device_laws.proofs.SessionRows.{ClosedWell, closed_well}
use Rattle.device_laws.proofs.Standing.{IsLoadedAs, StandAll, is_loaded_as, left_stand, named_is, object_in_slot, object_stands, operands_stand, policy_stands, sessions_kept}

-- ---- states

places_are : (slots : SlotState) → IsSlots slots → ArePlaces slots.numbers.loaded slots.counter slots.sessions
places_are slots sound = record { numbers = sound.numbers; places = sound.places; few = sound.loaded; apart = sound.apart }

-- with other sessions, and another number of the next context
with_places_sound : (slots : SlotState) (sessions : List SessionPlace) (counter : ℕ) → IsSlots slots → ArePlaces slots.numbers.loaded counter sessions → counter ≤ CONTEXT_LIMIT
    → IsSlots (record slots { sessions = sessions; counter = counter })
with_places_sound slots sessions counter sound are within = record {
  persist = sound.persist;
  range = sound.range;
  count = sound.count;
  objects = sound.objects;
  object_counter = sound.object_counter;
  numbers = are.numbers;
  places = are.places;
  loaded = are.few;
  apart = are.apart;
  counter = within;
}

with_sessions_sound : (slots : SlotState) (sessions : List SessionPlace) → IsSlots slots → ArePlaces slots.numbers.loaded slots.counter sessions
    → IsSlots (record slots { sessions = sessions })
with_sessions_sound slots sessions sound are = with_places_sound slots sessions slots.counter sound are sound.counter

with_persist_sound : (slots : SlotState) (persist : Persist) → IsSlots slots → IsPersist persist → IsSlots (record slots { persist = persist })
with_persist_sound slots persist sound is = record {
  persist = is;
  range = sound.range;
  count = sound.count;
  objects = sound.objects;
  object_counter = sound.object_counter;
  numbers = sound.numbers;
  places = sound.places;
  loaded = sound.loaded;
  apart = sound.apart;
  counter = sound.counter;
}

started_sound : (slots : SlotState) → IsSlots slots → IsSlots (record slots { started = true })
started_sound slots sound = record {
  persist = sound.persist;
  range = sound.range;
  count = sound.count;
  objects = sound.objects;
  object_counter = sound.object_counter;
  numbers = sound.numbers;
  places = sound.places;
  loaded = sound.loaded;
  apart = sound.apart;
  counter = sound.counter;
}

all_in_place : (slots : List (Option Object)) (place : ℕ) (slot : Option Object) → IfSome slot IsObject → AllByRecursion (λ slot. IfSome slot IsObject) slots
    → AllByRecursion (λ slot. IfSome slot IsObject) (set slots place slot)
all_in_place [] place slot is all = tt
all_in_place (held ∷ slots) zero slot is all = (is, all.1)
all_in_place (held ∷ slots) (suc place) slot is all = (all.0, all_in_place slots place slot is all.1)

pub with_slot_sound : (slots : SlotState) (place : ℕ) (slot : Option Object) → IsSlots slots → IfSome slot IsObject → IsSlots (with_slot slots place slot)
with_slot_sound slots place slot sound is = record {
  persist = sound.persist;
  range = sound.range;
  count = length-set slots.slots place slot ∙ sound.count;
  objects = all_in_place slots.slots place slot is sound.objects;
  object_counter = sound.object_counter;
  numbers = sound.numbers;
  places = sound.places;
  loaded = sound.loaded;
  apart = sound.apart;
  counter = sound.counter;
}

object_counted_sound : (slots : SlotState) (next : ℕ) → IsSlots slots → next ≤ CONTEXT_LIMIT → IsSlots (record slots { object_counter = next })
object_counted_sound slots next sound within = record {
  persist = sound.persist;
  range = sound.range;
  count = sound.count;
  objects = sound.objects;
  object_counter = within;
  numbers = sound.numbers;
  places = sound.places;
  loaded = sound.loaded;
  apart = sound.apart;
  counter = sound.counter;
}

-- ---- steps

-- the reply is a frame, and where this holds of the command, the state is one of this profile
record Replies (Bytes : Type 0) (step : Step) : Type 0 where
  reply : is_frame step.1 ≡ true
  sound : Bytes → IsSlots step.0

refused_replies : (Bytes : Type 0) (slots : SlotState) (code : ℕ) → (Bytes → IsSlots slots) → Replies Bytes (slots, error_reply code)
refused_replies Bytes slots code sound = record { reply = error_is_frame code; sound = sound }

started_replies : (Bytes : Type 0) (slots : SlotState) (code : ℕ) → IsSlots slots → Replies Bytes (started_with slots code)
started_replies Bytes slots code sound =
    cond_both (code == RC_SUCCESS) (record slots { started = true }, response ST_NO_SESSIONS RC_SUCCESS []) (slots, error_reply code)
    (Replies Bytes) (λ starts. record { reply = refl; sound = λ bytes. started_sound slots sound }) (λ refused. refused_replies Bytes slots code (λ bytes. sound))

-- ---- what was made gets a place

placed_replies : (Bytes : Type 0) (slots : SlotState) (o : Object) (tag : ℕ) (body : List ℕ) → (Bytes → IsSlots slots) → IsObject o → length body ≤ 4080
    → Replies Bytes (placed slots o (response tag RC_SUCCESS (0 ∷ 0 ∷ 0 ∷ 0 ∷ body)))
placed_replies Bytes slots o tag body sound is small =
    let place = free_slot slots.slots in
    record {
      reply = handled_is_frame tag (TRANSIENT_FIRST + place) body small;
      sound = λ bytes. with_slot_sound slots place (Some o) (sound bytes) is;
    }

kind_is_octet : (kind : SessionKind) → is_session_octet (kind_octet kind) ≡ true
kind_is_octet session_kinds.Hmac = refl
kind_is_octet session_kinds.Policy = refl
kind_is_octet session_kinds.Trial = refl

session_placed_replies : (Bytes : Type 0) (slots : SlotState) (s : Session) (tag : ℕ) (body : List ℕ) → (Bytes → IsSlots slots)
    → (Bytes → loaded_count slots.sessions < slots.numbers.loaded) → IsSession s → length body ≤ 4080
    → Replies Bytes (session_placed slots s (response tag RC_SUCCESS (0 ∷ 0 ∷ 0 ∷ 0 ∷ body)))
session_placed_replies Bytes slots s tag body sound room is small =
    let number = free_number slots.sessions in
    let octet = kind_octet s.kind in
    record {
      reply = handled_is_frame tag (octet * 2 ^ 24 + number) body small;
      sound = λ bytes.
          with_sessions_sound slots (set slots.sessions number (loaded octet s)) (sound bytes)
          (loaded_new slots.numbers.loaded slots.counter slots.sessions number octet s (places_are slots (sound bytes)) (room bytes) (kind_is_octet s.kind) is);
    }

-- there is room for what was made
abbrev RoomFor : SlotState → Created → Type 0
RoomFor slots nothing = Unit
RoomFor slots (new_object o) = Unit
RoomFor slots (new_session s) = loaded_count slots.sessions < slots.numbers.loaded

not_many : (numbers places : Bool) (first second : ℕ) → (if numbers then Some first else if places then Some second else None) ≡ None → places ≡ false
not_many true places first second is = absurd cc
not_many false true first second is = absurd cc
not_many false false first second is = refl

room_checked : (slots : SlotState) (check : Result StartParameters ℕ) → is_ok check ≡ true → session_too_many slots check ≡ None
    → loaded_count slots.sessions < slots.numbers.loaded
room_checked slots (Err code) checked none = absurd (true≢false (sym checked))
room_checked slots (Ok b) checked none =
    leb-false slots.numbers.loaded (loaded_count slots.sessions)
    (not_many (nat_le slots.numbers.active (active_count slots.sessions) || nat_le SESSION_NUMBERS (active_count slots.sessions))
    (nat_le slots.numbers.loaded (loaded_count slots.sessions)) RC_SESSION_HANDLES RC_SESSION_MEMORY none)

has_room : (slots : SlotState) (code : ℕ) (params : List ℕ) (created : Created) → room_for slots code params ≡ None → StartsBy code params created
    → RoomFor slots created
has_room slots code params nothing none starts = tt
has_room slots code params (new_object o) none starts = tt
has_room slots code params (new_session s) none starts =
    let room : Bool → Option ℕ = λ starting. if starting then session_too_many slots (start_check params) else None in
    room_checked slots (start_check params) starts.1 (sym (ap room starts.0) ∙ none)

body_fits : (tag : ℕ) (params answer : List ℕ) → length params ≤ 4000 → length answer ≤ 69 → length (response_body tag params answer) ≤ 4073
body_fits tag params answer small few =
    cond_both (tag == ST_SESSIONS) (to_be_bytes w32 (length params) ++ params ++ answer) params (λ (body : List ℕ). length body ≤ 4073)
    (λ sessions. omega (arith, length-append (to_be_bytes w32 (length params) ++ params) answer, length-append (to_be_bytes w32 (length params)) params))
    (λ none. omega arith)

handled_fits : (has_handle : Bool) (body : List ℕ) → length body ≤ 4073 → length (handle_area has_handle ++ body) ≤ 4086
handled_fits true body small = omega (arith, small)
handled_fits false body small = omega (arith, small)

-- the state in which what was made gets its place
record Between (Bytes : Type 0) (slots : SlotState) (created : Created) : Type 0 where
  sound : Bytes → IsSlots slots
  room : Bytes → RoomFor slots created

made_replies : (Bytes : Type 0) (slots : SlotState) (created : Created) (has_handle : Bool) (tag : ℕ) (body : List ℕ) → Between Bytes slots created → length body ≤ 4073
    → IsMade created → TellsBy has_handle created → Replies Bytes (made_by slots created (response tag RC_SUCCESS (handle_area has_handle ++ body)))
made_replies Bytes slots nothing has_handle tag body between small made tells =
    record { reply = response_is_frame tag RC_SUCCESS (handle_area has_handle ++ body) (handled_fits has_handle body small); sound = between.sound }
made_replies Bytes slots (new_object o) has_handle tag body between small made tells =
    rw tells (placed_replies Bytes slots o tag body between.sound made (omega (arith, small)))
made_replies Bytes slots (new_session s) has_handle tag body between small made tells =
    rw tells (session_placed_replies Bytes slots s tag body between.sound between.room made (omega (arith, small)))

-- ---- effects

closed_outcome : (slots : SlotState) (operands : Operands) (shape : Shape) (auths : Auths) (bytes : List ℕ) (done : RowOutcome) → StandAll slots.sessions operands
    → IsPersist done.persist → ClosedWell (response_auth_of slots.persist operands shape auths bytes done)
closed_outcome slots operands shape auths bytes done stand sound =
    let named = named_is slots.sessions operands.session stand.named in
    cond_both (shape.tag == ST_SESSIONS)
    (response_auth done.persist (command_entity slots.persist operands) (named_session operands.session) (command_auth auths) bytes (rp_hash shape.row.code done.params))
    (Ok (record { persist = done.persist; session = named_session operands.session; answer = [] })) ClosedWell
    (λ sessions.
    closed_well done.persist (command_entity slots.persist operands) (named_session operands.session) (command_auth auths) bytes
    (rp_hash shape.row.code done.params) sound named)
    (λ none. (omega arith, (sound, named)))

-- the state with what is kept and with the sessions that a command left
between_sound : (slots : SlotState) (persist : Persist) (operands : Operands) (ended : Bool) → IsSlots slots → IsPersist persist
    → StandAll slots.sessions operands → IsSlots (record slots { persist = persist; sessions = sessions_left slots.sessions operands ended })
between_sound slots persist operands ended sound is stand =
    with_sessions_sound (record slots { persist = persist }) (sessions_left slots.sessions operands ended) (with_persist_sound slots persist sound is)
    (sessions_kept slots.numbers.loaded slots.counter slots.sessions operands ended (places_are slots sound) stand).are

still_room : (slots : SlotState) (persist : Persist) (operands : Operands) (ended : Bool) (created : Created) → IsSlots slots → StandAll slots.sessions operands
    → RoomFor slots created → RoomFor (record slots { persist = persist; sessions = sessions_left slots.sessions operands ended }) created
still_room slots persist operands ended nothing sound stand room = tt
still_room slots persist operands ended (new_object o) sound stand room = tt
still_room slots persist operands ended (new_session s) sound stand room =
    omega (arith, (sessions_kept slots.numbers.loaded slots.counter slots.sessions operands ended (places_are slots sound) stand).fewer, room)

effect_refused : (Bytes : Type 0) (slots : SlotState) (operands : Operands) (code : ℕ) → IsSlots slots → StandAll slots.sessions operands
    → Replies Bytes (record slots { persist = slots.persist; sessions = sessions_left slots.sessions operands false }, error_reply code)
effect_refused Bytes slots operands code sound stand =
    refused_replies Bytes (record slots { persist = slots.persist; sessions = sessions_left slots.sessions operands false }) code
    (λ bytes. between_sound slots slots.persist operands false sound sound.persist stand)

closed_replies : (Bytes : Type 0) (slots : SlotState) (operands : Operands) (shape : Shape) (auths : Auths) (done : RowOutcome) (closed : Result ResponseAuth ℕ)
    → IsSlots slots → StandAll slots.sessions operands → LeftWell Bytes (Ok done) → ClosedWell closed → TellsBy shape.row.response_handle done.created
    → RoomFor slots done.created → Replies Bytes (effect_by slots (effect_authorized slots.persist operands shape auths done closed))
closed_replies Bytes slots operands shape auths done (Err code) sound stand left well tells room = effect_refused Bytes slots operands code sound stand
closed_replies Bytes slots operands shape auths done (Ok closed) sound stand left well tells room =
    let after : Operands = record { handles = handles_left done.policy operands.handles; session = session_left operands.session closed.session } in
    let ended = ends_session operands shape auths in
    let stands : Bytes → StandAll slots.sessions after =
    λ bytes. left_stand slots.sessions operands done.policy closed.session stand (left.1.1.1 bytes) well.1.1 in
    made_replies Bytes (record slots { persist = closed.persist; sessions = sessions_left slots.sessions after ended }) done.created shape.row.response_handle
    shape.tag (response_body shape.tag done.params closed.answer)
    (record {
      sound = λ bytes. between_sound slots closed.persist after ended sound well.1.0 (stands bytes);
      room = λ bytes. still_room slots closed.persist after ended done.created sound (stands bytes) room;
    })
    (body_fits shape.tag done.params closed.answer left.0 well.0) left.1.1.0 tells

outcome_replies : (Bytes : Type 0) (slots : SlotState) (operands : Operands) (shape : Shape) (auths : Auths) (bytes : List ℕ) (row : Result RowOutcome ℕ)
    → IsSlots slots → StandAll slots.sessions operands → LeftWell Bytes row → Tells shape.row (drop auths.params bytes) row
    → room_for slots shape.row.code (drop auths.params bytes) ≡ None → Replies Bytes (effect_by slots (effect_in slots.persist operands shape auths bytes row))
outcome_replies Bytes slots operands shape auths bytes (Err code) sound stand left tells room = effect_refused Bytes slots operands code sound stand
outcome_replies Bytes slots operands shape auths bytes (Ok done) sound stand left tells room =
    closed_replies Bytes slots operands shape auths done (response_auth_of slots.persist operands shape auths bytes done) sound stand left
    (closed_outcome slots operands shape auths bytes done stand left.1.0) tells.0
    (has_room slots shape.row.code (drop auths.params bytes) done.created room tells.1)

effect_replies : (slots : SlotState) (shape : Shape) (auths : Auths) (bytes : List ℕ) → IsSlots slots → IsShape shape
    → room_for slots shape.row.code (drop auths.params bytes) ≡ None
    → Replies (AreBytes (drop auths.params bytes)) (effect_by slots (effect_of slots.persist (slot_operands slots shape auths) shape auths bytes))
unfolding effect_of
effect_replies slots shape auths bytes sound is room =
    let operands = slot_operands slots shape auths in
    let stand = operands_stand slots shape auths sound in
    outcome_replies (AreBytes (drop auths.params bytes)) slots operands shape auths bytes (outcome_of slots.persist operands shape auths bytes) sound stand
    (left_outcome slots.persist operands shape auths bytes sound.persist (policy_stands slots.sessions operands stand) (object_stands slots.sessions operands stand))
    (tells_outcome slots.persist operands shape auths bytes is.row) room

unless_full_replies : (Bytes : Type 0) (slots : SlotState) (full room : Option ℕ) (next : Step) → room ≡ full → IsSlots slots
    → (room ≡ None → Replies Bytes next) → Replies Bytes (unless_full slots full next)
unless_full_replies Bytes slots (Some code) room next is sound goes = refused_replies Bytes slots code (λ bytes. sound)
unless_full_replies Bytes slots None room next is sound goes = goes is

-- ---- the commands of the machine itself

abbrev StepWell : Type 0 → SlotState → Result Step ℕ → Type 0
StepWell Bytes slots step = Replies Bytes (step_by slots step)

step_refused : (Bytes : Type 0) (slots : SlotState) (code : ℕ) → IsSlots slots → StepWell Bytes slots (Err code)
step_refused Bytes slots code sound = refused_replies Bytes slots code (λ bytes. sound)

object_saved_replies : (Bytes : Type 0) (slots : SlotState) (slot : Option Object) → IsSlots slots → IfSome slot IsObject → StepWell Bytes slots (object_saved slots slot)
object_saved_replies Bytes slots None sound is = step_refused Bytes slots RC_FAILURE sound
object_saved_replies Bytes slots (Some o) sound is =
    let context = object_context slots.persist.seed slots.object_counter o in
    cond_both (nat_le CONTEXT_LIMIT slots.object_counter) (Err RC_FAILURE) (Ok (record slots { object_counter = slots.object_counter + 1 }, response ST_NO_SESSIONS RC_SUCCESS context))
    (StepWell Bytes slots) (λ last. step_refused Bytes slots RC_FAILURE sound) (λ more.
    let before = leb-false CONTEXT_LIMIT slots.object_counter more in
    let small = object_context_small slots.persist.seed slots.object_counter o is in
    record {
      reply = response_is_frame ST_NO_SESSIONS RC_SUCCESS context (omega (arith, small));
      sound = λ bytes. object_counted_sound slots (slots.object_counter + 1) sound (omega (arith, before));
    })

session_saved_replies : (Bytes : Type 0) (slots : SlotState) (handle : ℕ) (found : Option Session) → IsSlots slots → IfSome found (IsLoadedAs slots.sessions handle)
    → StepWell Bytes slots (session_saved slots handle found)
session_saved_replies Bytes slots handle None sound is = step_refused Bytes slots RC_FAILURE sound
session_saved_replies Bytes slots handle (Some s) sound is =
    let context = session_context slots.persist.seed handle slots.counter s in
    let number = number_of_session handle in
    let octet = octet_of handle in
    cond_both (nat_le CONTEXT_LIMIT slots.counter) (Err RC_FAILURE) _ (StepWell Bytes slots) (λ last. step_refused Bytes slots RC_FAILURE sound) (λ more.
    cond_both (nat_le slots.numbers.gap (gap_of slots)) (Err RC_CONTEXT_GAP)
    (Ok (record (with_place slots number (saved octet slots.counter)) { counter = slots.counter + 1 }, response ST_NO_SESSIONS RC_SUCCESS context))
    (StepWell Bytes slots) (λ gap. step_refused Bytes slots RC_CONTEXT_GAP sound) (λ near.
    let before = leb-false CONTEXT_LIMIT slots.counter more in
    let small = session_context_small slots.persist.seed handle slots.counter s is.1.1 in
    record {
      reply = response_is_frame ST_NO_SESSIONS RC_SUCCESS context (omega (arith, small));
      sound = λ bytes.
          with_places_sound slots (set slots.sessions number (saved octet slots.counter)) (slots.counter + 1) sound
          (saved_next slots.numbers.loaded slots.counter slots.sessions number octet (places_are slots sound) is.0) (omega (arith, before));
    }))

save_replies : (Bytes : Type 0) (slots : SlotState) (handle : ℕ) (params : List ℕ) → IsSlots slots → StepWell Bytes slots (context_save slots handle params)
save_replies Bytes slots handle params sound =
    fitting_read (StepWell Bytes slots) (nothing_of params)
    (λ none.
    if octet_of handle == HT_TRANSIENT then object_saved slots (in_slot slots handle) else session_saved slots handle (loaded_session slots handle))
    (λ code. step_refused Bytes slots code sound) (λ none.
    cond_both (octet_of handle == HT_TRANSIENT) (object_saved slots (in_slot slots handle)) (session_saved slots handle (loaded_session slots handle)) (StepWell Bytes slots)
    (λ object. object_saved_replies Bytes slots (in_slot slots handle) sound (object_in_slot slots handle sound))
    (λ session. session_saved_replies Bytes slots handle (loaded_session slots handle) sound (is_loaded_as slots handle sound)))

object_loaded_replies : (Bytes : Type 0) (slots : SlotState) (slot : Option Object) → IsSlots slots → IfSome slot IsObject → StepWell Bytes slots (object_loaded slots slot)
object_loaded_replies Bytes slots None sound is = step_refused Bytes slots (RC_INTEGRITY + RC_P + RC_1) sound
object_loaded_replies Bytes slots (Some o) sound is = placed_replies Bytes slots o ST_NO_SESSIONS [] (λ bytes. sound) is (omega arith)

session_loaded_replies : (Bytes : Type 0) (slots : SlotState) (c : Context) (found : Option Session) → IsSlots slots → is_session_handle c.saved_handle ≡ true
    → (Bytes → IfSome found IsSession) → StepWell Bytes slots (session_loaded slots c found)
session_loaded_replies Bytes slots c None sound octet is = step_refused Bytes slots (RC_INTEGRITY + RC_P + RC_1) sound
session_loaded_replies Bytes slots c (Some s) sound octet is =
    let number = number_of_session c.saved_handle in
    let place = loaded (octet_of c.saved_handle) s in
    cond_both (not (is_saved_under slots c.saved_handle c.sequence)) (Err (RC_HANDLE + RC_P + RC_1)) _ (StepWell Bytes slots)
    (λ other. step_refused Bytes slots (RC_HANDLE + RC_P + RC_1) sound) (λ same.
    cond_both (nat_le slots.numbers.loaded (loaded_count slots.sessions)) (Err RC_SESSION_MEMORY)
    (Ok (with_place slots number place, response ST_NO_SESSIONS RC_SUCCESS (to_be_bytes w32 c.saved_handle))) (StepWell Bytes slots)
    (λ full. step_refused Bytes slots RC_SESSION_MEMORY sound) (λ room. record {
      reply = response_is_frame ST_NO_SESSIONS RC_SUCCESS (to_be_bytes w32 c.saved_handle) (omega arith);
      sound = λ bytes.
          with_sessions_sound slots (set slots.sessions number place) sound
          (loaded_new slots.numbers.loaded slots.counter slots.sessions number (octet_of c.saved_handle) s (places_are slots sound)
          (leb-false slots.numbers.loaded (loaded_count slots.sessions) room) octet (is bytes));
    }))

opened_well : (seed bytes : List ℕ) (opened : Option Object) → opened_object seed bytes ≡ opened → IfSome opened IsObject
opened_well seed bytes None is = tt
opened_well seed bytes (Some o) is = opened_is seed bytes o is

session_opened_well : (seed bytes : List ℕ) (opened : Option Session) → opened_session seed bytes ≡ opened → AreBytes bytes → IfSome opened IsSession
session_opened_well seed bytes None is all = tt
session_opened_well seed bytes (Some s) is all = session_opened_is seed bytes s all is

load_replies : (slots : SlotState) (params : List ℕ) → IsSlots slots → StepWell (AreBytes params) slots (context_load slots params)
load_replies slots params sound =
    let seed = slots.persist.seed in
    let Well : Result Step ℕ → Type 0 = StepWell (AreBytes params) slots in
    fitting_read Well (in_parameter 1 (require blob_fits RC_SIZE (context_of params))) _ (λ code. step_refused (AreBytes params) slots code sound) (λ c.
    cond_both (c.saved_handle == TRANSIENT_FIRST) (object_loaded slots (opened_object seed params)) _ Well
    (λ object. object_loaded_replies (AreBytes params) slots (opened_object seed params) sound (opened_well seed params (opened_object seed params) refl)) (λ other.
    cond_both (is_session_handle c.saved_handle) (session_loaded slots c (opened_session seed params)) (Err (RC_VALUE + RC_P + RC_1)) Well
    (λ session.
    session_loaded_replies (AreBytes params) slots c (opened_session seed params) sound session
    (session_opened_well seed params (opened_session seed params) refl))
    (λ neither. step_refused (AreBytes params) slots (RC_VALUE + RC_P + RC_1) sound)))

object_flushed_replies : (Bytes : Type 0) (slots : SlotState) (handle : ℕ) (slot : Option Object) → IsSlots slots → StepWell Bytes slots (object_flushed slots handle slot)
object_flushed_replies Bytes slots handle None sound = step_refused Bytes slots (RC_HANDLE + RC_P + RC_1) sound
object_flushed_replies Bytes slots handle (Some o) sound =
    record { reply = refl; sound = λ bytes. with_slot_sound slots (slot_of handle) None sound tt }

session_flushed_replies : (Bytes : Type 0) (slots : SlotState) (handle : ℕ) → IsSlots slots → StepWell Bytes slots (session_flushed slots handle)
session_flushed_replies Bytes slots handle sound =
    let number = number_of_session handle in
    cond_both _ (Ok (with_place slots number inactive, response ST_NO_SESSIONS RC_SUCCESS [])) (Err (RC_HANDLE + RC_P + RC_1)) (StepWell Bytes slots)
    (λ active. record {
      reply = refl;
      sound = λ bytes.
          with_sessions_sound slots (set slots.sessions number inactive) sound (made_inactive slots.numbers.loaded slots.counter slots.sessions number (places_are slots sound));
    })
    (λ none. step_refused Bytes slots (RC_HANDLE + RC_P + RC_1) sound)

flush_replies : (Bytes : Type 0) (slots : SlotState) (params : List ℕ) → IsSlots slots → StepWell Bytes slots (flush_context slots params)
flush_replies Bytes slots params sound =
    fitting_read (StepWell Bytes slots) (in_parameter 1 (number32 RC_INSUFFICIENT params)) _ (λ code. step_refused Bytes slots code sound) (λ handle.
    cond_both (octet_of handle == HT_TRANSIENT) (object_flushed slots handle (in_slot slots handle)) _ (StepWell Bytes slots)
    (λ object. object_flushed_replies Bytes slots handle (in_slot slots handle) sound) (λ other.
    cond_both (is_session_handle handle) (session_flushed slots handle) (Err (RC_VALUE + RC_P + RC_1)) (StepWell Bytes slots)
    (λ session. session_flushed_replies Bytes slots handle sound) (λ neither. step_refused Bytes slots (RC_VALUE + RC_P + RC_1) sound)))

told_replies : (Bytes : Type 0) (slots : SlotState) (row : Result (List ℕ) ℕ) → IsSlots slots → Short row → StepWell Bytes slots (capability_told slots row)
told_replies Bytes slots (Err code) sound short = step_refused Bytes slots code sound
told_replies Bytes slots (Ok params) sound short =
    record { reply = response_is_frame ST_NO_SESSIONS RC_SUCCESS params (omega (arith, short)); sound = λ bytes. sound }

capability_replies : (Bytes : Type 0) (slots : SlotState) (params : List ℕ) → IsSlots slots → StepWell Bytes slots (get_capability slots params)
capability_replies Bytes slots params sound =
    told_replies Bytes slots (capability_row slots params) sound
    (short_capability (device_limits slots.numbers) all_commands slots.persist (transient_from TRANSIENT_FIRST slots.slots) (listed_from 0 slots.sessions)
    (active_count slots.sessions) params)

-- ---- every command

run_replies : (slots : SlotState) (shape : Shape) (auths : Auths) (bytes : List ℕ) → IsSlots slots → IsShape shape
    → Replies (AreBytes (drop auths.params bytes)) (slot_effect slots shape auths bytes)
run_replies slots shape auths bytes sound is =
    let params = drop auths.params bytes in
    let B : Type 0 = AreBytes (drop auths.params bytes) in
    let Well : Step → Type 0 = Replies (AreBytes (drop auths.params bytes)) in
    let room = room_for slots shape.row.code params in
    let effect = effect_by slots (effect_of slots.persist (slot_operands slots shape auths) shape auths bytes) in
    cond_both (shape.row.code == CC_STARTUP) _ _ Well (λ so. started_replies B slots (startup_code slots.started params) sound) (λ not.
    cond_both (shape.row.code == CC_CONTEXT_SAVE) _ _ Well (λ so. save_replies B slots (get_or shape.handles 0 0) params sound) (λ not.
    cond_both (shape.row.code == CC_CONTEXT_LOAD) _ _ Well (λ so. load_replies slots params sound) (λ not.
    cond_both (shape.row.code == CC_FLUSH_CONTEXT) _ _ Well (λ so. flush_replies B slots params sound) (λ not.
    cond_both (shape.row.code == CC_GET_CAPABILITY) (step_by slots (get_capability slots params)) (unless_full slots room effect) Well
    (λ so. capability_replies B slots params sound)
    (λ not. unless_full_replies B slots room room effect refl sound (λ none. effect_replies slots shape auths bytes sound is none))))))

weaker_bytes : (Bytes Fewer : Type 0) (step : Step) → (Bytes → Fewer) → Replies Fewer step → Replies Bytes step
weaker_bytes Bytes Fewer step weaker replies = record { reply = replies.reply; sound = λ bytes. replies.sound (weaker bytes) }

admitted_replies : (slots : SlotState) (admitted : Result Admitted ℕ) (bytes : List ℕ) → IsSlots slots → ((a : Admitted) → admitted ≡ Ok a → IsShape a.shape)
    → Replies (AreBytes bytes) (slot_admitted slots admitted bytes)
admitted_replies slots (Err code) bytes sound shapes = refused_replies (AreBytes bytes) slots code (λ bytes. sound)
admitted_replies slots (Ok a) bytes sound shapes =
    weaker_bytes (AreBytes bytes) (AreBytes (drop a.auths.params bytes)) (slot_effect slots a.shape a.auths bytes) (dropped_bytes a.auths.params bytes)
    (run_replies slots a.shape a.auths bytes sound (shapes a refl))

row_replies : (slots : SlotState) (row : Result CommandRow ℕ) (bytes : List ℕ) → IsSlots slots → ((r : CommandRow) → row ≡ Ok r → row_of r.code ≡ Some r)
    → Replies (AreBytes bytes) (slot_row slots row bytes)
row_replies slots (Err code) bytes sound known = refused_replies (AreBytes bytes) slots code (λ bytes. sound)
row_replies slots (Ok row) bytes sound known =
    let admitted = admitted_by (slot_tables slots) (Ok row) bytes in
    cond_both (slots.started || row.code == CC_STARTUP) (slot_admitted slots admitted bytes) (slots, error_reply RC_INITIALIZE)
    (Replies (AreBytes bytes)) (λ goes. admitted_replies slots admitted bytes sound (λ a is. admitted_is_shape (slot_tables slots) row bytes a (known row refl) is))
    (λ refused. refused_replies (AreBytes bytes) slots RC_INITIALIZE (λ bytes. sound))

found_self : (code : ℕ) (row : CommandRow) → row_of code ≡ Some row → row_of row.code ≡ Some row
found_self code row is = subst (λ c. row_of c ≡ Some row) (sym (found_code code all_commands row is)) is

-- a row that was found is that of its code
found_by : (found : Option CommandRow) (code : ℕ) (row : CommandRow) → row_of code ≡ found → known_row found ≡ Ok row → row_of row.code ≡ Some row
found_by None code row is e = absurd cc
found_by (Some r) code row is e = let same : r ≡ row = cc in found_self code row (is ∙ ap (λ (x : CommandRow). Some x) same)

pub found_in : (frame tag : Bool) (bytes : List ℕ) (row : CommandRow)
    → (if not frame then Err RC_COMMAND_SIZE else if not tag then Err RC_BAD_TAG else known_row (row_of (code_of bytes))) ≡ Ok row → row_of row.code ≡ Some row
found_in false tag bytes row e = absurd cc
found_in true false bytes row e = absurd cc
found_in true true bytes row e = found_by (row_of (code_of bytes)) (code_of bytes) row refl e

step_lasts : (slots : SlotState) (bytes : List ℕ) → IsSlots slots → Replies (AreBytes bytes) (slot_step slots bytes)
unfolding slot_step
step_lasts slots bytes sound = row_replies slots (row_in row_of bytes) bytes sound (λ row is. found_in (is_frame bytes) (is_command_tag (tag_of bytes)) bytes row is)

pub step_replies : (slots : SlotState) (bytes : List ℕ) → IsSlots slots → is_frame (slot_step slots bytes).1 ≡ true
step_replies slots bytes sound = (step_lasts slots bytes sound).reply

pub step_keeps : (slots : SlotState) (bytes : List ℕ) → IsSlots slots → AreBytes bytes → IsSlots (slot_step slots bytes).0
step_keeps slots bytes sound all = (step_lasts slots bytes sound).sound all

-- ---- a fresh device

all_zero : (count : ℕ) → AllByRecursion (λ (pcr : List ℕ). length pcr ≡ 32) (replicate count (replicate 32 0))
all_zero zero = tt
all_zero (suc count) = (refl, all_zero count)

pub fresh_is_persist : (seed : List ℕ) → length seed ≡ 32 → IsPersist (fresh_persist seed)
fresh_is_persist seed is = record {
  seed = is;
  place = omega arith;
  owner_auth = omega arith;
  nv_count = omega arith;
  indexes = tt;
  pcr_count = refl;
  pcr_sizes = all_zero PCRS;
  updates = omega arith;
}

all_inactive : (count : ℕ) → AllByRecursion (λ place. IsPlace 0 place) (replicate count inactive)
all_inactive zero = tt
all_inactive (suc count) = (tt, all_inactive count)

all_free : (count : ℕ) → AllByRecursion (λ slot. IfSome slot IsObject) (replicate count None)
all_free zero = tt
all_free (suc count) = (tt, all_free count)

pub new_is_slots : (numbers : Numbers) (seed : List ℕ) → AreInRange numbers → length seed ≡ 32 → IsSlots (new_slots numbers (fresh_persist seed))
new_is_slots numbers seed range is = record {
  persist = fresh_is_persist seed is;
  range = range;
  count = length-replicate numbers.slots None;
  objects = all_free numbers.slots;
  object_counter = omega arith;
  numbers = refl;
  places = all_inactive SESSION_NUMBERS;
  loaded = omega arith;
  apart = λ number. omega arith;
  counter = omega arith;
}

-- ---- Startup

-- Startup starts, whether or not the device had started, and a broker takes the answer
pub record Starts (slots : SlotState) (step : Step) : Type 0 where
  pub state : step.0 ≡ record slots { started = true }
  pub taken : takes PROFILE_CONTEXTS true true startup_command step.1 ≡ true

starts_from : (started : Bool) (persist : Persist) (numbers : Numbers) (held : List (Option Object)) (sessions : List SessionPlace) (object_counter counter : ℕ)
    → let slots : SlotState =
    record { started = started; persist = persist; numbers = numbers; slots = held; sessions = sessions; object_counter = object_counter; counter = counter } in
    Starts slots (slot_step slots startup_command)
unfolding slot_step auths_of
starts_from true persist numbers held sessions object_counter counter = record { state = refl; taken = refl }
starts_from false persist numbers held sessions object_counter counter = record { state = refl; taken = refl }

pub startup_starts : (slots : SlotState) → Starts slots (slot_step slots startup_command)
startup_starts slots = starts_from slots.started slots.persist slots.numbers slots.slots slots.sessions slots.object_counter slots.counter
