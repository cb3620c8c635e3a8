-- A broker takes what a device answers to the commands by which the broker moves objects.
use Rattle.std.proofs.Common.{◌≡◌, ◌+◌, ◌^◌, ◌<◌, ◌≤◌, ℕ, Bool, true, false, List, [], ◌++◌, length, take, drop, refl, ◌∙◌, sym, ap, subst, arith, length-append, length-drop}
use Rattle.std.specs.Prelude.{Option, Some, None, IfSome, Result, Ok, Err, nat_le, nat_lt, ◌==◌, ◌&&◌, if◌then◌else◌}
use Rattle.std.specs.List.{list_any}
use Rattle.std.specs.Int.{w32, w64, from_be_bytes, to_be_bytes}
use Rattle.std.proofs.lemmas.Bool.{and_from, cond_both, eqb-true, le-leb, le-ltb, lt-leb, ltb-false}
use Rattle.std.proofs.lemmas.Nat.{from_be_bytes-to_be_bytes_4}
use Rattle.tab_spec.specs.declared.TheConstants.{ST_NO_SESSIONS, CONTEXT_LIMIT, HT_TRANSIENT, TRANSIENT_FIRST, RC_SUCCESS, RC_INSUFFICIENT, RC_FAILURE, RH_OWNER}
use Rattle.tab_spec.specs.Admission.{is_session_handle}
use Rattle.tab_spec.specs.Frame.{is_frame}
use Rattle.tab_spec.specs.Object.{Object, IsObject, object_bytes}
use Rattle.tab_spec.specs.Reply.{response}
use Rattle.tab_spec.specs.Shape.{octet_of}
use Rattle.tab_spec.specs.Values.{Reading, number32, sized, sized_bytes, then_read}
use Rattle.tab_spec.specs.declared.contexts.TheConstants.{PROFILE_CONTEXTS}
use Rattle.effect_spec.specs.Contexts.{Context, context_bytes, context_encrypted, context_head, context_integrity, context_of, object_context, opened_object, blob_fits}
use Rattle.device_spec.specs.Answers.{fits_handle, is_context, is_context_of, is_word, loads_session, takes, word_at}
use Rattle.device_spec.specs.ContextCommands.{context_load_command, context_save_command, flush_context_command}
use Rattle.device_spec.specs.Slots.{SlotState, IsSlots, Step, context_object, free_slot, in_slot, is_free, object_at, slot_step, step_by}
use Rattle.tab_laws.proofs.ReadBack.{Gives, gives_next}
use Rattle.tab_laws.proofs.Objects.{length-sized}
use Rattle.device_laws.proofs.AnswerForms.{handle_of_response, no_list_asked, success_taken, transient_octet}
use Rattle.device_laws.proofs.Answering.{free_few}
use Rattle.device_laws.proofs.Contexts.{context_again, context_length, object_context_small}
use Rattle.device_laws.proofs.ContextSteps.{object_flush_step, object_load_step, object_save_step}
use Rattle.device_laws.proofs.Frames.{response_is_frame}
use Rattle.device_laws.proofs.Replies.{step_replies}
use Rattle.device_laws.proofs.Standing.{object_in_slot}

-- ---- ContextSave

pub context_reads : (seed : List ℕ) (sequence saved_handle hierarchy : ℕ) (plain : List ℕ) → sequence < 2 ^ 64 → saved_handle < 2 ^ 32 → hierarchy < 2 ^ 32
    → length plain < 2 ^ 15
    → let bytes = context_encrypted seed sequence saved_handle plain in
    let blob = sized_bytes (context_integrity seed sequence saved_handle hierarchy bytes) ++ bytes in
    context_of (context_bytes seed sequence saved_handle hierarchy plain)
    ≡ Ok (record { sequence = sequence; saved_handle = saved_handle; hierarchy = hierarchy; blob = blob }, [])
context_reads seed sequence saved_handle hierarchy plain sequence_fits handle_fits hierarchy_fits small =
    let bytes = context_encrypted seed sequence saved_handle plain in
    let blob = sized_bytes (context_integrity seed sequence saved_handle hierarchy bytes) ++ bytes in
    context_again (record { sequence = sequence; saved_handle = saved_handle; hierarchy = hierarchy; blob = blob }) sequence_fits handle_fits hierarchy_fits
    (omega (
      arith,
      context_length seed sequence saved_handle hierarchy plain,
      length-append (context_head sequence saved_handle hierarchy) (sized_bytes blob),
      length-sized blob,
      small,
    ))

context_fits : (handle : ℕ) (context : List ℕ) (c : Context) → (octet_of handle == HT_TRANSIENT) ≡ true → c.saved_handle ≡ TRANSIENT_FIRST → length context ≤ 512
    → is_context_of PROFILE_CONTEXTS handle context (Ok (c, [])) ≡ true
context_fits handle context c transient is few = rw (transient, is, le-leb (length context) 512 few) refl

object_context_fits : (handle : ℕ) (seed : List ℕ) (sequence : ℕ) (o : Object) → (octet_of handle == HT_TRANSIENT) ≡ true → sequence < 2 ^ 64 → IsObject o
    → (let context = object_context seed sequence o in is_context_of PROFILE_CONTEXTS handle context (context_of context)) ≡ true
object_context_fits handle seed sequence o transient fits is =
    let context = object_context seed sequence o in
    let few : length context ≤ 370 = object_context_small seed sequence o is in
    let bytes = context_encrypted seed sequence TRANSIENT_FIRST (object_bytes o) in
    let blob = sized_bytes (context_integrity seed sequence TRANSIENT_FIRST RH_OWNER bytes) ++ bytes in
    let plain_few : length (object_bytes o) < 2 ^ 15 = omega (arith, few, context_length seed sequence TRANSIENT_FIRST RH_OWNER (object_bytes o)) in
    ap (is_context_of PROFILE_CONTEXTS handle context) (context_reads seed sequence TRANSIENT_FIRST RH_OWNER (object_bytes o) fits (omega arith) (omega arith) plain_few)
    ∙ context_fits handle context (record { sequence = sequence; saved_handle = TRANSIENT_FIRST; hierarchy = RH_OWNER; blob = blob }) transient refl
    (omega (arith, few))

pub saved_form : (handle : ℕ) (context : List ℕ) → handle < 2 ^ 32 → length context ≤ 512 → is_context_of PROFILE_CONTEXTS handle context (context_of context) ≡ true
    → takes PROFILE_CONTEXTS true true (context_save_command handle) (response ST_NO_SESSIONS RC_SUCCESS context) ≡ true
saved_form handle context fits few is =
    let last = response ST_NO_SESSIONS RC_SUCCESS context in
    let asked = context_save_command handle in
    let whole : is_context PROFILE_CONTEXTS asked context ≡ true =
    ap (λ (h : ℕ). is_context_of PROFILE_CONTEXTS h context (context_of context)) (from_be_bytes-to_be_bytes_4 handle fits) ∙ is in
    and_from (is_frame last) (is_context PROFILE_CONTEXTS asked context) (response_is_frame ST_NO_SESSIONS RC_SUCCESS context (omega (arith, few))) whole

saved_by : (past : Bool) (slots : SlotState) (failed saved : Result Step ℕ) → past ≡ false → step_by slots (if past then failed else saved) ≡ step_by slots saved
saved_by past slots failed saved is = rw is refl

-- the state and the reply, where there are numbers left
abbrev pub object_out : SlotState → Object → Step
object_out slots o = (
  record slots { object_counter = slots.object_counter + 1 },
  response ST_NO_SESSIONS RC_SUCCESS (object_context slots.persist.seed slots.object_counter o),
)

pub object_out_step : (slots : SlotState) (handle : ℕ) (o : Object) → slots.started ≡ true → handle < 2 ^ 32 → (octet_of handle == HT_TRANSIENT) ≡ true
    → in_slot slots handle ≡ Some o → slots.object_counter < CONTEXT_LIMIT → slot_step slots (context_save_command handle) ≡ object_out slots o
object_out_step slots handle o started fits transient there more =
    object_save_step slots handle o started fits transient there
    ∙ saved_by (nat_le CONTEXT_LIMIT slots.object_counter) slots (Err RC_FAILURE) (Ok (object_out slots o)) (lt-leb CONTEXT_LIMIT slots.object_counter more)

pub save_taken : (slots : SlotState) (handle : ℕ) (o : Object) → IsSlots slots → slots.started ≡ true → handle < 2 ^ 32 → (octet_of handle == HT_TRANSIENT) ≡ true
    → in_slot slots handle ≡ Some o → slots.object_counter < CONTEXT_LIMIT
    → takes PROFILE_CONTEXTS true true (context_save_command handle) (slot_step slots (context_save_command handle)).1 ≡ true
save_taken slots handle o sound started fits transient there more =
    let is : IsObject o = subst (λ slot. IfSome slot IsObject) there (object_in_slot slots handle sound) in
    ap (λ (step : Step). takes PROFILE_CONTEXTS true true (context_save_command handle) step.1) (object_out_step slots handle o started fits transient there more)
    ∙ saved_form handle (object_context slots.persist.seed slots.object_counter o) fits
    (omega (arith, object_context_small slots.persist.seed slots.object_counter o is))
    (object_context_fits handle slots.persist.seed slots.object_counter o transient (omega (arith, more)) is)

-- ---- FlushContext

pub flushed_form : (handle : ℕ) → takes PROFILE_CONTEXTS true true (flush_context_command handle) (response ST_NO_SESSIONS RC_SUCCESS []) ≡ true
flushed_form handle = refl

pub flush_taken : (slots : SlotState) (handle : ℕ) (o : Object) → slots.started ≡ true → handle < 2 ^ 32 → (octet_of handle == HT_TRANSIENT) ≡ true
    → in_slot slots handle ≡ Some o → takes PROFILE_CONTEXTS true true (flush_context_command handle) (slot_step slots (flush_context_command handle)).1 ≡ true
flush_taken slots handle o started fits transient there =
    ap (λ (step : Step). takes PROFILE_CONTEXTS true true (flush_context_command handle) step.1) (object_flush_step slots handle o started fits transient there) ∙ flushed_form handle

-- ---- ContextLoad

-- where a context has its savedHandle
abbrev pub HasHandle : List ℕ → Context → Type 0
HasHandle bytes c = (12 ≤ length bytes) × (c.saved_handle ≡ from_be_bytes w32 (take 4 (drop 8 bytes)))

-- what is read behind the sequence, and behind savedHandle
abbrev behind_handle : ℕ → ℕ → List ℕ → Reading Context
behind_handle sequence handle rest =
    then_read (number32 RC_INSUFFICIENT rest) (λ hierarchy rest.
    then_read (sized RC_INSUFFICIENT rest) (λ blob rest.
    Ok (record { sequence = sequence; saved_handle = handle; hierarchy = hierarchy; blob = blob }, rest)))

abbrev behind_sequence : ℕ → List ℕ → Reading Context
behind_sequence sequence rest = then_read (number32 RC_INSUFFICIENT rest) (λ handle rest. behind_handle sequence handle rest)

handle_kept : (bytes : List ℕ) (sequence handle : ℕ) (rest : List ℕ) → 12 ≤ length bytes → handle ≡ from_be_bytes w32 (take 4 (drop 8 bytes))
    → Gives (HasHandle bytes) (behind_handle sequence handle rest)
handle_kept bytes sequence handle rest long is =
    let read : ℕ → List ℕ → List ℕ → Reading Context =
    λ hierarchy blob rest. Ok (record { sequence = sequence; saved_handle = handle; hierarchy = hierarchy; blob = blob }, rest) in
    gives_next (HasHandle bytes) (number32 RC_INSUFFICIENT rest) (λ hierarchy rest. then_read (sized RC_INSUFFICIENT rest) (read hierarchy)) (λ hierarchy rest.
    gives_next (HasHandle bytes) (sized RC_INSUFFICIENT rest) (read hierarchy) (λ blob rest. (long, is)))

handle_next : (bytes : List ℕ) (sequence : ℕ) → 8 ≤ length bytes → Gives (HasHandle bytes) (behind_sequence sequence (drop 8 bytes))
handle_next bytes sequence eight =
    cond_both (nat_lt (length (drop 8 bytes)) 4) (Err RC_INSUFFICIENT) (Ok (take 4 (drop 8 bytes), drop 4 (drop 8 bytes)))
    (λ (read : Reading (List ℕ)). Gives (HasHandle bytes) (then_read (then_read read (λ read rest. Ok (from_be_bytes w32 read, rest))) (behind_handle sequence)))
    (λ few. tt) (λ twelve.
    handle_kept bytes sequence (from_be_bytes w32 (take 4 (drop 8 bytes))) (drop 4 (drop 8 bytes))
    (omega (arith, eight, ltb-false (length (drop 8 bytes)) 4 twelve, length-drop 8 bytes)) refl)

pub handle_read : (bytes : List ℕ) → Gives (HasHandle bytes) (context_of bytes)
handle_read bytes =
    cond_both (nat_lt (length bytes) 8) (Err RC_INSUFFICIENT) (Ok (take 8 bytes, drop 8 bytes))
    (λ (read : Reading (List ℕ)). Gives (HasHandle bytes) (then_read (then_read read (λ read rest. Ok (from_be_bytes w64 read, rest))) behind_sequence))
    (λ few. tt) (λ eight. handle_next bytes (from_be_bytes w64 (take 8 bytes)) (ltb-false (length bytes) 8 eight))

conj_last : (whole fits same : Bool) (opened : Option Object) (o : Object) → (if whole && fits && same then opened else None) ≡ Some o → same ≡ true
conj_last true true true opened o is = refl
conj_last true true false opened o is = absurd cc
conj_last true false same opened o is = absurd cc
conj_last false fits same opened o is = absurd cc

-- an object's context has the savedHandle of one
object_handle : (seed bytes : List ℕ) (read : Reading Context) (o : Object) → Gives (HasHandle bytes) read → context_object seed bytes read ≡ Some o
    → (12 ≤ length bytes) × (from_be_bytes w32 (take 4 (drop 8 bytes)) ≡ TRANSIENT_FIRST)
object_handle seed bytes (Err code) o has is = absurd cc
object_handle seed bytes (Ok read) o has is =
    let same = conj_last (length read.1 == 0) (blob_fits read.0) (read.0.saved_handle == TRANSIENT_FIRST) (opened_object seed bytes) o is in
    (has.0, sym has.1 ∙ eqb-true read.0.saved_handle TRANSIENT_FIRST same)

saved_word : (context : List ℕ) → 12 ≤ length context → from_be_bytes w32 (take 4 (drop 8 context)) ≡ TRANSIENT_FIRST
    → word_at 18 (context_load_command context) ≡ Some TRANSIENT_FIRST
saved_word context long is =
    let all = context_load_command context in
    let enough : nat_lt (length all) 22 ≡ false = le-ltb (length all) 22 (omega (arith, long)) in
    rw enough (ap (λ (h : ℕ). Some h) is)

fits_by : (session : Bool) (saved octet : Bool) → session ≡ false → octet ≡ true → (if session then saved else octet) ≡ true
fits_by session saved octet none is = rw (none, is) refl

load_fits : (context : List ℕ) (number : ℕ) → word_at 18 (context_load_command context) ≡ Some TRANSIENT_FIRST → number ≤ 254
    → fits_handle true (context_load_command context) (TRANSIENT_FIRST + number) ≡ true
load_fits context number is few =
    let none : loads_session (context_load_command context) ≡ false = ap (is_word is_session_handle) is in
    fits_by (loads_session (context_load_command context)) _ (octet_of (TRANSIENT_FIRST + number) == HT_TRANSIENT) none (transient_octet number few)

pub load_taken : (slots : SlotState) (context : List ℕ) (o : Object) → IsSlots slots → slots.started ≡ true → length context ≤ 4086
    → list_any is_free slots.slots ≡ true → object_at slots None (Some context) ≡ Some o
    → takes PROFILE_CONTEXTS true true (context_load_command context) (slot_step slots (context_load_command context)).1 ≡ true
load_taken slots context o sound started small free is =
    let command = context_load_command context in
    let handle = TRANSIENT_FIRST + free_slot slots.slots in
    let last = response ST_NO_SESSIONS RC_SUCCESS (to_be_bytes w32 handle ++ []) in
    let few : free_slot slots.slots ≤ 254 = omega (arith, free_few slots.slots, sound.count, sound.range.slots_most) in
    let steps = object_load_step slots context o started small free is in
    let frame : is_frame last ≡ true = sym (ap (λ (step : Step). is_frame step.1) steps) ∙ step_replies slots command sound in
    let has = object_handle slots.persist.seed context (context_of context) o (handle_read context) is in
    ap (λ (step : Step). takes PROFILE_CONTEXTS true true command step.1) steps
    ∙ success_taken true true command last true frame refl refl refl
    (record {
      handled = ap (is_word (fits_handle true command)) (handle_of_response ST_NO_SESSIONS handle [] (omega (arith, few)))
          ∙ load_fits context (free_slot slots.slots) (saved_word context has.0 has.1) few;
      authorized = refl;
    })
    refl (no_list_asked command refl)
