-- A broker takes what a device answers to the commands by which the broker moves sessions.
use Rattle.std.proofs.Common.{◌≡◌, ◌+◌, ◌^◌, ◌<◌, ◌≤◌, ℕ, Bool, true, false, List, [], ◌++◌, length, take, drop, refl, ◌∙◌, sym, ap, subst, arith}
use Rattle.std.specs.Prelude.{Option, Some, None, IfSome, Result, Ok, Err, nat_le, nat_lt, ◌==◌, ◌&&◌, if◌then◌else◌}
use Rattle.std.specs.Int.{w32, from_be_bytes, to_be_bytes}
use Rattle.std.proofs.lemmas.Bool.{eq-eqb, eqb-true, le-leb, le-ltb, lt-leb}
use Rattle.std.proofs.lemmas.List.{append-nil}
use Rattle.tab_spec.specs.declared.TheConstants.{ST_NO_SESSIONS, CONTEXT_LIMIT, HT_TRANSIENT, RC_1, RC_CONTEXT_GAP, RC_FAILURE, RC_HANDLE, RC_P, RC_SUCCESS, RH_NULL}
use Rattle.tab_spec.specs.Admission.{is_session_handle}
use Rattle.tab_spec.specs.Frame.{is_frame}
use Rattle.tab_spec.specs.Reply.{response}
use Rattle.tab_spec.specs.Session.{Session, IsSession, session_bytes}
use Rattle.tab_spec.specs.Shape.{number_of_session, octet_of}
use Rattle.tab_spec.specs.Values.{Reading, sized_bytes}
use Rattle.tab_spec.specs.declared.contexts.TheConstants.{PROFILE_CONTEXTS}
use Rattle.tab_laws.proofs.ReadBack.{Gives}
use Rattle.tab_laws.proofs.Sessions.{session_small}
use Rattle.effect_spec.specs.Contexts.{Context, context_encrypted, context_integrity, context_of, opened_session, session_context, blob_fits}
use Rattle.device_spec.specs.Answers.{fits_handle, is_context_of, is_word, loads_session, takes, word_at}
use Rattle.device_spec.specs.ContextCommands.{context_load_command, context_save_command, flush_context_command}
use Rattle.device_spec.specs.Slots.{SlotState, SessionPlace, IsSlots, Step, saved, context_session, gap_of, is_active_with, loaded_count, loaded_session, place_of, inactive, session_at, session_in_place, slot_step, step_by, with_place}
use Rattle.device_laws.proofs.AnswerForms.{handle_of_response, no_list_asked, success_taken}
use Rattle.device_laws.proofs.FreshContexts.{place_saved}
use Rattle.device_laws.proofs.Moves.{HasHandle, context_reads, flushed_form, handle_read, saved_form}
use Rattle.device_laws.proofs.Replies.{step_replies}
use Rattle.device_laws.proofs.SessionContexts.{session_context_small}
use Rattle.device_laws.proofs.SessionSteps.{not_transient, session_flush_step, session_load_step, session_save_step}
use Rattle.device_laws.proofs.Standing.{IsLoadedAs, is_loaded_as}

-- ---- ContextSave

context_fits : (handle : ℕ) (context : List ℕ) (c : Context) → (octet_of handle == HT_TRANSIENT) ≡ false → (c.saved_handle == handle) ≡ true
    → length context ≤ 256 → is_context_of PROFILE_CONTEXTS handle context (Ok (c, [])) ≡ true
context_fits handle context c other is few = rw (other, is, le-leb (length context) 256 few) refl

session_context_fits : (handle : ℕ) (seed : List ℕ) (sequence : ℕ) (s : Session) → is_session_handle handle ≡ true → handle < 2 ^ 32 → sequence < 2 ^ 64
    → IsSession s → (let context = session_context seed handle sequence s in is_context_of PROFILE_CONTEXTS handle context (context_of context)) ≡ true
session_context_fits handle seed sequence s session handle_fits fits is =
    let context = session_context seed handle sequence s in
    let bytes = context_encrypted seed sequence handle (session_bytes s) in
    let blob = sized_bytes (context_integrity seed sequence handle RH_NULL bytes) ++ bytes in
    let few : length context ≤ 128 = session_context_small seed handle sequence s is in
    ap (is_context_of PROFILE_CONTEXTS handle context) (context_reads seed sequence handle RH_NULL (session_bytes s) fits handle_fits (omega arith) (omega (arith, session_small s is)))
    ∙ context_fits handle context (record { sequence = sequence; saved_handle = handle; hierarchy = RH_NULL; blob = blob }) (not_transient handle session)
    (eq-eqb handle handle refl) (omega (arith, few))

saved_by : (past wide : Bool) (slots : SlotState) (failed gap out : Result Step ℕ) → past ≡ false → wide ≡ false
    → step_by slots (if past then failed else if wide then gap else out) ≡ step_by slots out
saved_by past wide slots failed gap out past_is wide_is = rw (past_is, wide_is) refl

-- the state and the reply, where there are numbers left and the oldest context isn't too old
abbrev pub session_out : SlotState → ℕ → Session → Step
session_out slots handle s = (
  record (with_place slots (number_of_session handle) (saved (octet_of handle) slots.counter)) { counter = slots.counter + 1 },
  response ST_NO_SESSIONS RC_SUCCESS (session_context slots.persist.seed handle slots.counter s),
)

pub session_out_step : (slots : SlotState) (handle : ℕ) (s : Session) → slots.started ≡ true → handle < 2 ^ 32 → is_session_handle handle ≡ true
    → loaded_session slots handle ≡ Some s → slots.counter < CONTEXT_LIMIT → gap_of slots < slots.numbers.gap
    → slot_step slots (context_save_command handle) ≡ session_out slots handle s
session_out_step slots handle s started fits session there more narrow =
    session_save_step slots handle s started fits session there
    ∙ saved_by (nat_le CONTEXT_LIMIT slots.counter) (nat_le slots.numbers.gap (gap_of slots)) slots (Err RC_FAILURE) (Err RC_CONTEXT_GAP) (Ok (session_out slots handle s))
    (lt-leb CONTEXT_LIMIT slots.counter more) (lt-leb slots.numbers.gap (gap_of slots) narrow)

pub session_save_taken : (slots : SlotState) (handle : ℕ) (s : Session) → IsSlots slots → slots.started ≡ true → handle < 2 ^ 32
    → is_session_handle handle ≡ true → loaded_session slots handle ≡ Some s → slots.counter < CONTEXT_LIMIT → gap_of slots < slots.numbers.gap
    → takes PROFILE_CONTEXTS true true (context_save_command handle) (slot_step slots (context_save_command handle)).1 ≡ true
session_save_taken slots handle s sound started fits session there more narrow =
    let seed = slots.persist.seed in
    let is : IsLoadedAs slots.sessions handle s =
    subst (λ (found : Option Session). IfSome found (IsLoadedAs slots.sessions handle)) there (is_loaded_as slots handle sound) in
    ap (λ (step : Step). takes PROFILE_CONTEXTS true true (context_save_command handle) step.1) (session_out_step slots handle s started fits session there more narrow)
    ∙ saved_form handle (session_context seed handle slots.counter s) fits (omega (arith, session_context_small seed handle slots.counter s is.1.1))
    (session_context_fits handle seed slots.counter s session fits (omega (arith, more)) is.1.1)

-- ---- FlushContext

flushed_by : (active : Bool) (slots : SlotState) (gone other : Result Step ℕ) → active ≡ true → step_by slots (if active then gone else other) ≡ step_by slots gone
flushed_by active slots gone other is = rw is refl

-- the state and the reply, where there is a session, loaded or saved
abbrev pub session_gone : SlotState → ℕ → Step
session_gone slots handle = (with_place slots (number_of_session handle) inactive, response ST_NO_SESSIONS RC_SUCCESS [])

pub session_gone_step : (slots : SlotState) (handle : ℕ) → slots.started ≡ true → handle < 2 ^ 32 → is_session_handle handle ≡ true
    → is_active_with (octet_of handle) (place_of slots handle) ≡ true → slot_step slots (flush_context_command handle) ≡ session_gone slots handle
session_gone_step slots handle started fits session active =
    session_flush_step slots handle started fits session
    ∙ flushed_by (is_active_with (octet_of handle) (place_of slots handle)) slots (Ok (session_gone slots handle)) (Err (RC_HANDLE + RC_P + RC_1)) active

pub session_flush_taken : (slots : SlotState) (handle : ℕ) → slots.started ≡ true → handle < 2 ^ 32 → is_session_handle handle ≡ true
    → is_active_with (octet_of handle) (place_of slots handle) ≡ true
    → takes PROFILE_CONTEXTS true true (flush_context_command handle) (slot_step slots (flush_context_command handle)).1 ≡ true
session_flush_taken slots handle started fits session active =
    ap (λ (step : Step). takes PROFILE_CONTEXTS true true (flush_context_command handle) step.1) (session_gone_step slots handle started fits session active) ∙ flushed_form handle

-- ---- ContextLoad

same_handle : (whole fits same last : Bool) (opened : Option Session) (s : Session) → (if whole && fits && same && last then opened else None) ≡ Some s → same ≡ true
same_handle true true true last opened s is = refl
same_handle true true false last opened s is = absurd cc
same_handle true false same last opened s is = absurd cc
same_handle false fits same last opened s is = absurd cc

-- the context of a session has its handle as savedHandle
session_handle : (seed bytes : List ℕ) (handle number : ℕ) (read : Reading Context) (s : Session) → Gives (HasHandle bytes) read
    → context_session seed bytes handle number read ≡ Some s → (12 ≤ length bytes) × (from_be_bytes w32 (take 4 (drop 8 bytes)) ≡ handle)
session_handle seed bytes handle number (Err code) s has is = absurd cc
session_handle seed bytes handle number (Ok read) s has is =
    let same =
    same_handle (length read.1 == 0) (blob_fits read.0) (read.0.saved_handle == handle) (read.0.sequence == number) (opened_session seed bytes) s is in
    (has.0, sym has.1 ∙ eqb-true read.0.saved_handle handle same)

saved_word : (context : List ℕ) (handle : ℕ) → 12 ≤ length context → from_be_bytes w32 (take 4 (drop 8 context)) ≡ handle
    → word_at 18 (context_load_command context) ≡ Some handle
saved_word context handle long is =
    let all = context_load_command context in
    let enough : nat_lt (length all) 22 ≡ false = le-ltb (length all) 22 (omega (arith, long)) in
    rw enough (ap (λ (h : ℕ). Some h) is)

fits_by : (session same octet : Bool) → session ≡ true → same ≡ true → (if session then same else octet) ≡ true
fits_by session same octet so is = rw (so, is) refl

load_fits : (context : List ℕ) (handle : ℕ) → word_at 18 (context_load_command context) ≡ Some handle → is_session_handle handle ≡ true
    → fits_handle true (context_load_command context) handle ≡ true
load_fits context handle is session =
    let asked = context_load_command context in
    let so : loads_session asked ≡ true = ap (is_word is_session_handle) is ∙ session in
    fits_by (loads_session asked) (is_word (λ (h : ℕ). h == handle) (word_at 18 asked)) (octet_of handle == HT_TRANSIENT) so
    (ap (is_word (λ (h : ℕ). h == handle)) is ∙ eq-eqb handle handle refl)

pub session_load_taken : (slots : SlotState) (context : List ℕ) (handle number : ℕ) (s : Session) → IsSlots slots → slots.started ≡ true
    → length context ≤ 4086 → handle < 2 ^ 32 → is_session_handle handle ≡ true → place_of slots handle ≡ saved (octet_of handle) number
    → loaded_count slots.sessions < slots.numbers.loaded → session_at slots handle (Some context) ≡ Some s
    → takes PROFILE_CONTEXTS true true (context_load_command context) (slot_step slots (context_load_command context)).1 ≡ true
session_load_taken slots context handle number s sound started small fits session there room is =
    let seed = slots.persist.seed in
    let command = context_load_command context in
    let last = response ST_NO_SESSIONS RC_SUCCESS (to_be_bytes w32 handle) in
    let found : context_session seed context handle number (context_of context) ≡ Some s =
    sym (ap (λ (place : SessionPlace). session_in_place seed handle place (Some context)) there ∙ place_saved seed handle (octet_of handle) number (Some context) refl) ∙ is in
    let steps = session_load_step slots context handle number s started small session there room is in
    let frame : is_frame last ≡ true = sym (ap (λ (step : Step). is_frame step.1) steps) ∙ step_replies slots command sound in
    let has = session_handle seed context handle number (context_of context) s (handle_read context) found in
    let word : word_at 10 last ≡ Some handle =
    ap (λ (body : List ℕ). word_at 10 (response ST_NO_SESSIONS RC_SUCCESS body)) (sym (append-nil (to_be_bytes w32 handle)))
    ∙ handle_of_response ST_NO_SESSIONS handle [] fits in
    ap (λ (step : Step). takes PROFILE_CONTEXTS true true command step.1) steps
    ∙ success_taken true true command last true frame refl refl refl
    (record {
      handled = ap (is_word (fits_handle true command)) word ∙ load_fits context handle (saved_word context handle has.0 has.1) session;
      authorized = refl;
    })
    refl (no_list_asked command refl)
