-- Which responses are taken depends on what the broker holds: where it keeps less, and its clients have fewer sessions, more are.
use Rattle.std.proofs.Common.{◌≡◌, ◌+◌, ℕ, Bool, true, false, List, length, drop, refl, ap, sym, ◌∙◌}
use Rattle.std.specs.Prelude.{Option, Some, None, Result, Ok, Err, IfSome, is_err, is_ok, not, nat_lt, ◌==◌, ◌&&◌, ◌||◌, if◌then◌else◌}
use Rattle.tab_spec.specs.declared.TheConstants.{CC_CONTEXT_SAVE, CC_FLUSH_CONTEXT, CC_STARTUP, CC_START_AUTH_SESSION, HEADER_BYTES, HT_TRANSIENT, RC_INITIALIZE, RC_SUCCESS, SESSION_NUMBERS}
use Rattle.tab_spec.specs.Commands.{row_of}
use Rattle.tab_spec.specs.Frame.{code_of, is_frame, reported_code, tag_of}
use Rattle.tab_spec.specs.Session.{is_kind_number, kind_of, kind_octet}
use Rattle.tab_spec.specs.Shape.{number_of_session, octet_of}
use Rattle.tab_spec.specs.Values.{Reading}
use Rattle.tab_spec.specs.declared.contexts.ContextLimits.{ContextLimits}
use Rattle.tab_spec.specs.declared.contexts.TheConstants.{PROFILE_CONTEXTS}
use Rattle.device_spec.specs.Answers.{IsRight, IsWrongAnswer, asks_of_tables, fits_handle, has_response_handle, is_error_form, is_hidden, is_started_handle, is_success_form, is_word, lists_asked, loads_object, loads_session, may_refuse, saved_handle_place, session_type_of, takes, word_at, wrong, profile_takes}
use Rattle.device_spec.specs.Slots.{SlotState, slot_step}
use Rattle.device_port.specs.Device.{Answered}
use Rattle.std.proofs.lemmas.Bool.{le-ltb}
use Rattle.tab_laws.proofs.Cuts.{frame_long}
use Rattle.device_laws.proofs.AnswerForms.{takes_more}

-- ---- the handle of a response

not_taken : (kind octet number one other : Bool) → (other ≡ true → one ≡ true) → (kind && octet && number && not one) ≡ true
    → (kind && octet && number && not other) ≡ true
not_taken true true true false true more is = let so : true ≡ false = sym (more refl) in absurd cc
not_taken true true true false false more is = refl
not_taken true true true true other more is = absurd cc
not_taken true true false one other more is = absurd cc
not_taken true false number one other more is = absurd cc
not_taken false octet number one other more is = absurd cc

started_more : (one other : Bool) (read : Reading ℕ) (handle : ℕ) → (other ≡ true → one ≡ true) → is_started_handle one read handle ≡ true
    → is_started_handle other read handle ≡ true
started_more one other (Err code) handle more is = absurd cc
started_more one other (Ok read) handle more is =
    not_taken (is_kind_number read.0) (octet_of handle == kind_octet (kind_of read.0)) (nat_lt (number_of_session handle) SESSION_NUMBERS) one other more is

fits_by : (start first second plain : Bool) → (first ≡ true → second ≡ true) → (if start then first else plain) ≡ true
    → (if start then second else plain) ≡ true
fits_by true first second plain more is = more is
fits_by false first second plain more is = is

fits_more : (one other : Bool) (asked : List ℕ) (word : Option ℕ) → (other ≡ true → one ≡ true) → is_word (fits_handle one asked) word ≡ true
    → is_word (fits_handle other asked) word ≡ true
fits_more one other asked None more is = absurd cc
fits_more one other asked (Some handle) more is =
    let read = session_type_of (drop (HEADER_BYTES + 8) asked) in
    fits_by (code_of asked == CC_START_AUTH_SESSION) (is_started_handle one read handle) (is_started_handle other read handle)
    (if loads_session asked then is_word (λ saved. saved == handle) (word_at saved_handle_place asked) else octet_of handle == HT_TRANSIENT)
    (started_more one other read handle more) is

-- ---- the codes of errors

refuse_by : (before object one other tables refused plain : Bool) → (other ≡ true → one ≡ true) → (refused ≡ true → before ≡ true)
    → (if before || (object && one) || tables then refused else plain) ≡ true
    → (if before || (object && other) || tables then refused else plain) ≡ true
refuse_by true object one other tables refused plain more starts is = is
refuse_by false true true other tables refused plain more starts is = let so : false ≡ true = starts is in absurd cc
refuse_by false true false true tables refused plain more starts is = let so : false ≡ true = more refl in absurd cc
refuse_by false true false false tables refused plain more starts is = is
refuse_by false false one other tables refused plain more starts is = is

-- of a broker's own commands Startup alone may be refused
startup_before : (startup save flush session initialize : Bool) → (startup && initialize) ≡ true → (startup || save || flush || session) ≡ true
startup_before true save flush session initialize is = refl
startup_before false save flush session initialize is = absurd cc

refuse_more : (contexts : ContextLimits) (one other : Bool) (asked : List ℕ) (code : ℕ) → (other ≡ true → one ≡ true) → may_refuse contexts one asked code ≡ true → may_refuse contexts other asked code ≡ true
refuse_more contexts one other asked code more is =
    let startup = code_of asked == CC_STARTUP in
    let save = code_of asked == CC_CONTEXT_SAVE in
    let flush = code_of asked == CC_FLUSH_CONTEXT in
    refuse_by (startup || save || flush || loads_session asked) (loads_object contexts asked) one other (asks_of_tables asked) (startup && code == RC_INITIALIZE)
    (not (is_hidden code)) more (startup_before startup save flush (loads_session asked) (code == RC_INITIALIZE)) is

-- ---- the whole response

named_more : (named first second : Bool) → (first ≡ true → second ≡ true) → (not named || first) ≡ true → (not named || second) ≡ true
named_more true first second more is = more is
named_more false first second more is = refl

form_more : (headed handled other authorized saved : Bool) → (handled ≡ true → other ≡ true) → (headed && handled && authorized && saved) ≡ true
    → (headed && other && authorized && saved) ≡ true
form_more true true true true true more is = refl
form_more true true false true true more is = more refl
form_more true true other true false more is = absurd cc
form_more true true other false saved more is = absurd cc
form_more true false other authorized saved more is = absurd cc
form_more false handled other authorized saved more is = absurd cc

takes_by : (frame success good other form refuse second : Bool) → (good ≡ true → other ≡ true) → (refuse ≡ true → second ≡ true)
    → (frame && (if success then good else form && refuse)) ≡ true → (frame && (if success then other else form && second)) ≡ true
takes_by true true good other form refuse second more refuses is = more is
takes_by true false good other true refuse second more refuses is = refuses is
takes_by true false good other false refuse second more refuses is = absurd cc
takes_by false success good other form refuse second more refuses is = absurd cc

-- a response that is taken where the context is kept, and where a client has such a session, is taken where that isn't so
pub taken_more : (contexts : ContextLimits) (kept_one kept_other one other : Bool) (asked last : List ℕ) → (kept_other ≡ true → kept_one ≡ true) → (other ≡ true → one ≡ true)
    → takes contexts kept_one one asked last ≡ true → takes contexts kept_other other asked last ≡ true
taken_more contexts kept_one kept_other one other asked last kept more is =
    let has = has_response_handle (row_of (code_of asked)) in
    takes_by (is_frame last) (code_of last == RC_SUCCESS) _ _ (is_error_form last) (may_refuse contexts kept_one asked (code_of last)) (may_refuse contexts kept_other asked (code_of last))
    (form_more (lists_asked asked last && tag_of last == tag_of asked) (not has || is_word (fits_handle one asked) (word_at 10 last)) (not has || is_word (fits_handle other asked) (word_at 10 last)) _ _
    (named_more has (is_word (fits_handle one asked) (word_at 10 last)) (is_word (fits_handle other asked) (word_at 10 last)) (fits_more one other asked (word_at 10 last) more)))
    (refuse_more contexts kept_one kept_other asked (code_of last) kept) is

error_by : (frame success good other rest : Bool) → success ≡ false → (frame && (if success then good else rest)) ≡ true
    → (frame && (if success then other else rest)) ≡ true
error_by frame true good other rest failed is = absurd cc
error_by frame false good other rest failed is = is

-- an error tells no handle
pub error_taken_so : (contexts : ContextLimits) (kept one other : Bool) (asked last : List ℕ) → (code_of last == RC_SUCCESS) ≡ false → takes contexts kept one asked last ≡ true
    → takes contexts kept other asked last ≡ true
error_taken_so contexts kept one other asked last failed is = error_by (is_frame last) (code_of last == RC_SUCCESS) _ _ _ failed is

-- ---- a response that isn't taken

pub last_of : {A E : Type 0} (sent : Result A E) (last : Option (List ℕ)) (reply : List ℕ) → last ≡ (if is_ok sent then Some reply else None)
    → is_err sent ≡ false → last ≡ Some reply
last_of (Ok x) last reply is ok = is
last_of (Err e) last reply is ok = absurd cc

pub wrong_answer : {contexts : ContextLimits} (command asked : List ℕ) (last : Option (List ℕ)) (reply : List ℕ) (code : ℕ) → asked ≡ command → last ≡ Some reply
    → takes contexts true true command reply ≡ false → code ≡ reported_code reply → IsWrongAnswer contexts asked last code
wrong_answer {contexts = contexts} command asked last reply code asked_is last_is not_taken code_is = record {
  is_wrong = (λ i. wrong contexts (asked_is i) (last_is i)) ∙ ap not not_taken;
  response = reply;
  last_is = last_is;
  code_is = code_is;
}

none_by : (one other : Bool) → (one ≡ true → other ≡ true) → other ≡ false → one ≡ false
none_by true other more none = let so : true ≡ false = sym (more refl) ∙ none in absurd cc
none_by false other more none = refl

-- what one broker doesn't take, one that holds everything doesn't take
pub never_taken : (contexts : ContextLimits) (is_kept is_taken : Bool) (command reply : List ℕ) → takes contexts is_kept is_taken command reply ≡ false
    → takes contexts true true command reply ≡ false
never_taken contexts is_kept is_taken command reply refused =
    none_by (takes contexts true true command reply) (takes contexts is_kept is_taken command reply)
    (taken_more contexts true is_kept true is_taken command reply (λ so. refl) (λ so. refl)) refused

-- one that is taken is right, whatever the broker holds
pub taken_right : (contexts : ContextLimits) (is_kept is_taken : Bool) (command asked reply : List ℕ) (last : Option (List ℕ)) → takes contexts is_kept is_taken command reply ≡ true
    → asked ≡ command → last ≡ Some reply → IsRight contexts asked last
taken_right contexts is_kept is_taken command asked reply None taken asked_is last_is = tt
taken_right contexts is_kept is_taken command asked reply (Some other) taken asked_is last_is =
    let same : other ≡ reply = cc in
    (λ i. takes contexts false false (asked_is i) (same i)) ∙ takes_more contexts is_kept is_taken command reply taken

-- no device that tells its state gives a wrong answer, since it is of the profile
pub untold : (contexts : ContextLimits) (state new_state : Option SlotState) (is_kept : Bool) (number : List ℕ → Bool) (asked last : List ℕ)
    → IfSome state (λ slots. profile_takes is_kept (number (slot_step slots asked).1) asked (slot_step slots asked).1 ≡ true)
    → IfSome state (λ slots. contexts ≡ PROFILE_CONTEXTS)
    → Answered state asked new_state last → takes contexts is_kept (number last) asked last ≡ false → (new_state ≡ None) × (new_state ≡ state)
untold contexts None new_state is_kept number asked last told profile answered refused = (answered, answered)
untold contexts (Some slots) new_state is_kept number asked last told profile answered refused =
    let yes : takes contexts is_kept (number last) asked last ≡ true =
    (λ i. takes (profile i) is_kept (number (answered.1 i)) asked (answered.1 i)) ∙ told in
    absurd cc

-- ---- a context that is kept

-- a frame has a code
code_read : (last : List ℕ) → is_frame last ≡ true → reported_code last ≡ code_of last
code_read last frame = rw (le-ltb (length last) HEADER_BYTES (frame_long last frame)) refl

-- whether the context that a command loads is kept matters to a refusal alone
pub kept_or_refused : (contexts : ContextLimits) (kept is_taken : Bool) (asked last : List ℕ) (succeeds : Bool) → (reported_code last == RC_SUCCESS) ≡ succeeds
    → takes contexts (not succeeds && kept) is_taken asked last ≡ takes contexts kept is_taken asked last
kept_or_refused contexts kept is_taken asked last false is = refl
kept_or_refused contexts kept is_taken asked last true is =
    elim (is_frame last) as (λ b. is_frame last ≡ b
    → (b && (if code_of last == RC_SUCCESS then is_success_form contexts is_taken asked last else is_error_form last && may_refuse contexts false asked (code_of last)))
    ≡ (b && (if code_of last == RC_SUCCESS then is_success_form contexts is_taken asked last else is_error_form last && may_refuse contexts kept asked (code_of last)))) [
      | true ↦ λ frame. let code : (code_of last == RC_SUCCESS) ≡ true = ap (λ n. n == RC_SUCCESS) (sym (code_read last frame)) ∙ is in rw code refl
      | false ↦ λ frame. refl
    ] refl
