-- What a transmission of a command of the broker's own leaves, and what its response tells.
use Rattle.std.proofs.Common.{◌≡◌, ◌+◌, ℕ, Bool, true, false, List, ◌∷◌, drop, refl, ap, subst, sym, ◌∙◌}
use Rattle.std.specs.Prelude.{◌==◌, ◌||◌, ◌&&◌, not, Option, Some, None, IfSome, Result, Ok, Err, is_ok, is_err, if◌then◌else◌}
use Rattle.std.proofs.lemmas.Bool.{eqb-true}
use Rattle.tab_spec.specs.declared.TheConstants.{CC_STARTUP, CC_START_AUTH_SESSION, CC_CONTEXT_SAVE, RC_INITIALIZE, RC_SUCCESS, ST_SESSIONS, HEADER_BYTES}
use Rattle.tab_spec.specs.Frame.{code_of, is_frame, reported_code, tag_of}
use Rattle.tab_spec.specs.Commands.{row_of}
use Rattle.tab_spec.specs.declared.contexts.ContextLimits.{ContextLimits}
use Rattle.tab_spec.specs.declared.contexts.TheConstants.{PROFILE_CONTEXTS}
use Rattle.device_spec.specs.Answers.{IsWrongAnswer, answer_area, fits_handle, has_response_handle, is_context, is_whole, is_word, word_at, is_error_form, is_own, is_success_form, lists_asked, may_refuse, takes, wrong}
use Rattle.device_spec.specs.Slots.{SlotState, slot_step}
use Rattle.device_port.specs.Device.{Answered, Transmission, newest_response}
use Rattle.device_port.specs.Own.{IsOwn, IsOwnAnswered, Succeeds}

-- ---- whether a response is taken

fits_by : (starts : Bool) (a b rest : Bool) → starts ≡ false → (if starts then a else rest) ≡ (if starts then b else rest)
fits_by true a b rest is = absurd cc
fits_by false a b rest is = refl

fits_either : (asked : List ℕ) (handle : ℕ) → (code_of asked == CC_START_AUTH_SESSION) ≡ false → fits_handle false asked handle ≡ fits_handle true asked handle
fits_either asked handle none = fits_by (code_of asked == CC_START_AUTH_SESSION) _ _ _ none

-- which numbers clients have doesn't matter where no session starts
pub takes_either : (contexts : ContextLimits) (asked last : List ℕ) → (code_of asked == CC_START_AUTH_SESSION) ≡ false
    → takes contexts true false asked last ≡ takes contexts true true asked last
takes_either contexts asked last none =
    let same : fits_handle false asked ≡ fits_handle true asked = λ i. λ handle. fits_either asked handle none i in
    let has_handle = has_response_handle (row_of (code_of asked)) in
    ap (λ (fits : ℕ → Bool).
    is_frame last
    && (if code_of last == RC_SUCCESS then
    lists_asked asked last
    && tag_of last == tag_of asked
    && (not has_handle || is_word fits (word_at HEADER_BYTES last))
    && (not (tag_of asked == ST_SESSIONS) || is_whole (answer_area (drop (if has_handle then HEADER_BYTES + 4 else HEADER_BYTES) last)))
    && (not (code_of asked == CC_CONTEXT_SAVE) || is_context contexts asked (drop HEADER_BYTES last))
    else is_error_form last && may_refuse contexts true asked (code_of last))) same

succeeds_by : (frame code form error own own_refuses refuses : Bool) → (frame && (if code then form else error && (if own then own_refuses else refuses))) ≡ true
    → own ≡ true → own_refuses ≡ false → (code ≡ true) × (form ≡ true)
succeeds_by false code form error own own_refuses refuses is own_is never = absurd cc
succeeds_by true true form error own own_refuses refuses is own_is never = (refl, is)
succeeds_by true false form error false own_refuses refuses is own_is never = absurd cc
succeeds_by true false form error true true refuses is own_is never = absurd cc
succeeds_by true false form false true false refuses is own_is never = absurd cc
succeeds_by true false form true true false refuses is own_is never = absurd cc

never_by : (startup refused : Bool) → startup ≡ false → (startup && refused) ≡ false
never_by true refused is = absurd cc
never_by false refused is = refl

-- a broker's own command succeeds, where its response is taken
pub succeeds : (contexts : ContextLimits) (asked last : List ℕ) → IsOwn contexts asked → takes contexts true true asked last ≡ true → Succeeds contexts asked last
succeeds contexts asked last own is =
    let parts = succeeds_by (is_frame last) (code_of last == RC_SUCCESS) (is_success_form contexts true asked last) (is_error_form last) (is_own contexts true asked)
    (code_of asked == CC_STARTUP && code_of last == RC_INITIALIZE) _ is own.own (never_by (code_of asked == CC_STARTUP) (code_of last == RC_INITIALIZE) own.later) in
    record { code = eqb-true (code_of last) RC_SUCCESS parts.0; form = parts.1 }

-- ---- what a transmission leaves

pub last_of : {E : Type 0} (sent : Result (Unit {0}) E) (last : Option (List ℕ)) (reply : List ℕ) → last ≡ (if is_ok sent then Some reply else None)
    → is_err sent ≡ false → last ≡ Some reply
last_of (Ok x) last reply is ok = is
last_of (Err e) last reply is ok = absurd cc

pub none_of : {E : Type 0} (sent : Result (Unit {0}) E) (last : Option (List ℕ)) (reply : List ℕ) → last ≡ (if is_ok sent then Some reply else None)
    → is_err sent ≡ true → last ≡ None
none_of (Ok x) last reply is failed = absurd cc
none_of (Err e) last reply is failed = is

-- the newest transmission, by the last response
pub sent_as : (command : List ℕ) (response : Option (List ℕ)) (trace old : List Transmission) → trace ≡ record { command = command; response = response } ∷ old
    → trace ≡ record { command = command; response = newest_response trace } ∷ old
sent_as command response trace old is =
    is ∙ ap (λ (last : Option (List ℕ)). record { command = command; response = last } ∷ old) (sym (ap newest_response is))

pub wrong_answer : (contexts : ContextLimits) (command asked : List ℕ) (last : Option (List ℕ)) (reply : List ℕ) (code : ℕ) → asked ≡ command → last ≡ Some reply
    → takes contexts true true command reply ≡ false → code ≡ reported_code reply → IsWrongAnswer contexts asked last code
wrong_answer contexts command asked last reply code asked_is last_is not_taken code_is = record {
  is_wrong = (λ i. wrong contexts (asked_is i) (last_is i)) ∙ ap not not_taken;
  response = reply;
  last_is = last_is;
  code_is = code_is;
}

pub answered : (contexts : ContextLimits) (command asked : List ℕ) (last : Option (List ℕ)) (reply : List ℕ) → IsOwn contexts command → asked ≡ command
    → last ≡ Some reply → takes contexts true true command reply ≡ true → IsOwnAnswered contexts asked last
answered contexts command asked last reply own asked_is last_is taken =
    subst (λ (o : Option (List ℕ)). IsOwnAnswered contexts asked o) (sym last_is) (
      ap (is_own contexts true) asked_is ∙ own.own,
      ap (λ (asked : List ℕ). takes contexts true true asked reply) asked_is ∙ taken,
    )

-- ---- a wrong answer

pub record Untold (state new_state : Option SlotState) : Type 0 where
  pub none : new_state ≡ None
  pub same : new_state ≡ state

-- no device that tells its state gives one, since it is of the profile
pub untold : (contexts : ContextLimits) (state new_state : Option SlotState) (asked last : List ℕ)
    → IfSome state (λ slots. takes PROFILE_CONTEXTS true true asked (slot_step slots asked).1 ≡ true) → IfSome state (λ slots. contexts ≡ PROFILE_CONTEXTS)
    → Answered state asked new_state last → takes contexts true true asked last ≡ false → Untold state new_state
untold contexts None new_state asked last told profile answered not = record { none = answered; same = answered }
untold contexts (Some slots) new_state asked last told profile answered not =
    let yes : takes contexts true true asked last ≡ true = (λ i. takes (profile i) true true asked (answered.1 i)) ∙ told in
    absurd cc
