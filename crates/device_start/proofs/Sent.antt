-- What is sent at a start, step by step.
use Rattle.std.proofs.Common.{◌≡◌, ◌≤◌, ◌⊎◌, inl, inr, ℕ, true, false, List, [], ◌∷◌, ◌++◌, refl, ap, sym, ◌∙◌, subst, arith}
use Rattle.std.specs.Prelude.{Option, Some, None, Result, Ok, Err, IfErr, IsSomeAnd, ◌==◌}
use Rattle.std.proofs.lemmas.List.{append_assoc}
use Rattle.tab_spec.specs.Commands.{startup_command}
use Rattle.tab_spec.specs.declared.contexts.ContextLimits.{ContextLimits}
use Rattle.tab_spec.specs.declared.TheConstants.{CC_CONTEXT_LOAD, CC_CONTEXT_SAVE}
use Rattle.tab_spec.specs.Frame.{code_of}
use Rattle.tab_spec.specs.declared.contexts.TheConstants.{PROFILE_CONTEXTS}
use Rattle.device_spec.specs.Answers.{IsRight, profile_takes, takes}
use Rattle.device_spec.specs.ContextCommands.{flush_context_command}
use Rattle.device_spec.specs.Remains.{handles_command}
use Rattle.device_laws.proofs.AnswerForms.{takes_more, takes_of_any}
use Rattle.device_port.specs.Device.{Seen, Transmission, asked_of, last_of, newest_command, newest_response}
use Rattle.device_port.specs.Own.{Asks, IsOwnAnswered, SendsOwn}
use Rattle.device_port.specs.declared.own.SwapError.{SwapError}
use Rattle.device_port.proofs.Sending.{are_own}
use Rattle.device_start.specs.Start.{Attempts, Finds, Flushes, HoldsNoMoreIf, SendsOne, SendsStart, answered}

-- what an answer tells of the command and the response, where the device saves and loads no context
pub taken_as : (contexts : ContextLimits) (asked : List ℕ) (last : Option (List ℕ)) (command response : List ℕ) → asked ≡ command → last ≡ Some response → IsOwnAnswered contexts asked last
    → (code_of command == CC_CONTEXT_SAVE) ≡ false → (code_of command == CC_CONTEXT_LOAD) ≡ false → profile_takes true true command response ≡ true
taken_as contexts asked last command response asked_is last_is answered save load =
    sym (takes_of_any contexts true true command response save load)
    ∙ ap (λ (bytes : List ℕ). takes contexts true true bytes response) (sym asked_is)
    ∙ subst (λ (o : Option (List ℕ)). IsSomeAnd o (λ reply. takes contexts true true asked reply ≡ true)) last_is answered.1

-- a response that is there
pub some_of : {X : Type 0} (o : Option X) {P : X → Type 0} → IsSomeAnd o P → (x : X) × (o ≡ Some x) × P x
some_of None is = absurd is
some_of (Some x) is = (x, refl, is)

-- the one transmission, by the response that came
pub answered_one : (command response : List ℕ) (last : Option (List ℕ)) (new old : List Transmission) → new ≡ record { command = command; response = last } ∷ old
    → last ≡ Some response → new ≡ answered command response ∷ old
answered_one command response last new old one is = one ∙ ap (λ (o : Option (List ℕ)). record { command = command; response = o } ∷ old) is

-- ---- flushes

pub flushes_then : (first second : List ℕ) (old mid new : List Transmission) → Flushes first old mid → Flushes second mid new
    → Flushes (first ++ second) old new
flushes_then [] second old mid new is more = subst (λ (t : List Transmission). Flushes second t new) is more
flushes_then (handle ∷ first) second old mid new (response, taken, one) more =
    (response, taken, flushes_then first second _ mid new one more)

-- a flush that succeeded, and those behind it
pub flush_more : {contexts : ContextLimits} {D : Type 0} (seen : D → Seen) (old new : D) (response : List ℕ) (handle : ℕ) (rest : List ℕ) (last : List Transmission) {command : List ℕ}
    → command ≡ flush_context_command handle → Asks {A = Unit {0}} contexts seen old new command (Ok tt) → last_of (seen new) ≡ Some response
    → Flushes rest (seen new).trace last → Flushes (handle ∷ rest) (seen old).trace last
flush_more {contexts = contexts} seen old new response handle rest last {command = command} is asks last_is more =
    let sent : (seen new).trace ≡ answered (flush_context_command handle) response ∷ (seen old).trace =
    asks.one ∙ ap (λ (o : Option (List ℕ)). record { command = command; response = o } ∷ (seen old).trace) last_is
    ∙ ap (λ (bytes : List ℕ). answered bytes response ∷ (seen old).trace) is in (
      response,
      taken_as contexts (asked_of (seen new)) (last_of (seen new)) (flush_context_command handle) response (asks.asked ∙ is) last_is asks.answered refl refl,
      subst (λ (trace : List Transmission). Flushes rest trace last) sent more,
    )

-- ---- commands behind Startup

pub sends_more : {contexts : ContextLimits} {D : Type 0} (seen : D → Seen) (old : List Transmission) (mid new : D) → SendsStart contexts old (seen mid).trace → SendsOwn contexts seen mid new
    → SendsStart contexts old (seen new).trace
sends_more {contexts = contexts} seen old mid new start own = record {
  startup = start.startup;
  later = own.sent ++ start.later;
  trace_is = own.trace_is ∙ ap (λ (trace : List Transmission). own.sent ++ trace) start.trace_is
      ∙ sym (append_assoc own.sent start.later (record { command = startup_command; response = start.startup } ∷ old));
  own = are_own contexts own.sent start.later own.own start.own;
}

-- ---- what calls leave

-- Startup alone was sent
pub startup_attempts : {contexts : ContextLimits} {D A : Type 0} (seen : D → Seen) (old new : D) (result : Result A SwapError) → SendsOne contexts seen old new startup_command result
    → HoldsNoMoreIf (seen old).state (seen new).state → Attempts contexts seen old new
startup_attempts seen old new result sends few = record {
  few = few;
  sent = record { startup = last_of (seen new); later = []; trace_is = sends.one; own = tt };
  base = sends.base;
  count = sends.count;
}

-- and then commands of the broker's own
pub attempts_then : {contexts : ContextLimits} {D : Type 0} (seen : D → Seen) (old mid new : D) → Attempts contexts seen old mid → SendsOwn contexts seen mid new → (seen new).base ≡ (seen mid).base
    → (seen mid).faults ≤ (seen new).faults → HoldsNoMoreIf (seen old).state (seen new).state → Attempts contexts seen old new
attempts_then seen old mid new first own base count few = record {
  few = few;
  sent = sends_more seen (seen old).trace mid new first.sent own;
  base = base ∙ first.base;
  count = omega (arith, first.count, count);
}

-- what is so of the error of a call is so of the result that it is carried into
pub err_carried : {A E : Type 0} (P : E → Type 0) (e : E) (result : Result A E) → (f : E) × (result ≡ Err f) × (f ≡ e) → P e → IfErr result P
err_carried P e result (f, is, same) holds = subst (λ (r : Result _ _). IfErr r P) (sym is) (subst P (sym same) holds)

-- ---- the last response

right_answered : (contexts : ContextLimits) (asked : List ℕ) (last : Option (List ℕ)) → IsOwnAnswered contexts asked last → IsRight contexts asked last
right_answered contexts asked None answered = tt
right_answered contexts asked (Some last) answered = takes_more contexts true true asked last answered.1

right_found : (contexts : ContextLimits) (asked : List ℕ) (last : Option (List ℕ)) (saved : List ℕ) → asked ≡ handles_command 0x03000000 → last ≡ Some saved
    → profile_takes true true (handles_command 0x03000000) saved ≡ true → IsRight contexts asked last
right_found contexts asked last saved asked_is last_is taken =
    subst (IsRight contexts asked) (sym last_is)
    (ap (λ (bytes : List ℕ). takes contexts false false bytes saved) asked_is ∙ takes_of_any contexts false false (handles_command 0x03000000) saved refl refl
    ∙ takes_more PROFILE_CONTEXTS true true (handles_command 0x03000000) saved taken)

-- it is that of the last flush, or of the last list where nothing was flushed
pub right_end : {D : Type 0} (contexts : ContextLimits) (seen : D → Seen) (old : List Transmission) (mid new : D) (objects loaded saved : List ℕ) → Finds old (seen mid).trace objects loaded saved
    → (new ≡ mid) ⊎ IsOwnAnswered contexts (asked_of (seen new)) (last_of (seen new)) → IsRight contexts (asked_of (seen new)) (last_of (seen new))
right_end {D = D} contexts seen old mid new objects loaded saved finds (inl same) =
    subst (λ (device : D). IsRight contexts (asked_of (seen device)) (last_of (seen device))) (sym same)
    (right_found contexts (asked_of (seen mid)) (last_of (seen mid)) saved (ap newest_command finds.trace_is) (ap newest_response finds.trace_is) finds.saved_taken)
right_end contexts seen old mid new objects loaded saved finds (inr answered) = right_answered contexts (asked_of (seen new)) (last_of (seen new)) answered
