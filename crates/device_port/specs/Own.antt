-- Commands of the broker's own: what they are, what answers them, and why a call over the device failed.
use Rattle.std.specs.Prelude.{◌≡◌, ◌≤◌, ◌⊎◌, ◌==◌, [], ◌∷◌, ◌++◌, ℕ, true, false, List, Option, None, IsSomeAnd, Result, OnOk, OnErr, IfErr}
use Rattle.std.specs.List.{AllByRecursion}
use Rattle.tab_spec.specs.declared.TheConstants.{CC_STARTUP, CC_START_AUTH_SESSION, RC_SUCCESS}
use Rattle.tab_spec.specs.Count.{Rose, one_more}
use Rattle.tab_spec.specs.Frame.{code_of, is_frame}
use Rattle.tab_spec.specs.declared.contexts.ContextLimits.{ContextLimits}
use Rattle.device_spec.specs.Answers.{IsWrongAnswer, is_own, is_success_form, takes}
use Rattle.device_port.specs.Device.{Seen, Transmission, asked_of, last_of, sent_of}
use Rattle.device_port.specs.declared.own.SwapError.{SwapError}
use Rattle.device_port.specs.declared.own.SwapError.TheVariants as errors

-- a command of the broker's own, which a device with these contexts has no reason to refuse
pub record IsOwn (contexts : ContextLimits) (asked : List ℕ) : Type 0 where
  pub frame : is_frame asked ≡ true
  pub own : is_own contexts true asked ≡ true
  pub later : (code_of asked == CC_STARTUP) ≡ false
  pub starts_none : (code_of asked == CC_START_AUTH_SESSION) ≡ false

-- the last command was the broker's own, it was answered, and the response is taken
abbrev pub IsOwnAnswered : ContextLimits → List ℕ → Option (List ℕ) → Type 0
IsOwnAnswered contexts asked last =
    (is_own contexts true asked ≡ true) × IsSomeAnd last (λ response. takes contexts true true asked response ≡ true)

-- a response with which the command succeeded
pub record Succeeds (contexts : ContextLimits) (asked last : List ℕ) : Type 0 where
  pub code : code_of last ≡ RC_SUCCESS
  pub form : is_success_form contexts true asked last ≡ true

-- why a call failed: a transmission did, or its response is a wrong answer, which no device that
-- shows its state gives
abbrev pub HasCause : {D : Type 0} (contexts : ContextLimits) (seen : D → Seen) → SwapError → (old new : D) → Type 0
HasCause contexts seen (errors.Failed failed) old new = Rose (seen old).faults (seen new).faults × (last_of (seen new) ≡ None)
HasCause contexts seen (errors.Answer code) old new =
    IsWrongAnswer contexts (asked_of (seen new)) (last_of (seen new)) code × ((seen new).state ≡ None)

-- each command that was sent is one of the broker's own: these came to the trace, the newest first
pub record SendsOwn {D : Type 0} (contexts : ContextLimits) (seen : D → Seen) (old new : D) : Type 0 where
  pub sent : List Transmission
  pub trace_is : (seen new).trace ≡ sent ++ (seen old).trace
  pub own : AllByRecursion (λ one. IsOwn contexts one.command) sent

-- a command of the broker's own that was answered, and the response was taken
abbrev pub WasTaken : ContextLimits → Transmission → Type 0
WasTaken contexts one = IsOwnAnswered contexts one.command one.response

-- each of these was but the newest, at which the call ended
abbrev pub EndAtNewest : ContextLimits → List Transmission → Type 0
EndAtNewest contexts [] = ⊥
EndAtNewest contexts (newest ∷ earlier) = AllByRecursion (WasTaken contexts) earlier

-- what holds after a call that sends one command of the broker's own: it was sent once. After a success it was answered; after an
-- error the device is in its state
pub record Asks {D A : Type 0} (contexts : ContextLimits) (seen : D → Seen) (old new : D) (command : List ℕ) (result : Result A SwapError) : Type 0 where
  pub asked : asked_of (seen new) ≡ command
  pub once : sent_of (seen new) ≡ one_more (sent_of (seen old))
  pub one : (seen new).trace ≡ record { command = command; response = last_of (seen new) } ∷ (seen old).trace
  pub own : IsOwn contexts command
  pub answered : OnOk result (IsOwnAnswered contexts (asked_of (seen new)) (last_of (seen new)))
  pub err : OnErr result ((seen new).state ≡ (seen old).state)
  pub cause : IfErr result (λ e. HasCause contexts seen e old new)
  pub base : (seen new).base ≡ (seen old).base
  pub count : (seen old).faults ≤ (seen new).faults

-- what holds after a call that sends one, several or none of them: after a success the last one was answered
pub record AsksSome {D A : Type 0} (contexts : ContextLimits) (seen : D → Seen) (old new : D) (result : Result A SwapError) : Type 0 where
  pub own : SendsOwn contexts seen old new
  pub answered : OnOk result ((new ≡ old) ⊎ IsOwnAnswered contexts (asked_of (seen new)) (last_of (seen new)))
  -- and each before it: the first that isn't ends the call, and isn't tried again
  pub all : OnOk result (AllByRecursion (WasTaken contexts) own.sent)
  pub before : OnErr result (EndAtNewest contexts own.sent)
  pub cause : IfErr result (λ e. HasCause contexts seen e old new)
  pub base : (seen new).base ≡ (seen old).base
  pub count : (seen old).faults ≤ (seen new).faults
