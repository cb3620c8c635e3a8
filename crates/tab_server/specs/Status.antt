-- The status that a run ends with and its detail, and what each status means.
use Rattle.std.specs.Prelude.{◌≡◌, ◌⊎◌, ◌==◌, ◌+◌, ℕ, IsTrue, true, List, [], ◌∷◌, Option, None, Some, IfSome, IsSomeAnd, if◌then◌else◌}
use Rattle.std.specs.List.{list_any}
use Rattle.tab_spec.specs.Count.{Rose}
use Rattle.tab_spec.specs.Numbers.{AreInRange}
use Rattle.tab_spec.specs.declared.contexts.ContextLimits.{ContextLimits}
use Rattle.device_spec.specs.Slots.{SlotState}
use Rattle.device_spec.specs.Answers.{IsWrongAnswer, profile_takes as takes, value_told}
use Rattle.device_spec.specs.Numbers.{IsOutOfRange, number_command}
use Rattle.device_port.specs.Device.{Seen, last_of}
use Rattle.device_start.specs.Start.{HoldsNoMoreIf, StopsAtNumber, StopsUnanswered}
use Rattle.broker_core.specs.Broker.{LackedMemory}
use Rattle.script_spec.specs.declared.TheConstants.{SCRIPT_BYTES}
use Rattle.script_spec.specs.Script.{ScriptEnding, end, bad_line}
use Rattle.script_player.specs.declared.stop.Stop.{Stop}
use Rattle.script_player.specs.declared.stop.Stop.TheVariants as stops
use Rattle.script_player.specs.Play.{IsPulledUpTo}
use Rattle.tab_server.specs.declared.status.TheConstants.{BAD_LINE, DONE, INPUT_FAILED, JOURNAL_FULL, NO_MEMORY}
use Rattle.tab_server.specs.declared.status.TheConstants.{OUTPUT_FAILED, OUT_OF_RANGE, REFUSED, START_FAILED, WRONG_ANSWER}
use Rattle.tab_server.specs.declared.cause.Cause.{Cause}
use Rattle.tab_server.specs.declared.cause.Cause.TheVariants as causes

-- ---- why a run ended

-- by why its script was played no further, and the code of a wrong answer, where one came. One that came in the closes afterwards
-- takes the place of the end alone
abbrev pub cause_of : Stop → Option ℕ → Cause
cause_of stops.End None = causes.End
cause_of stops.End (Some code) = causes.Answer code
cause_of (stops.BadLine number) wrong = causes.BadLine number
cause_of stops.Memory wrong = causes.Memory
cause_of (stops.Full count) wrong = causes.Full count
cause_of (stops.Output count) wrong = causes.Output count
cause_of (stops.Input count) wrong = causes.Input count
cause_of stops.Answer None = causes.Answer 0
cause_of stops.Answer (Some code) = causes.Answer code

abbrev pub status_of : Cause → ℕ
status_of causes.End = DONE
status_of (causes.BadLine number) = BAD_LINE
status_of causes.Memory = NO_MEMORY
status_of (causes.Full count) = JOURNAL_FULL
status_of (causes.Output count) = OUTPUT_FAILED
status_of (causes.Input count) = INPUT_FAILED
status_of (causes.Answer code) = WRONG_ANSWER

abbrev pub detail_of : Cause → ℕ
detail_of causes.End = 0
detail_of (causes.BadLine number) = number
detail_of causes.Memory = 0
detail_of (causes.Full count) = count
detail_of (causes.Output count) = count
detail_of (causes.Input count) = count
detail_of (causes.Answer code) = code

-- the statuses at which there may be no broker
abbrev pub IsOfStart : ℕ → Type 0
IsOfStart status = IsTrue (list_any (λ n. n == status) (REFUSED ∷ NO_MEMORY ∷ START_FAILED ∷ WRONG_ANSWER ∷ OUT_OF_RANGE ∷ []))

-- ---- what a status means

-- how many bytes are pulled of an input, at most: one more than a script may have, but not where a read failed
abbrev pub pulled_at : ℕ → ℕ
pulled_at status = if status == INPUT_FAILED then SCRIPT_BYTES else SCRIPT_BYTES + 1

abbrev pub IsPulledByStatus : ℕ → Option (List ℕ) → Option (List ℕ) → Type 0
IsPulledByStatus status given left = IsPulledUpTo (pulled_at status) given left

-- how the script ended, by the status
pub record IsToldByStatus (ending : ScriptEnding) (status detail : ℕ) : Type 0 where
  pub at_the_end : status ≡ DONE → ending ≡ end
  pub at_a_bad_line : status ≡ BAD_LINE → ending ≡ bad_line detail

-- the counts of faults, of the device, the input and the output
pub record Faults : Type 0 where
  pub device : ℕ
  pub input : ℕ
  pub output : ℕ

-- the last command asked for this property, and the response has a value of it that is out of range
pub record IsNumberOut (property : ℕ) (asked : List ℕ) (last : Option (List ℕ)) (state : Option SlotState) : Type 0 where
  pub value : ℕ
  pub out : IsOutOfRange property value
  pub asked_is : asked ≡ number_command property
  pub told : IsSomeAnd last (λ response. (takes true true asked response ≡ true) × (value_told response ≡ value))
  -- a device that shows its state has a number that is out of range
  pub own : IfSome state (λ slots. AreInRange slots.numbers → ⊥)

-- each status that comes of a fault, a wrong answer or a number comes only where there was one, and there is no other status than these.
-- Where the audit text can't be written, status 4 comes in place of any other: what a run leaves says whether a read failed then
pub record HasStatusCause (contexts : ContextLimits) (status detail : ℕ) (before after : Faults) (asked : List ℕ) (last : Option (List ℕ)) (state : Option SlotState) : Type 0 where
  pub known : IsTrue (list_any (λ n. n == status)
      (DONE ∷ OUTPUT_FAILED ∷ NO_MEMORY ∷ START_FAILED ∷ WRONG_ANSWER ∷ BAD_LINE ∷ INPUT_FAILED ∷ JOURNAL_FULL ∷ OUT_OF_RANGE ∷ []))
  pub plain : (status ≡ DONE) ⊎ (status ≡ NO_MEMORY) → detail ≡ 0
  pub output : status ≡ OUTPUT_FAILED → Rose before.output after.output × (detail ≡ after.output)
  pub quiet : (status ≡ OUTPUT_FAILED → ⊥) → after.output ≡ before.output
  pub input_quiet : (status ≡ INPUT_FAILED → ⊥) → (status ≡ OUTPUT_FAILED → ⊥) → after.input ≡ before.input
  pub start : status ≡ START_FAILED → Rose before.device after.device × (detail ≡ after.device)
  pub answer : status ≡ WRONG_ANSWER → IsWrongAnswer contexts asked last detail × (state ≡ None)
  pub numbers : status ≡ OUT_OF_RANGE → IsNumberOut detail asked last state
  pub input : status ≡ INPUT_FAILED → Rose before.input after.input × (detail ≡ after.input)

-- How far a start came that left no broker, by the status. Each number that the device reported
-- before the last command is in range. At 11 the one that it reported last isn't, and nothing was
-- sent after it.
pub record EndsStart {D : Type 0} (contexts : ContextLimits) (seen : D → Seen) (status detail : ℕ) (old new : D) : Type 0 where
  pub of_start : IsOfStart status
  pub memory : status ≡ NO_MEMORY → (new ≡ old) ⊎ LackedMemory (seen old) (seen new)
  pub unanswered : (status ≡ START_FAILED) ⊎ (status ≡ WRONG_ANSWER) → StopsUnanswered contexts (seen old).trace (seen new).trace
  -- no response came to the last command
  pub failed : status ≡ START_FAILED → last_of (seen new) ≡ None
  pub number : status ≡ OUT_OF_RANGE → (value : ℕ) × StopsAtNumber (seen old).trace (seen new).trace detail value
  pub few : HoldsNoMoreIf (seen old).state (seen new).state
