-- What a start leaves of a device, and what it sent.
use Rattle.std.specs.Prelude.{◌≡◌, ◌<◌, ◌≤◌, ◌⊎◌, ◌*◌, ◌+◌, ◌^◌, ◌||◌, nat_lt, ℕ, true, List, [], ◌∷◌, ◌++◌, length, take, drop, get_or, Option, Some, IfSome, IsSomeAnd, Result, Err, OnOk, OnErr, IfErr}
use Rattle.std.specs.List.{AllByRecursion}
use Rattle.std.specs.Int.{w32, from_be_bytes}
use Rattle.tab_spec.specs.declared.numbers.Numbers.{Numbers}
use Rattle.tab_spec.specs.Numbers.{AreInRange}
use Rattle.tab_spec.specs.Commands.{startup_command}
use Rattle.tab_spec.specs.declared.contexts.ContextLimits.{ContextLimits}
use Rattle.device_spec.specs.Answers.{count_place, list_place, listed_handles, profile_takes as takes, value_told}
use Rattle.device_spec.specs.ContextCommands.{flush_context_command}
use Rattle.device_spec.specs.Numbers.{FitWords, IsOutOfRange, are_in, number_command, number_properties, values_of}
use Rattle.device_spec.specs.Remains.{emptied, handles_command, remains}
use Rattle.device_spec.specs.Slots.{HoldsNothing, IsSlots, SlotState, held, slot_step}
use Rattle.device_port.specs.Device.{Answered, Seen, Transmission, last_of}
use Rattle.device_port.specs.Own.{Asks, EndAtNewest, HasCause, IsOwn}
use Rattle.device_port.specs.declared.own.SwapError.{SwapError}
use Rattle.device_start.specs.declared.starting.StartError.{StartError}
use Rattle.device_start.specs.declared.starting.StartError.TheVariants as errors

-- ---- what is sent

-- a command that was answered so
abbrev pub answered : List ℕ → List ℕ → Transmission
answered command response = record { command = command; response = Some response }

-- What has these handles was flushed, one after the other, and each response was taken: from the one trace to the other. The newest
-- transmission stands first.
abbrev pub Flushes : List ℕ → List Transmission → List Transmission → Type 0
Flushes [] old new = new ≡ old
Flushes (handle ∷ handles) old new =
    (response : List ℕ) × (takes true true (flush_context_command handle) response ≡ true)
    × Flushes handles (answered (flush_context_command handle) response ∷ old) new

-- These properties were asked for, one after the other, as many as there are values, each response was taken and has its value:
-- from the one trace to the other
abbrev pub TellsProperties : (properties values : List ℕ) → List Transmission → List Transmission
    → Type 0
TellsProperties properties [] old new = new ≡ old
TellsProperties [] (value ∷ values) old new = ⊥
TellsProperties (property ∷ properties) (value ∷ values) old new =
    (response : List ℕ) × (takes true true (number_command property) response ≡ true) × (value_told response ≡ value)
    × TellsProperties properties values (answered (number_command property) response ∷ old) new

-- Startup was sent, the device was asked for its numbers and for its three lists, and then each handle that these have was
-- flushed. All responses were taken.
pub record IsStarted (old new : List Transmission) (numbers : Numbers) : Type 0 where
  pub startup : List ℕ
  -- the trace when the numbers had come
  pub asked : List Transmission
  pub objects : List ℕ
  pub loaded : List ℕ
  pub saved : List ℕ
  pub startup_taken : takes true true startup_command startup ≡ true
  pub told : TellsProperties number_properties (values_of numbers) (answered startup_command startup ∷ old) asked
  pub objects_taken : takes true true (handles_command 0x80000000) objects ≡ true
  pub loaded_taken : takes true true (handles_command 0x02000000) loaded ≡ true
  pub saved_taken : takes true true (handles_command 0x03000000) saved ≡ true
  pub flushed : Flushes (listed_handles objects ++ listed_handles loaded ++ listed_handles saved)
      (answered (handles_command 0x03000000) saved ∷ answered (handles_command 0x02000000) loaded
      ∷ answered (handles_command 0x80000000) objects ∷ asked) new

-- Startup was sent, and after it nothing but commands of the broker's own
pub record SendsStart (contexts : ContextLimits) (old new : List Transmission) : Type 0 where
  pub startup : Option (List ℕ)
  pub later : List Transmission
  pub trace_is : new ≡ later ++ record { command = startup_command; response = startup } ∷ old
  pub own : AllByRecursion (λ one. IsOwn contexts one.command) later

-- what holds after a call that sends one command: after an error the device is in its state
pub record SendsOne {D A : Type 0} (contexts : ContextLimits) (seen : D → Seen) (old new : D) (command : List ℕ) (result : Result A SwapError) : Type 0 where
  pub one : (seen new).trace ≡ record { command = command; response = last_of (seen new) } ∷ (seen old).trace
  pub taken : OnOk result (IsSomeAnd (last_of (seen new)) (λ response. takes true true command response ≡ true))
  pub err : OnErr result ((seen new).state ≡ (seen old).state)
  pub cause : IfErr result (λ e. HasCause contexts seen e old new)
  pub base : (seen new).base ≡ (seen old).base
  pub count : (seen old).faults ≤ (seen new).faults

-- ---- what the device holds

-- a started device that holds what has these handles, in the order in which it lists them, and is otherwise as the first one
pub record HoldsHandles (first : SlotState) (handles : List ℕ) (slots : SlotState) : Type 0 where
  pub sound : IsSlots slots
  pub started : slots.started ≡ true
  pub remains_are : remains slots ≡ handles
  pub same : emptied slots ≡ emptied first

-- the same, where the device tells its state
abbrev pub HoldsIf : SlotState → List ℕ → Option SlotState → Type 0
HoldsIf first handles state =
    (slots : SlotState) × (state ≡ Some slots) × HoldsHandles first handles slots

-- a list that fills its response
pub record IsList (list : List ℕ) : Type 0 where
  pub whole : length list ≡ list_place + 4 * from_be_bytes w32 (take 4 (drop count_place list))
  pub few : length list ≤ 4096

-- with nothing in it, and started
abbrev pub cleared : SlotState → SlotState
cleared slots = record (emptied slots) { started = true }

-- the device is started and holds nothing; what else it was is as before
pub record IsCleared (old new : SlotState) : Type 0 where
  pub sound : IsSlots new
  pub started : new.started ≡ true
  pub empty : HoldsNothing new
  pub kept : cleared new ≡ cleared old

-- the device holds no more than it did; what else it was, but whether it is started, is as before
pub record HoldsNoMore (old new : SlotState) : Type 0 where
  pub few : held new ≤ held old
  pub kept : cleared new ≡ cleared old

-- a device that is as it was, but started
abbrev pub running : SlotState → SlotState
running slots = record slots { started = true }

abbrev pub Runs : Option SlotState → Option SlotState → Type 0
Runs old new = (slots : SlotState) → old ≡ Some slots → new ≡ Some (running slots)

-- both where the device tells its state
abbrev pub ClearedIf : Option SlotState → Option SlotState → Type 0
ClearedIf old new = (slots : SlotState) → old ≡ Some slots → (after : SlotState) × (new ≡ Some after) × IsCleared slots after

abbrev pub HoldsNoMoreIf : Option SlotState → Option SlotState → Type 0
HoldsNoMoreIf old new = (slots : SlotState) → old ≡ Some slots → (after : SlotState) × (new ≡ Some after) × HoldsNoMore slots after

-- what each call of a start leaves of a device, also one that failed
pub record Attempts {D : Type 0} (contexts : ContextLimits) (seen : D → Seen) (old new : D) : Type 0 where
  pub few : HoldsNoMoreIf (seen old).state (seen new).state
  pub sent : SendsStart contexts (seen old).trace (seen new).trace
  pub base : (seen new).base ≡ (seen old).base
  pub count : (seen old).faults ≤ (seen new).faults

-- a device that may be started: what it tells of its numbers fits, and it is sound where they are in range
pub record IsStartable (slots : SlotState) : Type 0 where
  pub fit : FitWords slots.numbers
  pub sound : AreInRange slots.numbers → IsSlots slots

-- Startup was sent, and the device was asked for its numbers in order, up to the first one that is out of range: this property,
-- with this value. All responses were taken, and nothing was sent after that one.
pub record StopsAtNumber (old new : List Transmission) (property value : ℕ) : Type 0 where
  pub startup : List ℕ
  pub startup_taken : takes true true startup_command startup ≡ true
  pub out : IsOutOfRange property value
  pub told : TellsProperties number_properties (out.before ++ value ∷ []) (answered startup_command startup ∷ old) new

-- behind these values one command was sent: it asks for the next number
abbrev pub AsksNextNumber : List ℕ → List Transmission → Type 0
AsksNextNumber values later =
    (length values < 4)
    × ((response : Option (List ℕ))
    × (later ≡ record { command = number_command (get_or number_properties (length values) 0); response = response } ∷ []))

-- behind all four values commands of the broker's own were sent, and the response to each but the newest was taken
abbrev pub AsksLater : ContextLimits → List ℕ → List Transmission → Type 0
AsksLater contexts values later = (length values ≡ 4) × AllByRecursion (λ one. IsOwn contexts one.command) later × EndAtNewest contexts later

-- Startup was sent, and the device was asked for its first numbers. All responses were taken, and the numbers are in range. Then came
-- the question for the next number, or commands behind all four. The start ended at that question, or at the newest of these.
pub record StopsLater (contexts : ContextLimits) (old new : List Transmission) : Type 0 where
  pub startup : List ℕ
  pub values : List ℕ
  -- the trace when these had come, and what was sent then
  pub asked : List Transmission
  pub later : List Transmission
  pub startup_taken : takes true true startup_command startup ≡ true
  pub told : TellsProperties number_properties values (answered startup_command startup ∷ old) asked
  pub range : are_in [] values ≡ true
  pub trace_is : new ≡ later ++ asked
  pub next : AsksNextNumber values later ⊎ AsksLater contexts values later

-- how far a start came that ended at a command which wasn't answered: this was Startup, and nothing else was sent, or it came later
abbrev pub StopsUnanswered : ContextLimits → List Transmission → List Transmission → Type 0
StopsUnanswered contexts old new =
    ((response : Option (List ℕ)) × (new ≡ record { command = startup_command; response = response } ∷ old)) ⊎ StopsLater contexts old new

-- why a device wasn't started, and how far it came: a transmission failed or the response to it is a wrong answer, and what the
-- device told of its numbers before is in range; or a number of the device is out of range
abbrev pub HasStartCause : {D : Type 0} (contexts : ContextLimits) (seen : D → Seen) → StartError → (old new : D) → Type 0
HasStartCause contexts seen (errors.Unanswered e) old new = HasCause contexts seen e old new × StopsUnanswered contexts (seen old).trace (seen new).trace
HasStartCause contexts seen (errors.Numbers property value) old new =
    StopsAtNumber (seen old).trace (seen new).trace property value
    × IfSome (seen old).state (λ slots. AreInRange slots.numbers → ⊥)

-- ---- the steps

-- where the device tells its state, a broker takes its response to this command
abbrev pub TakenIf : List ℕ → Option SlotState → Type 0
TakenIf command state = IfSome state (λ slots. takes true true command (slot_step slots command).1 ≡ true)

-- the device was asked for one property, and the response was taken and has this value
pub record HasNumber {D : Type 0} (seen : D → Seen) (old new : D) (property value : ℕ) : Type 0 where
  pub response : List ℕ
  pub taken : takes true true (number_command property) response ≡ true
  pub value_is : value_told response ≡ value
  pub trace_is : (seen new).trace ≡ answered (number_command property) response ∷ (seen old).trace
  pub state : Answered (seen old).state (number_command property) (seen new).state response
  pub base : (seen new).base ≡ (seen old).base
  pub count : (seen old).faults ≤ (seen new).faults

-- why a number didn't come: the question wasn't answered, or the value is out of these bounds
abbrev pub MissesNumber : {D : Type 0} (contexts : ContextLimits) (seen : D → Seen) (old new : D) (property least most : ℕ) → StartError → Type 0
MissesNumber contexts seen old new property least most (errors.Unanswered e) = Asks {A = Unit {0}} contexts seen old new (number_command property) (Err e)
MissesNumber contexts seen old new property least most (errors.Numbers asked value) =
    (asked ≡ property) × HasNumber seen old new property value × (nat_lt value least || nat_lt most value) ≡ true × value < 2 ^ 32

-- Startup was sent, and the device was asked for its first numbers. All responses were taken, and have these values, which are in
-- range. Where the device tells its state, these are its numbers, and it is as it was, but started.
pub record HasValues {D : Type 0} (contexts : ContextLimits) (seen : D → Seen) (old new : D) (values : List ℕ) : Type 0 where
  pub startup : List ℕ
  pub startup_taken : takes true true startup_command startup ≡ true
  pub told : TellsProperties number_properties values (answered startup_command startup ∷ (seen old).trace) (seen new).trace
  pub range : are_in [] values ≡ true
  pub own : IfSome (seen old).state (λ slots. take (length values) (values_of slots.numbers) ≡ values)
  pub runs : Runs (seen old).state (seen new).state
  pub attempts : Attempts contexts seen old new

-- what is left where no start came about
pub record NotStarted {D : Type 0} (contexts : ContextLimits) (seen : D → Seen) (old new : D) (e : StartError) : Type 0 where
  pub attempts : Attempts contexts seen old new
  pub cause : HasStartCause contexts seen e old new

-- a sound device that was started
pub record IsRunning (slots : SlotState) : Type 0 where
  pub sound : IsSlots slots
  pub started : slots.started ≡ true

-- what was found: the three lists were asked for and taken, and these are the lists
pub record Finds (old new : List Transmission) (objects loaded saved : List ℕ) : Type 0 where
  pub objects_taken : takes true true (handles_command 0x80000000) objects ≡ true
  pub loaded_taken : takes true true (handles_command 0x02000000) loaded ≡ true
  pub saved_taken : takes true true (handles_command 0x03000000) saved ≡ true
  pub trace_is : new ≡ answered (handles_command 0x03000000) saved ∷ answered (handles_command 0x02000000) loaded
      ∷ answered (handles_command 0x80000000) objects ∷ old

-- the handles of three lists, one list behind the other
abbrev pub all_listed : (objects loaded saved : List ℕ) → List ℕ
all_listed objects loaded saved = listed_handles objects ++ listed_handles loaded ++ listed_handles saved

-- where the device tells its state, it is started, and holds what the three lists have
abbrev pub FindsIf : (objects loaded saved : List ℕ) → Option SlotState → Option SlotState → Type 0
FindsIf objects loaded saved old new =
    (slots : SlotState) → old ≡ Some slots → HoldsIf (record slots { started = true }) (all_listed objects loaded saved) new

-- where the device tells its state, it holds what a list has, and more behind it
abbrev pub HoldsListed : List ℕ → Option SlotState → Type 0
HoldsListed handles state = (slots : SlotState) → state ≡ Some slots → (more : List ℕ) × HoldsHandles slots (handles ++ more) slots

-- where it held these and more behind them, it holds what was behind them
abbrev pub LosesFirst : List ℕ → Option SlotState → Option SlotState → Type 0
LosesFirst handles old new =
    (slots : SlotState) (more : List ℕ) → old ≡ Some slots → HoldsHandles slots (handles ++ more) slots → HoldsIf slots more new
