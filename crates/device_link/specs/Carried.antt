-- What went over a link since it was made, by what its two ends told then and what they tell now.
use Rattle.std.specs.Prelude.{◌≡◌, ◌<◌, ℕ, List, [], ◌∷◌, ◌++◌, map, Option, Some, None, IsSome}
use Rattle.std.specs.List.{AllByRecursion}
use Rattle.link_port.specs.Port.{with_more}
use Rattle.device_port.specs.Device.{Transmission}
use Rattle.device_link.specs.Link.{DeviceEnds, FailsBy, with_front}
use Rattle.device_link.specs.declared.fault.LinkFault.{LinkFault}
use Rattle.device_link.specs.declared.fault.LinkFault.TheVariants as causes

-- the bytes of all commands that were sent, from the first on
abbrev pub commands_of : List Transmission → List ℕ
commands_of [] = []
commands_of (newest ∷ trace) = commands_of trace ++ newest.command

-- a response that came, and no byte where none did
abbrev pub bytes_of : Option (List ℕ) → List ℕ
bytes_of None = []
bytes_of (Some response) = response

-- the bytes of all responses, from the first on
abbrev pub responses_of : List Transmission → List ℕ
responses_of [] = []
responses_of (newest ∷ trace) = responses_of trace ++ bytes_of newest.response

-- a command whose transmission failed
abbrev pub failed : List ℕ → Transmission
failed command = record { command = command; response = None }

-- each command was answered: just the commands were written, just the responses were read, and
-- neither end failed
pub record CarriedAll (began : DeviceEnds) (trace : List Transmission) (now : DeviceEnds)
    : Type 0 where
  pub answered : AllByRecursion (λ sent. IsSome sent.response) trace
  pub written : now.written ≡ with_more began.written (commands_of trace)
  pub read : began.left ≡ with_front (responses_of trace) now.left
  pub sink_quiet : now.sink_faults ≡ began.sink_faults
  pub source_quiet : now.source_faults ≡ began.source_faults

-- the commands before this one were answered, this one failed for this reason, and nothing went
-- over the link for the later ones
pub record CarriedUntil (fault : LinkFault) (began : DeviceEnds) (trace : List Transmission)
    (now : DeviceEnds) : Type 0 where
  pub before : List Transmission
  pub command : List ℕ
  pub later : List (List ℕ)
  pub trace_is : trace ≡ map failed later ++ failed command ∷ before
  -- what the ends told before it
  pub ends : DeviceEnds
  pub carried : CarriedAll began before ends
  pub fails : FailsBy fault ends command now

-- by why the link failed first, if it did. A fault is counted where it did, and only there
abbrev pub HasCarried : LinkFault → (began : DeviceEnds) → (faults : ℕ) → List Transmission
    → (now : DeviceEnds) → Type 0
HasCarried causes.Absent began faults trace now = (faults ≡ 0) × CarriedAll began trace now
HasCarried causes.Source began faults trace now =
    (0 < faults) × CarriedUntil causes.Source began trace now
HasCarried causes.Sink began faults trace now =
    (0 < faults) × CarriedUntil causes.Sink began trace now
HasCarried causes.End began faults trace now =
    (0 < faults) × CarriedUntil causes.End began trace now
HasCarried (causes.Size size) began faults trace now = (0 < faults) × CarriedUntil
    (causes.Size size) began trace now
