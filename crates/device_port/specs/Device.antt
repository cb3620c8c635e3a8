-- What a device shows, and what a transmission does to it.
use Rattle.std.specs.Prelude.{◌≡◌, ◌≤◌, ℕ, List, [], ◌∷◌, Option, Some, None, Result, is_ok, OnOk, OnErr, if◌then◌else◌}
use Rattle.tab_spec.specs.Count.{Rose, one_more}
use Rattle.tab_spec.specs.Persist.{Persist}
use Rattle.device_spec.specs.Slots.{SlotState, slot_step}

-- a command that was sent to a device, and the response to it; nothing where the transmission failed
pub record Transmission : Type 0 where
  pub command : List ℕ
  pub response : Option (List ℕ)

-- how many they are. The count stands still at the largest u64
abbrev pub count_of : List Transmission → ℕ
count_of [] = 0
count_of (newest ∷ trace) = one_more (count_of trace)

-- the command of the newest one; empty before the first
abbrev pub newest_command : List Transmission → List ℕ
newest_command [] = []
newest_command (newest ∷ trace) = newest.command

-- the response to it; nothing after a failure and before the first
abbrev pub newest_response : List Transmission → Option (List ℕ)
newest_response [] = None
newest_response (newest ∷ trace) = newest.response

-- what a device shows of itself, and what was sent to it
pub record Seen : Type 0 where
  -- what it kept when its history began, and the state that it is in, if it shows them
  pub base : Option Persist
  pub state : Option SlotState
  -- how often a transmission has failed. The count never falls, and stands still at the largest u64
  pub faults : ℕ
  -- each command that was sent to it and what came of it, the newest one first
  pub trace : List Transmission

-- how many commands were sent to it, answered or not
abbrev pub sent_of : Seen → ℕ
sent_of seen = count_of seen.trace

-- the last of them
abbrev pub asked_of : Seen → List ℕ
asked_of seen = newest_command seen.trace

-- the response to the last of them
abbrev pub last_of : Seen → Option (List ℕ)
last_of seen = newest_response seen.trace

-- the state and the response after a command that was answered
abbrev pub Answered : Option SlotState → List ℕ → Option SlotState → List ℕ → Type 0
Answered None command after response = after ≡ None
Answered (Some slots) command after response = (after ≡ Some (slot_step slots command).0) × (response ≡ (slot_step slots command).1)

-- the transmission of this command, with this result
abbrev pub transmitted : {E : Type 0} → List ℕ → Result (Unit {0}) E → List ℕ → Transmission
transmitted command result reply = record { command = command; response = if is_ok result then Some reply else None }

-- what one transmission does. A failure comes only where the fault count rose, and leaves the state
pub record Transmits {E : Type 0} (old : Seen) (command : List ℕ) (result : Result (Unit {0}) E) (reply : List ℕ) (new : Seen) : Type 0 where
  pub answered : OnOk result (Answered old.state command new.state reply)
  pub unchanged : OnErr result (new.state ≡ old.state)
  pub no_reply : OnErr result (reply ≡ [])
  pub fault : OnErr result (Rose old.faults new.faults)
  pub count : old.faults ≤ new.faults
  pub base : new.base ≡ old.base
  pub trace : new.trace ≡ transmitted command result reply ∷ old.trace
