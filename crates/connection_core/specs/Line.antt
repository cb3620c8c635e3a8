-- The line between a connection's reader and its worker: what was sent is what was taken, and then what the line holds.
use Rattle.std.specs.Prelude.{◌≡◌, ◌≤◌, ℕ, Bool, true, false, List, [], ◌∷◌, ◌++◌, length, map}
use mathlib.Core.Option.{some}
use lib.ListN.{get_elem?}
use Rattle.tab_spec.specs.Count.{largest_count}
use Rattle.connection_core.specs.declared.message.Message.{Message}
use Rattle.connection_core.specs.declared.message.Message.TheVariants as messages

-- what a pass may do, and what it did
pub record LineView : Type 0 where
  pub sends : Bool
  pub takes : Bool
  -- the messages that it sent, and those that it took, each in order
  pub sent : List Message
  pub taken : List Message

-- of a new line
abbrev pub first_view : LineView
first_view = record { sends = true; takes = true; sent = []; taken = [] }

-- the reader's
abbrev pub sending : List Message → LineView
sending sent = record { sends = true; takes = false; sent = sent; taken = [] }

-- the worker's
abbrev pub taking : List Message → LineView
taking taken = record { sends = false; takes = true; sent = []; taken = taken }

-- of both, and what the worker's leaves then
abbrev pub both_of : LineView → LineView → LineView
both_of v w = record { sends = true; takes = true; sent = v.sent; taken = w.taken }

abbrev pub spent_view : LineView
spent_view = record { sends = false; takes = false; sent = []; taken = [] }

-- after one more message
abbrev pub with_sent : LineView → Message → LineView
with_sent v message = record v { sent = v.sent ++ message ∷ [] }

abbrev pub with_taken : LineView → Message → LineView
with_taken v message = record v { taken = v.taken ++ message ∷ [] }

-- ---- the rule

-- one pass at most may send, and has sent this; one at most may take, and has taken that
abbrev pub FitsLine : (sender taker : ℕ) (sent taken : List Message) → ℕ → LineView → Type 0
FitsLine sender taker sent taken place v = (v.sends ≡ true → (place ≡ sender) × (v.sent ≡ sent)) × (v.takes ≡ true → (place ≡ taker) × (v.taken ≡ taken))

pub record IsInOrder (items : List Message) (views : List LineView) : Type 0 where
  pub sender : ℕ
  pub taker : ℕ
  pub sent : List Message
  pub taken : List Message
  pub whole : sent ≡ taken ++ items
  pub short : length sent ≤ largest_count
  pub each : (place : ℕ) (v : LineView) → get_elem? views place ≡ some v → FitsLine sender taker sent taken place v

-- what a pass that took this message is told: no more were taken than can be counted
abbrev pub HasTaken : LineView → Message → LineView → Type 0
HasTaken v message w = (w ≡ with_taken v message) × (length w.taken ≤ largest_count)

-- what a pass learns that may do both
abbrev pub IsWholeLine : LineView → List Message → Type 0
IsWholeLine v items = v.sent ≡ v.taken ++ items

-- ---- what is sent

-- the commands of a connection, in order
abbrev pub messages_of : List (List ℕ) → List Message
messages_of commands = map messages.Command commands

-- the same pass once it has sent these commands too
abbrev pub with_held : LineView → List (List ℕ) → LineView
with_held v held = record v { sent = v.sent ++ messages_of held }
