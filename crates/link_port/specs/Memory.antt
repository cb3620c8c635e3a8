-- What a source, a sink and an acceptor in memory hold, and how many bytes the calls of these ends give and take.
use Rattle.std.specs.Prelude.{ℕ, ◌-◌, Bool, false, List, [], length, min, max, nat_lt, if◌then◌else◌, slice_index}

-- a source in memory: the bytes still to come, the most that each call gives, the calls that fail, and its counts
pub record Supply : Type 0 where
  pub left : List ℕ
  pub pieces : List ℕ
  pub failing : List ℕ
  pub calls : ℕ
  pub faults : ℕ

-- a sink in memory: the bytes written, the most that it holds, whether its end was said, the calls that fail, and its counts
pub record Store : Type 0 where
  pub written : List ℕ
  pub room : ℕ
  pub ended : Bool
  pub failing : List ℕ
  pub calls : ℕ
  pub faults : ℕ

-- an acceptor in memory: the connections still to come, the calls that fail, and its counts
pub record Arrivals : Type 0 where
  pub coming : List (Supply × Store)
  pub failing : List ℕ
  pub calls : ℕ
  pub faults : ℕ

-- a source before its first call
abbrev pub new_supply : List ℕ → List ℕ → List ℕ → Supply
new_supply bytes pieces failing = record { left = bytes; pieces = pieces; failing = failing; calls = 0; faults = 0 }

-- a sink before its first call
abbrev pub new_store : ℕ → List ℕ → Store
new_store room failing = record { written = []; room = room; ended = false; failing = failing; calls = 0; faults = 0 }

-- an acceptor before its first call
abbrev pub new_arrivals : List (Supply × Store) → List ℕ → Arrivals
new_arrivals links failing = record { coming = links; failing = failing; calls = 0; faults = 0 }

-- the most bytes that a call gives: its piece, at least one, and past the list all that there is room for
abbrev pub most_given : List ℕ → ℕ → ℕ → ℕ
most_given pieces call room = if nat_lt call (length pieces) then max (slice_index pieces call) 1 else room

-- how many bytes the next call gives into this room
abbrev pub count_given : Supply → ℕ → ℕ
count_given supply room = min (most_given supply.pieces supply.calls room) (min room (length supply.left))

-- how much room is left
abbrev pub room_left : Store → ℕ
room_left store = store.room - length store.written

-- how many bytes the next call takes of this many
abbrev pub count_taken : Store → ℕ → ℕ
count_taken store count = min count (room_left store)
