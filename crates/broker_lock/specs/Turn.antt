-- The rule of a lock's table, and what each step tells. Word 0 is 1 while a seat has the turn, and word 1 is the length of
-- the history. The one slot has the value.
use Rattle.std.specs.Prelude.{◌≡◌, ◌≢◌, ◌⊎◌, ℕ, ◌+◌, ◌-◌, ◌<◌, ◌||◌, nat_lt, Bool, true, false, List, [], ◌∷◌, ◌++◌, length, drop, Option, Some, if◌then◌else◌}
use Rattle.std.specs.List.{sum_by}
use mathlib.Core.List.{IsPrefix}
use mathlib.Core.Option.{none, some}
use lib.ListN.{get_elem?}
use Rattle.atomic_table.specs.Table.{Me, State, Step}
use Rattle.history_spec.specs.declared.EntryKind.{EntryKind}
use Rattle.history_spec.specs.declared.EntryKind.TheVariants.{Open, Command, Canceled, Fault, Close}
use Rattle.history_spec.specs.Entry.{Entry, clients_of, IsOpen}
use Rattle.broker_lock.specs.Known.{Fixed, HasJustKnown, has_closed, knows, of_known}
use Rattle.broker_lock.specs.View.{SeatView}

-- ---- the history

-- each client has a number below that of the next, and is open until its Close
pub record IsOrderly (log : List Entry) : Type 0 where
  pub below : (client : ℕ) → knows log client ≡ true → client < (clients_of log).opened
  pub opens : (client : ℕ) → knows log client ≡ true → has_closed log client ≡ false → IsOpen log client

-- the opening of the next client, or another entry of a client that is known
abbrev pub MayEnterAs : EntryKind → List Entry → List Entry → Entry → Type 0
MayEnterAs Open known before e = e.client ≡ (clients_of before).opened
MayEnterAs Command known before e = knows known e.client ≡ true
MayEnterAs (Canceled upto) known before e = knows known e.client ≡ true
MayEnterAs Fault known before e = knows known e.client ≡ true
MayEnterAs Close known before e = knows known e.client ≡ true

-- what a seat that knows these entries adds to the history in its turn: one such entry, or none
pub data MayAdd (known before : List Entry) : List Entry → Type 0 where
  no_entry : MayAdd known before []
  one_entry : (e : Entry) → MayEnterAs e.kind known before e → MayAdd known before (e ∷ [])

-- ---- the seats

-- what a seat knows is so of this history, and of whether a wrong answer came
pub record IsTrueOf (fixed : Fixed) (log : List Entry) (came : Bool) (v : SeatView) : Type 0 where
  pub fixed_is : 0 < v.parts → v.fixed ≡ fixed
  pub front : IsPrefix v.front log
  pub met : IsPrefix v.met log
  pub own_log : HasJustKnown v.known log
  pub own_front : HasJustKnown v.known v.front
  pub spent : v.parts ≡ 0 → (v.front ≡ []) × (v.known ≡ []) × (v.acting ≡ false)
  pub told : v.wrong ≡ true → came ≡ true

-- how many parts the seats have together
abbrev pub parts_of : List SeatView → ℕ
parts_of views = sum_by (λ v. v.parts) views

-- one seat has the turn and the value, and has seen the whole history and whether a wrong answer came
pub record IsTurnTaken {B : Type 0} (log : List Entry) (came : Bool) (s : State (Option B) SeatView) : Type 0 where
  pub seat : ℕ
  pub words : s.words ≡ 1 ∷ length log ∷ []
  pub out : s.homes ≡ none ∷ []
  pub actor : (v : SeatView) × (get_elem? s.views seat ≡ some v) × (v.acting ≡ true)
  pub alone : (j : ℕ) (v : SeatView) → get_elem? s.views j ≡ some v → v.acting ≡ true → (j ≡ seat) × (v.front ≡ log) × (v.wrong ≡ came)

-- nobody has the turn, and the value has this history
pub record IsTurnFree {B : Type 0} (history : B → List Entry) (fixed : B → Fixed) (wrong : B → Bool) (all : Fixed) (log : List Entry) (came : Bool) (s : State (Option B) SeatView) : Type 0 where
  pub value : B
  pub words : s.words ≡ 0 ∷ length log ∷ []
  pub home : s.homes ≡ some (Some value) ∷ []
  pub history_is : history value ≡ log
  pub fixed_is : fixed value ≡ all
  pub wrong_is : wrong value ≡ came
  pub nobody : (j : ℕ) (v : SeatView) → get_elem? s.views j ≡ some v → v.acting ≡ false

-- there is one history. Each client of it is known to one seat, and some seat has seen all of it
pub record HasOneHistory {B : Type 0} (history : B → List Entry) (fixed : B → Fixed) (wrong : B → Bool) (s : State (Option B) SeatView) : Type 0 where
  pub all : Fixed
  pub log : List Entry
  -- whether a wrong answer came
  pub came : Bool
  pub orderly : IsOrderly log
  pub turn : IsTurnFree history fixed wrong all log came s ⊎ IsTurnTaken log came s
  pub parts : parts_of s.views ≡ 1024
  pub each : (j : ℕ) (v : SeatView) → get_elem? s.views j ≡ some v → IsTrueOf all log came v
  -- which seat knows a client
  pub owner : ℕ → ℕ
  pub owned : (j : ℕ) (v : SeatView) → get_elem? s.views j ≡ some v → (client : ℕ) → knows v.known client ≡ true → owner client ≡ j
  pub owns : (client : ℕ) → knows log client ≡ true → (v : SeatView) × (get_elem? s.views (owner client) ≡ some v) × (knows v.known client ≡ true)
  pub longest : (j : ℕ) × (v : SeatView) × (get_elem? s.views j ≡ some v) × (v.front ≡ log)

-- ---- a turn

-- the seat has the turn, and sees the history of the value and whether a wrong answer came
pub record HasTurn {B : Type 0} (history : B → List Entry) (fixed : B → Fixed) (wrong : B → Bool) (value : B) (old new : SeatView) : Type 0 where
  pub now : new ≡ record old { front = history value; acting = true; wrong = wrong value }
  pub fixed_is : fixed value ≡ old.fixed
  pub seen : IsPrefix old.front (history value)
  pub own : HasJustKnown old.known (history value)
  pub orderly : IsOrderly (history value)
  pub told : old.wrong ≡ true → wrong value ≡ true

-- the turn was free, and the seat has it now; or it wasn't, and the seat is as it was
abbrev pub takes_turn : {B : Type 0} → (B → List Entry) → (B → Fixed) → (B → Bool) → Step (Option B) → Me (Option B) SeatView → ℕ → Me (Option B) SeatView → Type 0
takes_turn {B} history fixed wrong st old found new =
    (found ≡ 0 → (value : B) × (new.1 ≡ (0, Some value) ∷ []) × HasTurn history fixed wrong value old.0 new.0) × (found ≢ 0 → new ≡ old)

-- what the history has more than was seen is known
abbrev pub raised : SeatView → List Entry → Bool → SeatView
raised v log came = record v { front = log; known = v.known ++ drop (length v.front) log; wrong = came }

abbrev pub raises_count : {B : Type 0} → (B → List Entry) → (B → Bool) → Step (Option B) → Me (Option B) SeatView → ℕ → Me (Option B) SeatView → Type 0
raises_count {B} history wrong st old found new = (value : B) → old.1 ≡ (0, Some value) ∷ [] → new ≡ (raised old.0 (history value) (wrong value), old.1)

-- the turn is free again
abbrev pub rested : SeatView → SeatView
rested v = record v { acting = false }

abbrev pub gives_back : {B : Type 0} → Step (Option B) → Me (Option B) SeatView → ℕ → Me (Option B) SeatView → Type 0
gives_back st old found new = new ≡ (rested old.0, [])

-- the seat may give this value back: it added what the seat may add
pub record MayGiveBack {B : Type 0} (history : B → List Entry) (fixed : B → Fixed) (wrong : B → Bool) (v : SeatView) (value : B) : Type 0 where
  pub some_part : 0 < v.parts
  pub acting : v.acting ≡ true
  pub added : List Entry
  pub entered : history value ≡ v.front ++ added
  pub may : MayAdd v.known v.front added
  pub fixed_is : fixed value ≡ v.fixed
  pub told : v.wrong ≡ true → wrong value ≡ true

-- ---- parts

-- between two calls
pub record IsIdle (v : SeatView) : Type 0 where
  pub some_part : 0 < v.parts
  pub resting : v.acting ≡ false
  pub order : v.known ≡ of_known v.known v.front

-- a seat keeps all but one part, and the new one sees as much and knows nobody
abbrev pub left_with : SeatView → SeatView
left_with v = record v { parts = v.parts - 1 }

abbrev pub split_off : SeatView → SeatView
split_off v = record v { met = []; known = []; parts = 1; acting = false }

abbrev pub longer : List Entry → List Entry → List Entry
longer one other = if nat_lt (length one) (length other) then other else one

abbrev pub shorter : List Entry → List Entry → List Entry
shorter one other = if nat_lt (length one) (length other) then one else other

-- a seat takes in another. That the shorter front begins the longer is known once it settles
abbrev pub together : SeatView → SeatView → SeatView
together v w = record v {
  front = longer v.front w.front;
  met = shorter v.front w.front;
  known = v.known ++ w.known;
  parts = v.parts + w.parts;
  wrong = v.wrong || w.wrong;
}

-- what is known is put in the order of the history
abbrev pub settled : SeatView → SeatView
settled v = record v { met = []; known = of_known v.known v.front }

pub record Settles (old new : SeatView) : Type 0 where
  pub now : new ≡ settled old
  pub met : IsPrefix old.met old.front
  pub own : HasJustKnown old.known old.front

abbrev pub settles : {B : Type 0} → Step (Option B) → Me (Option B) SeatView → ℕ → Me (Option B) SeatView → Type 0
settles st old found new = (new.1 ≡ old.1) × Settles old.0 new.0
