-- What servers accepted, and the rule of the way on which the turn goes.
use Rattle.std.specs.Prelude.{◌≡◌, ℕ, ◌+◌, ◌-◌, ◌<◌, List, [], ◌∷◌, ◌++◌, length, drop, All}
use Rattle.std.specs.List.{sum_by}
use mathlib.Core.Option.{some}
use lib.ListN.{get_elem?}

-- what a hand accepted
pub record HandView (L : Type 0) : Type 0 where
  -- how many of the 1,024 parts it has
  pub parts : ℕ
  -- 1 while it has the turn, and else 0
  pub turns : ℕ
  -- what it accepted
  pub mine : List L
  -- what had been accepted by all when it took the turn
  pub held : List L

abbrev pub hand : {L : Type 0} → (parts turns : ℕ) → (mine held : List L) → HandView L
hand parts turns mine held = record { parts = parts; turns = turns; mine = mine; held = held }

-- the first hand has the turn
abbrev pub first_view : {L : Type 0} → HandView L
first_view = hand 1024 1 [] []

abbrev pub spent_view : {L : Type 0} → HandView L
spent_view = hand 0 0 [] []

-- what it accepted goes with a new hand of one part
abbrev pub kept_back : {L : Type 0} → HandView L → HandView L
kept_back v = hand (v.parts - 1) v.turns [] v.held

abbrev pub handed_on : {L : Type 0} → HandView L → HandView L
handed_on v = hand 1 0 v.mine []

abbrev pub both_of : {L : Type 0} → HandView L → HandView L → HandView L
both_of v w = hand (v.parts + w.parts) (v.turns + w.turns) (v.mine ++ w.mine) (v.held ++ w.held)

-- it takes the turn, when these had been accepted
abbrev pub with_turn : {L : Type 0} → HandView L → List L → HandView L
with_turn v accepted = hand v.parts 1 v.mine accepted

-- it gives the turn back, when these had been accepted
abbrev pub without_turn : {L : Type 0} → HandView L → List L → HandView L
without_turn v accepted = hand v.parts 0 (v.mine ++ drop (length v.held) accepted) []

-- it accepted one more
abbrev pub with_more : {L : Type 0} → HandView L → L → HandView L
with_more v link = hand v.parts v.turns (v.mine ++ link ∷ []) v.held

-- it hasn't the turn
pub record HasNoTurn {L : Type 0} (v : HandView L) : Type 0 where
  pub some_part : 0 < v.parts
  pub no_turn : v.turns ≡ 0
  pub none : v.held ≡ []

-- these are as often in one list as in the other, however they are weighed
abbrev pub WeighAlike : {L : Type 0} → (one other : List L) → Type 0
WeighAlike {L} one other = (h : L → ℕ) → sum_by h one ≡ sum_by h other

-- a hand that has no part has accepted nothing
abbrev pub AreIdle : {L : Type 0} → List (HandView L) → Type 0
AreIdle {L} views = (i : ℕ) (v : HandView L) → get_elem? views i ≡ some v → v.parts ≡ 0 → (v.turns ≡ 0) × (v.mine ≡ []) × (v.held ≡ [])

-- there is one turn. What the hands accepted is what had been accepted by all, however it is weighed
pub record IsFair {T L : Type 0} (accepted_of : T → List L) (kept : T → Type 0) (turns : List T) (views : List (HandView L)) : Type 0 where
  pub whole : sum_by (λ v. v.parts) views ≡ 1024
  pub one : sum_by (λ v. v.turns) views + length turns ≡ 1
  pub even : (h : L → ℕ) → sum_by (λ v. sum_by h v.mine) views ≡ sum_by (λ v. sum_by h v.held) views + sum_by (λ t. sum_by h (accepted_of t)) turns
  pub each : All kept turns
  pub idle : AreIdle views

-- a hand took this turn
pub record Takes {T L : Type 0} (accepted_of : T → List L) (kept : T → Type 0) (v : HandView L) (turn : T) (w : HandView L) : Type 0 where
  pub is_kept : kept turn
  pub now : w ≡ with_turn v (accepted_of turn)
  pub all : v.parts ≡ 1024 → WeighAlike v.mine (accepted_of turn)
