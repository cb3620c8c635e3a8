-- The rule of a cancel word's table, which has one word and no slot, and what each step tells.
use Rattle.std.specs.Prelude.{◌≡◌, ◌≢◌, ℕ, max, List, [], ◌∷◌, ◌++◌, All, fold}
use mathlib.Core.Option.{some}
use lib.ListN.{get_elem?}
use Rattle.atomic_table.specs.Seated.{TableId}
use Rattle.atomic_table.specs.Table.{Me, State, Step}
use Rattle.cancel_words.specs.View.{IsZeroOrRaised, Role, WordView, of_both, of_reader, of_worker}

-- what a seat at the table did
pub record WordSeatView : Type 0 where
  pub role : Role
  pub raised : List ℕ
  pub loaded : List ℕ

-- a seat at this table that did this
abbrev pub word_view : TableId → WordSeatView → WordView
word_view word v = record { word = word; role = v.role; raised = v.raised; loaded = v.loaded }

-- the greatest of some numbers, 0 where there is none
abbrev pub greatest_of : List ℕ → ℕ
greatest_of numbers = fold max 0 numbers

-- One seat raises the word: the reader's, or that of both. The word is the greatest number that it was raised to, and each
-- number that a seat loaded is 0 or one of these
pub record HasOneRaiser {S : Type 0} (s : State S WordSeatView) : Type 0 where
  -- the number of that seat, and what it did
  pub raiser : ℕ
  pub view : WordSeatView
  pub there : get_elem? s.views raiser ≡ some view
  pub role : view.role ≢ of_worker
  pub word : s.words ≡ greatest_of view.raised ∷ []
  pub others : (j : ℕ) (v : WordSeatView) → get_elem? s.views j ≡ some v → j ≢ raiser → v.role ≡ of_worker
  pub each : (j : ℕ) (v : WordSeatView) → get_elem? s.views j ≡ some v → All (IsZeroOrRaised view.raised) v.loaded

-- ---- the seats

abbrev pub first_seat : WordSeatView
first_seat = record { role = of_reader; raised = []; loaded = [] }

-- the worker's before its first load, and what a joined worker's leaves
abbrev pub blank_seat : WordSeatView
blank_seat = record { role = of_worker; raised = []; loaded = [] }

-- a reader's that took in a worker's
abbrev pub joined_seat : WordSeatView → WordSeatView → WordSeatView
joined_seat v w = record v { role = of_both; loaded = w.loaded }

-- ---- the steps

module _ {S : Type 0} where
  abbrev pub raises : Step S → Me S WordSeatView → ℕ → Me S WordSeatView → Type 0
  raises st old stored new = new ≡ (record old.0 { raised = old.0.raised ++ stored ∷ [] }, old.1)

  abbrev pub loads : Step S → Me S WordSeatView → ℕ → Me S WordSeatView → Type 0
  loads st old found new = new ≡ (record old.0 { loaded = old.0.loaded ++ found ∷ [] }, old.1)

  -- it did nothing more, and what it loaded is 0 or was raised
  abbrev pub settles : Step S → Me S WordSeatView → ℕ → Me S WordSeatView → Type 0
  settles st old found new = (new ≡ old) × All (IsZeroOrRaised old.0.raised) old.0.loaded
