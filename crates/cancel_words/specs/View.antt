-- What a seat at a cancel word is seen as, and what each call makes of it.
use Rattle.std.specs.Prelude.{◌≡◌, ◌⊎◌, ℕ, List, [], ◌∷◌, ◌++◌, Contains}
use Rattle.atomic_table.specs.Seated.{TableId}

-- whose seat it is
pub data Role : Type 0 where
  of_reader : Role
  of_worker : Role
  -- of both, once they are done
  of_both : Role

pub record WordView : Type 0 where
  -- the cancel word that the seat is of
  pub word : TableId
  pub role : Role
  -- the numbers that it raised the word to, and those that it loaded from it, each in order
  pub raised : List ℕ
  pub loaded : List ℕ

-- the seats of a new word
abbrev pub first_reader : TableId → WordView
first_reader word = record { word = word; role = of_reader; raised = []; loaded = [] }

abbrev pub first_worker : TableId → WordView
first_worker word = record { word = word; role = of_worker; raised = []; loaded = [] }

-- the seat after one more raise, and after one more load
abbrev pub with_raised : WordView → ℕ → WordView
with_raised seat upto = record seat { raised = seat.raised ++ upto ∷ [] }

abbrev pub with_loaded : WordView → ℕ → WordView
with_loaded seat word = record seat { loaded = seat.loaded ++ word ∷ [] }

-- the seat that is made of the reader's and the worker's
abbrev pub seat_of_both : WordView → WordView → WordView
seat_of_both reader worker = record reader { role = of_both; loaded = worker.loaded }

-- a number is 0, or the word was raised to it
abbrev pub IsZeroOrRaised : List ℕ → ℕ → Type 0
IsZeroOrRaised raised number = (number ≡ 0) ⊎ Contains raised number
