-- What a reader of fields answers.
use Rattle.std.specs.Prelude.{◌≡◌, ℕ, List, Result, Ok, Err}
use Rattle.tab_spec.specs.Values.{Reading}

-- what was read and what is left; of a fault the code alone
abbrev pub Took : {X : Type 0} → Result X ℕ → List ℕ → Reading X → Type 0
Took (Ok value) left reading = reading ≡ Ok (value, left)
Took (Err code) left reading = reading ≡ Err code

-- what was read is this value, and what is left; of a fault the code alone
abbrev pub TookValue : {X Y : Type 0} → (X → Y) → Result X ℕ → List ℕ → Reading Y → Type 0
TookValue shown (Ok value) left reading = reading ≡ Ok (shown value, left)
TookValue shown (Err code) left reading = reading ≡ Err code
