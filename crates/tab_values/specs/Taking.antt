-- What a reader of parameters answers.
use Rattle.std.specs.Prelude.{◌≡◌, ℕ, ◌+◌, List, Result, Ok, Err}
use Rattle.tab_spec.specs.Parameters.{in_parameter}
use Rattle.tab_spec.specs.Values.{Reading}

-- the parameters of a command that are still to be read: the number of the next one, from 1, and the bytes
pub record Unread : Type 0 where
  pub number : ℕ
  pub bytes : List ℕ

-- the next parameter was read, so that the one after it is next; or its fault is the response code
abbrev pub TookParameter : {X Y : Type 0} → (X → Y) → Result X ℕ → Unread → Reading Y → Unread → Type 0
TookParameter shown (Ok value) old reading new = (in_parameter old.number reading ≡ Ok (shown value, new.bytes)) × (new.number ≡ old.number + 1)
TookParameter shown (Err code) old reading new = in_parameter old.number reading ≡ Err code
