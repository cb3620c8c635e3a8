-- The parameters of a command (Part 3, "Command Tables"), which are read in order and whole. The codes of their faults and the order are
-- this project's own profile.
use Rattle.std.specs.Prelude.{ℕ, ◌+◌, ◌*◌, ◌==◌, List, length, Result, Ok, Err, if◌then◌else◌}
use Rattle.tab_spec.specs.declared.TheConstants.{RC_P, RC_1, RC_SIZE}
use Rattle.tab_spec.specs.Values.{Reading, ◌>>=◌}

-- a fault of the parameter with this number, from 1
abbrev pub in_parameter : {X : Type 0} → ℕ → Reading X → Reading X
in_parameter number (Err code) = Err (code + RC_P + RC_1 * number)
in_parameter number (Ok read) = Ok read

-- what comes of the parameters, where nothing follows them
abbrev pub when_read : {X Y : Type 0} → Reading X → (X → Result Y ℕ) → Result Y ℕ
when_read reading next = do
  (x, rest) ← reading
  if length rest == 0 then next x else Err RC_SIZE

-- no parameters
abbrev pub nothing_of : List ℕ → Reading ℕ
nothing_of params = Ok (0, params)
