-- Lists whose items rise by a number, and how an item is looked up in them.
use Rattle.std.specs.Prelude.{ℕ, ◌+◌, ◌==◌, ◌&&◌, nat_le, nat_lt, Bool, true, List, [], ◌∷◌, map, Option, Some, None, if◌then◌else◌}
use Rattle.std.specs.List.{find, list_all}
use Rattle.tab_spec.specs.Shape.{number_of_session}
use Rattle.effect_spec.specs.Capabilities.{Listed}

-- whether each number is above the one before, and the first isn't below this one
abbrev pub rises_from : ℕ → List ℕ → Bool
rises_from least [] = true
rises_from least (n ∷ more) = nat_le least n && rises_from (n + 1) more

-- whether each number is below this one
abbrev pub all_below : ℕ → List ℕ → Bool
all_below most numbers = list_all (λ n. nat_lt n most) numbers

-- the first number that isn't below this one
abbrev pub number_from : ℕ → List ℕ → Option ℕ
number_from least numbers = find (λ n. nat_le least n) numbers

-- the numbers of sessions (Part 1, "Session Handles")
abbrev pub session_numbers : List Listed → List ℕ
session_numbers sessions = map (λ (s : Listed). number_of_session s.handle) sessions

-- the session of this number
abbrev pub session_in : ℕ → List Listed → Option Listed
session_in number sessions = find (λ (s : Listed). number_of_session s.handle == number) sessions

-- of what was found so far and this number the lesser, where the number isn't below `least`
abbrev pub lesser : ℕ → Option ℕ → ℕ → Option ℕ
lesser least None n = if nat_le least n then Some n else None
lesser least (Some found) n = if nat_le least n && nat_lt n found then Some n else Some found
