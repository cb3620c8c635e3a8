-- The list of left sessions.
use Rattle.std.specs.Prelude.{ℕ, ◌+◌, ◌==◌, List, [], ◌∷◌, if◌then◌else◌}

-- the place of a number; how many there are, where it isn't one of them
abbrev pub place_in : List ℕ → ℕ → ℕ
place_in [] number = 0
place_in (one ∷ numbers) number = if one == number then 0 else 1 + place_in numbers number
