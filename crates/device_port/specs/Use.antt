-- The order in which things were used, by number, the least recently used first.
use Rattle.std.specs.Prelude.{ℕ, zero, suc, ◌==◌, Bool, List, [], ◌∷◌, ◌++◌, if◌then◌else◌}
use Rattle.std.specs.List.{list_any}

-- whether this is one of those that are needed
abbrev pub is_among : List ℕ → ℕ → Bool
is_among needed index = list_any (λ one. one == index) needed

-- without this one
abbrev pub without_one : ℕ → List ℕ → List ℕ
without_one index [] = []
without_one index (one ∷ order) = if one == index then order else one ∷ without_one index order

-- without the first that isn't needed
abbrev pub without_unneeded : List ℕ → List ℕ → List ℕ
without_unneeded needed [] = []
without_unneeded needed (one ∷ order) = if is_among needed one then one ∷ without_unneeded needed order else order

-- without the first so many that aren't needed: those leave for room
abbrev pub without_first : ℕ → List ℕ → List ℕ → List ℕ
without_first zero needed order = order
without_first (suc count) needed order = without_unneeded needed (without_first count needed order)

-- the first that isn't needed, where there is one
abbrev pub next_unneeded : List ℕ → List ℕ → List ℕ
next_unneeded needed [] = []
next_unneeded needed (one ∷ order) = if is_among needed one then next_unneeded needed order else one ∷ []

-- the first so many that aren't needed: those that are left out so
abbrev pub first_unneeded : ℕ → List ℕ → List ℕ → List ℕ
first_unneeded zero needed order = []
first_unneeded (suc count) needed order = first_unneeded count needed order ++ next_unneeded needed (without_first count needed order)

-- this one is used: it is the last then
abbrev pub used_after : List ℕ → ℕ → List ℕ
used_after order index = without_one index order ++ index ∷ []

-- these are used, one after the other
abbrev pub all_used : List ℕ → List ℕ → List ℕ
all_used order [] = order
all_used order (index ∷ needed) = all_used (used_after order index) needed
