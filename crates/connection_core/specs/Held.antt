-- The commands that a reader has cut and not sent yet: their bytes, one command behind the other, and their lengths.
use Rattle.std.specs.Prelude.{◌≡◌, ◌≤◌, ℕ, List, [], ◌∷◌, length, take, drop}

-- the commands of these lengths that stand one behind the other in these bytes
abbrev pub spelled : (bytes lengths : List ℕ) → List (List ℕ)
spelled bytes [] = []
spelled bytes (n ∷ rest) = take n bytes ∷ spelled (drop n bytes) rest

-- they are all of the bytes, and each fits into a buffer
abbrev pub IsSpelled : (bytes lengths : List ℕ) → Type 0
IsSpelled bytes [] = bytes ≡ []
IsSpelled bytes (n ∷ rest) = (n ≤ length bytes) × (n ≤ 4096) × IsSpelled (drop n bytes) rest
