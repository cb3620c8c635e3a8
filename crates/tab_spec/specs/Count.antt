-- Counts of faults and of sent commands are u64, and stand still at the largest one.
use Rattle.std.specs.Prelude.{◌≡◌, ◌<◌, ◌⊎◌, ◌+◌, ◌-◌, ◌^◌, ℕ, min}

-- the largest u64, at which a count stands still
abbrev pub largest_count : ℕ
largest_count = 2 ^ 64 - 1

-- a count after one more
abbrev pub one_more : ℕ → ℕ
one_more count = min (count + 1) largest_count

-- a count rose, or stands at its type's end
abbrev pub Rose : ℕ → ℕ → Type 0
Rose old new = (old < new) ⊎ (new ≡ largest_count)
