-- What one more changed byte makes of a block.
use Rattle.std.proofs.Common.{◌≡◌, ◌<◌, ◌+◌, ◌++◌, ◌∷◌, [], ℕ, zero, suc, List, length, map, take, drop, slice_set, slice_index_or, refl, ap, arith}
use Rattle.std.specs.Int.Bits.{bit_xor}

-- the first bytes are changed, and the others aren't
abbrev pub changed : ℕ → ℕ → List ℕ → List ℕ
changed pad i xs = map (bit_xor pad) (take i xs) ++ drop i xs

one_more_suc : (pad i : ℕ) (xs : List ℕ) → i < length xs → slice_set (changed pad i xs) i (bit_xor pad (slice_index_or (changed pad i xs) i 0)) ≡ changed pad (suc i) xs
one_more_suc pad i [] within = absurd (omega arith)
one_more_suc pad zero (x ∷ xs) within = refl
one_more_suc pad (suc i) (x ∷ xs) within = ap (λ (ys : List ℕ). bit_xor pad x ∷ ys) (one_more_suc pad i xs (omega arith))

pub one_more : (pad i : ℕ) (xs ys : List ℕ) → i < length xs → ys ≡ changed pad i xs → slice_set ys i (bit_xor pad (slice_index_or ys i 0)) ≡ changed pad (i + 1) xs
one_more pad i xs ys within is =
    let next : i + 1 ≡ suc i = omega arith in
    rw (is, next) (one_more_suc pad i xs within)
