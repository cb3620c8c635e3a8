-- What one more byte makes of a mask that hides bytes.
use Rattle.std.proofs.Common.{◌≡◌, ◌<◌, ◌+◌, ◌++◌, ◌∷◌, [], ℕ, zero, suc, List, length, take, drop, slice_set, slice_index_or, refl, ap, arith}
use Rattle.std.specs.Int.Bits.{bit_xor}
use Rattle.tab_spec.specs.Hash.{xor_bytes}

-- the first bytes are hidden, and the others aren't
abbrev pub hidden_below : ℕ → List ℕ → List ℕ → List ℕ
hidden_below i bytes mask = xor_bytes (take i bytes) (take i mask) ++ drop i mask

one_more_suc : (i : ℕ) (bytes mask : List ℕ) → i < length bytes → length bytes ≡ length mask
    → slice_set (hidden_below i bytes mask) i (bit_xor (slice_index_or bytes i 0) (slice_index_or (hidden_below i bytes mask) i 0)) ≡ hidden_below (suc i) bytes mask
one_more_suc i [] mask within same = absurd (omega arith)
one_more_suc i (x ∷ bytes) [] within same = absurd (omega arith)
one_more_suc zero (x ∷ bytes) (y ∷ mask) within same = refl
one_more_suc (suc i) (x ∷ bytes) (y ∷ mask) within same = ap (λ (ys : List ℕ). bit_xor x y ∷ ys) (one_more_suc i bytes mask (omega arith) (omega arith))

pub one_more : (i : ℕ) (bytes mask ys : List ℕ) → i < length bytes → length bytes ≡ length mask → ys ≡ hidden_below i bytes mask
    → slice_set ys i (bit_xor (slice_index_or bytes i 0) (slice_index_or ys i 0)) ≡ hidden_below (i + 1) bytes mask
one_more i bytes mask ys within same is =
    let next : i + 1 ≡ suc i = omega arith in
    rw (is, next) (one_more_suc i bytes mask within same)
