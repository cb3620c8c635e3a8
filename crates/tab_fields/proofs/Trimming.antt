-- Trailing zeros.
use Rattle.std.proofs.Common.{◌≡◌, ◌++◌, ◌∷◌, [], ℕ, List, true, false, eqb, refl, sym, ap}
use Rattle.std.proofs.lemmas.Bool.{eqb-true}
use Rattle.tab_spec.specs.Values.{before_zeros, without_zeros}

pub zero_behind : (xs : List ℕ) → without_zeros (xs ++ 0 ∷ []) ≡ without_zeros xs
zero_behind [] = refl
zero_behind (x ∷ xs) = ap (before_zeros x) (zero_behind xs)

pub other_behind : (xs : List ℕ) (y : ℕ) → eqb y 0 ≡ false → without_zeros (xs ++ y ∷ []) ≡ xs ++ y ∷ []
other_behind [] y other = rw other refl
other_behind (x ∷ []) y other = ap (before_zeros x) (other_behind [] y other)
other_behind (x ∷ next ∷ xs) y other = ap (before_zeros x) (other_behind (next ∷ xs) y other)

pub ends_otherwise : (rest front : List ℕ) (last : ℕ) → rest ≡ front ++ last ∷ [] → eqb last 0 ≡ false → without_zeros rest ≡ rest
ends_otherwise rest front last is other = rw is (other_behind front last other)

pub ends_in_zero : (rest front : List ℕ) (last : ℕ) → rest ≡ front ++ last ∷ [] → eqb last 0 ≡ true → without_zeros front ≡ without_zeros rest
ends_in_zero rest front last is zero_is = rw (is, eqb-true last 0 zero_is) (sym (zero_behind front))
