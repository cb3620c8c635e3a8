-- Counts of what passes a test.
use Rattle.std.proofs.Common.{◌≡◌, ◌+◌, ◌≤◌, ℕ, zero, suc, Bool, true, false, cond, List, [], ◌∷◌, get_or, refl, ap, arith}
use Rattle.std.specs.Prelude.{◌||◌}
use Rattle.std.specs.List.{count_by, list_any}
use Rattle.std.proofs.lemmas.List.Sums.{sum_by-cons}

abbrev pub one_if : Bool → ℕ
one_if test = cond test 1 0

pub one_true : (test : Bool) → test ≡ true → one_if test ≡ 1
one_true test is = ap one_if is

pub one_false : (test : Bool) → test ≡ false → one_if test ≡ 0
one_false test is = ap one_if is

pub false_from_one : (test : Bool) → one_if test ≤ 0 → test ≡ false
false_from_one true h = absurd (omega arith)
false_from_one false h = refl

pub count_cons : {X : Type 0} (p : X → Bool) (x : X) (xs : List X) → count_by p (x ∷ xs) ≡ one_if (p x) + count_by p xs
count_cons p x xs = sum_by-cons (λ y. one_if (p y)) x xs

list_none_by : {X : Type 0} (p : X → Bool) (xs : List X) (test : Bool) → (count_by p xs ≡ 0 → list_any p xs ≡ false) → one_if test + count_by p xs ≡ 0
    → (test || list_any p xs) ≡ false
list_none_by p xs true rest none = absurd (omega arith)
list_none_by p xs false rest none = rest (omega arith)

pub list_none : {X : Type 0} (p : X → Bool) (xs : List X) → count_by p xs ≡ 0 → list_any p xs ≡ false
list_none p [] none = refl
list_none p (x ∷ xs) none = list_none_by p xs (p x) (list_none p xs) (omega (arith, count_cons p x xs))

-- one item, and two of them
pub count_one : {X : Type 0} (p : X → Bool) (xs : List X) (i : ℕ) (d : X) → p d ≡ false → one_if (p (get_or xs i d)) ≤ count_by p xs
count_one p [] i d none = omega (arith, one_false (p d) none)
count_one p (x ∷ xs) zero d none = omega (arith, count_cons p x xs)
count_one p (x ∷ xs) (suc i) d none = omega (arith, count_cons p x xs, count_one p xs i d none)

pub count_two : {X : Type 0} (p : X → Bool) (xs : List X) (i j : ℕ) (d : X) → p d ≡ false → (j ≡ i → ⊥)
    → one_if (p (get_or xs i d)) + one_if (p (get_or xs j d)) ≤ count_by p xs
count_two p [] i j d none apart = omega (arith, one_false (p d) none)
count_two p (x ∷ xs) zero zero d none apart = absurd (apart refl)
count_two p (x ∷ xs) zero (suc j) d none apart = omega (arith, count_cons p x xs, count_one p xs j d none)
count_two p (x ∷ xs) (suc i) zero d none apart = omega (arith, count_cons p x xs, count_one p xs i d none)
count_two p (x ∷ xs) (suc i) (suc j) d none apart =
    omega (arith, count_cons p x xs, count_two p xs i j d none (λ same. apart (ap suc same)))
