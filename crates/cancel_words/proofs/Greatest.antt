-- The greatest of some numbers is one of them, or 0.
use Rattle.std.proofs.Common.{◌≡◌, ◌⊎◌, ℕ, suc, ◌≤◌, max, List, [], ◌∷◌, ◌++◌, All, Contains, fold, refl, sym, ◌∙◌, subst, inl, inr, ⊎_elim, arith}
use Rattle.std.proofs.lemmas.List.Elements.{All-contains}
use Rattle.std.proofs.lemmas.List.Sums.{fold_push}
use Rattle.cancel_words.specs.Rule.{greatest_of}
use Rattle.cancel_words.specs.View.{IsZeroOrRaised}

either_of : (a x : ℕ) → (max a x ≡ a) ⊎ (max a x ≡ x)
either_of a x = grind arith

at_front : (x : ℕ) (xs : List ℕ) → Contains (x ∷ xs) x
at_front x xs = (0, omega arith, refl)

behind : (x y : ℕ) (xs : List ℕ) → Contains xs y → Contains (x ∷ xs) y
behind x y xs c = (suc c.0, omega (arith, c.1), c.2)

greatest_from : (a : ℕ) (xs : List ℕ) → (fold max a xs ≡ a) ⊎ Contains xs (fold max a xs)
greatest_from a [] = inl refl
greatest_from a (x ∷ xs) = ⊎_elim first (λ c. inr (behind x (fold max (max a x) xs) xs c)) (greatest_from (max a x) xs)
  where
    first : fold max (max a x) xs ≡ max a x → (fold max (max a x) xs ≡ a) ⊎ Contains (x ∷ xs) (fold max (max a x) xs)
    first is = ⊎_elim (λ e. inl (is ∙ e)) (λ e. inr (subst (Contains (x ∷ xs)) (sym (is ∙ e)) (at_front x xs))) (either_of a x)

pub greatest_is_raised : (numbers : List ℕ) → IsZeroOrRaised numbers (greatest_of numbers)
greatest_is_raised numbers = greatest_from 0 numbers

at_most : (numbers : List ℕ) (upto : ℕ) → All (λ n. n ≤ upto) numbers → IsZeroOrRaised numbers (greatest_of numbers) → greatest_of numbers ≤ upto
at_most numbers upto all (inl none) = omega (arith, none)
at_most numbers upto all (inr there) = All-contains (λ n. n ≤ upto) numbers (greatest_of numbers) all there

-- a number that none is above becomes the greatest
pub greatest_push : (numbers : List ℕ) (upto : ℕ) → All (λ n. n ≤ upto) numbers → greatest_of (numbers ++ upto ∷ []) ≡ upto
greatest_push numbers upto all =
    fold_push max 0 numbers upto ∙ max_right (greatest_of numbers) upto (at_most numbers upto all (greatest_is_raised numbers))
  where
    max_right : (a b : ℕ) → a ≤ b → max a b ≡ b
    max_right a b le = grind (arith, le)
