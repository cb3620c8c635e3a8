-- Lists that begin others, and sums over lists that are read by number.
use Rattle.std.proofs.Common.{◌≡◌, ◌≢◌, ℕ, zero, suc, ◌+◌, ◌≤◌, List, [], ◌∷◌, ◌++◌, length, drop, set, refl, sym, ap, ◌∙◌, append_assoc, arith, length-append}
use Rattle.std.specs.List.{sum_by}
use Rattle.std.proofs.lemmas.List.{append-nil}
use Rattle.std.proofs.lemmas.List.Sums.{sum_by-cons}
use mathlib.Core.List.{IsPrefix}
use mathlib.Core.Option.{some, some-injective, some-ne-none}
use lib.ListN.{get_elem?}

module _ {X : Type 0} where
  pub prefix_refl : (xs : List X) → IsPrefix xs xs
  prefix_refl xs = ([], append-nil xs)

  pub prefix_trans : (xs ys zs : List X) → IsPrefix xs ys → IsPrefix ys zs → IsPrefix xs zs
  prefix_trans xs ys zs one two =
      (one.0 ++ two.0, sym (append_assoc xs one.0 two.0) ∙ ap (λ (l : List X). l ++ two.0) one.1 ∙ two.1)

  pub prefix_push : (xs ys : List X) → IsPrefix xs (xs ++ ys)
  prefix_push xs ys = (ys, refl)

  pub prefix_nil : (xs : List X) → IsPrefix [] xs
  prefix_nil xs = (xs, refl)

  pub of_nil : (xs : List X) → IsPrefix xs [] → xs ≡ []
  of_nil [] pre = refl
  of_nil (x ∷ xs) pre = absurd (omega (arith, ap length pre.1))

  pub prefix_length : (xs ys : List X) → IsPrefix xs ys → length xs ≤ length ys
  prefix_length xs ys pre = omega (arith, length-append xs pre.0, ap length pre.1)

  -- of two lists that begin a third, the shorter begins the other
  pub shorter_begins : (xs ys zs : List X) → IsPrefix xs zs → IsPrefix ys zs → length xs ≤ length ys → IsPrefix xs ys
  shorter_begins [] ys zs one two le = prefix_nil ys
  shorter_begins (x ∷ xs) [] zs one two le = absurd (omega arith)
  shorter_begins (x ∷ xs) (y ∷ ys) [] one two le = absurd (omega (arith, ap length one.1))
  shorter_begins (x ∷ xs) (y ∷ ys) (z ∷ zs) one two le =
      let same : x ∷ (xs ++ one.0) ≡ z ∷ zs = one.1 in
      let other : y ∷ (ys ++ two.0) ≡ z ∷ zs = two.1 in
      let rest : IsPrefix xs ys = shorter_begins xs ys zs (one.0, cc) (two.0, cc) (omega arith) in
      let heads : x ≡ y = cc in
      (rest.0, λ i. heads i ∷ rest.1 i)

  pub same_length : (xs ys : List X) → IsPrefix xs ys → length ys ≤ length xs → xs ≡ ys
  same_length [] [] pre le = refl
  same_length [] (y ∷ ys) pre le = absurd (omega arith)
  same_length (x ∷ xs) [] pre le = absurd (omega (arith, ap length pre.1))
  same_length (x ∷ xs) (y ∷ ys) pre le =
      let same : x ∷ (xs ++ pre.0) ≡ y ∷ ys = pre.1 in
      let rest : xs ≡ ys = same_length xs ys (pre.0, cc) (omega arith) in
      let heads : x ≡ y = cc in
      λ i. heads i ∷ rest i

  pub drop_front : (xs ys : List X) → drop (length xs) (xs ++ ys) ≡ ys
  drop_front [] ys = refl
  drop_front (x ∷ xs) ys = drop_front xs ys

  -- ---- sums

  pub sum_at_set : (f : X → ℕ) (xs : List X) (i : ℕ) (v w : X) → get_elem? xs i ≡ some v → sum_by f (set xs i w) + f v ≡ sum_by f xs + f w
  sum_at_set f [] i v w at = absurd (some-ne-none v (sym at))
  sum_at_set f (x ∷ xs) zero v w at =
      let same : f x ≡ f v = ap f (some-injective x v at) in
      omega (arith, sum_by-cons f x xs, sum_by-cons f w xs)
  sum_at_set f (x ∷ xs) (suc i) v w at =
      omega (arith, sum_at_set f xs i v w at, sum_by-cons f x xs, sum_by-cons f x (set xs i w))

  pub sum_at : (f : X → ℕ) (xs : List X) (i : ℕ) (v : X) → get_elem? xs i ≡ some v → f v ≤ sum_by f xs
  sum_at f [] i v at = absurd (some-ne-none v (sym at))
  sum_at f (x ∷ xs) zero v at = let same : f x ≡ f v = ap f (some-injective x v at) in omega (arith, sum_by-cons f x xs)
  sum_at f (x ∷ xs) (suc i) v at = omega (arith, sum_at f xs i v at, sum_by-cons f x xs)

  pub sum_at_two : (f : X → ℕ) (xs : List X) (i j : ℕ) (v w : X) → i ≢ j → get_elem? xs i ≡ some v → get_elem? xs j ≡ some w → f v + f w ≤ sum_by f xs
  sum_at_two f [] i j v w apart at there = absurd (some-ne-none v (sym at))
  sum_at_two f (x ∷ xs) zero zero v w apart at there = absurd (apart refl)
  sum_at_two f (x ∷ xs) zero (suc j) v w apart at there =
      let same : f x ≡ f v = ap f (some-injective x v at) in omega (arith, sum_at f xs j w there, sum_by-cons f x xs)
  sum_at_two f (x ∷ xs) (suc i) zero v w apart at there =
      let same : f x ≡ f w = ap f (some-injective x w there) in omega (arith, sum_at f xs i v at, sum_by-cons f x xs)
  sum_at_two f (x ∷ xs) (suc i) (suc j) v w apart at there =
      omega (arith, sum_at_two f xs i j v w (λ e. apart (ap suc e)) at there, sum_by-cons f x xs)
