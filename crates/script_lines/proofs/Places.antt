-- Where in a list a test first passes.
use Rattle.std.proofs.Common.{if◌then◌else◌, nat_lt, ◌≡◌, ℕ, suc, ◌<◌, ◌≤◌, List, [], ◌∷◌, ◌++◌, length, get_or, Bool, true, false, Some, None, refl, ap, ◌∙◌, inl, inr, arith}
use Rattle.std.specs.List.{list_any, position, position_or_len, before_first, after_first}
use Rattle.std.proofs.lemmas.Bool.{or_parts, cases_Bool}
use Rattle.std.proofs.lemmas.List.{length-take-le}
use Rattle.std.proofs.lemmas.List.Sums.{split_at_first, passes_at_first}

-- the test passes at y, and at nothing before it
pub record IsFoundAt (p : ℕ → Bool) (xs : List ℕ) (i : ℕ) : Type 0 where
  pub front : List ℕ
  pub y : ℕ
  pub back : List ℕ
  pub is : xs ≡ front ++ y ∷ back
  pub len : length front ≡ i
  pub passes : p y ≡ true
  pub none : list_any p front ≡ false

-- the first place where the first element fails, and where it passes
pub position_or_len-fails : (p : ℕ → Bool) (x : ℕ) (xs : List ℕ) → p x ≡ false → position_or_len p (x ∷ xs) ≡ suc (position_or_len p xs)
position_or_len-fails p x xs fails = rw fails (omega arith)

pub position_or_len-passes : (p : ℕ → Bool) (x : ℕ) (xs : List ℕ) → p x ≡ true → position_or_len p (x ∷ xs) ≡ 0
position_or_len-passes p x xs passes = rw passes refl

-- where nothing in front passes, the first place is further on
pub before_first-append : (p : ℕ → Bool) (xs ys : List ℕ) → list_any p xs ≡ false → before_first p (xs ++ ys) ≡ xs ++ before_first p ys
before_first-append p [] ys none = refl
before_first-append p (x ∷ xs) ys none =
    let parts = or_parts (p x) (list_any p xs) none in
    let e = position_or_len-fails p x (xs ++ ys) parts.0 in
    rw e (ap (λ (zs : List ℕ). x ∷ zs) (before_first-append p xs ys parts.1))

-- where nothing passes, all stands before the first place
pub before_first-none : (p : ℕ → Bool) (xs : List ℕ) → list_any p xs ≡ false → before_first p xs ≡ xs
before_first-none p [] none = refl
before_first-none p (x ∷ xs) none =
    let parts = or_parts (p x) (list_any p xs) none in
    let e = position_or_len-fails p x xs parts.0 in
    rw e (ap (λ (zs : List ℕ). x ∷ zs) (before_first-none p xs parts.1))

-- nothing passes before the first place
pub list_any-before_first : (p : ℕ → Bool) (xs : List ℕ) → list_any p (before_first p xs) ≡ false
list_any-before_first p [] = refl
list_any-before_first p (x ∷ xs) =
    elim (cases_Bool (p x)) [
      | inl passes ↦ let e = position_or_len-passes p x xs passes in rw e refl
      | inr fails ↦
          let e = position_or_len-fails p x xs fails in
          rw (e, fails) (list_any-before_first p xs)
    ]

-- where the first place is the end, nothing passes
pub list_any-at_end : (p : ℕ → Bool) (xs : List ℕ) → length xs ≤ position_or_len p xs → list_any p xs ≡ false
list_any-at_end p [] end = refl
list_any-at_end p (x ∷ xs) end =
    elim (cases_Bool (p x)) [
      | inl passes ↦ let e = position_or_len-passes p x xs passes in absurd (omega arith)
      | inr fails ↦
          let e = position_or_len-fails p x xs fails in
          rw fails (list_any-at_end p xs (omega arith))
    ]

-- what `position` answers, in terms of the first place
pub place_found : (place len i : ℕ) → (if nat_lt place len then Some place else None) ≡ Some i → (place ≡ i) × (i < len)
place_found place len i is = grind arith

place_not_found : (place len : ℕ) → (if nat_lt place len then Some place else None) ≡ None → len ≤ place
place_not_found place len is = grind arith

pub found : (p : ℕ → Bool) (xs : List ℕ) (i : ℕ) → position p xs ≡ Some i → IsFoundAt p xs i
found p xs i is =
    let at = place_found (position_or_len p xs) (length xs) i is in
    let within : position_or_len p xs < length xs = omega arith in
    record {
      front = before_first p xs;
      y = get_or xs (position_or_len p xs) 0;
      back = after_first p xs;
      is = split_at_first p xs 0 within;
      len = length-take-le (position_or_len p xs) xs (omega arith) ∙ at.0;
      passes = passes_at_first p xs 0 within;
      none = list_any-before_first p xs;
    }

pub not_found : (p : ℕ → Bool) (xs : List ℕ) → position p xs ≡ None → list_any p xs ≡ false
not_found p xs is = list_any-at_end p xs (place_not_found (position_or_len p xs) (length xs) is)
