-- How far the first place that is free, or taken, lies in a list of places.
use Rattle.std.proofs.Common.{◌≡◌, ◌+◌, ◌≤◌, ◌<◌, ℕ, zero, suc, cond, List, [], ◌∷◌, ◌++◌, Option, Some, None, length, take, drop, set, get_or, refl, ◌∙◌, ap, arith}
use Rattle.std.proofs.lemmas.List.{length-take}
use Rattle.std.specs.Prelude.{is_some}
use Rattle.std.proofs.lemmas.List.{drop_all}
use Rattle.std.proofs.lemmas.List.Sums.{sum_by-cons, count_by-le-length}
use Rattle.history_spec.specs.Table.{least_free, first_taken, put_least, count_held}

-- ---- counts

pub count_none : {A : Type 0} (places : List (Option A)) → count_held (None ∷ places) ≡ count_held places
count_none {A} places = sum_by-cons (λ (x : Option A). cond (is_some x) 1 0) None places ∙ omega arith

pub count_some : {A : Type 0} (x : A) (places : List (Option A)) → count_held (Some x ∷ places) ≡ 1 + count_held places
count_some {A} x places = sum_by-cons (λ (y : Option A). cond (is_some y) 1 0) (Some x) places

pub count_le_length : {A : Type 0} (places : List (Option A)) → count_held places ≤ length places
count_le_length places = count_by-le-length is_some places

pub least_le_count : {A : Type 0} (places : List (Option A)) → least_free places ≤ count_held places
least_le_count [] = omega arith
least_le_count (None ∷ places) = omega arith
least_le_count (Some x ∷ places) = omega (arith, count_some x places, least_le_count places)

pub count_put : {A : Type 0} (x : A) (places : List (Option A)) → count_held (put_least x places) ≡ count_held places + 1
count_put x [] = refl
count_put x (None ∷ places) = omega (arith, count_some x places, count_none places)
count_put x (Some y ∷ places) = omega (arith, count_some y (put_least x places), count_some y places, count_put x places)

pub length_put : {A : Type 0} (x : A) (places : List (Option A)) (most : ℕ) → length places ≤ most → least_free places < most → length (put_least x places) ≤ most
length_put x [] most short free = omega arith
length_put x (None ∷ places) most short free = short
length_put x (Some y ∷ places) zero short free = absurd (omega arith)
length_put x (Some y ∷ places) (suc most) short free =
    let rest : length (put_least x places) ≤ most = length_put x places most (omega arith) (omega arith) in
    omega arith

-- ---- full blocks

-- where a front is full
pub record FullFront {A : Type 0} (m : ℕ) (places : List (Option A)) : Type 0 where
  pub fits : m ≤ length places
  pub least : least_free places ≡ m + least_free (drop m places)
  pub count : count_held places ≡ m + count_held (drop m places)

pub full_front : {A : Type 0} (m : ℕ) (places : List (Option A)) → m ≤ count_held (take m places) → FullFront m places
full_front zero places full = record { fits = omega arith; least = omega arith; count = omega arith }
full_front (suc m) [] full = absurd (omega arith)
full_front (suc m) (None ∷ places) full =
    absurd (omega (arith, count_none (take m places), count_le_length (take m places), length-take m places))
full_front (suc m) (Some x ∷ places) full =
    let rest : FullFront m places = full_front m places (omega (arith, count_some x (take m places))) in
    record { fits = omega (arith, rest.fits); least = omega (arith, rest.least); count = omega (arith, rest.count, count_some x places) }

-- where a front isn't full, the first free place is in it
pub open_front : {A : Type 0} (m : ℕ) (places : List (Option A)) → count_held (take m places) < m → least_free (take m places) ≡ least_free places
open_front zero places room = absurd (omega arith)
open_front (suc m) [] room = refl
open_front (suc m) (None ∷ places) room = refl
open_front (suc m) (Some x ∷ places) room =
    ap (λ n. 1 + n) (open_front m places (omega (arith, count_some x (take m places))))

-- ---- empty blocks

pub empty_front : {A : Type 0} (m n : ℕ) (places : List (Option A)) → count_held (take m places) ≡ 0 → first_taken n places ≡ first_taken (n + m) (drop m places)
empty_front zero n places empty = ap (λ k. first_taken k places) (omega arith)
empty_front (suc m) n [] empty = refl
empty_front (suc m) n (None ∷ places) empty =
    empty_front m (n + 1) places (omega (arith, count_none (take m places))) ∙ ap (λ k. first_taken k (drop m places)) (omega arith)
empty_front (suc m) n (Some x ∷ places) empty = absurd (omega (arith, count_some x (take m places)))

-- there is no place beyond the end
pub first_taken_past : {A : Type 0} (n : ℕ) (places : List (Option A)) → length places ≤ n → first_taken n (drop n places) ≡ None
first_taken_past n places past = rw (drop_all n places past) refl

pub first_taken_from : {A : Type 0} (n k : ℕ) (places : List (Option A)) → first_taken n places ≡ Some k → n ≤ k
first_taken_from n k [] found = cc
first_taken_from n k (None ∷ places) found = omega (arith, first_taken_from (n + 1) k places found)
first_taken_from n k (Some x ∷ places) found = let e : n ≡ k = cc in omega arith

-- where a front isn't empty, the first place that is taken is in it
pub held_front : {A : Type 0} (m n : ℕ) (places : List (Option A)) → 0 < count_held (take m places) → (k : ℕ) × (first_taken n places ≡ Some k) × (k < n + m)
held_front zero n places some = absurd (omega arith)
held_front (suc m) n [] some = absurd (omega arith)
held_front (suc m) n (None ∷ places) some =
    let rest = held_front m (n + 1) places (omega (arith, count_none (take m places))) in
    (rest.0, rest.1, omega (arith, rest.2))
held_front (suc m) n (Some x ∷ places) some = (n, refl, omega arith)

-- ---- what is put into the least place

one_more : (n : ℕ) → 1 + n ≡ suc n
one_more n = omega arith

-- the place that is taken next is there and free, or there is none yet
pub put_within : {A : Type 0} (x : A) (places : List (Option A)) → least_free places < length places → put_least x places ≡ set places (least_free places) (Some x)
put_within x [] within = absurd (omega arith)
put_within x (None ∷ places) within = refl
put_within x (Some y ∷ places) within =
    rw (one_more (least_free places)) (ap (λ rest. Some y ∷ rest) (put_within x places (omega arith)))

pub put_behind : {A : Type 0} (x : A) (places : List (Option A)) → length places ≤ least_free places → put_least x places ≡ places ++ Some x ∷ []
put_behind x [] behind = refl
put_behind x (None ∷ places) behind = absurd (omega arith)
put_behind x (Some y ∷ places) behind = ap (λ rest. Some y ∷ rest) (put_behind x places (omega arith))

pub least_is_free : {A : Type 0} (places : List (Option A)) → get_or places (least_free places) None ≡ None
least_is_free [] = refl
least_is_free (None ∷ places) = refl
least_is_free (Some y ∷ places) = rw (one_more (least_free places)) (least_is_free places)
