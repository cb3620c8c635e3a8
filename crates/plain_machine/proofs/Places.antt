-- The objects of a client, as they are kept and as they are seen.
use Rattle.std.proofs.Common.{◌≡◌, ◌+◌, ◌≤◌, ◌<◌, ℕ, suc, cond, true, false, List, [], ◌∷◌, ◌++◌, length, refl, ◌∙◌, ap, arith}
use Rattle.std.specs.Prelude.{Option, Some, None, is_some, set}
use Rattle.std.proofs.lemmas.Bool.{leb-false}
use Rattle.std.proofs.lemmas.List.Sums.{sum_by-cons}
use Rattle.history_spec.specs.declared.TheConstants.{CLIENT_OBJECTS}
use Rattle.history_spec.specs.Table.{count_held, held_under, is_full, least_free, number_of_object, put_least, without_handle}

-- ---- counts

count_none : {A : Type 0} (places : List (Option A)) → count_held (None ∷ places) ≡ count_held places
count_none {A} places = sum_by-cons (λ (x : Option A). cond (is_some x) 1 0) None places ∙ omega arith

count_some : {A : Type 0} (x : A) (places : List (Option A)) → count_held (Some x ∷ places) ≡ 1 + count_held places
count_some {A} x places = sum_by-cons (λ (y : Option A). cond (is_some y) 1 0) (Some x) places

least_le_count : {A : Type 0} (places : List (Option A)) → least_free places ≤ count_held places
least_le_count [] = omega arith
least_le_count (None ∷ places) = omega arith
least_le_count (Some x ∷ places) = omega (arith, count_some x places, least_le_count places)

-- a client that may have another object has a number for it
pub least_below : {A : Type 0} (places : List (Option A)) → is_full places ≡ false → least_free places < CLIENT_OBJECTS
least_below places few = omega (arith, least_le_count places, leb-false CLIENT_OBJECTS (count_held places) few)

-- ---- what is put under the least number

one_more : (n : ℕ) → 1 + n ≡ suc n
one_more n = omega arith

-- the number is there and free, or there is none yet
pub put_within : {A : Type 0} (x : A) (places : List (Option A)) → least_free places < length places
    → put_least x places ≡ set places (least_free places) (Some x)
put_within x [] within = absurd (omega arith)
put_within x (None ∷ places) within = refl
put_within x (Some y ∷ places) within =
    rw (one_more (least_free places)) (ap (λ rest. Some y ∷ rest) (put_within x places (omega arith)))

pub put_behind : {A : Type 0} (x : A) (places : List (Option A)) → length places ≤ least_free places
    → put_least x places ≡ places ++ Some x ∷ []
put_behind x [] behind = refl
put_behind x (None ∷ places) behind = absurd (omega arith)
put_behind x (Some y ∷ places) behind = ap (λ rest. Some y ∷ rest) (put_behind x places (omega arith))

-- ---- what is taken out

pub taken_out : {A : Type 0} (places : List (Option A)) (handle : ℕ) → is_some (held_under places handle) ≡ true
    → without_handle places handle ≡ set places (number_of_object handle) None
taken_out places handle there = rw there refl
