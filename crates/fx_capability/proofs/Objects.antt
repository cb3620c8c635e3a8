-- The handles of objects that stand in places: they rise, and are walked from place to place.
use Rattle.std.proofs.Common.{◌≡◌, ◌+◌, ◌<◌, ◌≤◌, ℕ, Bool, true, cond, ltb, leb, List, [], ◌∷◌, length, drop, get_or, refl, ap, sym, ◌∙◌, arith}
use Rattle.std.specs.Prelude.{Option, Some, None, is_some, ◌&&◌, false}
use Rattle.std.specs.List.{count_by}
use Rattle.std.proofs.lemmas.Bool.{and_from, le-leb, lt-ltb}
use Rattle.std.proofs.lemmas.List.{at_drop_more}
use Rattle.std.proofs.lemmas.List.Sums.{sum_by-cons}
use Rattle.effect_spec.specs.Capabilities.{transient_from}
use Rattle.fx_capability.specs.Lists.{rises_from, all_below, number_from}

rise : {A : Type 0} (least handle : ℕ) (places : List (Option A)) → least ≤ handle → rises_from least (transient_from handle places) ≡ true
rise least handle [] above = refl
rise least handle (None ∷ places) above = rise least (handle + 1) places (omega (arith, above))
rise least handle (Some o ∷ places) above =
    and_from (leb least handle) (rises_from (handle + 1) (transient_from (handle + 1) places)) (le-leb least handle above)
    (rise (handle + 1) (handle + 1) places (omega arith))

fit : {A : Type 0} (most handle : ℕ) (places : List (Option A)) → handle + length places ≤ most → all_below most (transient_from handle places) ≡ true
fit most handle [] below = refl
fit most handle (None ∷ places) below = fit most (handle + 1) places (omega (arith, below))
fit most handle (Some o ∷ places) below =
    and_from (ltb handle most) (all_below most (transient_from (handle + 1) places)) (lt-ltb handle most (omega (arith, below)))
    (fit most (handle + 1) places (omega (arith, below)))

-- the handles rise, and are below what follows so many places
pub objects_rise : {A : Type 0} (handle : ℕ) (places : List (Option A)) → rises_from 0 (transient_from handle places) ≡ true
objects_rise handle places = rise 0 handle places (omega arith)

pub objects_fit : {A : Type 0} (most handle count : ℕ) (places : List (Option A)) → length places ≤ count → handle + count ≤ most
    → all_below most (transient_from handle places) ≡ true
objects_fit most handle count places few below = fit most handle places (omega (arith, few, below))

pub objects_counted : {A : Type 0} (handle : ℕ) (places : List (Option A)) → count_by is_some places ≡ length (transient_from handle places)
objects_counted handle [] = refl
objects_counted {A} handle (None ∷ places) =
    let rest : count_by is_some places ≡ length (transient_from (handle + 1) places) = objects_counted (handle + 1) places in
    sum_by-cons (λ (o : Option A). cond (is_some o) 1 0) None places ∙ omega (arith, rest)
objects_counted {A} handle (Some o ∷ places) =
    let rest : count_by is_some places ≡ length (transient_from (handle + 1) places) = objects_counted (handle + 1) places in
    sum_by-cons (λ (x : Option A). cond (is_some x) 1 0) (Some o) places ∙ omega (arith, rest)

-- ---- from place to place

from_step : {A : Type 0} (least handle : ℕ) (place : Option A) (places : List (Option A))
    → number_from least (transient_from handle (place ∷ places))
    ≡ cond (is_some place && leb least handle) (Some handle) (number_from least (transient_from (handle + 1) places))
from_step least handle None places = refl
from_step least handle (Some o) places = refl

-- from a place on, by what stands in it
pub object_step : {A : Type 0} (least first i : ℕ) (places : List (Option A)) (place : Option A) → i < length places → get_or places i None ≡ place
    → number_from least (transient_from (first + i) (drop i places))
    ≡ cond (is_some place && leb least (first + i)) (Some (first + i)) (number_from least (transient_from (first + i + 1) (drop (i + 1) places)))
object_step {A} least first i places place within is =
    at_drop_more (λ (left : List (Option A)). number_from least (transient_from (first + i) left)) places i None within
    ∙ from_step least (first + i) (get_or places i None) (drop (i + 1) places)
    ∙ ap (λ (o : Option A). cond (is_some o && leb least (first + i)) (Some (first + i)) (number_from least (transient_from (first + i + 1) (drop (i + 1) places)))) is

-- a place that isn't what is looked for is passed
pub object_passed : {A : Type 0} (least first i : ℕ) (places : List (Option A)) (place : Option A) (whole : Option ℕ) → i < length places
    → get_or places i None ≡ place → (is_some place && leb least (first + i)) ≡ false
    → number_from least (transient_from (first + i) (drop i places)) ≡ whole
    → number_from least (transient_from (first + (i + 1)) (drop (i + 1) places)) ≡ whole
object_passed least first i places place whole within is other so_far =
    ap (λ (n : ℕ). number_from least (transient_from n (drop (i + 1) places))) (omega arith)
    ∙ sym (ap (λ (b : Bool). cond b (Some (first + i)) (number_from least (transient_from (first + i + 1) (drop (i + 1) places)))) other)
    ∙ sym (object_step least first i places place within is)
    ∙ so_far

-- and one that is it ends the walk
pub object_reached : {A : Type 0} (least first i : ℕ) (places : List (Option A)) (place : Option A) (whole : Option ℕ) → i < length places
    → get_or places i None ≡ place → (is_some place && leb least (first + i)) ≡ true
    → number_from least (transient_from (first + i) (drop i places)) ≡ whole → Some (first + i) ≡ whole
object_reached least first i places place whole within is this so_far =
    sym (ap (λ (b : Bool). cond b (Some (first + i)) (number_from least (transient_from (first + i + 1) (drop (i + 1) places)))) this)
    ∙ sym (object_step least first i places place within is)
    ∙ so_far
