-- A table of places by number: the same under another name for each thing in it, and what is counted in it.
use Rattle.std.proofs.Common.{◌≡◌, ◌+◌, ◌-◌, ◌≤◌, ◌<◌, ℕ, zero, suc, Bool, true, false, cond, List, [], ◌∷◌, length, get_or, set, map, refl, ◌∙◌, ap, sym, arith}
use Rattle.std.specs.Prelude.{◌==◌, nat_le, nat_lt, Option, Some, None, is_some, if◌then◌else◌}
use Rattle.std.specs.List.{AllByRecursion, count_by}
use Rattle.std.proofs.lemmas.Bool.{eqb-false, le-ltb, ne_eqb}
use Rattle.std.proofs.lemmas.List.{map-set}
use Rattle.std.proofs.lemmas.List.Sums.{sum_by-set}
use Rattle.tab_spec.specs.declared.TheConstants.{TRANSIENT_FIRST}
use Rattle.history_spec.specs.declared.TheConstants.{CLIENT_OBJECTS}
use Rattle.history_spec.specs.Table.{count_held, first_taken, handle_from, handle_of_number, held_under, is_full, least_free, next_handle, number_of_object, put_least, without_handle}
use Rattle.history_laws.proofs.Counts.{count_cons, count_two, false_from_one, one_false, one_if, one_true}

-- ---- all places

pub mapped : {X Y : Type 0} (f g : X → Y) (xs : List X) → AllByRecursion (λ x. g x ≡ f x) xs → map g xs ≡ map f xs
mapped f g [] same = refl
mapped f g (x ∷ xs) same = ap (λ y. y ∷ map g xs) same.0 ∙ ap (λ ys. f x ∷ ys) (mapped f g xs same.1)

pub at_all : {A : Type 0} (P : Option A → Type 0) (places : List (Option A)) → AllByRecursion P places → P None → (i : ℕ) → P (get_or places i None)
at_all P [] all none i = none
at_all P (place ∷ places) all none zero = all.0
at_all P (place ∷ places) all none (suc i) = at_all P places all.1 none i

held_all_by : {A : Type 0} (P : Option A → Type 0) (low : Bool) (place : Option A) → P None → P place → P (if low then None else place)
held_all_by P true place none is = none
held_all_by P false place none is = is

pub held_all : {A : Type 0} (P : Option A → Type 0) (places : List (Option A)) (handle : ℕ) → AllByRecursion P places → P None → P (held_under places handle)
held_all P places handle all none =
    held_all_by P (nat_lt handle TRANSIENT_FIRST) (get_or places (number_of_object handle) None) none
    (at_all P places all none (number_of_object handle))

pub put_all : {A : Type 0} (P : Option A → Type 0) (x : A) (places : List (Option A)) → AllByRecursion P places → P (Some x) → AllByRecursion P (put_least x places)
put_all P x [] all is = (is, tt)
put_all P x (None ∷ places) all is = (is, all.1)
put_all P x (Some y ∷ places) all is = (all.0, put_all P x places all.1 is)

set_all : {A : Type 0} (P : Option A → Type 0) (places : List (Option A)) (n : ℕ) (place : Option A) → AllByRecursion P places → P place
    → AllByRecursion P (set places n place)
set_all P [] n place all is = tt
set_all P (old ∷ places) zero place all is = (is, all.1)
set_all P (old ∷ places) (suc n) place all is = (all.0, set_all P places n place all.1 is)

either_all : {A : Type 0} (P : Option A → Type 0) (b : Bool) (first second : List (Option A)) → AllByRecursion P first
    → AllByRecursion P second → AllByRecursion P (if b then first else second)
either_all P true first second all other = all
either_all P false first second all other = other

pub without_all : {A : Type 0} (P : Option A → Type 0) (places : List (Option A)) (handle : ℕ) → AllByRecursion P places → P None
    → AllByRecursion P (without_handle places handle)
without_all P places handle all none =
    either_all P (is_some (held_under places handle)) (set places (number_of_object handle) None) places
    (set_all P places (number_of_object handle) None all none) all

-- ---- what stands under a handle

pub get_or_mapped : {A B : Type 0} (f : Option A → Option B) (places : List (Option A)) (i : ℕ) → f None ≡ None
    → get_or (map f places) i None ≡ f (get_or places i None)
get_or_mapped f [] i none = sym none
get_or_mapped f (place ∷ places) zero none = refl
get_or_mapped f (place ∷ places) (suc i) none = get_or_mapped f places i none

held_by : {A B : Type 0} (f : Option A → Option B) (low : Bool) (new : Option B) (old : Option A) → f None ≡ None → new ≡ f old
    → (if low then None else new) ≡ f (if low then None else old)
held_by f true new old none is = sym none
held_by f false new old none is = is

pub held : {A B : Type 0} (f : Option A → Option B) (places : List (Option A)) (handle : ℕ) → f None ≡ None
    → held_under (map f places) handle ≡ f (held_under places handle)
held f places handle none =
    held_by f (nat_lt handle TRANSIENT_FIRST) (get_or (map f places) (number_of_object handle) None) (get_or places (number_of_object handle) None)
    none (get_or_mapped f places (number_of_object handle) none)

-- ---- as many, and the same least number

pub count : {A B : Type 0} (f : Option A → Option B) (places : List (Option A)) → AllByRecursion (λ place. is_some (f place) ≡ is_some place) places
    → count_held (map f places) ≡ count_held places
count f [] all = refl
count f (place ∷ places) all =
    omega (
      arith,
      count_cons is_some (f place) (map f places),
      count_cons is_some place places,
      ap one_if all.0,
      count f places all.1,
    )

pub full : {A B : Type 0} (f : Option A → Option B) (places : List (Option A)) → AllByRecursion (λ place. is_some (f place) ≡ is_some place) places
    → is_full (map f places) ≡ is_full places
full f places all = ap (λ (n : ℕ). nat_le CLIENT_OBJECTS n) (count f places all)

least_none : {A : Type 0} (place : Option A) (places : List (Option A)) → is_some place ≡ false → least_free (place ∷ places) ≡ 0
least_none None places is = refl
least_none (Some x) places is = absurd cc

least_some : {A : Type 0} (place : Option A) (places : List (Option A)) → is_some place ≡ true → least_free (place ∷ places) ≡ 1 + least_free places
least_some None places is = absurd cc
least_some (Some x) places is = refl

pub least : {A B : Type 0} (f : Option A → Option B) (places : List (Option A)) → AllByRecursion (λ place. is_some (f place) ≡ is_some place) places
    → least_free (map f places) ≡ least_free places
least f [] all = refl
least f (None ∷ places) all = least_none (f None) (map f places) all.0
least f (Some x ∷ places) all = least_some (f (Some x)) (map f places) all.0 ∙ ap (λ (n : ℕ). 1 + n) (least f places all.1)

pub next : {A B : Type 0} (f : Option A → Option B) (places : List (Option A)) → AllByRecursion (λ place. is_some (f place) ≡ is_some place) places
    → next_handle (map f places) ≡ next_handle places
next f places all = ap (λ (n : ℕ). TRANSIENT_FIRST + n) (least f places all)

-- ---- one more

put_none : {A : Type 0} (y : A) (place : Option A) (places : List (Option A)) → is_some place ≡ false → put_least y (place ∷ places) ≡ Some y ∷ places
put_none y None places is = refl
put_none y (Some x) places is = absurd cc

put_some : {A : Type 0} (y : A) (place : Option A) (places : List (Option A)) → is_some place ≡ true
    → put_least y (place ∷ places) ≡ place ∷ put_least y places
put_some y None places is = absurd cc
put_some y (Some x) places is = refl

pub put : {A B : Type 0} (f g : Option A → Option B) (x : A) (y : B) (places : List (Option A)) → AllByRecursion (λ place. g place ≡ f place) places
    → AllByRecursion (λ place. is_some (f place) ≡ is_some place) places → g (Some x) ≡ Some y
    → map g (put_least x places) ≡ put_least y (map f places)
put {A} {B} f g x y [] same all at = ap (λ (place : Option B). place ∷ []) at
put {A} {B} f g x y (None ∷ places) same all at =
    ap (λ (place : Option B). place ∷ map g places) at
    ∙ ap (λ (rest : List (Option B)). Some y ∷ rest) (mapped f g places same.1)
    ∙ sym (put_none y (f None) (map f places) all.0)
put {A} {B} f g x y (Some z ∷ places) same all at =
    ap (λ (place : Option B). place ∷ map g (put_least x places)) same.0
    ∙ ap (λ (rest : List (Option B)). f (Some z) ∷ rest) (put f g x y places same.1 all.1 at)
    ∙ sym (put_some y (f (Some z)) (map f places) all.0)

-- ---- one less

taken_out : {A : Type 0} (places : List (Option A)) (handle : ℕ) → is_some (held_under places handle) ≡ true
    → without_handle places handle ≡ set places (number_of_object handle) None
taken_out places handle there = rw there refl

all_same : {A B : Type 0} (f g : Option A → Option B) (places : List (Option A)) → ((i : ℕ) → g (get_or places i None) ≡ f (get_or places i None))
    → map g places ≡ map f places
all_same f g [] same = refl
all_same {A} {B} f g (place ∷ places) same =
    ap (λ (first : Option B). first ∷ map g places) (same 0)
    ∙ ap (λ (rest : List (Option B)). f place ∷ rest) (all_same f g places (λ i. same (suc i)))

others_same : {A B : Type 0} (f g : Option A → Option B) (places : List (Option A)) (n : ℕ) (y : Option B)
    → ((i : ℕ) → (i == n) ≡ false → g (get_or places i None) ≡ f (get_or places i None)) → set (map g places) n y ≡ set (map f places) n y
others_same f g [] n y same = refl
others_same {A} {B} f g (place ∷ places) zero y same =
    ap (λ (rest : List (Option B)). y ∷ rest) (all_same f g places (λ i. same (suc i) (ne_eqb (suc i) 0 (λ e. omega (arith, e)))))
others_same {A} {B} f g (place ∷ places) (suc n) y same =
    ap (λ (first : Option B). first ∷ set (map g places) n y) (same 0 (ne_eqb 0 (suc n) (λ e. omega (arith, e))))
    ∙ ap (λ (rest : List (Option B)). f place ∷ rest)
    (others_same f g places n y (λ i apart. same (suc i) (ne_eqb (suc i) (suc n) (λ e. eqb-false i n apart (omega (arith, e))))))

pub without : {A B : Type 0} (f g : Option A → Option B) (places : List (Option A)) (handle : ℕ) → f None ≡ None → g None ≡ None
    → is_some (held_under places handle) ≡ true → is_some (f (held_under places handle)) ≡ true
    → ((i : ℕ) → (i == number_of_object handle) ≡ false → g (get_or places i None) ≡ f (get_or places i None))
    → map g (without_handle places handle) ≡ without_handle (map f places) handle
without {A} {B} f g places handle none nothing there here same =
    ap (map g) (taken_out places handle there)
    ∙ map-set g places (number_of_object handle) None
    ∙ ap (λ (place : Option B). set (map g places) (number_of_object handle) place) nothing
    ∙ others_same f g places (number_of_object handle) None same
    ∙ sym (taken_out (map f places) handle (ap (λ (place : Option B). is_some place) (held f places handle none) ∙ here))

-- ---- counts

pub put_by : {A : Type 0} (p : Option A → Bool) (x : A) (places : List (Option A)) → p None ≡ false
    → count_by p (put_least x places) ≡ count_by p places + cond (p (Some x)) 1 0
put_by p x [] none = omega (arith, count_cons p (Some x) [])
put_by p x (None ∷ places) none =
    omega (arith, count_cons p (Some x) places, count_cons p None places, one_false (p None) none)
put_by p x (Some y ∷ places) none =
    omega (arith, count_cons p (Some y) (put_least x places), count_cons p (Some y) places, put_by p x places none)

pub put_count : {A : Type 0} (x : A) (places : List (Option A)) → count_held (put_least x places) ≡ count_held places + 1
put_count x places = put_by is_some x places refl

held_is_by : {A : Type 0} (low : Bool) (place : Option A) → is_some (if low then None else place) ≡ true → (if low then None else place) ≡ place
held_is_by true place there = absurd cc
held_is_by false place there = refl

held_is : {A : Type 0} (places : List (Option A)) (handle : ℕ) → is_some (held_under places handle) ≡ true
    → held_under places handle ≡ get_or places (number_of_object handle) None
held_is places handle there = held_is_by (nat_lt handle TRANSIENT_FIRST) (get_or places (number_of_object handle) None) there

within : {A : Type 0} (places : List (Option A)) (n : ℕ) → is_some (get_or places n None) ≡ true → n < length places
within [] n there = absurd cc
within (place ∷ places) zero there = omega arith
within (place ∷ places) (suc n) there = omega (arith, within places n there)

pub without_by : {A : Type 0} (p : Option A → Bool) (places : List (Option A)) (handle : ℕ) → p None ≡ false
    → is_some (held_under places handle) ≡ true
    → count_by p (without_handle places handle) + cond (p (held_under places handle)) 1 0 ≡ count_by p places
without_by {A} p places handle none there =
    let n = number_of_object handle in
    let is : held_under places handle ≡ get_or places n None = held_is places handle there in
    let inside : n < length places = within places n (ap (λ (place : Option A). is_some place) (sym is) ∙ there) in
    let sums : count_by p (set places n None) + one_if (p (get_or places n None)) ≡ count_by p places + one_if (p None) =
    sum_by-set (λ (place : Option A). one_if (p place)) places n None None inside in
    omega (
      arith,
      sums,
      one_false (p None) none,
      ap (λ (place : Option A). one_if (p place)) is,
      ap (λ (rest : List (Option A)). count_by p rest) (taken_out places handle there),
    )

pub without_count : {A : Type 0} (places : List (Option A)) (handle : ℕ) → is_some (held_under places handle) ≡ true
    → count_held (without_handle places handle) + 1 ≡ count_held places
without_count {A} places handle there =
    omega (arith, without_by (λ (place : Option A). is_some place) places handle refl there, one_true (is_some (held_under places handle)) there)

-- ---- the least handle

first_there : {A : Type 0} (n k : ℕ) (places : List (Option A)) → first_taken n places ≡ Some k
    → (i : ℕ) × (k ≡ n + i) × (is_some (get_or places i None) ≡ true)
first_there n k [] found = absurd cc
first_there n k (None ∷ places) found =
    let rest = first_there (n + 1) k places found in
    (suc rest.0, omega (arith, rest.1), rest.2)
first_there n k (Some x ∷ places) found = let same : n ≡ k = cc in (0, omega (arith, same), refl)

first_none : {A : Type 0} (n : ℕ) (places : List (Option A)) → first_taken n places ≡ None → count_held places ≡ 0
first_none n [] none = refl
first_none {A} n (None ∷ places) none =
    omega (arith, count_cons (λ (place : Option A). is_some place) None places, first_none (n + 1) places none)
first_none n (Some x ∷ places) none = absurd cc

handle_is : (number : Option ℕ) (handle : ℕ) → handle_of_number number ≡ Some handle → (k : ℕ) × (number ≡ Some k) × (handle ≡ TRANSIENT_FIRST + k)
handle_is None handle is = absurd cc
handle_is (Some k) handle is = let same : TRANSIENT_FIRST + k ≡ handle = cc in (k, refl, sym same)

no_handle : (number : Option ℕ) → handle_of_number number ≡ None → number ≡ None
no_handle None is = is
no_handle (Some k) is = absurd cc

at_by : {A : Type 0} (low : Bool) (place : Option A) → low ≡ false → (if low then None else place) ≡ place
at_by true place is = absurd cc
at_by false place is = refl

number_at : (first handle k : ℕ) → handle ≡ first + k → handle - first ≡ k
number_at first handle k at = omega (arith, at)

held_at : {A : Type 0} (places : List (Option A)) (handle k : ℕ) → handle ≡ TRANSIENT_FIRST + k → held_under places handle ≡ get_or places k None
held_at {A} places handle k at =
    at_by (nat_lt handle TRANSIENT_FIRST) (get_or places (number_of_object handle) None) (le-ltb handle TRANSIENT_FIRST (omega (arith, at)))
    ∙ ap (λ (n : ℕ). get_or places n None) (number_at TRANSIENT_FIRST handle k at)

pub from : {A : Type 0} (places : List (Option A)) (handle : ℕ) → handle_from places TRANSIENT_FIRST ≡ Some handle
    → is_some (held_under places handle) ≡ true
from {A} places handle found =
    let is = handle_is (first_taken 0 places) handle found in
    let there = first_there 0 is.0 places is.1 in
    ap (λ (place : Option A). is_some place) (held_at places handle there.0 (omega (arith, is.2, there.1))) ∙ there.2

pub none_from : {A : Type 0} (places : List (Option A)) → handle_from places TRANSIENT_FIRST ≡ None → count_held places ≡ 0
none_from places none = first_none 0 places (no_handle (first_taken 0 places) none)

-- ---- what is counted once

pub none_named : {A : Type 0} (p : Option A → Bool) (places : List (Option A)) → count_by p places ≡ 0
    → AllByRecursion (λ place. p place ≡ false) places
none_named p [] none = tt
none_named p (place ∷ places) none = (
  false_from_one (p place) (omega (arith, none, count_cons p place places)),
  none_named p places (omega (arith, none, count_cons p place places)),
)

pub named : {A : Type 0} (places : List (Option A)) (i j : ℕ) (p : Option A → Bool) → count_by p places ≤ 1 → p (get_or places i None) ≡ true
    → p None ≡ false → (j == i) ≡ false → p (get_or places j None) ≡ false
named places i j p once is none apart =
    false_from_one (p (get_or places j None)) (omega (
      arith,
      once,
      one_true (p (get_or places i None)) is,
      count_two p places i j None none (eqb-false j i apart),
    ))
