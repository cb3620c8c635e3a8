-- Counting over a list of which one item changes, and what holds of the others.
use Rattle.std.proofs.Common.{◌≡◌, ◌≢◌, ◌+◌, ◌<◌, ◌≤◌, ℕ, zero, suc, Bool, true, false, List, [], ◌∷◌, ◌++◌, length, get_or, set, map, refl, ap, ◌∙◌, arith}
use Rattle.std.specs.Prelude.{◌||◌}
use Rattle.std.specs.List.{AllByRecursion, count_by, list_any}
use Rattle.std.proofs.lemmas.List.Sums.{sum_by-append, sum_by-cons, sum_by-set, get_or-le-sum_by}
use Rattle.object_swap.specs.Records.{number}

pub number_true : (b : Bool) → b ≡ true → number b ≡ 1
number_true b is = ap number is

pub number_false : (b : Bool) → b ≡ false → number b ≡ 0
number_false b is = ap number is

pub number_most : (b : Bool) → number b ≤ 1
number_most true = omega arith
number_most false = omega arith

pub is_false : (b : Bool) → number b ≤ 0 → b ≡ false
is_false true h = absurd (omega arith)
is_false false h = refl

pub is_true : (b : Bool) → 1 ≤ number b → b ≡ true
is_true true h = refl
is_true false h = absurd (omega arith)

-- ---- counts

pub count_cons : {X : Type 0} (p : X → Bool) (x : X) (xs : List X) → count_by p (x ∷ xs) ≡ number (p x) + count_by p xs
count_cons p x xs = sum_by-cons (λ y. number (p y)) x xs

pub count_append : {X : Type 0} (p : X → Bool) (xs ys : List X) → count_by p (xs ++ ys) ≡ count_by p xs + count_by p ys
count_append p xs ys = sum_by-append (λ x. number (p x)) xs ys

pub count_map : {X : Type 0} (p : X → Bool) (xs : List X) → count_by (λ flag. flag) (map p xs) ≡ count_by p xs
count_map p [] = refl
count_map p (x ∷ xs) = omega (arith, count_cons (λ (flag : Bool). flag) (p x) (map p xs), count_cons p x xs, count_map p xs)

pub count_set : {X : Type 0} (p : X → Bool) (xs : List X) (i : ℕ) (y d : X) → i < length xs
    → count_by p (set xs i y) + number (p (get_or xs i d)) ≡ count_by p xs + number (p y)
count_set p xs i y d inside = sum_by-set (λ x. number (p x)) xs i y d inside

pub count_one : {X : Type 0} (p : X → Bool) (xs : List X) (i : ℕ) (d : X) → i < length xs → number (p (get_or xs i d)) ≤ count_by p xs
count_one p xs i d inside = get_or-le-sum_by (λ x. number (p x)) xs i d inside

-- two items
pub count_two : {X : Type 0} (p : X → Bool) (xs : List X) (i j : ℕ) (d : X) → i < length xs → j < length xs → j ≢ i
    → number (p (get_or xs i d)) + number (p (get_or xs j d)) ≤ count_by p xs
count_two p [] i j d inside other apart = absurd (omega arith)
count_two p (x ∷ xs) zero zero d inside other apart = absurd (apart refl)
count_two p (x ∷ xs) zero (suc j) d inside other apart = omega (arith, count_cons p x xs, count_one p xs j d (omega arith))
count_two p (x ∷ xs) (suc i) zero d inside other apart = omega (arith, count_cons p x xs, count_one p xs i d (omega arith))
count_two p (x ∷ xs) (suc i) (suc j) d inside other apart =
    omega (arith, count_cons p x xs, count_two p xs i j d (omega arith) (omega arith) (λ same. apart (ap suc same)))

some_by : {X : Type 0} (p : X → Bool) (x : X) (xs : List X) (test : Bool) → p x ≡ test → (list_any p xs ≡ true → 1 ≤ count_by p xs)
    → (test || list_any p xs) ≡ true → 1 ≤ count_by p (x ∷ xs)
some_by p x xs true is more some = omega (arith, count_cons p x xs, number_true (p x) is)
some_by p x xs false is more some = omega (arith, count_cons p x xs, more some)

pub count_some : {X : Type 0} (p : X → Bool) (xs : List X) → list_any p xs ≡ true → 1 ≤ count_by p xs
count_some p [] some = absurd cc
count_some p (x ∷ xs) some = some_by p x xs (p x) refl (count_some p xs) some

list_some_by : {X : Type 0} (p : X → Bool) (xs : List X) (test : Bool) → (1 ≤ count_by p xs → list_any p xs ≡ true) → 1 ≤ number test + count_by p xs
    → (test || list_any p xs) ≡ true
list_some_by p xs true rest some = refl
list_some_by p xs false rest some = rest (omega arith)

pub list_some : {X : Type 0} (p : X → Bool) (xs : List X) → 1 ≤ count_by p xs → list_any p xs ≡ true
list_some p [] some = absurd (omega arith)
list_some p (x ∷ xs) some = list_some_by p xs (p x) (list_some p xs) (omega (arith, count_cons p x xs))

list_none_by : {X : Type 0} (p : X → Bool) (xs : List X) (test : Bool) → (count_by p xs ≡ 0 → list_any p xs ≡ false) → number test + count_by p xs ≡ 0
    → (test || list_any p xs) ≡ false
list_none_by p xs true rest none = absurd (omega arith)
list_none_by p xs false rest none = rest (omega arith)

pub list_none : {X : Type 0} (p : X → Bool) (xs : List X) → count_by p xs ≡ 0 → list_any p xs ≡ false
list_none p [] none = refl
list_none p (x ∷ xs) none = list_none_by p xs (p x) (list_none p xs) (omega (arith, count_cons p x xs))

-- ---- all but one

pub map_same : {X Y : Type 0} (f g : X → Y) (xs : List X) (d : X) → ((j : ℕ) → j < length xs → f (get_or xs j d) ≡ g (get_or xs j d))
    → map f xs ≡ map g xs
map_same f g [] d same = refl
map_same f g (x ∷ xs) d same =
    ap (λ y. y ∷ map f xs) (same 0 (omega arith)) ∙ ap (λ ys. g x ∷ ys) (map_same f g xs d (λ j inside. same (suc j) (omega arith)))

pub map_but : {X Y : Type 0} (f g : X → Y) (xs : List X) (i : ℕ) (y : Y) (d : X)
    → ((j : ℕ) → j < length xs → j ≢ i → f (get_or xs j d) ≡ g (get_or xs j d)) → set (map f xs) i y ≡ set (map g xs) i y
map_but f g [] i y d same = refl
map_but f g (x ∷ xs) zero y d same =
    ap (λ ys. y ∷ ys) (map_same f g xs d (λ j inside. same (suc j) (omega arith) (omega arith)))
map_but f g (x ∷ xs) (suc i) y d same =
    ap (λ z. z ∷ set (map f xs) i y) (same 0 (omega arith) (omega arith))
    ∙ ap (λ ys. g x ∷ ys) (map_but f g xs i y d (λ j inside apart. same (suc j) (omega arith) (λ e. apart (omega arith))))

pub all_others : {X : Type 0} (P Q : X → Type 0) (xs : List X) (d : X) → AllByRecursion P xs
    → ((j : ℕ) → j < length xs → P (get_or xs j d) → Q (get_or xs j d)) → AllByRecursion Q xs
all_others P Q [] d all weaker = tt
all_others P Q (x ∷ xs) d all weaker = (weaker 0 (omega arith) all.0, all_others P Q xs d all.1 (λ j inside. weaker (suc j) (omega arith)))

pub all_but : {X : Type 0} (P Q : X → Type 0) (xs : List X) (i : ℕ) (y d : X) → AllByRecursion P xs
    → ((j : ℕ) → j < length xs → j ≢ i → P (get_or xs j d) → Q (get_or xs j d)) → Q y → AllByRecursion Q (set xs i y)
all_but P Q [] i y d all others this = tt
all_but P Q (x ∷ xs) zero y d all others this = (this, all_others P Q xs d all.1 (λ j inside. others (suc j) (omega arith) (omega arith)))
all_but P Q (x ∷ xs) (suc i) y d all others this =
    (others 0 (omega arith) (omega arith) all.0, all_but P Q xs i y d all.1 (λ j inside apart. others (suc j) (omega arith) (λ e. apart (omega arith))) this)
