-- Counting over a list: of flags, of a list of which one item changes, of two lists that agree.
use Rattle.std.proofs.Common.{◌≡◌, ◌+◌, ◌<◌, ◌≤◌, ℕ, suc, Bool, true, false, List, [], ◌∷◌, length, get_or, set, refl, ap, ◌∙◌, arith}
use Rattle.std.specs.Prelude.{◌||◌}
use Rattle.std.specs.List.{count_by, list_any}
use Rattle.std.proofs.lemmas.List.Sums.{sum_by-cons, sum_by-set, get_or-le-sum_by}
use Rattle.session_swap.specs.Items.{flag}

pub flag_true : (b : Bool) → b ≡ true → flag b ≡ 1
flag_true b is = ap flag is

pub flag_false : (b : Bool) → b ≡ false → flag b ≡ 0
flag_false b is = ap flag is

pub flag_most : (b : Bool) → flag b ≤ 1
flag_most true = omega arith
flag_most false = omega arith

pub is_false : (b : Bool) → flag b ≤ 0 → b ≡ false
is_false true h = absurd (omega arith)
is_false false h = refl

pub is_true : (b : Bool) → 1 ≤ flag b → b ≡ true
is_true true h = refl
is_true false h = absurd (omega arith)

-- ---- counts

pub count_cons : {X : Type 0} (p : X → Bool) (x : X) (xs : List X) → count_by p (x ∷ xs) ≡ flag (p x) + count_by p xs
count_cons p x xs = sum_by-cons (λ y. flag (p y)) x xs

pub count_set : {X : Type 0} (p : X → Bool) (xs : List X) (i : ℕ) (y d : X) → i < length xs
    → count_by p (set xs i y) + flag (p (get_or xs i d)) ≡ count_by p xs + flag (p y)
count_set p xs i y d inside = sum_by-set (λ x. flag (p x)) xs i y d inside

pub count_one : {X : Type 0} (p : X → Bool) (xs : List X) (i : ℕ) (d : X) → i < length xs
    → flag (p (get_or xs i d)) ≤ count_by p xs
count_one p xs i d inside = get_or-le-sum_by (λ x. flag (p x)) xs i d inside

-- two lists whose items agree by number
pub count_same : {X Y : Type 0} (p : X → Bool) (q : Y → Bool) (xs : List X) (ys : List Y) (d : X) (e : Y) → length xs ≡ length ys
    → ((i : ℕ) → i < length xs → p (get_or xs i d) ≡ q (get_or ys i e)) → count_by p xs ≡ count_by q ys
count_same p q [] [] d e long same = refl
count_same p q [] (y ∷ ys) d e long same = absurd (omega arith)
count_same p q (x ∷ xs) [] d e long same = absurd (omega arith)
count_same p q (x ∷ xs) (y ∷ ys) d e long same =
    let first : flag (p x) ≡ flag (q y) = ap flag (same 0 (omega arith)) in
    let rest = count_same p q xs ys d e (omega arith) (λ i inside. same (suc i) (omega arith)) in
    omega (arith, count_cons p x xs, count_cons q y ys, first, rest)

-- nothing that isn't counted passes
none_by : {X : Type 0} (p : X → Bool) (x : X) (rest : Bool) → flag (p x) ≤ 0 → rest ≡ false → (p x || rest) ≡ false
none_by p x rest out none = ap (λ (b : Bool). b || rest) (is_false (p x) out) ∙ none

pub none_counted : {X : Type 0} (p : X → Bool) (xs : List X) → count_by p xs ≡ 0 → list_any p xs ≡ false
none_counted p [] none = refl
none_counted p (x ∷ xs) none =
    none_by p x (list_any p xs) (omega (arith, none, count_cons p x xs)) (none_counted p xs (omega (arith, none, count_cons p x xs)))
