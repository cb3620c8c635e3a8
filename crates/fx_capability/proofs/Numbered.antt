-- Sessions that stand in places by their numbers, each place with one at most: how they are listed.
use Rattle.std.proofs.Common.{◌≡◌, ◌+◌, ◌<◌, ◌≤◌, ℕ, zero, suc, true, leb, ltb, List, [], ◌∷◌, ◌++◌, length, get_or, refl, ap, ◌∙◌, subst, sym, arith}
use Rattle.std.specs.Prelude.{Option, Some, None}
use Rattle.std.proofs.lemmas.Bool.{and_from, eq-eqb, le-leb, lt-ltb, ne_eqb}
use Rattle.tab_spec.specs.Shape.{number_of_session}
use Rattle.effect_spec.specs.Capabilities.{Listed}
use Rattle.fx_capability.specs.Lists.{rises_from, all_below, session_numbers, session_in}

-- what the places list, the first of which has this number
abbrev pub by_number : {X : Type 0} → (ℕ → X → List Listed) → ℕ → List X → List Listed
by_number item n [] = []
by_number item n (x ∷ xs) = item n x ++ by_number item (n + 1) xs

-- a place lists the session of its number, or nothing
abbrev pub IsAt : ℕ → List Listed → Type 0
IsAt n [] = Unit {0}
IsAt n (s ∷ []) = number_of_session s.handle ≡ n
IsAt n (s ∷ t ∷ more) = ⊥

-- each place below a number does
abbrev pub AreAt : {X : Type 0} → ℕ → (ℕ → X → List Listed) → Type 0
AreAt {X} most item = (n : ℕ) (x : X) → n < most → IsAt n (item n x)

rise_onto : (least n : ℕ) (items more : List Listed) → IsAt n items → least ≤ n → rises_from (n + 1) (session_numbers more) ≡ true
    → rises_from least (session_numbers more) ≡ true → rises_from least (session_numbers (items ++ more)) ≡ true
rise_onto least n [] more is above rest same = same
rise_onto least n (s ∷ []) more is above rest same =
    let number = number_of_session s.handle in
    and_from (leb least number) (rises_from (number + 1) (session_numbers more)) (le-leb least number (omega (arith, above, is)))
    (subst (λ (m : ℕ). rises_from (m + 1) (session_numbers more) ≡ true) (sym is) rest)
rise_onto least n (s ∷ t ∷ items) more is above rest same = absurd is

rise : {X : Type 0} (item : ℕ → X → List Listed) (most least n : ℕ) (xs : List X) → AreAt most item → n + length xs ≤ most → least ≤ n
    → rises_from least (session_numbers (by_number item n xs)) ≡ true
rise item most least n [] are within above = refl
rise item most least n (x ∷ xs) are within above =
    rise_onto least n (item n x) (by_number item (n + 1) xs) (are n x (omega (arith, within))) above
    (rise item most (n + 1) (n + 1) xs are (omega (arith, within)) (omega arith))
    (rise item most least (n + 1) xs are (omega (arith, within)) (omega (arith, above)))

fit_onto : (most n : ℕ) (items more : List Listed) → IsAt n items → n < most → all_below most (session_numbers more) ≡ true
    → all_below most (session_numbers (items ++ more)) ≡ true
fit_onto most n [] more is below rest = rest
fit_onto most n (s ∷ []) more is below rest =
    and_from (ltb (number_of_session s.handle) most) (all_below most (session_numbers more))
    (lt-ltb (number_of_session s.handle) most (omega (arith, below, is))) rest
fit_onto most n (s ∷ t ∷ items) more is below rest = absurd is

fit : {X : Type 0} (item : ℕ → X → List Listed) (most bound n : ℕ) (xs : List X) → AreAt most item → n + length xs ≤ most → n + length xs ≤ bound
    → all_below bound (session_numbers (by_number item n xs)) ≡ true
fit item most bound n [] are within below = refl
fit item most bound n (x ∷ xs) are within below =
    fit_onto bound n (item n x) (by_number item (n + 1) xs) (are n x (omega (arith, within))) (omega (arith, below))
    (fit item most bound (n + 1) xs are (omega (arith, within)) (omega (arith, below)))

-- the numbers rise, and are below the count of places
pub numbers_rise : {X : Type 0} (item : ℕ → X → List Listed) (most count : ℕ) (xs : List X) → AreAt most item → length xs ≤ count → count ≤ most
    → rises_from 0 (session_numbers (by_number item 0 xs)) ≡ true
numbers_rise item most count xs are few within = rise item most 0 0 xs are (omega (arith, few, within)) (omega arith)

pub numbers_fit : {X : Type 0} (item : ℕ → X → List Listed) (most count : ℕ) (xs : List X) → AreAt most item → length xs ≤ count → count ≤ most
    → all_below count (session_numbers (by_number item 0 xs)) ≡ true
numbers_fit item most count xs are few within = fit item most count 0 xs are (omega (arith, few, within)) (omega (arith, few))

-- ---- the session of a number

abbrev pub first_of_items : List Listed → Option Listed
first_of_items [] = None
first_of_items (s ∷ items) = Some s

passed : (n k : ℕ) (items more : List Listed) → IsAt k items → (k ≡ n → ⊥) → session_in n (items ++ more) ≡ session_in n more
passed n k [] more is other = refl
passed n k (s ∷ []) more is other =
    rw (ne_eqb (number_of_session s.handle) n (λ same. other (sym is ∙ same))) refl
passed n k (s ∷ t ∷ items) more is other = absurd is

absent : {X : Type 0} (item : ℕ → X → List Listed) (most n k : ℕ) (xs : List X) → AreAt most item → n < k → k + length xs ≤ most
    → session_in n (by_number item k xs) ≡ None
absent item most n k [] are past within = refl
absent item most n k (x ∷ xs) are past within =
    passed n k (item k x) (by_number item (k + 1) xs) (are k x (omega (arith, within))) (λ same. omega (arith, same, past))
    ∙ absent item most n (k + 1) xs are (omega arith) (omega (arith, within))

here : (n : ℕ) (items more : List Listed) → IsAt n items → session_in n more ≡ None → session_in n (items ++ more) ≡ first_of_items items
here n [] more is none = none
here n (s ∷ []) more is none = rw (eq-eqb (number_of_session s.handle) n is) refl
here n (s ∷ t ∷ items) more is none = absurd is

found_from : {X : Type 0} (item : ℕ → X → List Listed) (nothing : X) (most k i n : ℕ) (xs : List X) → AreAt most item
    → ((m : ℕ) → item m nothing ≡ []) → n ≡ k + i → k + length xs ≤ most
    → session_in n (by_number item k xs) ≡ first_of_items (item n (get_or xs i nothing))
found_from item nothing most k i n [] are none is within = sym (ap first_of_items (none n))
found_from {X} item nothing most k zero n (x ∷ xs) are none is within =
    let same : k ≡ n = omega (arith, is) in
    subst (λ (m : ℕ). session_in m (by_number item k (x ∷ xs)) ≡ first_of_items (item m x)) same
    (here k (item k x) (by_number item (k + 1) xs) (are k x (omega (arith, within)))
    (absent item most k (k + 1) xs are (omega arith) (omega (arith, within))))
found_from item nothing most k (suc i) n (x ∷ xs) are none is within =
    passed n k (item k x) (by_number item (k + 1) xs) (are k x (omega (arith, within))) (λ same. omega (arith, same, is))
    ∙ found_from item nothing most (k + 1) i n xs are none (omega (arith, is)) (omega (arith, within))

-- is the one that its place lists
pub session_found : {X : Type 0} (item : ℕ → X → List Listed) (nothing : X) (most n : ℕ) (xs : List X) → AreAt most item
    → ((m : ℕ) → item m nothing ≡ []) → length xs ≤ most
    → session_in n (by_number item 0 xs) ≡ first_of_items (item n (get_or xs n nothing))
session_found item nothing most n xs are none within = found_from item nothing most 0 n n xs are none (omega arith) (omega (arith, within))
