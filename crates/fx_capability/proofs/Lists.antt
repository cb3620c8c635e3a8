-- Lists that rise by a number: which item is the next, and what is left after it.
use Rattle.std.proofs.Common.{◌≡◌, ◌+◌, ◌<◌, ◌≤◌, inl, inr, ℕ, zero, suc, Bool, true, false, cond, eqb, ltb, leb, List, [], ◌∷◌, ◌++◌, map, refl, ap, sym, subst, ◌∙◌, arith}
use Rattle.std.specs.Prelude.{Option, Some, None, IfSome, ◌&&◌}
use Rattle.std.specs.List.{filter, find, fold, range_with_len}
use Rattle.std.proofs.lemmas.Bool.{leb-true, leb-false, le-leb, lt-leb, lt-ltb, le-ltb, ltb-true, eq-eqb, ne_eqb, and_parts, and_from, cases_lt, cases_order, cond_both}
use Rattle.std.specs.Int.{w32, to_be_bytes}
use Rattle.effect_spec.specs.Capabilities.{inserted, upwards, from_number}
use Rattle.fx_capability.specs.Lists.{rises_from, all_below, number_from, lesser}

-- the items of a sort whose number isn't below this one
abbrev pub left_from : {X : Type 0} → (X → Bool) → (X → ℕ) → ℕ → List X → List X
left_from keep key n xs = filter (λ x. keep x && leb n (key x)) xs

-- the same items are left from any number up to the first
pub left_same : {X : Type 0} (keep : X → Bool) (key : X → ℕ) (first n m : ℕ) (xs : List X)
    → rises_from first (map key xs) ≡ true → n ≤ first → m ≤ first → left_from keep key n xs ≡ left_from keep key m xs
left_same keep key first n m [] rise n_below m_below = refl
left_same keep key first n m (x ∷ xs) rise n_below m_below =
    let parts = and_parts (leb first (key x)) (rises_from (key x + 1) (map key xs)) rise in
    let above : first ≤ key x = leb-true first (key x) parts.0 in
    let rest : left_from keep key n xs ≡ left_from keep key m xs =
    left_same keep key (key x + 1) n m xs parts.1 (omega (arith, above, n_below)) (omega (arith, above, m_below)) in
    rw (le-leb n (key x) (omega (arith, above, n_below)), le-leb m (key x) (omega (arith, above, m_below)), rest) refl

-- ---- looked up by its very number

-- no item has a number below the first
pub none_before : {X : Type 0} (key : X → ℕ) (first n : ℕ) (xs : List X)
    → rises_from first (map key xs) ≡ true → n < first → find (λ x. eqb (key x) n) xs ≡ None
none_before key first n [] rise below = refl
none_before key first n (x ∷ xs) rise below =
    let parts = and_parts (leb first (key x)) (rises_from (key x + 1) (map key xs)) rise in
    let above : first ≤ key x = leb-true first (key x) parts.0 in
    rw (ne_eqb (key x) n (λ is. omega (arith, above, below, is)), none_before key (key x + 1) n xs parts.1 (omega (arith, above, below))) refl

-- what was looked up, where it is of the sort
abbrev pub kept : {X : Type 0} → (X → Bool) → Option X → List X
kept keep None = []
kept keep (Some x) = cond (keep x) (x ∷ []) []

kept_first : {X : Type 0} (keep : Bool) (x : X) (xs : List X) → cond keep (x ∷ xs) xs ≡ cond keep (x ∷ []) [] ++ xs
kept_first true x xs = refl
kept_first false x xs = refl

and_yes : (keep : Bool) → (keep && true) ≡ keep
and_yes true = refl
and_yes false = refl

and_no : (keep : Bool) → (keep && false) ≡ false
and_no true = refl
and_no false = refl

-- the items from a number on are the one of that number and those from the next number on
pub left_step : {X : Type 0} (keep : X → Bool) (key : X → ℕ) (first n : ℕ) (xs : List X) → rises_from first (map key xs) ≡ true
    → left_from keep key n xs ≡ kept keep (find (λ x. eqb (key x) n) xs) ++ left_from keep key (n + 1) xs
left_step keep key first n [] rise = refl
left_step keep key first n (x ∷ xs) rise =
    let parts = and_parts (leb first (key x)) (rises_from (key x + 1) (map key xs)) rise in
    elim (cases_order (key x) n) [
      | inl is ↦
          let rest : left_from keep key n xs ≡ left_from keep key (n + 1) xs =
          left_same keep key (key x + 1) n (n + 1) xs parts.1 (omega (arith, is)) (omega (arith, is)) in
          rw (eq-eqb (key x) n is, le-leb n (key x) (omega (arith, is)), lt-leb (n + 1) (key x) (omega (arith, is)), and_yes (keep x), and_no (keep x), rest)
          (kept_first (keep x) x (left_from keep key (n + 1) xs))
      | inr (inl less) ↦
          rw (ne_eqb (key x) n (λ is. omega (arith, less, is)), lt-leb n (key x) less, lt-leb (n + 1) (key x) (omega (arith, less)), and_no (keep x))
          (left_step keep key (key x + 1) n xs parts.1)
      | inr (inr more) ↦
          let rest : left_from keep key n xs ≡ left_from keep key (n + 1) xs =
          left_same keep key (key x + 1) n (n + 1) xs parts.1 (omega (arith, more)) (omega (arith, more)) in
          rw (
            ne_eqb (key x) n (λ is. omega (arith, more, is)),
            none_before key (key x + 1) n xs parts.1 (omega (arith, more)),
            le-leb n (key x) (omega (arith, more)),
            le-leb (n + 1) (key x) (omega (arith, more)),
            rest,
          ) refl
    ]

-- from a number on that no item reaches, nothing is left
pub left_none : {X : Type 0} (keep : X → Bool) (key : X → ℕ) (most n : ℕ) (xs : List X)
    → all_below most (map key xs) ≡ true → most ≤ n → left_from keep key n xs ≡ []
left_none keep key most n [] fit past = refl
left_none keep key most n (x ∷ xs) fit past =
    let parts = and_parts (ltb (key x) most) (all_below most (map key xs)) fit in
    let below : key x < most = ltb-true (key x) most parts.0 in
    rw (lt-leb n (key x) (omega (arith, below, past)), and_no (keep x), left_none keep key most n xs parts.1 past) refl

-- from 0 on all are left
pub left_all : {X : Type 0} (keep : X → Bool) (key : X → ℕ) (xs : List X) → left_from keep key 0 xs ≡ filter keep xs
left_all keep key [] = refl
left_all keep key (x ∷ xs) = rw (le-leb 0 (key x) (omega arith), and_yes (keep x), left_all keep key xs) refl

-- ---- looked up as the first that isn't below a number

-- what was found isn't below it
pub found_above : {X : Type 0} (key : X → ℕ) (n : ℕ) (xs : List X) → IfSome (find (λ x. leb n (key x)) xs) (λ y. n ≤ key y)
found_above key n [] = tt
found_above key n (x ∷ xs) =
    cond_both (leb n (key x)) (Some x) (find (λ x. leb n (key x)) xs) (λ found. IfSome found (λ y. n ≤ key y))
    (λ above. leb-true n (key x) above) (λ below. found_above key n xs)

-- the items from a number on, by the first of them
abbrev pub NextIs : {X : Type 0} → (X → ℕ) → ℕ → List X → Option X → Type 0
NextIs key n xs None = filter (λ x. leb n (key x)) xs ≡ []
NextIs key n xs (Some y) = filter (λ x. leb n (key x)) xs ≡ y ∷ filter (λ x. leb (key y + 1) (key x)) xs

next_later : {X : Type 0} (key : X → ℕ) (n : ℕ) (x : X) (xs : List X) (found : Option X) → key x < n → IfSome found (λ y. n ≤ key y)
    → NextIs key n xs found → NextIs key n (x ∷ xs) found
next_later key n x xs None less above is = rw (lt-leb n (key x) less) is
next_later key n x xs (Some y) less above is = rw (lt-leb n (key x) less, lt-leb (key y + 1) (key x) (omega (arith, less, above))) is

pub next_found : {X : Type 0} (key : X → ℕ) (first n : ℕ) (xs : List X) → rises_from first (map key xs) ≡ true
    → NextIs key n xs (find (λ x. leb n (key x)) xs)
next_found key first n [] rise = refl
next_found key first n (x ∷ xs) rise =
    let parts = and_parts (leb first (key x)) (rises_from (key x + 1) (map key xs)) rise in
    cond_both (leb n (key x)) (Some x) (find (λ x. leb n (key x)) xs) (NextIs key n (x ∷ xs))
    (λ above.
    let rest : filter (λ z. leb n (key z)) xs ≡ filter (λ z. leb (key x + 1) (key z)) xs =
    left_same (λ z. true) key (key x + 1) n (key x + 1) xs parts.1 (omega (arith, leb-true n (key x) above)) (omega arith) in
    rw (above, lt-leb (key x + 1) (key x) (omega arith), rest) refl)
    (λ below. next_later key n x xs (find (λ z. leb n (key z)) xs) (leb-false n (key x) below) (found_above key n xs) (next_found key (key x + 1) n xs parts.1))

-- ---- numbers upwards

-- one more number keeps the rise
inserted_rise : (first n : ℕ) (xs : List ℕ) → rises_from first xs ≡ true → first ≤ n → rises_from first (inserted xs n) ≡ true
inserted_rise first n [] rise above = and_from (leb first n) true (le-leb first n above) refl
inserted_rise first n (next ∷ more) rise above =
    let parts = and_parts (leb first next) (rises_from (next + 1) more) rise in
    elim (cases_order n next) [
      | inl is ↦ rw (le-ltb n next (omega (arith, is)), eq-eqb n next is) rise
      | inr (inl less) ↦
          rw (lt-ltb n next less)
          (and_from (leb first n) (rises_from (n + 1) (next ∷ more)) (le-leb first n above)
          (and_from (leb (n + 1) next) (rises_from (next + 1) more) (le-leb (n + 1) next (omega (arith, less))) parts.1))
      | inr (inr greater) ↦
          rw (le-ltb n next (omega (arith, greater)), ne_eqb n next (λ is. omega (arith, greater, is)))
          (and_from (leb first next) (rises_from (next + 1) (inserted more n)) parts.0
          (inserted_rise (next + 1) n more parts.1 (omega (arith, greater))))
    ]

upwards_onto : (before numbers : List ℕ) → rises_from 0 before ≡ true → rises_from 0 (fold inserted before numbers) ≡ true
upwards_onto before [] rise = rise
upwards_onto before (n ∷ numbers) rise = upwards_onto (inserted before n) numbers (inserted_rise 0 n before rise (omega arith))

pub upwards_rise : (numbers : List ℕ) → rises_from 0 (upwards numbers) ≡ true
upwards_rise numbers = upwards_onto [] numbers refl

-- the first that isn't below a number is the lesser of the one before and the number that was added
lesser_some : (least n found : ℕ) → least ≤ n → n < found → lesser least (Some found) n ≡ Some n
lesser_some least n found above less = rw (le-leb least n above, lt-ltb n found less) refl

lesser_kept : (least n found : ℕ) → found ≤ n → lesser least (Some found) n ≡ Some found
lesser_kept least n found le = rw (le-ltb n found le, and_no (leb least n)) refl

lesser_below : (least n : ℕ) (found : Option ℕ) → n < least → lesser least found n ≡ found
lesser_below least n None below = rw (lt-leb least n below) refl
lesser_below least n (Some found) below = rw (lt-leb least n below) refl

pub inserted_first : (least n : ℕ) (xs : List ℕ) → number_from least (inserted xs n) ≡ lesser least (number_from least xs) n
inserted_first least n [] = refl
inserted_first least n (next ∷ more) =
    elim (cases_order n next) [
      | inl is ↦
          rw (le-ltb n next (omega (arith, is)), eq-eqb n next is)
          (elim (cases_lt n least) [
            | inl below ↦ sym (lesser_below least n (number_from least (next ∷ more)) below)
            | inr above ↦ rw (le-leb least next (omega (arith, above, is))) (sym (lesser_kept least n next (omega (arith, is))))
          ])
      | inr (inl less) ↦
          rw (lt-ltb n next less)
          (elim (cases_lt n least) [
            | inl below ↦ rw (lt-leb least n below) (sym (lesser_below least n (number_from least (next ∷ more)) below))
            | inr above ↦
                rw (le-leb least n above, le-leb least next (omega (arith, above, less))) (sym (lesser_some least n next above less))
          ])
      | inr (inr greater) ↦
          rw (le-ltb n next (omega (arith, greater)), ne_eqb n next (λ is. omega (arith, greater, is)))
          (elim (cases_lt next least) [
            | inl below ↦ rw (lt-leb least next below) (inserted_first least n more)
            | inr above ↦ rw (le-leb least next above) (sym (lesser_kept least n next (omega (arith, greater))))
          ])
    ]

-- ---- the same of numbers as they are listed

abbrev pub NextNumber : ℕ → List ℕ → Option ℕ → Type 0
NextNumber least numbers None = from_number least numbers ≡ []
NextNumber least numbers (Some n) = from_number least numbers ≡ to_be_bytes w32 n ∷ from_number (n + 1) numbers

shown_next : (least : ℕ) (numbers : List ℕ) (found : Option ℕ) → NextIs (λ n. n) least numbers found → NextNumber least numbers found
unfolding from_number
shown_next least numbers None is = ap (map (λ n. to_be_bytes w32 n)) is
shown_next least numbers (Some n) is = ap (map (λ n. to_be_bytes w32 n)) is

map_same : (numbers : List ℕ) → map (λ n. n) numbers ≡ numbers
map_same [] = refl
map_same (n ∷ numbers) = ap (λ (rest : List ℕ). n ∷ rest) (map_same numbers)

pub next_number : (least : ℕ) (numbers : List ℕ) → rises_from 0 numbers ≡ true → NextNumber least numbers (number_from least numbers)
next_number least numbers rise =
    shown_next least numbers (number_from least numbers)
    (next_found (λ n. n) 0 least numbers (ap (rises_from 0) (map_same numbers) ∙ rise))

-- the number that was looked up is the next item
pub number_found : (least : ℕ) (numbers : List ℕ) (n : ℕ) → rises_from 0 numbers ≡ true → Some n ≡ number_from least numbers
    → from_number least numbers ≡ to_be_bytes w32 n ∷ from_number (n + 1) numbers
number_found least numbers n rise is = subst (NextNumber least numbers) (sym is) (next_number least numbers rise)

pub number_none : (least : ℕ) (numbers : List ℕ) → rises_from 0 numbers ≡ true → None ≡ number_from least numbers → from_number least numbers ≡ []
number_none least numbers rise is = subst (NextNumber least numbers) (sym is) (next_number least numbers rise)

-- from a number on that none reaches, there is none
pub number_past : (most least : ℕ) (numbers : List ℕ) → all_below most numbers ≡ true → most ≤ least → None ≡ number_from least numbers
number_past most least [] fit past = refl
number_past most least (n ∷ numbers) fit past =
    let parts = and_parts (ltb n most) (all_below most numbers) fit in
    rw (lt-leb least n (omega (arith, ltb-true n most parts.0, past))) (number_past most least numbers parts.1 past)

-- ---- numbers without a gap

pub within_range : (first count least : ℕ) → first ≤ least → least < first + count → number_from least (range_with_len first count) ≡ Some least
within_range first zero least above below = absurd (omega (arith, above, below))
within_range first (suc count) least above below =
    elim (cases_order first least) [
      | inl is ↦ rw (le-leb least first (omega (arith, is))) (ap (λ (n : ℕ). Some n) is)
      | inr (inl less) ↦ rw (lt-leb least first less) (within_range (first + 1) count least (omega (arith, less)) (omega (arith, below)))
      | inr (inr more) ↦ absurd (omega (arith, above, more))
    ]

pub past_range : (first count least : ℕ) → first + count ≤ least → number_from least (range_with_len first count) ≡ None
past_range first zero least past = refl
past_range first (suc count) least past =
    rw (lt-leb least first (omega (arith, past))) (past_range (first + 1) count least (omega (arith, past)))
