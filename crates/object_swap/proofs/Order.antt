-- The order of use: what leaves a list, and what becomes its last.
use Rattle.std.proofs.Common.{◌≡◌, ◌+◌, ◌<◌, ◌≤◌, inl, inr, ℕ, zero, suc, Bool, true, false, List, [], ◌∷◌, ◌++◌, length, get_or, take, refl, ap, sym, ◌∙◌, arith}
use Rattle.std.specs.Prelude.{◌==◌, if◌then◌else◌}
use Rattle.std.specs.List.{count_by, remove}
use Rattle.std.proofs.lemmas.Bool.{cases_lt, eq-eqb, ne_eqb}
use Rattle.std.proofs.lemmas.List.{take_all, take_more}
use Rattle.std.proofs.lemmas.List.Sums.{count_by-le-length}
use Rattle.device_port.specs.Use.{all_used, first_unneeded, is_among, next_unneeded, used_after, without_first, without_one, without_unneeded}
use Rattle.object_swap.specs.Records.{number}
use Rattle.object_swap.proofs.Counts.{count_append, count_cons, number_true}

-- the first that isn't needed leaves its place
pub without_at : (needed order : List ℕ) (at : ℕ) → at < length order → is_among needed (get_or order at 0) ≡ false
    → ((k : ℕ) → k < at → is_among needed (get_or order k 0) ≡ true) → without_unneeded needed order ≡ remove order at
without_at needed [] at inside out before = absurd (omega (arith, inside))
without_at needed (one ∷ order) zero inside out before = ap (λ (b : Bool). if b then one ∷ without_unneeded needed order else order) out
without_at needed (one ∷ order) (suc at) inside out before =
    ap (λ (b : Bool). if b then one ∷ without_unneeded needed order else order) (before 0 (omega arith))
    ∙ ap (λ (l : List ℕ). one ∷ l) (without_at needed order at (omega (arith, inside)) out (λ k below. before (suc k) (omega arith)))

-- and it is the one that leaves
pub next_at : (needed order : List ℕ) (at : ℕ) → at < length order → is_among needed (get_or order at 0) ≡ false
    → ((k : ℕ) → k < at → is_among needed (get_or order k 0) ≡ true) → next_unneeded needed order ≡ get_or order at 0 ∷ []
next_at needed [] at inside out before = absurd (omega (arith, inside))
next_at needed (one ∷ order) zero inside out before = ap (λ (b : Bool). if b then next_unneeded needed order else one ∷ []) out
next_at needed (one ∷ order) (suc at) inside out before =
    ap (λ (b : Bool). if b then next_unneeded needed order else one ∷ []) (before 0 (omega arith))
    ∙ next_at needed order at (omega (arith, inside)) out (λ k below. before (suc k) (omega arith))

-- ---- those that leave, counted

-- one more leaves
pub leaves_more : (p : ℕ → Bool) (needed order left : List ℕ) (k index : ℕ) → left ≡ without_first k needed order → next_unneeded needed left ≡ index ∷ []
    → count_by p (first_unneeded (suc k) needed order) ≡ count_by p (first_unneeded k needed order) + number (p index)
leaves_more p needed order left k index is next =
    omega (
      arith,
      count_append p (first_unneeded k needed order) (next_unneeded needed (without_first k needed order)),
      ap (λ (l : List ℕ). count_by p (next_unneeded needed l)) is,
      ap (count_by p) next,
      count_cons p index [],
    )

leaves_same : (p : ℕ → Bool) (needed order : List ℕ) (k most : ℕ) → k ≡ most
    → count_by p (first_unneeded k needed order) ≤ count_by p (first_unneeded most needed order)
leaves_same p needed order k most is = omega (arith, ap (λ (n : ℕ). count_by p (first_unneeded n needed order)) is)

-- no fewer leave
pub leaves_least : (p : ℕ → Bool) (needed order : List ℕ) (k most : ℕ) → k ≤ most
    → count_by p (first_unneeded k needed order) ≤ count_by p (first_unneeded most needed order)
leaves_least p needed order k zero less = leaves_same p needed order k zero (omega (arith, less))
leaves_least p needed order k (suc most) less =
    elim (cases_lt k (suc most)) [
      | inl below ↦ omega (
        arith,
        leaves_least p needed order k most (omega (arith, below)),
        count_append p (first_unneeded most needed order) (next_unneeded needed (without_first most needed order)),
      )
      | inr past ↦ leaves_same p needed order k (suc most) (omega (arith, past, less))
    ]

next_few_by : (one : ℕ) (rest : List ℕ) (among : Bool) → length rest ≤ 1 → length (if among then rest else one ∷ []) ≤ 1
next_few_by one rest true few = few
next_few_by one rest false few = omega arith

next_few : (needed order : List ℕ) → length (next_unneeded needed order) ≤ 1
next_few needed [] = omega arith
next_few needed (one ∷ order) = next_few_by one (next_unneeded needed order) (is_among needed one) (next_few needed order)

-- no more than that
pub leaves_few : (p : ℕ → Bool) (needed order : List ℕ) (k : ℕ) → count_by p (first_unneeded k needed order) ≤ k
leaves_few p needed order zero = omega arith
leaves_few p needed order (suc k) =
    let next = next_unneeded needed (without_first k needed order) in
    omega (
      arith,
      leaves_few p needed order k,
      count_append p (first_unneeded k needed order) next,
      count_by-le-length p next,
      next_few needed (without_first k needed order),
    )

-- ---- one that leaves by itself

-- the first that is this one leaves its place
pub one_at : (index : ℕ) (order : List ℕ) (at : ℕ) → at < length order → get_or order at 0 ≡ index
    → ((k : ℕ) → k < at → get_or order k 0 ≡ index → ⊥) → without_one index order ≡ remove order at
one_at index [] at inside is before = absurd (omega (arith, inside))
one_at index (one ∷ order) zero inside is before =
    ap (λ (b : Bool). if b then order else one ∷ without_one index order) (eq-eqb one index is)
one_at index (one ∷ order) (suc at) inside is before =
    ap (λ (b : Bool). if b then order else one ∷ without_one index order) (ne_eqb one index (before 0 (omega arith)))
    ∙ ap (λ (l : List ℕ). one ∷ l) (one_at index order at (omega (arith, inside)) is (λ k below. before (suc k) (omega arith)))

none_by : (index one : ℕ) (order : List ℕ) (same : Bool) → (one == index) ≡ same → count_by (λ one. one == index) (one ∷ order) ≡ 0
    → (if same then order else one ∷ order) ≡ one ∷ order
none_by index one order true is none = absurd (omega (arith, count_cons (λ (one : ℕ). one == index) one order, number_true (one == index) is))
none_by index one order false is none = refl

-- without one that isn't listed
pub without_unlisted : (index : ℕ) (order : List ℕ) → count_by (λ one. one == index) order ≡ 0 → without_one index order ≡ order
without_unlisted index [] none = refl
without_unlisted index (one ∷ order) none =
    ap (λ (l : List ℕ). if one == index then order else one ∷ l)
    (without_unlisted index order (omega (arith, count_cons (λ (one : ℕ). one == index) one order)))
    ∙ none_by index one order (one == index) refl none

used_last : (needed order : List ℕ) (index : ℕ) → all_used order (needed ++ index ∷ []) ≡ used_after (all_used order needed) index
used_last [] order index = refl
used_last (one ∷ needed) order index = used_last needed (used_after order one) index

-- one more is used
pub used_next : (needed order : List ℕ) (k : ℕ) → k < length needed
    → used_after (all_used order (take k needed)) (get_or needed k 0) ≡ all_used order (take (k + 1) needed)
used_next needed order k inside =
    sym (ap (all_used order) (take_more needed k 0 inside) ∙ used_last (take k needed) order (get_or needed k 0))

-- and when all are used
pub used_all : (needed order : List ℕ) (k : ℕ) → length needed ≤ k → all_used order (take k needed) ≡ all_used order needed
used_all needed order k past = ap (all_used order) (take_all k needed past)
