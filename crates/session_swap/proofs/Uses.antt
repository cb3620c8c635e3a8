-- Numbers in the order of their use: which one is taken out of the list, and which one comes to its end.
use Rattle.std.proofs.Common.{◌≡◌, ◌+◌, ◌<◌, ◌≤◌, ◌⊎◌, inl, inr, ℕ, zero, suc, Bool, true, false, List, [], ◌∷◌, ◌++◌, length, get_or, take, refl, ap, sym, ◌∙◌, arith}
use Rattle.std.specs.Prelude.{◌==◌, if◌then◌else◌}
use Rattle.std.specs.List.{count_by, remove}
use Rattle.std.proofs.lemmas.Bool.{eq-eqb, eqb-true, ne_eqb}
use Rattle.std.proofs.lemmas.List.{append-nil, append_assoc, take_all, take_more}
use Rattle.std.proofs.lemmas.List.Edits.{length-remove}
use Rattle.device_port.specs.Use.{first_unneeded, is_among, next_unneeded, used_after, without_first, without_one, without_unneeded}
use Rattle.session_swap.specs.Records.{OrderView, order_evicted, order_filled, order_in, order_out}
use Rattle.session_swap.proofs.Counts.{count_cons, flag_false, is_false}

-- ---- without one of them

-- it is found at the first place where it stands
pub without_at : (number : ℕ) (xs : List ℕ) (at : ℕ) → at < length xs → ((k : ℕ) → k < at → get_or xs k 0 ≡ number → ⊥) → get_or xs at 0 ≡ number
    → without_one number xs ≡ remove xs at
without_at number [] at inside before here = absurd (omega (arith, inside))
without_at number (x ∷ xs) zero inside before here = ap (λ (b : Bool). if b then xs else x ∷ without_one number xs) (eq-eqb x number here)
without_at number (x ∷ xs) (suc at) inside before here =
    ap (λ (b : Bool). if b then xs else x ∷ without_one number xs) (ne_eqb x number (before 0 (omega arith)))
    ∙ ap (λ (l : List ℕ). x ∷ l) (without_at number xs at (omega (arith, inside)) (λ k below. before (suc k) (omega (arith, below))) here)

-- and where it stands at none, nothing is taken out
pub without_never : (number : ℕ) (xs : List ℕ) → ((k : ℕ) → k < length xs → get_or xs k 0 ≡ number → ⊥) → without_one number xs ≡ xs
without_never number [] never = refl
without_never number (x ∷ xs) never =
    ap (λ (b : Bool). if b then xs else x ∷ without_one number xs) (ne_eqb x number (never 0 (omega arith)))
    ∙ ap (λ (l : List ℕ). x ∷ l) (without_never number xs (λ k below. never (suc k) (omega (arith, below))))

-- where the number stands: nowhere, and nothing is taken out, or at this place
abbrev Stands : ℕ → List ℕ → Type 0
Stands number xs =
    ((count_by (λ one. one == number) xs ≡ 0) × (without_one number xs ≡ xs))
    ⊎ ((at : ℕ) × (at < length xs) × (get_or xs at 0 ≡ number) × (without_one number xs ≡ remove xs at))

stands_by : (number x : ℕ) (xs : List ℕ) (same : Bool) → (x == number) ≡ same → Stands number xs → Stands number (x ∷ xs)
stands_by number x xs true same rest =
    inr (0, omega arith, eqb-true x number same, ap (λ (b : Bool). if b then xs else x ∷ without_one number xs) same)
stands_by number x xs false same (inl none) =
    inl (
      omega (arith, count_cons (λ (one : ℕ). one == number) x xs, flag_false (x == number) same, none.0),
      ap (λ (b : Bool). if b then xs else x ∷ without_one number xs) same ∙ ap (λ (l : List ℕ). x ∷ l) none.1,
    )
stands_by number x xs false same (inr found) =
    inr (
      suc found.0,
      omega (arith, found.1),
      found.2,
      ap (λ (b : Bool). if b then xs else x ∷ without_one number xs) same ∙ ap (λ (l : List ℕ). x ∷ l) found.3,
    )

pub stands : (number : ℕ) (xs : List ℕ) → Stands number xs
stands number [] = inl (refl, refl)
stands number (x ∷ xs) = stands_by number x xs (x == number) refl (stands number xs)

-- nothing is taken out where it doesn't stand
pub not_first : (number x : ℕ) (xs : List ℕ) → count_by (λ one. one == number) (x ∷ xs) ≡ 0
    → ((x == number) ≡ false) × (count_by (λ one. one == number) xs ≡ 0)
not_first number x xs none =
    let counted = count_cons (λ (one : ℕ). one == number) x xs in
    (is_false (x == number) (omega (arith, none, counted)), omega (arith, none, counted))

pub without_absent : (number : ℕ) (xs : List ℕ) → count_by (λ one. one == number) xs ≡ 0 → without_one number xs ≡ xs
without_absent number [] none = refl
without_absent number (x ∷ xs) none =
    let rest = not_first number x xs none in
    ap (λ (b : Bool). if b then xs else x ∷ without_one number xs) rest.0 ∙ ap (λ (l : List ℕ). x ∷ l) (without_absent number xs rest.1)

last_gone : (number : ℕ) (xs : List ℕ) → count_by (λ one. one == number) xs ≡ 0 → without_one number (xs ++ number ∷ []) ≡ xs
last_gone number [] none = ap (λ (b : Bool). if b then [] else number ∷ []) (eq-eqb number number refl)
last_gone number (x ∷ xs) none =
    let rest = not_first number x xs none in
    ap (λ (b : Bool). if b then xs ++ number ∷ [] else x ∷ without_one number (xs ++ number ∷ [])) rest.0
    ∙ ap (λ (l : List ℕ). x ∷ l) (last_gone number xs rest.1)

-- one that was used, and is taken out again
pub used_gone : (number : ℕ) (xs : List ℕ) → count_by (λ one. one == number) xs ≡ 0 → without_one number (used_after xs number) ≡ xs
used_gone number xs none =
    ap (λ (l : List ℕ). without_one number (l ++ number ∷ [])) (without_absent number xs none) ∙ last_gone number xs none

pub without_less : (number : ℕ) (xs : List ℕ) → length (without_one number xs) ≤ length xs
without_less number xs =
    elim (stands number xs) [
      | inl none ↦ omega (arith, ap length none.1)
      | inr found ↦ omega (arith, ap length found.3, length-remove xs found.0 found.1)
    ]

-- ---- without one that isn't needed

pub unneeded_at : (needed xs : List ℕ) (at : ℕ) → at < length xs → ((k : ℕ) → k < at → is_among needed (get_or xs k 0) ≡ true)
    → is_among needed (get_or xs at 0) ≡ false → without_unneeded needed xs ≡ remove xs at
unneeded_at needed [] at inside before here = absurd (omega (arith, inside))
unneeded_at needed (x ∷ xs) zero inside before here = ap (λ (b : Bool). if b then x ∷ without_unneeded needed xs else xs) here
unneeded_at needed (x ∷ xs) (suc at) inside before here =
    ap (λ (b : Bool). if b then x ∷ without_unneeded needed xs else xs) (before 0 (omega arith))
    ∙ ap (λ (l : List ℕ). x ∷ l) (unneeded_at needed xs at (omega (arith, inside)) (λ k below. before (suc k) (omega (arith, below))) here)

pub unneeded_one : (needed xs : List ℕ) (at : ℕ) → at < length xs → ((k : ℕ) → k < at → is_among needed (get_or xs k 0) ≡ true)
    → is_among needed (get_or xs at 0) ≡ false → next_unneeded needed xs ≡ get_or xs at 0 ∷ []
unneeded_one needed [] at inside before here = absurd (omega (arith, inside))
unneeded_one needed (x ∷ xs) zero inside before here = ap (λ (b : Bool). if b then next_unneeded needed xs else x ∷ []) here
unneeded_one needed (x ∷ xs) (suc at) inside before here =
    ap (λ (b : Bool). if b then next_unneeded needed xs else x ∷ []) (before 0 (omega arith))
    ∙ unneeded_one needed xs at (omega (arith, inside)) (λ k below. before (suc k) (omega (arith, below))) here

-- none of them
pub none_evicted : (needed : List ℕ) (order : OrderView) → order_evicted 0 needed order ≡ order
none_evicted needed order = λ i. record { loaded = order.loaded; saved = append-nil order.saved i }

-- one more of them
pub one_more_gone : (needed : List ℕ) (order mid new : OrderView) (count next number : ℕ) → next ≡ count + 1 → mid ≡ order_evicted count needed order
    → without_unneeded needed mid.loaded ≡ without_one number mid.loaded → next_unneeded needed mid.loaded ≡ number ∷ []
    → new ≡ order_out number mid → new ≡ order_evicted next needed order
one_more_gone needed order mid new count next number is so_far gone one out =
    let step : next ≡ suc count = omega (arith, is) in
    let loaded_is = sym gone ∙ ap (λ (o : OrderView). without_unneeded needed o.loaded) so_far in
    let saved_is = ap (λ (l : List ℕ). mid.saved ++ l) (sym one) ∙ ap (λ (o : OrderView). o.saved ++ next_unneeded needed o.loaded) so_far
    ∙ append_assoc order.saved (first_unneeded count needed order.loaded) (next_unneeded needed (without_first count needed order.loaded)) in
    let both : order_out number mid ≡ order_evicted (suc count) needed order = λ i. record { loaded = loaded_is i; saved = saved_is i } in
    out ∙ both ∙ ap (λ (n : ℕ). order_evicted n needed order) (sym step)

-- ---- several are used

filled_last : (numbers : List ℕ) (order : OrderView) (number : ℕ) → order_filled (numbers ++ number ∷ []) order ≡ order_in number (order_filled numbers order)
filled_last [] order number = refl
filled_last (one ∷ numbers) order number = filled_last numbers (order_in one order) number

-- one more is used
pub filled_next : (numbers : List ℕ) (order : OrderView) (k : ℕ) → k < length numbers
    → order_in (get_or numbers k 0) (order_filled (take k numbers) order) ≡ order_filled (take (k + 1) numbers) order
filled_next numbers order k inside =
    sym (ap (λ (l : List ℕ). order_filled l order) (take_more numbers k 0 inside) ∙ filled_last (take k numbers) order (get_or numbers k 0))

-- and when all are used
pub filled_all : (numbers : List ℕ) (order : OrderView) (k : ℕ) → length numbers ≤ k
    → order_filled (take k numbers) order ≡ order_filled numbers order
filled_all numbers order k past = ap (λ (l : List ℕ). order_filled l order) (take_all k numbers past)
