use Rattle.std.proofs.Common.{◌≡◌, ℕ, List, [], ◌∷◌, length, get_or, refl, ap, arith}
use Rattle.connection_tests.proofs.connection_examples.bytes_are_taken_in_order.Goals as goal

pub returns-clause-another : goal.returns-clause-another
returns-clause-another c taken =
    let t = taken (7 ∷ 8 ∷ []) refl in
    let e : ◌≡◌ {A = ℕ} 7 8 = ap (λ (l : List ℕ). get_or l 0 0) t.2 in absurd (omega arith)

pub returns-clause-none : goal.returns-clause-none
returns-clause-none c taken =
    let t = taken (7 ∷ 8 ∷ []) refl in
    let rest : t.0 ≡ 8 ∷ [] = cc (t.1) in
    absurd (omega (arith, ap length t.2, ap length rest))

pub returns-clause-not_at_end : goal.returns-clause-not_at_end
returns-clause-not_at_end c end = absurd (omega (arith, ap length (end (7 ∷ []) refl).0))
