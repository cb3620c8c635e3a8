use Rattle.std.proofs.Common.{◌≡◌, ℕ, zero, suc, true, false, List, [], ◌∷◌, Option, None, Some, inl, inr, refl, sym, subst, true≢false}
use Rattle.std.specs.Prelude.{◌==◌}
use Rattle.std.proofs.lemmas.Bool.{eqb-true, or_cases}
use Rattle.object_swap.specs.Items.{owner_at}
use Rattle.client_machine.specs.Tables.{is_open}
use Rattle.broker_core.specs.Tables.{list_of}
use Rattle.broker_tests.proofs.examples.lists_are_those_of_open_clients.Goals as goal

abbrev lists : List ℕ
lists = 0 ∷ 1 ∷ []

abbrev owners : List (Option ℕ)
owners = None ∷ Some 1 ∷ []

only : (client : ℕ) → is_open client (1 ∷ []) ≡ true → 1 ≡ client
only client some =
    elim (or_cases (1 == client) false some) [
      | inl here ↦ eqb-true 1 client here
      | inr later ↦ absurd (true≢false (sym later))
    ]

not_owned : {client : ℕ} → ◌≡◌ {A = Option ℕ} None (Some client) → ⊥
not_owned own = absurd cc

same : {one other : ℕ} → ◌≡◌ {A = Option ℕ} (Some one) (Some other) → one ≡ other
same own = cc

owned : (list client : ℕ) → owner_at owners list ≡ Some client → (is_open client (1 ∷ []) ≡ true) × (list ≡ list_of lists client)
owned zero client own = absurd (not_owned own)
owned (suc zero) client own = subst (λ (c : ℕ). (is_open c (1 ∷ []) ≡ true) × (1 ≡ list_of lists c)) (same own) (refl, refl)
owned (suc (suc list)) client own = absurd (not_owned own)

pub returns-clause-stand : goal.returns-clause-stand
returns-clause-stand c = record {
  own = λ client some. subst (λ (n : ℕ). owner_at owners (list_of lists n) ≡ Some n) (only client some) refl;
  owned = owned;
}

pub returns-clause-closed : goal.returns-clause-closed
returns-clause-closed c = λ stand. absurd (true≢false (sym (stand.owned 0 0 refl).0))

pub returns-clause-twice : goal.returns-clause-twice
returns-clause-twice c = λ stand. let one : ◌≡◌ {A = ℕ} 0 1 = (stand.owned 0 1 refl).1 in absurd (cc one)

pub returns-clause-none : goal.returns-clause-none
returns-clause-none c = λ stand. absurd (not_owned (stand.own 1 refl))
