-- A run over a device that shows its state ends with no wrong answer, and with none of its numbers out of range where they are in range.
use Rattle.std.proofs.Common.{◌≡◌, ◌≤◌, ◌<◌, ℕ, zero, suc, true, false, List, Option, Some, None, inl, inr, ⊎_elim, refl, sym, subst, ◌∙◌, arith}
use Rattle.std.specs.Prelude.{◌≢◌, ◌↔◌, ◌⊎◌, IfSome, IsNone}
use Rattle.tab_spec.specs.declared.numbers.Numbers.{Numbers}
use Rattle.tab_spec.specs.Numbers.{AreInRange, profile_numbers}
use Rattle.tab_spec.specs.Persist.{Persist}
use Rattle.device_spec.specs.Slots.{SlotState}
use Rattle.broker_lock.specs.Known.{Origin}
use Rattle.command_line.specs.declared.words.Verb.{Verb}
use Rattle.command_line.specs.declared.words.Verb.TheVariants.{Run, Serve, Workload}
use Rattle.command_line.specs.declared.words.Plan.{Plan}
use Rattle.command_line.specs.Words.{IsServe}
use Rattle.tab_server.specs.Status.{IsNumberOut}
use Rattle.tab_server.proofs.Doing.{numbers_kept}

-- by the command, of which each is served or played
by_job : {P S X : Type 0} (job : Verb) → (P → X) → (S → X) → ((IsServe job → ⊥) → P) → (IsServe job → S) → X
by_job Run played served left serves = played (left (λ no. absurd (let is : false ≡ true = no in cc)))
by_job Workload played served left serves = played (left (λ no. absurd (let is : false ≡ true = no in cc)))
by_job Serve played served left serves = served (serves refl)

-- by how many connections are asked for
few_or_many : (n most : ℕ) → (n ≤ most) ⊎ (most < n)
few_or_many zero most = inl (omega arith)
few_or_many (suc n) zero = inr (omega arith)
few_or_many (suc n) (suc most) = ⊎_elim (λ few. inl (omega (arith, few))) (λ many. inr (omega (arith, many))) (few_or_many n most)

by_count : {S T X : Type 0} (n most : ℕ) → (S → X) → (T → X) → (n ≤ most → S) → (most < n → T) → X
by_count n most served pooled few many = ⊎_elim (λ is. served (few is)) (λ is. pooled (many is)) (few_or_many n most)

-- no such status, where neither a script nor connections lead to it
pub never : {P S T : Plan → Type 0} (most : ℕ) (plans : Option Plan) (status number : ℕ) → (number ≡ 2 → ⊥) → (status ≡ 2) ↔ IsNone plans
    → ((plan : Plan) → P plan → status ≢ number) → ((plan : Plan) → S plan → status ≢ number) → ((plan : Plan) → T plan → status ≢ number)
    → IfSome plans (λ plan. (IsServe plan.job → ⊥) → P plan)
    → IfSome plans (λ plan. IsServe plan.job → plan.connections ≤ most → S plan)
    → IfSome plans (λ plan. IsServe plan.job → most < plan.connections → T plan) → status ≢ number
never {P} {S} {T} most None status number not_2 refused played served pooled left serves pool is = not_2 (sym is ∙ refused.1 refl)
never {P} {S} {T} most (Some plan) status number not_2 refused played served pooled left serves pool is =
    by_job {S = (plan.connections ≤ most → S plan) × (most < plan.connections → T plan)} plan.job (played plan)
    (λ both. by_count plan.connections most (served plan) (pooled plan) both.0 both.1) left (λ serve. (serves serve, pool serve)) is

-- a device that shows its state doesn't lack one
pub never_lacks : {S : Type 0} (state : S) → ◌≡◌ {A = Option S} (Some state) None → ⊥
never_lacks state none = absurd cc

-- the numbers of the profile are in range, and a device that has them keeps them
profile_range : AreInRange profile_numbers
profile_range = record {
  slots_least = omega arith;
  slots_most = omega arith;
  loaded_least = omega arith;
  loaded_most = omega arith;
  active_most = omega arith;
  gap_least = omega arith;
}

in_range : {was now : Numbers} → now ≡ was → was ≡ profile_numbers → AreInRange now
in_range same profile = subst AreInRange (sym (same ∙ profile)) profile_range

-- a device that shows its state and kept the numbers of the profile has none out of range
pub none_out : (property : ℕ) (asked : List ℕ) (last : Option (List ℕ)) (now : SlotState) (kept kept_now : Persist) (was : Numbers)
    → IsNumberOut property asked last (Some now)
    → ◌≡◌ {A = Option Origin} (Some (record { persist = kept_now; numbers = now.numbers })) (Some (record { persist = kept; numbers = was }))
    → was ≡ profile_numbers → ⊥
none_out property asked last now kept kept_now was out same profile = out.own (in_range (numbers_kept _ _ same) profile)
