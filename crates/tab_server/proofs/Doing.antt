-- What holds of a plan that was carried out, whatever its command.
use Rattle.std.proofs.Common.{◌≡◌, ℕ, true, false, List, Option, Some, None, Ok, sym, ap, subst, ◌∙◌, refl, arith}
use Rattle.std.specs.Prelude.{◌==◌, ◌∷◌, [], ◌≢◌, ◌↔◌, IfSome, IsNone, IsTrue}
use Rattle.std.specs.List.{list_any}
use Rattle.std.specs.Option.{ok_or}
use Rattle.device_spec.specs.Slots.{SlotState}
use Rattle.history_spec.specs.Entry.{Entry}
use Rattle.device_port.specs.Device.{asked_of, last_of}
use Rattle.broker_lock.specs.Known.{Origin}
use Rattle.command_line.specs.declared.words.Verb.{Verb}
use Rattle.command_line.specs.declared.words.Verb.TheVariants.{Run, Workload, Serve}
use Rattle.command_line.specs.declared.words.Plan.{Plan}
use Rattle.tab_server.specs.Status.{HasStatusCause}
use Rattle.tab_server.specs.Run.{After, Before, IsSoundRun}
use Rattle.tab_server.specs.Done.{LeavesByVerb, LeavesPlan}

pub cause_by : (job : Verb) (plan : Plan) (before : Before) (after : After) (status detail : ℕ) (journal : Option (List Entry)) → LeavesByVerb job plan before after status detail journal
    → HasStatusCause before.contexts status detail before.faults after.faults (asked_of after.seen) (last_of after.seen) after.seen.state
cause_by Run plan before after status detail journal left = left.cause
cause_by Workload plan before after status detail journal left = left.cause
cause_by Serve plan before after status detail journal left = absurd left

pub sound_by : (job : Verb) (plan : Plan) (before : Before) (after : After) (status detail : ℕ) (journal : Option (List Entry)) → LeavesByVerb job plan before after status detail journal → IsSoundRun before after status journal
sound_by Run plan before after status detail journal left = left.sound
sound_by Workload plan before after status detail journal left = left.sound
sound_by Serve plan before after status detail journal left = absurd left

-- a device that tells the same has the same numbers
pub numbers_kept : (was now : Origin) → ◌≡◌ {A = Option Origin} (Some now) (Some was) → now.numbers ≡ was.numbers
numbers_kept was now same = let is : now ≡ was = cc in ap (λ (o : Origin). o.numbers) is

-- a device that shows its state gives no wrong answer
pub never_answered : (plan : Option Plan) (before : Before) (after : After) (status detail : ℕ) (journal : Option (List Entry)) (state : SlotState) → after.seen.state ≡ Some state → (status ≡ 2) ↔ IsNone plan
    → IfSome plan (λ p. LeavesPlan p before after status detail journal) → status ≢ 7
never_answered None before after status detail journal state tells refused left seven = omega (arith, refused.1 refl, seven)
never_answered (Some p) before after status detail journal state tells refused left seven =
    let none = (cause_by p.job p before after status detail journal left).answer seven in
    let is : ◌≡◌ {A = Option SlotState} (Some state) None = sym tells ∙ none.1 in absurd cc

-- a plan that was carried out ends with no refusal
pub never_refused : (plan : Plan) (before : Before) (after : After) (status detail : ℕ) (journal : Option (List Entry)) → LeavesPlan plan before after status detail journal → status ≡ 2 → ⊥
never_refused plan before after status detail journal left two =
    let known = subst (λ (m : ℕ). IsTrue (list_any (λ n. n == m) (0 ∷ 4 ∷ 5 ∷ 6 ∷ 7 ∷ 8 ∷ 9 ∷ 10 ∷ 11 ∷ []))) two (cause_by plan.job plan before after status detail journal left).known in
    absurd (let no : false ≡ true = known in cc)

-- words that gave a plan are taken
pub taken : {E : Type 0} (plans : Option Plan) (plan : Plan) (error : E) → Ok plan ≡ ok_or plans error → plans ≡ Some plan
taken None plan error is = absurd cc
taken (Some p) plan error is = cc

pub not_none : (plans : Option Plan) (plan : Plan) → plans ≡ Some plan → IsNone plans → ⊥
not_none None plan is none = absurd cc
not_none (Some p) plan is none = absurd cc

pub leaves_taken : (plans : Option Plan) (plan : Plan) (before : Before) (after : After) (status detail : ℕ) (journal : Option (List Entry)) → plans ≡ Some plan → LeavesPlan plan before after status detail journal
    → IfSome plans (λ p. LeavesPlan p before after status detail journal)
leaves_taken plans plan before after status detail journal is left = subst (λ (o : Option Plan). IfSome o (λ p. LeavesPlan p before after status detail journal)) (sym is) left

-- what holds of the plan that words gave
pub if_taken : (P : Plan → Type 0) (plans : Option Plan) (plan : Plan) → plans ≡ Some plan → P plan → IfSome plans P
if_taken P plans plan is holds = subst (λ (o : Option Plan). IfSome o P) (sym is) holds
