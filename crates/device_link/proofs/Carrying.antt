-- How what went over a link grows by one transmission.
use Rattle.std.proofs.Common.{◌≡◌, ◌<◌, ℕ, List, [], ◌∷◌, Option, Some, None, ap, refl}
use Rattle.std.proofs.Common.{sym, subst, ◌∙◌, arith}
use Rattle.std.specs.Prelude.{IfErr, IfSome, Result, Ok, Err}
use Rattle.tab_spec.specs.Count.{one_more}
use Rattle.device_port.specs.Device.{Transmission}
use Rattle.device_link.specs.Carried.{CarriedAll, CarriedUntil, HasCarried, failed}
use Rattle.device_link.specs.Link.{DeviceEnds, FailsBy}
use Rattle.device_link.specs.declared.fault.LinkFault.{LinkFault}
use Rattle.device_link.specs.declared.fault.LinkFault.TheVariants as causes

-- the first one that fails
pub fails_first : (fault : LinkFault) (began old new : DeviceEnds) (trace : List Transmission)
    (command : List ℕ)
    → CarriedAll began trace old → FailsBy fault old command new
    → CarriedUntil fault began (failed command ∷ trace) new
fails_first fault began old new trace command all it = record {
  before = trace;
  command = command;
  later = [];
  trace_is = refl;
  ends = old;
  carried = all;
  fails = it;
}

-- one that fails after it
pub fails_later : (fault : LinkFault) (began now : DeviceEnds) (trace : List Transmission)
    (command : List ℕ)
    → CarriedUntil fault began trace now → CarriedUntil fault began (failed command ∷ trace) now
fails_later fault began now trace command it = record {
  before = it.before;
  command = it.command;
  later = command ∷ it.later;
  trace_is = ap (λ (t : List Transmission). failed command ∷ t) it.trace_is;
  ends = it.ends;
  carried = it.carried;
  fails = it.fails;
}

some_more : (count : ℕ) → 0 < one_more count
some_more count = omega arith

-- the same by why the link failed
fails_by : (fault : LinkFault) (began old new : DeviceEnds) (faults : ℕ) (trace : List Transmission)
    (command : List ℕ)
    → CarriedAll began trace old → FailsBy fault old command new
    → HasCarried fault began (one_more faults) (failed command ∷ trace) new
fails_by causes.Absent began old new faults trace command all it = absurd it
fails_by causes.Source began old new faults trace command all it =
    (some_more faults, fails_first causes.Source began old new trace command all it)
fails_by causes.Sink began old new faults trace command all it =
    (some_more faults, fails_first causes.Sink began old new trace command all it)
fails_by causes.End began old new faults trace command all it =
    (some_more faults, fails_first causes.End began old new trace command all it)
fails_by (causes.Size size) began old new faults trace command all it =
    (some_more faults, fails_first (causes.Size size) began old new trace command all it)

stays_failed : (fault : LinkFault) (began now : DeviceEnds) (faults : ℕ) (trace : List Transmission)
    (command : List ℕ)
    → (fault ≡ causes.Absent → ⊥) → HasCarried fault began faults trace now
    → HasCarried fault began (one_more faults) (failed command ∷ trace) now
stays_failed causes.Absent began now faults trace command other it = absurd (other refl)
stays_failed causes.Source began now faults trace command other it =
    (some_more faults, fails_later causes.Source began now trace command it.1)
stays_failed causes.Sink began now faults trace command other it =
    (some_more faults, fails_later causes.Sink began now trace command it.1)
stays_failed causes.End began now faults trace command other it =
    (some_more faults, fails_later causes.End began now trace command it.1)
stays_failed (causes.Size size) began now faults trace command other it =
    (some_more faults, fails_later (causes.Size size) began now trace command it.1)

pub told_by_all : (fault fault' : LinkFault) (began : Option DeviceEnds) (faults faults' : ℕ)
    (trace trace' : List Transmission) (now now' : DeviceEnds)
    → fault' ≡ fault → faults' ≡ faults → trace' ≡ trace → now' ≡ now
    → IfSome began (λ b. HasCarried fault b faults trace now)
    → IfSome began (λ b. HasCarried fault' b faults' trace' now')
told_by_all fault fault' began faults faults' trace trace' now now' a b c d it =
    subst (λ (x : LinkFault). IfSome began (λ e. HasCarried x e faults' trace' now')) (sym a)
    (subst (λ (x : ℕ). IfSome began (λ e. HasCarried fault e x trace' now')) (sym b)
    (subst (λ (x : List Transmission). IfSome began (λ e. HasCarried fault e faults x now')) (sym c)
    (subst (λ (x : DeviceEnds). IfSome began (λ e. HasCarried fault e faults trace x)) (sym d) it)))

if_some : {X : Type 0} {P Q : X → Type 0} (o : Option X) → ((x : X) → P x → Q x) → IfSome o P
    → IfSome o Q
if_some None to it = tt
if_some (Some x) to it = to x it

-- an exchange that failed, over a link that hadn't
pub failed_first : (began : Option DeviceEnds) (was fault : LinkFault) (old new : DeviceEnds)
    (faults : ℕ)
    (trace : List Transmission) (command : List ℕ) (result : Result (Unit {0}) LinkFault)
    → IfSome began (λ b. HasCarried was b faults trace old) → was ≡ causes.Absent
    → result ≡ Err fault → IfErr result (λ f. FailsBy f old command new)
    → IfSome began (λ b. HasCarried fault b (one_more faults) (failed command ∷ trace) new)
failed_first began was fault old new faults trace command result it absent is fails =
    if_some began (λ b all. fails_by fault b old new faults trace command all.1 (subst (λ
    (r : Result (Unit {0}) LinkFault). IfErr r (λ f. FailsBy f old command new)) is fails))
    (told_by_all was causes.Absent began faults faults trace trace old old
    (sym absent) refl refl refl it)

abbrev err_of : LinkFault → Result (Unit {0}) LinkFault → LinkFault
err_of default (Ok done) = default
err_of default (Err fault) = fault

-- a command for which nothing goes over the link any more
pub failed_later : (began : Option DeviceEnds) (was fault : LinkFault) (now : DeviceEnds)
    (faults : ℕ)
    (trace : List Transmission) (command : List ℕ) (result : Result (Unit {0}) LinkFault)
    → IfSome began (λ b. HasCarried was b faults trace now) → (was ≡ causes.Absent → ⊥)
    → result ≡ Err was → result ≡ Err fault
    → IfSome began (λ b. HasCarried fault b (one_more faults) (failed command ∷ trace) now)
failed_later began was fault now faults trace command result it other was_is is =
    told_by_all was fault began _ _ _ _ now now (ap (err_of was) (sym is ∙ was_is)) refl refl refl
    (if_some began (λ b all. stays_failed was b now faults trace command other all) it)
