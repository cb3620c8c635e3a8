-- What is known of a duty that goes from hand to hand, and of both hands.
use Rattle.std.specs.Prelude.{ℕ, Bool, List, Option}
use Rattle.history_spec.specs.Entry.{Entry}
use Rattle.broker_lock.specs.Known.{Origin}
use Rattle.connection_core.specs.declared.way.Handed.{Handed}
use Rattle.connection_core.specs.declared.way.Handed.TheVariants as handed
use Rattle.connection_core.specs.Duties.{KeepsTo}
use Rattle.connection_core.specs.Keeps.{Start}

abbrev pub KeepsHanded : {B K : Type 0} → (legal : Origin → List Entry → Type 0) → (written : K → Option (List ℕ)) → (ended : K → Option Bool) → (faults : K → ℕ) → Option Start → Handed B K → Type 0
KeepsHanded legal written ended faults begun (handed.Over duty) = KeepsTo legal written ended faults begun duty
KeepsHanded legal written ended faults begun handed.Stop = Unit {0}
