-- What is known of a duty, and of a worker whose duty is over.
use Rattle.std.specs.Prelude.{◌≡◌, ℕ, Bool, List, Option, Some}
use Rattle.crossbeam_channel.specs.Claims.{view}
use Rattle.history_spec.specs.Entry.{Entry}
use Rattle.broker_lock.specs.Known.{Origin}
use Rattle.connection_core.specs.declared.duty.Duty.{Duty}
use Rattle.connection_core.specs.declared.ends.Ending.{Ending}
use Rattle.connection_core.specs.declared.worker.Worker.{Worker}
use Rattle.connection_core.specs.Keeps.{DutyStands, Start}
use Rattle.connection_core.specs.Sides.{IsWorkers}
use Rattle.connection_core.specs.Turns.{GoesOn}
use Rattle.connection_core.specs.Works.{HasWorked, WorkCounts, ended_by}

-- since the start it was done as it should be
pub record KeepsDuty {B K : Type 0} (legal : Origin → List Entry → Type 0) (written : K → Option (List ℕ)) (ended : K → Option Bool) (faults : K → ℕ) (start : Start) (duty : Duty B K) : Type 0 where
  pub side : IsWorkers start.between duty.worker.side
  pub goes_on : GoesOn legal start.pass duty.worker.pass
  pub stands : DutyStands duty.stage start duty.worker.pass duty.worker.client duty.worker.done (view duty.worker.side.pass).taken duty.worker.side.seat.loaded (written duty.worker.sink) (ended duty.worker.sink) (faults duty.worker.sink)

-- since the start of its connection
abbrev pub KeepsTo : {B K : Type 0} → (legal : Origin → List Entry → Type 0) → (written : K → Option (List ℕ)) → (ended : K → Option Bool) → (faults : K → ℕ) → Option Start → Duty B K → Type 0
KeepsTo legal written ended faults begun duty = (start : Start) → begun ≡ Some start → KeepsDuty legal written ended faults start duty

-- all messages were taken, and its client is still open
pub record Finishes {B K : Type 0} (legal : Origin → List Entry → Type 0) (written : K → Option (List ℕ)) (ended : K → Option Bool) (faults : K → ℕ) (ending : Ending) (start : Start) (worker : Worker B K) : Type 0 where
  pub side : IsWorkers start.between worker.side
  pub goes_on : GoesOn legal start.pass worker.pass
  pub worked : HasWorked ending worker.pass worker.client worker.done (view worker.side.pass).taken worker.side.seat.loaded start.written (written worker.sink)
  pub sink_ended : ended worker.sink ≡ ended_by ending start.ended
  pub counts : WorkCounts ending start.faults (faults worker.sink)

abbrev pub FinishesTo : {B K : Type 0} → (legal : Origin → List Entry → Type 0) → (written : K → Option (List ℕ)) → (ended : K → Option Bool) → (faults : K → ℕ) → Ending → Option Start → Worker B K → Type 0
FinishesTo legal written ended faults ending begun worker = (start : Start) → begun ≡ Some start → Finishes legal written ended faults ending start worker
