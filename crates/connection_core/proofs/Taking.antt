-- A duty from one message to the next, and from the first to the last.
use Rattle.std.proofs.Common.{◌≡◌, ◌<◌, ◌≤◌, ℕ, Bool, List, [], ◌∷◌, ◌++◌, length, Option, Some, refl, sym, ap, subst, ◌∙◌, arith, length-append}
use Rattle.std.proofs.lemmas.List.{append-nil, length-map}
use Rattle.atomic_table.specs.Seated.{TableId}
use Rattle.crossbeam_channel.specs.Claims.{IsSeatAt, view}
use Rattle.crossbeam_channel.specs.Ends.{sends_on}
use Rattle.tab_spec.specs.Count.{largest_count}
use Rattle.history_spec.specs.Entry.{Entry}
use Rattle.broker_lock.specs.Known.{Origin}
use Rattle.broker_lock.specs.Pass.{PassView}
use Rattle.cancel_words.specs.View.{WordView}
use Rattle.connection_core.specs.declared.between.Between.{Between}
use Rattle.connection_core.specs.declared.between.Side.{Side}
use Rattle.connection_core.specs.declared.duty.Duty.{Duty}
use Rattle.connection_core.specs.declared.duty.Stage.{Stage}
use Rattle.connection_core.specs.declared.duty.Stage.TheVariants as stages
use Rattle.connection_core.specs.declared.ends.Ending.{Ending}
use Rattle.connection_core.specs.declared.message.Message.{Message}
use Rattle.connection_core.specs.declared.message.Message.TheVariants as messages
use Rattle.connection_core.specs.declared.worker.Worker.{Worker}
use Rattle.connection_core.specs.Duties.{KeepsDuty, KeepsTo}
use Rattle.connection_core.specs.Hands.{ClosesDuty}
use Rattle.connection_core.specs.Keeps.{DutyStands, IsBegun, Start, start_of}
use Rattle.connection_core.specs.Leaves.{WorkerLeaves}
use Rattle.connection_core.specs.Line.{LineView, messages_of}
use Rattle.connection_core.specs.Links.{KnowsClient}
use Rattle.connection_core.specs.Sides.{IsFreshWorkers, IsWorkers}
use Rattle.connection_core.specs.Turns.{GoesOn}
use Rattle.connection_core.specs.Works.{SoFar}
use Rattle.connection_core.proofs.Serving.{so_far_first, workers_at_first}

-- ---- the start

some_same : (a b : Start) → Some a ≡ Some b → a ≡ b
some_same a b e = cc

pub between_of : (begun : Option Start) (lock : TableId) (between : Between) (start : Start) → IsBegun begun lock between → begun ≡ Some start → start.between ≡ between
between_of begun lock between start b is = ap (λ (s : Start). s.between) (some_same start b.start (sym is ∙ b.is)) ∙ b.between_is

pub workers_of : {B K : Type 0} {legal : Origin → List Entry → Type 0} (written : K → Option (List ℕ)) (ended : K → Option Bool) (faults : K → ℕ) (begun : Option Start) (lock : TableId) (between : Between) (duty : Duty B K)
    → IsBegun begun lock between → KeepsTo legal written ended faults begun duty → IsWorkers between duty.worker.side
workers_of written ended faults begun lock between duty b k = subst (λ (x : Between). IsWorkers x duty.worker.side) b.between_is (k b.start b.is).side

-- the client was just opened
pub keeps_first : {B K : Type 0} {legal : Origin → List Entry → Type 0} (written : K → Option (List ℕ)) (ended : K → Option Bool) (faults : K → ℕ) (begun : Option Start) (between : Between) (first : PassView) (duty : Duty B K)
    → begun ≡ Some (start_of between first (written duty.worker.sink) (ended duty.worker.sink) (faults duty.worker.sink)) → duty.stage ≡ stages.Going → duty.worker.done ≡ 0 → IsFreshWorkers between duty.worker.side
    → KnowsClient duty.worker.pass duty.worker.client 0 [] → GoesOn legal first duty.worker.pass → KeepsTo legal written ended faults begun duty
keeps_first {legal = legal} written ended faults begun between first duty begins going none fresh serves goes_on start is =
    let one = start_of between first (written duty.worker.sink) (ended duty.worker.sink) (faults duty.worker.sink) in
    subst (λ (s : Start). KeepsDuty legal written ended faults s duty) (some_same one start (sym begins ∙ is)) (record {
      side = workers_at_first between duty.worker.side fresh;
      goes_on = goes_on;
      stands = subst (λ (s : Stage). DutyStands s one duty.worker.pass duty.worker.client duty.worker.done (view duty.worker.side.pass).taken duty.worker.side.seat.loaded (written duty.worker.sink) (ended duty.worker.sink) (faults duty.worker.sink)) (sym going) (record {
        so_far = so_far_first duty.worker.pass duty.worker.client duty.worker.done (view duty.worker.side.pass).taken duty.worker.side.seat.loaded (written duty.worker.sink) serves none (ap (λ (v : LineView). v.taken) fresh.untaken) fresh.unloaded;
        sink_open = refl;
        same = refl;
      });
    })

-- ---- one message

pub stood : (stage other : Stage) (start : Start) (pass : PassView) (client done : ℕ) (taken : List Message) (loaded : List ℕ) (written : Option (List ℕ)) (ended : Option Bool) (faults : ℕ) → stage ≡ other
    → DutyStands stage start pass client done taken loaded written ended faults → DutyStands other start pass client done taken loaded written ended faults
stood stage other start pass client done taken loaded written ended faults is stands = subst (λ (s : Stage). DutyStands s start pass client done taken loaded written ended faults) is stands

-- its side, whatever was taken
pub workers_now : (start_between between : Between) (side side_new : Side) → start_between ≡ between → IsWorkers start_between side → IsSeatAt (sends_on between.line.sender) side_new.pass → (view side_new.pass).takes ≡ (view side.pass).takes
    → IsSeatAt (sends_on between.spares.sender) side_new.spare_pass → side_new.seat ≡ side.seat → IsWorkers start_between side_new
workers_now start_between between side side_new same is line takes spares seat = record {
  of = record {
    line = subst (λ (x : Between). IsSeatAt (sends_on x.line.sender) side_new.pass) (sym same) line;
    spares = subst (λ (x : Between). IsSeatAt (sends_on x.spares.sender) side_new.spare_pass) (sym same) spares;
    word = ap (λ (v : WordView). v.word) seat ∙ is.of.word;
    role_is = ap (λ (v : WordView). v.role) seat ∙ is.of.role_is;
  };
  takes = takes ∙ is.takes;
}

-- fewer were taken up than can be counted
pub below : (pass : PassView) (client done : ℕ) (taken taken_new : List Message) (message : Message) (loaded : List ℕ) (written written_new : Option (List ℕ)) → SoFar pass client done taken [] loaded written written_new
    → taken_new ≡ taken ++ message ∷ [] → length taken_new ≤ largest_count → done < largest_count
below pass client done taken taken_new message loaded written written_new so more few =
    omega (arith, few, so.count, ap length more, ap length (so.taken_is ∙ append-nil (messages_of so.list)), length-append taken (message ∷ []), length-map so.list messages.Command)

-- ---- the end

-- what is left of a duty, over what both hands share
pub leaves_at : {B K : Type 0} {legal : Origin → List Entry → Type 0} (written : K → Option (List ℕ)) (ended : K → Option Bool) (faults : K → ℕ) (ending : Ending) (start : Start) (between : Between) (worker : Worker B K)
    → start.between ≡ between → ClosesDuty legal written ended faults ending start worker
    → WorkerLeaves legal between worker.side ending start.pass worker.pass worker.client worker.done start.written (written worker.sink) start.faults (faults worker.sink)
leaves_at {legal = legal} written ended faults ending start between worker same closes =
    subst (λ (x : Between). WorkerLeaves legal x worker.side ending start.pass worker.pass worker.client worker.done start.written (written worker.sink) start.faults (faults worker.sink)) same closes.leaves
