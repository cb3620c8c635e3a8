-- What each thread of a connection leaves, and what is known once both are done.
use Rattle.std.specs.Prelude.{◌≡◌, ℕ, List, [], ◌++◌, All, Option}
use Rattle.crossbeam_channel.specs.Claims.{view}
use Rattle.history_spec.specs.Entry.{Entry}
use Rattle.broker_lock.specs.Known.{Origin}
use Rattle.broker_lock.specs.declared.calls.Job.TheVariants as jobs
use Rattle.broker_lock.specs.Pass.{PassView}
use Rattle.cancel_words.specs.View.{IsZeroOrRaised, WordView, seat_of_both}
use Rattle.connection_core.specs.declared.between.Between.{Between}
use Rattle.connection_core.specs.declared.between.Side.{Side}
use Rattle.connection_core.specs.declared.ends.Ending.{Ending}
use Rattle.connection_core.specs.declared.message.Ended.{Ended}
use Rattle.connection_core.specs.declared.message.Message.{Message}
use Rattle.connection_core.specs.declared.serve.Outfit.{Outfit}
use Rattle.connection_core.specs.Rounds.{EndCounts, HasRead}
use Rattle.connection_core.specs.Sides.{IsFreshReaders, IsFreshWorkers, IsReaders, IsWorkers}
use Rattle.connection_core.specs.Turns.{AsksInTurn, GoesOn}
use Rattle.connection_core.specs.Works.{HasWorked, WorkCounts}

-- nothing was pulled, sent or taken yet
pub record IsFresh (outfit : Outfit) : Type 0 where
  pub reader : IsFreshReaders outfit.between outfit.reader
  pub worker : IsFreshWorkers outfit.between outfit.worker
  pub empty : outfit.intake.framer ≡ []
  pub unheld : outfit.held ≡ []

-- by the reader
pub record ReaderLeaves (between : Between) (side : Side) (given left : Option (List ℕ)) (faults faults_new : ℕ) : Type 0 where
  pub ended : Ended
  pub of : IsReaders between side
  pub read : HasRead ended given left (view side.pass).sent side.seat.raised
  pub counts : EndCounts ended faults faults_new

-- by the worker, which closed the client in a last turn
pub record WorkerLeaves (legal : Origin → List Entry → Type 0) (between : Between) (side : Side) (ending : Ending) (old new : PassView) (client done : ℕ) (written written_new : Option (List ℕ)) (faults faults_new : ℕ) : Type 0 where
  pub last : PassView
  pub reply : List ℕ
  pub of : IsWorkers between side
  pub goes_on : GoesOn legal old new
  pub worked : HasWorked ending last client done (view side.pass).taken side.seat.loaded written written_new
  pub closes : AsksInTurn legal last (jobs.Close client) [] reply new
  pub counts : WorkCounts ending faults faults_new

-- what was taken of the line is the front of what was sent, and each word that was loaded is 0 or was raised
pub record IsFinished (reader worker : Side) (seat : WordView) : Type 0 where
  pub items : List Message
  pub whole : (view reader.pass).sent ≡ (view worker.pass).taken ++ items
  pub seat_is : seat ≡ seat_of_both reader.seat worker.seat
  pub each : All (IsZeroOrRaised seat.raised) seat.loaded
