-- What the one who has the duty of a connection has done with it.
use Rattle.std.specs.Prelude.{◌≡◌, ℕ, Bool, List, [], ◌∷◌, ◌++◌, Option, Some}
use Rattle.tab_spec.specs.Count.{Rose}
use Rattle.atomic_table.specs.Seated.{TableId}
use Rattle.link_port.specs.Port.{at_end}
use Rattle.broker_lock.specs.Pass.{PassView}
use Rattle.connection_core.specs.declared.between.Between.{Between}
use Rattle.connection_core.specs.declared.duty.Stage.{Stage}
use Rattle.connection_core.specs.declared.duty.Stage.TheVariants as stages
use Rattle.connection_core.specs.declared.message.Message.{Message}
use Rattle.connection_core.specs.declared.message.Message.TheVariants as messages
use Rattle.connection_core.specs.Line.{messages_of}
use Rattle.connection_core.specs.Works.{CutsShort, IsDrained, SoFar}

-- with what a connection begins: what both hands share, the pass before the client is opened, and what the sink tells
pub record Start : Type 0 where
  pub between : Between
  pub pass : PassView
  pub written : Option (List ℕ)
  pub ended : Option Bool
  pub faults : ℕ

abbrev pub start_of : Between → PassView → (written : Option (List ℕ)) → (ended : Option Bool) → (faults : ℕ) → Start
start_of between pass written ended faults = record { between = between; pass = pass; written = written; ended = ended; faults = faults }

-- it begins with these
pub record IsBegun (begun : Option Start) (lock : TableId) (between : Between) : Type 0 where
  pub start : Start
  pub is : begun ≡ Some start
  pub between_is : start.between ≡ between
  pub lock_is : start.pass.lock ≡ lock

-- these were dropped so far
abbrev pub AreDropped : (taken taken_new : List Message) → Type 0
AreDropped taken taken_new = (list : List (List ℕ)) × (taken_new ≡ taken ++ messages_of list)

-- a reply was cut short, the sink was ended, and what was taken since was dropped
pub record CutsThen (rest : List Message → List Message → Type 0) (start : Start) (pass : PassView) (client done : ℕ) (taken : List Message) (loaded : List ℕ) (written : Option (List ℕ)) (ended : Option Bool) (faults : ℕ) : Type 0 where
  pub before : List Message
  pub cut : CutsShort pass client done before loaded start.written written
  pub after : rest before taken
  pub sink_ended : ended ≡ at_end start.ended
  pub rose : Rose start.faults faults

-- each command that was taken was taken up, in order, and its reply written
pub record GoesWell (rest : List Message) (start : Start) (pass : PassView) (client done : ℕ) (taken : List Message) (loaded : List ℕ) (written : Option (List ℕ)) (ended : Option Bool) (faults : ℕ) : Type 0 where
  pub so_far : SoFar pass client done taken rest loaded start.written written
  pub sink_open : ended ≡ start.ended
  pub same : faults ≡ start.faults

-- by what became of the duty
abbrev pub DutyStands : Stage → Start → PassView → (client done : ℕ) → (taken : List Message) → (loaded : List ℕ) → (written : Option (List ℕ)) → (ended : Option Bool) → (faults : ℕ) → Type 0
DutyStands stages.Going = GoesWell []
DutyStands (stages.Over ended) = GoesWell (messages.End ended ∷ [])
DutyStands stages.Cut = CutsThen AreDropped
DutyStands stages.CutOver = CutsThen IsDrained
