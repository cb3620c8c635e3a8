-- What a turn leaves of a pass, and what a failed write leaves of a sink.
use Rattle.std.specs.Prelude.{◌≡◌, ◌<◌, nat_le, ℕ, Bool, true, List, length, take, Option, Result}
use Rattle.std.specs.Prelude.{OnOk, OnErr, if◌then◌else◌}
use mathlib.Core.List.{IsPrefix}
use Rattle.tab_spec.specs.Count.{Rose}
use Rattle.history_spec.specs.Entry.{Entry}
use Rattle.link_port.specs.Port.{with_more}
use Rattle.broker_lock.specs.declared.calls.Done.{Done}
use Rattle.broker_lock.specs.declared.calls.Job.{Job}
use Rattle.broker_lock.specs.declared.calls.Job.TheVariants as jobs
use Rattle.broker_lock.specs.Known.{IsLegalOver, Origin}
use Rattle.broker_lock.specs.Pass.{Acts, PassView}
use Rattle.cancel_words.specs.View.{WordView, with_loaded}

-- this was asked in one turn, and answered
abbrev pub AsksInTurn : (legal : Origin → List Entry → Type 0) → PassView → Job → (bytes reply : List ℕ) → PassView → Type 0
AsksInTurn legal old job bytes reply new = (done : Done) × Acts legal old job bytes done reply new

-- what is asked of a client's command: that it is run, or where this word covers its number, that it is canceled
abbrev pub job_of : (client number word : ℕ) → Job
job_of client number word = if nat_le number word then jobs.Cancel client number word else jobs.Command client number

-- the job of the client's next command, before which this word was loaded
pub record IsNextJob (client number word : ℕ) (seat seat_new : WordView) (job : Job) : Type 0 where
  pub seat_is : seat_new ≡ with_loaded seat word
  pub job_is : job ≡ job_of client number word

-- a word was loaded, and the client's next command was asked in one turn
pub record AsksNext (legal : Origin → List Entry → Type 0) (old : PassView) (client number : ℕ) (seat seat_new : WordView) (bytes reply : List ℕ) (new : PassView) : Type 0 where
  pub word : ℕ
  pub seat_is : seat_new ≡ with_loaded seat word
  pub asks : AsksInTurn legal old (job_of client number word) bytes reply new

-- a pass after some turns, or none: the history that it has seen goes on, and is legal where it was. A wrong answer that it knows of
-- is still known
pub record GoesOn (legal : Origin → List Entry → Type 0) (old new : PassView) : Type 0 where
  pub lock : new.lock ≡ old.lock
  pub fixed : new.fixed ≡ old.fixed
  pub parts : new.parts ≡ old.parts
  pub seen : IsPrefix old.front new.front
  pub still : old.wrong ≡ true → new.wrong ≡ true
  pub stays_legal : IsLegalOver legal old.fixed.base old.front → IsLegalOver legal old.fixed.base new.front

-- a front of these bytes was written, and not all of them
abbrev pub WroteFront : (bytes : List ℕ) (written written_new : Option (List ℕ)) → Type 0
WroteFront bytes written written_new = (k : ℕ) × (k < length bytes) × (written_new ≡ with_more written (take k bytes))

-- what pushing these bytes makes of a sink: all of them were written, or the push failed and a
-- front of them was
pub record IsPushed {K X E : Type 0} (written : K → Option (List ℕ)) (ended : K → Option Bool)
    (faults : K → ℕ) (bytes : List ℕ) (sink sink_new : K) (pushed : Result X E) : Type 0 where
  pub ok : OnOk pushed (written sink_new ≡ with_more (written sink) bytes)
  pub front : OnErr pushed (WroteFront bytes (written sink) (written sink_new))
  pub goes_on : ended sink_new ≡ ended sink
  pub quiet : OnOk pushed (faults sink_new ≡ faults sink)
  pub fault : OnErr pushed (Rose (faults sink) (faults sink_new))
