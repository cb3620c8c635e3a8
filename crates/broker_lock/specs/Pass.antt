-- What a pass is seen as, and what each call of a lock makes of it.
use Rattle.std.specs.Prelude.{◌≡◌, ◌≤◌, ◌⊎◌, ℕ, ◌+◌, ◌||◌, Bool, true, false, List, ◌++◌, Ok}
use mathlib.Core.List.{IsPrefix}
use Rattle.atomic_table.specs.Seated.{TableId}
use Rattle.history_spec.specs.Entry.{Entry, own, IsNextNumber, IsOpen}
use Rattle.broker_lock.specs.declared.calls.Done.{Done}
use Rattle.broker_lock.specs.declared.calls.Done.TheVariants as dones
use Rattle.broker_lock.specs.declared.calls.Job.{Job}
use Rattle.broker_lock.specs.declared.calls.Job.TheVariants as jobs
use Rattle.broker_lock.specs.Known.{Fixed, HasJustKnown, IsLegalOver, Origin, has_closed, knows}
use Rattle.broker_lock.specs.Known.{of_known}
use Rattle.broker_lock.specs.Serves.{IsClosed, Opens, Tells, TellsCanceled, closes_wrong, opens_wrong, tells_wrong}
use Rattle.broker_lock.specs.View.{SeatView}

pub record PassView : Type 0 where
  -- the lock that it is of
  pub lock : TableId
  pub fixed : Fixed
  -- the history, as far as it was seen
  pub front : List Entry
  -- what that has of the pass's clients. A client is known where it has an entry here
  pub known : List Entry
  -- how many of the lock's 1,024 parts it has
  pub parts : ℕ
  -- whether it knows that a wrong answer came
  pub wrong : Bool

-- a pass whose seat is at this table and knows this
abbrev pub pass_view : TableId → SeatView → PassView
pass_view lock v = record { lock = lock; fixed = v.fixed; front = v.front; known = v.known; parts = v.parts; wrong = v.wrong }

-- ---- a turn

abbrev pub IsCommandJob : Job → Type 0
IsCommandJob jobs.Open = ⊥
IsCommandJob (jobs.Command client number) = Unit {0}
IsCommandJob (jobs.Cancel client number upto) = Unit {0}
IsCommandJob (jobs.Close client) = ⊥

-- the client is known, and not to be closed
pub record IsKnownOpen (known : List Entry) (client : ℕ) : Type 0 where
  pub client_known : knows known client ≡ true
  pub not_closed : has_closed known client ≡ false

-- what a pass that knows these entries may ask
abbrev pub MayAsk : List Entry → Job → Type 0
MayAsk known jobs.Open = Unit {0}
MayAsk known (jobs.Command client number) = IsKnownOpen known client × IsNextNumber known client number
MayAsk known (jobs.Cancel client number upto) = IsKnownOpen known client × IsNextNumber known client number × (number ≤ upto)
MayAsk known (jobs.Close client) = IsKnownOpen known client

-- the call that a job names may follow this history
abbrev pub MayCall : List Entry → Job → Type 0
MayCall before jobs.Open = Unit {0}
MayCall before (jobs.Command client number) = IsOpen before client × IsNextNumber before client number
MayCall before (jobs.Cancel client number upto) = IsOpen before client × IsNextNumber before client number × (number ≤ upto)
MayCall before (jobs.Close client) = IsOpen before client

-- what the call that a job names answers, and what it makes of the history. A job has no answer of another's sort
abbrev pub Does : Fixed → List Entry → Job → List ℕ → List Entry → Done → List ℕ → Type 0
Does fixed before jobs.Open bytes after (dones.Opened result) reply = Opens fixed before after result
Does fixed before (jobs.Command client number) bytes after (dones.Told told) reply = Tells fixed before after client number bytes reply told
Does fixed before (jobs.Cancel client number upto) bytes after (dones.Told told) reply = TellsCanceled fixed before after client number upto bytes reply told
Does fixed before (jobs.Close client) bytes after (dones.Closed closed) reply = IsClosed fixed before after client closed
Does fixed before _ bytes after _ reply = ⊥

-- whether it tells of a wrong answer
abbrev pub done_wrong : Done → Bool
done_wrong (dones.Opened result) = opens_wrong result
done_wrong (dones.Told told) = tells_wrong told
done_wrong (dones.Closed closed) = closes_wrong closed

-- one turn at the value
pub record Acts (legal : Origin → List Entry → Type 0) (old : PassView) (job : Job) (bytes : List ℕ) (done : Done) (reply : List ℕ) (new : PassView) : Type 0 where
  -- the history that the call found, and its entry, where it has one
  pub before : List Entry
  pub added : List Entry
  pub seen : IsPrefix old.front before
  pub does : Does old.fixed before job bytes new.front done reply
  pub front : new.front ≡ before ++ added
  pub known : new.known ≡ old.known ++ added
  -- who was opened had no entry, and is known now
  pub opened : (client : ℕ) → done ≡ dones.Opened (Ok client) → (knows before client ≡ false) × (knows new.known client ≡ true)
  -- in the order of the history
  pub order : new.known ≡ of_known new.known new.front
  pub own : HasJustKnown new.known new.front
  pub is_legal : IsLegalOver legal new.fixed.base new.front
  pub lock : new.lock ≡ old.lock
  pub fixed : new.fixed ≡ old.fixed
  pub parts : new.parts ≡ old.parts
  -- a wrong answer is told exactly once one came
  pub wrong : new.wrong ≡ done_wrong done
  pub still : old.wrong ≡ true → new.wrong ≡ true

-- ---- parts

-- the longer of two fronts, which the other begins
abbrev pub IsLonger : List Entry → List Entry → List Entry → Type 0
IsLonger one other longer = ((longer ≡ one) × IsPrefix other one) ⊎ ((longer ≡ other) × IsPrefix one other)

-- two passes are made one
pub record Joins (old ended new : PassView) : Type 0 where
  pub front : IsLonger old.front ended.front new.front
  -- it knows the clients of both, in the order of the history
  pub known : new.known ≡ of_known (old.known ++ ended.known) new.front
  -- and no client was known to both
  pub apart : (client : ℕ) → knows old.known client ≡ true → knows ended.known client ≡ false
  -- with the entries that were known of each
  pub of_old : (client : ℕ) → knows old.known client ≡ true → own new.known client ≡ own old.known client
  pub of_ended : (client : ℕ) → knows ended.known client ≡ true → own new.known client ≡ own ended.known client
  pub own : HasJustKnown new.known new.front
  pub lock : new.lock ≡ old.lock
  pub fixed : new.fixed ≡ old.fixed
  pub parts : new.parts ≡ old.parts + ended.parts
  pub wrong : new.wrong ≡ (old.wrong || ended.wrong)

-- the history at the end: the front, each client of which is known, and so each entry; and whether a wrong answer came
pub record PassEnds (pass : PassView) (history : List Entry) (fixed : Fixed) (wrong : Bool) : Type 0 where
  pub front : history ≡ pass.front
  pub all : (client : ℕ) → knows history client ≡ true → knows pass.known client ≡ true
  pub known : history ≡ pass.known
  pub fixed_is : fixed ≡ pass.fixed
  pub told : pass.wrong ≡ true → wrong ≡ true
