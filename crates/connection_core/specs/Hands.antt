-- What is known of both hands of a connection, and of what they leave.
use Rattle.std.specs.Prelude.{◌≡◌, ℕ, Bool, List, [], Option, Some, None, IfSome}
use Rattle.atomic_table.specs.Seated.{TableId}
use Rattle.crossbeam_channel.specs.Claims.{IsSeatAt}
use Rattle.crossbeam_channel.specs.Ends.{sends_on}
use Rattle.history_spec.specs.Entry.{Entry}
use Rattle.broker_lock.specs.Known.{Origin}
use Rattle.broker_lock.specs.Pass.{PassView}
use Rattle.link_port.specs.Port.{at_end}
use Rattle.cancel_words.specs.View.{WordView}
use Rattle.connection_core.specs.declared.between.Between.{Between}
use Rattle.connection_core.specs.declared.between.Side.{Side}
use Rattle.connection_core.specs.declared.ends.Ending.{Ending}
use Rattle.connection_core.specs.declared.ends.LinkEnd.{LinkEnd}
use Rattle.connection_core.specs.declared.hands.Hand.{Hand}
use Rattle.connection_core.specs.declared.hands.Keeper.{Keeper}
use Rattle.connection_core.specs.declared.hands.Link.{Link}
use Rattle.connection_core.specs.declared.reader.Reader.{Reader}
use Rattle.connection_core.specs.declared.worker.Worker.{Worker}
use Rattle.connection_core.specs.Duties.{KeepsTo}
use Rattle.connection_core.specs.Keeps.{IsBegun, Start}
use Rattle.connection_core.specs.Leaves.{ReaderLeaves, WorkerLeaves}
use Rattle.connection_core.specs.Links.{HasEndingCause, IsClosedLink, IsOpeningRefused}
use Rattle.connection_core.specs.Sides.{IsFreshReaders, IsReaders}
use Rattle.connection_core.specs.Turns.{GoesOn}
use Rattle.connection_core.specs.Works.{ended_by}

-- its passes are of these ways
pub record IsHandOf {B K J : Type 0} (link : Link B K J) (hand : Hand B K) : Type 0 where
  pub out : IsSeatAt (sends_on link.out.sender) hand.out
  pub home : IsSeatAt (sends_on link.home.sender) hand.home

-- and the duty, where the reader has it, was done as it should be
pub record IsKeeper {B K J : Type 0} (legal : Origin → List Entry → Type 0) (written : K → Option (List ℕ)) (ended : K → Option Bool) (faults : K → ℕ) (begun : Option Start) (link : Link B K J) (keeper : Keeper B K) : Type 0 where
  pub hand : IsHandOf link keeper.hand
  pub duty : IfSome keeper.duty (λ duty. KeepsTo legal written ended faults begun duty)

-- the reader may send: its connection has begun, and its hand and its side are of that connection
pub record MaySend {B K J : Type 0} (legal : Origin → List Entry → Type 0)
    (written : K → Option (List ℕ)) (ended : K → Option Bool) (faults : K → ℕ)
    (begun : Option Start) (lock : TableId) (link : Link B K J) (keeper : Keeper B K)
    (side : Side) : Type 0 where
  pub begins : IsBegun begun lock link.between
  pub keeps : IsKeeper legal written ended faults begun link keeper
  pub of : IsReaders link.between side

-- the same before the reader has pulled, held or sent anything
pub record MayRead {B K J S : Type 0} (legal : Origin → List Entry → Type 0)
    (written : K → Option (List ℕ)) (ended : K → Option Bool) (faults : K → ℕ)
    (begun : Option Start) (lock : TableId) (link : Link B K J) (keeper : Keeper B K)
    (reader : Reader S) : Type 0 where
  pub begins : IsBegun begun lock link.between
  pub keeps : IsKeeper legal written ended faults begun link keeper
  pub side : IsFreshReaders link.between reader.side
  pub empty : reader.intake.framer ≡ []
  pub unheld : reader.held ≡ []

-- what the reader leaves
abbrev pub HasReadAll : {S : Type 0} → (left : S → Option (List ℕ)) → (failed : S → ℕ) → Between
    → (reader reader_new : Reader S) → Type 0
HasReadAll left failed between reader reader_new = ReaderLeaves between reader_new.side
    (left reader.source) (left reader_new.source) (failed reader.source) (failed reader_new.source)

-- what the worker of a duty that is over leaves, once its client is closed
pub record ClosesDuty {B K : Type 0} (legal : Origin → List Entry → Type 0) (written : K → Option (List ℕ)) (ended : K → Option Bool) (faults : K → ℕ) (ending : Ending) (start : Start) (worker : Worker B K) : Type 0 where
  pub leaves : WorkerLeaves legal start.between worker.side ending start.pass worker.pass worker.client worker.done start.written (written worker.sink) start.faults (faults worker.sink)
  pub sink_ended : ended worker.sink ≡ ended_by ending start.ended

abbrev pub ClosesTo : {B K : Type 0} → (legal : Origin → List Entry → Type 0) → (written : K → Option (List ℕ)) → (ended : K → Option Bool) → (faults : K → ℕ) → Ending → Option Start → Worker B K → Type 0
ClosesTo legal written ended faults ending begun worker = (start : Start) → begun ≡ Some start → ClosesDuty legal written ended faults ending start worker

-- what both leave
pub record BothLeave {B K S : Type 0} (legal : Origin → List Entry → Type 0)
    (left : S → Option (List ℕ)) (failed : S → ℕ) (written : K → Option (List ℕ))
    (ended : K → Option Bool) (faults : K → ℕ) (begun : Option Start) (between : Between)
    (reader reader_new : Reader S) (worker : Worker B K) (ending : Ending) : Type 0 where
  pub reads : HasReadAll left failed between reader reader_new
  pub closes : ClosesTo legal written ended faults ending begun worker

-- what a connection leaves whose client was opened
pub record Served {B S K : Type 0} (legal : Origin → List Entry → Type 0) (left : S → Option (List ℕ)) (failed : S → ℕ) (written : K → Option (List ℕ)) (ended : K → Option Bool) (faults : K → ℕ) (start : Start) (source : S) (end : LinkEnd B S K) (seat : WordView) : Type 0 where
  pub client : ℕ
  pub client_is : end.client ≡ Some client
  pub goes_on : GoesOn legal start.pass end.pass
  pub closed : IsClosedLink legal end.ending end.pass client end.done (left source) (left end.source) start.written (written end.sink) (Some seat)
  pub sink_ended : ended end.sink ≡ at_end start.ended
  pub cause : HasEndingCause end.ending (failed source) (failed end.source) start.faults
      (faults end.sink)

abbrev pub ServedTo : {B S K : Type 0} → (legal : Origin → List Entry → Type 0) → (left : S → Option (List ℕ)) → (failed : S → ℕ) → (written : K → Option (List ℕ)) → (ended : K → Option Bool) → (faults : K → ℕ) → Option Start → S → LinkEnd B S K → WordView → Type 0
ServedTo legal left failed written ended faults begun source end seat = (start : Start) → begun ≡ Some start → Served legal left failed written ended faults start source end seat

-- What a connection leaves, with a client or without one. `word` is what the seat of its cancel
-- word holds.
pub record LinkLeaves {B S K : Type 0} (legal : Origin → List Entry → Type 0)
    (left : S → Option (List ℕ)) (failed : S → ℕ) (written : K → Option (List ℕ))
    (ended : K → Option Bool) (faults : K → ℕ) (pass : PassView) (source : S) (sink : K)
    (end : LinkEnd B S K) (word : Option WordView) : Type 0 where
  pub goes_on : GoesOn legal pass end.pass
  pub closed : IfSome end.client
      (λ client. IsClosedLink legal end.ending end.pass client end.done (left source)
      (left end.source)
      (written sink) (written end.sink) word)
  pub refused : end.client ≡ None → IsOpeningRefused end.ending end.pass end.done
  pub no_word : end.client ≡ None → word ≡ None
  pub source_is : end.client ≡ None → end.source ≡ source
  pub written_is : end.client ≡ None → written end.sink ≡ written sink
  pub sink_ended : ended end.sink ≡ at_end (ended sink)
  pub cause : HasEndingCause end.ending (failed source) (failed end.source) (faults sink)
      (faults end.sink)
