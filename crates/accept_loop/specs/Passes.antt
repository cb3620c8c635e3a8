-- What a connection's end tells, and what the ends of all tell, by their passes.
use Rattle.std.specs.Prelude.{◌≡◌, ◌<◌, ◌≤◌, ℕ, List, [], Option, Some, None, Result, OnOk, OnErr}
use Rattle.atomic_table.specs.Seated.{TableId}
use Rattle.tab_spec.specs.Count.{Rose}
use Rattle.history_spec.specs.Entry.{Entry}
use Rattle.broker_lock.specs.Known.{HasJustKnown, Origin}
use Rattle.broker_lock.specs.Pass.{PassView}
use Rattle.cancel_words.specs.View.{WordView}
use Rattle.connection_core.specs.declared.ends.Ending.{Ending}
use Rattle.connection_core.specs.Links.{HasEndingCause, IsClosedLink, IsOpeningRefused}
use Rattle.connection_core.specs.Turns.{GoesOn}
use Rattle.accept_loop.specs.Connections.{AreEnough, AreServed, ConnectionEnds, IsLinkDone}
use Rattle.accept_loop.specs.Connections.{client_of}
use Rattle.accept_loop.specs.Connections.{ends_of}
use Rattle.accept_loop.specs.declared.serving.LinkDone.{LinkDone}

-- with a client, or without one
abbrev pub EndsWith : (legal : Origin → List Entry → Type 0) → Option ℕ → PassView → (given left : ConnectionEnds) (done : ℕ) → Ending → Option WordView → Type 0
EndsWith legal (Some client) pass given left done ending word = IsClosedLink legal ending pass client done given.left left.left given.written left.written word
EndsWith legal None pass given left done ending word = IsOpeningRefused ending pass done × (left ≡ given) × (word ≡ None)

-- a connection that was served with this pass
pub record Comes (legal : Origin → List Entry → Type 0) (old new : PassView) (given left : ConnectionEnds) (client : Option ℕ) (done : ℕ) (ending : Ending) (word : Option WordView) : Type 0 where
  pub goes_on : GoesOn legal old new
  pub ended : EndsWith legal client new given left done ending word
  pub cause : HasEndingCause ending given.source_faults left.source_faults given.sink_faults left.sink_faults

-- the same by what its two ends tell
abbrev pub ComesTo : {S K : Type 0} → (legal : Origin → List Entry → Type 0)
    → (left : S → Option (List ℕ)) → (written : K → Option (List ℕ)) → (source_faults : S → ℕ)
    → (sink_faults : K → ℕ) → (old new : PassView) → S × K → LinkDone S K → Type 0
ComesTo legal left written source_faults sink_faults old new given link =
    Comes legal old new (ends_of left written source_faults sink_faults given.0 given.1)
    (ends_of left written source_faults sink_faults link.source link.sink)
    link.client link.done link.ending link.word

-- a pass that knows nobody and room for so many connections, none of which was served yet
pub record HasRoomForLinks {M : Type 0} (lock : TableId) (most : ℕ) (pass : PassView)
    (links : List M) (capacity : ℕ) : Type 0 where
  pub lock_is : pass.lock ≡ lock
  pub nobody : pass.known ≡ []
  pub parts : most < pass.parts
  pub none : links ≡ []
  pub room : most ≤ capacity

-- what serving all connections that come makes of a pass, and what it answers
pub record ServesAll {L M X E : Type 0} (legal : Origin → List Entry → Type 0) (is_link : PassView → L → M → Type 0) (client_of : M → Option ℕ) (old new : PassView) (coming coming_new : Option (List L)) (faults faults_new most : ℕ)
    (accepted : Result X E) (links : List M) : Type 0 where
  pub goes_on : GoesOn legal old new
  pub own : HasJustKnown new.known new.front
  pub served : AreServed (is_link new) client_of new.known coming coming_new most links
  pub enough : OnOk accepted (AreEnough most coming_new links)
  pub quiet : OnOk accepted (faults_new ≡ faults)
  pub fault : OnErr accepted (Rose faults faults_new)

-- the same by what the ends of each tell
abbrev pub ServesLinks : {S K X E : Type 0} → (legal : Origin → List Entry → Type 0)
    → (left : S → Option (List ℕ)) → (written : K → Option (List ℕ)) → (source_faults : S → ℕ)
    → (sink_faults : K → ℕ) → (old new : PassView)
    → (coming coming_new : Option (List (S × K))) → (faults faults_new most : ℕ) → Result X E
    → List (LinkDone S K) → Type 0
ServesLinks legal left written source_faults sink_faults = ServesAll legal
    (λ pass. IsLinkDone left written source_faults sink_faults pass.fixed pass.wrong pass.front)
    client_of
