-- What comes of serving the connections that an acceptor hands out, by the journal at the end.
use Rattle.std.specs.Prelude.{◌≡◌, ◌≤◌, ◌⊎◌, ℕ, ◌==◌, Bool, true, false, cond, List, [], ◌∷◌, ◌++◌}
use Rattle.std.specs.Prelude.{length, Option, Some, None, Result, Err, OnOk}
use Rattle.std.specs.List.{AllZip, count_by}
use Rattle.tab_spec.specs.Count.{Rose}
use Rattle.history_spec.specs.Entry.{Entry, HasRoomForClient, clients_of, close_entry, kept}
use Rattle.history_spec.specs.Entry.{open_entry, own}
use Rattle.broker_lock.specs.Known.{Fixed, IsLegalOver, IsUntold, Origin, knows}
use Rattle.cancel_words.specs.View.{WordView}
use Rattle.connection_core.specs.declared.ends.Ending.{Ending}
use Rattle.connection_core.specs.declared.ends.Ending.TheVariants as endings
use Rattle.connection_core.specs.Links.{HasEndingCause, IsOpenedIn, RanLink}
use Rattle.accept_loop.specs.declared.serving.AcceptError.{AcceptError}
use Rattle.accept_loop.specs.declared.serving.AcceptError.TheVariants as errors
use Rattle.accept_loop.specs.declared.serving.LinkDone.{LinkDone}

-- ---- one connection

-- what a connection's two ends tell
pub record ConnectionEnds : Type 0 where
  pub left : Option (List ℕ)
  pub written : Option (List ℕ)
  pub source_faults : ℕ
  pub sink_faults : ℕ

abbrev pub ends_of : {S K : Type 0} → (S → Option (List ℕ)) → (K → Option (List ℕ)) → (S → ℕ) → (K → ℕ) → S → K → ConnectionEnds
ends_of left written source_faults sink_faults source sink =
    record { left = left source; written = written sink; source_faults = source_faults source; sink_faults = sink_faults sink }

-- a connection that has a client: the journal has the client's opening, the entries of its commands and its close, and no
-- other entry of it
pub record HasClient (fixed : Fixed) (wrong : Bool) (journal : List Entry) (given left : ConnectionEnds) (client done : ℕ) (ending : Ending) (word : Option WordView) : Type 0 where
  pub entries : List Entry
  -- what the seat of its cancel word holds
  pub seat : WordView
  pub own_is : own journal client ≡ (open_entry client ∷ entries) ++ close_entry client ∷ []
  pub opened : IsOpenedIn fixed.limit journal client
  pub word_is : word ≡ Some seat
  pub ran : RanLink ending fixed wrong journal client done entries given.left left.left given.written left.written seat

-- why a connection has no client
abbrev pub Lacks : Ending → Fixed → (wrong : Bool) → List Entry → Type 0
Lacks endings.EndOfInput fixed wrong journal = ⊥
Lacks (endings.BadFrame size) fixed wrong journal = ⊥
Lacks endings.ReadFault fixed wrong journal = ⊥
Lacks endings.WriteFault fixed wrong journal = ⊥
Lacks endings.Memory fixed wrong journal = Unit {0}
Lacks (endings.JournalFull count limit) fixed wrong journal = (HasRoomForClient fixed.limit journal → ⊥) × (count ≤ kept journal) × (limit ≡ fixed.limit)
Lacks endings.Answer fixed wrong journal = IsUntold fixed × (wrong ≡ true)

-- one that has none: nothing was taken, run or written
pub record HasNoClient (fixed : Fixed) (wrong : Bool) (journal : List Entry) (given left : ConnectionEnds) (done : ℕ) (ending : Ending) (word : Option WordView) : Type 0 where
  pub done_is : done ≡ 0
  pub same : left ≡ given
  pub no_word : word ≡ None
  pub cause : Lacks ending fixed wrong journal

abbrev pub HasPerhapsClient : Option ℕ → Fixed → (wrong : Bool) → List Entry → (given left : ConnectionEnds) (done : ℕ) → Ending → Option WordView → Type 0
HasPerhapsClient (Some client) fixed wrong journal given left done ending word = HasClient fixed wrong journal given left client done ending word
HasPerhapsClient None fixed wrong journal given left done ending word = HasNoClient fixed wrong journal given left done ending word

-- what became of a connection. `wrong` is whether the device gave a wrong answer
pub record IsLink (fixed : Fixed) (wrong : Bool) (journal : List Entry) (given left : ConnectionEnds) (client : Option ℕ) (done : ℕ) (ending : Ending) (word : Option WordView) : Type 0 where
  pub ended : HasPerhapsClient client fixed wrong journal given left done ending word
  pub cause : HasEndingCause ending given.source_faults left.source_faults given.sink_faults left.sink_faults

-- the same by what its two ends tell, as they were accepted and as they were left
abbrev pub IsLinkDone : {S K : Type 0} → (left : S → Option (List ℕ))
    → (written : K → Option (List ℕ)) → (source_faults : S → ℕ) → (sink_faults : K → ℕ) → Fixed
    → (wrong : Bool) → List Entry → S × K → LinkDone S K → Type 0
IsLinkDone left written source_faults sink_faults fixed wrong journal given link =
    IsLink fixed wrong journal (ends_of left written source_faults sink_faults given.0 given.1)
    (ends_of left written source_faults sink_faults link.source link.sink)
    link.client link.done link.ending link.word

abbrev pub client_of : {S K : Type 0} → LinkDone S K → Option ℕ
client_of link = link.client

-- ---- all of them

-- these are the first of the connections that come
abbrev pub AreFirst : {L : Type 0} → (coming coming_new : Option (List L)) → List L → Type 0
AreFirst None coming_new accepted = coming_new ≡ None
AreFirst {L} (Some links) coming_new accepted = (rest : List L) × (links ≡ accepted ++ rest) × (coming_new ≡ Some rest)

abbrev pub is_of : ℕ → Option ℕ → Bool
is_of client None = false
is_of client (Some other) = other == client

-- how many of the connections have this client
abbrev pub links_of : {M : Type 0} → (M → Option ℕ) → ℕ → List M → ℕ
links_of client_of client links = count_by (λ link. is_of client (client_of link)) links

-- The first connections that came were served, each once. Each client of the journal is that of one connection alone, and so no
-- two connections have one client.
pub record AreServed {L M : Type 0} (is_link : L → M → Type 0) (client_of : M → Option ℕ) (journal : List Entry) (coming coming_new : Option (List L)) (most : ℕ) (links : List M) : Type 0 where
  pub accepted : List L
  pub first : AreFirst coming coming_new accepted
  pub within : length accepted ≤ most
  pub each : AllZip is_link accepted links
  pub clients : (client : ℕ) → links_of client_of client links ≡ cond (knows journal client) 1 0

-- as many as were asked for, or all that came
abbrev pub AreEnough : {L M : Type 0} → (most : ℕ) (coming_new : Option (List L)) → List M → Type 0
AreEnough {L} most coming_new links = (length links ≡ most) ⊎ ((rest : List L) → coming_new ≡ Some rest → rest ≡ [])

-- what serving all that come leaves, over a value that keeps a history. `wrong` tells whether its
-- device gave a wrong answer
pub record HasServed {A B S K : Type 0} (legal : Origin → List Entry → Type 0) (fixed : B → Fixed)
    (wrong : B → Bool) (history : B → List Entry) (coming : A → Option (List (S × K)))
    (faults : A → ℕ) (left : S → Option (List ℕ)) (written : K → Option (List ℕ))
    (source_faults : S → ℕ) (sink_faults : K → ℕ) (most : ℕ) (value value_new : B)
    (acceptor acceptor_new : A) (accepted : Result (Unit {0}) AcceptError)
    (links : List (LinkDone S K)) : Type 0 where
  pub fixed_is : fixed value_new ≡ fixed value
  -- the history is legal where it is told what it begins from
  pub is_legal : IsLegalOver legal (fixed value).base (history value_new)
  -- Each connection that was accepted has its commands in the history once and in order, and was
  -- written what they were told. The history has no other client.
  pub served : AreServed (IsLinkDone left written source_faults sink_faults (fixed value)
      (wrong value_new) (history value_new)) client_of (history value_new) (coming acceptor)
      (coming acceptor_new) most links
  -- all clients are closed
  pub closed : (clients_of (history value_new)).present ≡ []
  pub enough : OnOk accepted (AreEnough most (coming acceptor_new) links)
  pub quiet : OnOk accepted (faults acceptor_new ≡ faults acceptor)
  pub failed : accepted ≡ Err errors.Failed → Rose (faults acceptor) (faults acceptor_new)
  pub memory : accepted ≡ Err errors.Memory
      → (acceptor_new ≡ acceptor) × (links ≡ []) × (value_new ≡ value)
