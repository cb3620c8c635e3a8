-- What a run leaves: how its status, its journal and its output stand to what there was before it.
use Rattle.std.specs.Prelude.{◌≡◌, ◌≤◌, ◌⊎◌, ℕ, Bool, false, true, IsTrue, List, [], Option, None, Some, IfSome, IsSome, IsSomeAnd}
use Rattle.tab_spec.specs.Count.{Rose}
use Rattle.tab_spec.specs.declared.contexts.ContextLimits.{ContextLimits}
use Rattle.device_spec.specs.Slots.{SlotState, IsSlots}
use Rattle.device_spec.specs.Answers.{IsRight, IsWrongAnswer, wrong}
use Rattle.history_spec.specs.Entry.{Entry}
use Rattle.history_spec.specs.AuditText.{audit_text}
use Rattle.history_spec.specs.Told.{Limits}
use Rattle.world_spec.specs.World.{world_of}
use Rattle.link_port.specs.Port.{with_more}
use Rattle.script_spec.specs.Script.{script}
use Rattle.script_spec.specs.Calls.{Call, calls_from}
use Rattle.audit_journal.specs.Text.{WroteFrontOf}
use Rattle.device_port.specs.Device.{Seen, asked_of, last_of}
use Rattle.broker_lock.specs.Known.{Origin, origin_of}
use Rattle.broker_core.specs.Broker.{AreWhole, BrokerView, FaultsCounted, HoldsLeft, LegalOver, told_origin}
use Rattle.script_player.specs.Ends.{LeavesFull, LeavesPart, LeavesRead, LeavesWhole, MakesUpTo, with_audit}
use Rattle.script_player.specs.Stops.{AreFirstCalls, CutsLastLine, EndsInClose, Unanswered}
use Rattle.tab_server.specs.declared.status.TheConstants.{BAD_LINE, DONE, INPUT_FAILED, JOURNAL_FULL, NO_MEMORY, OUTPUT_FAILED, OUT_OF_RANGE, START_FAILED, WRONG_ANSWER}
use Rattle.tab_server.specs.Status.{Faults, HasStatusCause, IsPulledByStatus, IsToldByStatus}

-- what a client may be answered with a journal of so many bytes, over a device with these contexts
abbrev pub limits : ContextLimits → ℕ → Limits
limits contexts limit = record { bytes = limit; contexts = contexts }

-- what there was before a run: what the contexts of the device may be, what its history begins from and its numbers, what the input has, what was
-- written to the output, and how often each of them failed
pub record Before : Type 0 where
  pub contexts : ContextLimits
  pub base : Option Origin
  pub left : Option (List ℕ)
  pub written : Option (List ℕ)
  pub faults : Faults

-- what there is after it; of the device all that it shows
pub record After : Type 0 where
  pub seen : Seen
  pub left : Option (List ℕ)
  pub written : Option (List ℕ)
  pub faults : Faults

-- the same, by what each of them shows
abbrev pub before_of : (contexts : ContextLimits) → (base : Option Origin) → (began : ℕ) → (left : Option (List ℕ)) → (input : ℕ) → (written : Option (List ℕ)) → (output : ℕ) → Before
before_of contexts base began left input written output = record {
  contexts = contexts;
  base = base;
  left = left;
  written = written;
  faults = record { device = began; input = input; output = output };
}

abbrev pub after_of : Seen → (left : Option (List ℕ)) → (input : ℕ) → (written : Option (List ℕ)) → (output : ℕ) → After
after_of seen left input written output = record {
  seen = seen;
  left = left;
  written = written;
  faults = record { device = seen.faults; input = input; output = output };
}

-- the same by a device, an input and an output, and what each of them shows
abbrev pub before : {D I O : Type 0} → (contexts : ContextLimits) → (seen : D → Seen) → (left : I → Option (List ℕ)) → (input_faults : I → ℕ)
    → (written : O → Option (List ℕ)) → (output_faults : O → ℕ) → D → I → O → Before
before contexts seen left input_faults written output_faults device input output =
    before_of contexts (told_origin (seen device).base (seen device).state) (seen device).faults (left input) (input_faults input) (written output) (output_faults output)

abbrev pub after : {D I O : Type 0} → (seen : D → Seen) → (left : I → Option (List ℕ)) → (input_faults : I → ℕ)
    → (written : O → Option (List ℕ)) → (output_faults : O → ℕ) → D → I → O → After
after seen left input_faults written output_faults device input output =
    after_of (seen device) (left input) (input_faults input) (written output) (output_faults output)

-- a broker that has opened no client yet, over the device that it was given, whose fault count
-- didn't fall
pub record Begins {D : Type 0} (seen : Seen) (limit : ℕ) (broker : BrokerView D) (seen_new : Seen) : Type 0 where
  pub empty : broker.journal ≡ []
  pub sound : broker.wrong_code ≡ None
  pub limit_is : broker.limit ≡ limit
  pub began_is : broker.began ≡ seen.faults
  -- its history begins from the state that the device shows
  pub base_is : origin_of seen_new.base broker.held.sessions.numbers ≡ told_origin seen.base seen.state
  pub counted : broker.began ≤ seen_new.faults

-- the journal is a legal history, and the device keeps what the world keeps after it; it is started, and its numbers are in
-- range and as they were
pub record IsHistory (origin : Origin) (slots : SlotState) (history : List Entry) : Type 0 where
  pub legal : LegalOver origin history
  pub persist : slots.persist ≡ (world_of origin.persist origin.numbers.active history).persist
  pub started : slots.started ≡ true
  pub sound : IsSlots slots
  pub numbers : slots.numbers ≡ origin.numbers

-- the same, if the device shows its state
abbrev pub IsHistoryOf : Option Origin → Option SlotState → List Entry → Type 0
IsHistoryOf base state history = (o : Origin) (slots : SlotState) → base ≡ Some o → state ≡ Some slots → IsHistory o slots history

-- what it holds when all clients are closed: the sessions that are left in the world after the journal, no more than may be, and
-- orphans, no more than transmissions failed; where there is no orphan, just those sessions
abbrev pub HoldsLeftOf : Option Origin → (began : ℕ) → Seen → List Entry → Type 0
HoldsLeftOf base began seen history =
    (o : Origin) (slots : SlotState) → base ≡ Some o → seen.state ≡ Some slots
    → HoldsLeft began seen.faults history slots (world_of o.persist o.numbers.active history).left

-- what a broker leaves once its clients are all closed
pub record IsEnded (contexts : ContextLimits) (base : Option Origin) (began : ℕ) (seen : Seen) (wrong : Option ℕ) (history : List Entry) : Type 0 where
  pub legal : IsHistoryOf base seen.state history
  pub faulted : FaultsCounted began seen.faults history 0
  pub replies : AreWhole history
  pub base_is : told_origin seen.base seen.state ≡ base
  pub holds : HoldsLeftOf base began seen history
  pub right : wrong ≡ None → IsRight contexts (asked_of seen) (last_of seen)
  pub answer : IfSome wrong (IsWrongAnswer contexts (asked_of seen) (last_of seen))
  pub taken : IsSome seen.state → wrong ≡ None

-- ---- how a run ended

-- a run that a wrong answer stopped: journal and output are what the first of the script's calls make. The call behind them
-- was told DEVICE_ANSWER, or the answer came in the last of them, a close, or in the closes behind all calls of the script
abbrev pub LeavesAnswered : Limits → Bool → Option (List ℕ) → Option (List ℕ) → Option (List ℕ) → List Entry → Type 0
LeavesAnswered limit audit given written written_new history = (done : List Call) × (last : Option Unanswered)
    × (last ≡ None → EndsInClose done ⊎ IfSome given (λ all. calls_from [] (script all).items ≡ done))
    × IfSome given (λ all. AreFirstCalls done last all)
    × MakesUpTo limit done last (λ all. written_new ≡ with_more written (with_audit audit history all)) history

-- a run that a failed write stopped: the journal is what the first of the script's calls make, and the output lacks a part
-- of the last line that they write. Only after a wrong answer of the device, which then tells no state, was the last of
-- them told DEVICE_ANSWER
abbrev pub LeavesFront : Limits → List ℕ → Option (List ℕ) → Option SlotState → Option (List ℕ) → Option (List ℕ) → Option (List ℕ) → List Entry → Type 0
LeavesFront limit asked response state given written written_new history = (done : List Call) × (last : Option Unanswered)
    × (IsSome last → (state ≡ None) × (wrong limit.contexts asked response ≡ true))
    × IfSome given (λ all. AreFirstCalls done last all)
    × MakesUpTo limit done last (λ all. CutsLastLine all written written_new) history

-- no read of the input failed
abbrev pub NoReadFailed : Before → After → Type 0
NoReadFailed before after = after.faults.input ≡ before.faults.input

-- how a run ended that no failed write stopped: the lines that were written, and the journal, are what calls make
pub data Ended (limit : Limits) (before : Before) (after : After) (lines : Option (List ℕ)) (history : List Entry) : Type 0 where
  whole : NoReadFailed before after → LeavesWhole limit false before.left before.written lines history → Ended limit before after lines history
  part : NoReadFailed before after → LeavesPart limit false before.left before.written lines history → Ended limit before after lines history
  read : Rose before.faults.input after.faults.input → LeavesRead limit false before.left after.left before.written lines history
      → Ended limit before after lines history
  full : (detail : ℕ) → NoReadFailed before after → LeavesFull limit false before.left before.written lines detail history → Ended limit before after lines history
  answered : (code : ℕ) → IsWrongAnswer limit.contexts (asked_of after.seen) (last_of after.seen) code → after.seen.state ≡ None → NoReadFailed before after → LeavesAnswered limit false before.left before.written lines history
      → Ended limit before after lines history

-- a run that ended so, and whose audit text couldn't be written whole: a front of it stands behind all lines
pub record LeavesText (limit : Limits) (before : Before) (after : After) (history : List Entry) : Type 0 where
  pub lines : Option (List ℕ)
  pub ended : Ended limit before after lines history
  pub text : WroteFrontOf (audit_text history) lines after.written

-- what a run leaves of its journal, if the broker began, and of its device
pub record IsSoundRun (before : Before) (after : After) (status : ℕ) (journal : Option (List Entry)) : Type 0 where
  -- The journal is one legal history of the plain machine, and the device keeps what its world keeps. It has no more failed
  -- commands than the device had failures, each reply in it is one whole frame, and no wrong answer was taken for an answer.
  pub legal : IfSome journal (λ history. IsHistoryOf before.base after.seen.state history)
  pub faulted : IfSome journal (λ history. FaultsCounted before.faults.device after.seen.faults history 0)
  pub replies : IfSome journal AreWhole
  pub right : status ≡ DONE → IfSome journal (λ history. IsRight before.contexts (asked_of after.seen) (last_of after.seen))
  pub begun : (status ≡ START_FAILED) ⊎ (status ≡ OUT_OF_RANGE) → journal ≡ None
  -- The device keeps its base and its numbers.
  pub base : told_origin after.seen.base after.seen.state ≡ before.base
  -- All clients are closed. The device holds the sessions that they saved and left, at most eight, and orphans, no more than it had
  -- failures: just those sessions, where it never failed.
  pub held : IfSome journal (λ history. HoldsLeftOf before.base before.faults.device after.seen history)

-- what a run of words that aren't refused leaves, with a journal if the broker began
pub record Leaves (limit : ℕ) (audit : Bool) (before : Before) (after : After) (status detail : ℕ) (journal : Option (List Entry)) : Type 0 where
  pub sound : IsSoundRun before after status journal
  -- The journal and the output are what the script's calls make, each once and in order, as far as each status says. Where it
  -- is asked for, the audit text of the journal follows. After a failed write nothing more is written. It is the write of a
  -- reply line, and no read failed before it, or that of the audit text, behind a run that ended in its own way.
  pub whole : (status ≡ DONE) ⊎ (status ≡ BAD_LINE) → IsSomeAnd journal (λ history. LeavesWhole (limits before.contexts limit) audit before.left before.written after.written history)
  pub part : status ≡ NO_MEMORY → IfSome journal (λ history. LeavesPart (limits before.contexts limit) audit before.left before.written after.written history)
  pub read : status ≡ INPUT_FAILED → IsSomeAnd journal (λ history. LeavesRead (limits before.contexts limit) audit before.left after.left before.written after.written history)
  pub full : status ≡ JOURNAL_FULL → IsSomeAnd journal (λ history. LeavesFull (limits before.contexts limit) audit before.left before.written after.written detail history)
  pub answered : status ≡ WRONG_ANSWER → IfSome journal (λ history. LeavesAnswered (limits before.contexts limit) audit before.left before.written after.written history)
  pub front : status ≡ OUTPUT_FAILED → IsSomeAnd journal (λ history.
      (NoReadFailed before after × LeavesFront (limits before.contexts limit) (asked_of after.seen) (last_of after.seen) after.seen.state before.left before.written after.written history)
      ⊎ (IsTrue audit × LeavesText (limits before.contexts limit) before after history))
  -- When each status comes, and how much is read at most.
  pub pulled : IsPulledByStatus status before.left after.left
  pub ending : IfSome before.left (λ all. IsToldByStatus (script all).ending status detail)
  pub cause : HasStatusCause before.contexts status detail before.faults after.faults (asked_of after.seen) (last_of after.seen) after.seen.state
