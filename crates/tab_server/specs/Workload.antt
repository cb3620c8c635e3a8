-- What a run of a workload leaves: the summary of its replies where the whole script was played.
use Rattle.std.specs.Prelude.{◌≡◌, ◌⊎◌, ℕ, Bool, List, [], ◌∷◌, ◌++◌, length, Option, None, IfSome, IsSomeAnd}
use Rattle.device_spec.specs.Answers.{IsWrongAnswer}
use Rattle.device_port.specs.Device.{asked_of, last_of}
use Rattle.link_port.specs.Port.{with_more}
use Rattle.history_spec.specs.Entry.{Entry}
use Rattle.history_spec.specs.Told.{Limits}
use Rattle.script_spec.specs.Script.{script}
use Rattle.script_spec.specs.Calls.{Call, opening, calls_from, with_closes}
use Rattle.script_spec.specs.Plays.{Plays}
use Rattle.script_spec.specs.Workload.{workload_text}
use Rattle.script_spec.specs.Summary.{Reply, HaveBytes, reply_lines, summary_line}
use Rattle.audit_journal.specs.Text.{WroteFrontOf}
use Rattle.script_player.specs.Ends.{IsFullAt, with_audit}
use Rattle.script_player.specs.Stops.{AreFirstCalls, EndsInClose, Unanswered}
use Rattle.tab_server.specs.declared.status.TheConstants.{BAD_LINE, DONE, INPUT_FAILED, JOURNAL_FULL, NO_MEMORY, OUTPUT_FAILED, WRONG_ANSWER}
use Rattle.tab_server.specs.Status.{HasStatusCause}
use Rattle.tab_server.specs.Run.{Before, After, IsSoundRun, limits}

-- the journal and the replies that were told are what these calls make, and then the closes of the labels that they leave open
pub record TellsCalls (limit : Limits) (done : List Call) (told : List Reply) (history : List Entry) : Type 0 where
  pub plays : Plays history limit (with_closes done) (reply_lines told)
  pub have : HaveBytes told

abbrev pub TellsSome : Limits → List Call → List Entry → Type 0
TellsSome limit done history = (told : List Reply) × TellsCalls limit done told history

-- the calls of the script, without the closes at its end
abbrev pub workload_calls : ℕ → ℕ → List Call
workload_calls start lines = calls_from [] (script (workload_text start lines)).items

-- these are the first of them, up to an opening
abbrev pub AreUpToOpening : ℕ → ℕ → List Call → Type 0
AreUpToOpening start lines done = (label : ℕ) × (more : List Call) × (workload_calls start lines ≡ done ++ opening label ∷ more)

-- ---- how much was played, and the text that comes of it

-- the whole script was played, and the text is its summary
abbrev pub PlayedWhole : (limit : Limits) (start lines : ℕ) → List Entry → List ℕ → Type 0
PlayedWhole limit start lines history text =
    (told : List Reply) × TellsCalls limit (workload_calls start lines) told history × (text ≡ summary_line lines told (length history))

-- it was played up to an opening, and there is no text
abbrev pub PlayedPart : (limit : Limits) (start lines : ℕ) → List Entry → List ℕ → Type 0
PlayedPart limit start lines history text =
    (done : List Call) × AreUpToOpening start lines done × TellsSome limit done history
    × (text ≡ [])

-- the same, and the journal had no room for another client then
abbrev pub PlayedFull : (limit : Limits) (start lines detail : ℕ) → List Entry → List ℕ → Type 0
PlayedFull limit start lines detail history text =
    (done : List Call) × AreUpToOpening start lines done × TellsSome limit done history × IsFullAt limit done detail history × (text ≡ [])

-- it was played up to a call that was told DEVICE_ANSWER, or up to a close in which the device gave a wrong answer
abbrev pub PlayedUpToAnswer : (limit : Limits) (start lines : ℕ) → List Entry → List ℕ → Type 0
PlayedUpToAnswer limit start lines history text = (done : List Call) × (last : Option Unanswered)
    × (last ≡ None → EndsInClose done) × AreFirstCalls done last (workload_text start lines) × TellsSome limit done history × (text ≡ [])

-- or the wrong answer came in the closes behind all calls
abbrev pub PlayedToAnswer : (limit : Limits) (start lines : ℕ) → List Entry → List ℕ → Type 0
PlayedToAnswer limit start lines history text = PlayedWhole limit start lines history text ⊎ PlayedUpToAnswer limit start lines history text

-- how a run ended that no failed write stopped, and its text
pub data WorkloadEnded (limit : Limits) (start lines : ℕ) (after : After) (history : List Entry) (text : List ℕ) : Type 0 where
  whole : PlayedWhole limit start lines history text → WorkloadEnded limit start lines after history text
  part : PlayedPart limit start lines history text → WorkloadEnded limit start lines after history text
  full : (detail : ℕ) → PlayedFull limit start lines detail history text → WorkloadEnded limit start lines after history text
  answered : (code : ℕ) → IsWrongAnswer limit.contexts (asked_of after.seen) (last_of after.seen) code → after.seen.state ≡ None → PlayedToAnswer limit start lines history text
      → WorkloadEnded limit start lines after history text

-- ---- what is written

-- such a text was written, and behind it the audit text where it is asked for
abbrev pub WroteText : Bool → Before → After → List Entry → (List ℕ → Type 0) → Type 0
WroteText audit before after history IsText =
    (text : List ℕ) × IsText text × (after.written ≡ with_more before.written (with_audit audit history text))

-- a front of that, and not all of it
abbrev pub WrotePart : Bool → Before → After → List Entry → (List ℕ → Type 0) → Type 0
WrotePart audit before after history IsText =
    (text : List ℕ) × IsText text × WroteFrontOf (with_audit audit history text) before.written after.written

-- what a workload of words that aren't refused leaves, with a journal where the broker began. No reply is written
pub record LeavesWorkload (limit : ℕ) (audit : Bool) (start lines : ℕ) (before : Before) (after : After) (status detail : ℕ) (journal : Option (List Entry)) : Type 0 where
  pub sound : IsSoundRun before after status journal
  pub whole : status ≡ DONE → IsSomeAnd journal (λ history. WroteText audit before after history (PlayedWhole (limits before.contexts limit) start lines history))
  pub part : status ≡ NO_MEMORY → IfSome journal (λ history. WroteText audit before after history (PlayedPart (limits before.contexts limit) start lines history))
  pub full : status ≡ JOURNAL_FULL → IsSomeAnd journal (λ history. WroteText audit before after history (PlayedFull (limits before.contexts limit) start lines detail history))
  pub answered : status ≡ WRONG_ANSWER → IfSome journal (λ history. WroteText audit before after history (PlayedToAnswer (limits before.contexts limit) start lines history))
  pub front : status ≡ OUTPUT_FAILED → IsSomeAnd journal (λ history. WrotePart audit before after history (WorkloadEnded (limits before.contexts limit) start lines after history))
  -- When each status comes: no line is bad, and no read fails. The input is left as it was.
  pub never : (status ≡ BAD_LINE) ⊎ (status ≡ INPUT_FAILED) → ⊥
  pub cause : HasStatusCause before.contexts status detail before.faults after.faults (asked_of after.seen) (last_of after.seen) after.seen.state
  pub unread : (after.left ≡ before.left) × (after.faults.input ≡ before.faults.input)
