-- What a script that was played leaves, once the clients of all labels are closed.
use Rattle.std.specs.Prelude.{◌≡◌, Bool, false, true, ℕ, IsTrue, List, ◌∷◌, ◌++◌, [], Option, None, IfSome, IsSome, IsSomeAnd, if◌then◌else◌}
use Rattle.std.specs.List.{AllByRecursion}
use Rattle.history_spec.specs.AuditText.{audit_text}
use Rattle.history_spec.specs.Entry.{Entry, HasRoomForClient, is_close_kind, kept}
use Rattle.history_spec.specs.Told.{Limits}
use Rattle.script_spec.specs.Script.{script, end, bad_line}
use Rattle.script_spec.specs.Calls.{Call, opening, calls_from, with_closes}
use Rattle.script_spec.specs.Plays.{LabelHolder, PlaysTo, Plays, at_start}
use Rattle.link_port.specs.Port.{with_more}
use Rattle.script_player.specs.declared.stop.Stop.{Stop}
use Rattle.script_player.specs.declared.stop.Stop.TheVariants as stops
use Rattle.script_player.specs.Play.{AreOfWholeLines, HasStopCause}
use Rattle.script_player.specs.Stops.{Unanswered, AreFirstCalls, EndsInClose, CutsLastLine}
use Rattle.script_player.specs.Stops.{last_line}

-- the reply lines of a run, and behind them the audit text of its history where it is asked for
abbrev pub with_audit : Bool → List Entry → List ℕ → List ℕ
with_audit audit history lines = if audit then lines ++ audit_text history else lines

-- a history and an output are what these calls make, and then the closes of the labels that they leave open; behind their
-- lines stands the audit text where it is asked for
pub record Makes (limit : Limits) (audit : Bool) (done : List Call) (written written_new : Option (List ℕ)) (history : List Entry) : Type 0 where
  pub output : List ℕ
  pub written_is : written_new ≡ with_more written (with_audit audit history output)
  pub plays : Plays history limit (with_closes done) output

-- they are what the calls of the whole script make, where the input tells it, and else some calls
abbrev pub LeavesWhole : Limits → Bool → Option (List ℕ) → Option (List ℕ) → Option (List ℕ) → List Entry → Type 0
LeavesWhole limit audit given written written_new history = (done : List Call)
    × IfSome given (λ all. calls_from [] (script all).items ≡ done) × Makes limit audit done written written_new history

-- they are what the first of those calls make, up to an opening
abbrev pub LeavesPart : Limits → Bool → Option (List ℕ) → Option (List ℕ) → Option (List ℕ) → List Entry → Type 0
LeavesPart limit audit given written written_new history = (done : List Call)
    × IfSome given (λ all. (label : ℕ) × (more : List Call) × (calls_from [] (script all).items ≡ done ++ opening label ∷ more))
    × Makes limit audit done written written_new history

-- a run that the journal's limit stopped at an opening: it had no room for another client, and kept so many bytes then
pub record IsFullAt (limit : Limits) (done : List Call) (detail : ℕ) (history : List Entry) : Type 0 where
  pub before : List Entry
  pub closes : List Entry
  pub holders : List LabelHolder
  pub output : List ℕ
  pub plays : PlaysTo limit at_start done (record { history = before; holders = holders; output = output })
  pub history_is : history ≡ before ++ closes
  pub closed : AllByRecursion (λ e. is_close_kind e.kind ≡ true) closes
  pub kept_is : detail ≡ kept before
  pub lacks : HasRoomForClient limit.bytes before → ⊥

abbrev pub LeavesFull : Limits → Bool → Option (List ℕ) → Option (List ℕ) → Option (List ℕ) → ℕ → List Entry → Type 0
LeavesFull limit audit given written written_new detail history = (done : List Call)
    × IfSome given (λ all. (label : ℕ) × (more : List Call) × (calls_from [] (script all).items ≡ done ++ opening label ∷ more))
    × Makes limit audit done written written_new history
    × IsFullAt limit done detail history

-- they are what the calls of the whole lines make that were read, where the input tells what it had and what it has left
abbrev pub LeavesRead : Limits → Bool → Option (List ℕ) → Option (List ℕ) → Option (List ℕ) → Option (List ℕ) → List Entry → Type 0
LeavesRead limit audit given left written written_new history = (done : List Call)
    × IfSome given (λ all. IsSomeAnd left (λ rest. AreOfWholeLines done all rest)) × Makes limit audit done written written_new history

-- a history and bytes to be written are what these calls make, and then the closes of the labels that they leave open
pub record MakesUpTo (limit : Limits) (done : List Call) (last : Option Unanswered) (IsWritten : List ℕ → Type 0) (history : List Entry) : Type 0 where
  pub output : List ℕ
  pub written : IsWritten (output ++ last_line last)
  pub plays : Plays history limit (with_closes done) output

-- they are what the first of the script's calls make, up to a wrong answer: the call behind them was told DEVICE_ANSWER, or the
-- answer came in the last of them, a close
abbrev pub LeavesEarly : Limits → Option (List ℕ) → Option (List ℕ) → Option (List ℕ) → List Entry → Type 0
LeavesEarly limit given written written_new history = (done : List Call) × (last : Option Unanswered)
    × (last ≡ None → EndsInClose done)
    × IfSome given (λ all. AreFirstCalls done last all)
    × MakesUpTo limit done last (λ all. written_new ≡ with_more written all) history

-- the history is what the first of the script's calls make, and the output lacks a part of the last line that they write. Only
-- after a wrong answer was the last of them told DEVICE_ANSWER
abbrev pub LeavesCut : Limits → Bool → Option (List ℕ) → Option (List ℕ) → Option (List ℕ) → List Entry → Type 0
LeavesCut limit wrong given written written_new history = (done : List Call) × (last : Option Unanswered)
    × (IsSome last → IsTrue wrong)
    × IfSome given (λ all. AreFirstCalls done last all)
    × MakesUpTo limit done last (λ all. CutsLastLine all written written_new) history

-- ---- all of it, by why no more was played

-- What is left of a script, by why no more of it was played: history and output are what its calls make, each once and in order.
-- `wrong` is whether a wrong answer came, before the closes or in them.
abbrev pub LeavesBy : Stop → (limit : Limits) (wrong : Bool) (given left written written_new : Option (List ℕ)) (history : List Entry) → Type 0
LeavesBy stops.End limit wrong given left written written_new history =
    LeavesWhole limit false given written written_new history × IfSome given (λ all. (script all).ending ≡ end)
LeavesBy (stops.BadLine number) limit wrong given left written written_new history =
    LeavesWhole limit false given written written_new history × IfSome given (λ all. (script all).ending ≡ bad_line number)
LeavesBy stops.Memory limit wrong given left written written_new history = LeavesPart limit false given written written_new history
LeavesBy (stops.Full count) limit wrong given left written written_new history = LeavesFull limit false given written written_new count history
LeavesBy (stops.Output count) limit wrong given left written written_new history = LeavesCut limit wrong given written written_new history
LeavesBy (stops.Input count) limit wrong given left written written_new history = LeavesRead limit false given left written written_new history
LeavesBy stops.Answer limit wrong given left written written_new history = LeavesEarly limit given written written_new history

-- why no more was played has its cause. A wrong answer that came before the closes stays
pub record IsCaused (stop : Stop) (input input_new output output_new : ℕ) (wrong : Bool) : Type 0 where
  pub before : Bool
  pub cause : HasStopCause stop input input_new output output_new before
  pub stays : IsTrue before → IsTrue wrong
