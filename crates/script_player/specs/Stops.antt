-- What is left where a failed write or a wrong answer of the device stopped the player.
use Rattle.std.specs.Prelude.{◌≡◌, Bool, ◌<◌, ◌⊎◌, length, ℕ, IsTrue, List, [], ◌∷◌, ◌++◌, map, Option, Some, None, IsSome}
use Rattle.tab_spec.specs.declared.TheConstants.{RC_DEVICE_ANSWER}
use Rattle.tab_spec.specs.Reply.{error_reply}
use Rattle.history_spec.specs.Entry.{Entry}
use Rattle.history_spec.specs.Told.{Limits}
use Rattle.script_spec.specs.Script.{ScriptItem, item_of, script}
use Rattle.script_spec.specs.Calls.{Call, command, closing, calls_from, labels_from}
use Rattle.script_spec.specs.Plays.{PlaysTo, at_start, reply_line}
use Rattle.link_port.specs.Port.{with_more}
use Rattle.script_lines.specs.declared.label.Label.{Label}
use Rattle.script_lines.specs.Labels.{LabelsView}
use Rattle.script_player.specs.declared.stop.Stop.{Stop}
use Rattle.script_player.specs.declared.stop.Stop.TheVariants as stops
use Rattle.script_player.specs.Play.{stage, Leads, calls_on}

-- a command that the device gave a wrong answer to: it was run and not canceled, has no entry, and was told DEVICE_ANSWER
pub record Unanswered : Type 0 where
  pub label : ℕ
  pub number : ℕ
  pub bytes : List ℕ

abbrev pub last_calls : Option Unanswered → List Call
last_calls None = []
last_calls (Some last) = command last.label last.number last.bytes None ∷ []

abbrev pub last_line : Option Unanswered → List ℕ
last_line None = []
last_line (Some last) = reply_line last.label (error_reply RC_DEVICE_ANSWER)

-- these are the first of the calls of a script
abbrev pub AreFirstCalls : List Call → Option Unanswered → List ℕ → Type 0
AreFirstCalls done last all = (more : List Call) × (calls_from [] (script all).items ≡ (done ++ last_calls last) ++ more)

-- these bytes were written but for the last line, of which a front was written and not all
pub record CutsLastLine (all : List ℕ) (written written_new : Option (List ℕ)) : Type 0 where
  pub before : List ℕ
  pub label : ℕ
  pub reply : List ℕ
  pub front : List ℕ
  pub rest : List ℕ
  pub all_is : all ≡ before ++ reply_line label reply
  pub line_is : reply_line label reply ≡ front ++ rest
  pub short : 0 < length rest
  pub written_is : written_new ≡ with_more written (before ++ front)

-- what a stop leaves of the bytes that were to be written
abbrev pub WritesByStop : Stop → List ℕ → Option (List ℕ) → Option (List ℕ) → Type 0
WritesByStop stops.End all written written_new = ⊥
WritesByStop (stops.BadLine number) all written written_new = ⊥
WritesByStop stops.Memory all written written_new = ⊥
WritesByStop (stops.Full count) all written written_new = ⊥
WritesByStop (stops.Output count) all written written_new = CutsLastLine all written written_new
WritesByStop (stops.Input count) all written written_new = ⊥
WritesByStop stops.Answer all written written_new = written_new ≡ with_more written all

-- the last of these calls is a close, which may send commands of the broker's own
abbrev pub EndsInClose : List Call → Type 0
EndsInClose made = (before : List Call) × (label : ℕ) × (made ≡ before ++ closing label ∷ [])

-- a wrong answer is the reason of the one stop, to a command or in a close, and may have come before the other
abbrev pub HasLast : Stop → List Call → Option Unanswered → Bool → Type 0
HasLast stops.End made last wrong = ⊥
HasLast (stops.BadLine number) made last wrong = ⊥
HasLast stops.Memory made last wrong = ⊥
HasLast (stops.Full count) made last wrong = ⊥
HasLast (stops.Output count) made last wrong = IsSome last → IsTrue wrong
HasLast (stops.Input count) made last wrong = ⊥
HasLast stops.Answer made last wrong = IsSome last ⊎ EndsInClose made

-- the first of these calls were made, but for the last of them where the device gave a wrong answer to it, and led to
-- these labels and this history; then the stop came
pub record StoppedIn (limit : Limits) (stop : Stop) (calls : List Call) (labels : List Label) (history : List Entry)
    (labels_new : List Label) (history_new : List Entry) (written written_new : Option (List ℕ)) (wrong : Bool) : Type 0 where
  pub made : List Call
  pub last : Option Unanswered
  pub left : List Call
  pub calls_are : calls ≡ (made ++ last_calls last) ++ left
  pub more : List ℕ
  pub leads : Leads limit labels history made labels_new history_new more
  pub writes : WritesByStop stop (more ++ last_line last) written written_new
  pub has_last : HasLast stop made last wrong

-- the same of a good line
pub record LineStopped (limit : Limits) (stop : Stop) (text : List ℕ) (labels : LabelsView) (history : List Entry)
    (labels_new : List Label) (history_new : List Entry) (written written_new : Option (List ℕ)) (wrong : Bool) : Type 0 where
  pub item : ScriptItem
  pub item_is : item_of text ≡ Some item
  pub stopped : StoppedIn limit stop (calls_on labels item) labels.present history labels_new history_new written written_new wrong

-- what was played when the stop came
pub record StoppedAt (limit : Limits) (stop : Stop) (labels : List Label) (history : List Entry)
    (given written written_new : Option (List ℕ)) (wrong : Bool) : Type 0 where
  pub done : List Call
  pub last : Option Unanswered
  pub output : List ℕ
  pub plays : PlaysTo limit at_start done (stage labels history output)
  pub left_open : labels_from [] done ≡ map (λ x. x.label) labels
  pub writes : WritesByStop stop (output ++ last_line last) written written_new
  pub has_last : HasLast stop done last wrong
  pub first : (all : List ℕ) → given ≡ Some all → AreFirstCalls done last all
