-- What the calls of the player ask, what each of them keeps, and what those that write leave.
use Rattle.std.specs.Prelude.{◌≡◌, ◌≤◌, ◌*◌, ◌+◌, ℕ, Bool, false, List, [], Option, None, Some, Result, IfErr, OnOk}
use Rattle.history_spec.specs.Entry.{Entry}
use Rattle.history_spec.specs.Told.{Limits}
use Rattle.link_port.specs.Port.{with_more}
use Rattle.script_spec.specs.Script.{item_of}
use Rattle.script_spec.specs.Calls.{Call}
use Rattle.broker_lock.specs.declared.calls.Told.{Told}
use Rattle.broker_lock.specs.Known.{Fixed}
use Rattle.broker_lock.specs.Serves.{Tells, TellsCanceled}
use Rattle.script_lines.specs.Labels.{LabelsView, no_labels}
use Rattle.script_player.specs.declared.stop.Stop.{Stop}
use Rattle.script_player.specs.declared.stop.Stop.TheVariants as stops
use Rattle.script_player.specs.Play.{Fits, AreSmall, Leads, OpensLabel, IsEven, IsOfRun, HasStopCause, TellsFull}
use Rattle.script_player.specs.Stops.{LineStopped}

-- ---- what is asked

-- nothing was played yet
pub record IsFreshRun (labels : LabelsView) (history : List Entry) (wrong : Bool) : Type 0 where
  pub labels_are : labels ≡ no_labels
  pub history_is : history ≡ []
  pub sound : wrong ≡ false

-- commands may be run: the labels and the history fit one another, and no wrong answer came
pub record MayRun (labels : LabelsView) (history : List Entry) (wrong : Bool) : Type 0 where
  pub fits : Fits labels history
  pub sound : wrong ≡ false

-- the same behind so many lines, each of which opens one label at most, and adds 8191 bytes to it at most
pub record IsBehind (lines : ℕ) (labels : LabelsView) (history : List Entry) (wrong : Bool) : Type 0 where
  pub ready : MayRun labels history wrong
  pub few : labels.opened ≤ lines
  pub small : AreSmall labels.present (8191 * lines)

-- ---- what is kept

-- what each call keeps: what the history stands on, and that labels and history fit one another
pub record KeepsFit (fixed fixed_new : Fixed) (labels_new : LabelsView) (history_new : List Entry) : Type 0 where
  pub fixed_is : fixed_new ≡ fixed
  pub fits : Fits labels_new history_new

-- ---- what a client is told

-- what is told of a command that is canceled up to a number, or run
abbrev pub TellsOf : Option ℕ → Fixed → (before after : List Entry) (client number : ℕ) (bytes reply : List ℕ) → Told → Type 0
TellsOf None fixed before after client number bytes reply told = Tells fixed before after client number bytes reply told
TellsOf (Some upto) fixed before after client number bytes reply told = TellsCanceled fixed before after client number upto bytes reply told

-- ---- what calls that write leave

-- the output's fault count never falls, and stands still where all was written
pub record Counts {A : Type 0} (result : Result A Stop) (faults faults_new : ℕ) : Type 0 where
  pub count : faults ≤ faults_new
  pub quiet : OnOk result (faults_new ≡ faults)

-- the same of a call that runs commands; a reason to stop has its cause, and else no wrong answer came
pub record Outcome {A : Type 0} (result : Result A Stop) (faults faults_new : ℕ) (wrong : Bool) : Type 0 where
  pub counts : Counts result faults faults_new
  pub sound : OnOk result (wrong ≡ false)
  pub cause : IfErr result (λ stop. HasStopCause stop 0 0 faults faults_new wrong)

-- these calls were made: they lead from the old labels and history to the new ones, and their reply lines were written
abbrev pub AreMade : (limit : Limits) → List Call → (labels labels_new : LabelsView) (history history_new : List Entry)
    (written written_new : Option (List ℕ)) → Type 0
AreMade limit calls labels labels_new history history_new written written_new =
    (more : List ℕ) × (written_new ≡ with_more written more) × Leads limit labels.present history calls labels_new.present history_new more

-- ---- how a line ends a run

-- the stop is one that may come at this line, behind so many others
abbrev pub IsOfLine : Stop → List ℕ → ℕ → LabelsView → Type 0
IsOfLine stops.End text lines labels = ⊥
IsOfLine (stops.BadLine number) text lines labels = (item_of text ≡ None) × (number ≡ lines + 1)
IsOfLine stops.Memory text lines labels = OpensLabel text labels
IsOfLine (stops.Full count) text lines labels = OpensLabel text labels
IsOfLine (stops.Output count) text lines labels = Unit {0}
IsOfLine (stops.Input count) text lines labels = ⊥
IsOfLine stops.Answer text lines labels = Unit {0}

-- nothing came of the line
pub record IsUnplayed (labels labels_new : LabelsView) (history history_new : List Entry) (written written_new : Option (List ℕ)) : Type 0 where
  pub labels_are : labels_new ≡ labels
  pub history_is : history_new ≡ history
  pub written_is : written_new ≡ written

-- the stop, and what it leaves: of a line that no command was run of nothing came
pub record EndsAt (limit : Limits) (stop : Stop) (text : List ℕ) (lines : ℕ) (labels labels_new : LabelsView) (history history_new : List Entry)
    (written written_new : Option (List ℕ)) (wrong : Bool) : Type 0 where
  pub of_line : IsOfLine stop text lines labels
  pub even : IsEven stop → IsUnplayed labels labels_new history history_new written written_new
  pub full : TellsFull limit.bytes stop history
  pub stopped : IsOfRun stop → LineStopped limit stop text labels history labels_new.present history_new written written_new wrong
