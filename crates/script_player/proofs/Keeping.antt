-- What one call of the player keeps and then another, both keep.
use Rattle.std.proofs.Common.{◌≡◌, ◌+◌, ℕ, Bool, true, false, List, Result, Ok, Err, refl, ◌∙◌}
use Rattle.std.specs.Prelude.{IfErr, IsTrue}
use Rattle.history_spec.specs.Entry.{Entry}
use Rattle.history_spec.specs.Told.{Limits}
use Rattle.broker_lock.specs.Known.{Fixed}
use Rattle.script_lines.specs.Labels.{LabelsView}
use Rattle.script_lines.specs.declared.reader.Line.TheVariants.{Text}
use Rattle.script_player.specs.declared.stop.Stop.{Stop}
use Rattle.script_player.specs.declared.stop.Stop.TheVariants as stops
use Rattle.script_player.specs.Play.{IsEven, IsOfRun, TellsFull}
use Rattle.script_player.specs.Steps.{KeepsFit, IsOfLine}
use Rattle.script_player.proofs.Scripting.{StopsAfter, IsOfInput}

pub keeps_on : {first next last : Fixed} {labels labels_new : LabelsView} {history history_new : List Entry} → KeepsFit first next labels history → KeepsFit next last labels_new history_new
    → KeepsFit first last labels_new history_new
keeps_on was kept = record { fixed_is = kept.fixed_is ∙ was.fixed_is; fits = kept.fits }

pub not_true : (b : Bool) → (IsTrue b → ⊥) → b ≡ false
not_true true not = absurd (not refl)
not_true false not = refl

pub if_err_both : {A E : Type 0} (r : Result A E) (P Q : E → Type 0) → IfErr r P → IfErr r Q → IfErr r (λ e. P e × Q e)
if_err_both (Ok x) P Q p q = tt
if_err_both (Err e) P Q p q = (p, q)

-- ---- how a line ends a run

-- a stop that comes with a command isn't even, and may come at each line
pub not_even : (stop : Stop) → IsOfRun stop → IsEven stop → ⊥
not_even stops.End of_run even = of_run
not_even (stops.BadLine n) of_run even = of_run
not_even stops.Memory of_run even = of_run
not_even (stops.Full n) of_run even = of_run
not_even (stops.Output n) of_run even = even
not_even (stops.Input n) of_run even = of_run
not_even stops.Answer of_run even = even

pub of_command : (stop : Stop) (text : List ℕ) (lines : ℕ) (labels : LabelsView) → IsOfRun stop → IsOfLine stop text lines labels
of_command stops.End text lines labels of_run = absurd of_run
of_command (stops.BadLine n) text lines labels of_run = absurd of_run
of_command stops.Memory text lines labels of_run = absurd of_run
of_command (stops.Full n) text lines labels of_run = absurd of_run
of_command (stops.Output n) text lines labels of_run = tt
of_command (stops.Input n) text lines labels of_run = absurd of_run
of_command stops.Answer text lines labels of_run = tt

-- a stop that may come at a line comes of it
pub stops_after : (stop : Stop) (text : List ℕ) (lines : ℕ) (labels : LabelsView) → IsOfLine stop text lines labels → StopsAfter stop Text text (lines + 1) labels
stops_after stops.End text lines labels of_line = of_line
stops_after (stops.BadLine n) text lines labels of_line = of_line
stops_after stops.Memory text lines labels of_line = of_line
stops_after (stops.Full n) text lines labels of_line = of_line
stops_after (stops.Output n) text lines labels of_line = tt
stops_after (stops.Input n) text lines labels of_line = of_line
stops_after stops.Answer text lines labels of_line = tt

-- and isn't that of a failed read
pub not_failed : (stop : Stop) (text : List ℕ) (lines : ℕ) (labels : LabelsView) → IsOfLine stop text lines labels → IsOfInput stop → ⊥
not_failed stops.End text lines labels of_line is = is
not_failed (stops.BadLine n) text lines labels of_line is = is
not_failed stops.Memory text lines labels of_line is = is
not_failed (stops.Full n) text lines labels of_line is = is
not_failed (stops.Output n) text lines labels of_line is = is
not_failed (stops.Input n) text lines labels of_line is = of_line
not_failed stops.Answer text lines labels of_line is = is

-- a stop that comes with a command or a close says nothing of the journal's limit
pub not_full : (limit : Limits) (stop : Stop) (history : List Entry) → IsOfRun stop → TellsFull limit.bytes stop history
not_full limit stops.End history of_run count is = absurd of_run
not_full limit (stops.BadLine n) history of_run count is = absurd of_run
not_full limit stops.Memory history of_run count is = absurd of_run
not_full limit (stops.Full n) history of_run count is = absurd of_run
not_full limit (stops.Output n) history of_run count is = absurd cc
not_full limit (stops.Input n) history of_run count is = absurd of_run
not_full limit stops.Answer history of_run count is = absurd cc
