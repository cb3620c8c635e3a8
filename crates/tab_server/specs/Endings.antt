-- How a run stands to the end of its script, and how a text is written behind it.
use Rattle.std.specs.Prelude.{◌≡◌, ◌⊎◌, ℕ, Bool, true, false, List, Option}
use Rattle.tab_spec.specs.Count.{Rose}
use Rattle.link_port.specs.Port.{with_more}
use Rattle.history_spec.specs.Entry.{Entry}
use Rattle.history_spec.specs.Told.{Limits}
use Rattle.audit_journal.specs.Text.{WroteFrontOf}
use Rattle.script_player.specs.declared.stop.Stop.{Stop}
use Rattle.script_player.specs.declared.stop.Stop.TheVariants as stops
use Rattle.script_player.specs.Ends.{LeavesEarly, LeavesWhole}
use Rattle.tab_server.specs.declared.status.TheConstants.{DONE, WRONG_ANSWER}
use Rattle.tab_server.specs.declared.cause.Cause.{Cause}
use Rattle.tab_server.specs.declared.cause.Cause.TheVariants as causes

-- whether the script stopped because its input ended
abbrev pub is_end : Stop → Bool
is_end stops.End = true
is_end (stops.BadLine number) = false
is_end stops.Memory = false
is_end (stops.Full count) = false
is_end (stops.Output count) = false
is_end (stops.Input count) = false
is_end stops.Answer = false

-- whether the whole script was played, and no line was bad: a wrong answer in the closes behind it may be why the run stopped
abbrev pub StandsToEnd : Bool → (limit : Limits) (status : ℕ) → Option (List ℕ) → Option (List ℕ) → Option (List ℕ) → List Entry → Type 0
StandsToEnd true limit status given written written_new history =
    ((status ≡ DONE) ⊎ (status ≡ WRONG_ANSWER)) × LeavesWhole limit false given written written_new history
StandsToEnd false limit status given written written_new history =
    (status ≡ DONE → ⊥) × (status ≡ WRONG_ANSWER → LeavesEarly limit given written written_new history)

-- how a text was written: whole, and the run ended as it had, or in part
abbrev pub WroteBehind : (cause cause_new : Cause) (text : List ℕ) (written written_new : Option (List ℕ)) (faults faults_new : ℕ) → Type 0
WroteBehind cause cause_new text written written_new faults faults_new =
    ((cause_new ≡ cause) × (written_new ≡ with_more written text) × (faults_new ≡ faults))
    ⊎ ((cause_new ≡ causes.Output faults_new) × WroteFrontOf text written written_new × Rose faults faults_new)
