use Rattle.std.proofs.Common.{◌≡◌, ◌<◌, ◌+◌, ◌*◌, length, Some, false}
use Rattle.broker_lock.specs.Known.{limits_of}
use Rattle.tab_spec.specs.Count.{largest_count}
use Rattle.script_lines.specs.declared.label.Label.{Label}
use Rattle.script_lines.specs.Labels.{label_in}
use Rattle.script_player.specs.Play.{size_of_label}
use Rattle.script_player.specs.Steps.{KeepsFit}
use Rattle.script_player.proofs.Feeding.{FedSoFar, kept_on}
use Rattle.script_player.proofs.player.Player.play_piece.Given as goal

abbrev pub invariant-loop-self : goal.invariant-loop-self
invariant-loop-self g l = record {
  sound : g.B.Recorded.wrong l.self.value ≡ false;
  kept : KeepsFit (g.B.Recorded.fixed l.initial.self.value) (g.B.Recorded.fixed l.self.value) l.self.labels (g.B.Recorded.history l.self.value);
  quiet : g.O.Sink.faults l.output ≡ g.O.Sink.faults l.initial.output;
  fed : (first : Label) × (label_in l.initial.self.labels.present l.fn.label ≡ Some first) × (size_of_label first + length l.fn.piece < largest_count)
      × FedSoFar (limits_of (g.B.Recorded.fixed l.initial.self.value)) l.fn.label l.upto first l.fn.piece l.initial.self.labels (g.B.Recorded.history l.initial.self.value) (g.O.Sink.written l.initial.output) l.self.labels (g.B.Recorded.history l.self.value) (g.O.Sink.written l.output) l.rest;
}

abbrev pub decreases-loop-self : goal.decreases-loop-self
decreases-loop-self g l = kept_on (label_in l.self.labels.present l.fn.label) + 2 * length l.rest
