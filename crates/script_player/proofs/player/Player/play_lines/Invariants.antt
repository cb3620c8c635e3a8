use Rattle.std.proofs.Common.{◌≡◌, ◌≤◌, ◌+◌, length, vec_capacity}
use Rattle.broker_lock.specs.Known.{limits_of}
use Rattle.script_spec.specs.declared.TheConstants.{LINE_BYTES, SCRIPT_BYTES}
use Rattle.script_lines.specs.Lines.{HasPulled}
use Rattle.script_player.specs.Play.{HasPlayed}
use Rattle.script_player.specs.Steps.{IsBehind, KeepsFit}
use Rattle.script_player.proofs.player.Player.play_lines.Given as goal

abbrev pub invariant-loop-input : goal.invariant-loop-input
invariant-loop-input g l = record {
  behind : IsBehind l.played l.self.labels (g.B.Recorded.history l.self.value) (g.B.Recorded.wrong l.self.value);
  kept : KeepsFit (g.B.Recorded.fixed l.initial.self.value) (g.B.Recorded.fixed l.self.value) l.self.labels (g.B.Recorded.history l.self.value);
  bound : l.played + l.lines.room ≤ SCRIPT_BYTES;
  capacity : LINE_BYTES ≤ vec_capacity l.text;
  output_count : g.O.Sink.faults l.output ≡ g.O.Sink.faults l.initial.output;
  input_count : g.I.Source.faults l.input ≡ g.I.Source.faults l.initial.input;
  pulled : HasPulled l.initial.lines (g.I.Source.left l.initial.input) l.lines (g.I.Source.left l.input);
  ahead : length l.lines.pending ≤ l.lines.room + 1;
  played : HasPlayed (limits_of (g.B.Recorded.fixed l.initial.self.value)) l.self.labels (g.B.Recorded.history l.self.value) (l.played + 1) l.lines.room l.lines.pending (g.I.Source.left l.initial.input) (g.I.Source.left l.input) (g.O.Sink.written l.initial.output) (g.O.Sink.written l.output);
}

abbrev pub decreases-loop-input : goal.decreases-loop-input
decreases-loop-input g l = l.lines.room
