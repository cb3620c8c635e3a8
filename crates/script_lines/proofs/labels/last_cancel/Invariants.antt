use Rattle.std.proofs.Common.{◌≡◌, ◌<◌, ◌+◌, ◌*◌, ◌++◌, length}
use Rattle.tab_spec.specs.Count.{largest_count}
use Rattle.tab_spec.specs.Frame.{frames}
use Rattle.history_spec.specs.Cancels.{canceled_up_to}
use Rattle.script_lines.proofs.Ahead.{last_of}
use Rattle.script_lines.proofs.labels.last_cancel.Given as goal

abbrev pub invariant-loop-count : goal.invariant-loop-count
invariant-loop-count l = record {
  few : l.count + length l.ahead + length l.rest < largest_count;
  to_come : last_of l.upto l.count (l.ahead ++ l.rest) ≡ canceled_up_to l.fn.commands (frames (l.fn.ahead ++ l.fn.piece)).items;
}

abbrev pub decreases-loop-count : goal.decreases-loop-count
decreases-loop-count l = length l.ahead + 2 * length l.rest
