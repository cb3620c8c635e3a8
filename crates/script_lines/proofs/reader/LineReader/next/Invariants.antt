use Rattle.std.proofs.Common.{◌≡◌, ◌≤◌, ◌+◌, ◌-◌, length, vec_len, vec_capacity}
use Rattle.script_lines.proofs.Cutting.{Cutting}
use Rattle.script_lines.proofs.reader.LineReader.next.Given as goal

abbrev pub invariant-loop-text : goal.invariant-loop-text
invariant-loop-text g l =
    Cutting (g.I.Source.left l.fn.input) l.fn.self (g.I.Source.left l.input) l.text.items l.self × (vec_len l.text ≤ 16384) × (16384 ≤ vec_capacity l.text) × (g.I.Source.faults l.input ≡ g.I.Source.faults l.fn.input) × (l.self.room + length l.text.items ≡ l.fn.self.room)

abbrev pub decreases-loop-text : goal.decreases-loop-text
decreases-loop-text g l = 16384 - vec_len l.text
