use Rattle.std.proofs.Common.{◌≡◌, ◌≤◌, ◌+◌, ◌*◌, ◌++◌, length, vec_len, vec_capacity}
use Rattle.hex.specs.Hex.{encode_lower}
use Rattle.script_lines.proofs.lines.push_digits.Given as goal

-- what was pushed and the digits of the bytes that are left make up the whole
abbrev pub invariant-loop-rest : goal.invariant-loop-rest
invariant-loop-rest l = record {
  items : l.line.items ++ encode_lower l.rest ≡ l.initial.line.items ++ encode_lower l.bytes;
  len : vec_len l.line + 2 * length l.rest ≡ vec_len l.initial.line + 2 * length l.bytes;
  capacity : vec_capacity l.initial.line ≤ vec_capacity l.line;
}

abbrev pub decreases-loop-rest : goal.decreases-loop-rest
decreases-loop-rest l = length l.rest
