use Rattle.std.proofs.Common.{◌≡◌, ◌++◌, map, take, drop}
use Rattle.std.specs.Int.Bits.{bit_xor}
use Rattle.tab_hash.proofs.keyed.padded.Given as goal

abbrev pub invariant-loop-i : goal.invariant-loop-i
invariant-loop-i l = l.padded ≡ map (bit_xor l.pad) (take l.i l.fn.block) ++ drop l.i l.fn.block
