use Rattle.std.proofs.Common.{◌≡◌}
use Rattle.tab_hash.proofs.Hiding.{hidden_below}
use Rattle.tab_hash.proofs.keyed.xor.Given as goal

-- the bytes so far are hidden
abbrev pub invariant-loop-i : goal.invariant-loop-i
invariant-loop-i l = l.mask ≡ hidden_below l.i l.bytes l.fn.mask
