use Rattle.std.proofs.Common.{arith}
use Rattle.tab_hash.proofs.Hiding.{one_more}
use Rattle.tab_hash.proofs.keyed.xor.Goals as goal

pub loop-i-preserved : goal.loop-i-preserved
loop-i-preserved c = one_more c.loop-i.i c.args.bytes.now c.args.mask.now c.loop-i.mask (omega arith) c.requires c.loop-i.invariant
