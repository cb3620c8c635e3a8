use Rattle.std.proofs.Common.{arith}
use Rattle.tab_hash.proofs.Padding.{one_more}
use Rattle.tab_hash.proofs.keyed.padded.Goals as goal

pub loop-i-preserved : goal.loop-i-preserved
loop-i-preserved c = one_more c.args.pad c.loop-i.i c.args.block c.loop-i.padded (omega arith) c.loop-i.invariant
