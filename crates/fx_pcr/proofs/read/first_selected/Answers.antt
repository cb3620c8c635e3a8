use Rattle.std.proofs.Common.{arith, length-set}
use Rattle.fx_pcr.proofs.Selected.{found_also, found_not, first_eight}
use Rattle.fx_pcr.proofs.read.first_selected.Goals as goal

pub loop-pcr-preserved : goal.loop-pcr-preserved
loop-pcr-preserved c = record {
  size = grind (arith, length-set);
  few = grind arith;
  found = grind (arith, found_also, found_not);
}

pub returns : goal.returns
returns c = grind (arith, first_eight)
