use Rattle.std.proofs.Common.{refl}
use Rattle.workload.specs.Reading.{read_of}
use Rattle.workload.proofs.tally.Tally.new.Goals as goal

pub invariant_of-result : goal.invariant_of-result
unfolding read_of
invariant_of-result c = rw c.new.ensures (record {
  added = c.new-2.ensures;
  front_is = c.new-3.ensures;
  part_is = refl;
  count_is = refl;
  count_0_is = refl;
})
