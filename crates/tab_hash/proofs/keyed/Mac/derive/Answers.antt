use Rattle.std.proofs.Common.{refl, arith}
use Rattle.tab_hash.proofs.Deriving.{length_on, made_on}
use Rattle.tab_hash.proofs.keyed.Mac.derive.Goals as goal

pub loop-at-preserved : goal.loop-at-preserved
loop-at-preserved c = record {
  long = length_on c.loop-at.out c.copy_from_slice.new.self c.derived_block-block.result _ c.loop-at.at _ _
      c.loop-at.invariant.long (omega arith) refl c.copy_from_slice.ensures.after (omega (arith, c.derived_block-block.ensures.size));
  place = omega arith;
  made = λ key has. made_on key c.args.label.now c.args.u.now c.args.v.now c.loop-at.out c.copy_from_slice.new.self c.derived_block-block.result _ c.loop-at.at c.loop-at.number c.min-len.result _
      c.loop-at.invariant.long c.loop-at.invariant.place (omega arith) (omega arith) refl c.copy_from_slice.ensures.after (c.derived_block-block.ensures.block key has) (c.loop-at.invariant.made key has);
}
