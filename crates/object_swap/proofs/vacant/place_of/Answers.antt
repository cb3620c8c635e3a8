use Rattle.std.proofs.Common.{arith}
use Rattle.object_swap.proofs.Flags.{none_named}
use Rattle.object_swap.proofs.Order.{one_at}
use Rattle.object_swap.proofs.vacant.place_of.Goals as goal

pub returns-then-one-index-clause-first : goal.returns-then-one-index-clause-first
returns-then-one-index-clause-first c =
    one_at c.args.index c.args.indices.now c.loop-at.at (omega arith) c.if-one-index.true c.loop-at.invariant

pub returns-clause-there : goal.returns-clause-there
returns-clause-there c =
    absurd (omega (arith, c.requires, none_named c.args.indices.now c.args.index (λ k inside. c.loop-at.invariant k (omega arith))))

pub returns-clause-first : goal.returns-clause-first
returns-clause-first c =
    absurd (omega (arith, c.requires, none_named c.args.indices.now c.args.index (λ k inside. c.loop-at.invariant k (omega arith))))
