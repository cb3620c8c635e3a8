use Rattle.std.proofs.Common.{◌∙◌, sym, arith}
use Rattle.session_swap.proofs.Uses.{without_at, without_never}
use Rattle.session_swap.proofs.left.place_of.Goals as goal

pub returns-then-from-number : goal.returns-then-from-number
returns-then-from-number c = (
  omega arith,
  without_at c.args.number c.args.numbers.now c.loop-at.at (omega arith) (λ k below. c.loop-at.invariant k below)
      (sym c.from.ensures ∙ c.if-from-number.true),
)

pub returns : goal.returns
returns c = without_never c.args.number c.args.numbers.now (λ k inside. c.loop-at.invariant k (omega arith))
