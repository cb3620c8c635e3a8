use Rattle.std.proofs.Common.{◌≡◌, ◌+◌, ◌-◌, suc, arith}
use Rattle.std.specs.Prelude.{◌||◌, bytes_eq}
use Rattle.std.proofs.lemmas.Result.{err_from_is_err_and}
use Rattle.fx_policy.proofs.ReadingOn.{one_read, none_more}
use Rattle.fx_policy.proofs.branches.read_digests.Goals as goal
use Rattle.fx_policy.proofs.branches.read_digests.Goals.{then-found, else-found}

pub returns-in_err-branch-clause-took : goal.returns-in_err-branch-clause-took
returns-in_err-branch-clause-took c =
    let one : c.args.count - c.loop.counter ≡ suc (c.args.count - (c.loop.counter + 1)) = omega arith in
    let p = err_from_is_err_and c.from_residual.result c.from_residual.ensures.1 in
    rw (p.1, p.2) (none_more _ _ _ _ _ _ _ _ c.loop.invariant.read one c.in_err-branch.ensures.took)

pub loop-preserved : goal.loop-preserved
loop-preserved c =
    let one : c.args.count - c.loop.counter ≡ suc (c.args.count - (c.loop.counter + 1)) = omega arith in
    let is : c.if-found.found ≡ (c.loop.found || bytes_eq c.in_ok-branch.branch.now c.args.digest.now) =
    elim c.if-found.branch [ then-found w ↦ grind arith | else-found w ↦ grind arith ] in
    record {
      size = omega (arith, c.add.ensures.count, c.in_ok-branch.ensures.size);
      read = rw (c.add.ensures.all, is) (one_read _ _ _ _ _ _ _ _ _ c.loop.invariant.read one c.in_ok-branch.ensures.took);
    }
