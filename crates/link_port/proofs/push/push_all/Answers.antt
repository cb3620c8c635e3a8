use Rattle.std.proofs.lemmas.Result.{err_from_is_err_and}
use Rattle.link_port.proofs.Fronts.{some_written, is_more}
use Rattle.link_port.proofs.push.push_all.Goals as goal

pub returns-in_err-taken-clause-err : goal.returns-in_err-taken-clause-err
returns-in_err-taken-clause-err g c =
    let failed = err_from_is_err_and c.from_residual.result c.from_residual.ensures.1 in
    rw (failed.1, c.in_err-taken.ensures.err) (some_written _ _ _ _ c.loop-rest.invariant.front (is_more c.is_empty.result _ c.is_empty.ensures c.loop-rest-test.true))
