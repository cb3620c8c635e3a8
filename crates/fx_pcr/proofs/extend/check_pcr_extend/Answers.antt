use Rattle.std.proofs.Common.{ap}
use Rattle.std.specs.Prelude.{is_ok}
use Rattle.std.proofs.lemmas.Result.{err_from_is_err_and}
use Rattle.fx_pcr.proofs.extend.check_pcr_extend.Goals as goal

pub returns-in_err-read_extension : goal.returns-in_err-read_extension
returns-in_err-read_extension c persist pcr =
    let p = err_from_is_err_and c.from_residual.result c.from_residual.ensures.1 in
    rw (p.1, p.2) (c.in_err-read_extension.ensures persist pcr)

pub returns : goal.returns
returns c persist pcr = ap is_ok (c.in_ok-read_extension.ensures persist pcr)
