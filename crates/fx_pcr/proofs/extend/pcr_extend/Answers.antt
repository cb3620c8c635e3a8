use Rattle.std.proofs.Common.{refl, sym, ap, ◌∙◌}
use Rattle.std.proofs.lemmas.Result.{err_from_is_err_and}
use Rattle.fx_pcr.proofs.extend.pcr_extend.Goals as goal

pub returns-in_err-digest : goal.returns-in_err-digest
returns-in_err-digest c =
    let p = err_from_is_err_and c.from_residual.result c.from_residual.ensures.1 in
    rw (p.1, p.2) (c.in_err-digest.ensures c.args.p.now c.args.pcr, refl)

pub returns-in-Some : goal.returns-in-Some
returns-in-Some c = rw (c.in_ok-digest.ensures c.args.p.now c.args.pcr, c.in-Some.is, c.extend.ensures) refl

pub returns-in_default : goal.returns-in_default
returns-in_default c = rw (c.in_ok-digest.ensures c.args.p.now c.args.pcr, c.in_default.is) refl
