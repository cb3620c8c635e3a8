use Rattle.std.proofs.Common.{refl, sym, subst}
use Rattle.std.proofs.lemmas.Result.{err_from_is_err_and}
use Rattle.effect_spec.specs.Effect.{Effect}
use Rattle.fx_table.specs.Views.{LeavesEffect, operands_of}
use Rattle.fx_table.proofs.Ends.{passes_by, undefined_by, unauthorized_by}
use Rattle.fx_table.proofs.effects.run.Goals as goal

pub returns-in_err-indexes_are_there : goal.returns-in_err-indexes_are_there
returns-in_err-indexes_are_there c =
    let p = err_from_is_err_and c.from_residual.result c.from_residual.ensures.1 in
    rw (p.1, p.2) (
      undefined_by c.args.persist.now (operands_of c.args.ops.now) c.args.shape.now c.args.auths.now c.args.bytes.now c.handle.result c.handle-2.result c.in_err-indexes_are_there.field-0.0
          (c.handle.ensures) (c.handle-2.ensures) c.in_err-indexes_are_there.ensures,
      refl,
      refl,
    )

pub returns-in_err-check_authorization : goal.returns-in_err-check_authorization
returns-in_err-check_authorization c =
    let p = err_from_is_err_and c.from_residual-in_err-check_authorization.result c.from_residual-in_err-check_authorization.ensures.1 in
    rw (p.1, p.2) (
      unauthorized_by c.args.persist.now (operands_of c.args.ops.now) c.args.shape.now c.args.auths.now c.args.bytes.now c.handle.result c.handle-2.result
          c.in_err-check_authorization.field-0.0 (c.handle.ensures) (c.handle-2.ensures) c.in_ok-indexes_are_there.ensures c.in_err-check_authorization.ensures,
      refl,
      refl,
    )

pub returns-then-shape : goal.returns-then-shape
returns-then-shape c =
    subst (λ (e : Effect). LeavesEffect c.run_with_sessions.result c.args.shape.now e c.args.persist.now c.run_with_sessions.new.persist (operands_of c.args.ops.now) (operands_of c.run_with_sessions.new.ops)
    c.run_with_sessions.new.reply)
    (sym (passes_by c.args.persist.now (operands_of c.args.ops.now) c.args.shape.now c.args.auths.now c.args.bytes.now c.handle.result c.handle-2.result (c.handle.ensures)
    (c.handle-2.ensures) c.in_ok-indexes_are_there.ensures c.in_ok-check_authorization.ensures))
    c.run_with_sessions.ensures

pub returns : goal.returns
returns c =
    subst (λ (e : Effect). LeavesEffect c.run_without_sessions.result c.args.shape.now e c.args.persist.now c.run_without_sessions.new.persist (operands_of c.args.ops.now) (operands_of c.run_without_sessions.new.ops) c.run_without_sessions.new.reply)
    (sym (passes_by c.args.persist.now (operands_of c.args.ops.now) c.args.shape.now c.args.auths.now c.args.bytes.now c.handle.result c.handle-2.result (c.handle.ensures)
    (c.handle-2.ensures) c.in_ok-indexes_are_there.ensures c.in_ok-check_authorization.ensures))
    c.run_without_sessions.ensures
