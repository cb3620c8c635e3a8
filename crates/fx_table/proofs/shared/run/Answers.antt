use Rattle.std.proofs.Common.{refl, sym, subst, ◌∙◌}
use Rattle.std.proofs.lemmas.Result.{err_from_is_err_and}
use Rattle.effect_spec.specs.Effect.{Effect}
use Rattle.effect_spec.specs.Operands.{plain_operands}
use Rattle.fx_table.specs.Views.{LeavesEffectAlone}
use Rattle.fx_table.proofs.Ends.{passes_by, undefined_by, unauthorized_by}
use Rattle.fx_table.proofs.PlainRows.{row_of_shared}
use Rattle.fx_table.proofs.shared.run.Goals as goal

pub returns-in_err-indexes_are_there : goal.returns-in_err-indexes_are_there
returns-in_err-indexes_are_there c =
    let p = err_from_is_err_and c.from_residual.result c.from_residual.ensures.1 in
    rw (p.1, p.2) (
      undefined_by c.args.persist.now (plain_operands c.args.shape.now) c.args.shape.now c.args.auths.now c.args.bytes.now c.plain_handle-first.result c.plain_handle-second.result
          c.in_err-indexes_are_there.field-0.0 c.plain_handle-first.ensures c.plain_handle-second.ensures c.in_err-indexes_are_there.ensures,
      refl,
    )

pub returns-in_err-check_password : goal.returns-in_err-check_password
returns-in_err-check_password c =
    let p = err_from_is_err_and c.from_residual-in_err-check_password.result c.from_residual-in_err-check_password.ensures.1 in
    rw (p.1, p.2) (
      unauthorized_by c.args.persist.now (plain_operands c.args.shape.now) c.args.shape.now c.args.auths.now c.args.bytes.now c.plain_handle-first.result c.plain_handle-second.result
          c.in_err-check_password.field-0.0 c.plain_handle-first.ensures c.plain_handle-second.ensures c.in_ok-indexes_are_there.ensures c.in_err-check_password.ensures,
      refl,
    )

pub returns-then-shape : goal.returns-then-shape
returns-then-shape c =
    subst (λ (e : Effect). LeavesEffectAlone c.run_with_password.result c.args.shape.now e c.args.persist.now c.run_with_password.new.persist (plain_operands c.args.shape.now) c.run_with_password.new.reply)
    (sym (passes_by c.args.persist.now (plain_operands c.args.shape.now) c.args.shape.now c.args.auths.now c.args.bytes.now c.plain_handle-first.result c.plain_handle-second.result
    c.plain_handle-first.ensures c.plain_handle-second.ensures c.in_ok-indexes_are_there.ensures c.in_ok-check_password.ensures
    ∙ row_of_shared c.args.persist.now c.args.shape.now c.args.auths.now c.args.bytes.now c.plain_handle-first.result c.plain_handle-second.result
    c.requires.creates c.plain_handle-first.ensures c.plain_handle-second.ensures))
    c.run_with_password.ensures

pub returns : goal.returns
returns c =
    subst (λ (e : Effect). LeavesEffectAlone c.run_without_password.result c.args.shape.now e c.args.persist.now c.run_without_password.new.persist (plain_operands c.args.shape.now) c.run_without_password.new.reply)
    (sym (passes_by c.args.persist.now (plain_operands c.args.shape.now) c.args.shape.now c.args.auths.now c.args.bytes.now c.plain_handle-first.result c.plain_handle-second.result
    c.plain_handle-first.ensures c.plain_handle-second.ensures c.in_ok-indexes_are_there.ensures c.in_ok-check_password.ensures
    ∙ row_of_shared c.args.persist.now c.args.shape.now c.args.auths.now c.args.bytes.now c.plain_handle-first.result c.plain_handle-second.result
    c.requires.creates c.plain_handle-first.ensures c.plain_handle-second.ensures))
    c.run_without_password.ensures
