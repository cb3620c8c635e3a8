use Rattle.std.proofs.Common.{ℕ, List, refl, sym, subst, ◌∙◌}
use Rattle.std.proofs.lemmas.List.{take_rest}
use Rattle.effect_spec.specs.Effect.{effect_row}
use Rattle.fx_table.proofs.ResponseAuths.{fault_ends, kept_authorizes, taken_back}
use Rattle.fx_table.specs.Views.{FaultOrFailure, operands_of}
use Rattle.fx_table.proofs.response_auth.authorized_row.Goals as goal

pub returns-then-not-can_draw_nonce : goal.returns-then-not-can_draw_nonce
returns-then-not-can_draw_nonce c = (
  fault_ends c.args.persist.now (operands_of c.args.ops.now) c.args.shape.now c.args.auths.now c.args.bytes.now c.fault_or_failure.result c.requires.tag
      (sym c.if-changes_kept.ensures) (sym c.can_draw_nonce.ensures ∙ c.if-not-can_draw_nonce.true)
      (subst (λ (params : List ℕ). FaultOrFailure (effect_row c.args.shape.now.row.code c.args.persist.now (operands_of c.args.ops.now).handles params) c.fault_or_failure.result)
      (take_rest c.args.bytes.now c.args.auths.now.params) c.fault_or_failure.ensures),
  refl,
  refl,
)

pub returns-then-changes_kept : goal.returns-then-changes_kept
returns-then-changes_kept c =
    kept_authorizes c.row_and_response_auth.result c.args.persist.now (operands_of c.args.ops.now) c.args.shape.now c.args.auths.now c.args.bytes.now c.row_and_response_auth.new.persist
    (operands_of c.row_and_response_auth.new.ops) c.row_and_response_auth.new.reply c.requires.tag (sym c.if-changes_kept.ensures) (sym c.can_draw_nonce.ensures ∙ c.if-not-can_draw_nonce.false) c.row_and_response_auth.ensures

pub returns-in-Err : goal.returns-in-Err
returns-in-Err c =
    let fails = c.in-Err.ensures in
    let back =
    taken_back c.args.persist.now (operands_of c.args.ops.now) c.args.shape.now c.args.auths.now c.args.bytes.now c.in-Err.code c.row_and_response_auth-2.new.persist c.rewind.new.self
    c.random_place-place.result (sym c.if-changes_kept.ensures) c.random_place-place.ensures.place c.rewind.ensures fails.0 in (back.0, back.1, fails.1)
