use Rattle.std.proofs.Common.{◌≡◌, ◌∙◌, ◌++◌, List, ℕ, length, refl, ap}
use Rattle.std.specs.Result.{is_err}
use Rattle.effect_spec.specs.Contexts.{context_bytes, context_head, context_encrypted, context_integrity}
use Rattle.tab_spec.specs.Values.{sized_bytes}
use Rattle.tab_laws.proofs.Outcomes.{from_ok}
use Rattle.context_blob.proofs.Framing.{length_context, no_room, put_framed}
use Rattle.context_blob.proofs.blob.put_context.Goals as goal

pub returns-then-plain-as_slice-clause-err : goal.returns-then-plain-as_slice-clause-err
returns-then-plain-as_slice-clause-err c =
    let seed = c.args.keys.now in
    let plain = c.args.plain.now in
    let whole = context_bytes seed c.args.sequence c.args.saved_handle c.args.hierarchy plain in (
      no_room (length c.as_slice.result.now) c.args.out.now plain whole (length_context seed c.args.sequence c.args.saved_handle c.args.hierarchy plain)
          (ap length c.as_slice.ensures.value) c.if-plain-as_slice.true,
      refl,
    )

pub returns-clause-ok : goal.returns-clause-ok
returns-clause-ok c =
    let seed = c.args.keys.now in
    let bytes = context_encrypted seed c.args.sequence c.args.saved_handle c.args.plain.now in
    let Value : List ℕ → List ℕ = context_integrity seed c.args.sequence c.args.saved_handle c.args.hierarchy in
    let first : c.put_bytes.new.self ≡ c.args.out.now ++ context_head c.args.sequence c.args.saved_handle c.args.hierarchy =
    from_ok c.put_bytes.result _ c.put_bytes.ensures.ok (ap is_err c.unwrap.ensures)
    ∙ ap (λ (head : List ℕ). c.args.out.now ++ head) (c.as_slice-3.ensures.same ∙ c.head-head.ensures) in
    let shown : c.as_slice-4.result.now ≡ bytes = c.as_slice-4.ensures.same ∙ c.encrypted-bytes.ensures.bytes in
    let integrity : c.integrity_value-code.result ≡ Value bytes = c.integrity_value-code.ensures ∙ ap Value (c.as_slice-2.ensures.same ∙ c.encrypted-bytes.ensures.bytes) in
    put_framed c.args.out.now c.put_bytes.new.self c.put_blob.new.out (context_head c.args.sequence c.args.saved_handle c.args.hierarchy) (Value bytes) bytes
    first (c.put_blob.ensures ∙ ap (λ (code : List ℕ). c.put_bytes.new.self ++ sized_bytes (sized_bytes code ++ c.as_slice-4.result.now)) integrity
    ∙ ap (λ (encrypted : List ℕ). c.put_bytes.new.self ++ sized_bytes (sized_bytes (Value bytes) ++ encrypted)) shown)
