use Rattle.std.proofs.Common.{◌≡◌, ◌∙◌, ◌+◌, ◌<◌, ◌++◌, List, ℕ, length, ap, subst, arith}
use Rattle.std.specs.Prelude.{OnOk, OnErr}
use Rattle.effect_spec.specs.Contexts.{context_bytes}
use Rattle.tab_spec.specs.Object.{object_bytes}
use Rattle.tab_spec.specs.declared.TheConstants.{TRANSIENT_FIRST, RH_OWNER}
use Rattle.tab_values.specs.Views.{object_of}
use Rattle.context_blob.proofs.Framing.{length_context}
use Rattle.context_blob.proofs.object.seal_object.Goals as goal

pub returns-clause-ok : goal.returns-clause-ok
returns-clause-ok c =
    let Sealed : List ℕ → List ℕ = context_bytes c.args.keys.now c.args.sequence TRANSIENT_FIRST RH_OWNER in
    let plain : c.as_slice.result.now ≡ object_bytes (object_of c.args.v.now) = c.as_slice.ensures.same ∙ c.object_octets-plain.ensures in
    subst (λ (bytes : List ℕ). OnOk c.put_context.result (c.put_context.new.out ≡ c.args.out.now ++ Sealed bytes)) plain c.put_context.ensures.ok

pub returns-clause-err : goal.returns-clause-err
returns-clause-err c =
    let Sealed : List ℕ → List ℕ = context_bytes c.args.keys.now c.args.sequence TRANSIENT_FIRST RH_OWNER in
    let plain : c.as_slice.result.now ≡ object_bytes (object_of c.args.v.now) = c.as_slice.ensures.same ∙ c.object_octets-plain.ensures in
    subst (λ (bytes : List ℕ). OnErr c.put_context.result ((4096 < length c.args.out.now + length (Sealed bytes)) × (c.put_context.new.out ≡ c.args.out.now))) plain
    c.put_context.ensures.err

pub returns-clause-most : goal.returns-clause-most
returns-clause-most c =
    let plain : c.as_slice.result.now ≡ object_bytes (object_of c.args.v.now) = c.as_slice.ensures.same ∙ c.object_octets-plain.ensures in
    omega (arith, length_context c.args.keys.now c.args.sequence TRANSIENT_FIRST RH_OWNER (object_bytes (object_of c.args.v.now)), ap length plain, c.as_slice.ensures.most)
