use Rattle.std.proofs.Common.{◌∙◌, List, ℕ, refl, ap, sym}
use Rattle.effect_spec.specs.Contexts.{opened_object, opened_context, object_within, whole_object}
use Rattle.tab_spec.specs.Object as object
use Rattle.context_blob.proofs.Opening.{none_within}
use Rattle.context_blob.proofs.object.open_object.Goals as goal

pub returns-in_default : goal.returns-in_default
unfolding opened_object
returns-in_default c = (refl, none_within (opened_context c.args.keys.now c.args.context.now) c.in_default.ensures)

pub returns-in_default-whole_object : goal.returns-in_default-whole_object
unfolding opened_object
returns-in_default-whole_object c = (
  refl,
  ap object_within c.in-Some.ensures
      ∙ ap (λ (plain : List ℕ). whole_object (object.object_of plain)) (sym c.as_slice.ensures.same) ∙ c.in_default-whole_object.ensures,
)

pub returns : goal.returns
unfolding opened_object
returns c =
    ap object_within c.in-Some.ensures
    ∙ ap (λ (plain : List ℕ). whole_object (object.object_of plain)) (sym c.as_slice.ensures.same) ∙ c.in-Some-whole_object.ensures
