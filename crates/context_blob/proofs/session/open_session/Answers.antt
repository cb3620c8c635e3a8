use Rattle.std.proofs.Common.{◌∙◌, List, ℕ, refl, ap, sym}
use Rattle.effect_spec.specs.Contexts.{opened_session, opened_context, session_within, whole_session}
use Rattle.tab_spec.specs.Session as session
use Rattle.context_blob.proofs.Opening.{no_session_within}
use Rattle.context_blob.proofs.session.open_session.Goals as goal

pub returns-in_default : goal.returns-in_default
unfolding opened_session
returns-in_default c = (refl, no_session_within (opened_context c.args.keys.now c.args.context.now) c.in_default.ensures)

pub returns-in_default-whole_session : goal.returns-in_default-whole_session
unfolding opened_session
returns-in_default-whole_session c = (
  refl,
  ap session_within c.in-Some.ensures
      ∙ ap (λ (plain : List ℕ). whole_session (session.session_of plain)) (sym c.as_slice.ensures.same) ∙ c.in_default-whole_session.ensures,
)

pub returns : goal.returns
unfolding opened_session
returns c =
    ap session_within c.in-Some.ensures
    ∙ ap (λ (plain : List ℕ). whole_session (session.session_of plain)) (sym c.as_slice.ensures.same) ∙ c.in-Some-whole_session.ensures
