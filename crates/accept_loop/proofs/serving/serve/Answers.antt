use Rattle.std.proofs.Common.{Box, ◌∙◌, ap, rules, sym}
use Rattle.accept_loop.proofs.Closing.{has_served_as, served_nothing}
use Rattle.accept_loop.proofs.serving.serve.Goals as goal

pub returns-in-Ok : goal.returns-in-Ok
returns-in-Ok g c =
    let unboxed = sym c.into_inner.ensures in
    has_served_as g.B.Recorded.fixed g.B.Recorded.wrong g.B.Recorded.history _ _ _ _
    (ap (λ v. g.B.Recorded.fixed v) c.in-Ok.ensures.ok) (ap (λ v. g.B.Recorded.fixed v) unboxed)
    (ap (λ v. g.B.Recorded.wrong v) unboxed) (ap (λ v. g.B.Recorded.history v) unboxed)
    (λ same. c.into_inner.ensures ∙ ap (λ (b : Box _ _). b.value) same ∙ c.in-Ok.ensures.ok)
    c.serve_under_lock-accepted.ensures

pub returns-in-Err : goal.returns-in-Err
returns-in-Err g c = record {
  fixed_is = search rules;
  is_legal = search rules;
  served = served_nothing _ _ _ _ _ _
      (ap (λ v. g.B.Recorded.history v) c.in-Err.ensures.value_returned ∙ c.requires.empty)
      c.new-in-Err.ensures.items;
  closed = search rules;
  enough = search rules;
  quiet = search rules;
  failed = search rules;
  memory = search rules;
}
