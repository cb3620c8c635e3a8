use Rattle.std.proofs.Common.{Box, ap, refl, sym, ◌∙◌}
use Rattle.link_pool.proofs.Finishing.{serves_as, serves_nobody}
use Rattle.link_pool.proofs.serving.serve_legal.Goals as goal

pub returns-in-Ok : goal.returns-in-Ok
returns-in-Ok g c =
    let all = c.serve_under_lock-accepted.ensures in
    record {
      served = serves_as g.B.Recorded.legal g.A.In.Source.left g.A.Out.Sink.written
          g.A.In.Source.faults g.A.Out.Sink.faults _ _ _ _ _ _ _ _ _ _ _ _ _ _ _ _ _ _ _
          (ap (λ v. g.B.Recorded.fixed v) c.in-Ok.ensures.ok)
          (ap (λ v. g.B.Recorded.fixed v) (sym c.into_inner-value.ensures))
          (ap (λ v. g.B.Recorded.wrong v) (sym c.into_inner-value.ensures))
          (ap (λ v. g.B.Recorded.history v) (sym c.into_inner-value.ensures)) refl refl
          all.served;
      memory = λ err. let none = all.memory
          err in (
            none.0,
            none.1,
            c.into_inner-value.ensures ∙ ap (λ (b : Box _ _). b.value) none.2
                ∙ c.in-Ok.ensures.ok,
          );
    }

pub returns-in-Err : goal.returns-in-Err
returns-in-Err g c =
    let same = c.serve_nobody.ensures.value ∙ c.in-Err.ensures.value_returned in
    record {
      served = serves_nobody g.B.Recorded.legal g.A.In.Source.left g.A.Out.Sink.written
          g.A.In.Source.faults g.A.Out.Sink.faults _ _ _ _ _ _ _ _ _ _ _ _
          (ap (λ v. g.B.Recorded.fixed v) same) (ap (λ v. g.B.Recorded.history v) same)
          c.requires.may_serve.empty c.requires.may_serve.is_legal
          c.serve_nobody.ensures.accepted c.serve_nobody.ensures.count c.serve_nobody.ensures.lacked
          c.serve_nobody.ensures.served;
      memory = λ err. (refl, c.serve_nobody.ensures.served, same);
    }
