use Rattle.std.proofs.Common.{◌≡◌, ap, refl, rules, sym, ◌∙◌}
use Rattle.accept_loop.specs.declared.passing.Lent.{Lent}
use Rattle.link_pool.proofs.Finishing.{serves_as}
use Rattle.link_pool.proofs.serving.serve_under_lock.Goals as goal

pub returns : goal.returns
returns g c =
    let back : c.serve_passed-lent.result.0.acceptor.now ≡ c.acceptor-1.given.0 = search rules in
    let all = c.serve_passed-lent.ensures.serves in
    record {
      served = serves_as g.B.Recorded.legal g.A.In.Source.left g.A.Out.Sink.written
          g.A.In.Source.faults g.A.Out.Sink.faults _ _ _ _ _ _ _ _ _ _ _ _ _ _ _ _ _ _ _
          refl refl refl refl (ap (λ a. g.A.Acceptor.coming a) back)
          (ap (λ a. g.A.Acceptor.faults a) back) all.served;
      memory = λ err. let none = all.memory
          err in (sym back ∙ ap (λ (l : Lent _). l.acceptor.now) none.0, none.1, none.2);
    }
