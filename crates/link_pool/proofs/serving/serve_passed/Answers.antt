use Rattle.std.proofs.Common.{ap, arith, refl, ◌∙◌}
use Rattle.broker_lock.specs.Pass.{PassView}
use Rattle.crossbeam_channel.specs.Claims.{view}
use Rattle.link_pool.specs.Hands.{HandView}
use Rattle.link_pool.specs.Starts.{PoolStart}
use Rattle.link_pool.proofs.Coming.{keeps_first, left_within}
use Rattle.link_pool.proofs.Finishing.{never_memory, serves_all, serves_nobody}
use Rattle.link_pool.proofs.Parting.{server_first}
use Rattle.link_pool.proofs.Turning.{held_nothing}
use Rattle.link_pool.proofs.serving.serve_passed.Goals as goal

pub give-requires-clause-parts : goal.give-requires-clause-parts
give-requires-clause-parts g c = omega (arith, ap (λ (v : HandView _). v.parts) c.in-Ok.ensures.hand.1)

pub give-requires-clause-has : goal.give-requires-clause-has
give-requires-clause-has g c κs lives = ap (λ (v : HandView _). v.turns) c.in-Ok.ensures.hand.1

pub give-requires-clause-more : goal.give-requires-clause-more
give-requires-clause-more g c κs lives = held_nothing _ _ c.in-Ok.ensures.hand.1

pub give-requires-clause-kept : goal.give-requires-clause-kept
give-requires-clause-kept g c κs lives = keeps_first g.J.Begins.begun _ _ _ _ _ c.requires.begun c.none-accepted.ensures

pub serve_as_needed-server-requires-clause-may_grow :
    goal.serve_as_needed-server-requires-clause-may_grow
serve_as_needed-server-requires-clause-may_grow g c κs lives = record {
  on = record {
    hand = c.give.ensures.way;
    stands = server_first g.B.Recorded.legal g.A.In.Source.left g.A.Out.Sink.written
        g.A.In.Source.faults g.A.Out.Sink.faults _ (view c.give.new.hand) _ _ _ _
        (g.B.Recorded.history c.args.value) _
        c.in-Ok.ensures.hand.1 c.none-accepted.ensures c.give.ensures.given c.in-Ok-new.ensures.ok
        c.requires.may_serve.empty c.requires.may_serve.is_legal c.none-served.ensures;
  };
  lock_is = ap (λ (p : PassView). p.lock) c.in-Ok-new.ensures.ok;
  hand_parts = omega (
    arith,
    c.requires.may_serve.some,
    c.requires.may_serve.few,
    ap (λ (v : HandView _). v.parts) c.in-Ok.ensures.hand.1,
    ap (λ (v : HandView _). v.parts)
        c.give.ensures.given,
  );
  parts = omega (
    arith,
    c.requires.may_serve.some,
    c.requires.may_serve.few,
    ap (λ (p : PassView). p.parts) c.in-Ok-new.ensures.ok,
  );
  unserved = c.none-served.ensures;
}

pub end_all-ended-requires-clause-hand : goal.end_all-ended-requires-clause-hand
end_all-ended-requires-clause-hand g c =
    omega (arith, c.serve_as_needed-server.ensures.leaves.hand_parts, ap (λ (v : HandView _). v.parts) c.in-Ok.ensures.hand.1, ap (λ (v : HandView _). v.parts) c.give.ensures.given)

pub end_all-ended-requires-clause-parts : goal.end_all-ended-requires-clause-parts
end_all-ended-requires-clause-parts g c = omega (arith, c.serve_as_needed-server.ensures.leaves.parts, ap (λ (p : PassView). p.parts) c.in-Ok-new.ensures.ok)

pub end_all-ended-requires-clause-lock : goal.end_all-ended-requires-clause-lock
end_all-ended-requires-clause-lock g c κs lives = c.serve_as_needed-server.ensures.leaves.lock_is ∙ ap (λ (p : PassView). p.lock) c.in-Ok-new.ensures.ok

pub overflow_sub-count : goal.overflow_sub-count
overflow_sub-count g c = left_within g.J.Begins.begun _ _ _ _ _ _ _ _ _ _ c.requires.begun c.end_all-ended.ensures.kept

pub close-value-requires-clause-lock : goal.close-value-requires-clause-lock
close-value-requires-clause-lock g c = c.end_all-ended.ensures.ended.lock_is ∙ (c.serve_as_needed-server.ensures.leaves.lock_is ∙ ap (λ (p : PassView). p.lock) c.in-Ok-new.ensures.ok)

pub close-value-requires-clause-parts : goal.close-value-requires-clause-parts
close-value-requires-clause-parts g c =
    omega (arith, c.end_all-ended.ensures.ended.parts, c.serve_as_needed-server.ensures.leaves.parts, ap (λ (p : PassView). p.parts) c.in-Ok-new.ensures.ok)

pub returns-clause-name : goal.returns-clause-name
returns-clause-name g c = c.end_all-ended.ensures.kept.same ∙ ap (λ (s : PoolStart _). s.name) c.requires.begun

pub returns-clause-serves : goal.returns-clause-serves
returns-clause-serves g c = record {
  served = serves_all g.B.Recorded.legal g.A.In.Source.left g.A.Out.Sink.written
      g.A.In.Source.faults g.A.Out.Sink.faults g.J.Begins.begun _ _ _ _ _ _ _ _ _ _ _ _ _ _ _ _ _ _
      _ _
      c.requires.begun c.end_all-ended.ensures.kept c.end_all-ended.ensures.over
      c.end_all-ended.ensures.ended
      (c.serve_as_needed-server.ensures.leaves.fixed_is ∙ ap (λ (p : PassView). p.fixed)
      c.in-Ok-new.ensures.ok) c.close-value.ensures refl c.outcome-accepted.ensures;
  memory = λ err. absurd (never_memory _ _ c.outcome-accepted.ensures err);
}

pub returns-in_default-clause-serves : goal.returns-in_default-clause-serves
returns-in_default-clause-serves g c = record {
  served = serves_nobody g.B.Recorded.legal g.A.In.Source.left g.A.Out.Sink.written
      g.A.In.Source.faults g.A.Out.Sink.faults _ _ _ _ _ _ _ _ _ _ _ _
      (ap (λ v. g.B.Recorded.fixed v) c.serve_nobody.ensures.value)
      (ap (λ v. g.B.Recorded.history v) c.serve_nobody.ensures.value) c.requires.may_serve.empty
      c.requires.may_serve.is_legal
      c.serve_nobody.ensures.accepted c.serve_nobody.ensures.count c.serve_nobody.ensures.lacked
      c.serve_nobody.ensures.served;
  memory = λ err. (refl, c.serve_nobody.ensures.served, c.serve_nobody.ensures.value);
}

pub returns-in-Err-clause-serves : goal.returns-in-Err-clause-serves
returns-in-Err-clause-serves g c =
    let same = c.serve_nobody-in-Err.ensures.value ∙ c.in-Err.ensures.err in
    record {
      served = serves_nobody g.B.Recorded.legal g.A.In.Source.left g.A.Out.Sink.written
          g.A.In.Source.faults g.A.Out.Sink.faults _ _ _ _ _ _ _ _ _ _ _ _
          (ap (λ v. g.B.Recorded.fixed v) same) (ap (λ v. g.B.Recorded.history v) same)
          c.requires.may_serve.empty c.requires.may_serve.is_legal
          c.serve_nobody-in-Err.ensures.accepted c.serve_nobody-in-Err.ensures.count
          c.serve_nobody-in-Err.ensures.lacked c.serve_nobody-in-Err.ensures.served;
      memory = λ err. (refl, c.serve_nobody-in-Err.ensures.served, same);
    }
