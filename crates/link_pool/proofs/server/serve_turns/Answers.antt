use Rattle.std.proofs.Common.{arith, sym, subst, ◌∙◌}
use Rattle.crossbeam_channel.specs.Claims.{IsSeatAt}
use Rattle.crossbeam_channel.specs.Ends.{sends_on}
use Rattle.link_pool.proofs.Parting.{leaves_none, leaves_then, leaves_turn}
use Rattle.link_pool.proofs.server.serve_turns.Goals as goal

pub loop-init : goal.loop-init
loop-init g c = record { goes = (tt, tt); on = c.requires.on; leaves = leaves_none _ _ }

pub serve_next-requires-clause-lock : goal.serve_next-requires-clause-lock
serve_next-requires-clause-lock g c κs lives = c.accept_one.ensures.leaves.lock_is ∙ (c.loop.invariant.leaves.lock_is ∙ c.requires.lock)

pub serve_next-requires-clause-parts : goal.serve_next-requires-clause-parts
serve_next-requires-clause-parts g c = omega (arith, c.requires.parts, c.loop.invariant.leaves.parts, c.accept_one.ensures.leaves.parts)

pub loop-preserved : goal.loop-preserved
loop-preserved g c = record {
  goes = (tt, tt);
  on = record {
    hand = subst (λ h. IsSeatAt (sends_on c.args.way.now.sender) h) (sym c.serve_next.ensures.hand)
        c.accept_one.ensures.on.hand;
    stands = c.serve_next.ensures.server;
  };
  leaves = leaves_turn _ _ _ _ _ _ _ _ c.loop.invariant.leaves c.accept_one.ensures.leaves c.serve_next.ensures.leaves;
}

pub returns-in-None-accept_one : goal.returns-in-None-accept_one
returns-in-None-accept_one g c = record {
  on = c.in-None-accept_one.ensures.on;
  leaves = leaves_then _ _ _ _ _ _ 0 0
      c.loop.invariant.leaves c.accept_one.ensures.leaves;
}
