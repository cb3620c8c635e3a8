use Rattle.std.proofs.Common.{arith, sym, subst, ◌∙◌}
use Rattle.crossbeam_channel.specs.Claims.{IsSeatAt}
use Rattle.crossbeam_channel.specs.Ends.{sends_on}
use Rattle.link_pool.proofs.Parting.{leaves_then}
use Rattle.link_pool.proofs.server.serve_from.Goals as goal

pub serve_turns-server-requires-clause-on : goal.serve_turns-server-requires-clause-on
serve_turns-server-requires-clause-on g c κs lives = record {
  hand = subst (λ h. IsSeatAt (sends_on c.args.way.now.sender) h) (sym c.serve_one.ensures.hand)
      c.requires.on.hand;
  stands = c.serve_one.ensures.server;
}

pub serve_turns-server-requires-clause-lock : goal.serve_turns-server-requires-clause-lock
serve_turns-server-requires-clause-lock g c κs lives = c.serve_one.ensures.leaves.lock_is
    ∙ c.requires.lock_is

pub serve_turns-server-requires-clause-parts : goal.serve_turns-server-requires-clause-parts
serve_turns-server-requires-clause-parts g c = omega (arith, c.requires.parts, c.serve_one.ensures.leaves.parts)

pub returns : goal.returns
returns g c = record {
  on = c.serve_turns-server.ensures.on;
  leaves = leaves_then _ _ _ _ _ _ 1 0
      c.serve_one.ensures.leaves c.serve_turns-server.ensures.leaves;
}
