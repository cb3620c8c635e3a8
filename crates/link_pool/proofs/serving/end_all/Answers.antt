use Rattle.std.proofs.Common.{ap, arith, sym, ◌∙◌}
use Rattle.crossbeam_channel.specs.Claims.{view}
use Rattle.link_pool.specs.Hands.{HandView}
use Rattle.link_pool.proofs.Finishing.{gives_back, has_ended}
use Rattle.link_pool.proofs.Parting.{leaves_none, leaves_turn}
use Rattle.link_pool.proofs.Turning.{has_parts, held_whole, leaves_back}
use Rattle.link_pool.proofs.serving.end_all.Goals as goal

pub loop-init : goal.loop-init
loop-init g c = record { goes = (tt, tt); on = c.requires.on; leaves = leaves_none _ _ }

pub take-turn-requires-clause-rests : goal.take-turn-requires-clause-rests
take-turn-requires-clause-rests g c κs lives = c.loop.invariant.on.stands.rests

pub returns-then-is_over-clause-over : goal.returns-then-is_over-clause-over
returns-then-is_over-clause-over g c = sym c.is_over.ensures ∙ c.if-is_over.true

pub returns-then-is_over-clause-ended : goal.returns-then-is_over-clause-ended
returns-then-is_over-clause-ended g c =
    has_ended g.B.Recorded.legal g.A.In.Source.left g.A.Out.Sink.written g.A.In.Source.faults
    g.A.Out.Sink.faults (view c.loop.server.hand) _ _ c.take-turn.result.accepted.value _ _
    (view c.args.server.hand) c.loop.invariant.on.stands c.loop.invariant.leaves
    (c.take-turn.ensures.all (c.loop.invariant.leaves.hand_parts ∙ c.requires.hand))

pub give-requires-clause-parts : goal.give-requires-clause-parts
give-requires-clause-parts g c κs lives = has_parts (view c.loop.server.hand)
    (view c.take-turn.new.hand) c.take-turn.result.accepted.value c.take-turn.ensures.turn
    c.loop.invariant.on.stands.rests

pub give-requires-clause-has : goal.give-requires-clause-has
give-requires-clause-has g c κs lives = ap (λ (v : HandView _). v.turns) c.take-turn.ensures.turn

pub give-requires-clause-more : goal.give-requires-clause-more
give-requires-clause-more g c κs lives = held_whole (view c.loop.server.hand) (view c.take-turn.new.hand) c.take-turn.result.accepted.value c.take-turn.ensures.turn

pub serve_turns-next-requires-clause-lock : goal.serve_turns-next-requires-clause-lock
serve_turns-next-requires-clause-lock g c κs lives = c.loop.invariant.leaves.lock_is ∙ c.requires.lock

pub serve_turns-next-requires-clause-parts : goal.serve_turns-next-requires-clause-parts
serve_turns-next-requires-clause-parts g c = omega (arith, c.requires.parts, c.loop.invariant.leaves.parts)

pub serve_turns-next-requires-clause-on : goal.serve_turns-next-requires-clause-on
serve_turns-next-requires-clause-on g c κs lives = record {
  hand = c.give.ensures.way;
  stands = gives_back g.B.Recorded.legal g.A.In.Source.left g.A.Out.Sink.written
      g.A.In.Source.faults g.A.Out.Sink.faults (view c.loop.server.hand) (view c.take-turn.new.hand)
      (view c.give.new.hand) _ c.take-turn.result.accepted.value _ _ c.loop.invariant.on.stands
      c.take-turn.ensures.turn c.give.ensures.given;
}

pub loop-preserved : goal.loop-preserved
loop-preserved g c = record {
  goes = (tt, tt);
  on = c.serve_turns-next.ensures.on;
  leaves = leaves_turn _ _ _ _ _ _ _ _ c.loop.invariant.leaves
      (leaves_back (view c.loop.server.hand) (view c.take-turn.new.hand) (view c.give.new.hand) c.take-turn.result.accepted.value c.loop.server.pass c.take-turn.ensures.turn c.give.ensures.given)
      c.serve_turns-next.ensures.leaves;
}
