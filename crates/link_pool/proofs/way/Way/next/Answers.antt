use Rattle.std.proofs.Common.{◌≡◌, true, ap}
use Rattle.crossbeam_channel.specs.Claims.{view}
use Rattle.link_pool.specs.Hands.{HandView}
use Rattle.link_pool.specs.Turns.{is_over}
use Rattle.link_pool.proofs.Turning.{accepted_none, accepted_one, has_parts, still_accepted}
use Rattle.link_pool.proofs.way.Way.next.Goals as goal

pub give-requires-clause-parts : goal.give-requires-clause-parts
give-requires-clause-parts g c κs lives = has_parts (view c.args.hand.now) (view c.take-turn.new.hand) c.take-turn.result.accepted.value c.take-turn.ensures.turn c.requires.rests

pub give-requires-clause-has : goal.give-requires-clause-has
give-requires-clause-has g c κs lives = ap (λ (v : HandView _). v.turns) c.take-turn.ensures.turn

pub give-requires-clause-more : goal.give-requires-clause-more
give-requires-clause-more g c κs lives =
    still_accepted (is_over c.accept_next-ends.new.turn.stage ≡ true) (view c.args.hand.now) (view c.take-turn.new.hand) c.take-turn.result.accepted.value c.accept_next-ends.new.turn.accepted.value
    c.accept_next-ends.result c.take-turn.ensures.turn c.accept_next-ends.ensures.some c.accept_next-ends.ensures.none

pub returns-clause-some : goal.returns-clause-some
returns-clause-some g c =
    accepted_one (view c.args.hand.now) (view c.take-turn.new.hand) (view c.give.new.hand) c.take-turn.result.accepted.value c.accept_next-ends.new.turn.accepted.value
    c.accept_next-ends.result c.requires.rests c.take-turn.ensures.turn c.give.ensures.given c.accept_next-ends.ensures.some

pub returns-clause-none : goal.returns-clause-none
returns-clause-none g c =
    accepted_none (is_over c.accept_next-ends.new.turn.stage ≡ true) (view c.args.hand.now) (view c.take-turn.new.hand) (view c.give.new.hand) c.take-turn.result.accepted.value c.accept_next-ends.new.turn.accepted.value
    c.accept_next-ends.result c.requires.rests c.take-turn.ensures.turn c.give.ensures.given c.accept_next-ends.ensures.none
