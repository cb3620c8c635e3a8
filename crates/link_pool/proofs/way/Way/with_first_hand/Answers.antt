use Rattle.link_pool.specs.Turns.{TurnAcceptedSince, accepted_of}
use Rattle.link_pool.proofs.Fair.{begins_fair}
use Rattle.link_pool.proofs.way.Way.with_first_hand.Goals as goal

pub bounded_with-requires-clause-rule : goal.bounded_with-requires-clause-rule
bounded_with-requires-clause-rule g c = begins_fair accepted_of (TurnAcceptedSince g.A.Acceptor.coming g.A.Acceptor.faults g.A.Passed.name g.J.Begins.begun)
