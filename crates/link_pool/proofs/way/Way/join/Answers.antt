use Rattle.link_pool.specs.Turns.{TurnAcceptedSince, accepted_of}
use Rattle.link_pool.proofs.Fair.{joins_fair}
use Rattle.link_pool.proofs.way.Way.join.Goals as goal

pub absorb-requires-clause-rule : goal.absorb-requires-clause-rule
absorb-requires-clause-rule g c = joins_fair accepted_of (TurnAcceptedSince g.A.Acceptor.coming g.A.Acceptor.faults g.A.Passed.name g.J.Begins.begun) _ _ _ _ c.requires.parts
