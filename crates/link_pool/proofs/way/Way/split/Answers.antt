use Rattle.link_pool.specs.Turns.{TurnAcceptedSince, accepted_of}
use Rattle.link_pool.proofs.Fair.{splits_fair}
use Rattle.link_pool.proofs.way.Way.split.Goals as goal

pub another-requires-clause-rule : goal.another-requires-clause-rule
another-requires-clause-rule g c = splits_fair accepted_of (TurnAcceptedSince g.A.Acceptor.coming g.A.Acceptor.faults g.A.Passed.name g.J.Begins.begun) _ _ c.requires.parts
