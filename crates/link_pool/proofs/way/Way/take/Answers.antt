use Rattle.link_pool.specs.Turns.{TurnAcceptedSince, accepted_of}
use Rattle.link_pool.proofs.Fair.{takes_same, took_same}
use Rattle.link_pool.proofs.way.Way.take.Goals as goal

pub recv_as-requires-clause-rule : goal.recv_as-requires-clause-rule
recv_as-requires-clause-rule g c = (takes_same accepted_of (TurnAcceptedSince g.A.Acceptor.coming g.A.Acceptor.faults g.A.Passed.name g.J.Begins.begun) _ _ _ c.loop.invariant.same c.requires.rests, λ items views h at. tt)

pub returns-in-Ok-clause-kept : goal.returns-in-Ok-clause-kept
returns-in-Ok-clause-kept g c = (took_same accepted_of (TurnAcceptedSince g.A.Acceptor.coming g.A.Acceptor.faults g.A.Passed.name g.J.Begins.begun) _ _ _ _ c.loop.invariant.same c.in-Ok.ensures.rule).is_kept

pub returns-in-Ok-clause-turn : goal.returns-in-Ok-clause-turn
returns-in-Ok-clause-turn g c = (took_same accepted_of (TurnAcceptedSince g.A.Acceptor.coming g.A.Acceptor.faults g.A.Passed.name g.J.Begins.begun) _ _ _ _ c.loop.invariant.same c.in-Ok.ensures.rule).now

pub returns-in-Ok-clause-all : goal.returns-in-Ok-clause-all
returns-in-Ok-clause-all g c = (took_same accepted_of (TurnAcceptedSince g.A.Acceptor.coming g.A.Acceptor.faults g.A.Passed.name g.J.Begins.begun) _ _ _ _ c.loop.invariant.same c.in-Ok.ensures.rule).all
