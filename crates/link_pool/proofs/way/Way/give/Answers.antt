use Rattle.link_pool.specs.Turns.{TurnAcceptedSince, accepted_of}
use Rattle.link_pool.proofs.Fair.{gives_same}
use Rattle.link_pool.proofs.way.Way.give.Goals as goal

pub send_as-requires-clause-rule : goal.send_as-requires-clause-rule
send_as-requires-clause-rule g c =
    (gives_same accepted_of (TurnAcceptedSince g.A.Acceptor.coming g.A.Acceptor.faults g.A.Passed.name g.J.Begins.begun) _ _ _ _ _ _ c.loop.invariant.same c.loop.invariant.turn c.requires.parts c.requires.has c.requires.more c.requires.kept, λ items views h at. tt)
