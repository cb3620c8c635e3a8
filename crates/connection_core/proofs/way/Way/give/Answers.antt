use Rattle.connection_core.proofs.Giving.{gives_kept}
use Rattle.connection_core.proofs.way.Way.give.Goals as goal

pub send_as-requires-clause-rule : goal.send_as-requires-clause-rule
send_as-requires-clause-rule g c = (gives_kept g.B.Recorded.legal g.K.Sink.written g.K.Sink.ended g.K.Sink.faults g.J.Begins.begun _ _ _ _ c.loop.invariant.kept, λ items views h at. tt)
