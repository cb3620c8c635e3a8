use Rattle.connection_core.proofs.Giving.{takes_kept}
use Rattle.connection_core.proofs.way.Way.try_take.Goals as goal

pub try_recv_as-requires-clause-rule : goal.try_recv_as-requires-clause-rule
try_recv_as-requires-clause-rule g c = (takes_kept {B = g.row.B.Denot} {K = g.row.K.Denot} g.B.Recorded.legal g.K.Sink.written g.K.Sink.ended g.K.Sink.faults g.J.Begins.begun _ _, λ items views h at. tt)
