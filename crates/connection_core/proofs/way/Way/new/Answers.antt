use Rattle.std.proofs.Common.{[], ◌∷◌}
use Rattle.connection_core.proofs.Giving.{begins_kept}
use Rattle.connection_core.proofs.way.Way.new.Goals as goal

pub bounded_with-requires-clause-rule : goal.bounded_with-requires-clause-rule
bounded_with-requires-clause-rule g c = begins_kept {B = g.row.B.Denot} {K = g.row.K.Denot} g.B.Recorded.legal g.K.Sink.written g.K.Sink.ended g.K.Sink.faults g.J.Begins.begun (tt ∷ [])

pub another-other-requires-clause-rule : goal.another-other-requires-clause-rule
another-other-requires-clause-rule g c = λ items views h at. h
