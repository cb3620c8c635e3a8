use Rattle.connection_core.specs.Duties.{KeepsTo}
use Rattle.connection_core.proofs.duty.Duty.finish.Given as goal

abbrev pub invariant-loop : goal.invariant-loop
invariant-loop g l = record {
  goes : (goal.iterator-loop g).can_next l.iterator' × (goal.iterator-loop g).is_finite l.iterator';
  keeps : KeepsTo g.B.Recorded.legal g.K.Sink.written g.K.Sink.ended g.K.Sink.faults g.J.Begins.begun l.self;
}
