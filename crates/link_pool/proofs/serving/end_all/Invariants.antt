use Rattle.std.proofs.Common.{[]}
use Rattle.link_pool.specs.Servers.{IsOn, KeepsParts}
use Rattle.link_pool.proofs.serving.end_all.Given as goal

abbrev pub invariant-loop : goal.invariant-loop
invariant-loop g l = record {
  goes : (goal.iterator-loop g).can_next l.iterator' × (goal.iterator-loop g).is_finite l.iterator';
  on : IsOn g.B.Recorded.legal g.A.In.Source.left g.A.Out.Sink.written g.A.In.Source.faults
      g.A.Out.Sink.faults l.way l.server [];
  leaves : KeepsParts l.fn.server l.server 0;
}
