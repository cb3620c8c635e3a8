use Rattle.std.proofs.Common.{◌≡◌, length}
use Rattle.link_port.proofs.Fronts.{FrontWritten}
use Rattle.link_port.proofs.push.push_all.Given as goal

-- a front of the bytes was written, and no push failed
abbrev pub invariant-loop-rest : goal.invariant-loop-rest
invariant-loop-rest g l = record {
  front : FrontWritten (g.K.Sink.written l.fn.sink) (g.K.Sink.written l.sink) l.bytes l.rest;
  goes_on : g.K.Sink.ended l.sink ≡ g.K.Sink.ended l.fn.sink;
  quiet : g.K.Sink.faults l.sink ≡ g.K.Sink.faults l.fn.sink;
}

abbrev pub decreases-loop-rest : goal.decreases-loop-rest
decreases-loop-rest g l = length l.rest
