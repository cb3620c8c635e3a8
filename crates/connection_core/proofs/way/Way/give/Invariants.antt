use Rattle.crossbeam_channel.specs.Claims.{IsSeatAt}
use Rattle.crossbeam_channel.specs.Ends.{sends_on}
use Rattle.connection_core.specs.Handing.{KeepsHanded}
use Rattle.connection_core.proofs.way.Way.give.Given as goal

abbrev pub invariant-loop : goal.invariant-loop
invariant-loop g l = record {
  goes : (goal.iterator-loop g).can_next l.iterator' × (goal.iterator-loop g).is_finite l.iterator';
  way : IsSeatAt (sends_on l.self.sender) l.pass;
  kept : KeepsHanded g.B.Recorded.legal g.K.Sink.written g.K.Sink.ended g.K.Sink.faults g.J.Begins.begun l.handed;
}
