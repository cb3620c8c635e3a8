use Rattle.std.proofs.Common.{◌≡◌}
use Rattle.crossbeam_channel.specs.Claims.{view}
use Rattle.connection_core.specs.Hands.{MaySend}
use Rattle.connection_core.specs.Line.{with_held}
use Rattle.connection_core.proofs.hands.Keeper.put.Given as goal

abbrev pub invariant-loop : goal.invariant-loop
invariant-loop g l = record {
  goes : (goal.iterator-loop g).can_next l.iterator' × (goal.iterator-loop g).is_finite l.iterator';
  may_send : MaySend g.B.Recorded.legal g.K.Sink.written g.K.Sink.ended g.K.Sink.faults
      g.J.Begins.begun l.shared l.link l.self l.side;
  sent : with_held (view l.side.pass) l.held ≡ with_held (view l.initial.side.pass) l.initial.held;
  seat : l.side.seat ≡ l.initial.side.seat;
}
