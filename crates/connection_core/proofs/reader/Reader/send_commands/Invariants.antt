use Rattle.std.proofs.Common.{◌≡◌, ◌+◌, ◌≤◌}
use Rattle.tab_spec.specs.Count.{largest_count}
use Rattle.crossbeam_channel.specs.Claims.{view}
use Rattle.connection_core.specs.Hands.{IsKeeper}
use Rattle.connection_core.specs.Line.{with_held}
use Rattle.connection_core.specs.Sides.{IsReaders}
use Rattle.connection_core.proofs.Reading.{ReadSoFar}
use Rattle.connection_core.proofs.reader.Reader.send_commands.Given as goal

abbrev pub invariant-loop : goal.invariant-loop
invariant-loop g l = record {
  goes : (goal.iterator-loop g).can_next l.iterator' × (goal.iterator-loop g).is_finite l.iterator';
  rounds : l.count + l.iterator'.left ≤ largest_count;
  side : IsReaders l.link.between l.self.side;
  keeper : IsKeeper g.B.Recorded.legal g.K.Sink.written g.K.Sink.ended g.K.Sink.faults g.J.Begins.begun l.link l.keeper;
  source_count : g.S.Source.faults l.self.source ≡ g.S.Source.faults l.initial.self.source;
  so_far : ReadSoFar l.count (g.S.Source.left l.initial.self.source) (g.S.Source.left l.self.source) (with_held (view l.self.side.pass) l.self.held) l.self.side.seat.raised l.self.intake.framer;
}
