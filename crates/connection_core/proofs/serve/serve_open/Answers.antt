use Rattle.std.proofs.Common.{refl, ap, ◌∙◌}
use Rattle.link_port.specs.Port.{at_end}
use Rattle.connection_core.proofs.Leaving.{caused_both, closed_both, ends_at_last}
use Rattle.connection_core.proofs.Taking.{between_of, leaves_at}
use Rattle.connection_core.proofs.serve.serve_open.Goals as goal

pub finish-seat-requires-clause-worker : goal.finish-seat-requires-clause-worker
finish-seat-requires-clause-worker g c =
    (leaves_at g.K.Sink.written g.K.Sink.ended g.K.Sink.faults _ c.requires.may_read.begins.start _
    _ c.requires.may_read.begins.between_is
    (c.run_both-reader.ensures.closes c.requires.may_read.begins.start
    c.requires.may_read.begins.is)).of

pub returns : goal.returns
returns g c start is =
    let closes = c.run_both-reader.ensures.closes start is in
    let leaves = leaves_at g.K.Sink.written g.K.Sink.ended g.K.Sink.faults _ start _ _
    (between_of _ _ _ start c.requires.may_read.begins is) closes in
    record {
      client = c.run_both-reader.result.1.client;
      client_is = refl;
      goes_on = leaves.goes_on;
      closed = rw (c.end.ensures.written)
          (closed_both _ _ _ _ _ _ _ _ _ _ _ _ _ _ _ _ _ c.run_both-reader.ensures.reads leaves
          c.finish-seat.ensures);
      sink_ended = c.end.ensures.end_told ∙ ap at_end closes.sink_ended ∙ ends_at_last _ _;
      cause = rw (c.end.ensures.faults)
          (caused_both _ _ _ _ _ _ _ _ _ _ _ _ _ _ _ _ _ c.run_both-reader.ensures.reads leaves
          c.finish-seat.ensures);
    }
