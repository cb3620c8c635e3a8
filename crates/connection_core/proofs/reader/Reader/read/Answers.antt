use Rattle.std.proofs.Common.{ap, ◌∙◌}
use Rattle.crossbeam_channel.specs.Claims.{view}
use Rattle.connection_core.specs.Line.{LineView}
use Rattle.connection_core.proofs.reader.Reader.read.Goals as goal

pub returns-clause-reads : goal.returns-clause-reads
returns-clause-reads g c =
    let all = c.send_commands-ended.ensures in
    record {
      ended = c.send_commands-ended.result;
      of = record {
        of = record { line = c.send.ensures.line; spares = all.side.of.spares; word = all.side.of.word; role_is = all.side.of.role_is };
        sends = ap (λ (v : LineView). v.sends) c.send.ensures.sent ∙ all.side.sends;
      };
      read = record { before = (view c.send_commands-ended.new.self.side.pass).sent; sent_is = ap (λ (v : LineView). v.sent) c.send.ensures.sent; commands_sent = all.sent };
      counts = all.counts;
    }
