use Rattle.std.proofs.Common.{Ok, append_assoc, rules}
use Rattle.audit_journal.specs.Text.{Writes}
use Rattle.audit_journal.proofs.Writing.{nothing_written, wrote_more, last_in}
use Rattle.audit_journal.proofs.text.write_named.Goals as goal

pub returns : goal.returns
returns g c =
    let first : Writes (Ok tt) c.args.name.now (g.K.Sink.written c.args.sink.now) (g.K.Sink.written c.push_all.new.sink) (g.K.Sink.faults c.args.sink.now) (g.K.Sink.faults c.push_all.new.sink) = search rules in
    last_in c.write_number.result (wrote_more (nothing_written (append_assoc c.args.name.now _ _)) first) c.write_number.ensures
