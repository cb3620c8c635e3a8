use Rattle.std.proofs.Common.{◌∷◌, [], Ok, refl, rules}
use Rattle.audit_journal.specs.Text.{Writes}
use Rattle.audit_journal.proofs.Writing.{nothing_written, wrote_more, last_in}
use Rattle.audit_journal.proofs.text.write_word.Goals as goal

pub returns : goal.returns
returns g c =
    let first : Writes (Ok tt) c.args.word.now (g.K.Sink.written c.args.sink.now) (g.K.Sink.written c.push_all.new.sink) (g.K.Sink.faults c.args.sink.now) (g.K.Sink.faults c.push_all.new.sink) = search rules in
    let second : Writes c.push_all-2.result (c.args.end ∷ []) (g.K.Sink.written c.push_all.new.sink) (g.K.Sink.written c.push_all-2.new.sink) (g.K.Sink.faults c.push_all.new.sink) (g.K.Sink.faults c.push_all-2.new.sink) = search rules in
    last_in c.push_all-2.result (wrote_more (nothing_written refl) first) second
