use Rattle.std.proofs.Common.{Ok, Err, arith, rules}
use Rattle.std.proofs.lemmas.Result.{err_from_is_err_and}
use Rattle.audit_journal.specs.Text.{Writes, line_at}
use Rattle.audit_journal.proofs.Writing.{audit_text-drop, rest_is, wrote_more, failed_in}
use Rattle.audit_journal.proofs.journal.Journal.write_all.Goals as goal

pub returns-in_err-write_line-clause-front : goal.returns-in_err-write_line-clause-front
returns-in_err-write_line-clause-front g c =
    let history = c.args.self.now.entries in
    let place = c.loop-place.place in
    let failed = err_from_is_err_and c.from_residual.result c.from_residual.ensures.1 in
    let line : Writes (Err c.in_err-write_line.field-0.0) (line_at history place) (g.K.Sink.written c.loop-place.sink) (g.K.Sink.written c.write_line.new.sink) (g.K.Sink.faults c.loop-place.sink) (g.K.Sink.faults c.write_line.new.sink) = search rules in
    (failed_in _ failed.1 (rest_is (audit_text-drop history place (omega arith)) c.loop-place.invariant) line).front

pub loop-place-preserved : goal.loop-place-preserved
loop-place-preserved g c =
    let history = c.args.self.now.entries in
    let place = c.loop-place.place in
    let line : Writes (Ok tt) (line_at history place) (g.K.Sink.written c.loop-place.sink) (g.K.Sink.written c.write_line.new.sink) (g.K.Sink.faults c.loop-place.sink) (g.K.Sink.faults c.write_line.new.sink) = search rules in
    wrote_more (rest_is (audit_text-drop history place (omega arith)) c.loop-place.invariant) line
