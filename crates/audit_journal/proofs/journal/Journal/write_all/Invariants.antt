use Rattle.std.proofs.Common.{drop}
use Rattle.history_spec.specs.AuditText.{audit_text}
use Rattle.audit_journal.proofs.Writing.{FrontWritten}
use Rattle.audit_journal.proofs.journal.Journal.write_all.Given as goal

-- the lines of the entries so far were written
abbrev pub invariant-loop-place : goal.invariant-loop-place
invariant-loop-place g l =
    FrontWritten (audit_text l.self.entries) (audit_text (drop l.place l.self.entries)) (g.K.Sink.written l.fn.sink) (g.K.Sink.written l.sink) (g.K.Sink.faults l.fn.sink) (g.K.Sink.faults l.sink)
