use Rattle.std.proofs.Common.{length}
use Rattle.hex.specs.Hex.{encode_lower}
use Rattle.audit_journal.proofs.Writing.{FrontWritten}
use Rattle.audit_journal.proofs.text.write_digits.Given as goal

-- the digits of a front of the bytes were written
abbrev pub invariant-loop-rest : goal.invariant-loop-rest
invariant-loop-rest g l =
    FrontWritten (encode_lower l.bytes) (encode_lower l.rest) (g.K.Sink.written l.fn.sink) (g.K.Sink.written l.sink) (g.K.Sink.faults l.fn.sink) (g.K.Sink.faults l.sink)

abbrev pub decreases-loop-rest : goal.decreases-loop-rest
decreases-loop-rest g l = length l.rest
