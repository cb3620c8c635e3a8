use Rattle.std.proofs.Common.{ℕ, List, ◌∷◌, ◌++◌, [], ap, rules}
use Rattle.audit_journal.specs.Text.{Writes}
use Rattle.audit_journal.proofs.Writing.{bytes_word-some, nothing_written, wrote_more, last_in}
use Rattle.audit_journal.proofs.text.write_bytes.Goals as goal

pub returns : goal.returns
returns g c =
    let last : Writes c.push_all.result (c.args.end ∷ []) (g.K.Sink.written c.write_digits.new.sink) (g.K.Sink.written c.push_all.new.sink) (g.K.Sink.faults c.write_digits.new.sink) (g.K.Sink.faults c.push_all.new.sink) = search rules in
    let whole = bytes_word-some c.args.bytes.now c.is_empty.result c.is_empty.ensures c.if-is_empty.false in
    last_in c.push_all.result (wrote_more (nothing_written (ap (λ (xs : List ℕ). xs ++ c.args.end ∷ []) whole)) c.in_ok-write_digits.ensures) last
