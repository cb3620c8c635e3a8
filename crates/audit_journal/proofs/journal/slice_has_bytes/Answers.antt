use Rattle.std.proofs.Common.{arith}
use Rattle.audit_journal.proofs.EntryBytes.{listed}
use Rattle.audit_journal.proofs.journal.slice_has_bytes.Goals as goal

pub returns : goal.returns
returns c = listed c.args.bytes.now (λ i. omega (arith, c.type_inv.bytes i))
