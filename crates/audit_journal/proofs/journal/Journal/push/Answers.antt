use Rattle.audit_journal.proofs.Counting.{are_small}
use Rattle.audit_journal.proofs.journal.Journal.push.Goals as goal

pub with-self-inside-requires-clause-entries : goal.with-self-inside-requires-clause-entries
with-self-inside-requires-clause-entries c = (are_small c.self.invariant).entries

pub with-self-inside-requires-clause-commands : goal.with-self-inside-requires-clause-commands
with-self-inside-requires-clause-commands c = (are_small c.self.invariant).commands

pub with-self-inside-requires-clause-canceled : goal.with-self-inside-requires-clause-canceled
with-self-inside-requires-clause-canceled c = (are_small c.self.invariant).canceled

pub with-self-inside-requires-clause-faults : goal.with-self-inside-requires-clause-faults
with-self-inside-requires-clause-faults c = (are_small c.self.invariant).faults
