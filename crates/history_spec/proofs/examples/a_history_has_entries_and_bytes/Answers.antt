use Rattle.std.proofs.Common.{refl}
use Rattle.history_spec.proofs.examples.a_history_has_entries_and_bytes.Goals as goal

pub returns-clause-own : goal.returns-clause-own
returns-clause-own c = refl

pub returns-clause-kept : goal.returns-clause-kept
returns-clause-kept c = refl
