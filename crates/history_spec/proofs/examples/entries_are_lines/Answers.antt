use Rattle.std.proofs.Common.{refl}
use Rattle.std.specs.Fmt.{digits}
use Rattle.hex.proofs.OnLiterals.{hex_on_literals}
use Rattle.history_spec.specs.AuditText.{audit_line}
use Rattle.history_spec.proofs.examples.entries_are_lines.Goals as goal

pub returns-clause-opened : goal.returns-clause-opened
unfolding audit_line hex_on_literals digits
returns-clause-opened c = refl

pub returns-clause-command : goal.returns-clause-command
unfolding audit_line hex_on_literals digits
returns-clause-command c = refl

pub returns-clause-closed : goal.returns-clause-closed
unfolding audit_line hex_on_literals digits
returns-clause-closed c = refl

pub returns-clause-session : goal.returns-clause-session
unfolding audit_line hex_on_literals digits
returns-clause-session c = refl

pub returns-clause-sequence : goal.returns-clause-sequence
unfolding audit_line hex_on_literals digits
returns-clause-sequence c = refl

pub returns-clause-canceled : goal.returns-clause-canceled
unfolding audit_line hex_on_literals digits
returns-clause-canceled c = refl

pub returns-clause-largest : goal.returns-clause-largest
unfolding audit_line hex_on_literals digits
returns-clause-largest c = refl

pub returns-clause-fault : goal.returns-clause-fault
unfolding audit_line hex_on_literals digits
returns-clause-fault c = refl
