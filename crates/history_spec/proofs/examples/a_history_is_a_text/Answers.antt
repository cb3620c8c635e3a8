use Rattle.std.proofs.Common.{refl}
use Rattle.std.specs.Fmt.{digits}
use Rattle.hex.proofs.OnLiterals.{hex_on_literals}
use Rattle.history_spec.specs.AuditText.{audit_line}
use Rattle.history_spec.proofs.examples.a_history_is_a_text.Goals as goal

pub returns-clause-three : goal.returns-clause-three
unfolding audit_line hex_on_literals digits
returns-clause-three c = refl
