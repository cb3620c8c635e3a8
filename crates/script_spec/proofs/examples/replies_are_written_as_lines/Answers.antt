use Rattle.std.proofs.Common.{refl}
use Rattle.std.specs.Fmt.{digits}
use Rattle.hex.proofs.OnLiterals.{hex_on_literals}
use Rattle.script_spec.proofs.examples.replies_are_written_as_lines.Goals as goal

pub returns : goal.returns
unfolding hex_on_literals digits
returns c = refl
