use Rattle.std.proofs.Common.{refl}
use Rattle.hex.proofs.OnLiterals.{hex_on_literals}
use Rattle.script_spec.specs.Script.{script_from}
use Rattle.script_spec.proofs.examples.lines_are_items.Goals as goal

pub returns-clause-items : goal.returns-clause-items
unfolding hex_on_literals script_from
returns-clause-items c = refl

pub returns-clause-ending : goal.returns-clause-ending
unfolding hex_on_literals script_from
returns-clause-ending c = refl

pub returns-clause-close : goal.returns-clause-close
unfolding hex_on_literals script_from
returns-clause-close c = refl
