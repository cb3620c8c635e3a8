use Rattle.std.proofs.Common.{refl}
use Rattle.tab_wire.proofs.examples.the_table_keeps_its_rule.Goals as goal

pub returns-clause-rows : goal.returns-clause-rows
returns-clause-rows c = refl

pub returns-clause-codes : goal.returns-clause-codes
returns-clause-codes c = refl
