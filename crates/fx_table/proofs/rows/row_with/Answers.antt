use Rattle.std.proofs.Common.{refl}
use Rattle.fx_table.proofs.ResponseLemmas.{silent_row}
use Rattle.fx_table.proofs.rows.row_with.Goals as goal

pub returns-in-298-clause-row : goal.returns-in-298-clause-row
returns-in-298-clause-row c = rw c.in-298.is (silent_row _ _ _ _ _ _ c.nv_define.ensures refl)

pub returns-in-311-clause-row : goal.returns-in-311-clause-row
returns-in-311-clause-row c = rw c.in-311.is (silent_row _ _ _ _ _ _ c.nv_write.ensures refl)

pub returns-in-308-clause-row : goal.returns-in-308-clause-row
returns-in-308-clause-row c = rw c.in-308.is (silent_row _ _ _ _ _ _ c.nv_increment.ensures refl)
