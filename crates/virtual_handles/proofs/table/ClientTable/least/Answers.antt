use Rattle.std.proofs.Common.{rules}
use Rattle.virtual_handles.proofs.table.ClientTable.least.Goals as goal

pub returns : goal.returns
returns c = search rules
