use Rattle.std.proofs.Common.{rules}
use Rattle.virtual_handles.proofs.table.item_under.Goals as goal

pub returns-in-Some : goal.returns-in-Some
returns-in-Some c = search rules
