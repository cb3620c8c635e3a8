use Rattle.std.proofs.Common.{◌∙◌}
use Rattle.client_machine.proofs.Having.{objects_counted_had}
use Rattle.client_machine.proofs.client_view.ClientViewHoldings.object_count.Goals as goal

pub returns : goal.returns
returns c = c.len.ensures.count ∙ objects_counted_had c.args.self.now.table.now.items c.args.self.now.short
