use Rattle.std.proofs.Common.{◌∙◌}
use Rattle.client_machine.proofs.Having.{objects_from}
use Rattle.client_machine.proofs.client_view.ClientViewHoldings.object_from.Goals as goal

pub returns : goal.returns
returns c = c.from.ensures ∙ objects_from c.args.least c.args.self.now.table.now.items c.args.self.now.short
