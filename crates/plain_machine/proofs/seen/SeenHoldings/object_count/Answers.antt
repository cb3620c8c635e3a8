use Rattle.std.proofs.Common.{◌∙◌}
use Rattle.tab_spec.specs.declared.TheConstants.{TRANSIENT_FIRST}
use Rattle.fx_capability.proofs.Objects.{objects_counted}
use Rattle.plain_machine.specs.Views.{objects_of}
use Rattle.plain_machine.proofs.seen.SeenHoldings.object_count.Goals as goal

pub returns : goal.returns
returns c = c.held_count.ensures.count ∙ objects_counted TRANSIENT_FIRST (objects_of c.args.self.now.places.now)
