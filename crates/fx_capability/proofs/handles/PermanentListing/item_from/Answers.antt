use Rattle.std.proofs.Common.{refl}
use Rattle.fx_capability.proofs.Lists.{number_found, number_none}
use Rattle.fx_capability.proofs.handles.PermanentListing.item_from.Goals as goal

pub returns-in-Some : goal.returns-in-Some
returns-in-Some c = rw (c.handle_item.ensures.bytes, c.handle_item.ensures.key) (number_found c.args.least _ _ refl c.in-Some.ensures)

pub returns-in-None : goal.returns-in-None
returns-in-None c = number_none c.args.least _ refl c.in-None.ensures
