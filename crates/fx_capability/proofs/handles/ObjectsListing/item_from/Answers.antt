use Rattle.fx_capability.proofs.Lists.{number_found, number_none}
use Rattle.fx_capability.proofs.handles.ObjectsListing.item_from.Goals as goal

pub returns-in-Some : goal.returns-in-Some
returns-in-Some g c =
    let held = c.args.self.now.held.now in
    rw (c.handle_item.ensures.bytes, c.handle_item.ensures.key)
    (number_found c.args.least (g.H.Holdings.objects held) c.in-Some.handle (g.met.H.Holdings.objects_rise held) c.in-Some.ensures)

pub returns-in-None : goal.returns-in-None
returns-in-None g c =
    let held = c.args.self.now.held.now in
    number_none c.args.least (g.H.Holdings.objects held) (g.met.H.Holdings.objects_rise held) c.in-None.ensures
