use Rattle.effect_spec.specs.Capabilities.{upwards}
use Rattle.fx_capability.proofs.Lists.{number_found, number_none, upwards_rise}
use Rattle.fx_capability.proofs.Indexes.{handles}
use Rattle.fx_capability.proofs.handles.NvIndexesListing.item_from.Goals as goal

pub returns-in-Some : goal.returns-in-Some
returns-in-Some c =
    let numbers = handles c.args.self.now.p.now.nv in
    rw (c.handle_item.ensures.bytes, c.handle_item.ensures.key)
    (number_found c.args.least (upwards numbers) c.in-Some.index (upwards_rise numbers) c.in-Some.ensures)

pub returns-in-None : goal.returns-in-None
returns-in-None c =
    let numbers = handles c.args.self.now.p.now.nv in
    number_none c.args.least (upwards numbers) (upwards_rise numbers) c.in-None.ensures
