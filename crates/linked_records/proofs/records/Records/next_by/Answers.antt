use Rattle.std.proofs.Common.{ap}
use Rattle.linked_records.specs.declared.place.Links.{Links}
use Rattle.linked_records.proofs.Changes.{links_is}
use Rattle.linked_records.proofs.Holding.{item_taken}
use Rattle.linked_records.proofs.Seen.{held}
use Rattle.linked_records.proofs.records.Records.next_by.Goals as goal

pub links-requires : goal.links-requires
links-requires g c = item_taken _ _ _ _ (held _ _ _ _ c.self.view_is _ c.self.invariant) c.args.item c.requires

pub returns-clause-next : goal.returns-clause-next
returns-clause-next g c at =
    ap (λ (l : Links). l.next) (links_is _ _ _ _ (held _ _ _ _ c.self.view_is _ c.self.invariant) c.args.item at c.links.result c.links.ensures.links)
