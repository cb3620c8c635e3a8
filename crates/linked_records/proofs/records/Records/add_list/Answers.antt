use Rattle.linked_records.proofs.Changes.{holds_added, spare_added}
use Rattle.linked_records.proofs.Seen.{given_seen, held, lists_seen, sound}
use Rattle.linked_records.proofs.records.Records.add_list.Goals as goal

pub invariant_of-self-2 : goal.invariant_of-self-2
invariant_of-self-2 g c =
    sound (holds_added _ _ _ _ (held _ _ _ _ c.self.view_is _ c.self.invariant) _ _ c.reserve.ensures.items c.push_reserved.ensures.items)

pub returns-clause-ok : goal.returns-clause-ok
returns-clause-ok g c =
    lists_seen (holds_added _ _ _ _ (held _ _ _ _ c.self.view_is _ c.self.invariant) _ _ c.reserve.ensures.items c.push_reserved.ensures.items)

pub returns-clause-spare : goal.returns-clause-spare
returns-clause-spare g c = (
  spare_added _ _ _ _ c.self.view_is _ c.self.invariant _
      (holds_added _ _ _ _ (held _ _ _ _ c.self.view_is _ c.self.invariant) _ _ c.reserve.ensures.items c.push_reserved.ensures.items),
  given_seen _ _ _ _ c.self.view_is,
)
