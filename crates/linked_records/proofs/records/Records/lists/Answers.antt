use Rattle.std.proofs.Common.{arith}
use Rattle.linked_records.proofs.Changes.{item_within}
use Rattle.linked_records.proofs.Seen.{given_seen}
use Rattle.linked_records.proofs.Changes.{stand_once}
use Rattle.linked_records.proofs.Seen.{held}
use Rattle.linked_records.proofs.records.Records.lists.Goals as goal

pub returns-clause-once : goal.returns-clause-once
returns-clause-once g c = stand_once _ _ _ (held _ _ _ _ c.self.view_is _ c.self.invariant).threads

pub returns-clause-below : goal.returns-clause-below
returns-clause-below g c item at =
    let h = held _ _ _ _ c.self.view_is _ c.self.invariant in
    omega (arith, item_within _ _ _ _ h item at, given_seen _ _ _ _ c.self.view_is)

pub returns-clause-most : goal.returns-clause-most
returns-clause-most g c =
    let h = held _ _ _ _ c.self.view_is _ c.self.invariant in
    omega (arith, h.total, given_seen _ _ _ _ c.self.view_is)
