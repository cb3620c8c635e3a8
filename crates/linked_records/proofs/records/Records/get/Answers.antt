use Rattle.std.proofs.Common.{ap, arith}
use Rattle.linked_records.specs.Places.{is_taken}
use Rattle.linked_records.proofs.Changes.{item_within, place_read, value_is}
use Rattle.linked_records.proofs.Seen.{held}
use Rattle.linked_records.proofs.records.Records.get.Goals as goal

pub index-requires : goal.index-requires
index-requires g c =
    let ok = c.self.inside.arena.places.ok in
    omega (arith, ok, item_within _ _ _ _ (held _ _ _ _ c.self.view_is _ c.self.invariant) c.args.item c.requires)

pub value-requires : goal.value-requires
value-requires g c = ap is_taken
    (place_read _ _ _ _ (held _ _ _ _ c.self.view_is _ c.self.invariant) c.args.item c.requires c.index.result.now c.index.ensures)

pub returns : goal.returns
returns g c at = value_is _ _ _ _ (held _ _ _ _ c.self.view_is _ c.self.invariant) c.args.item at c.index.result.now c.index.ensures c.value.result.now
    c.value.ensures
