use Rattle.std.proofs.Common.{ap, arith, refl}
use Rattle.linked_records.specs.Places.{is_taken}
use Rattle.linked_records.proofs.Changes.{item_within, place_read, value_is, written_holds, written_is, written_view}
use Rattle.linked_records.proofs.Seen.{held, sound}
use Rattle.linked_records.proofs.records.Records.get_mut.Goals as goal

pub index_mut-requires : goal.index_mut-requires
index_mut-requires g c =
    let ok = c.self.inside.arena.places.ok in
    omega (arith, ok, item_within _ _ _ _ (held _ _ _ _ c.self.view_is _ c.self.invariant) c.args.item c.requires)

pub value_mut-requires : goal.value_mut-requires
value_mut-requires g c =
    ap is_taken (place_read _ _ _ _ (held _ _ _ _ c.self.view_is _ c.self.invariant) c.args.item c.requires c.index_mut.result.now c.index_mut.ensures.value)

pub invariant_of-self-lent : goal.invariant_of-self-lent
invariant_of-self-lent g c w =
    sound (written_holds _ _ _ _ c.self.view_is _ c.self.invariant c.args.item c.requires c.index_mut.result.now c.index_mut.ensures.value w)

pub returns : goal.returns
returns g c = (
  (refl, λ w. written_view _ _ _ _ c.self.view_is _ c.self.invariant c.args.item c.requires c.index_mut.result.now c.index_mut.ensures.value w),
  record {
    writes_back = tt;
    value = λ at.
        value_is _ _ _ _ (held _ _ _ _ c.self.view_is _ c.self.invariant) c.args.item at c.index_mut.result.now c.index_mut.ensures.value
        c.value_mut.result.now c.value_mut.ensures.value;
    written = λ w at. written_is c.args.item w _ _ _ (held _ _ _ _ c.self.view_is _ c.self.invariant).threads at;
  },
)
