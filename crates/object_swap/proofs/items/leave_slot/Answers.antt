use Rattle.std.proofs.Common.{◌≡◌, ◌==◌, subst, refl, ℕ, true, get_or, []}
use Rattle.std.specs.Prelude.{Option, IfSome, None}
use Rattle.tab_spec.specs.declared.TheConstants.{HT_TRANSIENT}
use Rattle.tab_spec.specs.Shape.{octet_of}
use Rattle.object_swap.specs.declared.record.Record.{Record}
use Rattle.object_swap.specs.Records.{items_of}
use Rattle.object_swap.proofs.Costs.{unsaved_same}
use Rattle.object_swap.proofs.Recorded.{can_flush, flushed_swap, kept_is, other_item, record_at, records_set, residency_set, slot_is, was}
use Rattle.object_swap.proofs.items.leave_slot.Goals as goal

pub flush-requires-clause-transient : goal.flush-requires-clause-transient
flush-requires-clause-transient g c =
    let old = record_at c.args.records.now c.args.index c.index-records-index.result c.requires.ready.sound c.requires.item.0.inside in
    subst (λ (handle : Option ℕ). IfSome handle (λ h. (octet_of h == HT_TRANSIENT) ≡ true)) c.in-Some.is old.handle

pub flush-requires-clause-told : goal.flush-requires-clause-told
flush-requires-clause-told g c =
    let records = c.args.records.now in
    let index = c.args.index in
    let r = get_or records index c.index-records-index.result in
    let was = was records index c.index-records-index.result c.requires.item.0.inside in
    can_flush _ (items_of records) [] index c.in-Some.handle c.requires.ready.stand was.inside (slot_is records index c.in-Some.handle r was c.in-Some.is)

pub returns-clause-swaps : goal.returns-clause-swaps
returns-clause-swaps g c =
    let records = c.args.records.now in
    let index = c.args.index in
    let d = c.index-records-index.result in
    let r = get_or records index d in
    let n : Record = record { client = r.client; handle = None; blob = r.blob; kept = r.kept } in
    let left = c.in_ok-flush.ensures in
    let old = record_at records index d c.requires.ready.sound c.requires.item.0.inside in
    let was = was records index d c.requires.item.0.inside in
    let kept = kept_is records index r was c.requires.item.1 in
    record {
      keeps = flushed_swap _ _ records index c.in-Some.handle r n was c.requires.ready c.in-Some.is kept refl refl kept refl left.state;
      sound = records_set records index n c.requires.ready.sound (record { handle = tt; room = old.room; context = old.context });
    }

pub returns-clause-ok : goal.returns-clause-ok
returns-clause-ok g c = residency_set c.args.records.now c.args.index _

pub returns-clause-others : goal.returns-clause-others
returns-clause-others g c =
    let records = c.args.records.now in
    let index = c.args.index in
    let d = c.index-records-index.result in
    let r = get_or records index d in
    let n : Record = record { client = r.client; handle = None; blob = r.blob; kept = r.kept } in
    let kept = kept_is records index r (was records index d c.requires.item.0.inside) c.requires.item.1 in
    ((λ other apart. other_item records index other n apart), unsaved_same records index c.in-Some.handle d n c.requires.item.0.inside c.in-Some.is kept refl)
