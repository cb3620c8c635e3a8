use Rattle.std.proofs.Common.{ap, sym, ◌∙◌, subst, refl, List, ℕ, true, get_or, []}
use Rattle.std.specs.Prelude.{IfSome, Some}
use Rattle.object_swap.specs.declared.record.Record.{Record}
use Rattle.object_swap.specs.Items.{Item}
use Rattle.object_swap.specs.Moves.{IsOut, filled}
use Rattle.object_swap.specs.Records.{IsContext, items_of}
use Rattle.device_port.proofs.Sending.{asks_ok}
use Rattle.object_swap.proofs.Recorded.{blob_is, can_load, handle_none, item_new, loaded_swap, out_item, out_kept, other_item, record_at, records_set, residency_set, was}
use Rattle.object_swap.proofs.items.take_slot.Goals as goal

pub load-requires-clause-kept : goal.load-requires-clause-kept
load-requires-clause-kept g c =
    let records = c.args.records.now in
    let index = c.args.index in
    let d = c.index-records-index.result in
    let r = get_or records index d in
    let old = record_at records index d c.requires.ready.sound c.requires.item.inside in
    let was = was records index d c.requires.item.inside in
    let none = handle_none records index r was c.requires.item.slot in
    subst (λ (bytes : List ℕ). IsContext g.D.Device.CONTEXTS bytes) (sym c.deref.ensures.value) (old.context (out_kept records index r was none c.requires.item.there))

pub load-requires-clause-told : goal.load-requires-clause-told
load-requires-clause-told g c =
    let records = c.args.records.now in
    let index = c.args.index in
    let d = c.index-records-index.result in
    let r = get_or records index d in
    let was = was records index d c.requires.item.inside in
    let none = handle_none records index r was c.requires.item.slot in
    let kept = out_kept records index r was none c.requires.item.there in
    subst (λ (bytes : List ℕ). IfSome (g.D.Device.seen c.args.device.now).state (λ slots. IsOut slots bytes)) (sym c.deref.ensures.value)
    (can_load _ (items_of records) [] index r.client r.blob.items c.requires.ready.stand was.inside (was.at ∙ out_item r true none kept) c.requires.room)

pub returns-clause-swaps : goal.returns-clause-swaps
returns-clause-swaps g c =
    let records = c.args.records.now in
    let index = c.args.index in
    let d = c.index-records-index.result in
    let r = get_or records index d in
    let n : Record = record { client = r.client; handle = Some c.in_ok-handle.handle; blob = r.blob; kept = r.kept } in
    let left = c.in_ok-handle.ensures in
    let old = record_at records index d c.requires.ready.sound c.requires.item.inside in
    let was = was records index d c.requires.item.inside in
    let none = handle_none records index r was c.requires.item.slot in
    let kept = out_kept records index r was none c.requires.item.there in
    record {
      keeps = loaded_swap _ _ records index c.in_ok-handle.handle r n was c.requires.ready none kept refl refl kept refl c.requires.room left.least
          (left.state ∙ ap (λ (bytes : List ℕ). filled bytes (g.D.Device.seen c.args.device.now).state) c.deref.ensures.value);
      sound = records_set records index n c.requires.ready.sound (record { handle = left.transient; room = old.room; context = old.context });
    }

pub returns-clause-ok : goal.returns-clause-ok
returns-clause-ok g c =
    let records = c.args.records.now in
    let index = c.args.index in
    let r = get_or records index c.index-records-index.result in
    let n : Record = record { client = r.client; handle = Some c.in_ok-handle.handle; blob = r.blob; kept = r.kept } in (
      residency_set records index n,
      (c.in_ok-handle.handle, c.in_ok-handle.ensures.last, ap (λ (item : Item). item.slot) (item_new records index n c.requires.item.inside)),
    )

pub returns-clause-others : goal.returns-clause-others
returns-clause-others g c other apart = other_item c.args.records.now c.args.index other _ apart

pub returns-clause-asks : goal.returns-clause-asks
returns-clause-asks g c =
    let records = c.args.records.now in
    let index = c.args.index in
    let d = c.index-records-index.result in
    let r = get_or records index d in
    let was = was records index d c.requires.item.inside in
    let kept = out_kept records index r was (handle_none records index r was c.requires.item.slot) c.requires.item.there in
    (c.deref.result.now, blob_is records index r c.deref.result.now was kept c.deref.ensures.value, asks_ok _ _ _ _ _ c.in_ok-handle.handle tt c.in_ok-handle.ensures.asks)
