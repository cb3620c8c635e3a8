use Rattle.std.proofs.Common.{◌≡◌, ◌==◌, ap, sym, ◌∙◌, subst, refl, arith, ℕ, true, false, get_or, set, []}
use Rattle.std.specs.Prelude.{Option, Ok, Err, IfSome, IsSomeAnd, is_some}
use Rattle.std.proofs.lemmas.Result.{err_from_is_err_and}
use Rattle.tab_spec.specs.declared.TheConstants.{HT_TRANSIENT}
use Rattle.tab_spec.specs.Shape.{octet_of}
use Rattle.device_port.specs.Device.{last_of}
use Rattle.device_port.proofs.Sending.{asks_none, asks_some, some_failed}
use Rattle.object_swap.specs.Moves.{IsLastContext}
use Rattle.object_swap.specs.declared.record.Record.{Record}
use Rattle.object_swap.specs.Items.{Item, unsaved}
use Rattle.object_swap.specs.Records.{items_of}
use Rattle.object_swap.proofs.Costs.{none_if_failed, on_err_all, sent_one, unsaved_fewer, unsaved_one}
use Rattle.object_swap.proofs.Recorded.{can_save, item_new, keeps_same, other_item, record_at, records_set, residency_kept, room_changed, saved_item, saved_swap, was}
use Rattle.object_swap.proofs.items.keep_context.Goals as goal

pub save-requires-clause-transient : goal.save-requires-clause-transient
save-requires-clause-transient g c =
    let old = record_at c.args.records.now c.args.index c.index-records-index.result c.requires.ready.sound c.requires.item.inside in
    subst (λ (handle : Option ℕ). IfSome handle (λ h. (octet_of h == HT_TRANSIENT) ≡ true)) c.in-Some.is old.handle

pub save-requires-clause-told : goal.save-requires-clause-told
save-requires-clause-told g c =
    let records = c.args.records.now in
    let index = c.args.index in
    let r = get_or records index c.index-records-index.result in
    let was = was records index c.index-records-index.result c.requires.item.inside in
    can_save _ (items_of records) [] index r.client c.in-Some.handle c.requires.ready.stand was.inside
    (was.at ∙ saved_item r c.in-Some.handle false c.in-Some.is c.if-record.false)
    c.requires.ready.below

pub returns-in_err-save-clause-swaps : goal.returns-in_err-save-clause-swaps
returns-in_err-save-clause-swaps g c =
    let records = c.args.records.now in
    let index = c.args.index in
    let d = c.index-records-index.result in
    let r = get_or records index d in
    let n : Record = record { client = r.client; handle = r.handle; blob = c.save.new.context; kept = r.kept } in
    let left = c.in_err-save.ensures in
    let old = record_at records index d c.requires.ready.sound c.requires.item.inside in
    record {
      keeps = keeps_same _ _ (items_of records) (items_of (set records index n)) [] c.requires.ready.stand left.asks.err
          (room_changed records index d n c.requires.item.inside refl refl c.if-record.false c.if-record.false);
      sound = records_set records index n c.requires.ready.sound
          (record { handle = old.handle; room = left.room; context = λ kept. absurd (let no = c.if-record.false in cc) });
    }

pub returns-in_err-save-clause-residency : goal.returns-in_err-save-clause-residency
returns-in_err-save-clause-residency g c = residency_kept c.args.records.now c.args.index c.index-records-index.result _ c.requires.item.inside refl

pub returns-clause-swaps : goal.returns-clause-swaps
returns-clause-swaps g c =
    let records = c.args.records.now in
    let index = c.args.index in
    let d = c.index-records-index.result in
    let r = get_or records index d in
    let n : Record = record { client = r.client; handle = r.handle; blob = c.save.new.context; kept = true } in
    let left = c.in_ok-save.ensures in
    let old = record_at records index d c.requires.ready.sound c.requires.item.inside in
    record {
      keeps = saved_swap _ _ records index c.in-Some.handle r n (was records index d c.requires.item.inside) c.requires.ready c.in-Some.is c.if-record.false
          refl c.in-Some.is refl
          left.state left.same;
      sound = records_set records index n c.requires.ready.sound (record { handle = old.handle; room = left.room; context = λ kept. left.kept.0 });
    }

pub returns-clause-residency : goal.returns-clause-residency
returns-clause-residency g c = residency_kept c.args.records.now c.args.index c.index-records-index.result _ c.requires.item.inside refl

pub returns-clause-kept : goal.returns-clause-kept
returns-clause-kept g c =
    let records = c.args.records.now in
    let index = c.args.index in
    let r = get_or records index c.index-records-index.result in
    let n : Record = record { client = r.client; handle = r.handle; blob = c.save.new.context; kept = true } in
    let is = item_new records index n c.requires.item.inside in
    let last = last_of (g.D.Device.seen c.save.new.device) in
    record {
      there = ap (λ (item : Item). is_some item.blob) is;
      made = λ none. subst (λ (item : Item). IsSomeAnd item.blob (λ context. IsLastContext last context)) (sym is) c.in_ok-save.ensures.kept.1;
    }

pub returns-in_err-save-clause-others : goal.returns-in_err-save-clause-others
returns-in_err-save-clause-others g c other apart = other_item c.args.records.now c.args.index other _ apart

pub returns-clause-others : goal.returns-clause-others
returns-clause-others g c other apart = other_item c.args.records.now c.args.index other _ apart

pub returns-in_err-save-clause-costs : goal.returns-in_err-save-clause-costs
returns-in_err-save-clause-costs g c =
    let records = c.args.records.now in
    let index = c.args.index in
    let r = get_or records index c.index-records-index.result in
    let n : Record = record { client = r.client; handle = r.handle; blob = c.save.new.context; kept = r.kept } in
    let same = room_changed records index c.index-records-index.result n c.requires.item.inside refl refl c.if-record.false c.if-record.false in
    record {
      sent = omega (
        arith,
        sent_one g.D.Device.seen c.args.device.now c.save.new.device _ _ c.in_err-save.ensures.asks,
        unsaved_one records index c.in-Some.handle c.index-records-index.result c.requires.item.inside c.in-Some.is c.if-record.false,
      );
      saved = omega (arith, ap unsaved same);
    }

pub returns-clause-costs : goal.returns-clause-costs
returns-clause-costs g c =
    let records = c.args.records.now in
    let index = c.args.index in
    let r = get_or records index c.index-records-index.result in
    let n : Record = record { client = r.client; handle = r.handle; blob = c.save.new.context; kept = true } in
    record {
      sent = omega (
        arith,
        sent_one g.D.Device.seen c.args.device.now c.save.new.device _ _ c.in_ok-save.ensures.asks,
        unsaved_one records index c.in-Some.handle c.index-records-index.result c.requires.item.inside c.in-Some.is c.if-record.false,
      );
      saved = omega (
        arith,
        unsaved_fewer records index c.in-Some.handle c.index-records-index.result n c.requires.item.inside c.in-Some.is c.if-record.false c.in-Some.is refl,
      );
    }

pub returns-in_err-save-clause-spends : goal.returns-in_err-save-clause-spends
returns-in_err-save-clause-spends g c =
    let records = c.args.records.now in
    let index = c.args.index in
    let r = get_or records index c.index-records-index.result in
    let n : Record = record { client = r.client; handle = r.handle; blob = c.save.new.context; kept = r.kept } in
    let same = room_changed records index c.index-records-index.result n c.requires.item.inside refl refl c.if-record.false c.if-record.false in
    let failed = err_from_is_err_and c.from_residual.result c.from_residual.ensures.1 in (
      none_if_failed _ c.from_residual.result _ failed.1,
      on_err_all _ c.from_residual.result
          (omega (arith, sent_one g.D.Device.seen c.args.device.now c.save.new.device _ _ c.in_err-save.ensures.asks, ap unsaved same)),
    )

pub returns-clause-spends : goal.returns-clause-spends
returns-clause-spends g c =
    let records = c.args.records.now in
    let index = c.args.index in
    let r = get_or records index c.index-records-index.result in
    let n : Record = record { client = r.client; handle = r.handle; blob = c.save.new.context; kept = true } in (
      omega (
        arith,
        sent_one g.D.Device.seen c.args.device.now c.save.new.device _ _ c.in_ok-save.ensures.asks,
        unsaved_fewer records index c.in-Some.handle c.index-records-index.result n c.requires.item.inside c.in-Some.is c.if-record.false c.in-Some.is refl,
      ),
      tt,
    )

pub returns-then-record-clause-asks : goal.returns-then-record-clause-asks
returns-then-record-clause-asks g c = asks_none g.D.Device.CONTEXTS g.D.Device.seen c.args.device.now

pub returns-in_err-save-clause-asks : goal.returns-in_err-save-clause-asks
returns-in_err-save-clause-asks g c =
    let seen = g.D.Device.seen in
    some_failed g.D.Device.CONTEXTS seen _ _ _ c.from_residual.result (err_from_is_err_and c.from_residual.result c.from_residual.ensures.1)
    (asks_some g.D.Device.CONTEXTS seen _ _ _ (Err _) c.in_err-save.ensures.asks)

pub returns-clause-asks : goal.returns-clause-asks
returns-clause-asks g c = asks_some g.D.Device.CONTEXTS g.D.Device.seen _ _ _ (Ok tt) c.in_ok-save.ensures.asks
