use Rattle.std.proofs.Common.{refl, get_or, set}
use Rattle.std.proofs.lemmas.Result.{err_from_is_err_and}
use Rattle.device_port.specs.Device.{asked_of}
use Rattle.session_swap.specs.declared.record.Place.TheVariants as places
use Rattle.session_swap.specs.declared.record.Record.{Record}
use Rattle.device_spec.specs.ContextCommands.{context_save_command}
use Rattle.session_swap.specs.Items.{item_at}
use Rattle.session_swap.specs.Moves.{NothingMoves}
use Rattle.session_swap.specs.Records.{handed_of, items_of, view_of}
use Rattle.session_swap.proofs.Moved.{IsLike, items_loaded, keeps_by, keeps_reply, keeps_same, last_context, loaded_at, next_is, place_freed, records_loaded, records_set, replies_of, items_set, saved_keeps, saves, sent_out, swaps_from, unsaved_item}
use Rattle.device_port.proofs.Sending.{asks_failed, asks_ok}
use Rattle.session_swap.proofs.Asking.{asks_at, on_err_whole}
use Rattle.session_swap.proofs.items.put_out.Goals as goal

pub returns-in_err-context-clause-swaps : goal.returns-in_err-context-clause-swaps
returns-in_err-context-clause-swaps g c =
    let records = c.args.records.now in
    let numbers = c.requires.ready.0 in
    let others = c.requires.ready.1 in
    let ready = c.requires.ready.2 in
    let r = get_or records c.args.number c.index-records-number.result in
    let n : Record = record r { context = c.save.new.context } in
    let like : IsLike n r = record { client = refl; handle = refl; place = refl; handed = refl } in
    let at = loaded_at records c.args.number c.index-records-number.result ready.sound c.requires.loaded in
    let left = c.in_err-context.ensures in
    swaps_from g.D.Device.seen c.args.device.now c.save.new.device records
    (set records c.args.number n) c.args.next.now others
    (keeps_same numbers _ _ (items_of records) (items_of (set records c.args.number n)) c.args.next.now others ready.stand left.asks.err
    (items_loaded records c.args.number n r at like))
    left.asks.base left.asks.count

pub returns-in_err-context-clause-ready : goal.returns-in_err-context-clause-ready
returns-in_err-context-clause-ready g c numbers others ready =
    let records = c.args.records.now in
    let r = get_or records c.args.number c.index-records-number.result in
    let n : Record = record r { context = c.save.new.context } in
    let like : IsLike n r = record { client = refl; handle = refl; place = refl; handed = refl } in
    let at = loaded_at records c.args.number c.index-records-number.result ready.sound c.requires.loaded in
    let left = c.in_err-context.ensures in
    record {
      sound = records_loaded records c.args.number n r ready.sound at like left.room at.sound.handed_room;
      stand = (keeps_same numbers _ _ (items_of records) (items_of (set records c.args.number n)) c.args.next.now others ready.stand left.asks.err
          (items_loaded records c.args.number n r at like)).stand;
    }

pub returns-in_err-context-clause-err : goal.returns-in_err-context-clause-err
returns-in_err-context-clause-err g c =
    let records = c.args.records.now in
    let r = get_or records c.args.number c.index-records-number.result in
    let n : Record = record r { context = c.save.new.context } in
    let like : IsLike n r = record { client = refl; handle = refl; place = refl; handed = refl } in
    let at = loaded_at records c.args.number c.index-records-number.result c.requires.ready.2.sound c.requires.loaded in
    let left = c.in_err-context.ensures in
    let stays : NothingMoves (g.D.Device.seen c.args.device.now).state (g.D.Device.seen c.save.new.device).state (items_of records)
    (items_of (set records c.args.number n)) =
    record { items_are = items_loaded records c.args.number n r at like; state_is = left.asks.err } in
    on_err_whole c.from_residual.result _ (stays, refl)

pub returns-clause-swaps : goal.returns-clause-swaps
returns-clause-swaps g c =
    let records = c.args.records.now in
    let next = c.args.next.now in
    let numbers = c.requires.ready.0 in
    let others = c.requires.ready.1 in
    let ready = c.requires.ready.2 in
    let number = c.in_ok-context.context in
    let r = get_or records c.args.number c.index-records-number.result in
    let n : Record = record r { place = places.Saved number; context = c.save.new.context } in
    let at = loaded_at records c.args.number c.index-records-number.result ready.sound c.requires.loaded in
    let left = c.in_ok-context.ensures in
    swaps_from g.D.Device.seen c.args.device.now c.save.new.device records
    (set records c.args.number n) c.saturating_add.result others
    (keeps_by numbers _ _ _ (items_of records) _ (items_of (set records c.args.number n)) c.saturating_add.result others left.saved.state
    (items_set records c.args.number n _ refl)
    (saved_keeps _ (view_of numbers records next) others c.args.number r.client (handed_of r) r.handle number c.saturating_add.result
    c.save.new.context.items ready.stand at.was at.handle.number_is c.requires.may left.saved.counted left.saved.same
    (next_is _ number c.saturating_add.result c.requires.may left.saved.counted c.saturating_add.ensures)))
    left.asks.base left.asks.count

pub returns-clause-ready : goal.returns-clause-ready
returns-clause-ready g c numbers others ready =
    let records = c.args.records.now in
    let next = c.args.next.now in
    let number = c.in_ok-context.context in
    let r = get_or records c.args.number c.index-records-number.result in
    let n : Record = record r { place = places.Saved number; context = c.save.new.context } in
    let at = loaded_at records c.args.number c.index-records-number.result ready.sound c.requires.loaded in
    let left = c.in_ok-context.ensures in
    record {
      sound = records_set records c.args.number n at.inside ready.sound
          (record { room = left.room; handed_room = at.sound.handed_room; context = left.saved.kept })
          (record { session = at.handle.session; number_is = at.handle.number_is });
      stand = (keeps_by numbers _ _ _ (items_of records) _ (items_of (set records c.args.number n)) c.saturating_add.result others left.saved.state
          (items_set records c.args.number n _ refl)
          (saved_keeps _ (view_of numbers records next) others c.args.number r.client (handed_of r) r.handle number c.saturating_add.result
          c.save.new.context.items ready.stand at.was at.handle.number_is c.requires.may left.saved.counted left.saved.same
          (next_is _ number c.saturating_add.result c.requires.may left.saved.counted c.saturating_add.ensures))).stand;
    }

pub returns-in_err-context-clause-asks : goal.returns-in_err-context-clause-asks
returns-in_err-context-clause-asks g c =
    let records = c.args.records.now in
    let r = get_or records c.args.number c.index-records-number.result in
    let at = loaded_at records c.args.number c.index-records-number.result c.requires.ready.2.sound c.requires.loaded in
    asks_at g.D.Device.CONTEXTS g.D.Device.seen c.args.device.now c.save.new.device _ (item_at (items_of records) c.args.number)
    (unsaved_item r.client (handed_of r) r.handle) (λ item. context_save_command item.handle) at.was
    (asks_failed g.D.Device.CONTEXTS g.D.Device.seen c.args.device.now c.save.new.device (context_save_command r.handle) _ c.from_residual.result
    (err_from_is_err_and c.from_residual.result c.from_residual.ensures.1) c.in_err-context.ensures.asks)

pub returns-clause-ok : goal.returns-clause-ok
returns-clause-ok g c =
    let records = c.args.records.now in
    let numbers = c.requires.ready.0 in
    let view = view_of numbers records c.args.next.now in
    let number = c.in_ok-context.context in
    let others = c.requires.ready.1 in
    let ready = c.requires.ready.2 in
    let r = get_or records c.args.number c.index-records-number.result in
    let n : Record = record r { place = places.Saved number; context = c.save.new.context } in
    let at = loaded_at records c.args.number c.index-records-number.result ready.sound c.requires.loaded in
    let left = c.in_ok-context.ensures in
    let saved = left.saved in
    record {
      saves = saves _ _ records c.args.number number n at.inside refl saved.counted saved.state
          (place_freed _ view others c.args.number r.client (handed_of r) r.handle ready.stand at.was);
      sent = sent_out _ _ records c.args.number number n at.inside refl left.asks.asked
          (last_context _ c.save.new.scratch _ saved.last saved.bytes);
      reply_is = keeps_reply (asked_of (g.D.Device.seen c.save.new.device)) _ c.save.new.scratch records c.args.number number
          c.saturating_add.result n r at refl left.asks.answered saved.last saved.bytes saved.begins c.saturating_add.ensures;
      told = replies_of _ view c.args.number r.client (handed_of r) r.handle c.save.new.scratch others ready.stand at.was
          saved.success saved.told;
    }

pub returns-clause-asks : goal.returns-clause-asks
returns-clause-asks g c =
    let records = c.args.records.now in
    let r = get_or records c.args.number c.index-records-number.result in
    let at = loaded_at records c.args.number c.index-records-number.result c.requires.ready.2.sound c.requires.loaded in
    asks_at g.D.Device.CONTEXTS g.D.Device.seen c.args.device.now c.save.new.device _ (item_at (items_of records) c.args.number)
    (unsaved_item r.client (handed_of r) r.handle) (λ item. context_save_command item.handle) at.was
    (asks_ok g.D.Device.CONTEXTS g.D.Device.seen c.args.device.now c.save.new.device (context_save_command r.handle) _ _ c.in_ok-context.ensures.asks)
