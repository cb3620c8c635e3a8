use Rattle.std.proofs.Common.{ℕ, List, refl, ap, sym, ◌∙◌, subst, get_or, set, []}
use Rattle.std.specs.Prelude.{IfSome}
use Rattle.tab_spec.specs.Values.{AreBytes}
use Rattle.std.proofs.lemmas.Result.{err_from_is_err_and}
use Rattle.session_swap.specs.declared.record.Place.TheVariants as places
use Rattle.session_swap.specs.declared.record.Record.{Record}
use Rattle.session_swap.specs.Items.{item_at}
use Rattle.session_swap.specs.Moves.{IsOut, brought_in}
use Rattle.session_swap.specs.Records.{handed_of, items_of, view_of}
use Rattle.session_swap.proofs.Moved.{can_load, items_set, keeps_by, loaded_keeps, loads, records_set, saved_at, swaps_from}
use Rattle.device_port.proofs.Sending.{asks_failed, asks_ok}
use Rattle.session_swap.proofs.Asking.{asks_in}
use Rattle.session_swap.proofs.items.bring_in.Goals as goal

pub load-requires-clause-told : goal.load-requires-clause-told
load-requires-clause-told g c =
    let records = c.args.records.now in
    let r = get_or records c.args.number c.index-records-number.result in
    let at = saved_at records c.args.number c.index-records-number.result c.requires.ready.1.sound c.requires.saved in
    subst (λ (bytes : List ℕ). IfSome (g.D.Device.seen c.args.device.now).state (λ slots. IsOut slots r.handle bytes))
    (sym (c.bytes_of.ensures.same ∙ c.deref.ensures.value))
    (can_load _ (view_of c.requires.ready.0 records c.args.next) [] c.args.number r.client (handed_of r) r.handle at.number r.context.items c.requires.ready.1.stand
    at.was c.requires.place)

pub returns-clause-swaps : goal.returns-clause-swaps
returns-clause-swaps g c =
    let records = c.args.records.now in
    let next = c.args.next in
    let r = get_or records c.args.number c.index-records-number.result in
    let n : Record = record r { place = places.Loaded } in
    let at = saved_at records c.args.number c.index-records-number.result c.requires.ready.1.sound c.requires.saved in
    let left = c.in_ok-load.ensures in
    let same = c.bytes_of.ensures.same ∙ c.deref.ensures.value in
    swaps_from g.D.Device.seen c.args.device.now c.load.new.device records
    (set records c.args.number n) next []
    (keeps_by c.requires.ready.0 _ _ _ (items_of records) _ (items_of (set records c.args.number n)) next []
    (left.state ∙ ap (λ (bytes : List ℕ). brought_in r.handle bytes (g.D.Device.seen c.args.device.now).state) same)
    (items_set records c.args.number n _ refl)
    (loaded_keeps _ (view_of c.requires.ready.0 records next) [] c.args.number r.client (handed_of r) r.handle at.number r.context.items c.requires.ready.1.stand
    at.was at.handle.number_is c.requires.place
    (subst (λ (bytes : List ℕ). AreBytes bytes) same c.bytes_of.ensures.bytes)))
    left.asks.base left.asks.count

pub returns-clause-ready : goal.returns-clause-ready
returns-clause-ready g c numbers ready =
    let records = c.args.records.now in
    let next = c.args.next in
    let r = get_or records c.args.number c.index-records-number.result in
    let n : Record = record r { place = places.Loaded } in
    let at = saved_at records c.args.number c.index-records-number.result ready.sound c.requires.saved in
    let left = c.in_ok-load.ensures in
    let same = c.bytes_of.ensures.same ∙ c.deref.ensures.value in
    record {
      sound = records_set records c.args.number n at.inside ready.sound
          (record { room = at.sound.room; handed_room = at.sound.handed_room; context = tt })
          (record { session = at.handle.session; number_is = at.handle.number_is });
      stand = (keeps_by numbers _ _ _ (items_of records) _ (items_of (set records c.args.number n)) next []
          (left.state ∙ ap (λ (bytes : List ℕ). brought_in r.handle bytes (g.D.Device.seen c.args.device.now).state) same)
          (items_set records c.args.number n _ refl)
          (loaded_keeps _ (view_of numbers records next) [] c.args.number r.client (handed_of r) r.handle at.number r.context.items ready.stand
          at.was at.handle.number_is c.requires.place
          (subst (λ (bytes : List ℕ). AreBytes bytes) same c.bytes_of.ensures.bytes))).stand;
    }

pub returns-clause-ok : goal.returns-clause-ok
returns-clause-ok g c =
    let records = c.args.records.now in
    let r = get_or records c.args.number c.index-records-number.result in
    let n : Record = record r { place = places.Loaded } in
    let at = saved_at records c.args.number c.index-records-number.result c.requires.ready.1.sound c.requires.saved in
    loads _ _ records c.args.number n _ at.inside refl c.in_ok-load.ensures.state

pub returns-in_err-load-clause-asks : goal.returns-in_err-load-clause-asks
returns-in_err-load-clause-asks g c =
    let records = c.args.records.now in
    let r = get_or records c.args.number c.index-records-number.result in
    let at = saved_at records c.args.number c.index-records-number.result c.requires.ready.1.sound c.requires.saved in
    asks_in g.D.Device.CONTEXTS g.D.Device.seen c.args.device.now c.load.new.device _ (item_at (items_of records) c.args.number)
    r.client (handed_of r) r.handle at.number r.context.items _ at.was (c.bytes_of.ensures.same ∙ c.deref.ensures.value)
    (asks_failed g.D.Device.CONTEXTS g.D.Device.seen c.args.device.now c.load.new.device _ _ c.from_residual.result
    (err_from_is_err_and c.from_residual.result c.from_residual.ensures.1) c.in_err-load.ensures.asks)

pub returns-clause-asks : goal.returns-clause-asks
returns-clause-asks g c =
    let records = c.args.records.now in
    let r = get_or records c.args.number c.index-records-number.result in
    let at = saved_at records c.args.number c.index-records-number.result c.requires.ready.1.sound c.requires.saved in
    asks_in g.D.Device.CONTEXTS g.D.Device.seen c.args.device.now c.load.new.device _ (item_at (items_of records) c.args.number)
    r.client (handed_of r) r.handle at.number r.context.items _ at.was (c.bytes_of.ensures.same ∙ c.deref.ensures.value)
    (asks_ok g.D.Device.CONTEXTS g.D.Device.seen c.args.device.now c.load.new.device _ _ _ c.in_ok-load.ensures.asks)
