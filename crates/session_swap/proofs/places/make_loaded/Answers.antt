use Rattle.std.proofs.Common.{◌≡◌, ◌<◌, ◌∙◌, ℕ, length, true, false, ap, refl, sym, arith}
use Rattle.std.specs.Prelude.{Err, Ok}
use Rattle.std.proofs.lemmas.Result.{err_from_is_err_and}
use Rattle.session_swap.specs.Items.{counter_of, is_loaded_item, is_saved_item, item_at, loaded_items}
use Rattle.session_swap.specs.Records.{items_of}
use Rattle.session_swap.proofs.Among.{named_is}
use Rattle.device_port.proofs.Sending.{asks_none, some_failed}
use Rattle.session_swap.proofs.Asking.{asks_loaded, sent_loaded}
use Rattle.session_swap.proofs.Bringing.{brings_idle, brings_none, brings_one}
use Rattle.session_swap.proofs.Listing.{listed_once, not_listed, unsaved_by}
use Rattle.session_swap.proofs.Readying.{ready_in, ready_still, ready_used}
use Rattle.session_swap.proofs.Making.{item_there, named_record, needed_saved, place_kept}
use Rattle.session_swap.proofs.places.make_loaded.Goals as goal

pub use_again-requires : goal.use_again-requires
use_again-requires g c =
    let records = c.args.records.now in
    let number = c.number_of-number.result in
    let fits : number < length records = omega (arith, named_record records c.args.handle c.requires.named, c.number_of-number.ensures) in
    let is : is_loaded_item (item_at (items_of records) number) ≡ true =
    ap is_loaded_item (item_there records number c.index-records-number.result fits) ∙ sym c.is_loaded.ensures ∙ c.if-is_loaded.true in
    listed_once is_loaded_item refl (items_of records) c.args.order.now.loaded number c.requires.ready.1.listed.lists is

pub move_in-requires : goal.move_in-requires
move_in-requires g c =
    let records = c.args.records.now in
    let number = c.number_of-number.result in
    let was = needed_saved records c.args.handle number c.index-records-number.result c.number_of-number.ensures c.requires.named
    (sym c.is_loaded.ensures ∙ c.if-is_loaded.false) in
    listed_once is_saved_item refl (items_of records) c.args.order.now.saved number c.requires.ready.1.listed.saved was

pub bring_in-requires-clause-ready : goal.bring_in-requires-clause-ready
bring_in-requires-clause-ready g c = (c.requires.ready.0, c.requires.ready.1.ready)

pub bring_in-requires-clause-place : goal.bring_in-requires-clause-place
bring_in-requires-clause-place g c =
    let records = c.args.records.now in
    let number = c.number_of-number.result in
    let fits : number < length records = omega (arith, named_record records c.args.handle c.requires.named, c.number_of-number.ensures) in
    let out : is_loaded_item (item_at (items_of records) number) ≡ false =
    ap is_loaded_item (item_there records number c.index-records-number.result fits) ∙ sym c.is_loaded.ensures ∙ c.if-is_loaded.false in
    let few : loaded_items (items_of records) < c.requires.ready.0.loaded =
    c.requires.ready.2 (ap is_loaded_item (named_is (items_of records) c.args.handle c.requires.named)
    ∙ ap (λ (n : ℕ). is_loaded_item (item_at (items_of records) n)) (sym c.number_of-number.ensures) ∙ out) in
    place_kept c.requires.ready.0 (g.D.Device.seen c.args.device.now).state records c.args.next c.requires.ready.1.ready few

pub bring_in-requires-clause-saved : goal.bring_in-requires-clause-saved
bring_in-requires-clause-saved g c =
    needed_saved c.args.records.now c.args.handle c.number_of-number.result c.index-records-number.result c.number_of-number.ensures
    c.requires.named (sym c.is_loaded.ensures ∙ c.if-is_loaded.false)

pub returns-then-is_loaded-clause-ready : goal.returns-then-is_loaded-clause-ready
returns-then-is_loaded-clause-ready g c numbers ready room =
    let records = c.args.records.now in
    let number = c.number_of-number.result in
    let fits : number < length records = omega (arith, named_record records c.args.handle c.requires.named, c.number_of-number.ensures) in
    let is : is_loaded_item (item_at (items_of records) number) ≡ true =
    ap is_loaded_item (item_there records number c.index-records-number.result fits) ∙ sym c.is_loaded.ensures ∙ c.if-is_loaded.true in
    ready_used (g.D.Device.seen c.args.device.now).state records c.args.next c.args.order.now c.use_again.new.self number ready is
    c.use_again.ensures

pub returns-then-is_loaded-clause-brings : goal.returns-then-is_loaded-clause-brings
returns-then-is_loaded-clause-brings g c =
    let records = c.args.records.now in
    let number = c.number_of-number.result in
    let fits : number < length records = omega (arith, named_record records c.args.handle c.requires.named, c.number_of-number.ensures) in
    let is : is_loaded_item (item_at (items_of records) number) ≡ true =
    ap is_loaded_item (item_there records number c.index-records-number.result fits) ∙ sym c.is_loaded.ensures ∙ c.if-is_loaded.true in
    brings_idle g.D.Device.seen c.args.device.now records c.args.order.now c.use_again.new.self number c.args.handle
    c.number_of-number.ensures c.requires.named is
    (not_listed is_saved_item refl (items_of records) c.args.order.now.saved number c.requires.ready.1.listed.saved
    (unsaved_by (item_at (items_of records) number) is)) c.use_again.ensures

pub returns-clause-ready : goal.returns-clause-ready
returns-clause-ready g c numbers ready room =
    let records = c.args.records.now in
    let number = c.number_of-number.result in
    let fits : number < length records = omega (arith, named_record records c.args.handle c.requires.named, c.number_of-number.ensures) in
    let out : is_loaded_item (item_at (items_of records) number) ≡ false =
    ap is_loaded_item (item_there records number c.index-records-number.result fits) ∙ sym c.is_loaded.ensures ∙ c.if-is_loaded.false in
    let few : loaded_items (items_of records) < numbers.loaded =
    room (ap is_loaded_item (named_is (items_of records) c.args.handle c.requires.named)
    ∙ ap (λ (n : ℕ). is_loaded_item (item_at (items_of records) n)) (sym c.number_of-number.ensures) ∙ out) in
    let loads = c.in_ok-bring_in.ensures.ok in
    let listed = ready.listed in
    ready_in (g.D.Device.seen c.args.device.now).state (g.D.Device.seen c.bring_in.new.device).state records c.bring_in.new.records c.args.next
    c.args.order.now c.move_in.new.self number ready (c.in_ok-bring_in.ensures.ready numbers ready.ready) c.in_ok-bring_in.ensures.swaps.rest
    (omega (arith, few, listed.lists.count)) fits loads.items_are loads.loaded_is c.move_in.ensures.order

pub returns-clause-brings : goal.returns-clause-brings
returns-clause-brings g c =
    let seen = g.D.Device.seen in
    let records = c.args.records.now in
    let number = c.number_of-number.result in
    let fits : number < length records = omega (arith, named_record records c.args.handle c.requires.named, c.number_of-number.ensures) in
    let out : is_loaded_item (item_at (items_of records) number) ≡ false =
    ap is_loaded_item (item_there records number c.index-records-number.result fits) ∙ sym c.is_loaded.ensures ∙ c.if-is_loaded.false in
    let loads = c.in_ok-bring_in.ensures.ok in
    brings_one seen c.args.device.now c.bring_in.new.device records c.bring_in.new.records c.args.order.now c.move_in.new.self
    number c.args.handle c.number_of-number.ensures fits c.requires.named out loads.loaded_is loads.items_are c.move_in.ensures.order
    (sent_loaded g.D.Device.CONTEXTS seen c.args.device.now c.bring_in.new.device (Ok tt) (item_at (items_of records) number) c.in_ok-bring_in.ensures.asks)

pub returns-then-is_loaded-clause-asks : goal.returns-then-is_loaded-clause-asks
returns-then-is_loaded-clause-asks g c = asks_none g.D.Device.CONTEXTS g.D.Device.seen c.args.device.now

pub returns-clause-asks : goal.returns-clause-asks
returns-clause-asks g c =
    asks_loaded g.D.Device.CONTEXTS g.D.Device.seen c.args.device.now c.bring_in.new.device (Ok tt) (item_at (items_of c.args.records.now) c.number_of-number.result)
    c.in_ok-bring_in.ensures.asks

pub returns-clause-counter : goal.returns-clause-counter
returns-clause-counter g c = c.in_ok-bring_in.ensures.ok.counted

pub returns-in_err-bring_in-clause-ready : goal.returns-in_err-bring_in-clause-ready
returns-in_err-bring_in-clause-ready g c numbers ready room =
    ready_still (g.D.Device.seen c.args.device.now).state (g.D.Device.seen c.bring_in.new.device).state c.args.records.now c.bring_in.new.records c.args.next
    c.args.next c.args.order.now c.args.order.now ready (c.in_err-bring_in.ensures.ready numbers ready.ready) c.in_err-bring_in.ensures.err refl

pub returns-in_err-bring_in-clause-counter : goal.returns-in_err-bring_in-clause-counter
returns-in_err-bring_in-clause-counter g c = ap counter_of c.in_err-bring_in.ensures.err.state_is

pub returns-in_err-bring_in-clause-brings : goal.returns-in_err-bring_in-clause-brings
returns-in_err-bring_in-clause-brings g c =
    let seen = g.D.Device.seen in
    let records = c.args.records.now in
    let number = c.number_of-number.result in
    let fits : number < length records = omega (arith, named_record records c.args.handle c.requires.named, c.number_of-number.ensures) in
    let out : is_loaded_item (item_at (items_of records) number) ≡ false =
    ap is_loaded_item (item_there records number c.index-records-number.result fits) ∙ sym c.is_loaded.ensures ∙ c.if-is_loaded.false in
    let failed = err_from_is_err_and c.from_residual.result c.from_residual.ensures.1 in
    brings_none seen c.args.device.now c.bring_in.new.device records c.bring_in.new.records c.args.order.now number
    c.args.handle c.from_residual.result _ failed.1
    c.number_of-number.ensures c.requires.named out c.in_err-bring_in.ensures.err.items_are
    (sent_loaded g.D.Device.CONTEXTS seen c.args.device.now c.bring_in.new.device (Err _) (item_at (items_of records) number) c.in_err-bring_in.ensures.asks)

pub returns-in_err-bring_in-clause-asks : goal.returns-in_err-bring_in-clause-asks
returns-in_err-bring_in-clause-asks g c =
    let seen = g.D.Device.seen in
    some_failed g.D.Device.CONTEXTS seen c.args.device.now c.bring_in.new.device _ c.from_residual.result (err_from_is_err_and c.from_residual.result c.from_residual.ensures.1)
    (asks_loaded g.D.Device.CONTEXTS seen c.args.device.now c.bring_in.new.device (Err _) (item_at (items_of c.args.records.now) c.number_of-number.result)
    c.in_err-bring_in.ensures.asks)
