use Rattle.std.proofs.Common.{◌≡◌, ◌<◌, ℕ, true, length, get_or, ap, sym, arith, ◌∙◌}
use borrow.Author.Count.{below_more}
use Rattle.std.proofs.lemmas.List.{length-map}
use Rattle.std.proofs.lemmas.Option.{get_or_from_slice_get}
use Rattle.session_swap.specs.Records.{item_of_record, items_of}
use Rattle.session_swap.specs.Moves.{handle_at}
use Rattle.device_port.specs.Use.{is_among}
use Rattle.session_swap.proofs.Among.{loaded_inside}
use Rattle.session_swap.proofs.Listing.{listed_there}
use Rattle.session_swap.proofs.Making.{handle_read}
use Rattle.session_swap.proofs.places.unneeded.Goals as goal

pub bounds-records-number : goal.bounds-records-number
bounds-records-number c =
    let records = c.args.records.now in
    let there = listed_there (items_of records) c.args.order.now.loaded c.loop.counter c.in_ok-number.number c.requires.listed
    (sym c.loop.invariant.here ∙ c.in_ok-number.was) in
    omega (arith, loaded_inside (items_of records) c.in_ok-number.number there, length-map records item_of_record)

pub offset_bounds-records-number : goal.offset_bounds-records-number
offset_bounds-records-number c =
    let inside = bounds-records-number c in
    omega (arith, inside, c.requires.sound.1.count)

pub returns-then-not-is_needed : goal.returns-then-not-is_needed
returns-then-not-is_needed c =
    let records = c.args.records.now in
    let number = c.in_ok-number.number in
    let is = sym c.loop.invariant.here ∙ c.in_ok-number.was in
    let there = listed_there (items_of records) c.args.order.now.loaded c.loop.counter number c.requires.listed is in
    let inside : number < length records = omega (arith, loaded_inside (items_of records) number there, length-map records item_of_record) in
    let handle = handle_read records number c.index-records-number.result inside c.index-records-number.is there in
    (c.loop.counter, is, ap (is_among c.args.needed.now) handle ∙ sym c.is_needed.ensures ∙ c.if-not-is_needed.true, c.loop.invariant.before)

pub loop-preserved : goal.loop-preserved
loop-preserved c =
    let records = c.args.records.now in
    let number = c.in_ok-number.number in
    let is = sym c.loop.invariant.here ∙ c.in_ok-number.was in
    let there = listed_there (items_of records) c.args.order.now.loaded c.loop.counter number c.requires.listed is in
    let inside : number < length records = omega (arith, loaded_inside (items_of records) number there, length-map records item_of_record) in
    let handle = handle_read records number c.index-records-number.result inside c.index-records-number.is there in
    let items = items_of records in
    let among : is_among c.args.needed.now (handle_at items number) ≡ true =
    ap (is_among c.args.needed.now) handle ∙ sym c.is_needed.ensures ∙ c.if-not-is_needed.false in
    let here = get_or_from_slice_get c.args.order.now.loaded c.loop.counter number 0 is in
    record {
      here = c.next_loaded-here.ensures c.loop.counter is;
      before = below_more (λ k. is_among c.args.needed.now (handle_at items (get_or c.args.order.now.loaded k 0)) ≡ true) c.loop.counter
          c.loop.invariant.before (ap (λ (n : ℕ). is_among c.args.needed.now (handle_at items n)) here ∙ among);
    }
