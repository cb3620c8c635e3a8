use Rattle.std.proofs.Common.{◌≡◌, ◌∙◌, false, ap, sym, arith}
use borrow.Author.Count.{below_more}
use Rattle.session_swap.specs.Items.{is_owned, item_at}
use Rattle.session_swap.specs.Records.{items_of}
use Rattle.session_swap.proofs.Making.{read_there}
use Rattle.session_swap.proofs.Orphans.{none_found, owned_found, owned_number}
use Rattle.session_swap.proofs.kept.find_owned.Goals as goal

pub returns-then-is_of : goal.returns-then-is_of
returns-then-is_of c =
    let records = c.args.records.now in
    let number = c.loop-record.record-index in
    let owned = sym c.is_of.ensures ∙ c.if-is_of.true in
    let found = owned_found records number c.args.client c.record-item.result c.requires.1 (omega arith) c.record-item.is owned in (
      found.0,
      found.1,
      λ lower less. c.loop-record.invariant lower
          (omega (arith, less, owned_number records number c.args.client c.record-item.result c.requires.1 (omega arith) c.record-item.is owned)),
    )

pub loop-record-preserved : goal.loop-record-preserved
loop-record-preserved c =
    let records = c.args.records.now in
    let number = c.loop-record.record-index in
    let there = read_there records number c.record-item.result (omega arith) c.record-item.is in
    below_more (λ k. is_owned c.args.client (item_at (items_of records) k) ≡ false) number c.loop-record.invariant
    (ap (is_owned c.args.client) there ∙ sym c.is_of.ensures ∙ c.if-is_of.false)

pub returns : goal.returns
returns c = none_found c.args.records.now (is_owned c.args.client) (λ k inside. c.loop-record.invariant k (omega arith))
