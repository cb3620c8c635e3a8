use Rattle.std.proofs.Common.{◌≡◌, ◌∙◌, false, ap, sym, arith}
use borrow.Author.Count.{below_more}
use Rattle.session_swap.specs.Items.{is_orphan, item_at}
use Rattle.session_swap.specs.Records.{items_of}
use Rattle.session_swap.proofs.Making.{read_there}
use Rattle.session_swap.proofs.Orphans.{none_found, orphan_found}
use Rattle.session_swap.proofs.kept.find_orphan.Goals as goal

pub returns-then-is_orphan : goal.returns-then-is_orphan
returns-then-is_orphan c =
    orphan_found c.args.records.now c.loop-record.record-index c.record-item.result c.requires.1 (omega arith) c.record-item.is
    (sym c.is_orphan.ensures ∙ c.if-is_orphan.true)

pub loop-record-preserved : goal.loop-record-preserved
loop-record-preserved c =
    let records = c.args.records.now in
    let there = read_there records c.loop-record.record-index c.record-item.result (omega arith) c.record-item.is in
    below_more (λ k. is_orphan (item_at (items_of records) k) ≡ false) c.loop-record.record-index c.loop-record.invariant
    (ap is_orphan there ∙ sym c.is_orphan.ensures ∙ c.if-is_orphan.false)

pub returns : goal.returns
returns c = none_found c.args.records.now is_orphan (λ k inside. c.loop-record.invariant k (omega arith))
