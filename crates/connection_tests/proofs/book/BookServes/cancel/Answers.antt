use Rattle.std.proofs.Common.{refl, arith}
use Rattle.connection_tests.specs.Book.{book_entry}
use Rattle.connection_tests.proofs.Counting.{canceled_as, counted_canceled, counted_with, is_asked}
use Rattle.connection_tests.proofs.book.BookServes.cancel.Goals as goal

pub invariant_of-self-2 : goal.invariant_of-self-2
invariant_of-self-2 c = (
  counted_with (λ i. book_entry i.client i.number i.kind i.place) _ _ _ _ _ _ _ _ c.push_reserved.ensures.items refl
      (counted_canceled _ _ _ _ _ _ _ _ 0 c.self.invariant.0 (omega (arith, c.if-reserved-from.false, c.from.ensures))),
  omega (arith, c.self.invariant.1, c.push_reserved.ensures.len),
  omega (arith, c.self.invariant.2, c.push_reserved.ensures.capacity),
)

pub returns-clause-told : goal.returns-clause-told
returns-clause-told c =
    canceled_as (λ i. book_entry i.client i.number i.kind i.place) c.args.self.now _ _ _ _ _ _ _ _ _ _ _ _ 0 _ _ c.push_reserved.ensures.items refl c.self.view_is refl
    (is_asked c.ne.result c.args.bytes.now c.as_slice.result.now c.ne.ensures c.if-ne.false c.as_slice.ensures) c.error_reply-2.ensures c.self.invariant.0
    (omega (arith, c.if-reserved-from.false, c.from.ensures))
