use Rattle.std.proofs.Common.{refl, arith}
use Rattle.connection_tests.specs.Book.{book_entry}
use Rattle.connection_tests.proofs.Counting.{counted_open, counted_with}
use Rattle.connection_tests.proofs.book.BookServes.open_client.Goals as goal

pub invariant_of-self : goal.invariant_of-self
invariant_of-self c = (
  counted_with (λ i. book_entry i.client i.number i.kind i.place) _ _ _ _ _ _ _ _ c.push_reserved.ensures.items refl
      (counted_open _ _ _ _ _ c.self.invariant.0 (omega (arith, c.if-reserved-from.false, c.from.ensures))),
  omega (arith, c.self.invariant.1, c.push_reserved.ensures.len),
  omega (arith, c.self.invariant.2, c.push_reserved.ensures.capacity),
)
