use Rattle.std.proofs.Common.{refl, sym, subst, arith}
use Rattle.history_spec.specs.Entry.{IsOpen}
use Rattle.connection_tests.specs.Book.{BookView, book_entry}
use Rattle.connection_tests.proofs.Counting.{counted_close, counted_with, some_present}
use Rattle.connection_tests.proofs.book.BookServes.close_client.Goals as goal

pub invariant_of-self : goal.invariant_of-self
invariant_of-self c =
    let open_now = subst (λ (v : BookView). IsOpen v.entries c.args.client) (sym c.self.view_is) c.requires in (
      counted_with (λ i. book_entry i.client i.number i.kind i.place) c.self.inside.items.items c.self.inside.items.items _ _ _ _ _ _ c.push_reserved.ensures.items refl
          (counted_close _ _ _ _ _ _ c.self.invariant.0 open_now),
      omega (arith, c.self.invariant.1, c.push_reserved.ensures.len),
      omega (arith, c.self.invariant.2, c.push_reserved.ensures.capacity),
    )

pub invariant_of-self-2 : goal.invariant_of-self-2
invariant_of-self-2 c =
    let open_now = subst (λ (v : BookView). IsOpen v.entries c.args.client) (sym c.self.view_is) c.requires in (
      counted_with (λ i. book_entry i.client i.number i.kind i.place) c.self.inside.items.items c.self.inside.items.items _ _ _ _ _ _ c.push_reserved.ensures.items refl
          (counted_close _ _ _ _ _ _ c.self.invariant.0 open_now),
      omega (arith, c.self.invariant.1, c.push_reserved.ensures.len),
      omega (arith, c.self.invariant.2, c.push_reserved.ensures.capacity),
    )
