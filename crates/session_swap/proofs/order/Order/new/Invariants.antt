use Rattle.std.proofs.Common.{◌≡◌}
use Rattle.session_swap.specs.Records.{HasFirst, no_order, order_of}
use Rattle.session_swap.proofs.order.Order.new.Given as goal

abbrev pub invariant-loop : goal.invariant-loop
invariant-loop l = record {
  has : HasFirst l.counter l.lists.lists;
  given : l.lists.given ≡ l.counter;
  none : order_of l.lists.lists ≡ no_order;
}
