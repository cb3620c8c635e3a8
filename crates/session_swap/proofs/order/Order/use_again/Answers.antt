use Rattle.std.proofs.Common.{◌∙◌, ap, arith}
use Rattle.std.specs.Prelude.{◌==◌}
use Rattle.std.specs.List.{count_by}
use Rattle.session_swap.specs.Records.{OrderView, order_used}
use Rattle.session_swap.proofs.Ordering.{Carried, used_order, used_ordered}
use Rattle.session_swap.proofs.Threads.{below_loaded}
use Rattle.session_swap.proofs.order.Order.use_again.Goals as goal

pub carry-requires-clause-number : goal.carry-requires-clause-number
carry-requires-clause-number c =
    let one = ap (λ (o : OrderView). count_by (λ one. one == c.args.number) o.loaded) c.self.view_is ∙ c.requires in
    below_loaded c.self.inside.lists.lists c.args.number c.self.invariant.all (omega (arith, one))

pub invariant_of-self : goal.invariant_of-self
invariant_of-self c =
    let one = ap (λ (o : OrderView). count_by (λ one. one == c.args.number) o.loaded) c.self.view_is ∙ c.requires in
    let carried : Carried c.self.inside.lists.lists c.carry.new.lists.lists c.args.number 1 =
    record { all = c.carry.ensures.all; back = c.carry.ensures.back; others = c.carry.ensures.others } in
    used_ordered c.self.inside.lists.lists c.carry.new.lists.lists c.args.number c.self.inside.loaded c.self.inside.saved c.self.invariant carried one

pub returns : goal.returns
returns c =
    let one = ap (λ (o : OrderView). count_by (λ one. one == c.args.number) o.loaded) c.self.view_is ∙ c.requires in
    let carried : Carried c.self.inside.lists.lists c.carry.new.lists.lists c.args.number 1 =
    record { all = c.carry.ensures.all; back = c.carry.ensures.back; others = c.carry.ensures.others } in
    used_order c.self.inside.lists.lists c.carry.new.lists.lists c.args.number c.self.inside.loaded c.self.inside.saved c.self.invariant carried one
    ∙ ap (order_used c.args.number) c.self.view_is
