use Rattle.std.proofs.Common.{◌∙◌, ap}
use Rattle.std.specs.Prelude.{◌==◌}
use Rattle.std.specs.List.{count_by}
use Rattle.session_swap.specs.Records.{OrderView, order_in}
use Rattle.session_swap.proofs.Ordering.{Carried, in_order, start_ordered}
use Rattle.session_swap.proofs.order.Order.start.Goals as goal

pub invariant_of-self : goal.invariant_of-self
invariant_of-self c =
    let none = ap (λ (o : OrderView). count_by (λ one. one == c.args.number) o.loaded) c.self.view_is ∙ c.requires.none.0 in
    let neither = ap (λ (o : OrderView). count_by (λ one. one == c.args.number) o.saved) c.self.view_is ∙ c.requires.none.1 in
    let carried : Carried c.self.inside.lists.lists c.carry.new.lists.lists c.args.number 1 =
    record { all = c.carry.ensures.all; back = c.carry.ensures.back; others = c.carry.ensures.others } in
    start_ordered c.self.inside.lists.lists c.carry.new.lists.lists c.args.number c.self.inside.loaded c.self.inside.saved c.self.invariant carried none neither

pub returns : goal.returns
returns c =
    let carried : Carried c.self.inside.lists.lists c.carry.new.lists.lists c.args.number 1 =
    record { all = c.carry.ensures.all; back = c.carry.ensures.back; others = c.carry.ensures.others } in
    in_order c.self.inside.lists.lists c.carry.new.lists.lists c.args.number c.self.inside.loaded c.self.inside.saved c.self.invariant carried
    ∙ ap (order_in c.args.number) c.self.view_is
