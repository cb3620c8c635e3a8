use Rattle.std.proofs.Common.{◌∙◌, Bool, ap, arith}
use Rattle.std.specs.Prelude.{◌==◌, not}
use Rattle.std.specs.List.{count_by}
use Rattle.session_swap.specs.Items.{flag}
use Rattle.session_swap.specs.Records.{OrderView}
use Rattle.session_swap.proofs.Ordering.{Carried, end_ordered}
use Rattle.session_swap.proofs.Threads.{below_either}
use Rattle.session_swap.proofs.order.Order.end.Goals as goal

pub carry-requires-clause-number : goal.carry-requires-clause-number
carry-requires-clause-number c =
    let loaded = ap (λ (o : OrderView). count_by (λ one. one == c.args.number) o.loaded) c.self.view_is ∙ c.requires.loaded in
    let saved = ap (λ (o : OrderView). count_by (λ one. one == c.args.number) o.saved) c.self.view_is ∙ c.requires.saved in
    below_either c.self.inside.lists.lists c.args.number c.args.is_loaded c.self.invariant.all loaded saved

pub invariant_of-self : goal.invariant_of-self
invariant_of-self c =
    let inside = c.self.inside in
    let loaded = ap (λ (o : OrderView). count_by (λ one. one == c.args.number) o.loaded) c.self.view_is ∙ c.requires.loaded in
    let saved = ap (λ (o : OrderView). count_by (λ one. one == c.args.number) o.saved) c.self.view_is ∙ c.requires.saved in
    let carried : Carried inside.lists.lists c.carry.new.lists.lists c.args.number 0 =
    record { all = c.carry.ensures.all; back = c.carry.ensures.back; others = c.carry.ensures.others } in
    let left = end_ordered inside.lists.lists c.carry.new.lists.lists c.args.number inside.loaded inside.saved c.self.invariant carried in
    record {
      all = left.all;
      loaded_is = omega (arith, left.loaded_is, loaded, ap flag c.if-is_loaded.true);
      saved_is = omega (arith, left.saved_is, saved, ap (λ (b : Bool). flag (not b)) c.if-is_loaded.true);
    }

pub invariant_of-self-else-is_loaded : goal.invariant_of-self-else-is_loaded
invariant_of-self-else-is_loaded c =
    let inside = c.self.inside in
    let loaded = ap (λ (o : OrderView). count_by (λ one. one == c.args.number) o.loaded) c.self.view_is ∙ c.requires.loaded in
    let saved = ap (λ (o : OrderView). count_by (λ one. one == c.args.number) o.saved) c.self.view_is ∙ c.requires.saved in
    let carried : Carried inside.lists.lists c.carry.new.lists.lists c.args.number 0 =
    record { all = c.carry.ensures.all; back = c.carry.ensures.back; others = c.carry.ensures.others } in
    let left = end_ordered inside.lists.lists c.carry.new.lists.lists c.args.number inside.loaded inside.saved c.self.invariant carried in
    record {
      all = left.all;
      loaded_is = omega (arith, left.loaded_is, loaded, ap flag c.if-is_loaded.false);
      saved_is = omega (arith, left.saved_is, saved, ap (λ (b : Bool). flag (not b)) c.if-is_loaded.false);
    }
