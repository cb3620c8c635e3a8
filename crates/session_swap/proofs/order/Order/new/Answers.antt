use Rattle.std.proofs.Common.{◌≡◌, ◌∙◌, ◌+◌, ℕ, List, ap, subst, sym, arith}
use Rattle.linked_records.specs.View.{put_back}
use Rattle.session_swap.specs.Records.{HasFirst, order_of}
use Rattle.session_swap.proofs.Threads.{Entry, has_more, has_none, order_more}
use Rattle.session_swap.proofs.order.Order.new.Goals as goal

pub loop-init : goal.loop-init
loop-init c =
    let lists = c.in_ok-lists.ensures.lists in
    record {
      has = subst (λ (l : List (List Entry)). HasFirst 0 l) (sym lists.0) has_none;
      given = lists.1;
      none = ap order_of lists.0;
    }

pub loop-preserved : goal.loop-preserved
loop-preserved c =
    let held = c.loop.invariant in
    let lists = c.loop.lists.lists in
    let left = c.insert_back.ensures in
    let count = c.loop.counter in
    let kept = c.in_ok-reserve.ensures in
    let has : HasFirst count c.reserve.new.self.lists = subst (λ (l : List (List Entry)). HasFirst count l) (sym kept.lists) held.has in
    let item = left.given.0 (omega (arith, has.total, held.given, kept.spare.1)) in
    let is : c.insert_back.result ≡ count = omega (arith, item, held.given, kept.spare.1) in
    let lists_are = left.lists ∙ ap (λ (n : ℕ). put_back c.reserve.new.self.lists 0 (n, tt)) is in
    record {
      has = subst (λ (l : List (List Entry)). HasFirst (count + 1) l) (sym lists_are) (has_more count c.reserve.new.self.lists tt has);
      given = omega (arith, left.given.2, is, held.given, kept.spare.1);
      none = ap order_of left.lists ∙ order_more c.reserve.new.self.lists (c.insert_back.result, tt) ∙ ap order_of kept.lists ∙ held.none;
    }
