use Rattle.std.proofs.Common.{◌∙◌, ℕ, List, ap, refl, subst, sym, arith}
use Rattle.std.specs.Prelude.{Option, is_some}
use Rattle.std.specs.List.{count_by}
use Rattle.session_swap.specs.Items.{Item, ListsThose, is_held, is_left, is_loaded_item, is_saved_item, no_items}
use Rattle.session_swap.specs.Records.{no_order}
use Rattle.session_swap.proofs.Listing.{lists_then, none_listed}
use Rattle.session_swap.proofs.sessions.Sessions.new.Goals as goal

pub invariant_of-result : goal.invariant_of-result
invariant_of-result c =
    let records = c.in_ok-records.records.items in
    record {
      sound = c.in_ok-records.ensures.sound;
      listed = lists_then c.args.numbers records records no_order c.in_ok-order.order no_items c.in_ok-records.ensures.none c.in_ok-order.ensures
          (none_listed is_loaded_item refl) (none_listed is_saved_item refl) (omega arith) c.requires.range;
      left_are = subst (λ (l : List (Option Item)). ListsThose is_left c.in_ok-left.left l) (sym c.in_ok-records.ensures.none)
          (subst (λ (l : List ℕ). ListsThose is_left l no_items) (sym c.in_ok-left.ensures) (none_listed is_left refl));
      held_is = (none_listed is_held refl).count ∙ ap (λ (l : List (Option Item)). count_by is_held l) (sym c.in_ok-records.ensures.none);
      few = omega (
        arith,
        (none_listed is_some refl).count,
        ap (λ (l : List (Option Item)). count_by is_some l) c.in_ok-records.ensures.none,
      );
    }
