use Rattle.std.proofs.Common.{◌-◌, ℕ, List, set, ap, ◌∙◌}
use Rattle.tab_spec.specs.declared.TheConstants.{TRANSIENT_FIRST}
use Rattle.object_swap.specs.Items.{ObjectsView, new_item}
use Rattle.client_machine.specs.Moves.{told_handle}
use Rattle.client_machine.proofs.responses.adopt.Goals as goal

pub returns-clause-adopted : goal.returns-clause-adopted
returns-clause-adopted c =
    let items = c.args.objects.now.items in
    let item = c.adopt-item.result in (
      record {
        item = item;
        inside = c.adopt-item.ensures.inside;
        vacant = c.adopt-item.ensures.vacant;
        items_are = ap (λ (v : ObjectsView). v.items) c.adopt-item.ensures.held
            ∙ ap (λ (handle : ℕ). set items item (new_item c.args.client (handle - TRANSIENT_FIRST)))
            (c.told_handle-handle.ensures ∙ ap (λ (reply : List ℕ). told_handle reply) c.as_slice.ensures.value);
        table_is = c.add-own.ensures.items;
      },
      ap (λ (v : ObjectsView). v.order) c.adopt-item.ensures.held,
    )
