use Rattle.std.proofs.Common.{List, ℕ, ap, sym, ◌∙◌, subst, arith}
use Rattle.std.specs.Prelude.{vec_capacity}
use Rattle.std.proofs.lemmas.List.Sums.{count_by-le-length}
use Rattle.std.specs.Prelude.{◌==◌}
use Rattle.object_swap.specs.Items.{Item, Names, ObjectsView, is_resident, item_at}
use Rattle.object_swap.specs.Records.{HoldsResidents, items_of, residency}
use Rattle.object_swap.proofs.Flags.{flag_listed}
use Rattle.object_swap.proofs.Listed.{flag_at, named_inside}
use Rattle.object_swap.proofs.Vacancies.{held_orphaned}
use Rattle.object_swap.proofs.Views.{Met, met}
use Rattle.object_swap.proofs.swapper.Objects.orphan_by.Goals as goal

pub unlist-requires : goal.unlist-requires
unlist-requires g c =
    let inside = c.self.inside in
    let records = inside.records.items in
    flag_listed (residency records) inside.loaded.items c.args.item c.self.invariant.held.residents
    (flag_at (items_of records) c.args.item ∙ ap (λ (v : ObjectsView). is_resident (item_at v.items c.args.item)) c.self.view_is ∙ c.requires.slot)

pub list_last-requires : goal.list_last-requires
list_last-requires g c =
    let inside = c.self.inside in
    let records = inside.records.items in
    let one = flag_listed (residency records) inside.loaded.items c.args.item c.self.invariant.held.residents
    (flag_at (items_of records) c.args.item ∙ ap (λ (v : ObjectsView). is_resident (item_at v.items c.args.item)) c.self.view_is ∙ c.requires.slot) in
    omega (
      arith,
      one,
      count_by-le-length (λ (one : ℕ). one == c.args.item) inside.loaded.items,
      c.self.invariant.held.fits,
      c.self.invariant.held.room_for_left,
    )

pub invariant_of-self : goal.invariant_of-self
invariant_of-self g c =
    let inside = c.self.inside in
    let records = inside.records.items in
    let view = ap (λ (v : ObjectsView). v.items) c.self.view_is in
    let left = c.release.ensures in
    let handle = c.unwrap-handle.result in
    let met : Met c.args.self.now.items c.args.item handle =
    met records c.args.self.now.items c.args.item handle c.index.result.now c.self.invariant.held.sound view c.requires.named c.index.ensures c.unwrap-handle.ensures in
    record {
      owned = left.owned inside.owners.owners c.self.invariant.owned;
      held = subst (λ (l : List ℕ). HoldsResidents c.self.inside.contexts c.release.new.records.items c.unlist.new.indices.items l (vec_capacity c.unlist.new.indices)
          (vec_capacity c.list_last.new.indices) inside.slots) (sym {A = List ℕ} c.list_last.ensures.last)
          (held_orphaned records c.release.new.records.items inside.loaded.items inside.left.items (vec_capacity inside.loaded) (vec_capacity inside.left)
          inside.slots c.args.item c.self.invariant.held left.items (left.sound inside.contexts c.self.invariant.held.sound) left.count c.unlist.new.indices.items (vec_capacity c.unlist.new.indices)
          (named_inside records c.args.item (subst (λ (l : List Item). Names l c.args.item) (sym view) c.requires.named))
          (ap (λ (l : List Item). is_resident (item_at l c.args.item)) view ∙ c.requires.slot)
          (c.unlist.ensures.listed (residency records) c.self.invariant.held.residents) c.unlist.ensures.capacity handle (vec_capacity c.list_last.new.indices)
          met.transient c.list_last.ensures.capacity);
    }
