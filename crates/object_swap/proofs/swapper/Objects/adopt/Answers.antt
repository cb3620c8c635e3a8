use Rattle.std.proofs.Common.{◌≡◌, ◌-◌, ◌++◌, ◌∷◌, [], List, ℕ, false, ap, sym, ◌∙◌, subst, refl, arith, length, set}
use Rattle.std.specs.Prelude.{Some, vec_capacity}
use Rattle.std.specs.List.{list_any}
use Rattle.std.proofs.lemmas.List.{length-map, map-set}
use Rattle.device_spec.specs.Slots.{slot_of}
use Rattle.object_swap.specs.declared.record.Record.{Record}
use Rattle.object_swap.specs.Items.{Item, ObjectsView, is_vacant, item_at, new_item, owner_at, residents}
use Rattle.object_swap.specs.Records.{HoldsResidents, IsOwnedBy, IsRecord, item_of, items_of}
use Rattle.object_swap.proofs.Owned.{owned_put, some_vacant}
use Rattle.object_swap.proofs.Recorded.{record_at}
use Rattle.object_swap.proofs.Vacancies.{adopted_item, held_adopted, placed, resident_room, unkept}
use Rattle.object_swap.proofs.swapper.Objects.adopt.Goals as goal

pub insert_back-item-requires-clause-room : goal.insert_back-item-requires-clause-room
insert_back-item-requires-clause-room c =
    let inside = c.self.inside in
    let items = ap (λ (v : ObjectsView). list_any is_vacant v.items) c.self.view_is in
    omega (
      arith,
      some_vacant (items_of inside.records.items) inside.lists inside.owners.owners inside.vacant c.self.invariant.owned (items ∙ c.requires.room),
      c.self.invariant.owned.counted.spare,
    )

pub overflow_sub-self : goal.overflow_sub-self
overflow_sub-self c =
    let inside = c.self.inside in
    let items = ap (λ (v : ObjectsView). list_any is_vacant v.items) c.self.view_is in
    some_vacant (items_of inside.records.items) inside.lists inside.owners.owners inside.vacant c.self.invariant.owned (items ∙ c.requires.room)

pub index_mut-record-requires : goal.index_mut-record-requires
index_mut-record-requires c =
    let inside = c.self.inside in
    let room = ap (λ (v : ObjectsView). list_any is_vacant v.items) c.self.view_is ∙ c.requires.room in
    let left = c.insert_back-item.ensures in
    let place = placed inside.records.items inside.lists inside.owners.owners inside.vacant c.insert_back-item.result c.self.invariant.owned room
    left.fresh left.given.0 left.given.1 in
    omega (arith, place.inside)

pub list_last-requires : goal.list_last-requires
list_last-requires c =
    let inside = c.self.inside in
    let room = ap (λ (v : ObjectsView). list_any is_vacant v.items) c.self.view_is ∙ c.requires.room in
    let left = c.insert_back-item.ensures in
    let place = placed inside.records.items inside.lists inside.owners.owners inside.vacant c.insert_back-item.result c.self.invariant.owned room
    left.fresh left.given.0 left.given.1 in
    omega (
      arith,
      c.self.invariant.held.room_for_loaded,
      resident_room inside.records.items inside.loaded.items c.insert_back-item.result c.self.invariant.held.residents place.inside place.out,
    )

pub invariant_of-self : goal.invariant_of-self
invariant_of-self c =
    let inside = c.self.inside in
    let records = inside.records.items in
    let items = items_of records in
    let item = c.insert_back-item.result in
    let view = ap (λ (v : ObjectsView). v.items) c.self.view_is in
    let left = c.insert_back-item.ensures in
    let place = placed records inside.lists inside.owners.owners inside.vacant item c.self.invariant.owned (ap (list_any is_vacant) view ∙ c.requires.room)
    left.fresh left.given.0 left.given.1 in
    let d = c.index_mut-record.result.now in
    let n : Record = record { client = Some c.args.client; handle = Some c.args.handle; blob = d.blob; kept = d.kept } in
    let d_kept : d.kept ≡ false = ap (λ (r : Record). r.kept) c.index_mut-record.ensures.value ∙ unkept records item d place.inside place.vacant in
    let old : IsRecord inside.contexts d = subst (λ (r : Record). IsRecord inside.contexts r) (sym c.index_mut-record.ensures.value) (record_at records item d c.self.invariant.held.sound place.inside) in
    let sound : IsRecord inside.contexts n = record { handle = c.requires.handle; room = old.room; context = old.context } in
    let is = adopted_item n c.args.client c.args.handle refl refl d_kept in
    let owner = ap (λ (v : ObjectsView). owner_at v.owners c.args.list) c.self.view_is ∙ c.requires.list in
    record {
      owned = subst (λ (l : List Item). IsOwnedBy l c.insert_back-item.new.self inside.owners.owners (inside.vacant - 1)) (sym (map-set item_of records item n ∙ ap (set items item) is))
          (owned_put items inside.lists inside.owners.owners inside.vacant c.self.invariant.owned item left.fresh c.insert_back-item.new.self c.args.list
          c.args.client tt (new_item c.args.client (slot_of c.args.handle)) place.items_inside refl refl owner place.some left.lists left.spare
          (place.least c.insert_back-item.new.self.given left.given.2) (place.most c.insert_back-item.new.self.given left.given.2));
      held = subst (λ (l : List ℕ). HoldsResidents inside.contexts (set records item n) l inside.left.items (vec_capacity c.list_last.new.indices) (vec_capacity inside.left)
          inside.slots) (sym {A = List ℕ} c.list_last.ensures.last)
          (held_adopted records inside.loaded.items inside.left.items (vec_capacity inside.loaded) (vec_capacity c.list_last.new.indices)
          (vec_capacity inside.left) inside.slots item c.args.client (slot_of c.args.handle) n c.self.invariant.held place.inside place.out is sound
          c.list_last.ensures.capacity (omega (
            arith,
            c.requires.slot,
            ap residents view,
            ap (λ (v : ObjectsView). length v.left) c.self.view_is,
            length-map inside.left.items slot_of,
            ap (λ (v : ObjectsView). v.slots) c.self.view_is,
          )));
    }

pub returns-clause-inside : goal.returns-clause-inside
returns-clause-inside c =
    let inside = c.self.inside in
    let view = ap (λ (v : ObjectsView). v.items) c.self.view_is in
    let left = c.insert_back-item.ensures in
    let place = placed inside.records.items inside.lists inside.owners.owners inside.vacant c.insert_back-item.result c.self.invariant.owned
    (ap (list_any is_vacant) view ∙ c.requires.room) left.fresh left.given.0 left.given.1 in
    omega (arith, place.items_inside, ap (λ (l : List Item). length l) view)

pub returns-clause-vacant : goal.returns-clause-vacant
returns-clause-vacant c =
    let inside = c.self.inside in
    let view = ap (λ (v : ObjectsView). v.items) c.self.view_is in
    let left = c.insert_back-item.ensures in
    let place = placed inside.records.items inside.lists inside.owners.owners inside.vacant c.insert_back-item.result c.self.invariant.owned
    (ap (list_any is_vacant) view ∙ c.requires.room) left.fresh left.given.0 left.given.1 in
    ap (λ (l : List Item). is_vacant (item_at l c.insert_back-item.result)) (sym view) ∙ place.vacant

pub returns-clause-held : goal.returns-clause-held
returns-clause-held c =
    let inside = c.self.inside in
    let records = inside.records.items in
    let item = c.insert_back-item.result in
    let view = ap (λ (v : ObjectsView). v.items) c.self.view_is in
    let left = c.insert_back-item.ensures in
    let place = placed records inside.lists inside.owners.owners inside.vacant item c.self.invariant.owned (ap (list_any is_vacant) view ∙ c.requires.room)
    left.fresh left.given.0 left.given.1 in
    let d = c.index_mut-record.result.now in
    let n : Record = record { client = Some c.args.client; handle = Some c.args.handle; blob = d.blob; kept = d.kept } in
    let d_kept : d.kept ≡ false = ap (λ (r : Record). r.kept) c.index_mut-record.ensures.value ∙ unkept records item d place.inside place.vacant in
    let items = map-set item_of records item n ∙ ap (set (items_of records) item) (adopted_item n c.args.client c.args.handle refl refl d_kept) in
    let same = items ∙ ap (λ (v : ObjectsView). set v.items item (new_item c.args.client (slot_of c.args.handle))) c.self.view_is in
    let slots = ap (λ (v : ObjectsView). v.slots) c.self.view_is in
    let order = c.list_last.ensures.last ∙ ap (λ (v : ObjectsView). v.order ++ item ∷ []) c.self.view_is in
    let owners = ap (λ (v : ObjectsView). v.owners) c.self.view_is in
    let nobodys = ap (λ (v : ObjectsView). v.left) c.self.view_is in
    let room = ap (λ (v : ObjectsView). v.contexts) c.self.view_is in
    λ i. record { items = same i; slots = slots i; order = order i; owners = owners i; left = nobodys i; contexts = room i }
