use Rattle.std.proofs.Common.{◌≡◌, List, ℕ, [], ap, sym, ◌∙◌, subst, arith, length, map}
use Rattle.std.specs.Prelude.{vec_capacity}
use Rattle.std.proofs.lemmas.List.{length-map}
use Rattle.tab_spec.specs.declared.contexts.ContextLimits.{ContextLimits}
use Rattle.device_spec.specs.Slots.{slot_of}
use Rattle.object_swap.specs.declared.record.Record.{Record}
use Rattle.object_swap.specs.Items.{AreThere, Item, KeepsSlots, MakesRoom, ObjectsView, Stand, owners, pending_of, residents}
use Rattle.object_swap.specs.Records.{AreRecords, ListsResidents, ObjectsHold, items_of, view_with}
use Rattle.object_swap.proofs.Owned.{owned_again}
use Rattle.object_swap.proofs.Costs.{on_ok_with}
use Rattle.object_swap.proofs.Missing.{listed_residents}
use Rattle.object_swap.proofs.Room.{has_room, pending_most}
use Rattle.object_swap.proofs.Vacancies.{same_items, swapped_held}
use Rattle.object_swap.proofs.Views.{have_slots, room_seen, swapped, written_back}
use Rattle.object_swap.proofs.swapper.Objects.make_objects.Goals as goal

no_handles : (handles : List ℕ) → map slot_of handles ≡ [] → length handles ≡ 0
no_handles handles none = omega (arith, ap (λ (l : List ℕ). length l) none, length-map handles slot_of)

pub swap_objects-requires-clause-needed : goal.swap_objects-requires-clause-needed
swap_objects-requires-clause-needed g c =
    let needed = c.args.needed.now in
    let slots = ap (λ (v : ObjectsView). v.slots) c.self.view_is in
    let records = c.self.inside.records.items in
    let view = ap items_of c.deref_mut.ensures.value ∙ ap (λ (v : ObjectsView). v.items) c.self.view_is in
    record {
      there = subst (λ (l : List Item). AreThere needed l) (sym view) c.requires.needed.named;
      fits = omega (arith, c.requires.needed.fits, slots);
      few = omega (
        arith,
        c.self.invariant.held.fits,
        listed_residents records c.self.inside.loaded.items c.self.invariant.held.residents,
        ap (λ (l : List Record). residents (items_of l)) c.deref_mut.ensures.value,
      );
      room = has_room (g.D.Device.seen c.args.device.now).state c.args.self.now.slots c.self.inside.slots c.requires.may.slots (omega (arith, slots));
    }

-- there is room for the device's contexts
made_for : {v w : ObjectsView} {contexts : ContextLimits} → v ≡ w → w.contexts ≡ contexts → v.contexts ≡ contexts
made_for is for = ap (λ (v : ObjectsView). v.contexts) is ∙ for

pub swap_objects-requires-clause-ready : goal.swap_objects-requires-clause-ready
swap_objects-requires-clause-ready g c =
    let view = ap items_of c.deref_mut.ensures.value ∙ ap (λ (v : ObjectsView). v.items) c.self.view_is in
    let state = (g.D.Device.seen c.args.device.now).state in
    record {
      sound = subst (λ (contexts : ContextLimits). AreRecords contexts c.deref_mut.result.now) (made_for c.self.view_is c.requires.contexts)
          (subst (λ (l : List Record). AreRecords c.self.inside.contexts l) (sym c.deref_mut.ensures.value) c.self.invariant.held.sound);
      stand = subst (λ (l : List Item). Stand state l []) (sym view) c.requires.stand;
      below = omega (arith, pending_most state c.args.self.now.items c.requires.stand, c.requires.may.counter, ap (pending_of state) view);
    }

pub swap_objects-requires-clause-listed : goal.swap_objects-requires-clause-listed
swap_objects-requires-clause-listed g c =
    subst (λ (l : List Record). ListsResidents l c.self.inside.loaded.items (vec_capacity c.self.inside.loaded)) (sym c.deref_mut.ensures.value)
    (record { lists = c.self.invariant.held.residents; most = c.self.invariant.held.room_for_loaded })

pub invariant_of-self : goal.invariant_of-self
invariant_of-self g c =
    let inside = c.self.inside in
    let records = inside.records.items in
    let new = c.swap_objects.new.records in
    let left = c.swap_objects.ensures in
    let old = c.deref_mut.ensures.value in
    let same = left.swaps.keeps.objects.owners in
    let whole = written_back records c.deref_mut.result.now new inside.records.len old (omega arith) same in
    let again = same ∙ ap (λ (l : List Record). owners (items_of l)) old in
    let none = no_handles inside.left.items (ap (λ (v : ObjectsView). v.left) c.self.view_is ∙ c.requires.nobodys) in
    subst (λ (l : List Record). ObjectsHold inside.contexts l inside.lists inside.owners.owners inside.vacant c.swap_objects.new.loaded.items inside.left.items
    (vec_capacity c.swap_objects.new.loaded) (vec_capacity inside.left) inside.slots) (sym whole)
    (record {
      owned = owned_again (items_of records) inside.lists inside.owners.owners inside.vacant c.self.invariant.owned (items_of new) again
          (same_items records new again);
      held = swapped_held records new inside.loaded.items c.swap_objects.new.loaded.items inside.left.items (vec_capacity inside.loaded)
          (vec_capacity c.swap_objects.new.loaded) (vec_capacity inside.left) inside.slots c.self.invariant.held again
          (subst (λ (contexts : ContextLimits). AreRecords contexts new) (sym (made_for c.self.view_is c.requires.contexts)) left.swaps.sound) left.listed.0
          (omega (arith, left.listed.1, none));
    })

pub returns-clause-moved : goal.returns-clause-moved
returns-clause-moved g c =
    let lent = c.deref_mut.result.now in
    let new = c.swap_objects.new.records in
    let left = c.swap_objects.ensures in
    let old = c.deref_mut.ensures.value in
    let whole = written_back c.self.inside.records.items lent new c.self.inside.records.len old (omega arith) left.swaps.keeps.objects.owners in
    swapped g.D.Device.seen c.args.device.now c.swap_objects.new.device c.swap_objects.result lent new c.args.self.now _ left.swaps left.asks
    (ap items_of old ∙ ap (λ (v : ObjectsView). v.items) c.self.view_is) (ap items_of whole) (ap (λ (v : ObjectsView). v.slots) c.self.view_is)
    (ap (λ (v : ObjectsView). v.owners) c.self.view_is) (ap (λ (v : ObjectsView). v.left) c.self.view_is)
    (ap (λ (v : ObjectsView). v.contexts) c.self.view_is)

pub returns-clause-room : goal.returns-clause-room
returns-clause-room g c =
    let seen = g.D.Device.seen in
    let inside = c.self.inside in
    let new = c.swap_objects.new.records in
    let loaded = inside.loaded.items in
    let slots = inside.slots in
    let owners = inside.owners.owners in
    let nobodys = inside.left.items in
    let left = c.swap_objects.ensures in
    let old = c.deref_mut.ensures.value in
    let whole = written_back inside.records.items c.deref_mut.result.now new inside.records.len old (omega arith) left.swaps.keeps.objects.owners in
    let view : view_with c.deref_mut.result.now loaded slots owners nobodys inside.contexts ≡ c.args.self.now =
    ap (λ (l : List Record). view_with l loaded slots owners nobodys inside.contexts) old ∙ c.self.view_is in
    subst (λ (l : List Record). MakesRoom seen c.args.device.now c.swap_objects.new.device c.args.needed.now c.args.new_slots c.args.self.now
    (view_with l c.swap_objects.new.loaded.items slots owners nobodys inside.contexts) c.swap_objects.result) (sym whole)
    (subst (λ (v : ObjectsView). MakesRoom seen c.args.device.now c.swap_objects.new.device c.args.needed.now c.args.new_slots v
    (view_with new c.swap_objects.new.loaded.items slots owners nobodys inside.contexts) c.swap_objects.result) view
    (room_seen seen c.args.device.now c.swap_objects.new.device c.args.needed.now c.args.new_slots c.deref_mut.result.now new loaded
    c.swap_objects.new.loaded.items slots owners nobodys inside.contexts c.swap_objects.result left.room))

pub returns-clause-ok : goal.returns-clause-ok
returns-clause-ok g c =
    let lent = c.deref_mut.result.now in
    let new = c.swap_objects.new.records in
    let left = c.swap_objects.ensures in
    let old = c.deref_mut.ensures.value in
    let whole = written_back c.self.inside.records.items lent new c.self.inside.records.len old (omega arith) left.swaps.keeps.objects.owners in
    on_ok_with c.swap_objects.result
    (λ resident full. have_slots g.D.Device.seen c.args.device.now c.swap_objects.new.device c.args.needed.now c.args.new_slots (items_of new) c.args.self.now _
    c.requires.needed c.requires.may.slots c.requires.stand (returns-clause-moved g c) (ap items_of whole) resident full) left.stay.1 (returns-clause-room g c).full

pub returns-clause-stay : goal.returns-clause-stay
returns-clause-stay g c =
    let lent = c.deref_mut.result.now in
    let new = c.swap_objects.new.records in
    let left = c.swap_objects.ensures in
    let old = c.deref_mut.ensures.value in
    let whole = written_back c.self.inside.records.items lent new c.self.inside.records.len old (omega arith) left.swaps.keeps.objects.owners in
    subst (λ (l : List Record). KeepsSlots c.args.needed.now c.args.self.now.items (items_of l)) (sym whole)
    (subst (λ (l : List Item). KeepsSlots c.args.needed.now l (items_of new)) (ap items_of old ∙ ap (λ (v : ObjectsView). v.items) c.self.view_is) left.stay.0)
