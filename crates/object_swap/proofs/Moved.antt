-- What saving, flushing and loading the object of one item keep, and what dropping and adopting one do.
use Rattle.std.proofs.Common.{◌≡◌, ◌≢◌, ◌+◌, ◌<◌, ◌≤◌, inl, inr, ℕ, suc, true, List, [], ◌∷◌, length, get_or, set, map, refl, ap, subst, sym, ◌∙◌, arith}
use Rattle.std.specs.Prelude.{◌==◌, not, ◌&&◌, Option, Some, None, is_some, IfSome}
use Rattle.std.specs.List.{count_by, list_any}
use Rattle.std.proofs.lemmas.Bool.{eq-eqb, ne_eqb, cases_eq, cases_lt}
use Rattle.std.proofs.lemmas.List.{map-set, get_or-set_same, get_or-set_other, get_or-map, set-get_or, get_or_past}
use Rattle.std.proofs.lemmas.List.Elements.{All-from_recursion}
use Rattle.tab_spec.specs.Object.{Object, IsObject}
use Rattle.tab_spec.specs.declared.TheConstants.{CONTEXT_LIMIT}
use Rattle.device_spec.specs.Slots.{SlotState, IsSlots, free_slot, is_free, in_slot, object_at, slot_of, with_slot}
use Rattle.device_laws.proofs.FreshContexts.{object_at_is}
use Rattle.object_swap.specs.Items.{Item, IsOwned, ItemStands, KeepsContexts, ObjectsStand, Stand, counter_of, is_named, is_unsaved, is_vacant, item_at, item_object, naming, new_item, no_item, objects_of, pending_of, rest_of, taken, without_object}
use Rattle.object_swap.specs.Moves.{KeepsStanding, counted, emptied, filled}
use Rattle.object_swap.specs.Records.{number}
use Rattle.object_swap.proofs.Counts.{all_but, count_cons, count_one, count_set, is_true, map_same, number_false, number_most, number_true}
use Rattle.object_swap.proofs.Standing.{Moves, elsewhere_free, elsewhere_named, naming_set, objects_moved, stands_moved}

-- ---- slots

pub taken_here : (slots : SlotState) (slot : ℕ) (held : Option Object) → slot < length slots.slots
    → taken (with_slot slots slot held) slot ≡ number (is_some held)
taken_here slots slot held fits = ap (λ (o : Option Object). number (is_some o)) (get_or-set_same slots.slots slot held None fits)

pub taken_there : (slots : SlotState) (slot n : ℕ) (held : Option Object) → n ≢ slot → taken (with_slot slots slot held) n ≡ taken slots n
taken_there slots slot n held apart = ap (λ (o : Option Object). number (is_some o)) (get_or-set_other slots.slots slot n held None apart)

pub taken_fits : (slots : SlotState) (slot : ℕ) → 1 ≤ taken slots slot → slot < length slots.slots
taken_fits slots slot is =
    elim (cases_lt slot (length slots.slots)) [
      | inl fits ↦ fits
      | inr past ↦ absurd (omega (arith, ap (λ (o : Option Object). number (is_some o)) (get_or_past slots.slots slot None past)))
    ]

named_here : (named : Option ℕ) (slot : ℕ) → named ≡ Some slot → number (is_named named slot) ≡ 1
named_here named slot is = ap (λ (s : Option ℕ). number (is_named s slot)) is ∙ number_true (slot == slot) (eq-eqb slot slot refl)

named_there : (named : Option ℕ) (slot n : ℕ) → named ≡ Some slot → n ≢ slot → number (is_named named n) ≡ 0
named_there named slot n is apart =
    ap (λ (s : Option ℕ). number (is_named s n)) is ∙ number_false (slot == n) (ne_eqb slot n (λ same. apart (sym same)))

named_none : (named : Option ℕ) (n : ℕ) → named ≡ None → number (is_named named n) ≡ 0
named_none named n is = ap (λ (s : Option ℕ). number (is_named s n)) is

-- the slot of a resident is taken, and it is its own
pub record Own (slots : SlotState) (items : List Item) (slot : ℕ) : Type 0 where
  pub once : naming items slot ≡ 1
  pub full : taken slots slot ≡ 1
  pub fits : slot < length slots.slots

pub own : (slots : SlotState) (items : List Item) (others : List ℕ) (index slot : ℕ) → IsOwned slots items others → index < length items
    → (item_at items index).slot ≡ Some slot → Own slots items slot
own slots items others index slot owned inside is =
    let here = named_here (item_at items index).slot slot is in
    let least = count_one (λ (item : Item). is_named item.slot slot) items index no_item inside in
    let most = number_most (is_some (get_or slots.slots slot None)) in
    let full : taken slots slot ≡ 1 = omega (arith, owned slot) in
    record { once = omega (arith, owned slot); full = full; fits = taken_fits slots slot (omega arith) }

-- ---- one item in the place of another

pub map_kept : {Y : Type 0} (f : Item → Y) (items : List Item) (index : ℕ) (item : Item) → index < length items → f item ≡ f (item_at items index)
    → map f (set items index item) ≡ map f items
map_kept f items index item inside same =
    map-set f items index item ∙ ap (set (map f items) index) (same ∙ sym (get_or-map f items index no_item (f no_item) inside))
    ∙ set-get_or (map f items) index (f no_item)

objects_kept : (slots : SlotState) (items : List Item) (index : ℕ) (o : Option Object) → index < length items → o ≡ item_object slots (item_at items index)
    → set (map (item_object slots) items) index o ≡ map (item_object slots) items
objects_kept slots items index o inside same =
    ap (set (map (item_object slots) items) index) (same ∙ sym (get_or-map (item_object slots) items index no_item (item_object slots no_item) inside))
    ∙ set-get_or (map (item_object slots) items) index (item_object slots no_item)

-- ---- a slot is emptied

emptied_names : (slots : SlotState) (slot : ℕ) (old new : Option ℕ) → old ≡ Some slot → new ≡ None → taken slots slot ≡ 1 → slot < length slots.slots → (n : ℕ)
    → taken (with_slot slots slot None) n + number (is_named old n) ≡ taken slots n + number (is_named new n)
emptied_names slots slot old new was is full fits n =
    elim (cases_eq n slot) [
      | inl same ↦
          subst (λ (n : ℕ). taken (with_slot slots slot None) n + number (is_named old n) ≡ taken slots n + number (is_named new n)) (sym same)
          (omega (arith, taken_here slots slot None fits, named_here old slot was, named_none new slot is, full))
      | inr apart ↦ omega (arith, taken_there slots slot n None apart, named_there old slot n was apart, named_none new n is)
    ]

pub emptying : (slots : SlotState) (items : List Item) (others : List ℕ) (index slot : ℕ) (item : Item) → ObjectsStand slots items others
    → index < length items → (item_at items index).slot ≡ Some slot → item.slot ≡ None → ItemStands (with_slot slots slot None) item
    → Moves slots items index slot None item
emptying slots items others index slot item stand inside was is stands =
    let own = own slots items others index slot stand.owned inside was in
    record {
      inside = inside;
      fits = own.fits;
      elsewhere = elsewhere_named items index slot inside was (omega (arith, own.once));
      object = tt;
      stands = stands;
      named = emptied_names slots slot (item_at items index).slot item.slot was is own.full own.fits;
    }

-- ---- a slot is filled

pub record Free (held : List (Option Object)) : Type 0 where
  pub fits : free_slot held < length held
  pub none : get_or held (free_slot held) None ≡ None

pub free : (held : List (Option Object)) → list_any is_free held ≡ true → Free held
free [] some = absurd cc
free (None ∷ held) some = record { fits = omega arith; none = refl }
free (Some o ∷ held) some =
    let next = free held some in
    let one : 1 + free_slot held ≡ suc (free_slot held) = omega arith in
    record { fits = omega (arith, next.fits); none = ap (λ (n : ℕ). get_or (Some o ∷ held) n None) one ∙ next.none }

filled_names : (slots : SlotState) (slot : ℕ) (held : Option Object) (old new : Option ℕ) → old ≡ None → new ≡ Some slot → taken slots slot ≡ 0
    → slot < length slots.slots → is_some held ≡ true → (n : ℕ)
    → taken (with_slot slots slot held) n + number (is_named old n) ≡ taken slots n + number (is_named new n)
filled_names slots slot held old new was is empty fits full n =
    elim (cases_eq n slot) [
      | inl same ↦
          subst (λ (n : ℕ). taken (with_slot slots slot held) n + number (is_named old n) ≡ taken slots n + number (is_named new n)) (sym same)
          (omega (arith, taken_here slots slot held fits, number_true (is_some held) full, named_here new slot is, named_none old slot was, empty))
      | inr apart ↦ omega (arith, taken_there slots slot n held apart, named_there new slot n is apart, named_none old n was)
    ]

pub filling : (slots : SlotState) (items : List Item) (others : List ℕ) (index : ℕ) (held : Option Object) (item : Item) → ObjectsStand slots items others
    → index < length items → list_any is_free slots.slots ≡ true → (item_at items index).slot ≡ None → item.slot ≡ Some (free_slot slots.slots)
    → IfSome held IsObject → is_some held ≡ true → ItemStands (with_slot slots (free_slot slots.slots) held) item
    → Moves slots items index (free_slot slots.slots) held item
filling slots items others index held item stand inside room was is object full stands =
    let slot = free_slot slots.slots in
    let free = free slots.slots room in
    let empty : taken slots slot ≡ 0 = ap (λ (o : Option Object). number (is_some o)) free.none in
    record {
      inside = inside;
      fits = free.fits;
      elsewhere = elsewhere_free items index slot (omega (arith, stand.owned slot));
      object = object;
      stands = stands;
      named = filled_names slots slot held (item_at items index).slot item.slot was is empty free.fits full;
    }

-- ---- an object is saved

-- one context more
abbrev counted_slots : SlotState → SlotState
counted_slots slots = record slots { object_counter = slots.object_counter + 1 }

counted_object : (slots : SlotState) (slot : Option ℕ) (blob : Option (List ℕ)) → object_at (counted_slots slots) slot blob ≡ object_at slots slot blob
counted_object slots None None = refl
counted_object slots None (Some bytes) = refl
counted_object slots (Some n) blob = refl

counted_sound : (slots : SlotState) → IsSlots slots → slots.object_counter < CONTEXT_LIMIT → IsSlots (counted_slots slots)
counted_sound slots sound below = record {
  persist = sound.persist;
  range = sound.range;
  count = sound.count;
  objects = sound.objects;
  object_counter = omega arith;
  numbers = sound.numbers;
  places = sound.places;
  loaded = sound.loaded;
  apart = sound.apart;
  counter = sound.counter;
}

counted_item : (slots : SlotState) (item : Item) → ItemStands slots item → ItemStands (counted_slots slots) item
counted_item slots item stands = record {
  there = λ full. ap (λ (o : Option Object). is_some o) (counted_object slots item.slot item.blob) ∙ stands.there full;
  beside = λ resident kept. counted_object slots None item.blob ∙ stands.beside resident kept ∙ sym (counted_object slots item.slot item.blob);
}

abbrev pub item_in : Option ℕ → ℕ → Item
item_in client slot = record { client = client; slot = Some slot; blob = None }

abbrev pub item_both : Option ℕ → ℕ → List ℕ → Item
item_both client slot context = record { client = client; slot = Some slot; blob = Some context }

abbrev pub item_out : Option ℕ → List ℕ → Item
item_out client context = record { client = client; slot = None; blob = Some context }

both_stands : (slots : SlotState) (client : Option ℕ) (slot : ℕ) (context : List ℕ) → taken slots slot ≡ 1 → object_at slots None (Some context) ≡ get_or slots.slots slot None
    → ItemStands slots (item_both client slot context)
both_stands slots client slot context full same = record {
  there = λ somewhere. is_true (is_some (get_or slots.slots slot None)) (omega arith);
  beside = λ resident kept. same;
}

-- where another item stands at an index, with what was kept there
contexts_kept : (items : List Item) (index : ℕ) (item : Item) → index < length items
    → ((context : List ℕ) → (item_at items index).blob ≡ Some context → item.blob ≡ Some context)
    → KeepsContexts items (set items index item)
contexts_kept items index item inside kept = λ n context is.
    elim (cases_eq n index) [
      | inl same ↦
          ap (λ (m : ℕ). (item_at (set items index item) m).blob) same
          ∙ ap (λ (i : Item). i.blob) (get_or-set_same items index item no_item inside)
          ∙ kept context (sym (ap (λ (m : ℕ). (item_at items m).blob) same) ∙ is)
      | inr apart ↦ ap (λ (i : Item). i.blob) (get_or-set_other items index n item no_item apart) ∙ is
    ]

unsaved_set : (items : List Item) (index : ℕ) (old item : Item) → index < length items → item_at items index ≡ old
    → count_by is_unsaved (set items index item) + number (is_unsaved old) ≡ count_by is_unsaved items + number (is_unsaved item)
unsaved_set items index old item inside is =
    subst (λ (old : Item). count_by is_unsaved (set items index item) + number (is_unsaved old) ≡ count_by is_unsaved items + number (is_unsaved item)) is
    (count_set is_unsaved items index item no_item inside)

saved_told : (slots : SlotState) (items : List Item) (others : List ℕ) (index : ℕ) (client : Option ℕ) (slot : ℕ) (context : List ℕ) → ObjectsStand slots items others
    → index < length items → item_at items index ≡ item_in client slot → slots.object_counter + count_by is_unsaved items ≤ CONTEXT_LIMIT
    → object_at slots None (Some context) ≡ get_or slots.slots slot None
    → KeepsStanding (Some slots) (Some (counted_slots slots)) items (set items index (item_both client slot context)) others
saved_told slots items others index client slot context stand inside was below same =
    let item = item_both client slot context in
    let own = own slots items others index slot stand.owned inside (ap (λ (i : Item). i.slot) was) in
    let unsaved = unsaved_set items index (item_in client slot) item inside was in
    let least = count_one is_unsaved items index no_item inside in
    let this : number (is_unsaved (item_at items index)) ≡ 1 = ap (λ (i : Item). number (is_unsaved i)) was in
    record {
      rest = refl;
      objects = record {
        objects = ap (λ (objects : List (Option Object)). Some objects) (
            map_same (item_object (counted_slots slots)) (item_object slots) (set items index item) no_item
            (λ j other. counted_object slots (item_at (set items index item) j).slot (item_at (set items index item) j).blob)
            ∙ map_kept (item_object slots) items index item inside (sym (ap (item_object slots) was))
            );
        owners = map_kept (λ item. (item.client, is_vacant item)) items index item inside (sym (ap (λ (i : Item). (i.client, is_vacant i)) was));
        kept = contexts_kept items index item inside (λ context is. absurd (let none = sym (ap (λ (i : Item). i.blob) was) ∙ is in cc));
      };
      stand = record {
        started = stand.started;
        sound = counted_sound slots stand.sound (omega arith);
        each = all_but (λ (item : Item). ItemStands slots item) (λ (item : Item). ItemStands (counted_slots slots) item) items index item no_item stand.each
            (λ j other apart stands. counted_item slots (item_at items j) stands)
            (counted_item slots item (both_stands slots client slot context own.full same));
        owned = λ n. let names = naming_set items index item n inside in
            let old : number (is_named (item_at items index).slot n) ≡ number (slot == n) = ap (λ (i : Item). number (is_named i.slot n)) was in
            omega (arith, stand.owned n);
      };
      pending = omega arith;
      rises = omega arith;
    }

-- ---- an object is flushed, with a context beside it

out_stands : (slots : SlotState) (client : Option ℕ) (slot : ℕ) (context : List ℕ) → is_some (object_at slots None (Some context)) ≡ true
    → ItemStands (with_slot slots slot None) (item_out client context)
out_stands slots client slot context there = record { there = λ somewhere. there; beside = λ resident kept. absurd cc }

-- what an item in a slot, with a context beside it, keeps
pub beside_same : (slots : SlotState) (old : Item) (client : Option ℕ) (slot : ℕ) (context : List ℕ) → old ≡ item_both client slot context → ItemStands slots old
    → object_at slots None (Some context) ≡ get_or slots.slots slot None
beside_same slots old client slot context is stands =
    let moved : ItemStands slots (item_both client slot context) = subst (λ (i : Item). ItemStands slots i) is stands in
    moved.beside refl refl

pub item_stands : (slots : SlotState) (items : List Item) (others : List ℕ) (index : ℕ) → ObjectsStand slots items others → index < length items
    → ItemStands slots (item_at items index)
item_stands slots items others index stand inside = All-from_recursion (λ (item : Item). ItemStands slots item) items stand.each index no_item inside

flushed_told : (slots : SlotState) (items : List Item) (others : List ℕ) (index : ℕ) (client : Option ℕ) (slot : ℕ) (context : List ℕ) → ObjectsStand slots items others
    → index < length items → item_at items index ≡ item_both client slot context
    → KeepsStanding (Some slots) (Some (with_slot slots slot None)) items (set items index (item_out client context)) others
flushed_told slots items others index client slot context stand inside was =
    let item = item_out client context in
    let own = own slots items others index slot stand.owned inside (ap (λ (i : Item). i.slot) was) in
    let same = beside_same slots (item_at items index) client slot context was (item_stands slots items others index stand inside) in
    let there : is_some (object_at slots None (Some context)) ≡ true =
    ap (λ (o : Option Object). is_some o) same ∙ is_true (is_some (get_or slots.slots slot None)) (omega (arith, own.full)) in
    let moves = emptying slots items others index slot item stand inside (ap (λ (i : Item). i.slot) was) refl (out_stands slots client slot context there) in
    let unsaved = unsaved_set items index (item_both client slot context) item inside was in
    record {
      rest = refl;
      objects = record {
        objects = ap (λ (objects : List (Option Object)). Some objects) (
            objects_moved slots items index slot None item moves
            ∙ objects_kept slots items index (object_at slots None (Some context)) inside (same ∙ sym (ap (item_object slots) was))
            );
        owners = map_kept (λ item. (item.client, is_vacant item)) items index item inside (sym (ap (λ (i : Item). (i.client, is_vacant i)) was));
        kept = contexts_kept items index item inside (λ context is. sym (ap (λ (i : Item). i.blob) was) ∙ is);
      };
      stand = stands_moved slots items others index slot None item moves stand;
      pending = omega arith;
      rises = omega arith;
    }

-- ---- an object is loaded

loaded_told : (slots : SlotState) (items : List Item) (others : List ℕ) (index : ℕ) (client : Option ℕ) (context : List ℕ) → ObjectsStand slots items others
    → index < length items → item_at items index ≡ item_out client context → list_any is_free slots.slots ≡ true
    → let held = object_at slots None (Some context) in
    KeepsStanding (Some slots) (Some (with_slot slots (free_slot slots.slots) held)) items (set items index (item_both client (free_slot slots.slots) context)) others
loaded_told slots items others index client context stand inside was room =
    let slot = free_slot slots.slots in
    let held = object_at slots None (Some context) in
    let item = item_both client slot context in
    let old : ItemStands slots (item_out client context) =
    subst (λ (i : Item). ItemStands slots i) was (item_stands slots items others index stand inside) in
    let there : is_some held ≡ true = old.there refl in
    let here : get_or (set slots.slots slot held) slot None ≡ held = get_or-set_same slots.slots slot held None (free slots.slots room).fits in
    let stands : ItemStands (with_slot slots slot held) item = record {
      there = λ somewhere. ap (λ (o : Option Object). is_some o) here ∙ there;
      beside = λ resident kept. sym here;
    } in
    let moves = filling slots items others index held item stand inside room (ap (λ (i : Item). i.slot) was) refl
    (object_at_is slots None (Some context) stand.sound) there stands in
    let unsaved = unsaved_set items index (item_out client context) item inside was in
    record {
      rest = refl;
      objects = record {
        objects = ap (λ (objects : List (Option Object)). Some objects) (
            objects_moved slots items index slot held item moves
            ∙ objects_kept slots items index (item_object (with_slot slots slot held) item) inside (here ∙ sym (ap (item_object slots) was))
            );
        owners = map_kept (λ item. (item.client, is_vacant item)) items index item inside (sym (ap (λ (i : Item). (i.client, is_vacant i)) was));
        kept = contexts_kept items index item inside (λ context is. sym (ap (λ (i : Item). i.blob) was) ∙ is);
      };
      stand = stands_moved slots items others index slot held item moves stand;
      pending = omega arith;
      rises = omega arith;
    }

-- ---- in every state

untold_kept : (items : List Item) (others : List ℕ) (index : ℕ) (item : Item) → index < length items
    → item.client ≡ (item_at items index).client → is_vacant item ≡ is_vacant (item_at items index)
    → ((context : List ℕ) → (item_at items index).blob ≡ Some context → item.blob ≡ Some context)
    → KeepsStanding None None items (set items index item) others
untold_kept items others index item inside client vacant kept = record {
  rest = refl;
  objects = record {
    objects = refl;
    owners = map_kept (λ item. (item.client, is_vacant item)) items index item inside (λ i. (client i, vacant i));
    kept = contexts_kept items index item inside kept;
  };
  stand = tt;
  pending = refl;
  rises = omega arith;
}

pub saved_keeps : (state : Option SlotState) (items : List Item) (others : List ℕ) (index : ℕ) (client : Option ℕ) (handle : ℕ) (context : List ℕ) → Stand state items others
    → index < length items → item_at items index ≡ item_in client (slot_of handle) → pending_of state items ≤ CONTEXT_LIMIT
    → IfSome state (λ slots. object_at slots None (Some context) ≡ in_slot slots handle)
    → KeepsStanding state (counted state) items (set items index (item_both client (slot_of handle) context)) others
saved_keeps None items others index client handle context stand inside was below same =
    untold_kept items others index (item_both client (slot_of handle) context) inside (sym (ap (λ (i : Item). i.client) was)) (sym (ap is_vacant was))
    (λ context is. absurd (let none = sym (ap (λ (i : Item). i.blob) was) ∙ is in cc))
saved_keeps (Some slots) items others index client handle context stand inside was below same =
    saved_told slots items others index client (slot_of handle) context stand inside was below same

pub flushed_keeps : (state : Option SlotState) (items : List Item) (others : List ℕ) (index : ℕ) (client : Option ℕ) (handle : ℕ) (context : List ℕ) → Stand state items others
    → index < length items → item_at items index ≡ item_both client (slot_of handle) context
    → KeepsStanding state (emptied handle state) items (set items index (item_out client context))
    others
flushed_keeps None items others index client handle context stand inside was =
    untold_kept items others index (item_out client context) inside (sym (ap (λ (i : Item). i.client) was)) (sym (ap is_vacant was))
    (λ context is. sym (ap (λ (i : Item). i.blob) was) ∙ is)
flushed_keeps (Some slots) items others index client handle context stand inside was =
    flushed_told slots items others index client (slot_of handle) context stand inside was

-- the handle of the least free slot
pub loaded_keeps : (state : Option SlotState) (items : List Item) (others : List ℕ) (index : ℕ) (client : Option ℕ) (slot : ℕ) (context : List ℕ) → Stand state items others
    → index < length items → item_at items index ≡ item_out client context → IfSome state (λ slots. list_any is_free slots.slots ≡ true)
    → IfSome state (λ slots. slot ≡ free_slot slots.slots)
    → KeepsStanding state (filled context state) items (set items index (item_both client slot context)) others
loaded_keeps None items others index client slot context stand inside was room is =
    untold_kept items others index (item_both client slot context) inside (sym (ap (λ (i : Item). i.client) was)) (sym (ap is_vacant was))
    (λ context is. sym (ap (λ (i : Item). i.blob) was) ∙ is)
loaded_keeps (Some slots) items others index client slot context stand inside was room is =
    subst (λ (n : ℕ). KeepsStanding (Some slots) (filled context (Some slots)) items (set items index (item_both client n context)) others) (sym is)
    (loaded_told slots items others index client context stand inside was room)

-- ---- an object is dropped

-- what a drop leaves
pub record Drops (old_state new_state : Option SlotState) (old new : List Item) (index : ℕ) (others : List ℕ) : Type 0 where
  pub objects : objects_of new_state new ≡ without_object index (objects_of old_state old)
  pub stand : Stand new_state new others

pub no_item_stands : (slots : SlotState) → ItemStands slots no_item
no_item_stands slots = record { there = λ somewhere. absurd cc; beside = λ resident kept. absurd cc }

pub emptied_counter : (handle : ℕ) (state : Option SlotState) → counter_of (emptied handle state) ≡ counter_of state
emptied_counter handle None = refl
emptied_counter handle (Some slots) = refl

pub emptied_rest : (handle : ℕ) (state : Option SlotState) → rest_of (emptied handle state) ≡ rest_of state
emptied_rest handle None = refl
emptied_rest handle (Some slots) = refl

pub flushed_drops : (state : Option SlotState) (items : List Item) (others : List ℕ) (index handle : ℕ) → Stand state items others → index < length items
    → (item_at items index).slot ≡ Some (slot_of handle) → Drops state (emptied handle state) items (set items index no_item) index others
flushed_drops None items others index handle stand inside was = record { objects = refl; stand = tt }
flushed_drops (Some slots) items others index handle stand inside was =
    let slot = slot_of handle in
    let moves = emptying slots items others index slot no_item stand inside was refl (no_item_stands (with_slot slots slot None)) in
    record {
      objects = ap (λ (objects : List (Option Object)). Some objects) (objects_moved slots items index slot None no_item moves);
      stand = stands_moved slots items others index slot None no_item moves stand;
    }

-- where it is in no slot
pub left_drops : (state : Option SlotState) (items : List Item) (others : List ℕ) (index : ℕ) → Stand state items others → index < length items
    → (item_at items index).slot ≡ None → Drops state state items (set items index no_item) index others
left_drops None items others index stand inside was = record { objects = refl; stand = tt }
left_drops (Some slots) items others index stand inside was = record {
  objects = ap (λ (objects : List (Option Object)). Some objects) (map-set (item_object slots) items index no_item);
  stand = record {
    started = stand.started;
    sound = stand.sound;
    each = all_but (λ (item : Item). ItemStands slots item) (λ (item : Item). ItemStands slots item) items index no_item no_item stand.each
        (λ j other apart stands. stands) (no_item_stands slots);
    owned = λ n. let names = naming_set items index no_item n inside in
        let none = named_none (item_at items index).slot n was in
        omega (arith, stand.owned n);
  };
}

-- ---- an object is adopted

pub record Adopts (slots : SlotState) (items : List Item) (index client slot : ℕ) (others : List ℕ) : Type 0 where
  pub stand : ObjectsStand slots (set items index (new_item client slot)) others
  pub objects : map (item_object slots) (set items index (new_item client slot)) ≡ set (map (item_object slots) items) index (get_or slots.slots slot None)

vacant_slot : (slot : Option ℕ) (blob : Option (List ℕ)) → (not (is_some slot) && not (is_some blob)) ≡ true → slot ≡ None
vacant_slot None blob vacant = refl
vacant_slot (Some n) blob vacant = absurd cc

pub adopts : (slots : SlotState) (items : List Item) (index client slot : ℕ) (others : List ℕ) → ObjectsStand slots items (slot ∷ others) → index < length items
    → is_vacant (item_at items index) ≡ true → Adopts slots items index client slot others
adopts slots items index client slot others stand inside vacant =
    let item = new_item client slot in
    let least = count_cons (λ (other : ℕ). other == slot) slot others in
    let here = number_true (slot == slot) (eq-eqb slot slot refl) in
    let full : is_some (get_or slots.slots slot None) ≡ true = is_true (is_some (get_or slots.slots slot None)) (omega (arith, stand.owned slot)) in
    let none = vacant_slot (item_at items index).slot (item_at items index).blob vacant in
    record {
      stand = record {
        started = stand.started;
        sound = stand.sound;
        each = all_but (λ (item : Item). ItemStands slots item) (λ (item : Item). ItemStands slots item) items index item no_item stand.each
            (λ j other apart stands. stands)
            (record { there = λ somewhere. full; beside = λ resident kept. absurd cc });
        owned = λ n. let names = naming_set items index item n inside in
            let old = named_none (item_at items index).slot n none in
            let one = count_cons (λ (other : ℕ). other == n) slot others in
            omega (arith, stand.owned n);
      };
      objects = map-set (item_object slots) items index item;
    }
