-- What the moves of one item keep: the objects of all items, and that these stand.
use Rattle.std.proofs.Common.{◌≡◌, ◌≢◌, ◌+◌, ◌<◌, ◌≤◌, ℕ, true, false, List, length, set, map, refl, ap, sym, ◌∙◌, arith, length-set}
use Rattle.std.specs.Prelude.{Option, Some, None, is_some, IfSome}
use Rattle.std.specs.List.{AllByRecursion}
use Rattle.std.proofs.lemmas.Bool.{eq-eqb, eqb-false}
use Rattle.std.proofs.lemmas.List.{map-set, get_or-set_other}
use Rattle.tab_spec.specs.Object.{Object, IsObject}
use Rattle.device_spec.specs.Slots.{SlotState, IsSlots, object_at, object_of_context, with_slot}
use Rattle.object_swap.specs.Items.{Item, ItemStands, ObjectsStand, is_named, item_at, item_object, naming, no_item, taken}
use Rattle.object_swap.specs.Records.{number}
use Rattle.object_swap.proofs.Counts.{all_but, count_one, count_set, count_two, is_false, map_but, number_true}

-- ---- slots that an item doesn't name

abbrev pub Elsewhere : List Item → ℕ → ℕ → Type 0
Elsewhere items index slot = (j : ℕ) → j < length items → j ≢ index → is_named (item_at items j).slot slot ≡ false

names_slot : (slot : Option ℕ) (n : ℕ) → slot ≡ Some n → is_named slot n ≡ true
names_slot slot n is = ap (λ (s : Option ℕ). is_named s n) is ∙ eq-eqb n n refl

-- where one item names a slot that has one owner at most, the others don't
pub elsewhere_named : (items : List Item) (index slot : ℕ) → index < length items → (item_at items index).slot ≡ Some slot → naming items slot ≤ 1
    → Elsewhere items index slot
elsewhere_named items index slot inside is most j other apart =
    let here = names_slot (item_at items index).slot slot is in
    is_false (is_named (item_at items j).slot slot)
    (omega (arith, count_two (λ (item : Item). is_named item.slot slot) items index j no_item inside other apart, number_true _ here))

pub elsewhere_free : (items : List Item) (index slot : ℕ) → naming items slot ≡ 0 → Elsewhere items index slot
elsewhere_free items index slot none j other apart =
    is_false (is_named (item_at items j).slot slot) (omega (arith, count_one (λ (item : Item). is_named item.slot slot) items j no_item other))

-- ---- objects

pub context_same : (slots : SlotState) (slot : ℕ) (held : Option Object) (blob : Option (List ℕ))
    → object_of_context (with_slot slots slot held) blob ≡ object_of_context slots blob
context_same slots slot held None = refl
context_same slots slot held (Some bytes) = refl

pub object_elsewhere : (slots : SlotState) (slot : ℕ) (held : Option Object) (named : Option ℕ) (blob : Option (List ℕ)) → is_named named slot ≡ false
    → object_at (with_slot slots slot held) named blob ≡ object_at slots named blob
object_elsewhere slots slot held None blob apart = context_same slots slot held blob
object_elsewhere slots slot held (Some n) blob apart = get_or-set_other slots.slots slot n held None (eqb-false n slot apart)

-- ---- a slot that changes

-- what changes: a slot, and the one item that names it before or after
pub record Moves (slots : SlotState) (items : List Item) (index slot : ℕ) (held : Option Object) (item : Item) : Type 0 where
  pub inside : index < length items
  pub fits : slot < length slots.slots
  pub elsewhere : Elsewhere items index slot
  pub object : IfSome held IsObject
  pub stands : ItemStands (with_slot slots slot held) item
  -- how many name each slot
  pub named : (n : ℕ) → taken (with_slot slots slot held) n + number (is_named (item_at items index).slot n) ≡ taken slots n + number (is_named item.slot n)

pub objects_moved : (slots : SlotState) (items : List Item) (index slot : ℕ) (held : Option Object) (item : Item) → Moves slots items index slot held item
    → map (item_object (with_slot slots slot held)) (set items index item) ≡ set (map (item_object slots) items) index (item_object (with_slot slots slot held) item)
objects_moved slots items index slot held item moves =
    map-set (item_object (with_slot slots slot held)) items index item
    ∙ map_but (item_object (with_slot slots slot held)) (item_object slots) items index (item_object (with_slot slots slot held) item) no_item
    (λ j inside apart. object_elsewhere slots slot held (item_at items j).slot (item_at items j).blob (moves.elsewhere j inside apart))

pub item_elsewhere : (slots : SlotState) (slot : ℕ) (held : Option Object) (item : Item) → is_named item.slot slot ≡ false → ItemStands slots item
    → ItemStands (with_slot slots slot held) item
item_elsewhere slots slot held item apart stands =
    let same = object_elsewhere slots slot held item.slot item.blob apart in
    record {
      there = λ full. ap (λ (o : Option Object). is_some o) same ∙ stands.there full;
      beside = λ resident kept. context_same slots slot held item.blob ∙ stands.beside resident kept ∙ sym same;
    }

objects_set : (held : List (Option Object)) (slot : ℕ) (o : Option Object) → IfSome o IsObject → AllByRecursion (λ slot. IfSome slot IsObject) held
    → AllByRecursion (λ slot. IfSome slot IsObject) (set held slot o)
objects_set held slot o is all =
    all_but (λ (slot : Option Object). IfSome slot IsObject) (λ (slot : Option Object). IfSome slot IsObject) held slot o None all (λ j inside apart h. h) is

pub slots_moved : (slots : SlotState) (slot : ℕ) (held : Option Object) → IfSome held IsObject → IsSlots slots → IsSlots (with_slot slots slot held)
slots_moved slots slot held object sound = record {
  persist = sound.persist;
  range = sound.range;
  count = length-set slots.slots slot held ∙ sound.count;
  objects = objects_set slots.slots slot held object sound.objects;
  object_counter = sound.object_counter;
  numbers = sound.numbers;
  places = sound.places;
  loaded = sound.loaded;
  apart = sound.apart;
  counter = sound.counter;
}

pub naming_set : (items : List Item) (index : ℕ) (item : Item) (n : ℕ) → index < length items
    → naming (set items index item) n + number (is_named (item_at items index).slot n) ≡ naming items n + number (is_named item.slot n)
naming_set items index item n inside = count_set (λ (item : Item). is_named item.slot n) items index item no_item inside

pub stands_moved : (slots : SlotState) (items : List Item) (others : List ℕ) (index slot : ℕ) (held : Option Object) (item : Item)
    → Moves slots items index slot held item → ObjectsStand slots items others → ObjectsStand (with_slot slots slot held) (set items index item) others
stands_moved slots items others index slot held item moves stand = record {
  started = stand.started;
  sound = slots_moved slots slot held moves.object stand.sound;
  each = all_but (λ (item : Item). ItemStands slots item) (λ (item : Item). ItemStands (with_slot slots slot held) item) items index item no_item stand.each
      (λ j inside apart stands. item_elsewhere slots slot held (item_at items j) (moves.elsewhere j inside apart) stands) moves.stands;
  owned = λ n. omega (arith, naming_set items index item n moves.inside, moves.named n, stand.owned n);
}
