-- A client's new object: the device has it in the least free slot, and it becomes an item under the least handle that is free.
use Rattle.std.proofs.Common.{◌≡◌, ◌≢◌, ◌+◌, ◌-◌, ◌<◌, ◌≤◌, inl, inr, ℕ, zero, suc, Bool, true, false, List, [], ◌∷◌, length, drop, get_or, set, refl, ap, sym, ◌∙◌, subst, arith, length-set}
use Rattle.std.specs.Prelude.{◌==◌, ◌&&◌, ◌||◌, max, not, Option, Some, None, is_some}
use Rattle.std.specs.List.{AllByRecursion, count_by, list_any}
use Rattle.std.proofs.lemmas.Bool.{cases_eq, eq-eqb, false≢true, leb-false, ne_eqb}
use Rattle.std.proofs.lemmas.List.{get_or-set_same, get_or-set_other}
use Rattle.tab_spec.specs.declared.TheConstants.{CC_CONTEXT_LOAD, HEADER_BYTES, TRANSIENT_FIRST}
use Rattle.tab_spec.specs.Frame.{code_of}
use Rattle.tab_spec.specs.Object.{Object}
use Rattle.device_spec.specs.Slots.{SlotState, IsSlots, free_slot, is_free, object_at, with_slot}
use Rattle.device_laws.proofs.FreshContexts.{object_at_same}
use Rattle.object_swap.specs.Items.{Item, IsOwned, ItemStands, Names, ObjectsStand, is_kept, is_named, is_vacant, item_at, item_object, naming, new_item, no_item, taken}
use Rattle.object_swap.specs.Records.{number}
use Rattle.object_swap.proofs.Counts as counts
use Rattle.object_swap.proofs.Moved.{adopts, free}
use Rattle.object_swap.proofs.Standing.{elsewhere_free, object_elsewhere}
use Rattle.history_spec.specs.declared.TheConstants.{CLIENT_OBJECTS}
use Rattle.history_spec.specs.Table.{count_held, is_full, put_least}
use Rattle.history_laws.proofs.Counts.{count_cons, one_false, one_if, one_true}
use Rattle.world_laws.proofs.Histories.{each-weaker}
use Rattle.history_laws.proofs.Tables.{put, put_all, put_by, put_count}
use Rattle.client_machine.specs.Moves.{Adopts, GainsNone, KeepsOwners, loads_kept, other_than}
use Rattle.client_machine.specs.Tables.{IsTable, IsTablePlace, is_item, naming_in, objects_in, place_object}
use Rattle.client_machine.proofs.Seeing.{seen_places}
use Rattle.client_machine.proofs.Settling.{some_same}

-- ---- what stands in a device depends on its slots and its seed alone

pub item_same : (slots after : SlotState) (item : Item) → slots.slots ≡ after.slots → slots.persist.seed ≡ after.persist.seed
    → item_object after item ≡ item_object slots item
item_same slots after item same seed = sym (object_at_same slots after item.slot item.blob same seed)

stands_same : (slots after : SlotState) (item : Item) → slots.slots ≡ after.slots → slots.persist.seed ≡ after.persist.seed → ItemStands slots item
    → ItemStands after item
stands_same slots after item same seed stands =
    let here = item_same slots after item same seed in
    record {
      there = λ full. ap (λ (o : Option Object). is_some o) here ∙ stands.there full;
      beside = λ resident kept. sym (object_at_same slots after None item.blob same seed) ∙ stands.beside resident kept ∙ sym here;
    }

taken_same : (slots after : SlotState) (n : ℕ) → slots.slots ≡ after.slots → taken after n ≡ taken slots n
taken_same slots after n same = ap (λ (held : List (Option Object)). number (is_some (get_or held n None))) (sym same)

pub stand_same : (slots after : SlotState) (items : List Item) (others : List ℕ) → ObjectsStand slots items others → slots.slots ≡ after.slots
    → slots.persist.seed ≡ after.persist.seed → after.started ≡ true → IsSlots after → ObjectsStand after items others
stand_same slots after items others stand same seed started sound = record {
  started = started;
  sound = sound;
  each = each-weaker (λ item. ItemStands slots item) (λ item. ItemStands after item) items (λ item stands. stands_same slots after item same seed stands) stand.each;
  owned = λ n. stand.owned n ∙ sym (taken_same slots after n same);
}

-- ---- an object is in the least free slot, and nobody's

item_elsewhere : (slots after : SlotState) (slot : ℕ) (held : Option Object) (item : Item) → set slots.slots slot held ≡ after.slots
    → slots.persist.seed ≡ after.persist.seed → is_named item.slot slot ≡ false → item_object after item ≡ item_object slots item
item_elsewhere slots after slot held item same seed apart =
    item_same (with_slot slots slot held) after item same seed ∙ object_elsewhere slots slot held item.slot item.blob apart

context_elsewhere : (slots after : SlotState) (slot : ℕ) (held : Option Object) (blob : Option (List ℕ)) → set slots.slots slot held ≡ after.slots
    → slots.persist.seed ≡ after.persist.seed → object_at after None blob ≡ object_at slots None blob
context_elsewhere slots after slot held blob same seed =
    sym (object_at_same (with_slot slots slot held) after None blob same seed) ∙ object_elsewhere slots slot held None blob refl

stands_elsewhere : (slots after : SlotState) (slot : ℕ) (held : Option Object) (item : Item) → set slots.slots slot held ≡ after.slots
    → slots.persist.seed ≡ after.persist.seed → is_named item.slot slot ≡ false → ItemStands slots item → ItemStands after item
stands_elsewhere slots after slot held item same seed apart stands =
    let here = item_elsewhere slots after slot held item same seed apart in
    record {
      there = λ full. ap (λ (o : Option Object). is_some o) here ∙ stands.there full;
      beside = λ resident kept. context_elsewhere slots after slot held item.blob same seed ∙ stands.beside resident kept ∙ sym here;
    }

taken_here : (slots after : SlotState) (slot : ℕ) (o : Object) → set slots.slots slot (Some o) ≡ after.slots → slot < length slots.slots
    → taken after slot ≡ 1
taken_here slots after slot o same fits =
    ap (λ (held : List (Option Object)). number (is_some (get_or held slot None))) (sym same)
    ∙ ap (λ (held : Option Object). number (is_some held)) (get_or-set_same slots.slots slot (Some o) None fits)

taken_there : (slots after : SlotState) (slot n : ℕ) (o : Object) → set slots.slots slot (Some o) ≡ after.slots → n ≢ slot
    → taken after n ≡ taken slots n
taken_there slots after slot n o same apart =
    ap (λ (held : List (Option Object)). number (is_some (get_or held n None))) (sym same)
    ∙ ap (λ (held : Option Object). number (is_some held)) (get_or-set_other slots.slots slot n (Some o) None apart)

one_more : (others : List ℕ) (slot n : ℕ)
    → count_by (λ (other : ℕ). other == n) (slot ∷ others) ≡ number (slot == n) + count_by (λ (other : ℕ). other == n) others
one_more others slot n = counts.count_cons (λ (other : ℕ). other == n) slot others

filled_owned : (slots after : SlotState) (items : List Item) (others : List ℕ) (slot : ℕ) (o : Object) → IsOwned slots items others
    → set slots.slots slot (Some o) ≡ after.slots → slot < length slots.slots → taken slots slot ≡ 0 → IsOwned after items (slot ∷ others)
filled_owned slots after items others slot o owned same fits empty =
    λ n. elim (cases_eq n slot) [
      | inl is ↦
          subst (λ (n : ℕ). naming items n + count_by (λ (other : ℕ). other == n) (slot ∷ others) ≡ taken after n) (sym is)
          (omega (arith, taken_here slots after slot o same fits, owned slot, empty, one_more others slot slot, counts.number_true (slot == slot) (eq-eqb slot slot refl)))
      | inr apart ↦
          omega (
            arith,
            taken_there slots after slot n o same apart,
            owned n,
            one_more others slot n,
            counts.number_false (slot == n) (ne_eqb slot n (λ is. apart (sym is))),
          )
    ]

-- it leaves what stood
pub record Filled (slots after : SlotState) (items : List Item) (others : List ℕ) (o : Object) : Type 0 where
  pub stand : ObjectsStand after items (free_slot slots.slots ∷ others)
  pub kept : (index : ℕ) → Names items index → item_object after (item_at items index) ≡ item_object slots (item_at items index)
  pub fits : free_slot slots.slots < length slots.slots

pub filled : (slots after : SlotState) (items : List Item) (others : List ℕ) (o : Object) → ObjectsStand slots items others
    → list_any is_free slots.slots ≡ true → set slots.slots (free_slot slots.slots) (Some o) ≡ after.slots → slots.persist.seed ≡ after.persist.seed
    → after.started ≡ true → IsSlots after → Filled slots after items others o
filled slots after items others o stand room same seed started sound =
    let slot = free_slot slots.slots in
    let least = free slots.slots room in
    let empty : taken slots slot ≡ 0 = ap (λ (o : Option Object). number (is_some o)) least.none in
    let apart : (j : ℕ) → j < length items → is_named (item_at items j).slot slot ≡ false =
    λ j inside. elsewhere_free items (length items) slot (omega (arith, stand.owned slot, empty)) j inside (λ is. omega (arith, is, inside)) in
    record {
      stand = record {
        started = started;
        sound = sound;
        each = counts.all_others (λ item. ItemStands slots item) (λ item. ItemStands after item) items no_item stand.each
            (λ j inside stands. stands_elsewhere slots after slot (Some o) (item_at items j) same seed (apart j inside) stands);
        owned = filled_owned slots after items others slot o stand.owned same least.fits empty;
      };
      kept = λ index names. item_elsewhere slots after slot (Some o) (item_at items index) same seed (apart index names.inside);
      fits = least.fits;
    }

-- ---- an item in the place of one that is nowhere

vacant_apart : (items : List Item) (item index : ℕ) → is_vacant (item_at items item) ≡ true → Names items index → index ≢ item
vacant_apart items item index vacant names is =
    let so : is_vacant (item_at items index) ≡ true = ap (λ (n : ℕ). is_vacant (item_at items n)) is ∙ vacant in
    let no : true ≡ false = sym so ∙ names.there in
    cc

pub adopted_item : {client handle : ℕ} {items new_items : List Item} {table new_table : List (Option ℕ)} (index : ℕ)
    → Adopts client handle items new_items table new_table → Names items index → item_at new_items index ≡ item_at items index
adopted_item {client = client} {handle = handle} {items = items} index adopts names =
    ap (λ (all : List Item). item_at all index) adopts.items_are
    ∙ get_or-set_other items adopts.item index (new_item client (handle - TRANSIENT_FIRST)) no_item (vacant_apart items adopts.item index adopts.vacant names)

pub adopted_new : {client handle : ℕ} {items new_items : List Item} {table new_table : List (Option ℕ)}
    (adopts : Adopts client handle items new_items table new_table) → item_at new_items adopts.item ≡ new_item client (handle - TRANSIENT_FIRST)
adopted_new {client = client} {handle = handle} {items = items} adopts =
    ap (λ (all : List Item). item_at all adopts.item) adopts.items_are
    ∙ get_or-set_same items adopts.item (new_item client (handle - TRANSIENT_FIRST)) no_item adopts.inside

pub adopted_length : {client handle : ℕ} {items new_items : List Item} {table new_table : List (Option ℕ)}
    → Adopts client handle items new_items table new_table → length new_items ≡ length items
adopted_length {client = client} {handle = handle} {items = items} adopts =
    ap length adopts.items_are ∙ length-set items adopts.item (new_item client (handle - TRANSIENT_FIRST))

-- no context is kept for either, so that none more is kept and none less
kept_nowhere : (slot : Bool) (blob : Option (List ℕ)) (bytes : List ℕ) → (not slot && not (is_some blob)) ≡ true → is_kept bytes blob ≡ false
kept_nowhere slot None bytes vacant = refl
kept_nowhere true (Some context) bytes vacant = absurd cc
kept_nowhere false (Some context) bytes vacant = absurd cc

any_set : {X : Type 0} (p : X → Bool) (xs : List X) (n : ℕ) (y d : X) → n < length xs → p (get_or xs n d) ≡ false → p y ≡ false
    → list_any p (set xs n y) ≡ list_any p xs
any_set p [] n y d inside was is = absurd (omega arith)
any_set p (x ∷ xs) zero y d inside was is = ap (λ (b : Bool). b || list_any p xs) (is ∙ sym was)
any_set p (x ∷ xs) (suc n) y d inside was is = ap (λ (b : Bool). p x || b) (any_set p xs n y d (omega arith) was is)

pub adopted_loads : {client handle : ℕ} {items new_items : List Item} {table new_table : List (Option ℕ)} (command : List ℕ)
    → Adopts client handle items new_items table new_table → loads_kept new_items command ≡ loads_kept items command
adopted_loads {client = client} {handle = handle} {items = items} command adopts =
    let bytes = drop HEADER_BYTES command in
    let was = item_at items adopts.item in
    ap (λ (all : List Item). loads_kept all command) adopts.items_are
    ∙ ap (λ (kept : Bool). code_of command == CC_CONTEXT_LOAD && kept)
    (any_set (λ item. is_kept bytes item.blob) items adopts.item (new_item client (handle - TRANSIENT_FIRST)) no_item adopts.inside
    (kept_nowhere (is_some was.slot) was.blob bytes adopts.vacant) refl)

pub adopted_names : {client handle : ℕ} {items new_items : List Item} {table new_table : List (Option ℕ)} (index : ℕ)
    → Adopts client handle items new_items table new_table → Names items index → Names new_items index
adopted_names index adopts names = record {
  inside = omega (arith, names.inside, adopted_length adopts);
  there = ap is_vacant (adopted_item index adopts names) ∙ names.there;
}

pub adopted_others : {client handle : ℕ} {items new_items : List Item} {table new_table : List (Option ℕ)}
    (whose : ℕ → Bool) → Adopts client handle items new_items table new_table → KeepsOwners whose items new_items
adopted_others whose adopts index owner names own mine =
    (adopted_names index adopts names, ap (λ (item : Item). item.client) (adopted_item index adopts names) ∙ own)

-- the item at another index is as it was
elsewhere : {client handle : ℕ} {items new_items : List Item} {table new_table : List (Option ℕ)} (index : ℕ)
    → (adopts : Adopts client handle items new_items table new_table) → index ≢ adopts.item → item_at new_items index ≡ item_at items index
elsewhere {client = client} {handle = handle} {items = items} index adopts apart =
    ap (λ (all : List Item). item_at all index) adopts.items_are
    ∙ get_or-set_other items adopts.item index (new_item client (handle - TRANSIENT_FIRST)) no_item apart

-- no other client gets an object
pub adopted_gained : {client handle : ℕ} {items new_items : List Item} {table new_table : List (Option ℕ)}
    → Adopts client handle items new_items table new_table → GainsNone (other_than client) items new_items
adopted_gained {client = client} {items = items} {new_items = new_items} adopts = λ index owner own other.
    elim (cases_eq index adopts.item) [
      | inl same ↦
          let mine : owner ≡ client =
          some_same (sym own ∙ ap (λ (n : ℕ). (item_at new_items n).client) same ∙ ap (λ (item : Item). item.client) (adopted_new adopts)) in
          absurd (false≢true (sym (ap not (eq-eqb owner client mine)) ∙ other))
      | inr apart ↦ ap (λ (item : Item). item.client) (sym (elsewhere index adopts apart)) ∙ own
    ]

adopted_count : {client handle : ℕ} {items new_items : List Item} {table new_table : List (Option ℕ)}
    → Adopts client handle items new_items table new_table → count_held new_table ≡ count_held table + 1
adopted_count {table = table} adopts = ap (λ (places : List (Option ℕ)). count_held places) adopts.table_is ∙ put_count adopts.item table

-- ---- the client's table

-- an item that is nowhere is in no table
not_named : (items : List Item) (client item : ℕ) (table : List (Option ℕ)) → is_vacant (item_at items item) ≡ true
    → AllByRecursion (λ place. IsTablePlace client items place) table → naming_in item table ≡ 0
not_named items client item [] vacant all = refl
not_named items client item (None ∷ table) vacant all = omega (
  arith,
  count_cons (λ (place : Option ℕ). is_item item place) None table,
  not_named items client item table vacant all.1,
)
not_named items client item (Some index ∷ table) vacant all = omega (
  arith,
  count_cons (λ (place : Option ℕ). is_item item place) (Some index) table,
  one_false (index == item) (ne_eqb index item (vacant_apart items item index vacant all.0.0)),
  not_named items client item table vacant all.1,
)

adopted_place : {client handle : ℕ} {items new_items : List Item} {table new_table : List (Option ℕ)}
    → Adopts client handle items new_items table new_table → (place : Option ℕ) → IsTablePlace client items place → IsTablePlace client new_items place
adopted_place adopts None is = tt
adopted_place adopts (Some index) is =
    (adopted_names index adopts is.0, ap (λ (item : Item). item.client) (adopted_item index adopts is.0) ∙ is.1)

adopted_once : {client handle : ℕ} {items new_items : List Item} {table new_table : List (Option ℕ)} (index : ℕ)
    → Adopts client handle items new_items table new_table → IsTable items client table → naming_in index new_table ≤ 1
adopted_once {client = client} {items = items} {table = table} index adopts is =
    let counted : naming_in index (put_least adopts.item table) ≡ naming_in index table + one_if (adopts.item == index) =
    put_by (λ (place : Option ℕ). is_item index place) adopts.item table refl in
    let here : naming_in index (put_least adopts.item table) ≤ 1 =
    elim (cases_eq index adopts.item) [
      | inl same ↦
          omega (
            arith,
            counted,
            ap (λ (n : ℕ). naming_in n table) same,
            not_named items client adopts.item table adopts.vacant is.named,
            one_true (adopts.item == index) (eq-eqb adopts.item index (sym same)),
          )
      | inr apart ↦
          omega (arith, counted, is.apart index, one_false (adopts.item == index) (ne_eqb adopts.item index (λ same. apart (sym same))))
    ] in
    subst (λ (table : List (Option ℕ)). naming_in index table ≤ 1) (sym adopts.table_is) here

-- each object of the client is named
adopted_all : {client handle : ℕ} {items new_items : List Item} {table new_table : List (Option ℕ)} (index : ℕ)
    → Adopts client handle items new_items table new_table → IsTable items client table → (item_at new_items index).client ≡ Some client
    → 1 ≤ naming_in index new_table
adopted_all {client = client} {items = items} {table = table} index adopts is own =
    let counted : naming_in index (put_least adopts.item table) ≡ naming_in index table + one_if (adopts.item == index) =
    put_by (λ (place : Option ℕ). is_item index place) adopts.item table refl in
    let here : 1 ≤ naming_in index (put_least adopts.item table) =
    elim (cases_eq index adopts.item) [
      | inl same ↦ omega (arith, counted, one_true (adopts.item == index) (eq-eqb adopts.item index (sym same)))
      | inr apart ↦ omega (arith, counted, is.all index (ap (λ (item : Item). item.client) (sym (elsewhere index adopts apart)) ∙ own))
    ] in
    subst (λ (table : List (Option ℕ)). 1 ≤ naming_in index table) (sym adopts.table_is) here

-- a table grows only where each of its places is taken
put_length : (item : ℕ) (table : List (Option ℕ)) → length (put_least item table) ≤ max (length table) (count_held table + 1)
put_length item [] = omega arith
put_length item (None ∷ table) = omega arith
put_length item (Some other ∷ table) =
    let held : Option ℕ → Bool = λ place. is_some place in
    omega (arith, put_length item table, count_cons held (Some other) table)

pub adopted_table : {client handle : ℕ} {items new_items : List Item} {table new_table : List (Option ℕ)}
    → Adopts client handle items new_items table new_table → IsTable items client table → is_full table ≡ false → IsTable new_items client new_table
adopted_table {client = client} {items = items} {new_items = new_items} {table = table} adopts is few =
    let new = adopted_new adopts in
    let here : IsTablePlace client new_items (Some adopts.item) = (
      record { inside = omega (arith, adopts.inside, adopted_length adopts); there = ap is_vacant new },
      ap (λ (item : Item). item.client) new,
    ) in
    let named : AllByRecursion (λ place. IsTablePlace client new_items place) (put_least adopts.item table) =
    put_all (λ place. IsTablePlace client new_items place) adopts.item table
    (each-weaker (λ place. IsTablePlace client items place) (λ place. IsTablePlace client new_items place) table (adopted_place adopts) is.named) here in
    record {
      named = subst (λ (table : List (Option ℕ)). AllByRecursion (λ place. IsTablePlace client new_items place) table) (sym adopts.table_is) named;
      apart = λ index. adopted_once index adopts is;
      all = λ index own. adopted_all index adopts is own;
      few = omega (arith, leb-false CLIENT_OBJECTS (count_held table) few, adopted_count adopts);
      short = omega (
        arith,
        leb-false CLIENT_OBJECTS (count_held table) few,
        is.short,
        put_length adopts.item table,
        ap (λ (table : List (Option ℕ)). length table) adopts.table_is,
      );
    }

adopts_stand : {others : List ℕ} (after : SlotState) (items : List Item) (index client slot : ℕ) → ObjectsStand after items (slot ∷ others)
    → index < length items → is_vacant (item_at items index) ≡ true → ObjectsStand after (set items index (new_item client slot)) others
adopts_stand {others = others} after items index client slot stand inside vacant = (adopts after items index client slot others stand inside vacant).stand

place_kept : (slots after : SlotState) (items new_items : List Item) (client : ℕ)
    → ((index : ℕ) → Names items index → item_object after (item_at new_items index) ≡ item_object slots (item_at items index))
    → (place : Option ℕ) → IsTablePlace client items place → place_object after new_items place ≡ place_object slots items place
place_kept slots after items new_items client others None is = refl
place_kept slots after items new_items client others (Some index) is = others index is.0

-- ---- all of it

pub same_objects : (slots after : SlotState) (items : List Item) (table : List (Option ℕ)) → slots.slots ≡ after.slots
    → slots.persist.seed ≡ after.persist.seed → objects_in after items table ≡ objects_in slots items table
same_objects slots after items [] same seed = refl
same_objects slots after items (None ∷ table) same seed =
    ap (λ (rest : List (Option Object)). None ∷ rest) (same_objects slots after items table same seed)
same_objects slots after items (Some index ∷ table) same seed =
    ap (λ (first : Option Object). first ∷ objects_in after items table) (item_same slots after (item_at items index) same seed)
    ∙ ap (λ (rest : List (Option Object)). item_object slots (item_at items index) ∷ rest) (same_objects slots after items table same seed)

-- the device and the client's table with a new object
pub record Adopted (slots after : SlotState) (items new_items : List Item) (left : List ℕ) (table new_table : List (Option ℕ)) (o : Object) : Type 0 where
  pub stand : ObjectsStand after new_items left
  pub others : (index : ℕ) → Names items index → item_object after (item_at new_items index) ≡ item_object slots (item_at items index)
  pub objects : objects_in after new_items new_table ≡ put_least o (objects_in slots items table)

pub adopted : {client handle : ℕ} {items new_items : List Item} {left : List ℕ} {table new_table : List (Option ℕ)} (slots after : SlotState) (o : Object)
    → Filled slots after items left o → set slots.slots (free_slot slots.slots) (Some o) ≡ after.slots → ObjectsStand slots items left
    → IsTable items client table → Adopts client handle items new_items table new_table → handle - TRANSIENT_FIRST ≡ free_slot slots.slots
    → Adopted slots after items new_items left table new_table o
adopted {client = client} {handle = handle} {items = items} {new_items = new_items} {left = left} {table = table} {new_table = new_table} slots after o fill same stand is adopts least =
    let slot = free_slot slots.slots in
    let f : Option ℕ → Option Object = λ place. place_object slots items place in
    let g : Option ℕ → Option Object = λ place. place_object after new_items place in
    let items_are : new_items ≡ set items adopts.item (new_item client slot) =
    adopts.items_are ∙ ap (λ (n : ℕ). set items adopts.item (new_item client n)) least in
    let new : item_at new_items adopts.item ≡ new_item client slot = adopted_new adopts ∙ ap (λ (n : ℕ). new_item client n) least in
    let held : get_or after.slots slot None ≡ Some o =
    ap (λ (held : List (Option Object)). get_or held slot None) (sym same) ∙ get_or-set_same slots.slots slot (Some o) None fill.fits in
    let others : (index : ℕ) → Names items index → item_object after (item_at new_items index) ≡ item_object slots (item_at items index) =
    λ index names. ap (λ (item : Item). item_object after item) (adopted_item index adopts names) ∙ fill.kept index names in
    record {
      stand = subst (λ (items : List Item). ObjectsStand after items left) (sym items_are)
          (adopts_stand after items adopts.item client slot fill.stand adopts.inside adopts.vacant);
      others = others;
      objects = ap (λ (table : List (Option ℕ)). objects_in after new_items table) adopts.table_is
          ∙ put f g adopts.item o table
          (each-weaker (λ place. IsTablePlace client items place) (λ place. g place ≡ f place) table (place_kept slots after items new_items client others) is.named)
          (seen_places slots items client table stand is)
          (ap (λ (item : Item). item_object after item) new ∙ held);
    }
