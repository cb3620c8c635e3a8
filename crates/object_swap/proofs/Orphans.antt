-- Objects of nobody: how one is left, and how it goes.
use Rattle.std.proofs.Common.{◌≡◌, ◌+◌, ◌<◌, ◌++◌, ◌∷◌, [], inl, inr, ℕ, false, List, length, get_or, set, refl, ap, sym, arith}
use Rattle.std.specs.Prelude.{◌==◌, Option, Some, None, is_some, IfSome}
use Rattle.std.specs.List.{count_by}
use Rattle.std.proofs.lemmas.Bool.{cases_eq, eq-eqb, ne_eqb}
use Rattle.tab_spec.specs.Object.{Object}
use Rattle.device_spec.specs.Slots.{SlotState, in_slot, slot_of, with_slot}
use Rattle.object_swap.specs.Items.{Item, ItemStands, ObjectsStand, Stand, is_named, item_at, item_object, naming, no_item, objects_of, taken}
use Rattle.object_swap.specs.Moves.{IsIn, emptied}
use Rattle.object_swap.specs.Records.{number}
use Rattle.object_swap.proofs.Counts.{all_but, all_others, count_append, count_cons, count_one, is_false, is_true, map_same, number_false, number_most, number_true}
use Rattle.object_swap.proofs.Moved.{no_item_stands, taken_fits, taken_here, taken_there}
use Rattle.object_swap.proofs.Standing.{item_elsewhere, naming_set, object_elsewhere, slots_moved}

abbrev stand_at : ℕ → List ℕ → ℕ
stand_at slot others = count_by (λ other. other == slot) others

-- ---- an object that is left to nobody

pub orphaned_stand : (slots : SlotState) (items : List Item) (index slot : ℕ) (others : List ℕ) → ObjectsStand slots items others → index < length items
    → (item_at items index).slot ≡ Some slot → ObjectsStand slots (set items index no_item) (slot ∷ others)
orphaned_stand slots items index slot others stand inside is = record {
  started = stand.started;
  sound = stand.sound;
  each = all_but (λ (item : Item). ItemStands slots item) (λ (item : Item). ItemStands slots item) items index no_item no_item stand.each
      (λ j other apart stands. stands) (no_item_stands slots);
  owned = λ n. omega (
    arith,
    stand.owned n,
    naming_set items index no_item n inside,
    ap (λ (s : Option ℕ). number (is_named s n)) is,
    count_cons (λ (other : ℕ). other == n) slot others,
  );
}

pub orphaned_last : (slots : SlotState) (items : List Item) (slot : ℕ) (others : List ℕ) → ObjectsStand slots items (slot ∷ others)
    → ObjectsStand slots items (others ++ slot ∷ [])
orphaned_last slots items slot others stand = record {
  started = stand.started;
  sound = stand.sound;
  each = stand.each;
  owned = λ n. omega (
    arith,
    stand.owned n,
    count_cons (λ (other : ℕ). other == n) slot others,
    count_append (λ (other : ℕ). other == n) others (slot ∷ []),
    count_cons (λ (other : ℕ). other == n) slot [],
  );
}

-- ---- an object of nobody that goes

-- its slot is taken, and no item's
record Alone (slots : SlotState) (items : List Item) (others : List ℕ) (slot : ℕ) : Type 0 where
  none : naming items slot ≡ 0
  once : stand_at slot others ≡ 0
  full : taken slots slot ≡ 1
  fits : slot < length slots.slots

last_counts : (others : List ℕ) (slot n : ℕ) → stand_at n (others ++ slot ∷ []) ≡ stand_at n others + number (slot == n)
last_counts others slot n =
    omega (arith, count_append (λ (other : ℕ). other == n) others (slot ∷ []), count_cons (λ (other : ℕ). other == n) slot [])

alone : (slots : SlotState) (items : List Item) (others : List ℕ) (slot : ℕ) → ObjectsStand slots items (others ++ slot ∷ []) → Alone slots items others slot
alone slots items others slot stand =
    let here = number_true (slot == slot) (eq-eqb slot slot refl) in
    let last = last_counts others slot slot in
    let most = number_most (is_some (get_or slots.slots slot None)) in
    let full : taken slots slot ≡ 1 = omega (arith, stand.owned slot) in
    record {
      none = omega (arith, stand.owned slot);
      once = omega (arith, stand.owned slot);
      full = full;
      fits = taken_fits slots slot (omega (arith, full));
    }

unnamed : (items : List Item) (slot j : ℕ) → naming items slot ≡ 0 → j < length items → is_named (item_at items j).slot slot ≡ false
unnamed items slot j none inside =
    is_false (is_named (item_at items j).slot slot) (omega (arith, none, count_one (λ (item : Item). is_named item.slot slot) items j no_item inside))

-- what is left stands, and each object of an item stays
pub record Flushes (state new_state : Option SlotState) (items : List Item) (others : List ℕ) : Type 0 where
  pub stand : Stand new_state items others
  pub objects : objects_of new_state items ≡ objects_of state items

pub can_flush_last : (state : Option SlotState) (items : List Item) (others : List ℕ) (handle : ℕ) → Stand state items (others ++ slot_of handle ∷ [])
    → IfSome state (λ slots. IsIn slots handle)
can_flush_last None items others handle stand = tt
can_flush_last (Some slots) items others handle stand =
    let own = alone slots items others (slot_of handle) stand in
    record { started = stand.started; sound = stand.sound; there = is_true (is_some (in_slot slots handle)) (omega (arith, own.full)) }

pub last_flushed : (state : Option SlotState) (items : List Item) (others : List ℕ) (handle : ℕ) → Stand state items (others ++ slot_of handle ∷ [])
    → Flushes state (emptied handle state) items others
last_flushed None items others handle stand = record { stand = tt; objects = refl }
last_flushed (Some slots) items others handle stand =
    let slot = slot_of handle in
    let own = alone slots items others slot stand in
    record {
      stand = record {
        started = stand.started;
        sound = slots_moved slots slot None tt stand.sound;
        each = all_others (λ (item : Item). ItemStands slots item) (λ (item : Item). ItemStands (with_slot slots slot None) item) items no_item stand.each
            (λ j inside stands. item_elsewhere slots slot None (item_at items j) (unnamed items slot j own.none inside) stands);
        owned = λ n. elim (cases_eq n slot) [
          | inl same ↦ omega (
            arith,
            ap (naming items) same,
            own.none,
            ap (λ (k : ℕ). stand_at k others) same,
            own.once,
            ap (taken (with_slot slots slot None)) same,
            taken_here slots slot None own.fits,
          )
          | inr apart ↦ omega (
            arith,
            stand.owned n,
            last_counts others slot n,
            number_false (slot == n) (ne_eqb slot n (λ same. apart (sym same))),
            taken_there slots slot n None apart,
          )
        ];
      };
      objects = ap (λ (objects : List (Option Object)). Some objects)
          (map_same (item_object (with_slot slots slot None)) (item_object slots) items no_item
          (λ j inside. object_elsewhere slots slot None (item_at items j).slot (item_at items j).blob (unnamed items slot j own.none inside)));
    }
