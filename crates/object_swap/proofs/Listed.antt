-- The code's list of residents, and what the records say of them.
use Rattle.std.proofs.Common.{◌≡◌, ◌≢◌, ◌+◌, ◌<◌, inl, inr, ℕ, zero, suc, Bool, true, false, List, [], ◌∷◌, length, get_or, set, map, refl, ap, subst, sym, ◌∙◌, arith, length-set}
use Rattle.std.specs.Prelude.{◌==◌, not, ◌&&◌, Option, Some, None, is_some}
use Rattle.std.specs.List.{count_by}
use Rattle.std.proofs.lemmas.Bool.{cases_eq, eq-eqb, eqb-true, false_from_ne_true, false≢true, ne_eqb}
use Rattle.std.proofs.lemmas.List.{length-map, set-get_or, get_or-set_same, get_or-set_other}
use Rattle.std.proofs.lemmas.List.Folds.{list_any_at}
use Rattle.std.proofs.lemmas.List.Elements.{All-from_recursion}
use Rattle.std.proofs.lemmas.List.Sums.{count_by-le-length}
use Rattle.object_swap.specs.declared.record.Record.{Record}
use Rattle.device_port.specs.Use.{is_among, without_one}
use Rattle.object_swap.specs.Items.{AreResident, AreThere, Item, Lists, Names, is_resident, is_vacant, item_at, owners, residents}
use Rattle.object_swap.specs.Moves.{IsItem}
use Rattle.object_swap.specs.Records.{ListsFlags, NoMore, item_of, items_of, number, residency, slot_in}
use Rattle.object_swap.proofs.Counts.{count_cons, count_set, number_false}
use Rattle.object_swap.proofs.Flags.{listed}
use Rattle.object_swap.proofs.Order.{without_unlisted}
use Rattle.object_swap.proofs.Recorded.{was}

-- ---- flags

pub flag_at : (items : List Item) (index : ℕ) → get_or (map is_resident items) index false ≡ is_resident (item_at items index)
flag_at [] index = refl
flag_at (item ∷ items) zero = refl
flag_at (item ∷ items) (suc index) = flag_at items index

pub flags_length : (records : List Record) → length (residency records) ≡ length records
flags_length records = omega (arith, length-map (items_of records) is_resident, length-map records item_of)

not_vacant : (slot : Option ℕ) (blob : Option (List ℕ)) → is_some slot ≡ true → (not (is_some slot) && not (is_some blob)) ≡ false
not_vacant None blob is = absurd cc
not_vacant (Some n) blob is = refl

-- a true flag is that of a resident
pub item_flag : (records : List Record) (index : ℕ) → index < length (residency records) → get_or (residency records) index false ≡ true → IsItem records index true
item_flag records index inside flag =
    let resident = sym (flag_at (items_of records) index) ∙ flag in
    let item = item_at (items_of records) index in
    record { inside = omega (arith, flags_length records); there = not_vacant item.slot item.blob resident; slot = resident }

pub item_listed : (records : List Record) (indices : List ℕ) (at index : ℕ) → ListsFlags (residency records) indices → at < length indices → index ≡ get_or indices at index
    → IsItem records index true
item_listed records indices at index lists inside is =
    let found = listed (residency records) indices at index lists inside in
    subst (λ (n : ℕ). IsItem records n true) (sym is) (item_flag records (get_or indices at index) found.inside found.flag)

-- it is one still where the flags are the same
pub item_again : (records new_records : List Record) (index : ℕ) → residency new_records ≡ residency records → IsItem records index true → IsItem new_records index true
item_again records new_records index same item =
    item_flag new_records index (omega (arith, ap (λ (flags : List Bool). length flags) same, flags_length records, item.inside))
    (ap (λ (flags : List Bool). get_or flags index false) same ∙ flag_at (items_of records) index ∙ item.slot)

-- ---- an object that gets a slot

pub named_inside : (records : List Record) (index : ℕ) → Names (items_of records) index → index < length records
named_inside records index names = omega (arith, names.inside, length-map records item_of)

pub out_item_is : (records : List Record) (index : ℕ) → Names (items_of records) index → is_resident (item_at (items_of records) index) ≡ false
    → IsItem records index false
out_item_is records index names out = record { inside = named_inside records index names; there = names.there; slot = out }

-- where it has one, its flag is true already
pub resident_set : (records : List Record) (index : ℕ) → is_resident (item_at (items_of records) index) ≡ true
    → residency records ≡ set (residency records) index true
resident_set records index here =
    sym (set-get_or (residency records) index false) ∙ ap (set (residency records) index) (flag_at (items_of records) index ∙ here)

-- there is room in the list for one more
pub list_room : (records : List Record) (indices : List ℕ) (index : ℕ) → ListsFlags (residency records) indices → IsItem records index false
    → length indices < length records
list_room records indices index lists item =
    let flags = residency records in
    let inside : index < length flags = omega (arith, flags_length records, item.inside) in
    omega (
      arith,
      lists.count,
      flags_length records,
      count_set (λ (flag : Bool). flag) flags index true false inside,
      number_false (get_or flags index false) (flag_at (items_of records) index ∙ item.slot),
      count_by-le-length (λ (flag : Bool). flag) (set flags index true),
      length-set flags index true,
    )

pub item_unflagged : (records : List Record) (index : ℕ) → IsItem records index false → (index < length (residency records)) × (get_or (residency records) index false ≡ false)
item_unflagged records index item = (omega (arith, flags_length records, item.inside), flag_at (items_of records) index ∙ item.slot)

-- and it isn't listed
pub not_listed : (records : List Record) (indices : List ℕ) (index : ℕ) → ListsFlags (residency records) indices → IsItem records index false
    → without_one index indices ≡ indices
not_listed records indices index lists item =
    without_unlisted index indices (lists.each index ∙ ap number (flag_at (items_of records) index ∙ item.slot))

-- ---- no more residents

pub same_flags : (flags new_flags : List Bool) → new_flags ≡ flags → NoMore flags new_flags
same_flags flags new_flags same index out = ap (λ (l : List Bool). get_or l index false) same ∙ out

pub flag_cleared : (flags : List Bool) (n : ℕ) → NoMore flags (set flags n false)
flag_cleared [] n index out = out
flag_cleared (flag ∷ flags) zero zero out = refl
flag_cleared (flag ∷ flags) zero (suc index) out = out
flag_cleared (flag ∷ flags) (suc n) zero out = out
flag_cleared (flag ∷ flags) (suc n) (suc index) out = flag_cleared flags n index out

cleared_at : (flags : List Bool) (n : ℕ) → get_or (set flags n false) n false ≡ false
cleared_at [] n = refl
cleared_at (flag ∷ flags) zero = refl
cleared_at (flag ∷ flags) (suc n) = cleared_at flags n

-- the one that left is in no slot
pub is_out : (records : List Record) (flags : List Bool) (n index : ℕ) → residency records ≡ set flags n false → n ≡ index
    → is_resident (item_at (items_of records) index) ≡ false
is_out records flags n index is here =
    sym (flag_at (items_of records) index) ∙ ap (λ (l : List Bool). get_or l index false) is
    ∙ ap (λ (k : ℕ). get_or (set flags n false) k false) (sym here) ∙ cleared_at flags n

-- ---- those that are needed

pub among_itself : (needed : List ℕ) (k d : ℕ) → k < length needed → is_among needed (get_or needed k d) ≡ true
among_itself needed k d inside =
    list_any_at (λ (one : ℕ). one == get_or needed k d) needed k d inside (eq-eqb (get_or needed k d) (get_or needed k d) refl)

vacants : (items : List Item) → map (λ p. p.1) (owners items) ≡ map is_vacant items
vacants [] = refl
vacants (item ∷ items) = ap (λ (flags : List Bool). is_vacant item ∷ flags) (vacants items)

vacant_at : (items : List Item) (index : ℕ) → get_or (map is_vacant items) index true ≡ is_vacant (item_at items index)
vacant_at [] index = refl
vacant_at (item ∷ items) zero = refl
vacant_at (item ∷ items) (suc index) = vacant_at items index

-- which are vacant doesn't change
pub same_vacancy : (items new_items : List Item) → owners new_items ≡ owners items → map is_vacant new_items ≡ map is_vacant items
same_vacancy items new_items same = sym (vacants new_items) ∙ ap (map (λ (p : Option ℕ × Bool). p.1)) same ∙ vacants items

pub vacant_again : (items new_items : List Item) → owners new_items ≡ owners items
    → (index : ℕ) → is_vacant (item_at new_items index) ≡ is_vacant (item_at items index)
vacant_again items new_items same index =
    sym (vacant_at new_items index) ∙ ap (λ (flags : List Bool). get_or flags index true) (same_vacancy items new_items same) ∙ vacant_at items index

pub named_again : (items new_items : List Item) (index : ℕ) → owners new_items ≡ owners items → Names items index → Names new_items index
named_again items new_items index same names =
    let flags = same_vacancy items new_items same in
    record {
      inside = omega (arith, ap (λ (flags : List Bool). length flags) flags, length-map items is_vacant, length-map new_items is_vacant, names.inside);
      there = vacant_again items new_items same index ∙ names.there;
    }

pub needed_at : (needed : List ℕ) (items : List Item) (k d : ℕ) → AreThere needed items → k < length needed → Names items (get_or needed k d)
needed_at needed items k d there inside = All-from_recursion (λ (index : ℕ). Names items index) needed there k d inside

pub counted_flags : (items : List Item) → count_by (λ flag. flag) (map is_resident items) ≡ residents items
counted_flags [] = refl
counted_flags (item ∷ items) =
    omega (arith, count_cons (λ (flag : Bool). flag) (is_resident item) (map is_resident items), count_cons is_resident item items, counted_flags items)

-- the list of the residents, over the items
pub lists_items : (records : List Record) (indices : List ℕ) → ListsFlags (residency records) indices → Lists indices (items_of records)
lists_items records indices lists = record {
  each = λ index. lists.each index ∙ ap number (flag_at (items_of records) index);
  count = lists.count ∙ counted_flags (items_of records);
}

-- all that are needed have slots
pub all_resident : (needed : List ℕ) (records : List Record) → ((k : ℕ) → k < length needed → get_or (residency records) (get_or needed k 0) false ≡ true)
    → AreResident needed (items_of records)
all_resident [] records filled = tt
all_resident (n ∷ needed) records filled =
    (sym (flag_at (items_of records) n) ∙ filled 0 (omega arith), all_resident needed records (λ k inside. filled (suc k) (omega arith)))

pub filled_more : (needed : List ℕ) (flags : List Bool) (i : ℕ) → ((k : ℕ) → k < i → get_or flags (get_or needed k 0) false ≡ true) → get_or needed i 0 < length flags
    → (k : ℕ) → k < i + 1 → get_or (set flags (get_or needed i 0) true) (get_or needed k 0) false ≡ true
filled_more needed flags i filled inside k below =
    elim (cases_eq (get_or needed k 0) (get_or needed i 0)) [
      | inl same ↦ ap (λ (n : ℕ). get_or (set flags (get_or needed i 0) true) n false) same ∙ get_or-set_same flags (get_or needed i 0) true false inside
      | inr apart ↦
          let k_apart : k ≢ i = λ e. apart (ap (λ (j : ℕ). get_or needed j 0) e) in
          get_or-set_other flags (get_or needed i 0) (get_or needed k 0) true false apart ∙ filled k (omega arith)
    ]

pub all_named : (needed : List ℕ) (items new_items : List Item) → owners new_items ≡ owners items → AreThere needed items → AreThere needed new_items
all_named [] items new_items same there = tt
all_named (n ∷ needed) items new_items same there = (named_again items new_items n same there.0, all_named needed items new_items same there.1)

-- a record without a handle is in no slot
pub none_slot : (records : List Record) (index : ℕ) (d : Record) → index < length records → (get_or records index d).handle ≡ None
    → (item_at (items_of records) index).slot ≡ None
none_slot records index d inside none = ap (λ (i : Item). i.slot) (was records index d inside).at ∙ ap slot_in none

-- ---- what stays

pub get_or_any : (xs : List ℕ) (at d e : ℕ) → at < length xs → get_or xs at d ≡ get_or xs at e
get_or_any [] at d e inside = absurd (omega (arith, inside))
get_or_any (x ∷ xs) zero d e inside = refl
get_or_any (x ∷ xs) (suc at) d e inside = get_or_any xs at d e (omega (arith, inside))

-- one that is needed isn't one that isn't
pub apart_needed : (needed : List ℕ) (index other : ℕ) → is_among needed index ≡ false → is_among needed other ≡ true
    → (other == index) ≡ false
apart_needed needed index other out is =
    false_from_ne_true (other == index)
    (λ same. false≢true (sym out ∙ ap (is_among needed) (sym (eqb-true other index same)) ∙ is))

-- what stays in one step and then in the next
pub stay_then : (items mid new : List Item) → ((index : ℕ) → is_resident (item_at items index) ≡ true → item_at mid index ≡ item_at items index)
    → ((index : ℕ) → is_resident (item_at mid index) ≡ true → item_at new index ≡ item_at mid index)
    → (index : ℕ) → is_resident (item_at items index) ≡ true → item_at new index ≡ item_at items index
stay_then items mid new first second index is = second index (ap is_resident (first index is) ∙ is) ∙ first index is

-- what is still in a slot stayed, where one object left
pub kept_still : (items mid new : List Item) (index : ℕ) → ((other : ℕ) → is_resident (item_at mid other) ≡ true → item_at mid other ≡ item_at items other)
    → ((other : ℕ) → (other == index) ≡ false → item_at new other ≡ item_at mid other) → is_resident (item_at new index) ≡ false
    → (other : ℕ) → is_resident (item_at new other) ≡ true → item_at new other ≡ item_at items other
kept_still items mid new index kept others out other is =
    elim (cases_eq other index) [
      | inl same ↦ absurd (false≢true (sym out ∙ ap (λ (n : ℕ). is_resident (item_at new n)) (sym same) ∙ is))
      | inr apart ↦
          let this = others other (ne_eqb other index apart) in
          this ∙ kept other (ap is_resident (sym this) ∙ is)
    ]

-- one that isn't needed isn't one that is
pub apart_among : (needed : List ℕ) (index other : ℕ) → is_among needed index ≡ true → is_among needed other ≡ false → (other == index) ≡ false
apart_among needed index other is out =
    false_from_ne_true (other == index) (λ same. false≢true (sym out ∙ ap (is_among needed) (eqb-true other index same) ∙ is))

-- what is in a slot stays, where one object is brought in
pub stay_brought : (records new_records : List Record) (index : ℕ)
    → ((other : ℕ) → (other == index) ≡ false → item_at (items_of new_records) other ≡ item_at (items_of records) other)
    → (is_resident (item_at (items_of records) index) ≡ true → new_records ≡ records)
    → (other : ℕ) → is_resident (item_at (items_of records) other) ≡ true → item_at (items_of new_records) other ≡ item_at (items_of records) other
stay_brought records new_records index others idle other is =
    elim (cases_eq other index) [
      | inl same ↦ ap (λ (l : List Record). item_at (items_of l) other)
          (idle (ap (λ (n : ℕ). is_resident (item_at (items_of records) n)) (sym same) ∙ is))
      | inr apart ↦ others other (ne_eqb other index apart)
    ]
