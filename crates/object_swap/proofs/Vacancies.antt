-- What holds of the residents and of the objects of nobody, and what the calls make of it.
use Rattle.std.proofs.Common.{◌≡◌, ◌+◌, ◌<◌, ◌≤◌, ◌^◌, inl, inr, ℕ, Bool, true, false, List, [], ◌∷◌, ◌++◌, length, get_or, set, map, refl, ap, subst, sym, ◌∙◌, ◌/◌, arith, length-append, length-set}
use Rattle.std.specs.Prelude.{◌==◌, not, ◌&&◌, Option, Some, None, is_some, max, IfSome, if◌then◌else◌}
use Rattle.std.specs.List.{list_any}
use Rattle.std.proofs.lemmas.List.Elements.{All-push}
use Rattle.std.proofs.lemmas.List.{map-set, set-get_or, length-map, map_push}
use Rattle.std.proofs.lemmas.Bool.{cases_lt, eqb-true}
use Rattle.tab_spec.specs.declared.TheConstants.{HT_TRANSIENT}
use Rattle.tab_spec.specs.Shape.{octet_of}
use Rattle.tab_spec.specs.declared.contexts.ContextLimits.{ContextLimits}
use Rattle.device_spec.specs.Slots.{slot_of}
use Rattle.linked_records.specs.View.{IsListed, RecordsView, record_count}
use Rattle.object_swap.specs.declared.record.Record.{Record}
use Rattle.object_swap.specs.Items.{Item, handle_in, is_resident, is_vacant, item_at, new_item, no_item, owners, residents}
use Rattle.object_swap.specs.Records.{AreRecords, HoldsResidents, IsOwnedBy, IsRecord, ListsFlags, ListsResidents, item_of, items_of, residency, slot_in}
use Rattle.object_swap.proofs.Counts.{count_set, number_true}
use Rattle.object_swap.proofs.Flags.{lists_added, lists_false, one_unlisted}
use Rattle.object_swap.proofs.Listed.{counted_flags, flag_at, flags_length}
use Rattle.object_swap.proofs.Owned.{past_other, put_inside, put_vacant, some_vacant}
use Rattle.object_swap.proofs.Recorded.{item_there, records_set, residency_set}

pub vacant_out : (slot : Option ℕ) (blob : Option (List ℕ)) → (not (is_some slot) && not (is_some blob)) ≡ true → is_some slot ≡ false
vacant_out None blob vacant = refl
vacant_out (Some n) blob vacant = absurd cc

pub out_flag : (records : List Record) (item : ℕ) → is_resident (item_at (items_of records) item) ≡ false → get_or (residency records) item false ≡ false
out_flag records item out = flag_at (items_of records) item ∙ out

-- there is room in the list of residents
pub resident_room : (records : List Record) (loaded : List ℕ) (item : ℕ) → ListsFlags (residency records) loaded → item < length records
    → is_resident (item_at (items_of records) item) ≡ false → length loaded < length records
resident_room records loaded item lists inside out =
    omega (arith, one_unlisted (residency records) loaded item lists (omega (arith, flags_length records)) (out_flag records item out), flags_length records)

-- ---- the place of a new object

-- the index that an insertion into a list gives is that of a vacant record; so many are
pub record Placed (records : List Record) (view : RecordsView (Unit {0})) (count item : ℕ) : Type 0 where
  pub some : 1 ≤ count
  pub inside : item < length records
  pub items_inside : item < length (items_of records)
  pub vacant : is_vacant (item_at (items_of records) item) ≡ true
  pub out : is_resident (item_at (items_of records) item) ≡ false
  pub least : (given : ℕ) → given ≡ max view.given (item + 1) → record_count view.lists + 1 ≤ given
  pub most : (given : ℕ) → given ≡ max view.given (item + 1) → given ≤ length (items_of records)

pub placed : (records : List Record) (view : RecordsView (Unit {0})) (owners : List (Option ℕ)) (vacant item : ℕ)
    → IsOwnedBy (items_of records) view owners vacant → list_any is_vacant (items_of records) ≡ true → (IsListed view.lists item → ⊥)
    → (record_count view.lists ≡ view.given → item ≡ view.given) → (record_count view.lists < view.given → item < view.given)
    → Placed records view vacant item
placed records view owners vacant item has room fresh last before =
    let items = items_of records in
    let some = some_vacant items view owners vacant has room in
    let inside = put_inside items view owners vacant has item fresh some last before in
    let is = put_vacant items view owners vacant has item fresh in
    record {
      some = some;
      inside = omega (arith, inside, length-map records item_of);
      items_inside = inside;
      vacant = is;
      out = vacant_out (item_at items item).slot (item_at items item).blob is;
      least = λ given is. elim (cases_lt (record_count view.lists) view.given) [
        | inl less ↦ omega (arith, less, is)
        | inr most ↦ omega (arith, last (omega (arith, most, has.counted.given_least)), most, has.counted.given_least, is)
      ];
      most = λ given is. omega (arith, is, inside, has.counted.given_most);
    }

vacant_unkept : (slot : Option ℕ) (kept : Bool) (bytes : List ℕ) → (not (is_some slot) && not (is_some (if kept then Some bytes else None))) ≡ true → kept ≡ false
vacant_unkept slot false bytes vacant = refl
vacant_unkept None true bytes vacant = absurd cc
vacant_unkept (Some n) true bytes vacant = absurd cc

-- a vacant record keeps no context
pub unkept : (records : List Record) (item : ℕ) (d : Record) → item < length records → is_vacant (item_at (items_of records) item) ≡ true
    → (get_or records item d).kept ≡ false
unkept records item d inside vacant =
    let r = get_or records item d in
    vacant_unkept (slot_in r.handle) r.kept r.blob.items (sym (ap is_vacant (item_there records item d inside)) ∙ vacant)

pub adopted_item : (n : Record) (client handle : ℕ) → n.client ≡ Some client → n.handle ≡ Some handle → n.kept ≡ false → item_of n ≡ new_item client (slot_of handle)
adopted_item n client handle client_is handle_is kept_is =
    λ i. record { client = client_is i; slot = slot_in (handle_is i); blob = if kept_is i then Some n.blob.items else None }

-- the handle of a slot
pub handle_again : (handle : Option ℕ) → IfSome handle (λ h. (octet_of h == HT_TRANSIENT) ≡ true) → handle_in (slot_in handle) ≡ handle
handle_again None is = refl
handle_again (Some h) is =
    let octet : h / 2 ^ 24 ≡ HT_TRANSIENT = eqb-true (h / 2 ^ 24) HT_TRANSIENT is in
    ap (λ (n : ℕ). Some n) (omega (arith, octet))

-- ---- what holds of the residents

-- an object comes
pub held_adopted : {contexts : ContextLimits} (records : List Record) (loaded left : List ℕ) (loaded_room new_loaded_room left_room slots item client slot : ℕ) (n : Record)
    → HoldsResidents contexts records loaded left loaded_room left_room slots → item < length records → is_resident (item_at (items_of records) item) ≡ false
    → item_of n ≡ new_item client slot → IsRecord contexts n → loaded_room ≤ new_loaded_room → residents (items_of records) + length left < slots
    → HoldsResidents contexts (set records item n) (loaded ++ item ∷ []) left new_loaded_room left_room slots
held_adopted records loaded left loaded_room new_loaded_room left_room slots item client slot n holds inside out item_is sound more free = record {
  sound = records_set records item n holds.sound sound;
  residents = subst (λ (flags : List Bool). ListsFlags flags (loaded ++ item ∷ []))
      (sym (residency_set records item n ∙ ap (λ (i : Item). set (residency records) item (is_resident i)) item_is))
      (lists_added (residency records) loaded item holds.residents (omega (arith, flags_length records, inside)) (out_flag records item out));
  room_for_loaded = omega (arith, length-set records item n, holds.room_for_loaded);
  few = omega (arith, length-set records item n, holds.few);
  fits = omega (arith, length-append loaded (item ∷ []), holds.residents.count, counted_flags (items_of records), free);
  room_for_left = holds.room_for_left;
  transient = holds.transient;
}

-- an object goes
forgotten_flags : (records new_records : List Record) (item : ℕ) → items_of new_records ≡ set (items_of records) item no_item
    → residency new_records ≡ set (residency records) item false
forgotten_flags records new_records item is = ap (map is_resident) is ∙ map-set is_resident (items_of records) item no_item

module _ {contexts : ContextLimits} (records new_records : List Record) (loaded left : List ℕ) (loaded_room left_room slots item : ℕ)
    (holds : HoldsResidents contexts records loaded left loaded_room left_room slots) (is : items_of new_records ≡ set (items_of records) item no_item)
    (sound : AreRecords contexts new_records) (count : length new_records ≡ length records) where
  -- where it was in no slot
  pub held_out : is_resident (item_at (items_of records) item) ≡ false → HoldsResidents contexts new_records loaded left loaded_room left_room slots
  held_out out =
      let same : set (residency records) item false ≡ residency records =
      ap (set (residency records) item) (sym (out_flag records item out)) ∙ set-get_or (residency records) item false in
      record {
        sound = sound;
        residents = subst (λ (flags : List Bool). ListsFlags flags loaded) (sym (forgotten_flags records new_records item is ∙ same)) holds.residents;
        room_for_loaded = omega (arith, holds.room_for_loaded);
        few = omega (arith, holds.few);
        fits = holds.fits;
        room_for_left = holds.room_for_left;
        transient = holds.transient;
      }

  module _ (new_loaded : List ℕ) (new_loaded_room : ℕ) (inside : item < length records)
      (resident : is_resident (item_at (items_of records) item) ≡ true) (lists : ListsFlags (set (residency records) item false) new_loaded)
      (same : new_loaded_room ≡ loaded_room) where
    pub one_fewer : length new_loaded + 1 ≡ length loaded
    one_fewer =
        let flags = residency records in
        omega (
          arith,
          lists.count,
          holds.residents.count,
          count_set (λ (flag : Bool). flag) flags item false false (omega (arith, flags_length records, inside)),
          number_true (get_or flags item false) (flag_at (items_of records) item ∙ resident),
        )

    -- where it was in one
    pub held_flushed : HoldsResidents contexts new_records new_loaded left new_loaded_room left_room slots
    held_flushed = record {
      sound = sound;
      residents = subst (λ (flags : List Bool). ListsFlags flags new_loaded) (sym (forgotten_flags records new_records item is)) lists;
      room_for_loaded = omega (arith, holds.room_for_loaded, same);
      few = omega (arith, holds.few);
      fits = omega (arith, one_fewer, holds.fits);
      room_for_left = holds.room_for_left;
      transient = holds.transient;
    }

    -- and where that is left to nobody
    pub held_orphaned : (handle new_left_room : ℕ) → (octet_of handle == HT_TRANSIENT) ≡ true → left_room ≤ new_left_room
        → HoldsResidents contexts new_records new_loaded (left ++ handle ∷ []) new_loaded_room new_left_room slots
    held_orphaned handle new_left_room is_transient more = record {
      sound = sound;
      residents = held_flushed.residents;
      room_for_loaded = held_flushed.room_for_loaded;
      few = held_flushed.few;
      fits = omega (arith, one_fewer, holds.fits, length-append left (handle ∷ []));
      room_for_left = omega (arith, holds.room_for_left, more);
      transient = All-push (λ (h : ℕ). (octet_of h == HT_TRANSIENT) ≡ true) left handle holds.transient is_transient;
    }

-- one of those of nobody goes
pub held_popped : {contexts : ContextLimits} (records : List Record) (loaded left new_left : List ℕ) (loaded_room left_room new_left_room slots handle : ℕ)
    → HoldsResidents contexts records loaded left loaded_room left_room slots → left ≡ new_left ++ handle ∷ [] → new_left_room ≡ left_room
    → HoldsResidents contexts records loaded new_left loaded_room new_left_room slots
held_popped records loaded left new_left loaded_room left_room new_left_room slots handle holds is same =
    let count = ap (λ (l : List ℕ). length l) is in
    record {
      sound = holds.sound;
      residents = holds.residents;
      room_for_loaded = holds.room_for_loaded;
      few = holds.few;
      fits = omega (arith, holds.fits, count, length-append new_left (handle ∷ []));
      room_for_left = omega (arith, holds.room_for_left, same);
      transient = λ k d inside. ap (λ (h : ℕ). octet_of h == HT_TRANSIENT)
          (sym (past_other new_left handle d k (omega (arith, inside))) ∙ sym (ap (λ (l : List ℕ). get_or l k d) is))
          ∙ holds.transient k d (omega (arith, inside, count, length-append new_left (handle ∷ [])));
    }

-- one record more
pub held_more : {contexts : ContextLimits} (records : List Record) (loaded left : List ℕ) (loaded_room new_loaded_room left_room slots : ℕ) (n : Record)
    → HoldsResidents contexts records loaded left loaded_room left_room slots → IsRecord contexts n → item_of n ≡ no_item → length records + 1 ≤ new_loaded_room
    → length records + 1 < 2 ^ 32 → HoldsResidents contexts (records ++ n ∷ []) loaded left new_loaded_room left_room slots
held_more {contexts = contexts} records loaded left loaded_room new_loaded_room left_room slots n holds is item more few =
    let items = map_push item_of records n ∙ ap (λ (i : Item). items_of records ++ i ∷ []) item in
    let flags = ap (map is_resident) items ∙ map_push is_resident (items_of records) no_item in
    record {
      sound = All-push (λ (r : Record). IsRecord contexts r) records n holds.sound is;
      residents = subst (λ (f : List Bool). ListsFlags f loaded) (sym flags) (lists_false (residency records) loaded holds.residents);
      room_for_loaded = omega (arith, length-append records (n ∷ []), more);
      few = omega (arith, length-append records (n ∷ []), few);
      fits = holds.fits;
      room_for_left = holds.room_for_left;
      transient = holds.transient;
    }

-- ---- objects that are swapped

pub same_length : (records new_records : List Record) → owners (items_of new_records) ≡ owners (items_of records) → length new_records ≡ length records
same_length records new_records same =
    omega (
      arith,
      ap (λ (l : List (Option ℕ × Bool)). length l) same,
      length-map {B = Option ℕ × Bool} (items_of records) (λ (item : Item). (item.client, is_vacant item)),
      length-map {B = Option ℕ × Bool} (items_of new_records) (λ (item : Item). (item.client, is_vacant item)),
      length-map records item_of,
      length-map new_records item_of,
    )

pub same_items : (records new_records : List Record) → owners (items_of new_records) ≡ owners (items_of records)
    → length (items_of new_records) ≡ length (items_of records)
same_items records new_records same =
    omega (arith, same_length records new_records same, length-map records item_of, length-map new_records item_of)

pub swapped_held : {contexts : ContextLimits} (records new_records : List Record) (loaded new_loaded left : List ℕ) (loaded_room new_loaded_room left_room slots : ℕ)
    → HoldsResidents contexts records loaded left loaded_room left_room slots → owners (items_of new_records) ≡ owners (items_of records) → AreRecords contexts new_records
    → ListsResidents new_records new_loaded new_loaded_room → length new_loaded + length left ≤ slots
    → HoldsResidents contexts new_records new_loaded left new_loaded_room left_room slots
swapped_held records new_records loaded new_loaded left loaded_room new_loaded_room left_room slots holds same sound listed fits =
    let count = same_length records new_records same in
    record {
      sound = sound;
      residents = listed.lists;
      room_for_loaded = listed.most;
      few = omega (arith, holds.few);
      fits = fits;
      room_for_left = holds.room_for_left;
      transient = holds.transient;
    }
