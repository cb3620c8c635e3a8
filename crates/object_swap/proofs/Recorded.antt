-- Moves of one item, over the records that the code keeps.
use Rattle.std.proofs.Common.{◌≡◌, ◌+◌, ◌<◌, ◌≤◌, ℕ, Bool, true, false, List, [], length, get_or, set, map, refl, ap, subst, sym, ◌∙◌, arith, length-set}
use Rattle.std.specs.Prelude.{◌==◌, not, ◌&&◌, Option, Some, None, is_some, IfSome, MatchOption, if◌then◌else◌}
use Rattle.std.specs.List.{list_any}
use Rattle.std.proofs.lemmas.Bool.{eqb-false, eqb-true}
use Rattle.std.proofs.lemmas.List.{map-set, get_or-map, get_or-set_same, get_or-set_other, set-get_or, length-map}
use Rattle.std.proofs.lemmas.List.Elements.{All-set}
use Rattle.tab_spec.specs.declared.TheConstants.{CONTEXT_LIMIT, HT_TRANSIENT, TRANSIENT_FIRST}
use Rattle.tab_spec.specs.Shape.{octet_of}
use Rattle.tab_spec.specs.declared.contexts.ContextLimits.{ContextLimits}
use Rattle.device_spec.specs.Slots.{SlotState, free_slot, in_slot, is_free, object_at, slot_of}
use Rattle.device_port.specs.Device.{Seen}
use Rattle.object_swap.specs.declared.record.Record.{Record}
use Rattle.object_swap.specs.Items.{Item, ItemStands, Stand, handle_in, is_resident, is_unsaved, is_vacant, item_at, no_item, pending_of}
use Rattle.object_swap.specs.Moves.{IsIn, IsLeast, IsOut, KeepsStanding, Ready, Swaps, counted, emptied, filled}
use Rattle.object_swap.specs.Records.{AreRecords, IsRecord, item_of, items_of, number, residency, slot_in}
use Rattle.object_swap.proofs.Counts.{count_one, is_true}
use Rattle.object_swap.proofs.Moved.{flushed_keeps, item_both, item_in, item_out, item_stands, loaded_keeps, own, saved_keeps}

pub item_there : (records : List Record) (index : ℕ) (d : Record) → index < length records → item_at (items_of records) index ≡ item_of (get_or records index d)
item_there records index d inside = get_or-map item_of records index d no_item inside

pub item_new : (records : List Record) (index : ℕ) (n : Record) → index < length records → item_at (items_of (set records index n)) index ≡ item_of n
item_new records index n inside =
    item_there (set records index n) index n (omega (arith, length-set records index n, inside)) ∙ ap item_of (get_or-set_same records index n n inside)

pub set_same : {X Y : Type 0} (f : X → Y) (xs : List X) (index : ℕ) (x d : X) → index < length xs → f x ≡ f (get_or xs index d)
    → map f (set xs index x) ≡ map f xs
set_same f xs index x d inside same =
    map-set f xs index x ∙ ap (set (map f xs) index) (same ∙ sym (get_or-map f xs index d (f d) inside)) ∙ set-get_or (map f xs) index (f d)

-- every other item stays as it is
pub other_item : (records : List Record) (index other : ℕ) (n : Record) → (other == index) ≡ false
    → item_at (items_of (set records index n)) other ≡ item_at (items_of records) other
other_item records index other n apart =
    ap (λ (l : List Item). item_at l other) (map-set item_of records index n)
    ∙ get_or-set_other (items_of records) index other (item_of n) no_item (eqb-false other index apart)

-- ---- residency

pub residency_set : (records : List Record) (index : ℕ) (n : Record) → residency (set records index n) ≡ set (residency records) index (is_resident (item_of n))
residency_set records index n = ap (map is_resident) (map-set item_of records index n) ∙ map-set is_resident (items_of records) index (item_of n)

pub residency_kept : (records : List Record) (index : ℕ) (d n : Record) → index < length records → n.handle ≡ (get_or records index d).handle
    → residency (set records index n) ≡ residency records
residency_kept records index d n inside same =
    residency_set records index n ∙ ap (λ (h : Option ℕ). set (residency records) index (is_some (slot_in h))) same
    ∙ sym (residency_set records index (get_or records index d)) ∙ ap residency (set-get_or records index d)

-- ---- what is kept

pub keeps_then : (a b c : Option SlotState) (xs ys zs : List Item) (others : List ℕ) → KeepsStanding a b xs ys others → KeepsStanding b c ys zs others → KeepsStanding a c xs zs others
keeps_then a b c xs ys zs others first second = record {
  rest = second.rest ∙ first.rest;
  objects = record {
    objects = second.objects.objects ∙ first.objects.objects;
    owners = second.objects.owners ∙ first.objects.owners;
    kept = λ index context is. second.objects.kept index context (first.objects.kept index context is);
  };
  stand = second.stand;
  pending = second.pending ∙ first.pending;
  rises = omega (arith, first.rises, second.rises);
}

-- one move after another
pub swaps_then : {D : Type 0} {contexts : ContextLimits} (seen : D → Seen) (a b c : D) (xs ys zs : List Record)
    → Swaps contexts seen a b xs ys → Swaps contexts seen b c ys zs → Swaps contexts seen a c xs zs
swaps_then seen a b c xs ys zs first second = record {
  keeps = keeps_then (seen a).state (seen b).state (seen c).state (items_of xs) (items_of ys) (items_of zs) [] first.keeps second.keeps;
  sound = second.sound;
}

-- ---- nothing moved

pub keeps_same : (state new_state : Option SlotState) (xs ys : List Item) (others : List ℕ) → Stand state xs others → new_state ≡ state → ys ≡ xs
    → KeepsStanding state new_state xs ys others
keeps_same state new_state xs ys others stand same kept =
    let at_rest : KeepsStanding state state xs xs others = record { rest = refl; objects = record { objects = refl; owners = refl; kept = λ index context is. is }; stand = stand; pending = refl; rises = omega arith } in
    subst (λ (st : Option SlotState). KeepsStanding state st xs ys others) (sym same) (subst (λ (items : List Item). KeepsStanding state state xs items others) (sym kept) at_rest)

-- nothing was moved yet
pub swaps_none : {D : Type 0} {contexts : ContextLimits} (seen : D → Seen) (device : D) (records : List Record) → Ready contexts (seen device).state records
    → Swaps contexts seen device device records records
swaps_none seen device records ready = record {
  keeps = keeps_same (seen device).state (seen device).state (items_of records) (items_of records) [] ready.stand refl refl;
  sound = ready.sound;
}

-- it is ready again
pub ready_again : {contexts : ContextLimits} (state new_state : Option SlotState) (records new_records : List Record) → Ready contexts state records
    → KeepsStanding state new_state (items_of records) (items_of new_records) [] → AreRecords contexts new_records → Ready contexts new_state new_records
ready_again state new_state records new_records ready keeps sound = record {
  sound = sound;
  stand = keeps.stand;
  below = omega (arith, keeps.pending, ready.below);
}

-- ---- an object is saved

pub saved_item : (r : Record) (handle : ℕ) (kept : Bool) → r.handle ≡ Some handle → r.kept ≡ kept
    → item_of r ≡ record { client = r.client; slot = Some (slot_of handle); blob = if kept then Some r.blob.items else None }
saved_item r handle kept handle_is kept_is =
    λ i. record { client = r.client; slot = slot_in (handle_is i); blob = if kept_is i then Some r.blob.items else None }

pub out_item : (r : Record) (kept : Bool) → r.handle ≡ None → r.kept ≡ kept
    → item_of r ≡ record { client = r.client; slot = None; blob = if kept then Some r.blob.items else None }
out_item r kept handle_is kept_is =
    λ i. record { client = r.client; slot = slot_in (handle_is i); blob = if kept_is i then Some r.blob.items else None }

with_client : (n : Record) (client slot : Option ℕ) (blob : Option (List ℕ)) → item_of n ≡ record { client = n.client; slot = slot; blob = blob } → n.client ≡ client
    → item_of n ≡ record { client = client; slot = slot; blob = blob }
with_client n client slot blob is same = is ∙ (λ i. record { client = same i; slot = slot; blob = blob })

-- with the items that the records are of
moved_by : (state moved new_state : Option SlotState) (records : List Record) (index : ℕ) (n : Record) (item : Item) → new_state ≡ moved → item_of n ≡ item
    → KeepsStanding state moved (items_of records) (set (items_of records) index item) [] → KeepsStanding state new_state (items_of records) (items_of (set records index n)) []
moved_by state moved new_state records index n item state_is is keeps =
    subst (λ (st : Option SlotState). KeepsStanding state st (items_of records) (items_of (set records index n)) []) (sym state_is)
    (subst (λ (items : List Item). KeepsStanding state moved (items_of records) items []) (sym (map-set item_of records index n ∙ ap (set (items_of records) index) is)) keeps)

pub inside_items : (records : List Record) (index : ℕ) → index < length records → index < length (items_of records)
inside_items records index inside = omega (arith, length-map records item_of)

-- of the record at its place
pub record Was (records : List Record) (index : ℕ) (r : Record) : Type 0 where
  pub at : item_at (items_of records) index ≡ item_of r
  pub inside : index < length (items_of records)

pub was : (records : List Record) (index : ℕ) (d : Record) → index < length records → Was records index (get_or records index d)
was records index d inside = record { at = item_there records index d inside; inside = inside_items records index inside }

pub saved_swap : {contexts : ContextLimits} (state new_state : Option SlotState) (records : List Record) (index handle : ℕ) (r n : Record) → Was records index r → Ready contexts state records
    → r.handle ≡ Some handle → r.kept ≡ false → n.client ≡ r.client → n.handle ≡ Some handle → n.kept ≡ true
    → new_state ≡ counted state → IfSome state (λ slots. object_at slots None (Some n.blob.items) ≡ in_slot slots handle)
    → KeepsStanding state new_state (items_of records) (items_of (set records index n)) []
saved_swap state new_state records index handle r n was ready handle_is kept_is client_is handle_new kept_new state_is same =
    moved_by state (counted state) new_state records index n (item_both r.client (slot_of handle) n.blob.items) state_is
    (with_client n r.client (Some (slot_of handle)) (Some n.blob.items) (saved_item n handle true handle_new kept_new) client_is)
    (saved_keeps state (items_of records) [] index r.client handle n.blob.items ready.stand was.inside (was.at ∙ saved_item r handle false handle_is kept_is) ready.below same)

pub flushed_swap : {contexts : ContextLimits} (state new_state : Option SlotState) (records : List Record) (index handle : ℕ) (r n : Record) → Was records index r → Ready contexts state records
    → r.handle ≡ Some handle → r.kept ≡ true → n.client ≡ r.client → n.handle ≡ None → n.kept ≡ true → n.blob.items ≡ r.blob.items
    → new_state ≡ emptied handle state → KeepsStanding state new_state (items_of records) (items_of (set records index n)) []
flushed_swap state new_state records index handle r n was ready handle_is kept_is client_is handle_new kept_new blob_is state_is =
    moved_by state (emptied handle state) new_state records index n (item_out r.client r.blob.items) state_is
    (with_client n r.client None (Some n.blob.items) (out_item n true handle_new kept_new) client_is
    ∙ ap (λ (b : List ℕ). item_out r.client b) blob_is)
    (flushed_keeps state (items_of records) [] index r.client handle r.blob.items ready.stand was.inside (was.at ∙ saved_item r handle true handle_is kept_is))

least_slot : (state : Option SlotState) (handle : ℕ) → IsLeast state handle → IfSome state (λ slots. slot_of handle ≡ free_slot slots.slots)
least_slot None handle least = tt
least_slot (Some slots) handle least = omega (arith, least)

pub loaded_swap : {contexts : ContextLimits} (state new_state : Option SlotState) (records : List Record) (index handle : ℕ) (r n : Record) → Was records index r → Ready contexts state records
    → r.handle ≡ None → r.kept ≡ true → n.client ≡ r.client → n.handle ≡ Some handle → n.kept ≡ true → n.blob.items ≡ r.blob.items
    → IfSome state (λ slots. list_any is_free slots.slots ≡ true) → IsLeast state handle
    → new_state ≡ filled r.blob.items state → KeepsStanding state new_state (items_of records) (items_of (set records index n)) []
loaded_swap state new_state records index handle r n was ready handle_is kept_is client_is handle_new kept_new blob_is room least state_is =
    moved_by state (filled r.blob.items state) new_state records index n (item_both r.client (slot_of handle) r.blob.items) state_is
    (with_client n r.client (Some (slot_of handle)) (Some n.blob.items) (saved_item n handle true handle_new kept_new) client_is
    ∙ ap (λ (b : List ℕ). item_both r.client (slot_of handle) b) blob_is)
    (loaded_keeps state (items_of records) [] index r.client (slot_of handle) r.blob.items ready.stand was.inside (was.at ∙ out_item r true handle_is kept_is) room
    (least_slot state handle least))

-- ---- what may be sent

pub can_flush : (state : Option SlotState) (items : List Item) (others : List ℕ) (index handle : ℕ) → Stand state items others → index < length items
    → (item_at items index).slot ≡ Some (slot_of handle) → IfSome state (λ slots. IsIn slots handle)
can_flush None items others index handle stand inside is = tt
can_flush (Some slots) items others index handle stand inside is =
    let own = own slots items others index (slot_of handle) stand.owned inside is in
    record { started = stand.started; sound = stand.sound; there = is_true (is_some (in_slot slots handle)) (omega (arith, own.full)) }

pub can_save : (state : Option SlotState) (items : List Item) (others : List ℕ) (index : ℕ) (client : Option ℕ) (handle : ℕ) → Stand state items others → index < length items
    → item_at items index ≡ item_in client (slot_of handle) → pending_of state items ≤ CONTEXT_LIMIT
    → IfSome state (λ slots. IsIn slots handle × (slots.object_counter < CONTEXT_LIMIT))
can_save None items others index client handle stand inside is below = tt
can_save (Some slots) items others index client handle stand inside is below =
    let least = count_one is_unsaved items index no_item inside in
    let this : number (is_unsaved (item_at items index)) ≡ 1 = ap (λ (i : Item). number (is_unsaved i)) is in
    (can_flush (Some slots) items others index handle stand inside (ap (λ (i : Item). i.slot) is), omega arith)

pub can_load : (state : Option SlotState) (items : List Item) (others : List ℕ) (index : ℕ) (client : Option ℕ) (context : List ℕ) → Stand state items others
    → index < length items → item_at items index ≡ item_out client context → IfSome state (λ slots. list_any is_free slots.slots ≡ true)
    → IfSome state (λ slots. IsOut slots context)
can_load None items others index client context stand inside is room = tt
can_load (Some slots) items others index client context stand inside is room =
    let stands : ItemStands slots (item_out client context) =
    subst (λ (i : Item). ItemStands slots i) is (item_stands slots items others index stand inside) in
    record {
      started = stand.started;
      sound = stand.sound;
      room = room;
      there = stands.there refl;
    }

-- ---- records

pub record_at : {contexts : ContextLimits} (records : List Record) (index : ℕ) (d : Record) → AreRecords contexts records → index < length records → IsRecord contexts (get_or records index d)
record_at records index d sound inside = sound index d inside

pub records_set : {contexts : ContextLimits} (records : List Record) (index : ℕ) (n : Record) → AreRecords contexts records → IsRecord contexts n → AreRecords contexts (set records index n)
records_set {contexts = contexts} records index n sound is = All-set (λ (r : Record). IsRecord contexts r) records index n is sound

unsaved_item : (r : Record) → r.kept ≡ false → item_of r ≡ record { client = r.client; slot = slot_in r.handle; blob = None }
unsaved_item r is = λ i. record { client = r.client; slot = slot_in r.handle; blob = if is i then Some r.blob.items else None }

-- its room alone has changed, and holds no context
pub room_changed : (records : List Record) (index : ℕ) (d n : Record) → index < length records → n.client ≡ (get_or records index d).client
    → n.handle ≡ (get_or records index d).handle → n.kept ≡ false → (get_or records index d).kept ≡ false → items_of (set records index n) ≡ items_of records
room_changed records index d n inside client handle kept was =
    let r = get_or records index d in
    set_same item_of records index n d inside
    (unsaved_item n kept ∙ (λ i. record { client = client i; slot = slot_in (handle i); blob = None }) ∙ sym (unsaved_item r was))

-- what a record says of its item
pub slot_is : (records : List Record) (index handle : ℕ) (r : Record) → Was records index r → r.handle ≡ Some handle
    → (item_at (items_of records) index).slot ≡ Some (slot_of handle)
slot_is records index handle r was is = ap (λ (i : Item). i.slot) was.at ∙ ap slot_in is

-- the handle of its slot is the record's
handle_again : (handle : ℕ) → (octet_of handle == HT_TRANSIENT) ≡ true → TRANSIENT_FIRST + slot_of handle ≡ handle
handle_again handle transient = omega (arith, eqb-true (octet_of handle) HT_TRANSIENT transient)

-- so what is said of the record's is said of the item's
pub of_handle : (X : Type 0) (P : ℕ → Type 0) (slot : Option ℕ) (handle : ℕ) → slot ≡ Some (slot_of handle) → (octet_of handle == HT_TRANSIENT) ≡ true → P handle
    → MatchOption (handle_in slot) X P
of_handle X P slot handle slot_is transient p =
    subst (λ (s : Option ℕ). MatchOption (handle_in s) X P) (sym slot_is) (subst P (sym (handle_again handle transient)) p)

pub unsent : (slot : Option ℕ) (X : Type 0) (P : ℕ → Type 0) → slot ≡ None → X → MatchOption (handle_in slot) X P
unsent slot X P slot_is x = subst (λ (s : Option ℕ). MatchOption (handle_in s) X P) (sym slot_is) x

blob_by : (kept : Bool) (bytes : List ℕ) → is_some (if kept then Some bytes else None) ≡ true → kept ≡ true
blob_by true bytes is = refl
blob_by false bytes is = absurd cc

-- a context is kept, where the item has one
pub kept_is : (records : List Record) (index : ℕ) (r : Record) → Was records index r → is_some (item_at (items_of records) index).blob ≡ true → r.kept ≡ true
kept_is records index r was is = blob_by r.kept r.blob.items (sym (ap (λ (i : Item). is_some i.blob) was.at) ∙ is)

-- and it is this one
pub blob_is : (records : List Record) (index : ℕ) (r : Record) (bytes : List ℕ) → Was records index r → r.kept ≡ true → bytes ≡ r.blob.items
    → (item_at (items_of records) index).blob ≡ Some bytes
blob_is records index r bytes was kept same =
    ap (λ (i : Item). i.blob) was.at ∙ (λ i. if kept i then Some (sym same i) else None)

none_by : (handle : Option ℕ) → is_some (slot_in handle) ≡ false → handle ≡ None
none_by None is = refl
none_by (Some h) is = absurd cc

pub handle_none : (records : List Record) (index : ℕ) (r : Record) → Was records index r → is_resident (item_at (items_of records) index) ≡ false → r.handle ≡ None
handle_none records index r was is = none_by r.handle (sym (ap (λ (i : Item). is_some i.slot) was.at) ∙ is)

-- an item in no slot has a context
out_by : (slot : Option ℕ) (kept : Bool) (bytes : List ℕ) → slot ≡ None → (not (is_some slot) && not (is_some (if kept then Some bytes else None))) ≡ false → kept ≡ true
out_by slot true bytes none there = refl
out_by None false bytes none there = absurd cc
out_by (Some n) false bytes none there = absurd cc

pub out_kept : (records : List Record) (index : ℕ) (r : Record) → Was records index r → r.handle ≡ None → is_vacant (item_at (items_of records) index) ≡ false
    → r.kept ≡ true
out_kept records index r was none there =
    out_by (slot_in r.handle) r.kept r.blob.items (ap slot_in none) (sym (ap is_vacant was.at) ∙ there)
