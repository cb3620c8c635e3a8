-- What a call that moves objects alone leaves: what clients have stands as before, and whose it is.
use Rattle.std.proofs.Common.{◌≡◌, ◌+◌, ◌≤◌, ◌<◌, ◌⊎◌, inl, inr, ℕ, zero, suc, Bool, true, false, List, [], ◌∷◌, length, get_or, map, refl, ap, sym, ◌∙◌, subst, arith}
use Rattle.std.proofs.lemmas.Bool.{cases_lt, not-false}
use Rattle.std.proofs.lemmas.Result.{on_ok_weaker}
use Rattle.std.proofs.lemmas.List.{length-map}
use Rattle.std.specs.Prelude.{Option, Some, None, Result, Ok, IfSome, is_some, not, ◌==◌, ◌||◌, if◌then◌else◌}
use Rattle.std.specs.List.{count_by, list_any}
use Rattle.tab_spec.specs.declared.TheConstants.{HT_TRANSIENT, RC_REFERENCE_H0}
use Rattle.tab_spec.specs.declared.Admitted.{Admitted}
use Rattle.tab_spec.specs.Admission.{Tables, admitted, client_admitted, is_missing, missing_handle}
use Rattle.tab_spec.specs.Commands.{row_of}
use Rattle.tab_spec.specs.Object.{Object}
use Rattle.tab_spec.specs.Shape.{octet_of, row_in, shape_by, shape_of}
use Rattle.tab_spec.specs.declared.contexts.ContextLimits.{ContextLimits}
use Rattle.device_port.specs.Device.{Seen}
use Rattle.device_port.specs.Use.{is_among}
use Rattle.device_port.specs.declared.own.SwapError.{SwapError}
use Rattle.tab_laws.proofs.Admissions.{admitted_from}
use Rattle.tab_laws.proofs.Handled.{client_is}
use Rattle.tab_laws.proofs.OwnHandles.{own_handles}
use Rattle.device_spec.specs.Slots.{SessionPlace, SlotState, is_free, loaded_count}
use Rattle.object_swap.specs.Items as objects
use Rattle.object_swap.specs.Items.{AreFree, AreResident, Item, MakesRoom, Moved, Names, ObjectsView, evictions, handle_in, is_resident, is_unsaved, is_vacant, item_at, item_object, missing, no_item, objects_of, owners}
use Rattle.object_swap.proofs.Order.{leaves_few}
use Rattle.session_swap.specs.Items as sessions
use Rattle.session_swap.specs.Items.{SessionsView}
use Rattle.history_laws.proofs.Counts.{count_cons, one_if}
use Rattle.history_laws.proofs.Tables.{held_all}
use Rattle.history_spec.specs.Table.{held_under}
use Rattle.client_machine.specs.declared.held.Held.{Held}
use Rattle.client_machine.specs.Moves.{AreAllActive, KeepsOwners, MovesObjects, Prepares, any_client, first_handle, listed, named_by}
use Rattle.client_machine.specs.Settled.{Settled, orphan_count}
use Rattle.client_machine.specs.Tables.{IsPlaced, IsTable, IsTablePlace, device_handle, handle_or, slot_handle, tables_seen}
use Rattle.client_machine.proofs.Settling.{counter_over_objects, keeps_over_objects, persist_over_objects, rest_over_objects, sessions_over_objects, settled_over_objects, some_same}

-- ---- the items, one by one

at_map : {X Y : Type 0} (f : X → Y) (xs : List X) (i : ℕ) (d : X) → get_or (map f xs) i (f d) ≡ f (get_or xs i d)
at_map f [] i d = refl
at_map f (x ∷ xs) zero d = refl
at_map f (x ∷ xs) (suc i) d = at_map f xs i d

pub objects_told : (old new : Option SlotState) (slots after : SlotState) (items new_items : List Item) → old ≡ Some slots → new ≡ Some after
    → objects_of new new_items ≡ objects_of old items → map (item_object after) new_items ≡ map (item_object slots) items
objects_told old new slots after items new_items was is same =
    some_same
    (sym (ap (λ (state : Option SlotState). objects_of state new_items) is) ∙ same ∙ ap (λ (state : Option SlotState). objects_of state items) was)

pub item_told : (slots after : SlotState) (items new_items : List Item) (index : ℕ) → map (item_object after) new_items ≡ map (item_object slots) items
    → item_object after (item_at new_items index) ≡ item_object slots (item_at items index)
item_told slots after items new_items index same =
    sym (at_map (item_object after) new_items index no_item) ∙ ap (λ (objects : List (Option Object)). get_or objects index None) same
    ∙ at_map (item_object slots) items index no_item

abbrev owner : Item → Option ℕ × Bool
owner item = (item.client, is_vacant item)

owner_same : (items new_items : List Item) (index : ℕ) → owners new_items ≡ owners items → owner (item_at new_items index) ≡ owner (item_at items index)
owner_same items new_items index same =
    sym (at_map owner new_items index no_item) ∙ ap (λ (others : List (Option ℕ × Bool)). get_or others index (owner no_item)) same
    ∙ at_map owner items index no_item

client_same : (items new_items : List Item) (index : ℕ) → owners new_items ≡ owners items → (item_at new_items index).client ≡ (item_at items index).client
client_same items new_items index same = ap (λ (o : Option ℕ × Bool). o.0) (owner_same items new_items index same)

vacant_same : (items new_items : List Item) (index : ℕ) → owners new_items ≡ owners items
    → is_vacant (item_at new_items index) ≡ is_vacant (item_at items index)
vacant_same items new_items index same = ap (λ (o : Option ℕ × Bool). o.1) (owner_same items new_items index same)

length_same : (items new_items : List Item) → owners new_items ≡ owners items → length new_items ≡ length items
length_same items new_items same = sym (length-map new_items owner) ∙ ap length same ∙ length-map items owner

names_same : (items new_items : List Item) (index : ℕ) → owners new_items ≡ owners items → Names items index → Names new_items index
names_same items new_items index same names = record {
  inside = omega (arith, names.inside, length_same items new_items same);
  there = vacant_same items new_items index same ∙ names.there;
}

vacant_owned : (items : List Item) → list_any is_vacant items ≡ list_any (λ (o : Option ℕ × Bool). o.1) (owners items)
vacant_owned [] = refl
vacant_owned (item ∷ items) = ap (λ (more : Bool). is_vacant item || more) (vacant_owned items)

any_vacant : (items new_items : List Item) → owners new_items ≡ owners items → list_any is_vacant items ≡ true → list_any is_vacant new_items ≡ true
any_vacant items new_items same some =
    vacant_owned new_items ∙ ap (list_any (λ (o : Option ℕ × Bool). o.1)) same ∙ sym (vacant_owned items) ∙ some

-- ---- what such a call leaves

no_items : {X : Type 0} (xs : List X) → length xs ≡ 0 → xs ≡ []
no_items [] none = refl
no_items (x ∷ xs) none = absurd (omega (arith, none))

-- where there are no orphans no object is one
pub none_left : (held : Held) → orphan_count held ≡ 0 → held.objects.left ≡ []
none_left held none = no_items held.objects.left (omega (arith, none))

pub objects_moved : {D : Type 0} (seen : D → Seen) (most : ℕ) (old new : D) (held : Held) (view : ObjectsView)
    → Moved seen old new held.objects view → held.objects.left ≡ []
    → objects.counter_of (seen new).state ≤ objects.counter_of (seen old).state + most → Settled (seen old).state held
    → Prepares most seen old new held (record { objects = view; sessions = held.sessions })
objects_moved seen most old new held view moved none counter settled =
    let rest = moved.rest.rest in
    let stand = subst (λ (l : List ℕ). objects.Stand (seen new).state view.items l) (sym (moved.left ∙ none)) moved.stand in
    let owners = moved.objects.owners in
    record {
      keeps = keeps_over_objects seen old new moved.rest;
      counts = record {
        objects_rise = moved.rest.rises;
        sessions_rise = omega (arith, counter_over_objects (seen old).state (seen new).state rest);
        objects_on = counter;
        sessions_on = omega (arith, counter_over_objects (seen old).state (seen new).state rest);
      };
      owners = λ index owner names own mine. (
        names_same held.objects.items view.items index owners names,
        client_same held.objects.items view.items index owners ∙ own,
      );
      gained = λ index owner own mine. sym (client_same held.objects.items view.items index owners) ∙ own;
      lists = moved.owners;
      objects = λ slots after index owner was is names own mine.
          item_told slots after held.objects.items view.items index
          (objects_told (seen old).state (seen new).state slots after held.objects.items view.items was is moved.objects.objects);
      session_owners = refl;
      sessions = λ slots after was is.
          sessions_over_objects slots after held.sessions.items (rest_over_objects (seen old).state (seen new).state slots after rest was is);
      persist = persist_over_objects (seen old).state (seen new).state rest;
      settled = settled_over_objects (seen old).state (seen new).state held (record { objects = view; sessions = held.sessions }) rest refl stand settled;
      vacant = any_vacant held.objects.items view.items owners;
      gone = record {
        objects = λ index vacant. vacant_same held.objects.items view.items index owners ∙ vacant;
        sessions = λ number none. none;
      };
      orphans = omega (arith, ap (λ (l : List ℕ). length l) moved.left);
      made_for = record { objects = moved.contexts; sessions = refl };
      slots = moved.slots;
      numbers = refl;
      left = refl;
      length_is = length_same held.objects.items view.items owners;
    }

-- ---- what it costs

missing_at : (resident among : Bool) (more : ℕ) → (if resident || among then 0 else 1) + more ≤ more + 1
missing_at true among more = omega arith
missing_at false true more = omega arith
missing_at false false more = omega arith

missing_few : (needed : List ℕ) (items : List Item) → missing needed items ≤ length needed
missing_few [] items = omega arith
missing_few (index ∷ needed) items =
    omega (
      arith,
      missing_at (is_resident (item_at items index)) (is_among needed index) (missing needed items),
      missing_few needed items,
    )

missing_none : (needed : List ℕ) (items : List Item) → AreResident needed items → missing needed items ≡ 0
missing_none [] items resident = refl
missing_none (index ∷ needed) items resident =
    omega (
      arith,
      ap {B = ℕ} (λ (test : Bool). (if test || is_among needed index then 0 else 1) + missing needed items) resident.0,
      missing_none needed items resident.1,
    )

-- nothing is sent where all that is needed is in slots, and no slot has to be free
pub brings_none : {D : Type 0} (seen : D → Seen) (old new : D) (needed : List ℕ) (slots : ℕ) (view new_view : ObjectsView)
    (result : Result (Unit {0}) SwapError) → MakesRoom seen old new needed slots view new_view result → AreResident needed view.items → slots ≡ 0
    → new ≡ old
brings_none seen old new needed slots view new_view result room resident none =
    (room.idle resident (omega (arith, room.few, missing_none needed view.items resident, none))).0

-- three commands for an object that is needed, and two for a slot
moves_most : (needed : List ℕ) (slots : ℕ) (view : ObjectsView) → evictions needed slots view ≤ missing needed view.items + slots → length needed ≤ 1
    → slots ≤ 1 → objects.moves_of needed slots view ≤ 5
moves_most needed slots view few one new =
    omega (
      arith,
      few,
      missing_few needed view.items,
      leaves_few (λ (index : ℕ). is_unsaved (item_at view.items index)) needed view.order (evictions needed slots view),
      one,
      new,
    )

-- an object leaves for room alone
brings_needed : {D : Type 0} (seen : D → Seen) (old new : D) (held : Held) (view : ObjectsView) (needed : List ℕ) (slots : ℕ)
    (result : Result (Unit {0}) SwapError) → MakesRoom seen old new needed slots held.objects view result → view.slots ≡ held.objects.slots
    → length needed ≤ 1 → slots ≤ 1
    → MovesObjects seen old new held (record { objects = view; sessions = held.sessions }) needed slots result
brings_needed seen old new held view needed slots result room same one few = record {
  sent = room.sent;
  most = moves_most needed slots held.objects room.few one few;
  stays = on_ok_weaker result
      (λ full. record {
        objects = λ index resident.
            elim (cases_lt 0 (evictions needed slots held.objects)) [
              | inl some ↦ inr (inr (omega (arith, some, full, same)))
              | inr none ↦ inl (ap is_resident (room.rest (omega (arith, none)) index resident) ∙ resident)
            ];
        sessions = λ number loaded. inl loaded;
      }) room.full;
  order = room.order;
}

-- of the object that is named, where one is
pub brings_few : {D : Type 0} (seen : D → Seen) (old new : D) (held : Held) (view : ObjectsView) (named : Option ℕ) (needed : List ℕ) (slots : ℕ)
    (result : Result (Unit {0}) SwapError) → MakesRoom seen old new needed slots held.objects view result → view.slots ≡ held.objects.slots
    → length needed ≤ 1 → slots ≤ 1 → listed named ≡ needed
    → MovesObjects seen old new held (record { objects = view; sessions = held.sessions }) (listed named) slots result
brings_few seen old new held view named needed slots result room same one few is =
    subst (λ (l : List ℕ). MovesObjects seen old new held (record { objects = view; sessions = held.sessions }) l slots result) (sym is)
    (brings_needed seen old new held view needed slots result room same one few)

-- ---- an object that is in a slot

pub resident_of : (slot : Option ℕ) → is_some (handle_in slot) ≡ true → is_some slot ≡ true
resident_of (Some slot) placed = refl
resident_of None placed = absurd cc

pub handle_of_resident : (slot : Option ℕ) → is_some slot ≡ true → is_some (handle_in slot) ≡ true
handle_of_resident (Some slot) placed = refl
handle_of_resident None placed = absurd cc

-- ---- the object that a command names

place_by : (transient : Bool) (client : ℕ) (items : List Item) (place : Option ℕ) → IsTablePlace client items place
    → IsTablePlace client items (if transient then place else None)
place_by true client items place is = is
place_by false client items place is = tt

kept_place : (client : ℕ) (items new_items : List Item) (place : Option ℕ) → IsTablePlace client items place → KeepsOwners any_client items new_items
    → IfSome place (λ item. Names new_items item)
kept_place client items new_items None is keeps = tt
kept_place client items new_items (Some index) is keeps = (keeps index client is.0 is.1 refl).0

-- it is there still
pub named_kept : (client : ℕ) (items new_items : List Item) (table : List (Option ℕ)) (handle : ℕ) (named : Option ℕ) → named ≡ named_by table handle
    → IsTable items client table → KeepsOwners any_client items new_items
    → IfSome named (λ item. Names new_items item)
named_kept client items new_items table handle named is own keeps =
    kept_place client items new_items named
    (subst (λ (place : Option ℕ). IsTablePlace client items place) (sym is)
    (place_by (octet_of handle == HT_TRANSIENT) client items (held_under table handle)
    (held_all (λ place. IsTablePlace client items place) table handle own.named tt)))
    keeps

pub command_shape : (tables : Tables) (bytes : List ℕ) (a : Admitted) → client_admitted tables bytes ≡ Ok a → shape_of bytes ≡ Ok a.shape
unfolding admitted shape_of
command_shape tables bytes a e = admitted_from tables bytes (shape_by (row_in row_of bytes) bytes) a (client_is tables bytes a e).whole

there_by : (missing : Bool) (code : ℕ) (more : Option ℕ) → (if missing then Some code else more) ≡ None → missing ≡ false
there_by true code more e = absurd cc
there_by false code more e = refl

transient_there : (transient held session : Bool) → transient ≡ true → (if transient then not held else session) ≡ false → held ≡ true
transient_there true held session is there = not-false held there
transient_there false held session is there = absurd cc

-- where its first handle is an object's, the client has the object
pub command_there : (tables : Tables) (bytes : List ℕ) (a : Admitted) → client_admitted tables bytes ≡ Ok a
    → (octet_of (first_handle a) == HT_TRANSIENT) ≡ true → tables.has_object (first_handle a) ≡ true
command_there tables bytes a e transient =
    let handle = first_handle a in
    let own = own_handles tables bytes a (client_is tables bytes a e).whole in
    let there : is_missing tables handle ≡ false =
    there_by (is_missing tables handle) (RC_REFERENCE_H0 + 0) (missing_handle tables 1 (get_or a.shape.handles 1 0 ∷ [])) own.there.handles in
    transient_there (octet_of handle == HT_TRANSIENT) (tables.has_object handle) _ transient there

named_is : (transient : Bool) (held : Option ℕ) → transient ≡ true → (if transient then held else None) ≡ held
named_is true held is = refl
named_is false held is = absurd cc

placed_there : (items : List Item) (place : Option ℕ) → is_some place ≡ true → IfSome place (λ index. is_resident (item_at items index) ≡ true)
    → is_some (slot_handle items place) ≡ true
placed_there items None there resident = absurd cc
placed_there items (Some index) there resident = handle_of_resident (item_at items index).slot resident

-- the item that it names is in a slot
pub command_placed : (contexts : ContextLimits) (client : ℕ) (sessions : List (Option sessions.Item)) (table : List (Option ℕ)) (items : List Item) (bytes : List ℕ) (a : Admitted)
    (named : Option ℕ) → client_admitted (tables_seen contexts client table sessions) bytes ≡ Ok a → named ≡ named_by table (first_handle a)
    → IfSome named (λ index. is_resident (item_at items index) ≡ true) → IsPlaced table items (first_handle a)
command_placed contexts client sessions table items bytes a named e is resident transient =
    let handle = first_handle a in
    let own : named ≡ held_under table handle = is ∙ named_is (octet_of handle == HT_TRANSIENT) (held_under table handle) transient in
    placed_there items (held_under table handle) (command_there (tables_seen contexts client table sessions) bytes a e transient)
    (subst (λ (place : Option ℕ). IfSome place (λ index. is_resident (item_at items index) ≡ true)) own resident)

-- an object that is placed is in a slot, by the item that its handle names
placed_at : (items : List Item) (place : Option ℕ) → is_some (slot_handle items place) ≡ true → IfSome place (λ index. is_resident (item_at items index) ≡ true)
placed_at items None placed = tt
placed_at items (Some index) placed = resident_of (item_at items index).slot placed

placed_by : (is : Bool) (items : List Item) (place : Option ℕ) → (is ≡ true → is_some (slot_handle items place) ≡ true)
    → IfSome (if is then place else None) (λ index. is_resident (item_at items index) ≡ true)
placed_by true items place placed = placed_at items place (placed refl)
placed_by false items place placed = tt

pub placed_resident : (table : List (Option ℕ)) (items : List Item) (handle : ℕ) (named : Option ℕ) → named ≡ named_by table handle
    → IsPlaced table items handle → IfSome named (λ index. is_resident (item_at items index) ≡ true)
placed_resident table items handle named is placed =
    subst (λ (n : Option ℕ). IfSome n (λ index. is_resident (item_at items index) ≡ true)) (sym is)
    (placed_by (octet_of handle == HT_TRANSIENT) items (held_under table handle) placed)

-- the device's handle of what it names
handle_by : (transient : Bool) (items : List Item) (held : Option ℕ) (handle : ℕ)
    → handle_or handle (slot_handle items (if transient then held else None)) ≡ (if transient then handle_or handle (slot_handle items held) else handle)
handle_by true items held handle = refl
handle_by false items held handle = refl

pub handle_written : (table : List (Option ℕ)) (items : List Item) (handle : ℕ) (named : Option ℕ) → named ≡ named_by table handle
    → handle_or handle (slot_handle items named) ≡ device_handle table items handle
handle_written table items handle named is =
    ap (λ (n : Option ℕ). handle_or handle (slot_handle items n)) is ∙ handle_by (octet_of handle == HT_TRANSIENT) items (held_under table handle) handle

-- ---- room

some_free_by : {X : Type 0} (p : X → Bool) (xs : List X) (test : Bool) → (1 ≤ count_by p xs → list_any p xs ≡ true) → 1 ≤ one_if test + count_by p xs
    → (test || list_any p xs) ≡ true
some_free_by p xs true rest some = refl
some_free_by p xs false rest some = rest (omega arith)

some_free : {X : Type 0} (p : X → Bool) (xs : List X) → 1 ≤ count_by p xs → list_any p xs ≡ true
some_free p [] some = absurd (omega arith)
some_free p (x ∷ xs) some = some_free_by p xs (p x) (some_free p xs) (omega (arith, count_cons p x xs))

-- there is a free slot, where one was asked for
pub free_for : (state : Option SlotState) (new_slots : ℕ) → 1 ≤ new_slots → AreFree state new_slots
    → IfSome state (λ slots. list_any is_free slots.slots ≡ true)
free_for None new_slots some free = tt
free_for (Some slots) new_slots some free = some_free is_free slots.slots (omega (arith, some, free))

places_free : (old new : Option SlotState) (n : ℕ) → objects.rest_of new ≡ objects.rest_of old → sessions.AreFree old n → sessions.AreFree new n
places_free old None n same free = tt
places_free None (Some after) n same free = absurd cc
places_free (Some slots) (Some after) n same free =
    let places : after.sessions ≡ slots.sessions = ap (λ (s : SlotState). s.sessions) (some_same same) in
    omega (arith, free, ap (λ (l : List SessionPlace). loaded_count l) places, ap (λ (s : SlotState). s.numbers.loaded) (some_same same))

-- the room for a session stays where objects move
pub room_kept : (old new : Option SlotState) (view new_view : SessionsView) → objects.rest_of new ≡ objects.rest_of old → new_view ≡ view
    → (sessions.AreFree old 1 × (sessions.loaded_items view.items < view.numbers.loaded)) ⊎ AreAllActive view
    → (sessions.AreFree new 1 × (sessions.loaded_items new_view.items < new_view.numbers.loaded)) ⊎ AreAllActive new_view
room_kept old new view new_view rest same (inl free) = inl (
  places_free old new 1 rest free.0,
  subst (λ (v : SessionsView). sessions.loaded_items v.items < v.numbers.loaded) (sym same) free.1,
)
room_kept old new view new_view rest same (inr full) =
    inr (subst AreAllActive (sym same) full)
