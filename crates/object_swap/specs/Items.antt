-- The objects that a swapper holds for its clients: each in a slot of the device, in a context beside it, or both (Part 1,
-- "Context Management"). What a device that tells its state has of them is said over that state.
use Rattle.std.specs.Prelude.{◌≡◌, ◌<◌, ◌≤◌, ℕ, ◌+◌, ◌-◌, ◌==◌, ◌&&◌, ◌||◌, not, bytes_eq, Bool, true, false, List, [], ◌∷◌, ◌++◌, length, map, take, get_or, set, Option, Some, None, is_some, IfSome, MatchOption, Result, Ok, OnErr, OnOk, if◌then◌else◌}
use Rattle.std.specs.List.{AllByRecursion, count_by, list_any}
use Rattle.tab_spec.specs.declared.TheConstants.{CONTEXT_LIMIT, TRANSIENT_FIRST}
use Rattle.tab_spec.specs.Object.{Object}
use Rattle.tab_spec.specs.declared.contexts.ContextLimits.{ContextLimits}
use Rattle.device_spec.specs.ContextCommands.{flush_context_command}
use Rattle.device_spec.specs.Slots.{SlotState, IsSlots, is_free, object_at}
use Rattle.device_port.specs.Device.{Seen, sent_of}
use Rattle.device_port.specs.Own.{Asks, AsksSome}
use Rattle.device_port.specs.Use.{all_used, first_unneeded, is_among, without_first, without_one}
use Rattle.device_port.specs.declared.own.SwapError.{SwapError}

-- an item: whose object it is, if anybody's, the number of the slot in which it stands, and the context that it can be
-- loaded from
pub record Item : Type 0 where
  pub client : Option ℕ
  pub slot : Option ℕ
  pub blob : Option (List ℕ)

-- what is seen of a swapper: its items, by index; how many slots its device has; the indices of the
-- items in slots, the least recently used first; the owner of each list, if it has one; the slots
-- of orphans; and what contexts it has room for
pub record ObjectsView : Type 0 where
  pub items : List Item
  pub slots : ℕ
  pub order : List ℕ
  pub owners : List (Option ℕ)
  pub left : List ℕ
  pub contexts : ContextLimits

-- ---- items

abbrev pub is_resident : Item → Bool
is_resident item = is_some item.slot

-- an item that is nowhere is a place for another object
abbrev pub is_vacant : Item → Bool
is_vacant item = not (is_some item.slot) && not (is_some item.blob)

abbrev pub no_item : Item
no_item = record { client = None; slot = None; blob = None }

abbrev pub item_at : List Item → ℕ → Item
item_at items index = get_or items index no_item

-- a new object, which stands in this slot
abbrev pub new_item : ℕ → ℕ → Item
new_item client slot = record { client = Some client; slot = Some slot; blob = None }

-- whether it is this client's
abbrev pub is_owner : ℕ → Option ℕ → Bool
is_owner client None = false
is_owner client (Some owner) = owner == client

abbrev pub is_client : ℕ → Item → Bool
is_client client item = is_owner client item.client

-- a client has no object
abbrev pub HasNone : List Item → ℕ → Type 0
HasNone items client = (index : ℕ) → is_client client (item_at items index) ≡ false

-- whether these bytes are the context that is kept for an object
abbrev pub is_kept : List ℕ → Option (List ℕ) → Bool
is_kept bytes None = false
is_kept bytes (Some context) = bytes_eq bytes context

-- whether they are that of any
abbrev pub keeps_context : List Item → List ℕ → Bool
keeps_context items bytes = list_any (λ item. is_kept bytes item.blob) items

-- this index names an object
pub record Names (items : List Item) (index : ℕ) : Type 0 where
  pub inside : index < length items
  pub there : is_vacant (item_at items index) ≡ false

abbrev pub AreThere : List ℕ → List Item → Type 0
AreThere needed items = AllByRecursion (λ index. Names items index) needed

abbrev pub AreResident : List ℕ → List Item → Type 0
AreResident needed items = AllByRecursion (λ index. is_resident (item_at items index) ≡ true) needed

abbrev pub residents : List Item → ℕ
residents items = count_by is_resident items

-- how many of those that are needed are in no slot, each counted once
abbrev pub missing : List ℕ → List Item → ℕ
missing [] items = 0
missing (index ∷ needed) items = (if is_resident (item_at items index) || is_among needed index then 0 else 1) + missing needed items

-- whose each item is, and which are vacant
abbrev pub owners : List Item → List (Option ℕ × Bool)
owners items = map (λ item. (item.client, is_vacant item)) items

-- the device's handle of a slot
abbrev pub handle_in : Option ℕ → Option ℕ
handle_in None = None
handle_in (Some slot) = Some (TRANSIENT_FIRST + slot)

-- ---- lists of the clients

-- whose a list is, if anybody's
abbrev pub owner_at : List (Option ℕ) → ℕ → Option ℕ
owner_at owners list = get_or owners list None

-- whether a client has one
abbrev pub has_list : List (Option ℕ) → ℕ → Bool
has_list owners client = list_any (λ owner. is_owner client owner) owners

-- the first object in a list: one of the list's client, or nothing where that client has none
abbrev pub FindsFirst : ObjectsView → ℕ → Option ℕ → Type 0
FindsFirst view list first = (client : ℕ) → owner_at view.owners list ≡ Some client
    → MatchOption first (HasNone view.items client) (λ index. Names view.items index × ((item_at view.items index).client ≡ Some client))

-- whether there is no owner; and whether any list is free
abbrev pub is_nobodys : Option ℕ → Bool
is_nobodys owner = not (is_some owner)

abbrev pub has_free_list : List (Option ℕ) → Bool
has_free_list owners = list_any is_nobodys owners

-- ---- what stands for the objects, in the state of a device

abbrev pub item_object : SlotState → Item → Option Object
item_object slots item = object_at slots item.slot item.blob

-- the objects of all items; `None` if the device doesn't show its state
abbrev pub objects_of : Option SlotState → List Item → Option (List (Option Object))
objects_of None items = None
objects_of (Some slots) items = Some (map (λ item. item_object slots item) items)

-- the device but for its slots and the number of the next object context
abbrev pub without_objects : SlotState → SlotState
without_objects slots = record slots { slots = []; object_counter = 0 }

abbrev pub rest_of : Option SlotState → Option SlotState
rest_of None = None
rest_of (Some slots) = Some (without_objects slots)

-- a resident whose context isn't kept yet
abbrev pub is_unsaved : Item → Bool
is_unsaved item = is_some item.slot && not (is_some item.blob)

abbrev pub unsaved : List Item → ℕ
unsaved items = count_by is_unsaved items

-- how many of these have no context yet
abbrev pub unsaved_of : List Item → List ℕ → ℕ
unsaved_of items indices = count_by (λ index. is_unsaved (item_at items index)) indices

-- the number of the next object context
abbrev pub counter_of : Option SlotState → ℕ
counter_of None = 0
counter_of (Some slots) = slots.object_counter

-- the same once every resident has a context
abbrev pub pending_of : Option SlotState → List Item → ℕ
pending_of None items = 0
pending_of (Some slots) items = slots.object_counter + unsaved items

-- without the object of one item
abbrev pub without_object : ℕ → Option (List (Option Object)) → Option (List (Option Object))
without_object index None = None
without_object index (Some objects) = Some (set objects index None)

-- an object stands for an item that is somewhere, and a context beside a slot is of the same object
pub record ItemStands (slots : SlotState) (item : Item) : Type 0 where
  pub there : is_vacant item ≡ false → is_some (item_object slots item) ≡ true
  pub beside : is_resident item ≡ true → is_some item.blob ≡ true → object_at slots None item.blob ≡ item_object slots item

-- whether an item names a slot
abbrev pub is_named : Option ℕ → ℕ → Bool
is_named None slot = false
is_named (Some named) slot = named == slot

-- how many items name a slot
abbrev pub naming : List Item → ℕ → ℕ
naming items slot = count_by (λ item. is_named item.slot slot) items

-- whether a slot is taken, as a number
abbrev pub taken : SlotState → ℕ → ℕ
taken slots slot = if is_some (get_or slots.slots slot None) then 1 else 0

-- each taken slot is that of one item, or of one of these others, and no item names a free one
abbrev pub IsOwned : SlotState → List Item → List ℕ → Type 0
IsOwned slots items others = (slot : ℕ) → naming items slot + count_by (λ other. other == slot) others ≡ taken slots slot

-- what holds of the items in the state of a device between the calls; the others are slots with
-- objects without an owner
pub record ObjectsStand (slots : SlotState) (items : List Item) (others : List ℕ) : Type 0 where
  pub started : slots.started ≡ true
  pub sound : IsSlots slots
  pub each : AllByRecursion (λ item. ItemStands slots item) items
  pub owned : IsOwned slots items others

abbrev pub Stand : Option SlotState → List Item → List ℕ → Type 0
Stand state items others = IfSome state (λ slots. ObjectsStand slots items others)

-- a swapper for as many slots as the device has
abbrev pub HasSlots : Option SlotState → ℕ → Type 0
HasSlots state count = IfSome state (λ slots. length slots.slots ≡ count)

-- so many slots are free
abbrev pub AreFree : Option SlotState → ℕ → Type 0
AreFree state count = IfSome state (λ slots. count ≤ count_by is_free slots.slots)

-- ---- what a call asks for

-- objects that are needed: they are there, and they fit into the slots with so many new ones
pub record AreNeeded (needed : List ℕ) (new_slots : ℕ) (view : ObjectsView) : Type 0 where
  pub named : AreThere needed view.items
  pub fits : length needed + new_slots ≤ view.slots

-- objects may move: the device has so many slots, and numbers are left for their contexts
pub record MayMove (state : Option SlotState) (count : ℕ) : Type 0 where
  pub slots : HasSlots state count
  pub counter : counter_of state + 1000 ≤ CONTEXT_LIMIT

-- ---- what a call costs

-- how many objects have to leave their slots, so that there is room for what is needed and for so many new ones
abbrev pub evictions : List ℕ → ℕ → ObjectsView → ℕ
evictions needed new_slots view = residents view.items + missing needed view.items + new_slots - view.slots

-- how many commands make that room, and load what is needed. Those that leave are the least recently used of those that aren't needed:
-- each is flushed, and saved first where no context of it is kept yet. One that is needed and in no slot is loaded
abbrev pub moves_of : List ℕ → ℕ → ObjectsView → ℕ
moves_of needed new_slots view =
    evictions needed new_slots view + unsaved_of view.items (first_unneeded (evictions needed new_slots view) needed view.order)
    + missing needed view.items

-- ---- what a call leaves

-- of the device: its base, whether it shows its state, and what isn't an object or the number of a
-- context. That number never falls
pub record KeepsRest {D : Type 0} (seen : D → Seen) (old new : D) : Type 0 where
  pub base_is : (seen new).base ≡ (seen old).base
  pub rest : rest_of (seen new).state ≡ rest_of (seen old).state
  pub rises : counter_of (seen old).state ≤ counter_of (seen new).state
  pub count : (seen old).faults ≤ (seen new).faults

-- a context that is kept stays, so that no object is saved twice
abbrev pub KeepsContexts : List Item → List Item → Type 0
KeepsContexts old new = (index : ℕ) (context : List ℕ) → (item_at old index).blob ≡ Some context → (item_at new index).blob ≡ Some context

-- every object stands as before, with the same owner
pub record KeepsObjects (old_state new_state : Option SlotState) (old new : List Item) : Type 0 where
  pub objects : objects_of new_state new ≡ objects_of old_state old
  pub owners : owners new ≡ owners old
  pub kept : KeepsContexts old new

-- what is needed is in slots, and so many slots are free
pub record HaveSlots (needed : List ℕ) (new_slots : ℕ) (state : Option SlotState) (view : ObjectsView) : Type 0 where
  pub resident : AreResident needed view.items
  pub few : residents view.items + new_slots ≤ view.slots
  pub free : AreFree state new_slots

-- what is needed and in a slot stays there, and no other object comes into a slot
pub record KeepsSlots (needed : List ℕ) (old new : List Item) : Type 0 where
  pub stay : (index : ℕ) → is_among needed index ≡ true → is_resident (item_at old index) ≡ true
      → item_at new index ≡ item_at old index
  pub others : (index : ℕ) → is_among needed index ≡ false → is_resident (item_at old index) ≡ false
      → is_resident (item_at new index) ≡ false

-- the order lists those that are in slots, each once
pub record Lists (order : List ℕ) (items : List Item) : Type 0 where
  pub each : (index : ℕ) → count_by (λ one. one == index) order ≡ (if is_resident (item_at items index) then 1 else 0)
  pub count : length order ≡ residents items

-- Objects leave their slots for room alone, the least recently used first: no more than have to, and none where there is room. What is
-- needed is used
pub record MakesRoom {D : Type 0} (seen : D → Seen) (old new : D) (needed : List ℕ) (new_slots : ℕ) (view new_view : ObjectsView)
    (result : Result (Unit {0}) SwapError) : Type 0 where
  pub sent : sent_of (seen new) ≤ sent_of (seen old) + moves_of needed new_slots view
  -- what is needed and what is new has room to make, for two commands each
  pub few : evictions needed new_slots view ≤ missing needed view.items + new_slots
  pub full : OnOk result (residents new_view.items + evictions needed new_slots view ≡ residents view.items + missing needed view.items)
  pub rest : evictions needed new_slots view ≡ 0 → (index : ℕ) → is_resident (item_at view.items index) ≡ true
      → item_at new_view.items index ≡ item_at view.items index
  -- one that is in a slot before and after is as before: it isn't saved
  pub same : OnOk result ((index : ℕ) → is_resident (item_at view.items index) ≡ true → is_resident (item_at new_view.items index) ≡ true
      → item_at new_view.items index ≡ item_at view.items index)
  pub idle : AreResident needed view.items → evictions needed new_slots view ≡ 0
      → (new ≡ old) × (new_view.items ≡ view.items) × (result ≡ Ok tt)
  pub order : OnOk result (new_view.order ≡ all_used (without_first (evictions needed new_slots view) needed view.order) needed)
  -- after an error some of those that had to leave are gone, the first of them, and some of what is needed is used, the first of it.
  -- At most one command was sent for each of these, one for each context that is kept since, and one that failed: an object that was
  -- saved and couldn't be flushed keeps its context
  pub failed : OnErr result ((gone used : ℕ) × (gone ≤ evictions needed new_slots view)
      × (new_view.order ≡ all_used (without_first gone needed view.order) (take used needed))
      × (sent_of (seen new) + unsaved new_view.items ≤ sent_of (seen old) + unsaved view.items + gone + used + 1))
  pub listed : Lists new_view.order new_view.items
  pub counter : counter_of (seen new).state ≤ counter_of (seen old).state + length needed + new_slots

-- what moves leave, whether they failed or not: every object stands as before, with the same owner
pub record Moved {D : Type 0} (seen : D → Seen) (old new : D) (old_view new_view : ObjectsView) : Type 0 where
  pub slots : new_view.slots ≡ old_view.slots
  pub owners : new_view.owners ≡ old_view.owners
  pub left : new_view.left ≡ old_view.left
  pub contexts : new_view.contexts ≡ old_view.contexts
  pub objects : KeepsObjects (seen old).state (seen new).state old_view.items new_view.items
  pub stand : Stand (seen new).state new_view.items []
  pub rest : KeepsRest seen old new

-- this item becomes a place for another object, and the other objects stand as before
pub record Forgets (index : ℕ) (old_state new_state : Option SlotState) (old new : List Item) : Type 0 where
  pub items : new ≡ set old index no_item
  pub objects : objects_of new_state new ≡ without_object index (objects_of old_state old)

-- what a drop leaves, whether it failed or not: what is left stands, and no context was made
pub record Dropped {D : Type 0} (seen : D → Seen) (old new : D) (old_view new_view : ObjectsView) : Type 0 where
  pub slots : new_view.slots ≡ old_view.slots
  pub owners : new_view.owners ≡ old_view.owners
  pub left : new_view.left ≡ old_view.left
  pub contexts : new_view.contexts ≡ old_view.contexts
  pub stand : (others : List ℕ) → Stand (seen old).state old_view.items others → Stand (seen new).state new_view.items others
  pub counter : counter_of (seen new).state ≡ counter_of (seen old).state
  pub rest : KeepsRest seen old new

-- what becomes of an object that is dropped: it is forgotten, and an error changes nothing
pub record DropsObject {D : Type 0} (contexts : ContextLimits) (seen : D → Seen) (old new : D) (index : ℕ) (old_view new_view : ObjectsView)
    (result : Result (Unit {0}) SwapError) : Type 0 where
  pub ok : OnOk result (Forgets index (seen old).state (seen new).state old_view.items new_view.items
      × (new_view.order ≡ without_one index old_view.order))
  pub err : OnErr result ((new_view ≡ old_view) × ((seen new).state ≡ (seen old).state))
  -- exactly one FlushContext is sent where the object is in a slot
  pub sent : MatchOption (handle_in (item_at old_view.items index).slot) ((result ≡ Ok tt) × (new ≡ old))
      (λ handle. Asks contexts seen old new (flush_context_command handle) result)
  pub dropped : Dropped seen old new old_view new_view
  pub asks : AsksSome contexts seen old new result

-- what becomes of an object that is left to nobody: it leaves its place, and its slot is the last of those of nobody
abbrev pub OrphansObject : ℕ → ObjectsView → ObjectsView → Type 0
OrphansObject index old new = (slot : ℕ) → (item_at old.items index).slot ≡ Some slot
    → new ≡ record old { items = set old.items index no_item; order = without_one index old.order; left = old.left ++ slot ∷ [] }

-- an orphan is gone, the last of them, and each other object stands as before
pub record LosesOrphan (old_state new_state : Option SlotState) (old new : ObjectsView) : Type 0 where
  pub slot : ℕ
  pub left : old.left ≡ new.left ++ slot ∷ []
  pub same : new ≡ record old { left = new.left }
  pub objects : objects_of new_state new.items ≡ objects_of old_state old.items
  pub stand : Stand new_state new.items new.left
  pub counter : counter_of new_state ≡ counter_of old_state
