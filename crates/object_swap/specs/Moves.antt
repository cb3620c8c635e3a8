-- What the three commands that move objects do to the state of a device that shows it (Part 3,
-- "TPM2_ContextSave", "TPM2_FlushContext", "TPM2_ContextLoad").
use Rattle.std.specs.Prelude.{◌≡◌, ◌<◌, ℕ, ◌+◌, ◌-◌, min, ◌==◌, Bool, true, false, List, [], drop, get_or, set, take, length, ◌≤◌, Option, Some, None, is_some, IfSome, IsSomeAnd, Result, Ok, OnErr, OnOk}
use Rattle.std.specs.List.{list_any, remove}
use Rattle.tab_spec.specs.declared.TheConstants.{CONTEXT_LIMIT, HEADER_BYTES, TRANSIENT_FIRST}
use Rattle.tab_spec.specs.declared.contexts.ContextLimits.{ContextLimits}
use Rattle.device_spec.specs.Answers.{word_at}
use Rattle.device_spec.specs.Slots.{SlotState, IsSlots, free_slot, in_slot, is_free, object_at, slot_of, with_slot}
use Rattle.device_port.specs.Device.{Seen, sent_of}
use Rattle.device_port.specs.Use.{all_used, first_unneeded, is_among, used_after, without_first}
use Rattle.device_port.specs.declared.own.SwapError.{SwapError}
use Rattle.object_swap.specs.declared.record.Record.{Record}
use Rattle.object_swap.specs.Items.{AreResident, AreThere, Item, KeepsObjects, Stand, counter_of, is_resident, is_unsaved, is_vacant, item_at, missing, pending_of, residents, rest_of, unsaved, unsaved_of}
use Rattle.object_swap.specs.Records.{AreRecords, NoMore, items_of, number, residency}

-- one more object context
abbrev pub counted : Option SlotState → Option SlotState
counted None = None
counted (Some slots) = Some (record slots { object_counter = slots.object_counter + 1 })

-- without the object of a handle
abbrev pub emptied : ℕ → Option SlotState → Option SlotState
emptied handle None = None
emptied handle (Some slots) = Some (with_slot slots (slot_of handle) None)

-- with the object of a context in the least free slot
abbrev pub filled : List ℕ → Option SlotState → Option SlotState
filled context None = None
filled context (Some slots) = Some (with_slot slots (free_slot slots.slots) (object_at slots None (Some context)))

-- an object that can be saved and flushed
pub record IsIn (slots : SlotState) (handle : ℕ) : Type 0 where
  pub started : slots.started ≡ true
  pub sound : IsSlots slots
  pub there : is_some (in_slot slots handle) ≡ true

-- a context whose object can be loaded
pub record IsOut (slots : SlotState) (context : List ℕ) : Type 0 where
  pub started : slots.started ≡ true
  pub sound : IsSlots slots
  pub room : list_any is_free slots.slots ≡ true
  pub there : is_some (object_at slots None (Some context)) ≡ true

-- what moves of objects keep, of a state and of the items: every object stands, with the same owner
pub record KeepsStanding (old_state new_state : Option SlotState) (old new : List Item) (others : List ℕ) : Type 0 where
  pub rest : rest_of new_state ≡ rest_of old_state
  pub objects : KeepsObjects old_state new_state old new
  pub stand : Stand new_state new others
  pub pending : pending_of new_state new ≡ pending_of old_state old
  pub rises : counter_of old_state ≤ counter_of new_state

-- the handle of the response is that of the least free slot
abbrev pub IsLeast : Option SlotState → ℕ → Type 0
IsLeast state handle = IfSome state (λ slots. handle ≡ TRANSIENT_FIRST + free_slot slots.slots)

-- ---- what the last response has, over every device

-- this handle
abbrev pub IsLastHandle : Option (List ℕ) → ℕ → Type 0
IsLastHandle last handle = IsSomeAnd last (λ response. word_at HEADER_BYTES response ≡ Some handle)

-- the handle of the slot that the item is in
abbrev pub HasLastSlot : Option (List ℕ) → Item → Type 0
HasLastSlot last item = (handle : ℕ) × IsLastHandle last handle × (item.slot ≡ Some (slot_of handle))

-- this context, behind its header
abbrev pub IsLastContext : Option (List ℕ) → List ℕ → Type 0
IsLastContext last context = IsSomeAnd last (λ response. context ≡ drop HEADER_BYTES response)

-- a context of the item is kept: where none was, it is that one
pub record IsSaved (last : Option (List ℕ)) (item new_item : Item) : Type 0 where
  pub there : is_some new_item.blob ≡ true
  pub made : is_some item.blob ≡ false → IsSomeAnd new_item.blob (λ context. IsLastContext last context)

-- ---- before and after a move

-- records that moves may begin with: their objects stand, and there are contexts enough to save them all
pub record Ready (contexts : ContextLimits) (state : Option SlotState) (records : List Record) : Type 0 where
  pub sound : AreRecords contexts records
  pub stand : Stand state (items_of records) []
  pub below : pending_of state (items_of records) ≤ CONTEXT_LIMIT

-- an object that is in a slot, or in none
pub record IsItem (records : List Record) (index : ℕ) (resident : Bool) : Type 0 where
  pub inside : index < length records
  pub there : is_vacant (item_at (items_of records) index) ≡ false
  pub slot : is_resident (item_at (items_of records) index) ≡ resident

-- what each move of an object keeps, of the records and of the device's state
pub record Swaps {D : Type 0} (contexts : ContextLimits) (seen : D → Seen) (old new : D) (records new_records : List Record) : Type 0 where
  pub keeps : KeepsStanding (seen old).state (seen new).state (items_of records)
      (items_of new_records) []
  pub sound : AreRecords contexts new_records

-- so many objects fit into the slots
abbrev pub HasSlotRoom : Option SlotState → ℕ → Type 0
HasSlotRoom None count = Unit {0}
HasSlotRoom (Some slots) count = count ≤ length slots.slots

-- objects that are to come into slots: they are there, and they fit beside those that are in slots
pub record CanFill (state : Option SlotState) (records : List Record) (needed : List ℕ) : Type 0 where
  pub there : AreThere needed (items_of records)
  pub room : HasSlotRoom state (residents (items_of records) + missing needed (items_of records))

-- the same, where some may have to leave their slots: they fit beside so many new ones
pub record CanSwap (state : Option SlotState) (records : List Record) (needed : List ℕ) (slots new_slots : ℕ) : Type 0 where
  pub there : AreThere needed (items_of records)
  pub fits : length needed + new_slots ≤ slots
  pub few : residents (items_of records) ≤ slots
  pub room : HasSlotRoom state slots

-- ---- what moves cost: a resident without a context costs a command more than one that has one, if it leaves

-- every item but one stays as it is
abbrev pub OthersStay : ℕ → List Record → List Record → Type 0
OthersStay index records new_records = (other : ℕ) → (other == index) ≡ false
    → item_at (items_of new_records) other ≡ item_at (items_of records) other

-- at most so many commands, and one context
pub record CostsOne {D : Type 0} (seen : D → Seen) (old new : D) (records new_records : List Record) (most : ℕ) : Type 0 where
  pub sent : sent_of (seen new) ≤ sent_of (seen old) + most
  pub saved : unsaved (items_of records) ≤ unsaved (items_of new_records) + 1

-- at most so many commands, and one for each context that is kept since
abbrev pub Spends : {D : Type 0} → (D → Seen) → D → D → List Record → List Record → ℕ → Type 0
Spends seen old new records new_records most =
    sent_of (seen new) + unsaved (items_of new_records) ≤ sent_of (seen old) + unsaved (items_of records) + most

-- the object of a listed resident leaves its slot: by one command, and by one more where no context of it is kept yet
pub record PutsAway {D : Type 0} (seen : D → Seen) (old new : D) (records new_records : List Record) (loaded new_loaded : List ℕ) (at : ℕ)
    (result : Result (Unit {0}) SwapError) : Type 0 where
  pub fewer : NoMore (residency records) (residency new_records)
  pub others : OthersStay (get_or loaded at 0) records new_records
  pub costs : CostsOne seen old new records new_records (number (is_unsaved (item_at (items_of records) (get_or loaded at 0))) + 1)
  pub spends : Spends seen old new records new_records 1
  pub out : OnOk result (is_resident (item_at (items_of new_records) (get_or loaded at 0)) ≡ false)
  pub order : OnOk result (new_loaded ≡ remove loaded at)
  pub failed : OnErr result (new_loaded ≡ loaded)

-- residents leave their slots until so many are left, the least recently used first, and none that is needed
pub record Evicts {D : Type 0} (seen : D → Seen) (old new : D) (records new_records : List Record) (loaded new_loaded needed : List ℕ)
    (most : ℕ) (result : Result (Unit {0}) SwapError) : Type 0 where
  pub fewer : NoMore (residency records) (residency new_records)
  pub stay : (index : ℕ) → is_among needed index ≡ true → item_at (items_of new_records) index ≡ item_at (items_of records) index
  pub left : OnOk result (residents (items_of new_records) ≡ min (residents (items_of records)) most)
  pub order : OnOk result (new_loaded ≡ without_first (residents (items_of records) - most) needed loaded)
  pub spends : OnOk result (Spends seen old new records new_records (residents (items_of records) - most))
  pub failed : OnErr result ((gone : ℕ) × (gone ≤ residents (items_of records) - most) × (new_loaded ≡ without_first gone needed loaded)
      × Spends seen old new records new_records (gone + 1))
  pub kept : OnOk result ((index : ℕ) → is_resident (item_at (items_of new_records) index) ≡ true
      → item_at (items_of new_records) index ≡ item_at (items_of records) index)
  pub sent : sent_of (seen new) ≤ sent_of (seen old) + (residents (items_of records) - most)
      + unsaved_of (items_of records) (first_unneeded (residents (items_of records) - most) needed loaded)
  pub saved : unsaved (items_of records) ≤ unsaved (items_of new_records) + (residents (items_of records) - most)
  pub idle : residents (items_of records) ≤ most → (new ≡ old) × (new_records ≡ records) × (result ≡ Ok tt)

-- one object is brought into a slot, by one command at most, and counts as used
pub record Brings {D : Type 0} (seen : D → Seen) (old new : D) (records new_records : List Record) (loaded new_loaded : List ℕ) (index : ℕ)
    (result : Result (Unit {0}) SwapError) : Type 0 where
  pub others : OthersStay index records new_records
  pub sent : sent_of (seen new) ≤ sent_of (seen old) + 1
  pub resident : OnOk result (residency new_records ≡ set (residency records) index true)
  pub failed : OnErr result (residency new_records ≡ residency records)
  pub order : OnOk result (new_loaded ≡ used_after loaded index)
  pub unused : OnErr result (new_loaded ≡ loaded)
  pub paid : OnOk result (sent_of (seen new) + residents (items_of records) ≤ sent_of (seen old) + residents (items_of new_records))
  pub idle : is_resident (item_at (items_of records) index) ≡ true → (new ≡ old) × (new_records ≡ records) × (result ≡ Ok tt)

-- all that is needed is brought into slots, and counts as used
pub record Fills {D : Type 0} (seen : D → Seen) (old new : D) (records new_records : List Record) (loaded new_loaded needed : List ℕ)
    (result : Result (Unit {0}) SwapError) : Type 0 where
  pub stay : (index : ℕ) → is_resident (item_at (items_of records) index) ≡ true
      → item_at (items_of new_records) index ≡ item_at (items_of records) index
  pub others : (index : ℕ) → is_among needed index ≡ false → item_at (items_of new_records) index ≡ item_at (items_of records) index
  pub resident : OnOk result (AreResident needed (items_of new_records))
  pub count : OnOk result (residents (items_of new_records) ≡ residents (items_of records) + missing needed (items_of records))
  pub few : residents (items_of new_records) ≤ residents (items_of records) + missing needed (items_of records)
  pub order : OnOk result (new_loaded ≡ all_used loaded needed)
  pub failed : OnErr result ((used : ℕ) × (new_loaded ≡ all_used loaded (take used needed))
      × (sent_of (seen new) ≤ sent_of (seen old) + used + 1))
  pub sent : sent_of (seen new) ≤ sent_of (seen old) + missing needed (items_of records)
  pub idle : AreResident needed (items_of records) → (new ≡ old) × (new_records ≡ records) × (result ≡ Ok tt)
