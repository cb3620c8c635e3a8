-- The table of a client: which item stands for each handle of an object that it has. And whose each session is.
use Rattle.std.specs.Prelude.{◌≡◌, ◌≤◌, ℕ, ◌==◌, Bool, true, false, List, length, map, set, Option, Some, None, is_some, IfSome, Result, Ok, Err, if◌then◌else◌}
use Rattle.std.specs.List.{AllByRecursion, count_by, list_any}
use Rattle.tab_spec.specs.declared.TheConstants.{HT_TRANSIENT}
use Rattle.tab_spec.specs.Admission.{Tables}
use Rattle.tab_spec.specs.Object.{Object}
use Rattle.tab_spec.specs.Shape.{number_of_session, octet_of}
use Rattle.tab_spec.specs.declared.contexts.ContextLimits.{ContextLimits}
use Rattle.tab_spec.specs.declared.contexts.TheConstants.{PROFILE_CONTEXTS}
use Rattle.device_spec.specs.Slots.{SlotState}
use Rattle.session_swap.specs.Items as sessions
use Rattle.session_swap.specs.Items.{is_owner, is_user, owner_in}
use Rattle.object_swap.specs.Items.{Item, Names, handle_in, item_at, item_object}
use Rattle.history_spec.specs.declared.TheConstants.{CLIENT_OBJECTS}
use Rattle.history_spec.specs.Table.{count_held, held_under, is_full, put_least, without_handle}
use Rattle.world_spec.specs.World.{flush_fault}

-- what a client with this table may name over a device with these contexts: its own objects, and its sessions in use
abbrev pub tables_seen : ContextLimits → ℕ → List (Option ℕ) → List (Option sessions.Item) → Tables
tables_seen contexts client table sessions = record {
  has_object = λ handle. is_some (held_under table handle);
  has_session = λ handle. is_user client (owner_in sessions handle);
  is_full = is_full table;
  contexts = contexts;
}

-- what it has: also the sessions that it saved. No context is loaded by it
abbrev pub tables_had : ℕ → List (Option ℕ) → List (Option sessions.Item) → Tables
tables_had client table sessions =
    record (tables_seen PROFILE_CONTEXTS client table sessions) { has_session = λ handle. is_owner client (owner_in sessions handle) }

-- ---- which items are named

abbrev pub is_item : ℕ → Option ℕ → Bool
is_item index None = false
is_item index (Some item) = item == index

-- how often a table names an item
abbrev pub naming_in : ℕ → List (Option ℕ) → ℕ
naming_in index table = count_by (λ place. is_item index place) table

-- a place of a table names an object of its client
abbrev pub IsTablePlace : ℕ → List Item → Option ℕ → Type 0
IsTablePlace client items None = Unit {0}
IsTablePlace client items (Some index) = Names items index × ((item_at items index).client ≡ Some client)

-- a client's table: it names the objects of the client, each once, under no more numbers than a client may have objects
pub record IsTable (items : List Item) (client : ℕ) (table : List (Option ℕ)) : Type 0 where
  pub named : AllByRecursion (λ place. IsTablePlace client items place) table
  pub apart : (index : ℕ) → naming_in index table ≤ 1
  pub all : (index : ℕ) → (item_at items index).client ≡ Some client → 1 ≤ naming_in index table
  pub few : count_held table ≤ CLIENT_OBJECTS
  pub short : length table ≤ CLIENT_OBJECTS

-- whether a client is open
abbrev pub is_open : ℕ → List ℕ → Bool
is_open client present = list_any (λ other. other == client) present

-- a session is that of an open client, or it was left, or it is an orphan
abbrev pub IsOpenOwner : List ℕ → Option sessions.Item → Type 0
IsOpenOwner present None = Unit {0}
IsOpenOwner present (Some item) = IfSome item.client (λ client. is_open client present ≡ true)

abbrev pub AreOpenOwners : List ℕ → List (Option sessions.Item) → Type 0
AreOpenOwners present sessions = AllByRecursion (λ item. IsOpenOwner present item) sessions

-- a session's client, none if it was left; its handle, and what was handed out for it; `None` for
-- an orphan
abbrev pub OwnedHandle : Type 0
OwnedHandle = Option ℕ × ℕ × Option (List ℕ)

abbrev pub with_owner : Option ℕ → ℕ → Option (List ℕ) → Option OwnedHandle
with_owner None handle None = None
with_owner None handle (Some context) = Some (None, handle, Some context)
with_owner (Some client) handle handed = Some (Some client, handle, handed)

abbrev pub owned_handle : Option sessions.Item → Option OwnedHandle
owned_handle None = None
owned_handle (Some item) = with_owner item.client item.handle item.handed

abbrev pub owned_handles : List (Option sessions.Item) → List (Option OwnedHandle)
owned_handles sessions = map owned_handle sessions

-- ---- objects

-- the object that a place of a table stands for
abbrev pub place_object : SlotState → List Item → Option ℕ → Option Object
place_object slots items None = None
place_object slots items (Some index) = item_object slots (item_at items index)

-- the objects of a client, by number, in the state of a device
abbrev pub objects_in : SlotState → List Item → List (Option ℕ) → List (Option Object)
objects_in slots items table = map (λ place. place_object slots items place) table

-- ---- what is sent

-- the handle in the device of the item that a place names
abbrev pub slot_handle : List Item → Option ℕ → Option ℕ
slot_handle items None = None
slot_handle items (Some index) = handle_in (item_at items index).slot

abbrev pub handle_or : ℕ → Option ℕ → ℕ
handle_or handle None = handle
handle_or handle (Some other) = other

-- the handle in the device of a client's handle: that of the slot of its object, and else the same
abbrev pub device_handle : List (Option ℕ) → List Item → ℕ → ℕ
device_handle table items handle =
    if octet_of handle == HT_TRANSIENT then handle_or handle (slot_handle items (held_under table handle)) else handle

-- where a handle is an object's, the object is in a slot
abbrev pub IsPlaced : List (Option ℕ) → List Item → ℕ → Type 0
IsPlaced table items handle =
    (octet_of handle == HT_TRANSIENT) ≡ true → is_some (slot_handle items (held_under table handle)) ≡ true

-- ---- what a command leaves of a table

-- with a new object under the least number, where one was made
abbrev pub table_with : List (Option ℕ) → ℕ → Bool → List (Option ℕ)
table_with table item made = if made then put_least item table else table

-- ---- FlushContext

-- the code that refuses a handle, over what the client has
abbrev pub flush_fault_of : Tables → ℕ → Option ℕ
flush_fault_of tables handle = flush_fault tables.has_object tables.has_session handle

-- the device's handle that is flushed: that of a session, and that of the slot of an object, where it is in one
abbrev pub flushed_handle : List (Option ℕ) → List Item → ℕ → Option ℕ
flushed_handle table items handle =
    if octet_of handle == HT_TRANSIENT then slot_handle items (held_under table handle) else Some handle

abbrev pub flush_sent_unless : List (Option ℕ) → List Item → ℕ → Option ℕ → Option ℕ
flush_sent_unless table items handle None = flushed_handle table items handle
flush_sent_unless table items handle (Some code) = None

abbrev pub flush_sent : Tables → List (Option ℕ) → List Item → Result ℕ ℕ → Option ℕ
flush_sent tables table items (Err code) = None
flush_sent tables table items (Ok handle) = flush_sent_unless table items handle (flush_fault_of tables handle)

-- and the client's table and the sessions without what it names
abbrev pub table_without : List (Option ℕ) → ℕ → List (Option ℕ)
table_without table handle = if octet_of handle == HT_TRANSIENT then without_handle table handle else table

abbrev pub sessions_without : List (Option sessions.Item) → ℕ → List (Option sessions.Item)
sessions_without sessions handle =
    if octet_of handle == HT_TRANSIENT then sessions else set sessions (number_of_session handle) None

abbrev pub table_unless : List (Option ℕ) → ℕ → Option ℕ → List (Option ℕ)
table_unless table handle None = table_without table handle
table_unless table handle (Some code) = table

abbrev pub flushed_table : Tables → List (Option ℕ) → Result ℕ ℕ → List (Option ℕ)
flushed_table tables table (Err code) = table
flushed_table tables table (Ok handle) = table_unless table handle (flush_fault_of tables handle)

abbrev pub sessions_unless : List (Option sessions.Item) → ℕ → Option ℕ → List (Option sessions.Item)
sessions_unless sessions handle None = sessions_without sessions handle
sessions_unless sessions handle (Some code) = sessions

abbrev pub flushed_sessions : Tables → List (Option sessions.Item) → Result ℕ ℕ → List (Option sessions.Item)
flushed_sessions tables sessions (Err code) = sessions
flushed_sessions tables sessions (Ok handle) = sessions_unless sessions handle (flush_fault_of tables handle)
