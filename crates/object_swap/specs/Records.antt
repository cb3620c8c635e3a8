-- What the code keeps of the items, and what holds of it.
use Rattle.std.specs.Prelude.{◌≡◌, ◌≤◌, ◌<◌, ◌^◌, ℕ, ◌==◌, ◌+◌, Bool, true, false, List, [], map, length, get_or, vec_capacity, Option, Some, None, IfSome, if◌then◌else◌}
use Rattle.std.specs.List.{All, AllByRecursion, count_by}
use Rattle.tab_spec.specs.declared.TheConstants.{HT_TRANSIENT, TRANSIENT_FIRST}
use Rattle.tab_spec.specs.Shape.{octet_of}
use Rattle.tab_spec.specs.declared.contexts.ContextLimits.{ContextLimits}
use Rattle.tab_spec.specs.declared.contexts.TheConstants.{PROFILE_CONTEXTS}
use Rattle.effect_spec.specs.Contexts.{context_of}
use Rattle.device_spec.specs.Answers.{is_context_of}
use Rattle.device_spec.specs.Slots.{slot_of}
use Rattle.device_port.specs.Use.{is_among}
use Rattle.object_swap.specs.declared.record.Record.{Record}
use Rattle.linked_records.specs.View.{RecordsView, record_count}
use Rattle.object_swap.specs.declared.TheConstants.{PLACES_MOST}
use Rattle.object_swap.specs.Items.{Item, ObjectsView, has_list, is_client, is_nobodys, is_resident, is_vacant, item_at, owner_at}

abbrev pub slot_in : Option ℕ → Option ℕ
slot_in None = None
slot_in (Some handle) = Some (slot_of handle)

-- the item that a record is of
abbrev pub item_of : Record → Item
item_of r = record { client = r.client; slot = slot_in r.handle; blob = if r.kept then Some r.blob.items else None }

abbrev pub items_of : List Record → List Item
items_of records = map item_of records

-- the whole context of an object
abbrev pub IsContext : ContextLimits → List ℕ → Type 0
IsContext contexts bytes = is_context_of contexts TRANSIENT_FIRST bytes (context_of bytes) ≡ true

-- what holds of a record: its handle is an object's, its room is enough, and holds a context where one is kept
pub record IsRecord (contexts : ContextLimits) (r : Record) : Type 0 where
  pub handle : IfSome r.handle (λ handle. (octet_of handle == HT_TRANSIENT) ≡ true)
  pub room : contexts.object_bytes ≤ vec_capacity r.blob
  pub context : r.kept ≡ true → IsContext contexts r.blob.items

abbrev pub AreRecords : ContextLimits → List Record → Type 0
AreRecords contexts records = All (λ r. IsRecord contexts r) records

-- whether each item is in a slot
abbrev pub residency : List Record → List Bool
residency records = map is_resident (items_of records)

abbrev pub number : Bool → ℕ
number flag = if flag then 1 else 0

-- what is seen of records, of the list of residents, of so many slots, of the owner of each list,
-- of the handles of the orphans, and of what contexts there is room for
abbrev pub view_with : List Record → List ℕ → ℕ → List (Option ℕ) → List ℕ → ContextLimits → ObjectsView
view_with records loaded slots owners left contexts =
    record { items = items_of records; slots = slots; order = loaded; owners = owners; left = map slot_of left; contexts = contexts }

-- the same if neither lists nor orphans count, nor room
abbrev pub view_of : List Record → List ℕ → ℕ → ObjectsView
view_of records loaded slots = view_with records loaded slots [] [] PROFILE_CONTEXTS

-- no flag is true that wasn't
abbrev pub NoMore : List Bool → List Bool → Type 0
NoMore flags new_flags = (index : ℕ) → get_or flags index false ≡ false → get_or new_flags index false ≡ false

-- a list has the index of each true flag, once
pub record ListsFlags (flags : List Bool) (indices : List ℕ) : Type 0 where
  pub each : (index : ℕ) → count_by (λ one. one == index) indices ≡ number (get_or flags index false)
  pub count : length indices ≡ count_by (λ flag. flag) flags

-- a list of the residents, with room for every record
pub record ListsResidents (records : List Record) (indices : List ℕ) (room : ℕ) : Type 0 where
  pub lists : ListsFlags (residency records) indices
  pub most : length records ≤ room

-- whose each list is, if anybody's, and how many more find room without memory being taken
pub record OwnersView : Type 0 where
  pub owners : List (Option ℕ)
  pub spare : ℕ

-- a list of the free lists, with room for the number of every list
pub record ListsFree (owners : List (Option ℕ)) (free : List ℕ) (room : ℕ) : Type 0 where
  pub lists : ListsFlags (map is_nobodys owners) free
  pub most : length owners ≤ room

abbrev pub AreAmong : List ℕ → List ℕ → Type 0
AreAmong needed indices = AllByRecursion (λ index. is_among needed index ≡ true) indices

-- ---- the lists of the clients

-- the indices in a list
abbrev pub IndexLists : Type 0
IndexLists = List (List (ℕ × Unit {0}))

-- how often an index stands in a list
abbrev pub stands_in : ℕ → List (ℕ × Unit {0}) → ℕ
stands_in index list = count_by (λ p. p.0 == index) list

-- whether an item is of the client whose list it is
abbrev pub is_whose : Option ℕ → Item → Bool
is_whose None item = false
is_whose (Some client) item = is_client client item

-- each list has the index of each item of its client, once, and no other; an item of a client has a list, and no client has two
pub record AreThreaded (items : List Item) (lists : IndexLists) (owners : List (Option ℕ)) : Type 0 where
  pub as_many : length lists ≡ length owners
  pub each : (list index : ℕ) → stands_in index (get_or lists list []) ≡ number (is_whose (owner_at owners list) (item_at items index))
  pub owned : (index client : ℕ) → is_client client (item_at items index) ≡ true → has_list owners client ≡ true
  pub apart : (list other client : ℕ) → owner_at owners list ≡ Some client → owner_at owners other ≡ Some client → list ≡ other

-- an item is vacant exactly if it has no client
abbrev pub AreSomebodys : List Item → Type 0
AreSomebodys items = (index : ℕ) → is_vacant (item_at items index) ≡ is_nobodys (item_at items index).client

-- so many items are vacant, each index of another one stands in a list, and there is room for those of the vacant ones
pub record AreCounted (items : List Item) (view : RecordsView (Unit {0})) (vacant : ℕ) : Type 0 where
  pub vacant_is : vacant ≡ count_by is_vacant items
  pub all : record_count view.lists + vacant ≡ length items
  pub given_least : record_count view.lists ≤ view.given
  pub given_most : view.given ≤ length items
  pub spare : vacant ≤ view.spare

-- what holds of the records and of the lists of the clients
pub record IsOwnedBy (items : List Item) (view : RecordsView (Unit {0})) (owners : List (Option ℕ)) (vacant : ℕ) : Type 0 where
  pub threaded : AreThreaded items view.lists owners
  pub somebodys : AreSomebodys items
  pub counted : AreCounted items view vacant
  pub few_lists : length owners ≤ PLACES_MOST

-- handles of objects
abbrev pub AreTransient : List ℕ → Type 0
AreTransient handles = All (λ handle. (octet_of handle == HT_TRANSIENT) ≡ true) handles

-- what holds of the records, of the list of residents and of the handles of the orphans, how many
-- each of the two has room for, and how many slots there are
pub record HoldsResidents (contexts : ContextLimits) (records : List Record) (loaded left : List ℕ) (loaded_room left_room slots : ℕ) : Type 0 where
  pub sound : AreRecords contexts records
  pub residents : ListsFlags (residency records) loaded
  pub room_for_loaded : length records ≤ loaded_room
  pub few : length records < 2 ^ 32
  pub fits : length loaded + length left ≤ slots
  pub room_for_left : slots ≤ left_room
  pub transient : AreTransient left

-- all that holds
pub record ObjectsHold (contexts : ContextLimits) (records : List Record) (view : RecordsView (Unit {0})) (owners : List (Option ℕ)) (vacant : ℕ) (loaded left : List ℕ)
    (loaded_room left_room slots : ℕ) : Type 0 where
  pub owned : IsOwnedBy (items_of records) view owners vacant
  pub held : HoldsResidents contexts records loaded left loaded_room left_room slots
