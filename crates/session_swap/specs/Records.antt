-- What the code keeps of the sessions, and what holds of it.
use Rattle.std.specs.Prelude.{◌≡◌, ◌≤◌, ◌==◌, ℕ, Bool, true, ltb, List, [], ◌∷◌, ◌++◌, map, get_or, length, take, drop, vec_capacity, Option, Some, None, is_some, Ok, Err, IfSome, if◌then◌else◌}
use Rattle.std.specs.List.{All, count_by, sum_by}
use Rattle.device_port.specs.Use.{first_unneeded, used_after, without_first, without_one}
use Rattle.linked_records.specs.View.{record_count}
use Rattle.tab_spec.specs.Shape.{number_of_session}
use Rattle.tab_spec.specs.declared.TheConstants.{SESSION_NUMBERS}
use Rattle.tab_spec.specs.declared.numbers.Numbers.{Numbers}
use Rattle.tab_spec.specs.Numbers.{AreInRange}
use Rattle.tab_spec.specs.Admission.{is_session_handle}
use Rattle.tab_spec.specs.Values.{Reading}
use Rattle.tab_spec.specs.declared.contexts.ContextLimits.{ContextLimits}
use Rattle.tab_spec.specs.declared.contexts.TheConstants.{PROFILE_CONTEXTS}
use Rattle.effect_spec.specs.Contexts as forms
use Rattle.effect_spec.specs.Contexts.{Context}
use Rattle.device_spec.specs.Answers.{is_context_of}
use Rattle.session_swap.specs.declared.record.Place.{Place}
use Rattle.session_swap.specs.declared.record.Place.TheVariants as places
use Rattle.session_swap.specs.declared.record.Record.{Record}
use Rattle.session_swap.specs.Items.{Item, Lists, ListsThose, SessionsView, flag, is_held, is_left, is_saved_item, item_at, loaded_items}

-- the context that was handed out, where the session isn't in use
abbrev pub handed_by : Bool → List ℕ → Option (List ℕ)
handed_by in_use context = if in_use then None else Some context

-- the item that a record is of
abbrev pub item_in : Place → Option ℕ → ℕ → List ℕ → Option (List ℕ) → Option Item
item_in places.Unused client handle context handed = None
item_in places.Loaded client handle context handed =
    Some (record { client = client; handle = handle; saved = None; handed = handed })
item_in (places.Saved number) client handle context handed =
    Some (record { client = client; handle = handle; saved = Some (record { number = number; context = context }); handed = handed })

abbrev pub handed_of : Record → Option (List ℕ)
handed_of r = handed_by r.in_use r.handed.items

abbrev pub item_of_record : Record → Option Item
item_of_record r = item_in r.place r.client r.handle r.context.items (handed_of r)

abbrev pub items_of : List Record → List (Option Item)
items_of records = map item_of_record records

-- the numbers of the loaded sessions, the least recently used first, and those of the saved ones, in the order of the saves
pub record OrderView : Type 0 where
  pub loaded : List ℕ
  pub saved : List ℕ

abbrev pub no_order : OrderView
no_order = record { loaded = []; saved = [] }

-- what is seen of the records, over a device of these numbers, where the numbers of these sessions are listed, these were left, and
-- there is room for such contexts
abbrev pub whole_view : Numbers → List Record → ℕ → OrderView → List ℕ → ContextLimits → SessionsView
whole_view numbers records next order left contexts = record {
  numbers = numbers;
  items = items_of records;
  next = next;
  order = order.loaded;
  saved = order.saved;
  left = left;
  contexts = contexts;
}

-- the same where it doesn't count which ones were left
abbrev pub view_with : Numbers → List Record → ℕ → OrderView → ContextLimits → SessionsView
view_with numbers records next order contexts = whole_view numbers records next order [] contexts

-- the same where neither the order of the sessions counts nor room
abbrev pub view_of : Numbers → List Record → ℕ → SessionsView
view_of numbers records next = view_with numbers records next no_order PROFILE_CONTEXTS

-- the number of a context
abbrev pub sequence_of : Reading Context → ℕ
sequence_of (Err code) = 0
sequence_of (Ok read) = read.0.sequence

-- the whole context of the session of this handle, with this number
pub record IsContext (contexts : ContextLimits) (handle number : ℕ) (bytes : List ℕ) : Type 0 where
  pub whole : is_context_of contexts handle bytes (forms.context_of bytes) ≡ true
  pub number_is : sequence_of (forms.context_of bytes) ≡ number

abbrev pub KeepsContext : ContextLimits → Place → ℕ → List ℕ → Type 0
KeepsContext contexts places.Unused handle context = Unit {0}
KeepsContext contexts places.Loaded handle context = Unit {0}
KeepsContext contexts (places.Saved number) handle context = IsContext contexts handle number context

-- what holds of a record: its room is enough for two contexts, and holds one where the session is saved
pub record IsRecord (contexts : ContextLimits) (r : Record) : Type 0 where
  pub room : contexts.session_bytes ≤ vec_capacity r.context
  pub handed_room : contexts.session_bytes ≤ vec_capacity r.handed
  pub context : KeepsContext contexts r.place r.handle r.context.items

-- an item has the handle of a session with this number
pub record IsHandleOf (number : ℕ) (item : Item) : Type 0 where
  pub session : is_session_handle item.handle ≡ true
  pub number_is : number_of_session item.handle ≡ number

-- what holds of the records: there is one for each number
pub record AreRecords (contexts : ContextLimits) (records : List Record) : Type 0 where
  pub count : length records ≡ SESSION_NUMBERS
  pub each : All (λ r. IsRecord contexts r) records
  pub handles : (number : ℕ) → IfSome (item_at (items_of records) number) (λ item. IsHandleOf number item)

-- each loaded session is listed, no more of them than the device has places, and each saved one
pub record ListsIn (numbers : Numbers) (records : List Record) (order : OrderView) : Type 0 where
  pub range : AreInRange numbers
  pub lists : Lists order.loaded (items_of records)
  pub most : length order.loaded ≤ numbers.loaded
  pub saved : ListsThose is_saved_item order.saved (items_of records)

-- what holds of all that is kept: each left session is listed, so many sessions are clients' or left, and there are no more than may
-- be active
pub record AreListed (contexts : ContextLimits) (numbers : Numbers) (records : List Record) (order : OrderView) (left : List ℕ) (held : ℕ) : Type 0 where
  pub sound : AreRecords contexts records
  pub listed : ListsIn numbers records order
  pub left_are : ListsThose is_left left (items_of records)
  pub held_is : held ≡ count_by is_held (items_of records)
  pub few : count_by is_some (items_of records) ≤ numbers.active

-- and of what is seen of it
pub record IsSoundView (view : SessionsView) : Type 0 where
  pub range : AreInRange view.numbers
  pub count : length view.items ≡ SESSION_NUMBERS
  pub lists : Lists view.order view.items
  pub most : loaded_items view.items ≤ view.numbers.loaded
  pub saved : ListsThose is_saved_item view.saved view.items
  pub left : ListsThose is_left view.left view.items
  pub few : count_by is_some view.items ≤ view.numbers.active

-- there is room for the number of each session, and no more are listed than there are
pub record HasNumberRoom (numbers : List ℕ) (capacity : ℕ) : Type 0 where
  pub room : SESSION_NUMBERS ≤ capacity
  pub few : length numbers ≤ SESSION_NUMBERS

-- ---- the lists

-- the numbers in a list: those of its indices
abbrev pub names_of : List (ℕ × Unit {0}) → List ℕ
names_of list = map (λ p. p.0) list

abbrev pub names_in : List (List (ℕ × Unit {0})) → ℕ → List ℕ
names_in lists list = names_of (get_or lists list [])

-- list 0 has the unused numbers, list 1 the loaded sessions, list 2 the saved ones
abbrev pub order_of : List (List (ℕ × Unit {0})) → OrderView
order_of lists = record { loaded = names_in lists 1; saved = names_in lists 2 }

-- how often a number stands in a list
abbrev pub stands_in : ℕ → List (ℕ × Unit {0}) → ℕ
stands_in number list = count_by (λ one. one == number) (names_of list)

-- there are three lists, and each number below this one stands in one of them, and once
pub record HasFirst (count : ℕ) (lists : List (List (ℕ × Unit {0}))) : Type 0 where
  pub three : length lists ≡ 3
  pub once : (number : ℕ) → sum_by (stands_in number) lists ≡ flag (ltb number count)
  pub total : record_count lists ≡ count

-- the number of each session stands in a list; so many sessions are loaded, and so many saved
pub record AreOrdered (lists : List (List (ℕ × Unit {0}))) (loaded saved : ℕ) : Type 0 where
  pub all : HasFirst SESSION_NUMBERS lists
  pub loaded_is : loaded ≡ length (order_of lists).loaded
  pub saved_is : saved ≡ length (order_of lists).saved

-- ---- what becomes of the order

-- a session is used
abbrev pub order_used : ℕ → OrderView → OrderView
order_used number order = record order { loaded = used_after order.loaded number }

-- it is saved
abbrev pub order_out : ℕ → OrderView → OrderView
order_out number order = record { loaded = without_one number order.loaded; saved = order.saved ++ number ∷ [] }

-- it is loaded, and used
abbrev pub order_in : ℕ → OrderView → OrderView
order_in number order = record { loaded = used_after order.loaded number; saved = without_one number order.saved }

-- it is gone
abbrev pub order_without : ℕ → OrderView → OrderView
order_without number order = record { loaded = without_one number order.loaded; saved = without_one number order.saved }

-- so many that aren't needed are saved, the least recently used first
abbrev pub order_evicted : ℕ → List ℕ → OrderView → OrderView
order_evicted count needed order =
    record { loaded = without_first count needed order.loaded; saved = order.saved ++ first_unneeded count needed order.loaded }

-- those that are needed are loaded, and used
abbrev pub order_filled : List ℕ → OrderView → OrderView
order_filled [] order = order
order_filled (number ∷ needed) order = order_filled needed (order_in number order)

-- so many sessions are saved, the least recently used first
abbrev pub order_freed : ℕ → OrderView → OrderView
order_freed count order = record { loaded = drop count order.loaded; saved = order.saved ++ take count order.loaded }

-- and another one is loaded and saved
abbrev pub order_renewed : ℕ → ℕ → OrderView → OrderView
order_renewed count number order =
    record { loaded = drop count order.loaded; saved = used_after (order.saved ++ take count order.loaded) number }
