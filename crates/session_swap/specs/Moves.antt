-- What the three commands that move sessions do to the state of a device that shows it (Part 3,
-- "TPM2_ContextSave", "TPM2_ContextLoad", "TPM2_FlushContext").
use Rattle.std.specs.Prelude.{◌≡◌, ◌<◌, ◌≤◌, ℕ, ◌+◌, ◌-◌, min, ◌==◌, Bool, true, false, List, [], length, map, set, get_or, Option, Some, None, is_some, IfSome, IsSomeAnd, Result, Ok, OnErr, OnOk, drop, take}
use Rattle.tab_spec.specs.declared.TheConstants.{CONTEXT_LIMIT, HEADER_BYTES}
use Rattle.tab_spec.specs.declared.numbers.Numbers.{Numbers}
use Rattle.tab_spec.specs.Frame.{is_frame}
use Rattle.tab_spec.specs.Session.{Session}
use Rattle.tab_spec.specs.Shape.{number_of_session, octet_of}
use Rattle.tab_spec.specs.declared.contexts.ContextLimits.{ContextLimits}
use Rattle.device_spec.specs.ContextCommands.{context_save_command}
use Rattle.device_port.specs.Device.{Seen, asked_of, last_of, sent_of}
use Rattle.device_port.specs.declared.own.SwapError.{SwapError}
use Rattle.device_port.specs.Own.{IsOwnAnswered, Succeeds}
use Rattle.device_port.specs.Use.{is_among}
use Rattle.device_spec.specs.Slots.{SessionPlace, SlotState, IsSlots, inactive, loaded, saved, gap_of, loaded_count, loaded_session, place_of, session_at, session_of_context, with_place}
use Rattle.session_swap.specs.declared.TheConstants.{NEEDED_MOST}
use Rattle.session_swap.specs.declared.record.Record.{Record}
use Rattle.session_swap.specs.Items.{AreFree, AreLoaded, AreNamed, HandsOut, HasGapRoom, HasNewContext, IsRenewed, IsSentOut, Item, KeepsSessions, Names, Rise, SessionsView, Stand, context_number, counter_of, full_flag, full_kept, gap_in, is_loaded_item, is_saved_item, item_at, item_of, item_session, loaded_items, missing, number_after, number_of_item, numbers_along, numbers_of, oldest_number, renewal_gap, rest_of, saved_items}
use Rattle.session_swap.specs.Records.{AreRecords, IsContext, ListsIn, OrderView, items_of, order_evicted, order_filled, order_freed, order_in, view_of}

-- ---- the state after each

-- the session of a handle is saved under the next number
abbrev pub put_out : ℕ → Option SlotState → Option SlotState
put_out handle None = None
put_out handle (Some slots) = Some (
    record (with_place slots (number_of_session handle) (saved (octet_of handle) slots.counter)) { counter = slots.counter + 1 }
    )

abbrev pub loaded_place : ℕ → Option Session → SessionPlace
loaded_place octet None = inactive
loaded_place octet (Some s) = loaded octet s

-- the session of a context is loaded under its handle
abbrev pub brought_in : ℕ → List ℕ → Option SlotState → Option SlotState
brought_in handle context None = None
brought_in handle context (Some slots) = Some (
    with_place slots (number_of_session handle) (loaded_place (octet_of handle) (session_at slots handle (Some context)))
    )

-- the session of a handle is gone
abbrev pub ended : ℕ → Option SlotState → Option SlotState
ended handle None = None
ended handle (Some slots) = Some (with_place slots (number_of_session handle) inactive)

-- ---- an item after each

-- the session is saved in this context, under the number that it begins with
abbrev pub with_context : List ℕ → Option Item → Option Item
with_context context None = None
with_context context (Some item) = Some (record item { saved = Some (record { number = context_number context; context = context }) })

-- and this context was handed out
abbrev pub with_handed : List ℕ → Option Item → Option Item
with_handed context None = None
with_handed context (Some item) = Some (record item { handed = Some context })

-- ---- when the device has no reason to refuse it

-- there are numbers left for a context, and the oldest one isn't too old
pub record MaySave (slots : SlotState) : Type 0 where
  pub below : slots.counter < CONTEXT_LIMIT
  pub narrow : gap_of slots < slots.numbers.gap

abbrev pub MaySaveIf : Option SlotState → Type 0
MaySaveIf state = IfSome state MaySave

-- a loaded session
pub record IsIn (slots : SlotState) (handle : ℕ) : Type 0 where
  pub started : slots.started ≡ true
  pub sound : IsSlots slots
  pub there : is_some (loaded_session slots handle) ≡ true

-- a saved session with its last context, and a place for it
pub record IsOut (slots : SlotState) (handle : ℕ) (context : List ℕ) : Type 0 where
  pub started : slots.started ≡ true
  pub sound : IsSlots slots
  pub room : loaded_count slots.sessions < slots.numbers.loaded
  pub number : ℕ
  pub place : place_of slots handle ≡ saved (octet_of handle) number
  pub there : is_some (session_at slots handle (Some context)) ≡ true

-- a place for a loaded session is free
abbrev pub HasPlace : Option SlotState → Type 0
HasPlace state = IfSome state (λ slots. loaded_count slots.sessions < slots.numbers.loaded)

-- ---- what moves keep

-- records that moves may begin with, if these active numbers of the device have no owner
pub record Ready (contexts : ContextLimits) (state : Option SlotState) (numbers : Numbers) (records : List Record) (next : ℕ) (others : List ℕ) : Type 0 where
  pub sound : AreRecords contexts records
  pub stand : Stand state (view_of numbers records next) others

-- what moves of sessions keep, of a device and of the records: every session stands, with the same
-- owner. The gap grows by no more than the number of the next context
pub record Swaps {D : Type 0} (seen : D → Seen) (old new : D)
    (records new_records : List Record) : Type 0 where
  pub rest : rest_of (seen new).state ≡ rest_of (seen old).state
  pub sessions : KeepsSessions (seen old).state (seen new).state (items_of records) (items_of new_records)
  pub gap : gap_in (seen new).state + counter_of (seen old).state ≤ gap_in (seen old).state + counter_of (seen new).state
  pub rises : counter_of (seen old).state ≤ counter_of (seen new).state
  pub base_is : (seen new).base ≡ (seen old).base
  pub count : (seen old).faults ≤ (seen new).faults

-- one session was saved, under the number that came next, its place is free, and every other stays where it was
pub record Saves (old_state new_state : Option SlotState) (items new_items : List (Option Item)) (number : ℕ) : Type 0 where
  pub saved_is : is_saved_item (item_at new_items number) ≡ true
  pub items_are : new_items ≡ set items number (item_at new_items number)
  pub number_is : IfSome old_state (λ slots. number_of_item (item_at new_items number) ≡ Some slots.counter)
  pub counted : IfSome old_state (λ slots. counter_of new_state ≡ slots.counter + 1)
  pub free : AreFree new_state 1

-- what a save leaves over every device: this response is the last one, it is a frame, the context in it is kept under the number
-- that it begins with, and the next one gets the number after that
pub record KeepsReply (last : Option (List ℕ)) (reply : List ℕ) (items new_items : List (Option Item)) (number new_next : ℕ) : Type 0 where
  pub last_is : last ≡ Some reply
  pub frame : is_frame reply ≡ true
  pub items_are : new_items ≡ set items number (with_context (drop HEADER_BYTES reply) (item_at items number))
  pub next_is : new_next ≡ number_after (context_number (drop HEADER_BYTES reply))

-- the response is a success, and has the context of the session of this item
pub record RepliesOf (contexts : ContextLimits) (state : Option SlotState) (reply : List ℕ) (item : Item) : Type 0 where
  pub success : Succeeds contexts (context_save_command item.handle) reply
  pub context : IfSome state (λ slots. HandsOut slots item.handle (item_session slots (Some item)) reply)

-- one session was loaded, and every other stays where it was
pub record Loads (old_state new_state : Option SlotState) (items new_items : List (Option Item)) (number : ℕ) : Type 0 where
  pub loaded_is : is_loaded_item (item_at new_items number) ≡ true
  pub items_are : new_items ≡ set items number (item_at new_items number)
  pub counted : counter_of new_state ≡ counter_of old_state

-- nothing moved
pub record NothingMoves (old_state new_state : Option SlotState) (items new_items : List (Option Item)) : Type 0 where
  pub items_are : new_items ≡ items
  pub state_is : new_state ≡ old_state

-- there are numbers for as many contexts as one command needs, before the oldest one is too old
pub record MaySaveAll (slots : SlotState) : Type 0 where
  pub below : slots.counter + NEEDED_MOST ≤ CONTEXT_LIMIT
  pub narrow : gap_of slots < renewal_gap slots.numbers

abbrev pub MaySaveAllIf : Option SlotState → Type 0
MaySaveAllIf state = IfSome state MaySaveAll

-- a session of this handle is saved in these bytes, under this number, and they are the response's
pub record SavesIn (contexts : ContextLimits) (old new : Seen) (handle number : ℕ) (context reply : List ℕ) : Type 0 where
  pub state : new.state ≡ put_out handle old.state
  pub counted : IfSome old.state (λ slots. number ≡ slots.counter)
  pub same : IfSome old.state
      (λ slots. session_of_context slots.persist.seed handle number (Some context) ≡ loaded_session slots handle)
  pub told : IfSome old.state (λ slots. HandsOut slots handle (loaded_session slots handle) reply)
  -- over every device
  pub kept : IsContext contexts handle number context
  pub last : last_of new ≡ Some reply
  pub success : Succeeds contexts (context_save_command handle) reply
  pub bytes : context ≡ drop HEADER_BYTES reply
  pub begins : number ≡ context_number (drop HEADER_BYTES reply)

-- one session was saved: in the state, and over every device by what was sent and which context is kept
pub record PutsOut (contexts : ContextLimits) (old new : Seen) (reply : List ℕ) (items new_items : List (Option Item)) (number new_next : ℕ) : Type 0 where
  pub saves : Saves old.state new.state items new_items number
  pub sent : IsSomeAnd (item_at new_items number) (λ item. IsSentOut (asked_of new) (last_of new) item)
  pub reply_is : KeepsReply (last_of new) reply items new_items number new_next
  pub told : IsSomeAnd (item_at items number) (λ item. RepliesOf contexts old.state reply item)

-- every session that was saved stays where it was, and a context with a number below what came next is one that was there already
pub record KeepsSaved (state : Option SlotState) (items new_items : List (Option Item)) : Type 0 where
  pub others : (number : ℕ) → is_saved_item (item_at items number) ≡ true → item_at new_items number ≡ item_at items number
  pub saved : saved_items items ≤ saved_items new_items
  pub fresh : (number last : ℕ) → number_of_item (item_at new_items number) ≡ Some last → last < counter_of state
      → number_of_item (item_at items number) ≡ Some last

-- the saved session of this number has the oldest context, if the device shows its state
pub record IsOldestAt (state : Option SlotState) (items : List (Option Item)) (number : ℕ) : Type 0 where
  pub saved : is_saved_item (item_at items number) ≡ true
  pub oldest : IfSome state (λ slots. number_of_item (item_at items number) ≡ oldest_number items)

-- a place was made free: the oldest context is the same one, and the number that comes next rose by one where none was free. Where
-- every place was taken, the least recently used session left
pub record Frees (state new_state : Option SlotState) (view : SessionsView) (new_items : List (Option Item)) (before after : OrderView) : Type 0 where
  pub free : AreFree new_state 1
  pub oldest : IfSome state (λ slots. (number : ℕ) → oldest_number view.items ≡ Some number → oldest_number new_items ≡ Some number)
  pub exact : counter_of new_state ≡ counter_of state + full_flag state
  pub order : after ≡ order_freed (full_kept view) before

-- how far that raises the number that comes next at the most, and that one command is sent where every place is taken; the gap leaves
-- room afterwards
pub record FreeingCounts {D : Type 0} (seen : D → Seen) (old new : D) (view : SessionsView) : Type 0 where
  pub room : HasGapRoom (seen new).state
  pub counter : counter_of (seen new).state ≤ counter_of (seen old).state + 1
  pub counter_free : AreFree (seen old).state 1 → counter_of (seen new).state ≡ counter_of (seen old).state
  pub sent : sent_of (seen new) ≤ sent_of (seen old) + full_kept view

-- the session of a number was renewed (`Renews` of `Items.antt`, of the records)
pub record RenewsAt (contexts : ContextLimits) (old new : Seen) (items new_items : List (Option Item)) (number : ℕ) : Type 0 where
  pub renewed : IfSome new.state (λ slots. IsRenewed slots new_items number)
  pub fresh : HasNewContext (counter_of old.state) items new_items number
  pub sent : IsSomeAnd (item_at new_items number) (λ item. IsSentOut (asked_of new) (last_of new) item)
  pub answered : IsOwnAnswered contexts (asked_of new) (last_of new)
  pub free : AreFree new.state 1
  pub saved : saved_items items ≤ saved_items new_items
  pub exact : IfSome new.state (λ slots. slots.counter ≡ counter_of old.state + full_flag old.state + 1)

-- ---- sessions that a command needs

-- the handle of a session
abbrev pub handle_of : Option Item → ℕ
handle_of None = 0
handle_of (Some item) = item.handle

abbrev pub handle_at : List (Option Item) → ℕ → ℕ
handle_at items number = handle_of (item_at items number)

-- so many sessions from the first one on are needed
abbrev pub AllNeeded : List (Option Item) → List ℕ → List ℕ → ℕ → Type 0
AllNeeded items numbers needed count = (k : ℕ) → k < count → is_among needed (handle_at items (get_or numbers k 0)) ≡ true

-- whether each session is loaded
abbrev pub loadedness : List Record → List Bool
loadedness records = map is_loaded_item (items_of records)

-- along the saved sessions the numbers of their contexts rise, if the device shows its state
abbrev pub RiseIn : Option SlotState → List (Option Item) → List ℕ → Type 0
RiseIn state items numbers = IfSome state (λ slots. Rise (numbers_along items numbers))

-- records that moves may begin with, and the lists of their sessions
pub record ReadyIn (contexts : ContextLimits) (state : Option SlotState) (numbers : Numbers) (records : List Record) (next : ℕ) (order : OrderView) : Type 0 where
  pub ready : Ready contexts state numbers records next []
  pub listed : ListsIn numbers records order
  pub rise : RiseIn state (items_of records) order.saved

-- sessions that are to be loaded: they are there, and they fit beside those that are loaded
pub record CanFill (numbers : Numbers) (records : List Record) (needed : List ℕ) : Type 0 where
  pub named : AreNamed needed (items_of records)
  pub fits : loaded_items (items_of records) + missing needed (items_of records) ≤ numbers.loaded

-- sessions that are needed, where no more than so many others are to be loaded, and no more have to leave than one command needs
pub record CanClear (records : List Record) (needed : List ℕ) (most : ℕ) : Type 0 where
  pub named : AreNamed needed (items_of records)
  pub fits : length needed ≤ most + missing needed (items_of records)
  pub few : loaded_items (items_of records) ≤ most + NEEDED_MOST

-- loaded sessions are saved until so many are left, the least recently used first, and none that is needed
pub record Evicts {D : Type 0} (seen : D → Seen) (old new : D) (records new_records : List Record) (before after : OrderView)
    (needed : List ℕ) (most : ℕ) (result : Result (Unit {0}) SwapError) : Type 0 where
  pub stay : (handle : ℕ) → Names (items_of records) handle → is_among needed handle ≡ true
      → item_of (items_of new_records) handle ≡ item_of (items_of records) handle
  pub left : OnOk result (loaded_items (items_of new_records) ≡ min (loaded_items (items_of records)) most)
  pub order : OnOk result (after ≡ order_evicted (loaded_items (items_of records) - most) (numbers_of needed) before)
  pub failed : OnErr result ((gone : ℕ) × (gone ≤ loaded_items (items_of records) - most) × (after ≡ order_evicted gone (numbers_of needed) before))
  pub sent : sent_of (seen new) ≤ sent_of (seen old) + (loaded_items (items_of records) - most)
  pub counter : counter_of (seen new).state ≤ counter_of (seen old).state + NEEDED_MOST

-- one session is loaded, by one command at most, and used
pub record Brings {D : Type 0} (seen : D → Seen) (old new : D) (records new_records : List Record) (before after : OrderView) (handle : ℕ)
    (result : Result (Unit {0}) SwapError) : Type 0 where
  pub others : (other : ℕ) → (other == number_of_session handle) ≡ false
      → item_at (items_of new_records) other ≡ item_at (items_of records) other
  pub sent : sent_of (seen new) ≤ sent_of (seen old) + 1
  pub loaded_is : OnOk result (loadedness new_records ≡ set (loadedness records) (number_of_session handle) true)
  pub order : OnOk result (after ≡ order_in (number_of_session handle) before)
  pub failed : OnErr result (after ≡ before)
  pub paid : OnOk result (sent_of (seen new) + loaded_items (items_of records) ≤ sent_of (seen old) + loaded_items (items_of new_records))
  pub idle : is_loaded_item (item_of (items_of records) handle) ≡ true → (new ≡ old) × (new_records ≡ records) × (result ≡ Ok tt)

-- all that is needed is loaded, and used
pub record Fills {D : Type 0} (seen : D → Seen) (old new : D) (records new_records : List Record) (before after : OrderView)
    (needed : List ℕ) (result : Result (Unit {0}) SwapError) : Type 0 where
  pub stay : (number : ℕ) → is_loaded_item (item_at (items_of records) number) ≡ true
      → item_at (items_of new_records) number ≡ item_at (items_of records) number
  pub loaded_is : OnOk result (AreLoaded needed (items_of new_records))
  pub count : OnOk result (loaded_items (items_of new_records) ≡ loaded_items (items_of records) + missing needed (items_of records))
  pub order : OnOk result (after ≡ order_filled (numbers_of needed) before)
  pub failed : OnErr result ((used : ℕ) × (after ≡ order_filled (take used (numbers_of needed)) before))
  pub sent : sent_of (seen new) ≤ sent_of (seen old) + missing needed (items_of records)
  pub idle : AreLoaded needed (items_of records) → (new ≡ old) × (new_records ≡ records) × (result ≡ Ok tt)

-- what a swap moves: what is needed and loaded stays so, and no more contexts are made than one command needs
pub record SwapsFor {D : Type 0} (seen : D → Seen) (old new : D) (records new_records : List Record) (needed : List ℕ) : Type 0 where
  pub swaps : Swaps seen old new records new_records
  pub stay : (handle : ℕ) → is_among needed handle ≡ true → is_loaded_item (item_of (items_of records) handle) ≡ true
      → item_of (items_of new_records) handle ≡ item_of (items_of records) handle
  pub counter : counter_of (seen new).state ≤ counter_of (seen old).state + NEEDED_MOST
