-- The sessions that a swapper holds for its clients, each under its number: loaded in the device, or saved in a context beside it
-- (Part 1, "Session Context Management"). A client may have saved one itself: that isn't in use until the context that was handed out
-- for it is given back. Once its client has closed, such a session is left: whoever gives the context back gets it. What a device that
-- tells its state has of them is said over that state.
use Rattle.std.specs.Prelude.{◌≡◌, ◌<◌, ◌≤◌, ◌⊎◌, ℕ, ◌+◌, ◌-◌, ◌*◌, ◌^◌, ◌==◌, ◌&&◌, ◌||◌, min, not, bytes_eq, Bool, true, false, List, [], ◌∷◌, ◌++◌, length, map, get_or, set, replicate, slice_get, Option, Some, None, is_some, IfSome, IsSomeAnd, Result, Ok, Err, IfOk, OnErr, OnOk, take, drop, if◌then◌else◌}
use Rattle.std.specs.Int.{w64, from_be_bytes}
use Rattle.std.specs.List.{AllByRecursion, count_by, list_any}
use Rattle.tab_spec.specs.declared.TheConstants.{CONTEXT_LIMIT, HEADER_BYTES, RC_SUCCESS, SESSION_NUMBERS, ST_NO_SESSIONS}
use Rattle.tab_spec.specs.declared.numbers.Numbers.{Numbers}
use Rattle.tab_spec.specs.Admission.{is_session_handle}
use Rattle.tab_spec.specs.Frame.{is_frame}
use Rattle.tab_spec.specs.Reply.{response}
use Rattle.tab_spec.specs.Session.{Session}
use Rattle.tab_spec.specs.Shape.{number_of_session, octet_of}
use Rattle.tab_spec.specs.declared.contexts.ContextLimits.{ContextLimits}
use Rattle.device_port.specs.Device.{Seen, asked_of, last_of, sent_of}
use Rattle.device_port.specs.Use.{all_used, first_unneeded, is_among, used_after, without_first, without_one}
use Rattle.device_port.specs.declared.own.SwapError.{SwapError}
use Rattle.session_swap.specs.declared.TheConstants.{NEEDED_MOST}
use Rattle.effect_spec.specs.Contexts.{session_context}
use Rattle.device_spec.specs.Answers.{is_word, word_at}
use Rattle.device_spec.specs.ContextCommands.{context_save_command}
use Rattle.device_port.specs.Own.{AsksSome, IsOwnAnswered, Succeeds}
use Rattle.device_spec.specs.Slots.{SessionPlace, SlotState, IsSlots, inactive, saved, gap_from, gap_of, is_active, is_active_with, is_loaded, loaded, loaded_count, no_sessions, older, session_at}

-- a context that a session can be loaded from, and its number
pub record Saved : Type 0 where
  pub number : ℕ
  pub context : List ℕ

-- the client that has the session, none for a left session and an orphan; its handle; its last context, if it isn't loaded; and the
-- context that was handed out, if a client saved it. Without that it is in use, or an orphan
pub record Item : Type 0 where
  pub client : Option ℕ
  pub handle : ℕ
  pub saved : Option Saved
  pub handed : Option (List ℕ)

-- what is seen of a swapper: how much the device has room for, its sessions, by number, the number that the next context gets, the
-- numbers of the loaded sessions, the least recently used first, those of the saved ones, in the order in which they were saved,
-- those of the left ones, in the order in which they were left, and what contexts there is room for
pub record SessionsView : Type 0 where
  pub numbers : Numbers
  pub items : List (Option Item)
  pub next : ℕ
  pub order : List ℕ
  pub saved : List ℕ
  pub left : List ℕ
  pub contexts : ContextLimits

-- ---- items

abbrev pub no_items : List (Option Item)
no_items = replicate SESSION_NUMBERS None

abbrev pub item_at : List (Option Item) → ℕ → Option Item
item_at items number = get_or items number None

abbrev pub is_saved_item : Option Item → Bool
is_saved_item None = false
is_saved_item (Some item) = is_some item.saved

abbrev pub is_loaded_item : Option Item → Bool
is_loaded_item None = false
is_loaded_item (Some item) = not (is_some item.saved)

abbrev pub saved_items : List (Option Item) → ℕ
saved_items items = count_by is_saved_item items

abbrev pub loaded_items : List (Option Item) → ℕ
loaded_items items = count_by is_loaded_item items

-- a session that was started, under this handle
abbrev pub new_item : ℕ → ℕ → Item
new_item client handle = record { client = Some client; handle = handle; saved = None; handed = None }

-- the same session as an orphan: without a client, and only still to be flushed
abbrev pub disowned : Option Item → Option Item
disowned None = None
disowned (Some item) = Some (record item { client = None; handed = None })

-- an orphan
abbrev pub is_orphan : Option Item → Bool
is_orphan None = false
is_orphan (Some item) = not (is_some item.client) && not (is_some item.handed)

-- the session that its client saved, left by it
abbrev pub left_behind : Option Item → Option Item
left_behind None = None
left_behind (Some item) = Some (record item { client = None })

-- a session that a client saved and left: it has no client, and whoever gives back the context that
-- was handed out gets it
abbrev pub is_left : Option Item → Bool
is_left None = false
is_left (Some item) = not (is_some item.client) && is_some item.handed

-- a session that its client saved, and still has
abbrev pub is_saved_for_owner : Option Item → Bool
is_saved_for_owner None = false
is_saved_for_owner (Some item) = is_some item.client && is_some item.handed

-- the session of a handle
abbrev pub with_handle : ℕ → Option Item → Option Item
with_handle handle None = None
with_handle handle (Some item) = if item.handle == handle then Some item else None

abbrev pub item_of : List (Option Item) → ℕ → Option Item
item_of items handle = with_handle handle (item_at items (number_of_session handle))

-- its client, and whether it is in use: its client didn't save it
abbrev pub owner_by : Bool → Option ℕ → Option (ℕ × Bool)
owner_by used None = None
owner_by used (Some client) = Some (client, used)

abbrev pub owner_of_item : Option Item → Option (ℕ × Bool)
owner_of_item None = None
owner_of_item (Some item) = owner_by (not (is_some item.handed)) item.client

-- a session of a client
abbrev pub has_owner : Option Item → Bool
has_owner item = is_some (owner_of_item item)

-- a session of a client, or one that was left: all but orphans
abbrev pub is_held : Option Item → Bool
is_held item = has_owner item || is_left item

abbrev pub owner_in : List (Option Item) → ℕ → Option (ℕ × Bool)
owner_in items handle = owner_of_item (item_of items handle)

-- that client's, in use or saved
abbrev pub is_owner : ℕ → Option (ℕ × Bool) → Bool
is_owner client None = false
is_owner client (Some owner) = owner.0 == client

-- that client's, and in use
abbrev pub is_user : ℕ → Option (ℕ × Bool) → Bool
is_user client None = false
is_user client (Some owner) = owner.0 == client && owner.1

-- a session of this client
abbrev pub is_owned : ℕ → Option Item → Bool
is_owned client item = is_owner client (owner_of_item item)

-- this handle names a session
abbrev pub Names : List (Option Item) → ℕ → Type 0
Names items handle = is_some (item_of items handle) ≡ true

abbrev pub AreNamed : List ℕ → List (Option Item) → Type 0
AreNamed needed items = AllByRecursion (λ handle. Names items handle) needed

abbrev pub AreLoaded : List ℕ → List (Option Item) → Type 0
AreLoaded needed items = AllByRecursion (λ handle. is_loaded_item (item_of items handle) ≡ true) needed

-- how many of those that are needed aren't loaded, each counted once
abbrev pub missing : List ℕ → List (Option Item) → ℕ
missing [] items = 0
missing (handle ∷ needed) items = (if is_loaded_item (item_of items handle) || is_among needed handle then 0 else 1) + missing needed items

-- whose a session is, its handle, and what was handed out for it
pub record Holder : Type 0 where
  pub client : Option ℕ
  pub handle : ℕ
  pub handed : Option (List ℕ)

abbrev pub holder_of : Option Item → Option Holder
holder_of None = None
holder_of (Some item) = Some (record { client = item.client; handle = item.handle; handed = item.handed })

abbrev pub holders : List (Option Item) → List (Option Holder)
holders items = map holder_of items

-- ---- what clients save and give back

-- the number that a context begins with (Part 2, "TPMS_CONTEXT")
abbrev pub context_number : List ℕ → ℕ
context_number context = from_be_bytes w64 (take 8 context)

-- the number after it, of those that 64 bits have
abbrev pub number_after : ℕ → ℕ
number_after number = min (number + 1) (2 ^ 64 - 1)

-- the session was saved for its client: this context is kept, and it was handed out
abbrev pub saved_by_client : List ℕ → Option Item → Option Item
saved_by_client context None = None
saved_by_client context (Some item) =
    Some (record item { saved = Some (record { number = context_number context; context = context }); handed = Some context })

-- the response that hands out the context which a device makes of this session, under the number that comes next
abbrev pub HandsOut : SlotState → ℕ → Option Session → List ℕ → Type 0
HandsOut slots handle found reply =
    IfSome found (λ s. reply ≡ response ST_NO_SESSIONS RC_SUCCESS (session_context slots.persist.seed handle slots.counter s))

-- whether these bytes are the context that was handed out
abbrev pub equals_handed : List ℕ → Option (List ℕ) → Bool
equals_handed bytes None = false
equals_handed bytes (Some context) = bytes_eq bytes context

-- whether these bytes were handed out for it, and it is this client's or was left
abbrev pub is_handed_to : ℕ → List ℕ → Option Item → Bool
is_handed_to client bytes None = false
is_handed_to client bytes (Some item) = (is_owned client (Some item) || is_left (Some item)) && equals_handed bytes item.handed

-- the same of the session whose handle stands in the bytes (Part 2, "TPMS_CONTEXT")
abbrev pub may_take_back : List (Option Item) → ℕ → List ℕ → Bool
may_take_back items client bytes = is_word (λ handle. is_handed_to client bytes (item_of items handle)) (word_at 8 bytes)

-- the session is in use again, and this client's; the context that is kept stays
abbrev pub taken_back : ℕ → Option Item → Option Item
taken_back client None = None
taken_back client (Some item) = Some (record item { client = Some client; handed = None })

-- the number of a context, where a session is saved
abbrev pub saved_number : Option Saved → Option ℕ
saved_number None = None
saved_number (Some last) = Some last.number

abbrev pub number_of_item : Option Item → Option ℕ
number_of_item None = None
number_of_item (Some item) = saved_number item.saved

-- the least of these numbers
abbrev pub oldest_number : List (Option Item) → Option ℕ
oldest_number [] = None
oldest_number (item ∷ items) = older (number_of_item item) (oldest_number items)

-- the number of the context of the first of these sessions; nothing where there is none
abbrev pub first_number : List (Option Item) → List ℕ → Option ℕ
first_number items [] = None
first_number items (number ∷ numbers) = number_of_item (item_at items number)

-- that of the session of a number, if there is one
abbrev pub number_at : List (Option Item) → Option ℕ → Option ℕ
number_at items None = None
number_at items (Some number) = number_of_item (item_at items number)

-- the numbers of the contexts of these sessions, in this order
abbrev pub numbers_along : List (Option Item) → List ℕ → List (Option ℕ)
numbers_along items numbers = map (λ number. number_of_item (item_at items number)) numbers

-- one number is below another, where there are both
abbrev pub IsBelow : Option ℕ → Option ℕ → Type 0
IsBelow number other = IfSome number (λ n. IfSome other (λ m. n < m))

-- each of these numbers is below those after it
abbrev pub Rise : List (Option ℕ) → Type 0
Rise [] = Unit {0}
Rise (number ∷ later) = AllByRecursion (λ other. IsBelow number other) later × Rise later

-- the handle of the session that is the first of the saved ones
pub record IsFirst (view : SessionsView) (handle : ℕ) : Type 0 where
  pub named : Names view.items handle
  pub saved : is_saved_item (item_of view.items handle) ≡ true
  pub first : slice_get view.saved 0 ≡ Some (number_of_session handle)

-- the handle of the session that was left at this place, in the order of leaving
pub record IsLeftAt (view : SessionsView) (place handle : ℕ) : Type 0 where
  pub named : Names view.items handle
  pub left : is_left (item_of view.items handle) ≡ true
  pub place_is : slice_get view.left place ≡ Some (number_of_session handle)

-- a saved session whose context has the least number
pub record IsOldest (items : List (Option Item)) (handle : ℕ) : Type 0 where
  pub named : Names items handle
  pub saved : is_saved_item (item_of items handle) ≡ true
  pub oldest : number_of_item (item_of items handle) ≡ oldest_number items

-- the session of this number has the latest context
pub record IsRenewed (slots : SlotState) (new_items : List (Option Item)) (number : ℕ) : Type 0 where
  pub last : ℕ
  pub number_is : number_of_item (item_at new_items number) ≡ Some last
  pub latest : last + 1 ≡ slots.counter

-- every other session that was saved is as it was, with its context
abbrev pub AreKept : ℕ → List (Option Item) → List (Option Item) → Type 0
AreKept number items new_items =
    (other : ℕ) → (other == number) ≡ false → is_saved_item (item_at items other) ≡ true → item_at new_items other ≡ item_at items other

-- context numbers are renewed where the gap is this wide: eight before the device refuses a save
abbrev pub renewal_gap : Numbers → ℕ
renewal_gap numbers = numbers.gap - 8

-- `slots` is the state after the call: each session whose number was less than that below the one that comes next then is as it was
abbrev pub KeepsRecent : SlotState → List (Option Item) → List (Option Item) → Type 0
KeepsRecent slots items new_items =
    (number last : ℕ) → number_of_item (item_at items number) ≡ Some last → slots.counter < last + renewal_gap slots.numbers
    → item_at new_items number ≡ item_at items number

-- the session of this number has a context of this number or a later one, and each lower number was there before
pub record HasNewContext (counter : ℕ) (items new_items : List (Option Item)) (number : ℕ)
    : Type 0 where
  pub later : (last : ℕ) → number_of_item (item_at new_items number) ≡ Some last → counter ≤ last
  pub lower : (other last : ℕ) → number_of_item (item_at new_items other) ≡ Some last → last < counter
      → number_of_item (item_at items other) ≡ Some last

-- how far the next context's number is above the oldest, by what is kept
abbrev pub gap_kept : SessionsView → ℕ
gap_kept view = gap_from view.next (oldest_number view.items)

-- the same by the session that was saved first
abbrev pub gap_first : SessionsView → ℕ
gap_first view = gap_from view.next (first_number view.items view.saved)

-- ---- what stands for the sessions, in the state of a device

abbrev pub place_at : SlotState → ℕ → SessionPlace
place_at slots number = get_or slots.sessions number inactive

abbrev pub context_of : Option Saved → Option (List ℕ)
context_of None = None
context_of (Some last) = Some last.context

abbrev pub item_session : SlotState → Option Item → Option Session
item_session slots None = None
item_session slots (Some item) = session_at slots item.handle (context_of item.saved)

-- the sessions of all items; `None` if the device doesn't show its state
abbrev pub sessions_of : Option SlotState → List (Option Item) → Option (List (Option Session))
sessions_of None items = None
sessions_of (Some slots) items = Some (map (λ item. item_session slots item) items)

-- without the session of one number
abbrev pub without_session : ℕ → Option (List (Option Session)) → Option (List (Option Session))
without_session number None = None
without_session number (Some sessions) = Some (set sessions number None)

-- the device but for its sessions and the number of the next session context
abbrev pub without_sessions : SlotState → SlotState
without_sessions slots = record slots { sessions = no_sessions; counter = 0 }

abbrev pub rest_of : Option SlotState → Option SlotState
rest_of None = None
rest_of (Some slots) = Some (without_sessions slots)

-- the number of the next session context, and the gap below it
abbrev pub counter_of : Option SlotState → ℕ
counter_of None = 0
counter_of (Some slots) = slots.counter

abbrev pub gap_in : Option SlotState → ℕ
gap_in None = 0
gap_in (Some slots) = gap_of slots

abbrev pub flag : Bool → ℕ
flag test = if test then 1 else 0

-- a session with this handle is loaded in this place, or saved under the number of its last context
abbrev pub IsPlaceOf : ℕ → Option Saved → SessionPlace → Type 0
IsPlaceOf handle None place = is_loaded place ≡ true
IsPlaceOf handle (Some last) place = place ≡ saved (octet_of handle) last.number

-- the item says where the session is, and the session is there
pub record ItemStands (slots : SlotState) (number : ℕ) (item : Item) : Type 0 where
  pub number_is : number_of_session item.handle ≡ number
  pub handle : is_session_handle item.handle ≡ true
  pub place : IsPlaceOf item.handle item.saved (place_at slots number)
  pub there : is_some (item_session slots (Some item)) ≡ true

-- each active number is that of one item, or of one of these others, and no item has an unused one
abbrev pub IsOwned : SlotState → List (Option Item) → List ℕ → Type 0
IsOwned slots items others =
    (number : ℕ) → flag (is_some (item_at items number)) + count_by (λ other. other == number) others
    ≡ flag (is_active (place_at slots number))

-- what holds of the sessions in the state of a device between the calls; the others are active
-- numbers without an owner
pub record SessionsStand (slots : SlotState) (view : SessionsView) (others : List ℕ) : Type 0 where
  pub started : slots.started ≡ true
  pub sound : IsSlots slots
  pub numbers : slots.numbers ≡ view.numbers
  pub count : length view.items ≡ SESSION_NUMBERS
  pub each : (number : ℕ) → IfSome (item_at view.items number) (λ item. ItemStands slots number item)
  pub owned : IsOwned slots view.items others
  pub next : list_any is_saved_item view.items ≡ true → view.next ≡ slots.counter
  -- in the order in which sessions were saved the numbers of their contexts rise
  pub rise : Rise (numbers_along view.items view.saved)

abbrev pub Stand : Option SlotState → SessionsView → List ℕ → Type 0
Stand state view others = IfSome state (λ slots. SessionsStand slots view others)

-- a place of a number as a client's command may leave it: a loaded session is another one, under the same handle
abbrev pub AreAlike : SessionPlace → SessionPlace → Type 0
AreAlike inactive other = other ≡ inactive
AreAlike (loaded octet s) other = (is_loaded other ≡ true) × (is_active_with octet other ≡ true)
AreAlike (saved octet number) other = other ≡ saved octet number

-- so many places for loaded sessions are free
abbrev pub AreFree : Option SlotState → ℕ → Type 0
AreFree state count = IfSome state (λ slots. loaded_count slots.sessions + count ≤ slots.numbers.loaded)

-- ---- the gap

-- no renewal is due
abbrev pub IsNarrow : Option SlotState → Type 0
IsNarrow state = IfSome state (λ slots. gap_of slots < renewal_gap slots.numbers)

-- the next commands of the broker's own don't meet the device's gap: three contexts fit in, and one more where a session has
-- to be saved before another is loaded
abbrev pub HasGapRoom : Option SlotState → Type 0
HasGapRoom state =
    IfSome state
    (λ slots. gap_of slots + flag (loaded_count slots.sessions == slots.numbers.loaded) ≤ renewal_gap slots.numbers + NEEDED_MOST)

-- 1 where every place for a loaded session is taken, and else 0
abbrev pub full_flag : Option SlotState → ℕ
full_flag None = 0
full_flag (Some slots) = flag (loaded_count slots.sessions == slots.numbers.loaded)

-- ---- the last command, over every device

-- the last response, without its header, is this context
abbrev pub IsLastContext : Option (List ℕ) → List ℕ → Type 0
IsLastContext last context = IsSomeAnd last (λ response. context ≡ drop HEADER_BYTES response)

-- the context of this session is that
abbrev pub HasLastContext : Option (List ℕ) → Item → Type 0
HasLastContext last item = IsSomeAnd item.saved (λ saved. IsLastContext last saved.context)

-- the last command saved this session, and its context is the response's
pub record IsSentOut (asked : List ℕ) (last : Option (List ℕ)) (item : Item) : Type 0 where
  pub asked_is : asked ≡ context_save_command item.handle
  pub context : HasLastContext last item

-- ---- what a call leaves

-- of the device: its base, whether it shows its state, and what is neither a session nor the number
-- of its next context. That number never falls
pub record KeepsRest {D : Type 0} (seen : D → Seen) (old new : D) : Type 0 where
  pub base_is : (seen new).base ≡ (seen old).base
  pub rest : rest_of (seen new).state ≡ rest_of (seen old).state
  pub rises : counter_of (seen old).state ≤ counter_of (seen new).state
  pub count : (seen old).faults ≤ (seen new).faults

-- what a save for a client leaves over every device: the reply is the last response, a frame with a success. Its context is kept
-- under the number that it begins with, and it is handed out. Every other session is as it was
pub record SavesForClient (contexts : ContextLimits) (last : Option (List ℕ)) (reply : List ℕ) (handle : ℕ) (old new : SessionsView) : Type 0 where
  pub last_is : last ≡ Some reply
  pub frame : is_frame reply ≡ true
  pub success : Succeeds contexts (context_save_command handle) reply
  pub view_is : new ≡ record old {
    items = set old.items (number_of_session handle)
        (saved_by_client (drop HEADER_BYTES reply) (item_at old.items (number_of_session handle)));
    next = number_after (context_number (drop HEADER_BYTES reply));
    order = without_one (number_of_session handle) old.order;
    saved = old.saved ++ number_of_session handle ∷ [];
  }

-- and over a device that shows its state: the reply hands out the context which the device makes of
-- this session, under the number that came next. That number rises by one
pub record SavesTold (state new_state : Option SlotState) (reply : List ℕ) (handle : ℕ) (items : List (Option Item)) : Type 0 where
  pub context : IfSome state (λ slots. HandsOut slots handle (item_session slots (item_of items handle)) reply)
  pub number : IfSome state (λ slots. context_number (drop HEADER_BYTES reply) ≡ slots.counter)
  pub exact : IfSome new_state (λ slots. slots.counter ≡ counter_of state + 1)

-- every session stands as before, with the same owner and the same context handed out
pub record KeepsSessions (old_state new_state : Option SlotState) (old new : List (Option Item)) : Type 0 where
  pub sessions : sessions_of new_state new ≡ sessions_of old_state old
  pub holders : holders new ≡ holders old

-- every session stands as before, with the same owner, and the same ones were left; the device
-- keeps what is neither a session nor the number of its next context
pub record Moved {D : Type 0} (seen : D → Seen) (old new : D) (view new_view : SessionsView) : Type 0 where
  pub numbers : new_view.numbers ≡ view.numbers
  pub left : new_view.left ≡ view.left
  pub contexts : new_view.contexts ≡ view.contexts
  pub sessions : KeepsSessions (seen old).state (seen new).state view.items new_view.items
  pub stand : Stand (seen new).state new_view []
  pub rest : KeepsRest seen old new

-- sessions still stand, whichever active numbers have no owner; the device keeps what is neither a
-- session nor the number of its next context
pub record StillStand {D : Type 0} (seen : D → Seen) (old new : D) (view new_view : SessionsView) : Type 0 where
  pub stand : (others : List ℕ) → Stand (seen old).state view others → Stand (seen new).state new_view others
  pub rest : KeepsRest seen old new

-- sessions that a command needs: each is there, and so many new ones fit beside them
pub record AreNeeded (needed : List ℕ) (new_places : ℕ) (items : List (Option Item)) : Type 0 where
  pub named : AreNamed needed items
  pub fits : length needed + new_places ≤ NEEDED_MOST

-- they are loaded, and so many places are free
pub record HavePlaces (needed : List ℕ) (new_places : ℕ) (state : Option SlotState) (view : SessionsView) : Type 0 where
  pub loaded : AreLoaded needed view.items
  pub few : loaded_items view.items + new_places ≤ view.numbers.loaded
  pub free : AreFree state new_places

-- ---- what moves cost

-- the numbers of sessions
abbrev pub numbers_of : List ℕ → List ℕ
numbers_of handles = map number_of_session handles

-- how many sessions have to be saved, so that there is room for what is needed and for so many new ones
abbrev pub evictions : List ℕ → ℕ → SessionsView → ℕ
evictions needed new_places view = loaded_items view.items + missing needed view.items + new_places - view.numbers.loaded

-- how many commands make that room, and load what is needed: one saves a session, and one loads one
abbrev pub moves_of : List ℕ → ℕ → SessionsView → ℕ
moves_of needed new_places view = evictions needed new_places view + missing needed view.items

-- these are the numbers of the sessions of this sort, each once
pub record ListsThose (is : Option Item → Bool) (numbers : List ℕ) (items : List (Option Item)) : Type 0 where
  pub each : (number : ℕ) → count_by (λ one. one == number) numbers ≡ flag (is (item_at items number))
  pub count : length numbers ≡ count_by is items

-- the order lists the loaded sessions, each once
abbrev pub Lists : List ℕ → List (Option Item) → Type 0
Lists order items = ListsThose is_loaded_item order items

-- without each of these
abbrev pub without_all : List ℕ → List ℕ → List ℕ
without_all listed [] = listed
without_all listed (one ∷ needed) = without_all (without_one one listed) needed

-- Sessions are saved for room alone, the least recently used first: no more than have to, and none where there is room. What is needed
-- is used
pub record MakesRoom {D : Type 0} (seen : D → Seen) (old new : D) (needed : List ℕ) (new_places : ℕ) (view new_view : SessionsView)
    (result : Result (Unit {0}) SwapError) : Type 0 where
  pub sent : sent_of (seen new) ≤ sent_of (seen old) + moves_of needed new_places view
  -- no more sessions have to leave than are to be loaded and started
  pub few : evictions needed new_places view ≤ missing needed view.items + new_places
  pub full : OnOk result (loaded_items new_view.items + evictions needed new_places view
      ≡ loaded_items view.items + missing needed view.items)
  pub rest : evictions needed new_places view ≡ 0 → (number : ℕ) → is_loaded_item (item_at view.items number) ≡ true
      → item_at new_view.items number ≡ item_at view.items number
  pub idle : AreLoaded needed view.items → evictions needed new_places view ≡ 0
      → (new ≡ old) × (new_view.items ≡ view.items) × (new_view.next ≡ view.next) × (result ≡ Ok tt)
  pub order : OnOk result (new_view.order
      ≡ all_used (without_first (evictions needed new_places view) (numbers_of needed) view.order) (numbers_of needed))
  -- those that leave come after the saved ones
  pub saved : OnOk result (new_view.saved
      ≡ without_all (view.saved ++ first_unneeded (evictions needed new_places view) (numbers_of needed) view.order) (numbers_of needed))
  -- after an error some of those that had to leave are gone, the first of them, and some of what is needed is used, the first of it
  pub failed : OnErr result ((gone used : ℕ) × (gone ≤ evictions needed new_places view)
      × (new_view.order ≡ all_used (without_first gone (numbers_of needed) view.order) (take used (numbers_of needed)))
      × (new_view.saved ≡ without_all (view.saved ++ first_unneeded gone (numbers_of needed) view.order) (take used (numbers_of needed))))
  pub listed : Lists new_view.order new_view.items

-- ---- clients

-- a session can be saved for the client that has it
pub record MayHandOut (state : Option SlotState) (handle : ℕ) (items : List (Option Item)) : Type 0 where
  pub owned : has_owner (item_of items handle) ≡ true
  pub loaded : is_loaded_item (item_of items handle) ≡ true
  pub gap : IfSome state (λ slots. gap_of slots < renewal_gap slots.numbers + NEEDED_MOST)
  pub counter : counter_of state + 1000 ≤ CONTEXT_LIMIT

-- a session was ended, and the others stand as before
pub record Ends (state new_state : Option SlotState) (handle : ℕ) (view new_view : SessionsView) : Type 0 where
  pub view_is : new_view ≡ record view {
    items = set view.items (number_of_session handle) None;
    order = without_one (number_of_session handle) view.order;
    saved = without_one (number_of_session handle) view.saved;
    left = without_one (number_of_session handle) view.left;
  }
  pub sessions : sessions_of new_state new_view.items ≡ without_session (number_of_session handle) (sessions_of state view.items)

-- no context was made, and the gap didn't grow
pub record MakesNoContext (state new_state : Option SlotState) : Type 0 where
  pub counter : counter_of new_state ≡ counter_of state
  pub gap : gap_in new_state ≤ gap_in state
  pub room : HasGapRoom state → HasGapRoom new_state

-- the session of a handle was renewed: it is saved in the context of the last response, which has the latest number, and a place
-- is free
pub record Renews (contexts : ContextLimits) (old new : Seen) (handle : ℕ) (items new_items : List (Option Item)) : Type 0 where
  pub renewed : IfSome new.state (λ slots. IsRenewed slots new_items (number_of_session handle))
  pub fresh : HasNewContext (counter_of old.state) items new_items (number_of_session handle)
  -- over every device
  pub asked : asked_of new ≡ context_save_command handle
  pub context : IsSomeAnd (item_of new_items handle) (λ item. HasLastContext (last_of new) item)
  pub answered : IsOwnAnswered contexts (asked_of new) (last_of new)
  pub free : AreFree new.state 1
  pub saved : saved_items items ≤ saved_items new_items
  -- the number that comes next rose by one, and by one more where another session had to be saved first
  pub exact : IfSome new.state (λ slots. slots.counter ≡ counter_of old.state + full_flag old.state + 1)

-- 1 where every place is taken, by what is kept
abbrev pub full_kept : SessionsView → ℕ
full_kept view = flag (loaded_items view.items == view.numbers.loaded)

-- in which order sessions were used and saved after the session of a handle was renewed: where no place was free, the least recently
-- used one was saved before
pub record IsSavedAgain (view new_view : SessionsView) (handle : ℕ) : Type 0 where
  pub order : new_view.order ≡ drop (full_kept view) view.order
  pub saved : new_view.saved ≡ used_after (view.saved ++ take (full_kept view) view.order) (number_of_session handle)

-- how far a renewal raises the number that comes next at the most, also one that failed; the gap leaves room afterwards. It sends a
-- ContextLoad and a ContextSave, and another ContextSave first where every place is taken
pub record RenewalCounts {D : Type 0} (seen : D → Seen) (old new : D) (view : SessionsView) : Type 0 where
  pub room : HasGapRoom (seen new).state
  pub counter : counter_of (seen new).state ≤ counter_of (seen old).state + 2
  pub counter_free : AreFree (seen old).state 1 → counter_of (seen new).state ≤ counter_of (seen old).state + 1
  pub sent : sent_of (seen new) ≤ sent_of (seen old) + 2 + full_kept view

-- what a refresh sends at the most: two commands for each session that was saved before, and one to free a place
pub record RefreshCounts {D : Type 0} (seen : D → Seen) (old new : D) (view : SessionsView) : Type 0 where
  pub room : HasGapRoom (seen new).state
  pub counter : counter_of (seen new).state ≤ counter_of (seen old).state + SESSION_NUMBERS + 1
  pub sent : sent_of (seen new) ≤ sent_of (seen old) + 2 * saved_items view.items + 1
  pub few : saved_items view.items ≤ view.numbers.active

-- contexts may be renewed: there is room for them, and there are so many numbers for more of them
pub record MayRenew (contexts : ContextLimits) (state : Option SlotState) (view : SessionsView)
    (most : ℕ) : Type 0 where
  pub made_for : view.contexts ≡ contexts
  pub stand : Stand state view []
  pub room : HasGapRoom state
  pub numbers : counter_of state + most ≤ CONTEXT_LIMIT

-- the session of a handle was renewed, unless the call failed; every other one that was saved stays
-- where it was, also then
pub record RenewsOne {D : Type 0} (contexts : ContextLimits) (seen : D → Seen) (handle : ℕ)
    (old new : D) (view new_view : SessionsView) (result : Result (Unit {0}) SwapError) : Type 0 where
  pub ok : OnOk result (Renews contexts (seen old) (seen new) handle view.items new_view.items
      × IsSavedAgain view new_view handle)
  pub others : AreKept (number_of_session handle) view.items new_view.items
  pub moved : Moved seen old new view new_view
  pub counts : RenewalCounts seen old new view
  pub asks : AsksSome contexts seen old new result

-- so many contexts were renewed, and no renewal is due any more
pub record Refreshes (state new_state : Option SlotState) (view new_view : SessionsView) (renewed : ℕ) : Type 0 where
  pub narrow : IsNarrow new_state
  pub most : renewed ≤ saved_items view.items
  -- the number that comes next rises by one for each, and by one more where another session had to be saved before the first
  pub counted : IfSome new_state (λ slots. slots.counter ≡ counter_of state + renewed + min renewed (full_flag state))
  -- over every device: the gap above the session that was saved first is small, or each session that was saved was renewed
  pub done : (gap_first new_view < renewal_gap new_view.numbers) ⊎ (renewed ≡ saved_items view.items)
  -- and the order of use stays, but for the least recently used session: where no place was free it was saved before the first renewal
  pub order : new_view.order ≡ drop (min renewed (full_kept view)) view.order

-- contexts were renewed until none is due, unless the call failed
pub record RefreshesAll {D : Type 0} (contexts : ContextLimits) (seen : D → Seen) (old new : D)
    (view new_view : SessionsView) (result : Result ℕ SwapError) : Type 0 where
  pub ok : IfOk result
      (λ renewed. Refreshes (seen old).state (seen new).state view new_view renewed)
  -- where none is due, nothing is sent
  pub still : gap_kept view < renewal_gap view.numbers
      → (new ≡ old) × (new_view ≡ view) × (result ≡ Ok 0)
  -- a saved session whose context isn't due is as it was
  pub recent : IfSome (seen new).state (λ slots. KeepsRecent slots view.items new_view.items)
  pub moved : Moved seen old new view new_view
  pub counts : RefreshCounts seen old new view
  pub asks : AsksSome contexts seen old new result

-- how many records of the lists a refresh visits at the most, where so many sessions were saved before
abbrev pub Visited : ℕ → ℕ → ℕ → Result ℕ SwapError → Type 0
Visited old new most (Ok renewed) = new ≤ old + 12 * renewed + 6
Visited old new most (Err failed) = new ≤ old + 12 * most + 6
