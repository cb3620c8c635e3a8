-- What the calls on the device, the objects and the sessions do for one client, and what they leave to the others.
use Rattle.std.specs.Prelude.{◌≡◌, ◌≤◌, ◌⊎◌, ℕ, ◌+◌, ◌-◌, ◌<◌, ◌==◌, ◌&&◌, ◌||◌, not, nat_le, nat_lt, Bool, true, false, List, [], ◌∷◌, ◌++◌, length, take, drop, set, get_or, Option, Some, None, is_some, IsSome, Result, Ok, Err, IfErr, IfSome, OnErr, OnOk, if◌then◌else◌}
use Rattle.std.specs.List.{AllByRecursion, count_by, list_any}
use Rattle.std.specs.Int.{w32, from_be_bytes}
use Rattle.tab_spec.specs.declared.TheConstants.{CC_CONTEXT_LOAD, CC_CONTEXT_SAVE, CC_FLUSH_CONTEXT, CONTEXT_LIMIT, HEADER_BYTES, HT_TRANSIENT, RC_SUCCESS, SESSION_NUMBERS, ST_NO_SESSIONS, TRANSIENT_FIRST}
use Rattle.tab_spec.specs.declared.Admitted.{Admitted}
use Rattle.tab_spec.specs.Admission.{Tables, client_admitted, is_session_handle}
use Rattle.tab_spec.specs.Count.{Rose, one_more}
use Rattle.tab_spec.specs.Frame.{code_of, is_frame}
use Rattle.tab_spec.specs.Numbers.{AreInRange}
use Rattle.tab_spec.specs.Persist.{Persist}
use Rattle.tab_spec.specs.Reply.{error_reply, response, with_response_handle}
use Rattle.tab_spec.specs.Shape.{makes_object_by, needs_slot, number_of_session, octet_of}
use Rattle.tab_spec.specs.declared.contexts.ContextLimits.{ContextLimits}
use Rattle.effect_spec.specs.Operands.{command_auth}
use Rattle.device_port.specs.Device.{Answered, Seen, Transmission, asked_of, last_of, sent_of}
use Rattle.device_port.specs.Own.{AsksSome, HasCause, IsOwn, IsOwnAnswered, SendsOwn, WasTaken}
use Rattle.device_port.specs.Use.{all_used, without_first, without_one}
use Rattle.device_port.specs.declared.own.SwapError.{SwapError}
use Rattle.device_spec.specs.Answers.{IsRight, is_word, takes, word_at}
use Rattle.device_spec.specs.ContextCommands.{flush_context_command}
use Rattle.device_spec.specs.Slots.{SlotState, gap_of, is_free}
use Rattle.client_laws.specs.Ready.{ends_session, is_sent, named_sessions, sent_for, starts_session, tells_object, tells_session}
use Rattle.object_swap.specs.Items as objects
use Rattle.object_swap.specs.Items.{Item, Names, is_vacant, item_at, item_object, keeps_context, new_item}
use Rattle.session_swap.specs.Items as sessions
use Rattle.session_swap.specs.Items.{AreLoaded, IsNarrow, context_number, gap_kept, is_held, renewal_gap, saved_by_client}
use Rattle.session_swap.specs.declared.TheConstants.{NEEDED_MOST}
use Rattle.history_spec.specs.declared.Pick.{Pick}
use Rattle.history_spec.specs.declared.Pick.TheVariants as picks
use Rattle.history_spec.specs.Table.{held_under, is_full, next_handle, put_least}
use Rattle.world_spec.specs.World.{ClientState, ClientStep, client_step, flush_handle}
use Rattle.client_machine.specs.declared.held.Held.{Held}
use Rattle.client_machine.specs.Costs.{SendsUpTo, StaysIn, new_bound, places_of}
use Rattle.client_machine.specs.Replies.{own_answer, reply_of, view_given}
use Rattle.client_machine.specs.Settled.{AreBelow, Sequences, Settled, call_contexts, most_contexts, orphan_count, sessions_in}
use Rattle.client_machine.specs.Tables.{AreOpenOwners, IsPlaced, IsTable, device_handle, flush_fault_of, flush_sent, flushed_handle, flushed_sessions, flushed_table, is_open, objects_in, owned_handles, sessions_without, table_with, table_without, tables_had, tables_seen}

-- what each call keeps of a device: what its history began from, and whether it shows its state.
-- Its fault count never falls
pub record Keeps {D : Type 0} (seen : D → Seen) (old new : D) : Type 0 where
  pub base_is : (seen new).base ≡ (seen old).base
  pub tells : is_some (seen new).state ≡ is_some (seen old).state
  pub count : (seen old).faults ≤ (seen new).faults

-- this command was sent, and once. Where no response came, the fault count rose
pub record IsSent {D : Type 0} (seen : D → Seen) (old new : D) (command : List ℕ) : Type 0 where
  pub once : sent_of (seen new) ≡ one_more (sent_of (seen old))
  pub one : (seen new).trace ≡ record { command = command; response = last_of (seen new) } ∷ (seen old).trace
  pub asked_is : asked_of (seen new) ≡ command
  pub failed : last_of (seen new) ≡ None → Rose (seen old).faults (seen new).faults

-- What came to the trace of a call that failed: the last command that was sent wasn't answered, or its response isn't taken, and
-- nothing was sent after it. Those before it are the broker's own, and each of them was answered.
pub record FailsAtLast {D : Type 0} (contexts : ContextLimits) (seen : D → Seen) (old new : D) : Type 0 where
  pub last : Transmission
  pub before : List Transmission
  pub trace_is : (seen new).trace ≡ last ∷ before ++ (seen old).trace
  pub own : AllByRecursion (λ one. IsOwn contexts one.command) before
  pub all : AllByRecursion (WasTaken contexts) before

-- ---- what a client's call is over

-- what is kept, the objects of a client with this table, all sessions and which ones were left, in the state of a device; contexts may
-- be handed out from these sequences on
abbrev pub client_state : SlotState → Held → List (Option ℕ) → Sequences → ClientState
client_state slots held table least = record {
  persist = slots.persist;
  most = held.sessions.numbers.active;
  objects = objects_in slots held.objects.items table;
  sessions = sessions_in slots held.sessions.items;
  left = held.sessions.left;
  object_sequence = least.object;
  session_sequence = least.session;
}

-- what is held is for a device with these contexts
pub record IsFor (contexts : ContextLimits) (held : Held) : Type 0 where
  pub objects : held.objects.contexts ≡ contexts
  pub sessions : held.sessions.contexts ≡ contexts

-- for the same ones as before
pub record StaysFor (held new_held : Held) : Type 0 where
  pub objects : new_held.objects.contexts ≡ held.objects.contexts
  pub sessions : new_held.sessions.contexts ≡ held.sessions.contexts

-- the device, over which the next call may begin: there are numbers for so many more contexts of either sort
pub record MayBegin {D : Type 0} (more : ℕ) (contexts : ContextLimits) (seen : D → Seen) (device : D) (held : Held) : Type 0 where
  pub made_for : IsFor contexts held
  pub slots : held.objects.slots ≡ held.sessions.numbers.slots
  pub range : AreInRange held.sessions.numbers
  pub settled : Settled (seen device).state held
  pub object_counter : objects.counter_of (seen device).state + more ≤ CONTEXT_LIMIT
  pub counter : sessions.counter_of (seen device).state + more ≤ CONTEXT_LIMIT

-- there is room for an object that a command may make: a place in the client's table, and a vacant item
abbrev pub HasRoomFor : ContextLimits → Admitted → List ℕ → ℕ → List Item → Type 0
HasRoomFor contexts a bytes spare items =
    makes_object_by contexts (Ok a.shape) bytes ≡ true → (1 ≤ spare) × (list_any is_vacant items ≡ true)

-- what is asked of a client's command: it was admitted over the client's table and sessions, and there
-- is room for what it may make
pub record MayServe {D : Type 0} (contexts : ContextLimits) (seen : D → Seen) (client list : ℕ)
    (device : D) (held : Held)
    (table : List (Option ℕ)) (spare : ℕ) (a : Admitted) (bytes : List ℕ) : Type 0 where
  pub admitted :
      client_admitted (tables_seen contexts client table held.sessions.items) bytes ≡ Ok a
  pub room : HasRoomFor contexts a bytes spare held.objects.items
  pub own_list : objects.owner_at held.objects.owners list ≡ Some client
  pub own_table : IsTable held.objects.items client table
  pub moves : MayBegin call_contexts contexts seen device held

-- ---- what a call leaves

-- what it leaves of the objects of these clients: they stay, and whose they are
abbrev pub KeepsOwners : (ℕ → Bool) → List Item → List Item → Type 0
KeepsOwners whose items new_items =
    (index owner : ℕ) → Names items index → (item_at items index).client ≡ Some owner → whose owner ≡ true
    → Names new_items index × ((item_at new_items index).client ≡ Some owner)

-- and they have no more
abbrev pub GainsNone : (ℕ → Bool) → List Item → List Item → Type 0
GainsNone whose items new_items =
    (index owner : ℕ) → (item_at new_items index).client ≡ Some owner → whose owner ≡ true → (item_at items index).client ≡ Some owner

-- and what they are, if the device shows its state
abbrev pub KeepsObjectsOf : (ℕ → Bool) → Option SlotState → Option SlotState → List Item → List Item → Type 0
KeepsObjectsOf whose old_state new_state items new_items =
    (slots new : SlotState) (index owner : ℕ) → old_state ≡ Some slots → new_state ≡ Some new → Names items index
    → (item_at items index).client ≡ Some owner → whose owner ≡ true
    → item_object new (item_at new_items index) ≡ item_object slots (item_at items index)

-- any client, and each one but this
abbrev pub any_client : ℕ → Bool
any_client owner = true

abbrev pub other_than : ℕ → ℕ → Bool
other_than client owner = not (owner == client)

-- what is kept stays
abbrev pub KeepsPersist : Option SlotState → Option SlotState → Type 0
KeepsPersist old_state new_state =
    (slots new : SlotState) → old_state ≡ Some slots → new_state ≡ Some new → new.persist ≡ slots.persist

-- the numbers of contexts never fall, and rise by so many at most; in one call by fewer than that
pub record CountsOnBy (most : ℕ) (old_state new_state : Option SlotState) : Type 0 where
  pub objects_rise : objects.counter_of old_state ≤ objects.counter_of new_state
  pub sessions_rise : sessions.counter_of old_state ≤ sessions.counter_of new_state
  pub objects_on : objects.counter_of new_state ≤ objects.counter_of old_state + most
  pub sessions_on : sessions.counter_of new_state ≤ sessions.counter_of old_state + most

abbrev pub CountsOn : (old_state new_state : Option SlotState) → Type 0
CountsOn old_state new_state = CountsOnBy most_contexts old_state new_state

-- a call for one client, which has this table after it. Whose the lists of objects are stays
pub record Moves {D : Type 0} (seen : D → Seen) (client : ℕ) (old new : D) (held new_held : Held) (new_table : List (Option ℕ)) : Type 0 where
  pub keeps : Keeps seen old new
  pub settled : Settled (seen new).state new_held
  pub counts : CountsOn (seen old).state (seen new).state
  pub others : KeepsOwners (other_than client) held.objects.items new_held.objects.items
  pub gained : GainsNone (other_than client) held.objects.items new_held.objects.items
  pub other_objects : KeepsObjectsOf (other_than client) (seen old).state (seen new).state held.objects.items new_held.objects.items
  pub own_table : IsTable new_held.objects.items client new_table
  pub lists : new_held.objects.owners ≡ held.objects.owners
  -- a session is that of an open client, or it was left, or it is an orphan; there are no more orphans
  pub owners : (present : List ℕ) → is_open client present ≡ true → AreOpenOwners present held.sessions.items
      → AreOpenOwners present new_held.sessions.items
  pub orphans : orphan_count new_held ≤ orphan_count held
  pub made_for : StaysFor held new_held
  pub slots : new_held.objects.slots ≡ held.objects.slots
  pub numbers : new_held.sessions.numbers ≡ held.sessions.numbers
  -- a session that was left may be the client's then, and no more are left
  pub left : length new_held.sessions.left ≤ length held.sessions.left
  pub length_is : length new_held.objects.items ≡ length held.objects.items

-- if the device shows its state, this is the step of the plain machine from any sequences below the
-- device's: what it keeps, the client's objects, all sessions, the reply, and sequences that are
-- below the device's again
abbrev pub StepsAs : (ClientState → Option ClientStep) → Option SlotState → Option SlotState → (held new_held : Held) → (table new_table : List (Option ℕ)) → List ℕ → Type 0
StepsAs step old_state new_state held new_held table new_table reply =
    (slots new : SlotState) (least : Sequences) → old_state ≡ Some slots → new_state ≡ Some new → AreBelow least slots
    → (handed : Sequences) × AreBelow handed new
    × (step (client_state slots held table least) ≡ Some (client_state new new_held new_table handed, reply))

-- where it does, the client's state is changed so
abbrev pub LeavesState : (ClientState → ClientState) → Option SlotState → Option SlotState → (held new_held : Held) → (table new_table : List (Option ℕ)) → Type 0
LeavesState change old_state new_state held new_held table new_table =
    (slots new : SlotState) (least : Sequences) → old_state ≡ Some slots → new_state ≡ Some new
    → client_state new new_held new_table least ≡ change (client_state slots held table least)

-- nothing of that changes
abbrev pub StaysAs : Option SlotState → Option SlotState → (held new_held : Held) → List (Option ℕ) → Type 0
StaysAs old_state new_state held new_held table =
    (slots new : SlotState) (least : Sequences) → old_state ≡ Some slots → new_state ≡ Some new
    → client_state new new_held table least ≡ client_state slots held table least

-- what is gone stays gone
pub record StaysGone (held new_held : Held) : Type 0 where
  pub objects : (index : ℕ) → is_vacant (item_at held.objects.items index) ≡ true → is_vacant (item_at new_held.objects.items index) ≡ true
  pub sessions : (number : ℕ) → sessions.item_at held.sessions.items number ≡ None → sessions.item_at new_held.sessions.items number ≡ None

-- each object and each session is as it was, or is gone
pub record Loses (held new_held : Held) : Type 0 where
  pub objects : (index : ℕ) → (item_at new_held.objects.items index ≡ item_at held.objects.items index)
      ⊎ (is_vacant (item_at new_held.objects.items index) ≡ true)
  pub sessions : (number : ℕ) → (sessions.item_at new_held.sessions.items number ≡ sessions.item_at held.sessions.items number)
      ⊎ (sessions.item_at new_held.sessions.items number ≡ None)

-- Before a client's command: objects and sessions were moved, sessions renewed, and orphans
-- flushed. What clients have and left stands as before, and has the same owners. At most so many
-- contexts of either sort were made
pub record Prepares {D : Type 0} (most : ℕ) (seen : D → Seen) (old new : D) (held new_held : Held) : Type 0 where
  pub keeps : Keeps seen old new
  pub counts : CountsOnBy most (seen old).state (seen new).state
  pub owners : KeepsOwners any_client held.objects.items new_held.objects.items
  pub gained : GainsNone any_client held.objects.items new_held.objects.items
  pub lists : new_held.objects.owners ≡ held.objects.owners
  pub objects : KeepsObjectsOf any_client (seen old).state (seen new).state held.objects.items new_held.objects.items
  pub session_owners : owned_handles new_held.sessions.items ≡ owned_handles held.sessions.items
  pub sessions : (slots after : SlotState) → (seen old).state ≡ Some slots → (seen new).state ≡ Some after
      → sessions_in after new_held.sessions.items ≡ sessions_in slots held.sessions.items
  pub persist : KeepsPersist (seen old).state (seen new).state
  pub settled : Settled (seen new).state new_held
  pub vacant : list_any is_vacant held.objects.items ≡ true → list_any is_vacant new_held.objects.items ≡ true
  pub gone : StaysGone held new_held
  pub orphans : orphan_count new_held ≤ orphan_count held
  pub made_for : StaysFor held new_held
  pub slots : new_held.objects.slots ≡ held.objects.slots
  pub numbers : new_held.sessions.numbers ≡ held.sessions.numbers
  pub left : new_held.sessions.left ≡ held.sessions.left
  pub length_is : length new_held.objects.items ≡ length held.objects.items

-- orphans were flushed, and what is a client's or was left stays where it is. Where there were none, nothing changes
pub record Clears {D : Type 0} (seen : D → Seen) (old new : D) (held new_held : Held) : Type 0 where
  pub prepared : Prepares 0 seen old new held new_held
  pub objects : new_held.objects ≡ record held.objects { left = new_held.objects.left }
  pub sessions : (number : ℕ) → sessions.is_orphan (sessions.item_at held.sessions.items number) ≡ false
      → sessions.item_at new_held.sessions.items number ≡ sessions.item_at held.sessions.items number
  pub loses : Loses held new_held
  -- the gap that is kept doesn't grow
  pub gap : gap_kept new_held.sessions ≤ gap_kept held.sessions
  pub still : orphan_count held ≡ 0 → (new ≡ old) × (new_held ≡ held)

-- there are no orphans, and no renewal is due
pub record IsClear (state : Option SlotState) (held : Held) : Type 0 where
  pub nobodys : orphan_count held ≡ 0
  pub narrow : IsNarrow state

-- the client has what it had, and whose all is stays
pub record Stays (old_state new_state : Option SlotState) (held new_held : Held) (table new_table : List (Option ℕ)) : Type 0 where
  pub table_is : new_table ≡ table
  pub client : StaysAs old_state new_state held new_held table
  pub sessions : owned_handles new_held.sessions.items ≡ owned_handles held.sessions.items
  pub left : new_held.sessions.left ≡ held.sessions.left
  pub objects : KeepsOwners any_client held.objects.items new_held.objects.items

-- a call for one client that ends with this result
pub record Serves {D A : Type 0} (contexts : ContextLimits) (seen : D → Seen) (client : ℕ) (old new : D)
    (held new_held : Held) (table new_table : List (Option ℕ)) (result : Result A SwapError) : Type 0 where
  pub moves : Moves seen client old new held new_held new_table
  -- nothing was sent, or the last response was taken
  pub right : OnOk result ((new ≡ old) ⊎ IsRight contexts (asked_of (seen new)) (last_of (seen new)))
  pub stays : OnErr result (Stays (seen old).state (seen new).state held new_held table new_table)
  pub costs : SendsUpTo seen (new_bound (orphan_count held) (gap_kept held.sessions) held.sessions.numbers) old new
  pub cause : IfErr result (λ e. HasCause contexts seen e old new)
  pub fails : OnErr result (FailsAtLast contexts seen old new)

-- ---- a command

-- the item that a handle names
abbrev pub named_by : List (Option ℕ) → ℕ → Option ℕ
named_by table handle = if octet_of handle == HT_TRANSIENT then held_under table handle else None

-- the handle in a response
abbrev pub told_handle : List ℕ → ℕ
told_handle reply = from_be_bytes w32 (take 4 (drop 10 reply))

-- the object whose handle a response has can be held for its client
pub record MayAdopt (view : objects.ObjectsView) (table : List (Option ℕ)) (spare : ℕ) (reply : List ℕ) : Type 0 where
  pub vacant : list_any is_vacant view.items ≡ true
  pub slot : objects.residents view.items + length view.left < view.slots
  pub room : 1 ≤ spare
  pub few : is_full table ≡ false
  pub long : 14 ≤ length reply
  pub transient : (octet_of (told_handle reply) == HT_TRANSIENT) ≡ true

-- the session whose handle a response has can be held
pub record MayStart (reply : List ℕ) (view : sessions.SessionsView) : Type 0 where
  pub long : 14 ≤ length reply
  pub handle : is_session_handle (told_handle reply) ≡ true
  pub number : number_of_session (told_handle reply) < SESSION_NUMBERS
  pub vacant : sessions.item_at view.items (number_of_session (told_handle reply)) ≡ None
  pub place : sessions.loaded_items view.items < view.numbers.loaded
  pub few : count_by is_some view.items < view.numbers.active

-- a client's new object, which is in the slot of this handle
pub record Adopts (client handle : ℕ) (items new_items : List Item) (table new_table : List (Option ℕ)) : Type 0 where
  pub item : ℕ
  pub inside : item < length items
  pub vacant : is_vacant (item_at items item) ≡ true
  pub items_are : new_items ≡ set items item (new_item client (handle - TRANSIENT_FIRST))
  pub table_is : new_table ≡ put_least item table

abbrev pub first_handle : Admitted → ℕ
first_handle a = get_or a.shape.handles 0 0

-- a client gets its own handle for an object that a command made; the handle of a session is the device's
abbrev pub client_reply : List (Option ℕ) → Admitted → List ℕ → List ℕ
client_reply table a answer = if tells_object a answer then with_response_handle answer (next_handle table) else answer

-- the sequence of the context that a response has, in its first eight bytes
abbrev pub told_sequence : List ℕ → ℕ
told_sequence reply = context_number (drop HEADER_BYTES reply)

-- whether a response has a context that ContextSave made
abbrev pub tells_context : Admitted → List ℕ → Bool
tells_context a answer = a.shape.row.code == CC_CONTEXT_SAVE && code_of answer == RC_SUCCESS

-- a value that the device chose: which number it gave to a session that it started, or which sequence to a context that it made
abbrev pub pick_of : Admitted → List ℕ → Pick
pick_of a answer =
    if tells_session a answer then picks.Session (number_of_session (told_handle answer))
    else if tells_context a answer then picks.Sequence (told_sequence answer)
    else picks.Nothing

-- whether no new session can have the handle of a response: one has its number, or as many as may be active are clients' or were left
abbrev pub number_taken : sessions.SessionsView → List ℕ → Bool
number_taken view reply =
    is_word (λ handle. nat_le view.numbers.active (count_by is_held view.items) || is_some (sessions.item_at view.items (number_of_session handle)))
    (word_at HEADER_BYTES reply)

-- whether a command loads a context that is kept for an object
abbrev pub loads_kept : List Item → List ℕ → Bool
loads_kept items command = code_of command == CC_CONTEXT_LOAD && keeps_context items (drop HEADER_BYTES command)

-- the command was sent once, and the response to it is taken, by what is held: whether a context that the command loads is kept, and
-- whether no new session can have the response's handle
pub record IsTaken {D : Type 0} (contexts : ContextLimits) (seen : D → Seen) (old new : D) (held : Held) (command reply : List ℕ) : Type 0 where
  pub sent : IsSent seen old new command
  pub answered : Answered (seen old).state command (seen new).state reply
  pub last_is : last_of (seen new) ≡ Some reply
  pub taken : takes contexts (loads_kept held.objects.items command) (number_taken held.sessions reply) command reply ≡ true
  pub base_is : (seen new).base ≡ (seen old).base
  pub count : (seen old).faults ≤ (seen new).faults

-- the command was sent once, and there is no response, or it isn't taken. The device is in its state
pub record IsUntaken {D : Type 0} (contexts : ContextLimits) (seen : D → Seen) (old new : D) (command : List ℕ) (e : SwapError) : Type 0 where
  pub sent : IsSent seen old new command
  pub cause : HasCause contexts seen e old new
  pub state_is : (seen new).state ≡ (seen old).state
  pub base_is : (seen new).base ≡ (seen old).base
  pub count : (seen old).faults ≤ (seen new).faults

-- whether a command saves a session for its client, the number of that session, and whether it did
abbrev pub saves_one : Admitted → Bool
saves_one a = a.shape.row.code == CC_CONTEXT_SAVE && is_session_handle (first_handle a)

abbrev pub saved_number : Admitted → Option ℕ
saved_number a = if saves_one a then Some (number_of_session (first_handle a)) else None

abbrev pub saves_session : Admitted → List ℕ → Bool
saves_session a answer = saves_one a && code_of answer == RC_SUCCESS

-- the sessions with the one of this handle saved, for which this context was handed out
abbrev pub sessions_saved : ℕ → List ℕ → List (Option sessions.Item) → List (Option sessions.Item)
sessions_saved handle context items =
    let number = number_of_session handle in
    set items number (saved_by_client context (sessions.item_at items number))

-- the sessions as an answered command leaves them: with the one that it started, without the one that it ended, or with the one
-- saved that it saved
abbrev pub sessions_held_after : ℕ → Admitted → List ℕ → List (Option sessions.Item) → List (Option sessions.Item)
sessions_held_after client a answer items =
    if tells_session a answer
    then set items (number_of_session (told_handle answer)) (Some (sessions.new_item client (told_handle answer)))
    else if ends_session a answer then set items (number_of_session (command_auth a.auths).session) None
    else if saves_session a answer then sessions_saved (first_handle a) (drop HEADER_BYTES answer) items
    else items

-- nothing has to be moved for a command: there are no orphans, no renewal is due, what it names is in the device, and it needs no
-- slot and starts nothing
pub record IsAtHand (contexts : ContextLimits) (held : Held) (table : List (Option ℕ)) (a : Admitted) (bytes : List ℕ) : Type 0 where
  pub nobodys : orphan_count held ≡ 0
  pub narrow : gap_kept held.sessions < renewal_gap held.sessions.numbers
  pub placed : IsPlaced table held.objects.items (first_handle a)
  pub loaded : AreLoaded (named_sessions a) held.sessions.items
  pub makes_none : needs_slot contexts a.shape bytes ≡ false
  pub starts_none : starts_session a ≡ false

-- as many sessions are active as may be
pub record AreAllActive (view : sessions.SessionsView) : Type 0 where
  pub long : length view.items ≡ SESSION_NUMBERS
  pub full : view.numbers.active ≤ count_by is_some view.items

-- the sessions that a command names are loaded, and there is a place for one that it starts, unless as many are active as may be
pub record HasSessions (state : Option SlotState) (view : sessions.SessionsView) (a : Admitted) : Type 0 where
  pub loaded : AreLoaded (named_sessions a) view.items
  pub room : starts_session a ≡ true
      → (sessions.AreFree state 1 × (sessions.loaded_items view.items < view.numbers.loaded)) ⊎ AreAllActive view

-- no session has to be moved for a command: it starts none, and those that it names are loaded, or it starts one where as many as may
-- be active are clients' or were left
abbrev pub NeedsNoSession : sessions.SessionsView → Admitted → Type 0
NeedsNoSession view a =
    ((starts_session a ≡ false) × AreLoaded (named_sessions a) view.items)
    ⊎ ((starts_session a ≡ true) × (view.numbers.active ≤ count_by is_held view.items))

-- all is ready for a client's command, and it is written over the device's handles
pub record IsPrepared (contexts : ContextLimits) (state : Option SlotState) (held : Held) (table : List (Option ℕ)) (a : Admitted) (bytes command : List ℕ) : Type 0 where
  pub nobodys : orphan_count held ≡ 0
  -- a session that starts in the last place leaves room below the device's gap
  pub gap : IfSome state (λ slots. gap_of slots < renewal_gap slots.numbers + NEEDED_MOST)
  -- old contexts were renewed, also where the command names no session
  pub narrow : named_sessions a ≡ [] → starts_session a ≡ false → IsNarrow state
  pub placed : IsPlaced table held.objects.items (first_handle a)
  pub sessions : HasSessions state held.sessions a
  pub free : needs_slot contexts a.shape bytes ≡ true
      → IfSome state (λ slots. list_any is_free slots.slots ≡ true) × (objects.residents held.objects.items < held.objects.slots)
  pub written : command ≡ sent_for bytes a (device_handle table held.objects.items (first_handle a))

-- ---- what a command moves, where there are no orphans and no renewal is due

-- by what is kept
pub record IsCalm (held : Held) : Type 0 where
  pub nobodys : orphan_count held ≡ 0
  pub narrow : gap_kept held.sessions < renewal_gap held.sessions.numbers

abbrev pub listed : Option ℕ → List ℕ
listed None = []
listed (Some index) = index ∷ []

-- the object that a command names
abbrev pub named_objects : List (Option ℕ) → Admitted → List ℕ
named_objects table a = listed (named_by table (first_handle a))

-- how many slots, and how many places, it needs for what it may make, and for what it builds. Where as many sessions as may be active
-- are clients' or were left, none starts
abbrev pub slots_of : ContextLimits → Admitted → List ℕ → ℕ
slots_of contexts a bytes = if needs_slot contexts a.shape bytes then 1 else 0

abbrev pub places_needed : sessions.SessionsView → Admitted → ℕ
places_needed view a = if starts_session a && nat_lt (count_by is_held view.items) view.numbers.active then 1 else 0

-- how many commands move what it needs
abbrev pub moves_for : ContextLimits → Held → List (Option ℕ) → Admitted → List ℕ → ℕ
moves_for contexts held table a bytes = sessions.moves_of (named_sessions a) (places_needed held.sessions a) held.sessions
    + objects.moves_of (named_objects table a) (slots_of contexts a bytes) held.objects

-- the sessions that a command names are loaded, by no more commands than that takes, and used
pub record MovesSessions {D A : Type 0} (seen : D → Seen) (old new : D) (held new_held : Held) (a : Admitted) (result : Result A SwapError) : Type 0 where
  pub sent : SendsUpTo seen (sessions.moves_of (named_sessions a) (places_needed held.sessions a) held.sessions) old new
  pub most : sessions.moves_of (named_sessions a) (places_needed held.sessions a) held.sessions ≤ 6
  pub stays : OnOk result (StaysIn 0 (places_of a) None held new_held)
  pub order : OnOk result (new_held.sessions.order ≡ all_used
      (without_first (sessions.evictions (named_sessions a) (places_needed held.sessions a) held.sessions)
      (sessions.numbers_of (named_sessions a)) held.sessions.order)
      (sessions.numbers_of (named_sessions a)))

-- the same of objects
pub record MovesObjects {D A : Type 0} (seen : D → Seen) (old new : D) (held new_held : Held) (needed : List ℕ) (slots : ℕ) (result : Result A SwapError)
    : Type 0 where
  pub sent : SendsUpTo seen (objects.moves_of needed slots held.objects) old new
  pub most : objects.moves_of needed slots held.objects ≤ 5
  pub stays : OnOk result (StaysIn slots 0 None held new_held)
  pub order : OnOk result (new_held.objects.order
      ≡ all_used (without_first (objects.evictions needed slots held.objects) needed held.objects.order) needed)

-- the orders of use once it is ready: those left that had to, and what it names was used
pub record UsesNamed (contexts : ContextLimits) (held new_held : Held) (table : List (Option ℕ)) (a : Admitted) (bytes : List ℕ) : Type 0 where
  pub objects : new_held.objects.order ≡ all_used
      (without_first (objects.evictions (named_objects table a) (slots_of contexts a bytes) held.objects) (named_objects table a) held.objects.order)
      (named_objects table a)
  pub sessions : new_held.sessions.order ≡ all_used
      (without_first (sessions.evictions (named_sessions a) (places_needed held.sessions a) held.sessions)
      (sessions.numbers_of (named_sessions a)) held.sessions.order)
      (sessions.numbers_of (named_sessions a))

-- and once it was answered: a new object, and a new session, was used last; a session that ended, or that it saved, isn't loaded
abbrev pub order_made : Bool → ℕ → List ℕ → List ℕ
order_made made item order = if made then order ++ item ∷ [] else order

abbrev pub order_after : Admitted → List ℕ → List ℕ → List ℕ
order_after a answer order =
    if tells_session a answer then order ++ number_of_session (told_handle answer) ∷ []
    else if ends_session a answer then without_one (number_of_session (command_auth a.auths).session) order
    else if saves_session a answer then without_one (number_of_session (first_handle a)) order
    else order

-- those that are saved: one that ended is gone, and one that it saved is the last
abbrev pub saved_list_after : Admitted → List ℕ → List ℕ → List ℕ
saved_list_after a answer numbers =
    if tells_session a answer then numbers
    else if ends_session a answer then without_one (number_of_session (command_auth a.auths).session) numbers
    else if saves_session a answer then numbers ++ number_of_session (first_handle a) ∷ []
    else numbers

pub record UsedLast (contexts : ContextLimits) (held new_held : Held) (table : List (Option ℕ)) (a : Admitted) (bytes answer : List ℕ) (item : ℕ) : Type 0 where
  pub ready : Held
  pub named : UsesNamed contexts held ready table a bytes
  pub objects : new_held.objects.order ≡ order_made (tells_object a answer) item ready.objects.order
  pub sessions : new_held.sessions.order ≡ order_after a answer ready.sessions.order

-- a flush that was answered
abbrev pub WasFlushed : ContextLimits → Transmission → Type 0
WasFlushed contexts one = (code_of one.command ≡ CC_FLUSH_CONTEXT) × WasTaken contexts one

-- so many flushes were sent, and nothing else: these came to the trace, the newest first
pub record FlushesSome {D : Type 0} (contexts : ContextLimits) (seen : D → Seen) (count : ℕ) (old new : D) : Type 0 where
  pub sent : List Transmission
  pub trace_is : (seen new).trace ≡ sent ++ (seen old).trace
  pub each : AllByRecursion (WasFlushed contexts) sent
  pub count_is : length sent ≡ count

-- Before a client's own command so many orphans were flushed, and then commands of the broker's own were sent. Each was
-- answered.
pub record SentBefore {D : Type 0} (contexts : ContextLimits) (seen : D → Seen) (nobodys : ℕ) (old new : D) : Type 0 where
  pub cleared : D
  pub flushed : FlushesSome contexts seen nobodys old cleared
  pub own : SendsOwn contexts seen cleared new
  pub all : AllByRecursion (WasTaken contexts) own.sent
  pub answered : (new ≡ old) ⊎ IsOwnAnswered contexts (asked_of (seen new)) (last_of (seen new))

-- what a call sends that makes ready for a client's own command
pub record MakesReady {D A : Type 0} (contexts : ContextLimits) (seen : D → Seen) (nobodys : ℕ) (old new : D) (result : Result A SwapError) : Type 0 where
  pub asks : AsksSome contexts seen old new result
  pub before : OnOk result (SentBefore contexts seen nobodys old new)

-- how many new objects a response has a handle for: one, or none
abbrev pub objects_told : Admitted → List ℕ → ℕ
objects_told a answer = if tells_object a answer then 1 else 0

-- The command was the last that was sent, and once, over the slot of its object and the handles of its sessions, which were loaded.
-- What came back is the reply, and the client has a new object or session where that tells one, or a saved session where that has its
-- context. What was sent before it are commands of the broker's own: first the flushes of orphans. Each was answered. Whose
-- each other session is stays
pub record Ran {D : Type 0} (contexts : ContextLimits) (seen : D → Seen) (client : ℕ) (old new : D)
    (held new_held : Held) (table new_table : List (Option ℕ)) (a : Admitted) (bytes reply : List ℕ) : Type 0 where
  pub sort : is_sent contexts a bytes ≡ true
  pub before : D
  pub own_before : SentBefore contexts seen (orphan_count held) old before
  pub unmoved : IsAtHand contexts held table a bytes → before ≡ old
  pub placed : IsPlaced table new_held.objects.items (first_handle a)
  pub mid : List (Option sessions.Item)
  pub loaded : AreLoaded (named_sessions a) mid
  pub owners : owned_handles mid ≡ owned_handles held.sessions.items
  pub sent_is : IsSent seen before new (sent_for bytes a (device_handle table new_held.objects.items (first_handle a)))
  pub answer : List ℕ
  pub last_is : last_of (seen new) ≡ Some answer
  pub reply_is : reply ≡ client_reply table a answer
  pub item : ℕ
  pub table_is : new_table ≡ table_with table item (tells_object a answer)
  -- a new object is in the slot of the response's handle
  pub object_is : tells_object a answer ≡ true
      → item_at new_held.objects.items item ≡ new_item client (told_handle answer - TRANSIENT_FIRST)
  -- where it needs a slot, one was free when it was sent: without what it made there is room for one object more
  pub spare : needs_slot contexts a.shape bytes ≡ true
      → objects.residents new_held.objects.items + length new_held.objects.left < new_held.objects.slots + objects_told a answer
  -- where it starts a session, and fewer than may be active are clients' or were left, a place for a
  -- loaded one was free when it was sent
  pub place : starts_session a ≡ true → count_by is_held mid < held.sessions.numbers.active
      → sessions.loaded_items mid < held.sessions.numbers.loaded
  -- the broker takes it, by what it held: whether a context that the command loads is kept, and whether no new session can have the handle
  pub taken : takes contexts (loads_kept new_held.objects.items (asked_of (seen new))) (number_taken (record held.sessions { items = mid }) answer) (asked_of (seen new)) answer ≡ true
  pub sessions_are : new_held.sessions.items ≡ sessions_held_after client a answer mid
  pub left : new_held.sessions.left ≡ held.sessions.left
  pub nobodys : orphan_count new_held ≡ 0
  pub used : IsCalm held → UsedLast contexts held new_held table a bytes answer item

-- ---- FlushContext

-- what is sent for FlushContext: the flush of the session, or of the slot that the object is in, as the last command and once, and
-- before it what flushes so many orphans; and else nothing
abbrev pub IsFlushSent : {D : Type 0} (contexts : ContextLimits) (seen : D → Seen) → ℕ → Option ℕ → (old new : D) → Type 0
IsFlushSent contexts seen nobodys None old new = new ≡ old
IsFlushSent contexts seen nobodys (Some handle) old new =
    (before : _) × FlushesSome contexts seen nobodys old before × (nobodys ≡ 0 → before ≡ old)
    × (asked_of (seen new) ≡ flush_context_command handle) × (sent_of (seen new) ≡ one_more (sent_of (seen before))) × IsSome (last_of (seen new))

-- FlushContext is refused with this code, whatever the machine keeps
abbrev pub IsUnflushed : Tables → Result ℕ ℕ → ℕ → Type 0
IsUnflushed tables (Err code) refusal = code ≡ refusal
IsUnflushed tables (Ok handle) refusal = flush_fault_of tables handle ≡ Some refusal

-- the reply of FlushContext, over what the client has
abbrev pub reply_unless : Option ℕ → List ℕ
reply_unless None = response ST_NO_SESSIONS RC_SUCCESS []
reply_unless (Some code) = error_reply code

abbrev pub flush_reply : Tables → Result ℕ ℕ → List ℕ
flush_reply tables (Err code) = error_reply code
flush_reply tables (Ok handle) = reply_unless (flush_fault_of tables handle)

-- what FlushContext names
abbrev pub flush_of : Admitted → List ℕ → Result ℕ ℕ
flush_of a bytes = flush_handle (drop a.auths.params bytes)

-- a client that has this table may flush what this handle names
pub record MayFlush (client handle : ℕ) (held : Held) (table : List (Option ℕ)) : Type 0 where
  pub own_table : IsTable held.objects.items client table
  pub there : flush_fault_of (tables_had client table held.sessions.items) handle ≡ None

-- FlushContext is answered over what the client has, and the client loses what it names. It is flushed where it is in the device
pub record Flushed {D : Type 0} (contexts : ContextLimits) (seen : D → Seen) (tables : Tables) (old new : D)
    (held new_held : Held) (table new_table : List (Option ℕ)) (named : Result ℕ ℕ) (reply : List ℕ) : Type 0 where
  pub reply_is : reply ≡ flush_reply tables named
  pub sent_is : IsFlushSent contexts seen (orphan_count held) (flush_sent tables table held.objects.items named) old new
  -- where anything was sent, there are no orphans
  pub nobodys : is_some (flush_sent tables table held.objects.items named) ≡ true → orphan_count new_held ≡ 0
  pub table_is : new_table ≡ flushed_table tables table named
  pub owners : owned_handles new_held.sessions.items ≡ owned_handles (flushed_sessions tables held.sessions.items named)
  pub left : new_held.sessions.left ≡ held.sessions.left

-- the same of a handle that the client may flush
pub record FlushesNamed {D : Type 0} (contexts : ContextLimits) (seen : D → Seen) (handle : ℕ) (old new : D)
    (held new_held : Held) (table new_table : List (Option ℕ)) : Type 0 where
  pub sent_is : IsFlushSent contexts seen (orphan_count held) (flushed_handle table held.objects.items handle) old new
  pub nobodys : is_some (flushed_handle table held.objects.items handle) ≡ true → orphan_count new_held ≡ 0
  pub table_is : new_table ≡ table_without table handle
  pub owners : owned_handles new_held.sessions.items ≡ owned_handles (sessions_without held.sessions.items handle)
  pub left : new_held.sessions.left ≡ held.sessions.left
  -- nothing moves
  pub loses : Loses held new_held

-- ---- what the broker answers by itself

-- A command that isn't sent, and not FlushContext, is answered over what the client has, whatever the device keeps. Nothing else
-- changes but that a session is in use again, and the client's, whose context was given back
pub record Replied {D : Type 0} (contexts : ContextLimits) (client : ℕ) (old new : D) (held new_held : Held) (table new_table : List (Option ℕ)) (a : Admitted) (bytes reply : List ℕ) : Type 0 where
  pub sort : is_sent contexts a bytes ≡ false
  pub other : (a.shape.row.code == CC_FLUSH_CONTEXT) ≡ false
  pub device_is : new ≡ old
  pub table_is : new_table ≡ table
  pub objects_are : new_held.objects ≡ held.objects
  pub sessions_are : new_held.sessions ≡ view_given client a bytes held.sessions
  pub reply_is : (persist : Persist) → reply ≡ reply_of (own_answer persist client table held.sessions a bytes)

-- what a client's command does: it is FlushContext, or is answered by the broker itself, or runs on the device
abbrev pub Executes : {D : Type 0} (contexts : ContextLimits) (seen : D → Seen) (client : ℕ) (old new : D)
    (held new_held : Held) (table new_table : List (Option ℕ)) (a : Admitted) (bytes reply : List ℕ) → Type 0
Executes contexts seen client old new held new_held table new_table a bytes reply =
    (((a.shape.row.code == CC_FLUSH_CONTEXT) ≡ true)
    × Flushed contexts seen (tables_had client table held.sessions.items) old new held new_held table new_table (flush_of a bytes) reply)
    ⊎ (Replied contexts client old new held new_held table new_table a bytes reply
    ⊎ Ran contexts seen client old new held new_held table new_table a bytes reply)

-- a client's command was carried out: what it did, and, if the device shows its state, which step
-- of the plain machine that is
pub record CarriesOut {D : Type 0} (contexts : ContextLimits) (seen : D → Seen) (client : ℕ) (old new : D)
    (held new_held : Held) (table new_table : List (Option ℕ)) (a : Admitted) (bytes reply : List ℕ) : Type 0 where
  pub did : Executes contexts seen client old new held new_held table new_table a bytes reply
  pub steps : StepsAs (λ state. client_step client state bytes (pick_of a reply)) (seen old).state (seen new).state held new_held table new_table reply
  pub whole : is_frame reply ≡ true
  -- where no renewal was due
  pub stays : gap_kept held.sessions < renewal_gap held.sessions.numbers → StaysIn 1 1 (saved_number a) held new_held

-- a client's command that was admitted: what it leaves, what it did unless it failed, and what is
-- sent for it at the most
pub record ServesCommand {D A : Type 0} (contexts : ContextLimits) (seen : D → Seen) (client : ℕ)
    (old new : D) (held new_held : Held) (table new_table : List (Option ℕ)) (a : Admitted)
    (bytes reply : List ℕ) (result : Result A SwapError) : Type 0 where
  pub serves : Serves contexts seen client old new held new_held table new_table result
  pub carries : OnOk result
      (CarriesOut contexts seen client old new held new_held table new_table a bytes reply)
  -- where all that it names is at hand, one command
  pub at_hand : IsAtHand contexts held table a bytes → SendsUpTo seen 1 old new
  -- where there are no orphans and no renewal is due, what moves that, and the command itself
  pub few : IsCalm held → SendsUpTo seen (moves_for contexts held table a bytes + 1) old new
