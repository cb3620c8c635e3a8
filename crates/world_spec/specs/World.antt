-- The machine as its clients see it: one shared persistent state, for each open client a table of its own, in which its objects
-- stand by number, and 64 session numbers. Each is unused, or has a session of one client or one that its client saved and left;
-- a bounded number of them are used at once. It has no slots and no places, and moves nothing.
use Rattle.std.specs.Prelude.{ℕ, ◌+◌, ◌-◌, ◌*◌, ◌^◌, ◌==◌, ◌&&◌, ◌||◌, not, nat_le, nat_lt, bytes_eq, Bool, false, List, [], ◌∷◌, ◌++◌, length, get_or, set, map, replicate, take, drop, Option, Some, None, is_some, Result, Ok, Err, if◌then◌else◌}
use Rattle.std.specs.Int.{w32, to_be_bytes}
use Rattle.std.specs.List.{count_by}
use Rattle.tab_spec.specs.declared.TheConstants.{CC_CONTEXT_LOAD, CC_CONTEXT_SAVE, CC_FLUSH_CONTEXT, CC_GET_CAPABILITY, CC_START_AUTH_SESSION, CONTEXT_LIMIT, HT_TRANSIENT, RC_1, RC_HANDLE, RC_INSUFFICIENT, RC_INTEGRITY, RC_P, RC_SESSION_HANDLES, RC_SUCCESS, RC_VALUE, SESSION_NUMBERS, ST_NO_SESSIONS, TRANSIENT_FIRST}
use Rattle.tab_spec.specs.declared.Shape.{Shape}
use Rattle.tab_spec.specs.declared.Auths.{Auths}
use Rattle.tab_spec.specs.declared.Admitted.{Admitted}
use Rattle.tab_spec.specs.Admission.{Tables, client_admitted, is_session_handle}
use Rattle.tab_spec.specs.Commands.{all_commands}
use Rattle.tab_spec.specs.Numbers.{leave_limit}
use Rattle.tab_spec.specs.Object.{Object}
use Rattle.tab_spec.specs.Parameters.{in_parameter, nothing_of, when_read}
use Rattle.tab_spec.specs.Persist.{Persist}
use Rattle.tab_spec.specs.Reply.{error_reply, response, with_response_handle}
use Rattle.tab_spec.specs.Session.{Session, kind_octet}
use Rattle.tab_spec.specs.Shape.{number_of_session, octet_of}
use Rattle.tab_spec.specs.Values.{number32}
use Rattle.tab_spec.specs.declared.contexts.TheConstants.{PROFILE_CONTEXTS}
use Rattle.effect_spec.specs.Capabilities.{Listed, capability_of, client_limits, transient_from}
use Rattle.effect_spec.specs.Contexts.{Context, context_parameter, object_context, opened_object, session_context}
use Rattle.effect_spec.specs.Effect.{Effect, effect_of}
use Rattle.effect_spec.specs.Operands.{Created, Operands, new_object, new_session, nothing, operands_by, sessions_after}
use Rattle.effect_spec.specs.Sessions.{StartParameters, start_check}
use Rattle.history_spec.specs.declared.Pick.{Pick}
use Rattle.history_spec.specs.declared.Pick.TheVariants as picks
use Rattle.history_spec.specs.declared.EntryKind.{EntryKind}
use Rattle.history_spec.specs.declared.EntryKind.TheVariants.{Open, Command, Canceled, Fault, Close}
use Rattle.history_spec.specs.Entry.{Entry, without}
use Rattle.history_spec.specs.Table.{held_under, is_full, next_handle, put_least, without_handle}

-- an open client, and its objects by number
pub record Client : Type 0 where
  pub number : ℕ
  pub objects : List (Option Object)

-- a session: its client, none once that client left it; the first octet of its handle; what a
-- device has of it; and, if a client saved it, the context that was handed out for it. A session
-- without such a context is in use; a left one has one
pub record Owned : Type 0 where
  pub client : Option ℕ
  pub octet : ℕ
  pub session : Session
  pub handed : Option (List ℕ)

pub record World : Type 0 where
  pub persist : Persist
  -- how many sessions may be active at once over all clients
  pub most : ℕ
  -- how many clients were opened
  pub opened : ℕ
  -- the open ones, in the order of opening
  pub clients : List Client
  -- the sessions of all of them and those that were left, by number
  pub sessions : List (Option Owned)
  -- the numbers of the sessions that clients saved and left, in the order in which they were left
  pub left : List ℕ
  -- the least sequence under which the next context of an object, and of a session, may be handed out
  pub object_sequence : ℕ
  pub session_sequence : ℕ

abbrev pub no_sessions : List (Option Owned)
no_sessions = replicate SESSION_NUMBERS None

abbrev pub empty_world : Persist → ℕ → World
empty_world base most = record {
  persist = base;
  most = most;
  opened = 0;
  clients = [];
  sessions = no_sessions;
  left = [];
  object_sequence = 0;
  session_sequence = 0;
}

-- ---- tables

abbrev pub new_client : ℕ → Client
new_client number = record { number = number; objects = [] }

-- the table of a client
abbrev pub table_in : List Client → ℕ → List (Option Object)
table_in [] client = []
table_in (c ∷ clients) client = if c.number == client then c.objects else table_in clients client

-- the clients, where this one has another table
abbrev pub with_table : ℕ → List (Option Object) → List Client → List Client
with_table client objects [] = []
with_table client objects (c ∷ clients) =
    if c.number == client then record c { objects = objects } ∷ clients else c ∷ with_table client objects clients

abbrev pub without_client : ℕ → List Client → List Client
without_client client [] = []
without_client client (c ∷ clients) = if c.number == client then clients else c ∷ without_client client clients

-- ---- sessions

-- whether it is this client's
abbrev pub is_of : ℕ → Option ℕ → Bool
is_of client None = false
is_of client (Some owner) = owner == client

-- what stands under a number, where it is this client's and its handle has this octet
abbrev pub owned_by : ℕ → ℕ → Option Owned → Option Owned
owned_by client octet None = None
owned_by client octet (Some place) = if is_of client place.client && place.octet == octet then Some place else None

-- what stands under a client's handle: a session in use, or one that the client saved
abbrev pub owned_under : List (Option Owned) → ℕ → ℕ → Option Owned
owned_under sessions client handle = owned_by client (octet_of handle) (get_or sessions (number_of_session handle) None)

-- what ContextLoad may take under a client's handle: a session of this client, or one that was left
abbrev pub loadable_by : ℕ → ℕ → Option Owned → Option Owned
loadable_by client octet None = None
loadable_by client octet (Some place) =
    if (is_of client place.client || not (is_some place.client)) && place.octet == octet then Some place else None

abbrev pub loadable_under : List (Option Owned) → ℕ → ℕ → Option Owned
loadable_under sessions client handle = loadable_by client (octet_of handle) (get_or sessions (number_of_session handle) None)

-- a session that is in use
abbrev pub in_use : Option Owned → Option Session
in_use None = None
in_use (Some place) = if is_some place.handed then None else Some place.session

-- the session in use of a client's handle
abbrev pub session_of : List (Option Owned) → ℕ → ℕ → Option Session
session_of sessions client handle = in_use (owned_under sessions client handle)

-- what stands under the number of a client's handle: a session in use
abbrev pub own_place : ℕ → ℕ → Session → Option Owned
own_place client handle s = Some (record { client = Some client; octet = octet_of handle; session = s; handed = None })

-- and one that the client saved, for which this context was handed out
abbrev pub saved_place : ℕ → ℕ → Session → List ℕ → Option Owned
saved_place client handle s context =
    Some (record { client = Some client; octet = octet_of handle; session = s; handed = Some context })

-- how many sessions are active: those of all clients, and those that were left
abbrev pub active : List (Option Owned) → ℕ
active sessions = count_by is_some sessions

-- whether a number is one that a new session may have: below 64, and no session's
abbrev pub is_unused : List (Option Owned) → ℕ → Bool
is_unused sessions number = nat_lt number SESSION_NUMBERS && not (is_some (get_or sessions number None))

-- ---- what a close leaves

-- whether this client saved the session of a place
abbrev pub is_saved_by : ℕ → Option Owned → Bool
is_saved_by client None = false
is_saved_by client (Some place) = is_of client place.client && is_some place.handed

-- the numbers of the sessions that this client saved, rising; the first place has this number
abbrev pub saved_numbers : ℕ → ℕ → List (Option Owned) → List ℕ
saved_numbers client number [] = []
saved_numbers client number (place ∷ places) =
    (if is_saved_by client place then number ∷ [] else []) ++ saved_numbers client (number + 1) places

-- what this client's close leaves of a place: its session in use goes, and one that it saved has no
-- client any more
abbrev pub left_place : ℕ → Option Owned → Option Owned
left_place client None = None
left_place client (Some place) =
    if is_of client place.client then (if is_some place.handed then Some (record place { client = None }) else None)
    else Some place

-- without the sessions of these numbers
abbrev pub without_places : List ℕ → List (Option Owned) → List (Option Owned)
without_places [] sessions = sessions
without_places (number ∷ numbers) sessions = without_places numbers (set sessions number None)

-- what the close of a client leaves of all sessions, and which ones are left then: its sessions in use go, and those that it saved
-- are left; of all that are left, those past the limit go, which were left longest
abbrev pub closed_sessions : ℕ → ℕ → List (Option Owned) → List ℕ → List (Option Owned) × List ℕ
closed_sessions client most sessions left =
    let all = left ++ saved_numbers client 0 sessions in
    let gone = length all - leave_limit most in
    (without_places (take gone all) (map (left_place client) sessions), drop gone all)

-- ---- what a command names

-- What a command of a client is run over: what is kept, how many sessions there may be, the client's objects, and all sessions. It
-- may name those of the client, and ContextLoad may take a left one, too
pub record ClientState : Type 0 where
  pub persist : Persist
  pub most : ℕ
  pub objects : List (Option Object)
  pub sessions : List (Option Owned)
  pub left : List ℕ
  pub object_sequence : ℕ
  pub session_sequence : ℕ

-- what a client may name
abbrev pub tables_of : ℕ → ClientState → Tables
tables_of client state = record {
  has_object = λ handle. is_some (held_under state.objects handle);
  has_session = λ handle. is_some (session_of state.sessions client handle);
  is_full = is_full state.objects;
  contexts = PROFILE_CONTEXTS;
}

abbrev pub client_operands : ℕ → ClientState → Shape → Auths → Operands
client_operands client state shape auths =
    operands_by (held_under state.objects) (session_of state.sessions client) shape auths

-- ---- steps

-- the state after a command, and its reply
abbrev pub ClientStep : Type 0
ClientStep = ClientState × List ℕ

-- an error changes nothing
abbrev pub refused_step : ClientState → ℕ → ClientStep
refused_step state code = (state, error_reply code)

-- a step that leaves no choice
abbrev pub choosing_nothing : ClientStep → Pick → Option ClientStep
choosing_nothing step picks.Nothing = Some step
choosing_nothing step (picks.Session number) = None
choosing_nothing step (picks.Sequence number) = None

-- a step that leaves the choice of a sequence
abbrev pub choosing_sequence : (ℕ → Option ClientStep) → Pick → Option ClientStep
choosing_sequence step picks.Nothing = None
choosing_sequence step (picks.Session number) = None
choosing_sequence step (picks.Sequence sequence) = step sequence

-- a new session under this number; the response has its handle
abbrev pub numbered_step : ℕ → ClientState → Session → List ℕ → ℕ → Option ClientStep
numbered_step client state s reply number =
    let handle = kind_octet s.kind * 2 ^ 24 + number in
    if is_unused state.sessions number
    then Some (
      record state { sessions = set state.sessions number (own_place client handle s) },
      with_response_handle reply handle,
    )
    else None

-- a step that leaves the choice of a number
abbrev pub choosing_number : ℕ → ClientState → Session → List ℕ → Pick → Option ClientStep
choosing_number client state s reply picks.Nothing = None
choosing_number client state s reply (picks.Session number) = numbered_step client state s reply number
choosing_number client state s reply (picks.Sequence number) = None

-- a new object gets the least number that is free, a new session the one that is picked; the
-- response has the handle
abbrev pub made_step : ℕ → ClientState → Created → List ℕ → Pick → Option ClientStep
made_step client state nothing reply pick = choosing_nothing (state, reply) pick
made_step client state (new_object o) reply pick =
    choosing_nothing (
      record state { objects = put_least o state.objects },
      with_response_handle reply (next_handle state.objects),
    ) pick
made_step client state (new_session s) reply pick = choosing_number client state s reply pick

-- what an effect leaves of what is kept and of the client's sessions
abbrev pub left_by : ℕ → ClientState → Effect → ClientState
left_by client state effect = record state {
  persist = effect.persist;
  sessions = sessions_after (own_place client) None state.sessions effect.operands effect.outcome.auth_ended;
}

abbrev pub effect_step : ℕ → ClientState → Effect → Pick → Option ClientStep
effect_step client state effect pick = made_step client (left_by client state effect) effect.outcome.created effect.reply pick

-- ---- FlushContext (Part 3)

-- the code that refuses a handle, where it names neither an object nor a session that is there
abbrev pub flush_fault : (has_object has_session : ℕ → Bool) → ℕ → Option ℕ
flush_fault has_object has_session handle =
    if octet_of handle == HT_TRANSIENT then (if has_object handle then None else Some (RC_HANDLE + RC_P + RC_1))
    else if is_session_handle handle then (if has_session handle then None else Some (RC_HANDLE + RC_P + RC_1))
    else Some (RC_VALUE + RC_P + RC_1)

-- without the object or the session of a handle
abbrev pub without_named : ClientState → ℕ → ClientState
without_named state handle =
    if octet_of handle == HT_TRANSIENT then record state { objects = without_handle state.objects handle }
    else record state { sessions = set state.sessions (number_of_session handle) None }

abbrev pub flushed_step : ClientState → ℕ → Option ℕ → ClientStep
flushed_step state handle (Some code) = refused_step state code
flushed_step state handle None = (without_named state handle, response ST_NO_SESSIONS RC_SUCCESS [])

-- whether an object of the client has a handle, and a session, in use or saved
abbrev pub has_object : ClientState → ℕ → Bool
has_object state handle = is_some (held_under state.objects handle)

abbrev pub owns_session : ℕ → ClientState → ℕ → Bool
owns_session client state handle = is_some (owned_under state.sessions client handle)

abbrev pub flush_step : ℕ → ClientState → Result ℕ ℕ → ClientStep
flush_step client state (Err code) = refused_step state code
flush_step client state (Ok handle) =
    flushed_step state handle (flush_fault (has_object state) (owns_session client state) handle)

-- the flushHandle
abbrev pub flush_handle : List ℕ → Result ℕ ℕ
flush_handle params = when_read (in_parameter 1 (number32 RC_INSUFFICIENT params)) (λ handle. Ok handle)

-- ---- ContextSave (Part 3)

-- whether a context may be handed out under this sequence
abbrev pub may_hand_out : ℕ → ℕ → Bool
may_hand_out least sequence = nat_le least sequence && nat_lt sequence CONTEXT_LIMIT

-- the context of an object, which stays
abbrev pub object_handed : ClientState → Option Object → ℕ → Option ClientStep
object_handed state None sequence = None
object_handed state (Some o) sequence =
    if may_hand_out state.object_sequence sequence
    then Some (
      record state { object_sequence = sequence + 1 },
      response ST_NO_SESSIONS RC_SUCCESS (object_context state.persist.seed sequence o),
    )
    else None

-- the context of a session in use, which is saved then
abbrev pub session_handed : ℕ → ClientState → ℕ → Option Session → ℕ → Option ClientStep
session_handed client state handle None sequence = None
session_handed client state handle (Some s) sequence =
    let context = session_context state.persist.seed handle sequence s in
    if may_hand_out state.session_sequence sequence
    then Some (
      record state {
        sessions = set state.sessions (number_of_session handle) (saved_place client handle s context);
        session_sequence = sequence + 1;
      },
      response ST_NO_SESSIONS RC_SUCCESS context,
    )
    else None

abbrev pub handed_step : ℕ → ClientState → ℕ → ℕ → Option ClientStep
handed_step client state handle sequence =
    if octet_of handle == HT_TRANSIENT then object_handed state (held_under state.objects handle) sequence
    else session_handed client state handle (session_of state.sessions client handle) sequence

-- the handle names an object or a session in use; a command of another size is refused
abbrev pub save_step : ℕ → ClientState → ℕ → Result ℕ ℕ → Pick → Option ClientStep
save_step client state handle (Err code) pick = choosing_nothing (refused_step state code) pick
save_step client state handle (Ok none) pick = choosing_sequence (handed_step client state handle) pick

-- what ContextSave reads: no parameters
abbrev pub save_parameters : List ℕ → Result ℕ ℕ
save_parameters params = when_read (nothing_of params) (λ none. Ok none)

-- ---- ContextLoad (Part 3)

-- the object of a context, in any connection, under the least number that is free
abbrev pub object_opened : ClientState → Option Object → ClientStep
object_opened state None = refused_step state (RC_INTEGRITY + RC_P + RC_1)
object_opened state (Some o) = (
  record state { objects = put_least o state.objects },
  response ST_NO_SESSIONS RC_SUCCESS (to_be_bytes w32 (next_handle state.objects)),
)

-- whether these bytes are the context that was handed out
abbrev pub is_handed : List ℕ → Option (List ℕ) → Bool
is_handed bytes None = false
is_handed bytes (Some context) = bytes_eq bytes context

-- a session that the client saved, or that was left, is the client's and in use, exactly where this is the context that was handed
-- out for it
abbrev pub session_taken : ℕ → ClientState → ℕ → List ℕ → Option Owned → ClientStep
session_taken client state handle bytes None = refused_step state (RC_HANDLE + RC_P + RC_1)
session_taken client state handle bytes (Some place) =
    if is_handed bytes place.handed
    then (
      record state {
        sessions = set state.sessions (number_of_session handle) (own_place client handle place.session);
        left = without (number_of_session handle) state.left;
      },
      response ST_NO_SESSIONS RC_SUCCESS (to_be_bytes w32 handle),
    )
    else refused_step state (RC_HANDLE + RC_P + RC_1)

abbrev pub load_step : ℕ → ClientState → List ℕ → Result Context ℕ → ClientStep
load_step client state bytes (Err code) = refused_step state code
load_step client state bytes (Ok context) =
    let handle = context.saved_handle in
    if handle == TRANSIENT_FIRST then object_opened state (opened_object state.persist.seed bytes)
    else if is_session_handle handle
    then session_taken client state handle bytes (loadable_under state.sessions client handle)
    else refused_step state (RC_VALUE + RC_P + RC_1)

-- what ContextLoad reads
abbrev pub load_parameters : List ℕ → Result Context ℕ
load_parameters params = when_read (context_parameter params) (λ context. Ok context)

-- ---- GetCapability (Part 3)

-- a session of this client under this number, as it is listed
abbrev pub listed_owned : ℕ → ℕ → Option Owned → List Listed
listed_owned client number None = []
listed_owned client number (Some place) =
    if is_of client place.client
    then record { handle = place.octet * 2 ^ 24 + number; in_use = not (is_some place.handed) } ∷ []
    else []

-- the sessions of a client; the first place has this number
abbrev pub listed_sessions : ℕ → ℕ → List (Option Owned) → List Listed
listed_sessions client number [] = []
listed_sessions client number (place ∷ places) =
    listed_owned client number place ++ listed_sessions client (number + 1) places

-- over the client's objects and sessions, and the count of all active sessions
abbrev pub client_capability : ℕ → ClientState → List ℕ → Result (List ℕ) ℕ
client_capability client state params =
    capability_of (client_limits state.most) all_commands state.persist (transient_from TRANSIENT_FIRST state.objects)
    (listed_sessions client 0 state.sessions) (active state.sessions) params

abbrev pub capability_step : ClientState → Result (List ℕ) ℕ → ClientStep
capability_step state (Err code) = refused_step state code
capability_step state (Ok params) = (state, response ST_NO_SESSIONS RC_SUCCESS params)

-- ---- a command

-- where a session may start otherwise, as many as there may be are active
abbrev pub session_too_many : ClientState → Result StartParameters ℕ → Option ℕ
session_too_many state (Err code) = None
session_too_many state (Ok beginning) =
    if nat_le state.most (active state.sessions) then Some RC_SESSION_HANDLES else None

abbrev pub room_for : ClientState → ℕ → List ℕ → Option ℕ
room_for state code params = if code == CC_START_AUTH_SESSION then session_too_many state (start_check params) else None

abbrev pub unless_full : ClientState → Option ℕ → (Pick → Option ClientStep) → Pick → Option ClientStep
unless_full state (Some code) next pick = choosing_nothing (refused_step state code) pick
unless_full state None next pick = next pick

abbrev pub run_step : ℕ → ClientState → Shape → Auths → List ℕ → Pick → Option ClientStep
run_step client state shape auths command pick =
    let params = drop auths.params command in
    if shape.row.code == CC_FLUSH_CONTEXT then choosing_nothing (flush_step client state (flush_handle params)) pick
    else if shape.row.code == CC_CONTEXT_SAVE
    then save_step client state (get_or shape.handles 0 0) (save_parameters params) pick
    else if shape.row.code == CC_CONTEXT_LOAD
    then choosing_nothing (load_step client state params (load_parameters params)) pick
    else if shape.row.code == CC_GET_CAPABILITY
    then choosing_nothing (capability_step state (client_capability client state params)) pick
    else unless_full state (room_for state shape.row.code params)
    (effect_step client state (effect_of state.persist (client_operands client state shape auths) shape auths command)) pick

abbrev pub admitted_step : ℕ → ClientState → Result Admitted ℕ → List ℕ → Pick → Option ClientStep
admitted_step client state (Err code) command pick = choosing_nothing (refused_step state code) pick
admitted_step client state (Ok admitted) command pick = run_step client state admitted.shape admitted.auths command pick

-- what a command of this client does; nothing where the pick isn't one that the command may have
unfoldable pub client_step : ℕ → ClientState → List ℕ → Pick → Option ClientStep
client_step client state command pick =
    admitted_step client state (client_admitted (tables_of client state) command) command pick

-- ---- in the world

abbrev pub state_in : World → ℕ → ClientState
state_in world client = record {
  persist = world.persist;
  most = world.most;
  objects = table_in world.clients client;
  sessions = world.sessions;
  left = world.left;
  object_sequence = world.object_sequence;
  session_sequence = world.session_sequence;
}

abbrev pub world_with_state : World → ℕ → ClientState → World
world_with_state world client state = record world {
  persist = state.persist;
  most = state.most;
  clients = with_table client state.objects world.clients;
  sessions = state.sessions;
  left = state.left;
  object_sequence = state.object_sequence;
  session_sequence = state.session_sequence;
}

abbrev pub step_in : World → ℕ → Option ClientStep → Option (World × List ℕ)
step_in world client None = None
step_in world client (Some step) = Some (world_with_state world client step.0, step.1)

-- the world after a client's command, and the reply; nothing where the pick isn't one that the command may have
unfoldable pub plain_step : World → ℕ → List ℕ → Pick → Option (World × List ℕ)
plain_step world client command pick = step_in world client (client_step client (state_in world client) command pick)

-- ---- the world of a history

abbrev pub opened_world : World → ℕ → World
opened_world world client =
    record world { opened = world.opened + 1; clients = world.clients ++ new_client client ∷ [] }

-- a client's objects go, and its sessions are closed
abbrev pub closed_world : World → ℕ → World
closed_world world client =
    let closed = closed_sessions client world.most world.sessions world.left in
    record world {
      clients = without_client client world.clients;
      sessions = closed.0;
      left = closed.1;
    }

abbrev pub after_step : World → Option (World × List ℕ) → World
after_step world None = world
after_step world (Some step) = step.0

abbrev pub world_after : EntryKind → World → Entry → World
world_after Open world e = opened_world world e.client
world_after Command world e = after_step world (plain_step world e.client e.command e.pick)
world_after (Canceled upto) world e = world
world_after Fault world e = world
world_after Close world e = closed_world world e.client

abbrev pub world_by : World → Entry → World
world_by world e = world_after e.kind world e

abbrev pub world_from : World → List Entry → World
world_from world [] = world
world_from world (e ∷ history) = world_from (world_by world e) history

-- the world after a history that began with this persistent state, over a device that has so many sessions
abbrev pub world_of : Persist → ℕ → List Entry → World
world_of base most history = world_from (empty_world base most) history
