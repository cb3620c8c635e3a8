-- Frames and worlds that the worked examples speak of.
use Rattle.std.specs.Prelude.{ℕ, ◌+◌, ◌-◌, Bool, false, List, [], ◌∷◌, ◌++◌, length, map, take, drop, bytes_eq, replicate, set, Option, Some, None}
use Rattle.std.specs.List.{range_with_len}
use Rattle.history_spec.specs.declared.Pick.TheVariants.{Nothing}
use Rattle.history_spec.specs.Examples.{zero_persist}
use Rattle.tab_spec.specs.Persist.{Persist}
use Rattle.world_spec.specs.World.{Client, ClientState, ClientStep, Owned, World, client_step, new_client, no_sessions}
use Rattle.tab_spec.specs.declared.TheConstants.{CC_CONTEXT_LOAD, CC_CONTEXT_SAVE, CC_CREATE_PRIMARY, CC_GET_CAPABILITY, CC_POLICY_GET_DIGEST, CC_READ_PUBLIC, CC_START_AUTH_SESSION, RH_NULL, RH_OWNER, RS_PW}
use Rattle.tab_spec.specs.declared.SessionKind.TheVariants as kinds
use Rattle.effect_spec.specs.Contexts.{session_context}
use Rattle.effect_spec.specs.Sessions.{initial_session}
use Rattle.tab_spec.specs.Object.{Object}
use Rattle.tab_spec.specs.Values.{public_bytes, sized_bytes}
use Rattle.tab_examples.specs.Examples.{area, bytes_of, extended_persist, frame, hmac_key, key_with, no_pcrs, no_secret, plain_auth, sealed, template, u32}

-- a world in which so many clients were opened, and these are still open
abbrev pub world_with : Persist → ℕ → List Client → World
world_with persist opened clients =
    record {
      persist = persist;
      most = 64;
      opened = opened;
      clients = clients;
      sessions = no_sessions;
      left = [];
      object_sequence = 0;
      session_sequence = 0;
    }

-- a world without clients
abbrev pub new_world : World
new_world = world_with (zero_persist 0) 0 []

-- the same, and PCR 7 extended by 32 zeros
abbrev pub extended_world : World
extended_world = world_with extended_persist 0 []

-- ---- objects

-- a client with these objects and no session, and its step without a change of what is kept
abbrev pub state_with : List (Option Object) → ClientState
state_with objects = record {
  persist = zero_persist 0;
  most = 64;
  objects = objects;
  sessions = no_sessions;
  left = [];
  object_sequence = 0;
  session_sequence = 0;
}

abbrev pub left_with : List (Option Object) → List ℕ → Option ClientStep
left_with objects reply = Some (state_with objects, reply)

abbrev pub step_of : List (Option Object) → List ℕ → Option ClientStep
step_of objects command = client_step 0 (state_with objects) command Nothing

-- ReadPublic of an object
abbrev pub read_public : ℕ → List ℕ
read_public handle = frame 0x8001 CC_READ_PUBLIC (u32 handle)

-- whether the reply of ReadPublic begins with the public area of this object
abbrev pub begins_with : List ℕ → List ℕ → Bool
begins_with front bytes = bytes_eq (take (length front) bytes) front

abbrev pub tells_public : Object → Option ClientStep → Bool
tells_public o None = false
tells_public o (Some step) = begins_with (sized_bytes (public_bytes o.public)) (drop 10 step.1)

-- two objects, a key and sealed bytes, and a table that has them around a free number
abbrev pub a_key : Object
a_key = key_with 0x00040072

abbrev pub three_places : List (Option Object)
three_places = Some a_key ∷ None ∷ Some sealed ∷ []

-- so many objects
abbrev pub many_objects : ℕ → List (Option Object)
many_objects count = replicate count (Some sealed)

-- two open clients with one handle for two objects
abbrev pub two_tables : World
two_tables = world_with (zero_persist 0) 2
    (record { number = 0; objects = Some a_key ∷ [] } ∷ record { number = 1; objects = Some sealed ∷ [] } ∷ [])

-- the same after the second client's object is gone
abbrev pub one_table : World
one_table = world_with (zero_persist 0) 2
    (record { number = 0; objects = Some a_key ∷ [] } ∷ record { number = 1; objects = None ∷ [] } ∷ [])

-- whether a step left this world, and its reply begins with the public area of this object
abbrev pub world_tells : Object → Option (World × List ℕ) → Bool
world_tells o None = false
world_tells o (Some step) = begins_with (sized_bytes (public_bytes o.public)) (drop 10 step.1)

-- CreatePrimary of an HMAC key
abbrev pub create_key : List ℕ
create_key = frame 0x8002 CC_CREATE_PRIMARY (u32 RH_OWNER ++ area (plain_auth RS_PW) ++ template no_secret hmac_key [] no_pcrs)

-- ---- sessions

-- StartAuthSession with a nonceCaller of 32 zeros, of this session type
abbrev pub start_session : ℕ → List ℕ
start_session kind =
    frame 0x8001 CC_START_AUTH_SESSION (
    u32 RH_NULL ++ u32 RH_NULL ++ 0 ∷ 32 ∷ replicate 32 0 ++ 0 ∷ 0 ∷ kind ∷ 0 ∷ 0x10 ∷ 0 ∷ 0x0b ∷ []
    )

-- the first 32 bytes of the zero seed's random stream
abbrev pub first_nonce : List ℕ
first_nonce =
    0x76 ∷ 0xb8 ∷ 0xe0 ∷ 0xad ∷ 0xa0 ∷ 0xf1 ∷ 0x3d ∷ 0x90 ∷ 0x40 ∷ 0x5d ∷ 0x6a ∷ 0xe5 ∷ 0x53 ∷ 0x86 ∷ 0xbd ∷ 0x28
    ∷ 0xbd ∷ 0xd2 ∷ 0x19 ∷ 0xb8 ∷ 0xa0 ∷ 0x8d ∷ 0xed ∷ 0x1a ∷ 0xa8 ∷ 0x36 ∷ 0xef ∷ 0xcc ∷ 0x8b ∷ 0x77 ∷ 0x0d ∷ 0xc7 ∷ []

-- the reply with this handle and this nonce
abbrev pub started_reply : ℕ → List ℕ
started_reply handle = frame 0x8001 0 (u32 handle ++ 0 ∷ 32 ∷ first_nonce)

-- PolicyGetDigest
abbrev pub get_digest : ℕ → List ℕ
get_digest handle = frame 0x8001 CC_POLICY_GET_DIGEST (u32 handle)

-- a policy session as it begins, with that nonce, of this client
abbrev pub begun_policy : ℕ → Owned
begun_policy client = record { client = Some client; octet = 3; session = initial_session kinds.Policy first_nonce; handed = None }

abbrev pub begun_hmac : ℕ → Owned
begun_hmac client = record { client = Some client; octet = 2; session = initial_session kinds.Hmac first_nonce; handed = None }

-- the reply with a digest of zeros
abbrev pub digest_reply : List ℕ
digest_reply = frame 0x8001 0 (0 ∷ 32 ∷ replicate 32 0)

-- so many numbers are the second client's, and the others unused
abbrev pub taken_numbers : ℕ → List (Option Owned)
taken_numbers count = replicate count (Some (begun_policy 1)) ++ replicate (64 - count) None

-- a world of two open clients without objects, with these sessions
abbrev pub world_of_sessions : ℕ → List (Option Owned) → World
world_of_sessions place sessions = record {
  persist = zero_persist place;
  most = 64;
  opened = 2;
  clients = record { number = 0; objects = [] } ∷ record { number = 1; objects = [] } ∷ [];
  sessions = sessions;
  left = [];
  object_sequence = 0;
  session_sequence = 0;
}

-- the same over a device of 16 sessions
abbrev pub of_16_sessions : List (Option Owned) → World
of_16_sessions sessions = record (world_of_sessions 0 sessions) { most = 16 }

-- ---- contexts

-- the context of the first HMAC session of the zero seed, as the first one of a session
abbrev pub first_context : List ℕ
first_context =
    bytes_of 128 0x00000000000000000200000040000007006e0020ea2c5c9b8e2991ca7e884196561af8e2cd0d2cb99f33e11846218def32c10d7bdfee248faa5a77e52b3d1601f717c6ca873228bb615f6e90fb95d55f63d33e990edada52fa7f68a90ef4cbc92078eeb6d39d7a923844efafd442e5fc8634cae4cb9a852bb5d78a175277cbca

-- and under another sequence
abbrev pub context_under : ℕ → List ℕ
context_under sequence = session_context (replicate 32 0) 0x02000000 sequence (begun_hmac 0).session

-- ContextSave of a handle, and ContextLoad of these bytes
abbrev pub save : ℕ → List ℕ
save handle = frame 0x8001 CC_CONTEXT_SAVE (u32 handle)

abbrev pub load : List ℕ → List ℕ
load context = frame 0x8001 CC_CONTEXT_LOAD context

-- that session of a client, in use or saved
abbrev pub first_session : ℕ → Option (List ℕ) → List (Option Owned)
first_session client handed = set no_sessions 0 (Some (record (begun_hmac client) { handed = handed }))

-- such a world of two clients, in which contexts of sessions were handed out below this sequence
abbrev pub world_handed : ℕ → Option (List ℕ) → World
world_handed sequence handed =
    record (world_of_sessions 0 (first_session 0 handed)) { session_sequence = sequence }

-- ---- sessions that were left

-- the first three clients, all open
abbrev pub three_clients : List Client
three_clients = new_client 0 ∷ new_client 1 ∷ new_client 2 ∷ []

-- a world of these clients, in which one context of a session was handed out at most: below this sequence, and with these sessions
abbrev pub world_among : List Client → ℕ → List (Option Owned) → World
world_among clients sequence sessions =
    record (world_of_sessions 0 sessions) { opened = 3; clients = clients; session_sequence = sequence }

-- the first of them has closed, and has left its session, for which the first context was handed out
abbrev pub world_left : World
world_left =
    record (world_among (drop 1 three_clients) 1 (
    set no_sessions 0 (Some (record (begun_hmac 0) { client = None; handed = Some first_context }))
    )) { left = 0 ∷ [] }

-- what is read of the context of a session under this number, before it is compared with the one that was handed out
abbrev pub short_context : ℕ → List ℕ
short_context number = u32 0 ++ u32 number ++ u32 (0x02000000 + number) ++ u32 RH_OWNER ++ 0 ∷ 0 ∷ []

-- so many sessions from this number on, all saved by this client or left, with such a context each
abbrev pub saved_from : Option ℕ → ℕ → ℕ → List (Option Owned)
saved_from client first count =
    map (λ number. Some (record (begun_hmac 0) { client = client; handed = Some (short_context number) })) (
    range_with_len first count
    )

abbrev pub saved_alone : Option ℕ → ℕ → ℕ → List (Option Owned)
saved_alone client first count =
    replicate first None ++ saved_from client first count ++ replicate (64 - first - count) None

-- the first client of such a world has closed, and so many sessions from this number on are left
abbrev pub first_closed : World → ℕ → ℕ → World
first_closed world first count = record world {
  clients = new_client 1 ∷ [];
  sessions = saved_alone None first count;
  left = range_with_len first count;
}

-- a world in which the first client saved nine sessions, and the same after it has closed
abbrev pub nine_saved : World
nine_saved = world_of_sessions 0 (saved_alone (Some 0) 0 9)

abbrev pub nine_left : World
nine_left = first_closed nine_saved 1 8

-- the reply of a step
abbrev pub reply_in : Option (World × List ℕ) → List ℕ
reply_in None = []
reply_in (Some step) = step.1

-- the reply with a handle
abbrev pub handle_reply : ℕ → List ℕ
handle_reply handle = frame 0x8001 0 (u32 handle)

-- GetCapability of a list (Part 2, "TPM_CAP"), from this property on, and its reply of one number, or of one pair
abbrev pub ask : ℕ → ℕ → ℕ → List ℕ
ask capability property count = frame 0x8001 CC_GET_CAPABILITY (u32 capability ++ u32 property ++ u32 count)

abbrev pub told_list : ℕ → ℕ → ℕ → List ℕ → List ℕ
told_list more capability count items = frame 0x8001 0 (more ∷ u32 capability ++ u32 count ++ items)
