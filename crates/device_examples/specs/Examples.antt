-- Worked examples, which the examples in src/ cite: a device whose seed is zero, and commands and replies by
-- their bytes.
use Rattle.std.specs.Prelude.{ℕ, ◌+◌, ◌-◌, Bool, true, false, List, [], ◌∷◌, ◌++◌, length, map, replicate, Option, Some, None, Result}
use Rattle.std.specs.List.{filter, range_with_len}
use Rattle.tab_spec.specs.declared.Auths.{Auths}
use Rattle.tab_spec.specs.declared.Kind.{Kind}
use Rattle.tab_spec.specs.declared.Kind.TheVariants.{Entity, Policy}
use Rattle.tab_spec.specs.declared.Shape.{Shape}
use Rattle.tab_spec.specs.declared.numbers.Numbers.{Numbers}
use Rattle.tab_spec.specs.declared.TheConstants.{CC_CONTEXT_LOAD, CC_GET_CAPABILITY, CC_POLICY_SECRET, CC_START_AUTH_SESSION, RH_NULL, RH_OWNER}
use Rattle.tab_spec.specs.Commands.{command_row}
use Rattle.tab_spec.specs.Numbers.{profile_numbers}
use Rattle.tab_spec.specs.Session.{Session}
use Rattle.effect_spec.specs.Capabilities.{joined_items}
use Rattle.effect_spec.specs.Contexts.{Context}
use Rattle.effect_spec.specs.Operands.{Operand, operand_by, plain, operand_at, object_in, session_named}
use Rattle.tab_spec.specs.NvIndex.{NvIndex}
use Rattle.tab_spec.specs.Object.{Object}
use Rattle.tab_spec.specs.Persist.{Persist, fresh_persist}
use Rattle.device_spec.specs.Slots.{SessionPlace, inactive, loaded, saved, SlotState, Step, empty_slots, in_slot, loaded_session, new_slots, room_for, session_at, session_loaded, sessions_left}
use Rattle.device_spec.specs.Answers.{takes}
use Rattle.tab_examples.specs.Examples.{bytes_of, extended_persist, frame, policy_session, save, sealed, u32, with_indexes}
use Rattle.tab_examples.specs.SessionExamples.{hmac_session, next_32, session_auth}
use Rattle.tab_spec.specs.declared.contexts.TheConstants.{PROFILE_CONTEXTS}
use Rattle.tab_spec.specs.declared.contexts.ContextLimits.{ContextLimits}
use Rattle.effect_examples.specs.Examples.{another_device}
use Rattle.effect_examples.specs.SessionExamples.{read_by_session, start_parameter_bytes, unsealed_by_policy, usual_start_parameters}

-- before its first Startup
abbrev pub new_device : SlotState
new_device = new_slots profile_numbers (fresh_persist (replicate 32 0))

-- started, and keeping this
abbrev pub started : Persist → SlotState
started persist = record (new_slots profile_numbers persist) { started = true }

-- started, and so many words into its random stream
abbrev pub device_at : ℕ → SlotState
device_at place = started (record (fresh_persist (replicate 32 0)) { place = place })

-- started, and keeping that
abbrev pub extended_device : SlotState
extended_device = started extended_persist

-- ---- commands by their parts

abbrev pub device_with : List NvIndex → SlotState
device_with nv = started (with_indexes nv)

-- ---- objects

-- started, with this in its slots, and this number for the next context
abbrev pub device_holding : Option Object → Option Object → Option Object → ℕ → SlotState
device_holding first second third counter = record (started (fresh_persist (replicate 32 0))) { slots = first ∷ second ∷ third ∷ []; object_counter = counter }

-- ---- sessions

-- what the 64 session numbers are, where those after the first ones are unused
abbrev pub places_of : List SessionPlace → List SessionPlace
places_of first = first ++ replicate (64 - length first) inactive

-- started, so many words into its random stream, with these session numbers, and this number for
-- the next context of a session
abbrev pub device_after : ℕ → List SessionPlace → ℕ → SlotState
device_after place first counter =
    record (device_at place) { sessions = places_of first; counter = counter }

abbrev pub device_in : List SessionPlace → ℕ → SlotState
device_in first counter = device_after 0 first counter

-- one saved session, under this number and with this octet
abbrev pub one_saved : ℕ → ℕ → SlotState
one_saved octet number = device_in (saved octet number ∷ []) (number + 1)

-- so many loaded sessions and then so many saved ones, whose contexts have the numbers from 0
abbrev pub many : ℕ → ℕ → List SessionPlace
many in_use away =
    replicate in_use (loaded 0x02 hmac_session)
    ++ map (λ number. saved 0x03 number) (range_with_len 0 away)

-- the same, on a device that saved no other session
abbrev pub crowded : ℕ → ℕ → SlotState
crowded in_use away = device_in (many in_use away) away

-- the last number alone is that of a session
abbrev pub last_place : SessionPlace → SlotState
last_place place = device_in (replicate 63 inactive ++ place ∷ []) 6

-- the first two sessions that a device of zero seed starts with a nonceCaller of 32 bytes: an HMAC
-- session, and a policy session
abbrev pub first_session : Session
first_session = record hmac_session { nonce = next_32 }

abbrev pub second_nonce : List ℕ
second_nonce = bytes_of 32 0xda41597c5157488d7724e03fb8d84a376a43b8f41518a11cc387b669b2ee6586

abbrev pub second_session : Session
second_session = record policy_session { nonce = second_nonce }

abbrev pub first_in : SessionPlace
first_in = loaded 0x02 first_session

abbrev pub second_in : SessionPlace
second_in = loaded 0x03 second_session

-- both and a saved one
abbrev pub three_sessions : SlotState
three_sessions = device_in (first_in ∷ second_in ∷ saved 0x03 0 ∷ []) 1

-- the session that an authorization of this handle names, and what a handle of this kind stands for
abbrev pub named_on : SlotState → ℕ → Option (ℕ × Session)
named_on slots handle = session_named (loaded_session slots) handle

abbrev pub operand_on : SlotState → Kind → ℕ → Operand
operand_on slots kind handle = operand_by (in_slot slots) (loaded_session slots) kind handle

-- three saved sessions after a loaded one: the oldest context has the number 5
abbrev pub saved_from_5 : ℕ → SlotState
saved_from_5 counter =
    device_in (first_in ∷ saved 0x02 7 ∷ saved 0x03 5 ∷ saved 0x02 6 ∷ []) counter

-- StartAuthSession with a nonceCaller of 32 zeros, by the session type, and its response
abbrev pub start_session : ℕ → List ℕ
start_session kind =
    bytes_of 20 0x80010000003b0000017640000007400000070020 ++ replicate 32 0
    ++ 0 ∷ 0 ∷ kind ∷ 0 ∷ 0x10 ∷ 0 ∷ 0x0b ∷ []

abbrev pub start_reply : ℕ → List ℕ → List ℕ
start_reply handle nonce = bytes_of 10 0x80010000003000000000 ++ u32 handle ++ 0 ∷ 32 ∷ nonce

-- the code that refuses a session, where there is no room for it
abbrev pub no_room : ℕ → ℕ → Option ℕ
no_room in_use away =
    room_for (crowded in_use away) CC_START_AUTH_SESSION (start_parameter_bytes usual_start_parameters)

-- the same on a device of other numbers
abbrev pub room_of : Numbers → ℕ → ℕ → Option ℕ
room_of numbers in_use away =
    room_for (record (crowded in_use away) { numbers = numbers }) CC_START_AUTH_SESSION (start_parameter_bytes usual_start_parameters)

-- with room for more than one of this profile, and empty slots: 254 of them, 6 places, 16 sessions, a gap of 400
abbrev pub of_another : SlotState → SlotState
of_another slots = record slots { numbers = another_device; slots = empty_slots another_device }

-- more sessions than there are numbers for
abbrev pub many_sessions : Numbers
many_sessions = record profile_numbers { active = 65 }

-- a device of four slots, with this in the last one
abbrev pub four_slots : Option Object → SlotState
four_slots last = record (started (fresh_persist (replicate 32 0))) {
  numbers = record profile_numbers { slots = 4 };
  slots = Some sealed ∷ Some sealed ∷ Some sealed ∷ last ∷ [];
}

-- the first context of the first session, by what stands in place of its last byte, which is 0xca
abbrev pub first_context : ℕ → List ℕ
first_context last =
    bytes_of 32 0x00000000000000000200000040000007006e0020ea2c5c9b8e2991ca7e884196
    ++ bytes_of 32 0x561af8e2cd0d2cb99f33e11846218def32c10d7bdfee248faa5a77e52b3d1601
    ++ bytes_of 32 0xf717c6ca873228bb615f6e90fb95d55f63d33e990edada52fa7f68a90ef4cbc9
    ++ bytes_of 31 0x2078eeb6d39d7a923844efafd442e5fc8634cae4cb9a852bb5d78a175277cb
    ++ last ∷ []

-- the context of the second session, under the number 1
abbrev pub second_context : List ℕ
second_context =
    bytes_of 32 0x00000000000000010300000140000007006e00207bcee1a0c26549d36404c7bd
    ++ bytes_of 32 0xd65646eca20dc1ebd531f8e088a36725599cec6a7eff8fa916244990406b575d
    ++ bytes_of 32 0xd851379be2dcb540546276f4ef785ce680c27506b2b993b0bfaae9ba7f9c3a2d
    ++ bytes_of 32 0x3eced795f3328df3ab840b4cb9922fc1545b7ffdf608633959ca24fd751b8ff8

abbrev pub load_context : List ℕ → List ℕ
load_context context = frame 0x8001 CC_CONTEXT_LOAD context

-- a context by its handle and its number alone
abbrev pub context_under : ℕ → ℕ → Context
context_under handle number =
    record { sequence = number; saved_handle = handle; hierarchy = RH_NULL; blob = [] }

-- the session that a context of this handle and this number hides is loaded
abbrev pub load_under : SlotState → ℕ → ℕ → Result Step ℕ
load_under slots handle number =
    session_loaded slots (context_under handle number) (Some hmac_session)

-- the session of a handle where it is saved, by the first context with this last byte
abbrev pub found : SlotState → ℕ → ℕ → Option Session
found slots handle last = session_at slots handle (Some (first_context last))

-- GetCapability by its three parameters, and its response by moreData, the capability and the items
abbrev pub ask : ℕ → ℕ → ℕ → List ℕ
ask capability property count =
    frame 0x8001 CC_GET_CAPABILITY (u32 capability ++ u32 property ++ u32 count)

abbrev pub answer : ℕ → ℕ → List ℕ → List ℕ
answer more capability items = frame 0x8001 0 (more ∷ u32 capability ++ items)

-- PolicySecret of the owner for the session 0x03000001, authorized by the session 0x02000000
abbrev pub secret_shape : Shape
secret_shape = record {
  row = command_row CC_POLICY_SECRET Entity Policy 1 false;
  tag = 0x8002;
  handles = RH_OWNER ∷ 0x03000001 ∷ [];
  count = 2;
  rest = 18;
}

abbrev pub secret_auths : Auths
secret_auths = record { count = 1; auths = session_auth [] 1 [] ∷ []; params = 31 }

-- the second session after a command, and what its place is then
abbrev pub later_session : Session
later_session = record second_session { nonce = next_32 }

abbrev pub later_in : SessionPlace
later_in = loaded 0x03 later_session

-- what a command leaves of the three sessions, by its second operand, the session of its
-- authorization, and whether that one ends
abbrev pub left_by : Operand → Option (ℕ × Session) → Bool → List SessionPlace
left_by operand authorization ended =
    sessions_left three_sessions.sessions
    (record { handles = plain RH_OWNER ∷ operand ∷ []; session = authorization }) ended

-- the devices that another program ran read_by_session and unsealed_by_policy on, by what changes
abbrev pub reading_device : ℕ → SessionPlace → SlotState
reading_device place session =
    record (started (record read_by_session.persist { place = place })) {
      sessions = places_of (replicate 8 inactive ++ session ∷ []);
    }

abbrev pub unsealing_device : ℕ → Session → SlotState
unsealing_device place session =
    record (started (record unsealed_by_policy.persist { place = place })) {
      slots = None ∷ None ∷ object_in (operand_at unsealed_by_policy.operands 0) ∷ [];
      sessions = places_of (replicate 4 inactive ++ loaded 0x03 session ∷ []);
    }

-- ---- responses

-- CreatePrimary of a key without an auth value, as another program asked it of another device; the parameters of its response;
-- and its response, by the handle, the size that is told of these parameters, and what follows them
abbrev pub primary_asked : List ℕ
primary_asked =
    bytes_of 27 0x80020000003b000001314000000100000009400000090000010000
    ++ bytes_of 32 0x000600027077000000100008000b0004006000000005000b0000000000000000

abbrev pub primary_params : List ℕ
primary_params =
    bytes_of 32 0x00300008000b0004006000000005000b0020a2fe258a31605ade05bfd98f6ca5
    ++ bytes_of 32 0x9cc0d365d0704ec291805863301c90d611510037000000000020e3b0c44298fc
    ++ bytes_of 32 0x1c149afbf4c8996fb92427ae41e4649b934ca495991b7852b855010010000440
    ++ bytes_of 32 0x000001000440000001000000205da041bac0ee3135aebb0cadfba497c6a1877f
    ++ bytes_of 32 0xae832dd3d1f8f7a871b825e85480214000000100204695f1fbe6bd8e094884d3
    ++ bytes_of 32 0xe51016abef72ed8c9df184c6eb89ec89a284de38d10022000b5d9794485b7713
    ++ bytes_of 25 0x69e1ed3b2d226a6245097fd953d070848400685afdbb0610e1

abbrev pub primary_reply : ℕ → ℕ → List ℕ → List ℕ
primary_reply handle size auth = frame 0x8002 0 (u32 handle ++ u32 size ++ primary_params ++ auth)

-- the authorization of a response to a password
abbrev pub password_response_auth : List ℕ
password_response_auth = 0 ∷ 0 ∷ 1 ∷ 0 ∷ 0 ∷ []

-- of these codes those that a broker takes as the error to a command, where it keeps the context that the command loads, or not
abbrev pub codes_taken : Bool → List ℕ → List ℕ → List ℕ
codes_taken is_kept asked codes = filter (λ code. takes PROFILE_CONTEXTS is_kept false asked (frame 0x8001 code [])) codes

-- of these handles those that it takes of a response that has a handle and nothing else
abbrev pub handles_taken : List ℕ → List ℕ → List ℕ
handles_taken asked handles = filter (λ handle. takes PROFILE_CONTEXTS false false asked (frame 0x8001 0 (u32 handle))) handles

-- and of these handles those that it takes of a session that started
abbrev pub starts_taken : ℕ → List ℕ → List ℕ
starts_taken kind handles = filter (λ handle. takes PROFILE_CONTEXTS false false (start_session kind) (start_reply handle next_32)) handles

-- whether it takes a list of these handles, where those from this one on were asked for
abbrev pub lists_taken : ℕ → List ℕ → Bool
lists_taken property handles =
    takes PROFILE_CONTEXTS true true (ask 1 property 254) (answer 0 1 (u32 (length handles) ++ joined_items (map (λ handle. u32 handle) handles)))

-- objects in the first and the last slot, and a loaded session of each type and a saved one
abbrev pub left_behind : SlotState
left_behind = record three_sessions { slots = Some sealed ∷ None ∷ Some sealed ∷ [] }

-- whether it takes a context as that of a handle
abbrev pub saves : ContextLimits → ℕ → List ℕ → Bool
saves contexts handle context = takes contexts true true (save handle) (frame 0x8001 0 context)
