-- Items, sessions and tables that the worked examples speak of.
use Rattle.std.specs.Prelude.{ℕ, ◌-◌, List, [], ◌∷◌, ◌++◌, length, replicate, Option, Some, None}
use Rattle.tab_spec.specs.declared.SessionKind.TheVariants as kinds
use Rattle.tab_spec.specs.Numbers.{profile_numbers}
use Rattle.device_examples.specs.Examples.{device_after}
use Rattle.device_spec.specs.Slots.{SlotState, loaded}
use Rattle.effect_spec.specs.Sessions.{initial_session}
use Rattle.object_swap.specs.Items.{Item}
use Rattle.session_swap.specs.Items as sessions
use Rattle.tab_examples.specs.Examples.{u32}
use Rattle.tab_spec.specs.declared.contexts.TheConstants.{PROFILE_CONTEXTS}
use Rattle.world_examples.specs.Examples.{begun_policy, first_context, first_nonce, world_of_sessions}
use Rattle.world_spec.specs.World.{World}
use Rattle.client_machine.specs.declared.held.Held.{Held}

-- the client 0 has an object in a context, and one in the slot 1; the client 1 has one in the slot 0
abbrev pub three_items : List Item
three_items = record { client = Some 0; slot = None; blob = Some [] } ∷ record { client = Some 0; slot = Some 1; blob = None }
    ∷ record { client = Some 1; slot = Some 0; blob = Some [] } ∷ []

-- the table of the client 0: its handles are 0x80000000 and 0x80000002
abbrev pub first_table : List (Option ℕ)
first_table = Some 1 ∷ None ∷ Some 0 ∷ []

-- that of the client 1
abbrev pub second_table : List (Option ℕ)
second_table = Some 2 ∷ []

-- an orphan, which is loaded, under the number 1
abbrev pub nobodys_session : sessions.Item
nobodys_session = record { client = None; handle = 0x02000001; saved = None; handed = None }

-- the number 0 is that of a loaded session of the client 0, and the number 1 that of an orphan
abbrev pub two_sessions : List (Option sessions.Item)
two_sessions = Some (record { client = Some 0; handle = 0x03000000; saved = None; handed = None })
    ∷ Some nobodys_session ∷ []

-- these objects, and these sessions under the first numbers; what lists the clients have doesn't count
abbrev pub held_with : List Item → List (Option sessions.Item) → Held
held_with items first = record {
  objects = record { items = items; slots = 3; order = []; owners = []; left = []; contexts = PROFILE_CONTEXTS };
  sessions = record {
    numbers = profile_numbers;
    items = first ++ replicate (64 - length first) None;
    next = 0;
    order = [];
    saved = [];
    left = [];
    contexts = PROFILE_CONTEXTS;
  };
}

-- the same with an orphan in the slot 2
abbrev pub held_beside : List Item → List (Option sessions.Item) → Held
held_beside items first =
    let held = held_with items first in
    record held { objects = record held.objects { left = 2 ∷ [] } }

-- a device with those two sessions, and the world of the one that is a client's
abbrev pub two_session_device : SlotState
two_session_device = device_after 5 (loaded 3 (initial_session kinds.Policy first_nonce) ∷ loaded 2 (initial_session kinds.Hmac first_nonce) ∷ []) 0

abbrev pub one_session_world : World
one_session_world = world_of_sessions 5 (Some (begun_policy 0) ∷ replicate 63 None)

-- the client 0 saved its HMAC session of the number 0, for which that context was handed out; since then it was saved again
abbrev pub handed_session : sessions.Item
handed_session =
    record { client = Some 0; handle = 0x02000000; saved = Some (record { number = 5; context = [] }); handed = Some first_context }

-- and it uses a policy session of the number 2
abbrev pub handed_sessions : List (Option sessions.Item)
handed_sessions = Some handed_session ∷ Some nobodys_session
    ∷ Some (record { client = Some 0; handle = 0x03000002; saved = None; handed = None }) ∷ []

-- it closed, and left the one that it had saved
abbrev pub left_sessions : List (Option sessions.Item)
left_sessions = Some (record handed_session { client = None }) ∷ Some nobodys_session ∷ []

-- the parameters of GetCapability
abbrev pub asked : ℕ → ℕ → ℕ → List ℕ
asked capability property count = u32 capability ++ u32 property ++ u32 count
