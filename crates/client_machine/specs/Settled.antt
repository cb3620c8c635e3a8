-- The device, and the objects and the sessions beside it, are settled between two calls.
use Rattle.std.specs.Prelude.{◌≤◌, ℕ, ◌+◌, List, [], length, map, Option, Some, None, IfSome}
use Rattle.std.specs.List.{count_by}
use Rattle.tab_spec.specs.Session.{Session}
use Rattle.tab_spec.specs.Shape.{octet_of}
use Rattle.device_spec.specs.Slots.{SlotState}
use Rattle.object_swap.specs.Items.{ObjectsStand}
use Rattle.session_swap.specs.Items as sessions
use Rattle.session_swap.specs.Items.{HasGapRoom, SessionsStand, item_session}
use Rattle.world_spec.specs.World.{Owned}
use Rattle.client_machine.specs.declared.held.Held.{Held}

-- the most contexts of objects, and of sessions, that one call makes the device number
abbrev pub most_contexts : ℕ
most_contexts = 200

-- for so many contexts of either sort the device has numbers left before a call, and before each swap of it: far more than are made
abbrev pub call_contexts : ℕ
call_contexts = 2000

abbrev pub swap_contexts : ℕ
swap_contexts = 1000

-- between two calls each object stands in a slot or in a context, and each session in a place or in a context. Each slot that is taken
-- is that of one object, a client's or an orphan, and each session number that is taken that of one session. The gap leaves room for what
-- the next call saves
pub record IsSettled (slots : SlotState) (held : Held) : Type 0 where
  pub objects : ObjectsStand slots held.objects.items held.objects.left
  pub sessions : SessionsStand slots held.sessions []
  pub gap : HasGapRoom (Some slots)

-- the same, if the device shows its state
abbrev pub Settled : Option SlotState → Held → Type 0
Settled state held = IfSome state (λ slots. IsSettled slots held)

-- ---- orphans

-- how many objects, which are in slots, and how many sessions are orphans
abbrev pub orphan_count : Held → ℕ
orphan_count held = length held.objects.left + count_by sessions.is_orphan held.sessions.items

-- ---- the sessions of the world

abbrev pub owned_as : Option ℕ → ℕ → Option (List ℕ) → Option Session → Option Owned
owned_as client handle handed None = None
owned_as client handle handed (Some s) = Some (record { client = client; octet = octet_of handle; session = s; handed = handed })

-- an orphan has no client, and nothing was handed out for it: the world doesn't have it
abbrev pub owned_by_client : Option ℕ → ℕ → Option (List ℕ) → Option Session → Option Owned
owned_by_client None handle None found = None
owned_by_client None handle (Some context) found = owned_as None handle (Some context) found
owned_by_client (Some client) handle handed found = owned_as (Some client) handle handed found

-- the session of an item, its client, and whether it is in use, in the state of a device; `None`
-- for an orphan
abbrev pub owned_in : SlotState → Option sessions.Item → Option Owned
owned_in slots None = None
owned_in slots (Some item) = owned_by_client item.client item.handle item.handed (item_session slots (Some item))

abbrev pub sessions_in : SlotState → List (Option sessions.Item) → List (Option Owned)
sessions_in slots items = map (owned_in slots) items

-- ---- the sequences of contexts

-- the least sequences under which contexts of objects, and of sessions, may be handed out
pub record Sequences : Type 0 where
  pub object : ℕ
  pub session : ℕ

-- neither is above the number that the device gives to the next context of its sort
pub record AreBelow (least : Sequences) (slots : SlotState) : Type 0 where
  pub of_objects : least.object ≤ slots.object_counter
  pub of_sessions : least.session ≤ slots.counter
