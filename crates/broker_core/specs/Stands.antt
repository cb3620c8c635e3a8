-- The broker's device, and the tables, the objects and the sessions beside it, stand for the world of its journal.
use Rattle.std.specs.Prelude.{◌≡◌, ◌≤◌, ℕ, ◌+◌, ◌*◌, ◌^◌, List, Option}
use Rattle.device_spec.specs.Slots.{SlotState}
use Rattle.world_spec.specs.World.{World, table_in}
use Rattle.client_machine.specs.declared.held.Held.{Held}
use Rattle.client_machine.specs.Settled.{AreBelow, IsSettled, Sequences, most_contexts, sessions_in}
use Rattle.client_machine.specs.Tables.{objects_in}
use Rattle.broker_core.specs.Tables.{table_of}

-- the least sequences under which a world may hand out contexts
abbrev pub sequences_of : World → Sequences
sequences_of world = record { object = world.object_sequence; session = world.session_sequence }

-- so many calls were entered
pub record Stands (world : World) (slots : SlotState) (tables : List (List (Option ℕ))) (held : Held) (entries : ℕ) : Type 0 where
  -- it keeps what the world keeps
  pub persist : slots.persist ≡ world.persist
  -- the world's limit of active sessions is the device's
  pub most : world.most ≡ slots.numbers.active
  pub settled : IsSettled slots held
  -- each client has the objects that it has in the world, under the same handles
  pub clients : (client : ℕ) → table_in world.clients client ≡ objects_in slots held.objects.items (table_of tables client)
  -- and each session number is in the world what it is here
  pub sessions : world.sessions ≡ sessions_in slots held.sessions.items
  -- those that clients left are the same, in the same order
  pub left : world.left ≡ held.sessions.left
  -- the next context that the device makes may be handed out
  pub handed : AreBelow (sequences_of world) slots
  -- the numbers of contexts don't come to their end
  pub object_counter : slots.object_counter ≤ 2 ^ 61 + most_contexts * entries
  pub counter : slots.counter ≤ 2 ^ 61 + most_contexts * entries
