-- What a device may hold before a broker begins: objects and sessions that an earlier one left.
use Rattle.std.specs.Prelude.{ℕ, ◌++◌, Bool, true, false, List, map, not, if◌then◌else◌}
use Rattle.std.specs.List.{filter}
use Rattle.std.specs.Int.{w32, to_be_bytes}
use Rattle.tab_spec.specs.declared.TheConstants.{CC_GET_CAPABILITY, TRANSIENT_FIRST}
use Rattle.effect_spec.specs.Capabilities.{Listed, most_items, transient_from}
use Rattle.device_spec.specs.ContextCommands.{command_bytes}
use Rattle.device_spec.specs.Slots.{SlotState, empty_slots, listed_from, no_sessions}

-- GetCapability of the handles from this one on, of as many as a list may have (Part 3; Part 2, "TPM_CAP_HANDLES")
abbrev pub handles_command : ℕ → List ℕ
handles_command property =
    command_bytes CC_GET_CAPABILITY (to_be_bytes w32 1 ++ to_be_bytes w32 property ++ to_be_bytes w32 most_items)

-- the handles of the objects in the slots
abbrev pub object_handles : SlotState → List ℕ
object_handles slots = transient_from TRANSIENT_FIRST slots.slots

-- the handles of the sessions that are loaded, or saved
abbrev pub handles_of_sessions : Bool → List Listed → List ℕ
handles_of_sessions in_use sessions =
    map (λ (s : Listed). s.handle) (filter (λ (s : Listed). if in_use then s.in_use else not s.in_use) sessions)

abbrev pub session_handles : Bool → SlotState → List ℕ
session_handles in_use slots = handles_of_sessions in_use (listed_from 0 slots.sessions)

-- all of them, in the order in which a device lists them: objects, loaded sessions, saved ones
abbrev pub remains : SlotState → List ℕ
remains slots = object_handles slots ++ session_handles true slots ++ session_handles false slots

-- with nothing in its slots, and no active session
abbrev pub emptied : SlotState → SlotState
emptied slots = record slots { slots = empty_slots slots.numbers; sessions = no_sessions }
