-- What a device lists, as it answers when it is asked.
use Rattle.std.specs.Prelude.{ℕ, ◌+◌, List, take, drop}
use Rattle.std.specs.Int.{w32, from_be_bytes}
use Rattle.device_spec.specs.Slots.{SlotState, slot_step}
use Rattle.fault_runs.specs.declared.held.TheConstants.{OBJECTS, LOADED, SAVED, COUNT_PLACE}

-- how many handles a list says that it has
abbrev pub count_in : List ℕ → ℕ
count_in reply = from_be_bytes w32 (take 4 (drop COUNT_PLACE reply))

-- how many handles the list has that this command asks for
abbrev pub listed : SlotState → List ℕ → ℕ
listed state command = count_in (slot_step state command).1

-- the state after it
abbrev pub after : SlotState → List ℕ → SlotState
after state command = (slot_step state command).0

-- the objects, the loaded sessions and the saved ones, asked for in this order
abbrev pub count_held : SlotState → ℕ
count_held state =
    listed state OBJECTS + listed (after state OBJECTS) LOADED + listed (after (after state OBJECTS) LOADED) SAVED
