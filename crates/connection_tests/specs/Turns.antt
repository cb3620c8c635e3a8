-- A history of three clients, for the worked examples of turns.
use Rattle.std.specs.Prelude.{ℕ, List, [], ◌∷◌, ◌++◌, Option}
use Rattle.tab_spec.specs.declared.contexts.TheConstants.{PROFILE_CONTEXTS}
use Rattle.history_spec.specs.declared.Pick.TheVariants.{Nothing}
use Rattle.history_spec.specs.Entry.{Entry, close_entry, command_entry, fault_entry, open_entry}
use Rattle.broker_lock.specs.Known.{Fixed, Origin}

-- a command of one byte, with a reply of one
abbrev pub short_entry : ℕ → ℕ → Entry
short_entry client number = command_entry client number Nothing (5 ∷ []) (6 ∷ [])

-- clients 0 and 1 are opened and make a command each, and client 1 is closed
abbrev pub two_clients : List Entry
two_clients = open_entry 0 ∷ open_entry 1 ∷ short_entry 1 1 ∷ short_entry 0 1 ∷ close_entry 1 ∷ []

abbrev pub three_clients : List Entry
three_clients = two_clients ++ open_entry 2 ∷ []

-- a command of one byte that failed at this fault count
abbrev pub failed_entry : ℕ → Entry
failed_entry faults = fault_entry 0 2 faults (5 ∷ []) (0x80 ∷ 0x01 ∷ 0 ∷ 0 ∷ 0 ∷ 0x0a ∷ 0 ∷ 0x0b ∷ 0 ∷ 0x02 ∷ [])

-- what the history stands on, over a device that had counted three failures
abbrev pub with_limit : Option Origin → ℕ → Fixed
with_limit base limit = record { base = base; limit = limit; began = 3; contexts = PROFILE_CONTEXTS }
