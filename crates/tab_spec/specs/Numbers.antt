-- How much of each a device has at once (Part 2, "TPM_PT").
use Rattle.std.specs.Prelude.{◌≤◌, ℕ, ◌/◌, min}
use Rattle.tab_spec.specs.declared.numbers.Numbers.{Numbers}
use Rattle.tab_spec.specs.declared.TheConstants.{ACTIVE_SESSIONS, CONTEXT_GAP, LOADED_SESSIONS, OBJECT_SLOTS, SESSION_NUMBERS}

-- those of a device of this project's profile
abbrev pub profile_numbers : Numbers
profile_numbers = record { slots = OBJECT_SLOTS; loaded = LOADED_SESSIONS; active = ACTIVE_SESSIONS; gap = CONTEXT_GAP }

-- those of a device that a broker can serve: what one command needs has room, and each session has a number
pub record AreInRange (numbers : Numbers) : Type 0 where
  pub slots_least : OBJECT_SLOTS ≤ numbers.slots
  pub slots_most : numbers.slots ≤ 254
  pub loaded_least : LOADED_SESSIONS ≤ numbers.loaded
  pub loaded_most : numbers.loaded ≤ numbers.active
  pub active_most : numbers.active ≤ SESSION_NUMBERS
  pub gap_least : CONTEXT_GAP ≤ numbers.gap

-- how many sessions may be left by their clients at once, over a device that may have so many active
abbrev pub leave_limit : ℕ → ℕ
leave_limit active = min 8 (active / 4)
