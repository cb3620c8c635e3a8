-- How a device is asked for its numbers, and which of them no broker can serve (Part 2, "TPM_PT").
use Rattle.std.specs.Prelude.{◌≡◌, ◌<◌, ℕ, ◌^◌, ◌++◌, ◌==◌, ◌||◌, ◌&&◌, not, nat_lt, Bool, true, false, List, [], ◌∷◌, length, get_or}
use Rattle.std.specs.Int.{w32, to_be_bytes}
use Rattle.tab_spec.specs.declared.numbers.Numbers.{Numbers}
use Rattle.tab_spec.specs.declared.TheConstants.{CC_GET_CAPABILITY, CONTEXT_GAP, LOADED_SESSIONS, OBJECT_SLOTS, SESSION_NUMBERS}
use Rattle.device_spec.specs.declared.TheConstants.{PT_ACTIVE_SESSIONS_MAX, PT_CONTEXT_GAP_MAX, PT_HR_LOADED_MIN, PT_HR_TRANSIENT_MIN}
use Rattle.device_spec.specs.ContextCommands.{command_bytes}

-- GetCapability of this one property (Part 3, "TPM2_GetCapability"; Part 2, "TPM_CAP")
abbrev pub number_command : ℕ → List ℕ
number_command property = command_bytes CC_GET_CAPABILITY (to_be_bytes w32 6 ++ to_be_bytes w32 property ++ to_be_bytes w32 1)

-- the properties that are a device's numbers, in the order in which they are asked for, and the values of these
abbrev pub number_properties : List ℕ
number_properties = PT_HR_TRANSIENT_MIN ∷ PT_HR_LOADED_MIN ∷ PT_ACTIVE_SESSIONS_MAX ∷ PT_CONTEXT_GAP_MAX ∷ []

abbrev pub values_of : Numbers → List ℕ
values_of numbers = numbers.slots ∷ numbers.loaded ∷ numbers.active ∷ numbers.gap ∷ []

-- each of them fits into a UINT32 of a response
pub record FitWords (numbers : Numbers) : Type 0 where
  pub slots : numbers.slots < 2 ^ 32
  pub loaded : numbers.loaded < 2 ^ 32
  pub active : numbers.active < 2 ^ 32
  pub gap : numbers.gap < 2 ^ 32

-- whether the next value is out of range, behind the values that came before it
abbrev pub is_out : (before : List ℕ) → ℕ → Bool
is_out [] slots = nat_lt slots OBJECT_SLOTS || nat_lt 254 slots
is_out (slots ∷ []) loaded = nat_lt loaded LOADED_SESSIONS || nat_lt SESSION_NUMBERS loaded
is_out (slots ∷ loaded ∷ []) active = nat_lt active loaded || nat_lt SESSION_NUMBERS active
is_out (slots ∷ loaded ∷ active ∷ []) gap = nat_lt gap CONTEXT_GAP
is_out (slots ∷ loaded ∷ active ∷ gap ∷ more) value = false

-- whether none of these is, behind those before them
abbrev pub are_in : (before values : List ℕ) → Bool
are_in before [] = true
are_in before (value ∷ values) = not (is_out before value) && are_in (before ++ value ∷ []) values

-- the property has a value that is out of range behind some values that are in range
pub record IsOutOfRange (property value : ℕ) : Type 0 where
  pub before : List ℕ
  pub are_in : are_in [] before ≡ true
  pub out : is_out before value ≡ true
  pub property_is : property ≡ get_or number_properties (length before) 0
