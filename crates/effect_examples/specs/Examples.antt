-- Worked examples, which the examples in src/ cite: a device whose seed is zero, and commands and replies by
-- their bytes.
use Rattle.std.specs.Prelude.{ℕ, true, false, List, [], ◌∷◌, replicate, None, Result}
use Rattle.tab_spec.specs.declared.numbers.Numbers.{Numbers}
use Rattle.tab_spec.specs.Numbers.{profile_numbers}
use Rattle.effect_spec.specs.Capabilities.{Listed, capability_of, device_limits}
use Rattle.tab_spec.specs.Object.{Object}
use Rattle.tab_spec.specs.Commands.{all_commands}
use Rattle.tab_spec.specs.Persist.{fresh_persist}
use Rattle.effect_spec.specs.Objects.{primary}
use Rattle.tab_examples.specs.Examples.{storage_parent, with_indexes}

-- ---- objects

-- of a device whose seed is zero: a storage parent with the auth value 1
abbrev pub storage_primary : Object
storage_primary = primary (fresh_persist (replicate 32 0)) (record {
  sensitive = record { auth = 1 ∷ []; content = [] };
  public = storage_parent;
  outside = [];
  selection = record { bits = None };
})

-- ---- capabilities

-- a device with room for more than one of this profile
abbrev pub another_device : Numbers
another_device = record { slots = 254; loaded = 6; active = 16; gap = 400 }

-- GetCapability of a device that holds nothing, and a session in use beside a saved one
abbrev pub empty_capability : List ℕ → Result (List ℕ) ℕ
empty_capability params = capability_of (device_limits profile_numbers) all_commands (with_indexes []) [] [] 0 params

abbrev pub two_sessions : List Listed
two_sessions = record { handle = 0x02000000; in_use = true } ∷ record { handle = 0x03000001; in_use = false } ∷ []
