use Rattle.std.proofs.Common.{◌≡◌, ◌+◌, drop}
use Rattle.tab_spec.specs.declared.TheConstants.{TRANSIENT_FIRST}
use Rattle.fx_capability.specs.Lists.{number_from}
use Rattle.effect_spec.specs.Capabilities.{transient_from}
use Rattle.device_slots.specs.Views.{slots_of}
use Rattle.device_slots.proofs.slots.object_from.Given as goal

-- no slot so far has such an object
abbrev pub invariant-loop-slot : goal.invariant-loop-slot
invariant-loop-slot l =
    number_from l.least (transient_from (TRANSIENT_FIRST + l.slot) (drop l.slot (slots_of l.slots))) ≡ number_from l.least (transient_from TRANSIENT_FIRST (slots_of l.slots))
