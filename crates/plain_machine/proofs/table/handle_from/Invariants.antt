use Rattle.std.proofs.Common.{◌≡◌, ◌+◌, drop}
use Rattle.tab_spec.specs.declared.TheConstants.{TRANSIENT_FIRST}
use Rattle.effect_spec.specs.Capabilities.{transient_from}
use Rattle.fx_capability.specs.Lists.{number_from}
use Rattle.plain_machine.specs.Views.{objects_of}
use Rattle.plain_machine.proofs.table.handle_from.Given as goal

-- no place so far has such an object
abbrev pub invariant-loop-number : goal.invariant-loop-number
invariant-loop-number l =
    number_from l.least (transient_from (TRANSIENT_FIRST + l.number) (drop l.number (objects_of l.places)))
    ≡ number_from l.least (transient_from TRANSIENT_FIRST (objects_of l.places))
