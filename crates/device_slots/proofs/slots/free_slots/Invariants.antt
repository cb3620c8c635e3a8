use Rattle.std.proofs.Common.{◌≡◌, replicate}
use Rattle.std.specs.Prelude.{None}
use Rattle.device_slots.specs.Views.{slots_of}
use Rattle.device_slots.proofs.slots.free_slots.Given as goal

-- so many are free
abbrev pub invariant-loop : goal.invariant-loop
invariant-loop l = slots_of l.slots.items ≡ replicate l.counter None
