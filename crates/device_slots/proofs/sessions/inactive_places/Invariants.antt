use Rattle.std.proofs.Common.{◌≡◌, replicate}
use Rattle.device_spec.specs.Slots.{inactive}
use Rattle.device_slots.specs.Views.{places_of}
use Rattle.device_slots.proofs.sessions.inactive_places.Given as goal

-- so many are nobody's
abbrev pub invariant-loop : goal.invariant-loop
invariant-loop l = places_of l.places.items ≡ replicate l.counter inactive
