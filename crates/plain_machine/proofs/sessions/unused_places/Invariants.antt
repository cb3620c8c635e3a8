use Rattle.std.proofs.Common.{◌≡◌, replicate}
use Rattle.std.specs.Prelude.{None}
use Rattle.plain_machine.specs.Owners.{owners_of}
use Rattle.plain_machine.proofs.sessions.unused_places.Given as goal

-- so many are unused
abbrev pub invariant-loop : goal.invariant-loop
invariant-loop l = owners_of l.places.items ≡ replicate l.counter None
