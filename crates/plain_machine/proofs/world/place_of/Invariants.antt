use Rattle.std.proofs.Common.{◌≡◌, ◌+◌, drop}
use Rattle.plain_machine.specs.Clients.{place_in}
use Rattle.plain_machine.proofs.world.place_of.Given as goal

-- no client so far is this one
abbrev pub invariant-loop-place : goal.invariant-loop-place
invariant-loop-place l = place_in l.clients l.client ≡ l.place + place_in (drop l.place l.clients) l.client
