use Rattle.std.proofs.Common.{◌≡◌, ◌+◌, drop}
use Rattle.plain_machine.specs.Left.{place_in}
use Rattle.plain_machine.proofs.left.place_of.Given as goal

-- no number so far is this one
abbrev pub invariant-loop-place : goal.invariant-loop-place
invariant-loop-place l = place_in l.numbers l.number ≡ l.place + place_in (drop l.place l.numbers) l.number
