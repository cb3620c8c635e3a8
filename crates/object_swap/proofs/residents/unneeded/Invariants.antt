use Rattle.std.proofs.Common.{◌≡◌, ℕ, ◌<◌, true, get_or}
use Rattle.device_port.specs.Use.{is_among}
use Rattle.object_swap.proofs.residents.unneeded.Given as goal

abbrev pub invariant-loop-at : goal.invariant-loop-at
invariant-loop-at l = (k : ℕ) → k < l.at → is_among l.needed (get_or l.loaded k 0) ≡ true
