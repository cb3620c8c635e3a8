use Rattle.std.proofs.Common.{◌-◌}
use Rattle.tab_wire.proofs.Filling.{Filling}
use Rattle.tab_wire.proofs.area.filled.Given as goal

-- what was read stands in the array, and the rest is to be read from here
abbrev pub invariant-loop-at : goal.invariant-loop-at
invariant-loop-at l = Filling l.bytes l.end l.start l.at l.count l.auths

abbrev pub decreases-loop-at : goal.decreases-loop-at
decreases-loop-at l = 3 - l.count
