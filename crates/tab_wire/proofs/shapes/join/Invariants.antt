use Rattle.std.proofs.Common.{take}
use Rattle.tab_wire.proofs.Shaped.{Written}
use Rattle.tab_wire.proofs.shapes.join.Given as goal

-- the header and so many handles were written
abbrev pub invariant-loop-handle : goal.invariant-loop-handle
invariant-loop-handle l = Written (take 10 l.bytes) l.out l.handles l.handle-index
