use Rattle.std.proofs.Common.{◌≡◌, ◌+◌, length}
use Rattle.fx_capability.proofs.listing.count_items.Given as goal

-- so many items were counted, and the others are left
abbrev pub invariant-loop-count : goal.invariant-loop-count
invariant-loop-count g l = length (g.L.Listing.items l.list l.least) ≡ l.count + length (g.L.Listing.items l.list l.next)
