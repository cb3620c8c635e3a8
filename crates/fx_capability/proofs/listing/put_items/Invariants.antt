use Rattle.std.proofs.Common.{◌≡◌, ◌+◌, ◌-◌, ◌*◌, ◌≤◌, ◌++◌, length, take}
use Rattle.effect_spec.specs.Capabilities.{joined_items}
use Rattle.fx_capability.proofs.listing.put_items.Given as goal

-- so many items were put, and as many as were asked for beyond them are left
abbrev pub invariant-loop-number : goal.invariant-loop-number
invariant-loop-number g l = record {
  put : l.reply ++ joined_items (take (l.count - l._number) (g.L.Listing.items l.list l.next))
      ≡ l.fn.reply ++ joined_items (take l.count (g.L.Listing.items l.list l.least));
  size : length l.reply ≤ length l.fn.reply + 8 * l._number;
}
