use Rattle.std.proofs.Common.{◌≡◌, ◌≤◌, ◌+◌, drop}
use Rattle.session_swap.specs.Items.{missing}
use Rattle.session_swap.specs.Records.{items_of}
use Rattle.session_swap.proofs.places.count_missing.Given as goal

abbrev pub invariant-loop-at : goal.invariant-loop-at
invariant-loop-at l = record {
  counted : l.count + missing (drop l.at l.needed) (items_of l.records) ≡ missing l.needed (items_of l.records);
  most : l.count ≤ l.at;
}
