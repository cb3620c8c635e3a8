use Rattle.std.proofs.Common.{◌≡◌, ◌≤◌, ◌+◌, drop}
use Rattle.object_swap.specs.Items.{missing}
use Rattle.object_swap.specs.Records.{items_of}
use Rattle.object_swap.proofs.residents.count_missing.Given as goal

abbrev pub invariant-loop-at : goal.invariant-loop-at
invariant-loop-at l = record {
  counted : l.count + missing (drop l.at l.needed) (items_of l.records) ≡ missing l.needed (items_of l.records);
  most : l.count ≤ l.at;
}
