use Rattle.std.proofs.Common.{◌≡◌, ◌≤◌, length}
use Rattle.tab_spec.specs.Values.{without_zeros}
use Rattle.tab_fields.proofs.fields.without_zeros.Given as goal

abbrev pub invariant-loop-last : goal.invariant-loop-last
invariant-loop-last l = record {
  same : without_zeros l.rest ≡ without_zeros l.fn.bytes;
  most : length l.rest ≤ length l.fn.bytes;
}

abbrev pub decreases-loop-last : goal.decreases-loop-last
decreases-loop-last l = length l.rest
