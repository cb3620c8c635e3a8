use Rattle.std.proofs.Common.{◌≡◌, ◌*◌, ◌-◌, length}
use Rattle.effect_spec.specs.Policies.{digests_of}
use Rattle.fx_policy.proofs.ReadingOn.{ReadSoFar}
use Rattle.fx_policy.proofs.branches.read_digests.Given as goal

abbrev pub invariant-loop : goal.invariant-loop
invariant-loop l = record {
  size : length l.joined ≡ 32 * l.counter;
  read : ReadSoFar l.digest (digests_of l.count l.fn.r) (l.count - l.counter) l.r l.joined l.found;
}
