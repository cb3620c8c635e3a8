use Rattle.std.proofs.Common.{◌≡◌, ◌+◌, ◌*◌, ◌/◌, ◌-◌, ℕ, List, [], length, min, take}
use Rattle.tab_hash.specs.Adding.{HasKey}
use Rattle.tab_spec.specs.Hash.{kdfa_blocks}
use Rattle.tab_hash.proofs.keyed.Mac.derive.Given as goal

abbrev pub invariant-loop-at : goal.invariant-loop-at
invariant-loop-at l = record {
  long : length l.out ≡ length l.fn.out;
  place : l.at ≡ min (32 * l.number) (length l.fn.out);
  made : (key : List ℕ) → HasKey l.self key [] → take l.at l.out ≡ take l.at (kdfa_blocks key l.label l.u l.v (8 * length l.fn.out) 1 ((length l.fn.out + 31) / 32));
}

abbrev pub decreases-loop-at : goal.decreases-loop-at
decreases-loop-at l = length l.initial.out - l.at
