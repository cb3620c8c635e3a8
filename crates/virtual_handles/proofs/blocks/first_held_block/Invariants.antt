use Rattle.std.proofs.Common.{◌≡◌, ◌≤◌, ◌<◌, ℕ, get_or}
use Rattle.virtual_handles.proofs.blocks.first_held_block.Given as goal

abbrev pub invariant-loop-block : goal.invariant-loop-block
invariant-loop-block l = (k : ℕ) → l.first ≤ k → k < l.block → get_or l.taken k 0 ≡ 0
