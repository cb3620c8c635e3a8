use Rattle.std.proofs.Common.{◌≡◌, ◌+◌, drop}
use Rattle.history_spec.specs.Table.{least_free}
use Rattle.virtual_handles.proofs.blocks.first_free_of.Given as goal

-- the places so far are taken
abbrev pub invariant-loop-number : goal.invariant-loop-number
invariant-loop-number l = least_free l.places ≡ l.number + least_free (drop l.number l.places)
