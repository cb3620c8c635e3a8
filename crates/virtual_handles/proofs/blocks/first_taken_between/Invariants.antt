use Rattle.std.proofs.Common.{◌≡◌, drop}
use Rattle.history_spec.specs.Table.{first_taken}
use Rattle.virtual_handles.proofs.blocks.first_taken_between.Given as goal

-- the places so far aren't taken
abbrev pub invariant-loop-number : goal.invariant-loop-number
invariant-loop-number l = first_taken l.start (drop l.start l.places) ≡ first_taken l.number (drop l.number l.places)
