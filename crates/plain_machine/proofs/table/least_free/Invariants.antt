use Rattle.std.proofs.Common.{◌≡◌, ◌+◌, drop}
use Rattle.history_spec.specs.Table.{least_free}
use Rattle.plain_machine.specs.Views.{objects_of}
use Rattle.plain_machine.proofs.table.least_free.Given as goal

-- the places so far are taken
abbrev pub invariant-loop-number : goal.invariant-loop-number
invariant-loop-number l = least_free (objects_of l.places) ≡ l.number + least_free (objects_of (drop l.number l.places))
