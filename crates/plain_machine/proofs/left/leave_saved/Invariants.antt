use Rattle.std.proofs.Common.{◌≡◌, ◌≤◌, ◌+◌, ◌++◌, drop, length, map, take, vec_capacity}
use Rattle.world_spec.specs.World.{left_place, saved_numbers}
use Rattle.plain_machine.specs.Owners.{owners_of}
use Rattle.plain_machine.proofs.left.leave_saved.Given as goal

-- the places so far are left, and the numbers of the others are still to be listed
abbrev pub invariant-loop-number : goal.invariant-loop-number
invariant-loop-number l =
    (owners_of l.places
    ≡ map (left_place l.client) (take l.number (owners_of l.fn.places)) ++ drop l.number (owners_of l.fn.places))
    × (l.numbers.items ++ saved_numbers l.client l.number (drop l.number (owners_of l.fn.places))
    ≡ l.fn.numbers.items ++ saved_numbers l.client 0 (owners_of l.fn.places))
    × (length l.numbers.items ≤ length l.fn.numbers.items + l.number)
    × (vec_capacity l.fn.numbers ≤ vec_capacity l.numbers) × (length l.places ≡ length l.fn.places)
