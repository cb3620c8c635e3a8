use Rattle.std.proofs.Common.{◌≡◌, ◌≤◌, ◌-◌, drop, length, take, vec_capacity}
use Rattle.world_spec.specs.World.{without_places}
use Rattle.plain_machine.specs.Owners.{owners_of}
use Rattle.plain_machine.proofs.left.drop_first.Given as goal

-- those that are still to go
abbrev pub invariant-loop : goal.invariant-loop
invariant-loop l =
    (without_places (take (l.gone - l.counter) l.numbers.items) (owners_of l.places)
    ≡ without_places (take l.gone l.fn.numbers.items) (owners_of l.fn.places))
    × (drop (l.gone - l.counter) l.numbers.items ≡ drop l.gone l.fn.numbers.items)
    × (l.gone - l.counter ≤ length l.numbers.items) × (vec_capacity l.numbers ≡ vec_capacity l.fn.numbers)
