use Rattle.std.proofs.Common.{◌≡◌}
use Rattle.std.specs.Prelude.{slice_get}
use Rattle.session_swap.specs.Records.{items_of}
use Rattle.session_swap.specs.Moves.{AllNeeded}
use Rattle.session_swap.proofs.places.unneeded.Given as goal

abbrev pub invariant-loop : goal.invariant-loop
invariant-loop l = record {
  here : l.here ≡ slice_get l.order.loaded l.counter;
  before : AllNeeded (items_of l.records) l.order.loaded l.needed l.counter;
}
