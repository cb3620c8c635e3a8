use Rattle.std.proofs.Common.{IfSome}
use Rattle.linked_records.specs.View.{IsListed}
use Rattle.wire_tests.proofs.lists.nth.Given as goal

abbrev pub invariant-loop : goal.invariant-loop
invariant-loop l = IfSome l.here (λ item. IsListed l.records.lists item)
