use Rattle.std.proofs.Common.{◌≡◌}
use Rattle.broker_lock.specs.Examples.{HasCommandsUpTo}
use Rattle.connection_tests.proofs.turns.ask_after_wrong.Given as goal

abbrev pub invariant-loop-i : goal.invariant-loop-i
invariant-loop-i g l =
    (l.pass.lock ≡ l.fn.pass.lock) × (l.pass.parts ≡ l.fn.pass.parts) × HasCommandsUpTo l.pass.known l.client l.i
