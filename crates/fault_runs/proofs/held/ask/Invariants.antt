use Rattle.std.proofs.Common.{◌≡◌}
use Rattle.fault_runs.proofs.held.ask.Given as goal

-- it was not answered yet, so it is in its state
abbrev pub invariant-loop : goal.invariant-loop
invariant-loop l = l.device.state ≡ l.fn.device.state
