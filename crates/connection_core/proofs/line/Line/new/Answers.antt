use Rattle.std.proofs.Common.{ap}
use Rattle.connection_core.specs.Line.{LineView}
use Rattle.connection_core.proofs.Relays.{begins_line, splits_line}
use Rattle.connection_core.proofs.line.Line.new.Goals as goal

pub bounded_with-requires-clause-rule : goal.bounded_with-requires-clause-rule
bounded_with-requires-clause-rule c = begins_line

pub another-worker-requires-clause-rule : goal.another-worker-requires-clause-rule
another-worker-requires-clause-rule c = splits_line _ _ (ap (λ (v : LineView). v.sends) c.in_ok-sender.ensures.3) (ap (λ (v : LineView). v.takes) c.in_ok-sender.ensures.3)
