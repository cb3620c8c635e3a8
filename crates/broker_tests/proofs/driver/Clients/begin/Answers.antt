use Rattle.broker_tests.proofs.Driving.{driven_at_first}
use Rattle.broker_tests.proofs.driver.Clients.begin.Goals as goal

pub invariant_of-result : goal.invariant_of-result
invariant_of-result c = driven_at_first c.in-Ok-begin.broker.journal c.in-Ok-begin.ensures.empty.0
