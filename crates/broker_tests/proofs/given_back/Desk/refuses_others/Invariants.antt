use Rattle.broker_tests.specs.declared.given_back.TheConstants.{FIRST}
use Rattle.session_swap.specs.Items.{Names}
use Rattle.broker_tests.proofs.given_back.Desk.refuses_others.Given as goal

abbrev pub invariant-loop-other : goal.invariant-loop-other
invariant-loop-other l = Names l.self.sessions.items FIRST
