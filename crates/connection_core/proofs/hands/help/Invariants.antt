use Rattle.connection_core.specs.Hands.{IsHandOf}
use Rattle.connection_core.proofs.hands.help.Given as goal

abbrev pub invariant-loop : goal.invariant-loop
invariant-loop g l = record {
  goes : (goal.iterator-loop g).can_next l.iterator' × (goal.iterator-loop g).is_finite l.iterator';
  hand : IsHandOf l.link l.hand;
}
