use Rattle.std.proofs.Common.{◌≡◌}
use Rattle.crossbeam_channel.specs.Claims.{view, IsSeatAt}
use Rattle.crossbeam_channel.specs.Ends.{sends_on}
use Rattle.connection_core.proofs.line.Line.send.Given as goal

abbrev pub invariant-loop : goal.invariant-loop
invariant-loop g l = record {
  goes : (goal.iterator-loop g).can_next l.iterator' × (goal.iterator-loop g).is_finite l.iterator';
  line : IsSeatAt (sends_on l.self.sender) l.pass;
  same : view l.pass ≡ view l.initial.pass;
  message : l.message ≡ l.initial.message;
}
