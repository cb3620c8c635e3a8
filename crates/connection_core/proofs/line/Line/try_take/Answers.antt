use Rattle.connection_core.proofs.Relays.{takes_line}
use Rattle.connection_core.proofs.line.Line.try_take.Goals as goal

pub try_recv_as-requires-clause-rule : goal.try_recv_as-requires-clause-rule
try_recv_as-requires-clause-rule g c = (takes_line _ _ c.requires.takes, λ items views h at. tt)
