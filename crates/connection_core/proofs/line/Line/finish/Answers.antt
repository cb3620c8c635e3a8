use Rattle.connection_core.proofs.Relays.{joins_line}
use Rattle.connection_core.proofs.line.Line.finish.Goals as goal

pub absorb-requires-clause-rule : goal.absorb-requires-clause-rule
absorb-requires-clause-rule c = joins_line _ _ _ _ c.requires.reader.1 c.requires.worker.1
