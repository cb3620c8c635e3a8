use Rattle.std.specs.Prelude.{Some}
use Rattle.connection_core.specs.Keeps.{start_of}
use Rattle.connection_core.proofs.serve.serve_link.Given as goal

-- the connection begins with these
abbrev pub ghosts-serve_fitted : goal.ghosts-serve_fitted
ghosts-serve_fitted g a = record { begun = Some (start_of a.outfit.between a.pass (g.K.Sink.written a.sink) (g.K.Sink.ended a.sink) (g.K.Sink.faults a.sink)) }
