use Rattle.std.specs.Prelude.{Some}
use Rattle.device_link.specs.Link.{ends_of}
use Rattle.tabrmd.proofs.run.Given as goal

-- the link begins with what its two ends tell
abbrev pub ghosts-run_link : goal.ghosts-run_link
ghosts-run_link g a = record {
  began = Some (ends_of g.S.Source.left g.S.Source.faults g.K.Sink.written g.K.Sink.faults a.source
      a.sink);
}

abbrev pub ghosts-run_tpm : goal.ghosts-run_tpm
ghosts-run_tpm g a = record {
  began = Some (ends_of g.S.Source.left g.S.Source.faults g.K.Sink.written g.K.Sink.faults a.source
      a.sink);
}
