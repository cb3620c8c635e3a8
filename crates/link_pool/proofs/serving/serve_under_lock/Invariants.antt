use Rattle.link_pool.specs.Starts.{start_of}
use Rattle.link_pool.proofs.serving.serve_under_lock.Given as goal

-- accepting begins with these
abbrev pub ghosts-serve_passed : goal.ghosts-serve_passed
ghosts-serve_passed g a = record { begun = start_of (g.A.Acceptor.coming a.acceptor.acceptor.now) (g.A.Acceptor.faults a.acceptor.acceptor.now) a.acceptor.acceptor.ghost_name a.connections }
