use Rattle.std.proofs.Common.{refl, ap, ◌∙◌}
use Rattle.broker_lock.specs.Pass.{PassView}
use Rattle.link_pool.proofs.Parting.{leaves_serves, server_serves}
use Rattle.link_pool.proofs.server.serve_one.Goals as goal

pub serve_ends-pass-requires-clause-lock : goal.serve_ends-pass-requires-clause-lock
serve_ends-pass-requires-clause-lock g c κs lives = ap (λ (p : PassView). p.lock) c.requires.beside
    ∙ c.requires.lock

pub serve_ends-pass-requires-clause-nobody : goal.serve_ends-pass-requires-clause-nobody
serve_ends-pass-requires-clause-nobody g c κs lives = ap (λ (p : PassView). p.known)
    c.requires.beside

pub join-requires-clause-ended : goal.join-requires-clause-ended
join-requires-clause-ended g c = c.serve_ends-pass.ensures.goes_on.lock
    ∙ (ap (λ (p : PassView). p.lock) c.requires.beside ∙ c.requires.lock)

pub returns-clause-server : goal.returns-clause-server
returns-clause-server g c = server_serves g.B.Recorded.legal g.A.In.Source.left g.A.Out.Sink.written g.A.In.Source.faults g.A.Out.Sink.faults _ _ _ _ _ _ _ _ _ _ _
    c.requires.server c.grow.ensures c.has_lacked-server.ensures c.requires.beside
    c.serve_ends-pass.ensures c.join.ensures c.of-given.ensures

pub returns-clause-leaves : goal.returns-clause-leaves
returns-clause-leaves g c = leaves_serves g.B.Recorded.legal _ _ _ _ _ _ refl c.requires.beside
    c.serve_ends-pass.ensures.goes_on c.join.ensures
