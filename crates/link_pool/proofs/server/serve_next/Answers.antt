use Rattle.std.proofs.Common.{ap, arith, ◌∙◌}
use Rattle.broker_lock.specs.Pass.{PassView}
use Rattle.link_pool.proofs.Parting.{beside_split, leaves_next, server_splits}
use Rattle.link_pool.proofs.server.serve_next.Goals as goal

pub serve_one-requires-clause-beside : goal.serve_one-requires-clause-beside
serve_one-requires-clause-beside g c κs lives = beside_split c.args.server.now.pass _ _ _ c.split-pass.ensures.left c.split-pass.ensures.given

pub serve_one-requires-clause-server : goal.serve_one-requires-clause-server
serve_one-requires-clause-server g c κs lives = server_splits g.B.Recorded.legal g.A.In.Source.left g.A.Out.Sink.written g.A.In.Source.faults g.A.Out.Sink.faults _ _ _ _ _ _ c.requires.server c.split-pass.ensures.left

pub returns-clause-leaves : goal.returns-clause-leaves
returns-clause-leaves g c = leaves_next _ _ _ _ _ c.split-pass.ensures.left c.requires.parts c.serve_one.ensures.leaves

pub split-pass-requires-clause-parts : goal.split-pass-requires-clause-parts
split-pass-requires-clause-parts g c = omega (arith, c.requires.parts)

pub serve_one-requires-clause-lock : goal.serve_one-requires-clause-lock
serve_one-requires-clause-lock g c κs lives = ap (λ (p : PassView). p.lock) c.split-pass.ensures.left ∙ c.requires.lock
