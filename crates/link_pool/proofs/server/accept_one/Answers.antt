use Rattle.std.proofs.Common.{refl}
use Rattle.crossbeam_channel.specs.Claims.{view}
use Rattle.link_pool.proofs.Parting.{leaves_waits, server_waits}
use Rattle.link_pool.proofs.server.accept_one.Goals as goal

pub returns-clause-on : goal.returns-clause-on
returns-clause-on g c = record {
  hand = c.next-ends.ensures.way;
  stands = server_waits g.B.Recorded.legal g.A.In.Source.left g.A.Out.Sink.written
      g.A.In.Source.faults g.A.Out.Sink.faults _ (view c.next-ends.new.hand) _ _ _ _
      c.next-ends.result c.requires.on.stands refl c.next-ends.ensures.some
      c.next-ends.ensures.none;
}

pub returns-clause-leaves : goal.returns-clause-leaves
returns-clause-leaves g c = leaves_waits _ (view c.next-ends.new.hand) _ _ c.next-ends.result refl c.next-ends.ensures.some c.next-ends.ensures.none

pub next-ends-requires-clause-rests : goal.next-ends-requires-clause-rests
next-ends-requires-clause-rests g c κs lives = c.requires.on.stands.rests
