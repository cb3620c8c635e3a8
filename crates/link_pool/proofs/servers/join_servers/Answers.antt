use Rattle.std.proofs.Common.{ap}
use Rattle.link_pool.specs.Hands.{HandView}
use Rattle.link_pool.proofs.Parting.{servers_both}
use Rattle.link_pool.proofs.servers.join_servers.Goals as goal

pub returns-clause-on : goal.returns-clause-on
returns-clause-on g c = record {
  hand = c.join.ensures.way;
  stands = servers_both g.B.Recorded.legal g.A.In.Source.left g.A.Out.Sink.written
      g.A.In.Source.faults g.A.Out.Sink.faults _ _ _ _ _ _ _ _ _ _ _ _ c.requires.on.stands
      c.requires.ended.stands c.requires.fixed c.join.ensures.both c.join-2.ensures c.grow.ensures
      c.either.ensures;
}

pub join-requires-clause-parts : goal.join-requires-clause-parts
join-requires-clause-parts g c κs lives = c.requires.on.stands.rests.some_part

pub returns-clause-both : goal.returns-clause-both
returns-clause-both g c = record {
  hand_parts = ap (λ (v : HandView _). v.parts) c.join.ensures.both;
  parts = c.join-2.ensures.parts;
  fixed_is = c.join-2.ensures.fixed;
  lock_is = c.join-2.ensures.lock;
}
