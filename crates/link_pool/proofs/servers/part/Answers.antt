use Rattle.std.proofs.Common.{◌-◌, refl, sym, ap, ◌∙◌, arith}
use Rattle.broker_lock.specs.Pass.{PassView}
use Rattle.link_pool.specs.Hands.{HandView}
use Rattle.link_pool.specs.Servers.{one_part}
use Rattle.link_pool.proofs.Parting.{server_given, server_keeps}
use Rattle.link_pool.proofs.servers.part.Goals as goal

pub returns-clause-on : goal.returns-clause-on
returns-clause-on g c = (
  record {
    hand = c.split-hand.ensures.way;
    stands = server_keeps g.B.Recorded.legal g.A.In.Source.left
        g.A.Out.Sink.written g.A.In.Source.faults g.A.Out.Sink.faults _ _ _ _ _ _ _
        c.requires.on.stands
        c.requires.served (omega (arith, c.requires.room.0, c.requires.room.1))
        c.split-hand.ensures.left (c.split-pass.ensures.left
        ∙ ap (λ (p : PassView). record p { parts = p.parts - 1 }) c.split-own.ensures.left);
  },
  c.requires.served,
)

pub returns-clause-given : goal.returns-clause-given
returns-clause-given g c = record {
  hand = c.split-hand.ensures.given_way;
  stands = server_given g.B.Recorded.legal g.A.In.Source.left g.A.Out.Sink.written
      g.A.In.Source.faults g.A.Out.Sink.faults _ _ _ _ _ _ _ _ _ c.requires.on.stands
      c.requires.served c.split-hand.ensures.given c.split-own.ensures.given c.none-served.ensures
      refl;
}

pub returns-clause-parted : goal.returns-clause-parted
returns-clause-parted g c = record {
  hand_room = omega (arith, c.requires.room.0, c.requires.room.1, ap (λ (v : HandView _). v.parts) c.split-hand.ensures.left);
  room = omega (arith, c.requires.room.0, c.requires.room.2, ap (λ (p : PassView). p.parts) c.split-own.ensures.left, ap (λ (p : PassView). p.parts) c.split-pass.ensures.left);
  hand_parts = omega (arith, c.requires.room.0, c.requires.room.1, ap (λ (v : HandView _). v.parts) c.split-hand.ensures.left);
  parts = omega (arith, c.requires.room.0, c.requires.room.2, ap (λ (p : PassView). p.parts) c.split-own.ensures.left, ap (λ (p : PassView). p.parts) c.split-pass.ensures.left);
  fixed_is = ap (λ (p : PassView). p.fixed) c.split-pass.ensures.left ∙ ap (λ (p : PassView). p.fixed) c.split-own.ensures.left;
  lock_is = ap (λ (p : PassView). p.lock) c.split-pass.ensures.left ∙ (ap (λ (p : PassView). p.lock) c.split-own.ensures.left ∙ c.requires.lock);
  given_hand = ap (λ (v : HandView _). v.parts) c.split-hand.ensures.given;
  given_parts = ap (λ (p : PassView). p.parts) c.split-own.ensures.given;
  given_some = omega (arith, ap (λ (p : PassView). p.parts) c.split-own.ensures.given);
  given_fixed = ap (λ (p : PassView). p.fixed) c.split-own.ensures.given;
  given_lock = ap (λ (p : PassView). p.lock) c.split-own.ensures.given ∙ c.requires.lock;
  beside_is = c.split-pass.ensures.given ∙ ap one_part c.split-own.ensures.left ∙ sym (ap one_part c.split-own.ensures.given);
}

pub split-hand-requires-clause-parts : goal.split-hand-requires-clause-parts
split-hand-requires-clause-parts g c = omega (arith, c.requires.room.0, c.requires.room.1)

pub split-own-requires-clause-parts : goal.split-own-requires-clause-parts
split-own-requires-clause-parts g c = omega (arith, c.requires.room.0, c.requires.room.2)

pub split-pass-requires-clause-parts : goal.split-pass-requires-clause-parts
split-pass-requires-clause-parts g c = omega (arith, c.requires.room.0, c.requires.room.2, ap (λ (p : PassView). p.parts) c.split-own.ensures.left)

pub split-pass-requires-clause-lock : goal.split-pass-requires-clause-lock
split-pass-requires-clause-lock g c = ap (λ (p : PassView). p.lock) c.split-own.ensures.left ∙ c.requires.lock
