use Rattle.std.proofs.Common.{◌≡◌, [], subst}
use Rattle.std.specs.Prelude.{IfSome}
use Rattle.history_spec.specs.Entry.{clients_of}
use Rattle.broker_core.specs.Broker.{HoldsLeft, StandsAfterIf}
use Rattle.broker_core.proofs.Holding.{held_told}
use Rattle.broker_core.proofs.broker.Broker.finish.Goals as goal

pub returns-clause-stands : goal.returns-clause-stands
returns-clause-stands g c = subst (λ (v : _). StandsAfterIf (g.D.Device.seen v.device).base (g.D.Device.seen v.device).state v.journal v.tables v.held) c.self.view_is c.self.invariant.0.stands

pub returns-clause-held : goal.returns-clause-held
returns-clause-held g c =
    subst (λ (v : _). (clients_of v.journal).present ≡ [] → IfSome (g.D.Device.seen v.device).state (λ slots.
    HoldsLeft v.began (g.D.Device.seen v.device).faults v.journal slots v.held.sessions.left)) c.self.view_is
    (held_told _ _ _ _ _ _ _ _ (g.met.D.Device.told_together c.self.inside.machine.device) c.self.invariant.0.stands c.self.invariant.0.objects c.self.invariant.0.answers.taken
    c.show_vacant.ensures c.left.ensures.listed)
