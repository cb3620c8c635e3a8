use Rattle.std.proofs.Common.{subst}
use Rattle.broker_core.specs.Broker.{LegalOver}
use Rattle.broker_lock.specs.Known.{IsLegalOver, origin_of}
use Rattle.broker_core.proofs.LockCalls.{legal_over}
use Rattle.broker_core.proofs.broker.Broker.show_sound.Goals as goal

pub returns-clause-legal : goal.returns-clause-legal
returns-clause-legal g c = subst (λ (v : _). IsLegalOver LegalOver (origin_of (g.D.Device.seen v.device).base v.held.sessions.numbers) v.journal) c.self.view_is
    (legal_over _ _ _ _ _ (g.met.D.Device.told_together c.self.inside.machine.device) c.self.invariant.0.stands)
