use Rattle.std.proofs.Common.{◌≡◌, None, Option, ap, subst}
use Rattle.tab_spec.specs.Persist.{Persist}
use Rattle.broker_lock.specs.Known.{origin_of}
use Rattle.broker_core.proofs.LockCalls.{untold}
use Rattle.tab_server.proofs.BrokerCalls.{tells}
use Rattle.tab_server.proofs.played_broker.PlayedBrokerRuns.command.Goals as goal

pub returns-clause-told : goal.returns-clause-told
returns-clause-told g c =
    let old = c.args.self.now.broker in
    let new = c.command.new.self in
    tells g.D.Device.CONTEXTS g.D.Device.seen _ c.command.result old new _ _ _ _ c.args.self.now.counted
    (λ answer. ap (λ (b : Option Persist). origin_of b old.held.sessions.numbers) (subst (λ (b : Option Persist). b ≡ None) c.command.ensures.keeps.base_is
    (untold _ _ _ (g.met.D.Device.told_together new.device) c.command.ensures.last_answer.taken (c.command.ensures.answer.0 answer))))
    c.command.ensures.told
