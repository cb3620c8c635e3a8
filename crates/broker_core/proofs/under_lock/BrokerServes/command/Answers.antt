use Rattle.std.proofs.Common.{◌≡◌, None, Option, ap, subst}
use Rattle.tab_spec.specs.Persist.{Persist}
use Rattle.broker_core.specs.Broker.{BrokerView}
use Rattle.broker_core.proofs.LockCalls.{tells, tells_right, unknown, untold}
use Rattle.broker_core.proofs.under_lock.BrokerServes.command.Goals as goal

pub returns-clause-told : goal.returns-clause-told
returns-clause-told g c =
    tells g.D.Device.CONTEXTS g.D.Device.seen _ c.command.result c.args.self.now c.command.new.self _ _ _ _ c.show_sound.ensures.began c.show_sound.ensures.faulted
    (λ answer. unknown _ c.args.self.now.held.sessions.numbers (subst (λ (b : Option Persist). b ≡ None) c.command.ensures.keeps.base_is
    (untold _ _ _ (g.met.D.Device.told_together c.command.new.self.device) c.command.ensures.last_answer.taken (c.command.ensures.answer.0 answer))))
    c.command.ensures.told

pub returns-clause-wrong : goal.returns-clause-wrong
returns-clause-wrong g c =
    tells_right c.args.self.now c.command.new.self c.command.result c.command.ensures.answer (λ some. ap (λ (b : BrokerView _). b.wrong_code) (c.command.ensures.unchanged some))
