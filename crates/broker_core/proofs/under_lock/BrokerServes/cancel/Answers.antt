use Rattle.std.proofs.Common.{ap}
use Rattle.broker_core.specs.Broker.{BrokerView}
use Rattle.broker_core.proofs.LockCalls.{cancel_right}
use Rattle.broker_core.proofs.under_lock.BrokerServes.cancel.Goals as goal

pub returns-clause-wrong : goal.returns-clause-wrong
returns-clause-wrong g c =
    cancel_right c.args.self.now c.cancel.new.self c.cancel.result c.cancel.ensures.answer (ap (λ (b : BrokerView _). b.wrong_code) c.cancel.ensures.unchanged)
