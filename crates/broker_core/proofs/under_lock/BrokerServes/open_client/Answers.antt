use Rattle.broker_core.proofs.LockCalls.{opens, opens_right, unknown}
use Rattle.broker_core.proofs.under_lock.BrokerServes.open_client.Goals as goal

pub returns-clause-opens : goal.returns-clause-opens
returns-clause-opens g c = opens g.D.Device.CONTEXTS _ _ _ _ c.open_client.ensures.ok c.open_client.ensures.err c.open_client.ensures.full c.open_client.ensures.room
    (λ answer. unknown _ c.args.self.now.held.sessions.numbers (c.show_sound.ensures.untold (c.open_client.ensures.answer.0 answer)))

pub returns-clause-wrong : goal.returns-clause-wrong
returns-clause-wrong g c = opens_right _ _ _ c.open_client.ensures.ok c.open_client.ensures.err c.open_client.ensures.answer
