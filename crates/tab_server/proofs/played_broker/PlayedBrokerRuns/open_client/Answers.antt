use Rattle.std.proofs.Common.{◌∙◌}
use Rattle.broker_core.proofs.LockCalls.{opens, opens_same}
use Rattle.tab_server.proofs.BrokerCalls.{not_wrong}
use Rattle.tab_server.proofs.played_broker.PlayedBrokerRuns.open_client.Goals as goal

pub returns-clause-opens : goal.returns-clause-opens
returns-clause-opens g c = opens g.D.Device.CONTEXTS _ _ _ _ c.open_client.ensures.ok c.open_client.ensures.err c.open_client.ensures.full c.open_client.ensures.room
    (λ answer. absurd (not_wrong _ c.requires.sound (c.open_client.ensures.answer.0 answer)))

pub returns-clause-sound : goal.returns-clause-sound
returns-clause-sound g c = (
  (λ answer. not_wrong _ c.requires.sound (c.open_client.ensures.answer.0 answer)),
  opens_same _ _ _ c.open_client.ensures.ok c.open_client.ensures.err ∙ c.requires.sound,
)
