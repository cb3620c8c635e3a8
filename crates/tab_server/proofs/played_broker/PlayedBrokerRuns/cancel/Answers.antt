use Rattle.std.proofs.Common.{ap, ◌∙◌}
use Rattle.std.specs.Prelude.{is_some}
use Rattle.broker_core.specs.Broker.{BrokerView}
use Rattle.tab_server.proofs.BrokerCalls.{not_wrong, tells_canceled}
use Rattle.tab_server.proofs.played_broker.PlayedBrokerRuns.cancel.Goals as goal

pub returns-clause-told : goal.returns-clause-told
returns-clause-told g c = tells_canceled g.D.Device.CONTEXTS _ c.cancel.result c.args.self.now.broker c.cancel.new.self _ _ _ _ _
    (λ answer. not_wrong _ c.requires.sound (c.cancel.ensures.answer.0 answer)) c.cancel.ensures.told

pub returns-clause-sound : goal.returns-clause-sound
returns-clause-sound g c = ((λ answer. not_wrong _ c.requires.sound (c.cancel.ensures.answer.0 answer)), ap (λ (b : BrokerView _). is_some b.wrong_code) c.cancel.ensures.unchanged ∙ c.requires.sound)
