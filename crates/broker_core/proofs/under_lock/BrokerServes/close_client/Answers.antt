use Rattle.std.proofs.Common.{◌≡◌, None, Option, ap, subst}
use Rattle.tab_spec.specs.Persist.{Persist}
use Rattle.broker_core.specs.Broker.{BrokerView}
use Rattle.broker_lock.specs.Known.{origin_of}
use Rattle.broker_core.proofs.LockCalls.{closes_right, fixed_of, may_leave, unknown}
use Rattle.broker_core.proofs.under_lock.BrokerServes.close_client.Goals as goal

pub returns-clause-closed : goal.returns-clause-closed
returns-clause-closed g c = record {
  entered = c.close_client-closed.ensures.closed.0;
  answer = may_leave (fixed_of g.D.Device.CONTEXTS (origin_of (g.D.Device.seen c.args.self.now.device).base c.args.self.now.held.sessions.numbers) c.args.self.now) _ _ _ c.close_client-closed.ensures.left
      (λ answer. unknown _ c.args.self.now.held.sessions.numbers
      (subst (λ (b : Option Persist). b ≡ None) c.close_client-closed.ensures.keeps.base_is (c.show_sound.ensures.untold (c.close_client-closed.ensures.answer.0 answer))));
}

pub returns-clause-wrong : goal.returns-clause-wrong
returns-clause-wrong g c =
    closes_right c.args.self.now c.close_client-closed.new.self c.close_client-closed.result c.close_client-closed.ensures.answer
    (λ some. ap (λ (b : BrokerView _). b.wrong_code) (c.close_client-closed.ensures.unsent some))
