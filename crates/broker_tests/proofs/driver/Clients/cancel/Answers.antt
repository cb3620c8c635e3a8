use Rattle.broker_tests.proofs.Driving.{canceled, is_next}
use Rattle.broker_tests.proofs.driver.Clients.cancel.Goals as goal

pub cancel-requires-clause-number : goal.cancel-requires-clause-number
cancel-requires-clause-number c = is_next c.self.inside.broker.journal c.args.client c.self.invariant

pub invariant_of-self : goal.invariant_of-self
invariant_of-self c =
    canceled c.cancel.result c.self.inside.broker c.cancel.new.self c.args.client c.self.inside.next c.self.inside.next c.args.command.now c.cancel.new.reply
    c.cancel.ensures.told c.self.invariant
