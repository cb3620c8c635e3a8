use Rattle.broker_tests.proofs.Driving.{is_next, told}
use Rattle.tab_spec.specs.declared.contexts.TheConstants.{PROFILE_CONTEXTS}
use Rattle.broker_tests.proofs.driver.Clients.send.Goals as goal

pub command-requires-clause-number : goal.command-requires-clause-number
command-requires-clause-number c = is_next c.self.inside.broker.journal c.args.client c.self.invariant

pub invariant_of-self : goal.invariant_of-self
invariant_of-self c =
    told PROFILE_CONTEXTS _ c.command.result c.self.inside.broker c.command.new.self c.args.client c.self.inside.next c.args.command.now c.command.new.reply
    c.command.ensures.told c.self.invariant
