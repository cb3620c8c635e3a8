use Rattle.broker_tests.specs.declared.given_back.TheConstants.{FIRST}
use Rattle.broker_tests.proofs.Saved.{still_named}
use Rattle.broker_tests.proofs.given_back.Desk.save.Goals as goal

pub returns-clause-named : goal.returns-clause-named
returns-clause-named c =
    still_named _ _ c.client_save.result _ _ FIRST c.args.self.now.sessions c.client_save.new.self c.requires c.client_save.ensures.ok
    c.client_save.ensures.err
