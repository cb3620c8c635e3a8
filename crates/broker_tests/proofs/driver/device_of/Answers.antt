use Rattle.std.proofs.Common.{refl, rules}
use Rattle.broker_tests.proofs.AtBase.{at_base}
use Rattle.broker_tests.proofs.driver.device_of.Goals as goal

pub returns : goal.returns
returns c = at_base c.with_numbers.result c.args.numbers _ _ c.with_numbers.ensures.fresh (search rules) refl
