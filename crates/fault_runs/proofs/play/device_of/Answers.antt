use Rattle.std.proofs.Common.{rules}
use Rattle.fault_runs.proofs.AtBase.{at_base}
use Rattle.fault_runs.proofs.play.device_of.Goals as goal

pub returns : goal.returns
returns c = at_base c.with_numbers.result c.args.numbers c.args.seed _ c.with_numbers.ensures.fresh (search rules) (search rules)
