use Rattle.device_laws.proofs.Seeds.{step_numbers, step_seed}
use Rattle.device_laws.proofs.laws.devices_keep_their_seed.Goals as goal

pub returns-clause-seed : goal.returns-clause-seed
returns-clause-seed c = step_seed

pub returns-clause-numbers : goal.returns-clause-numbers
returns-clause-numbers c = step_numbers
