use Rattle.device_laws.proofs.Counters.{step_rises}
use Rattle.device_laws.proofs.laws.context_numbers_never_fall.Goals as goal

pub returns-clause-objects : goal.returns-clause-objects
returns-clause-objects c = λ slots bytes. (step_rises slots bytes).objects

pub returns-clause-sessions : goal.returns-clause-sessions
returns-clause-sessions c = λ slots bytes. (step_rises slots bytes).sessions
