use Rattle.device_laws.proofs.Replies.{startup_starts}
use Rattle.device_laws.proofs.laws.startup_starts.Goals as goal

pub returns-clause-state : goal.returns-clause-state
returns-clause-state c = λ slots. (startup_starts slots).state

pub returns-clause-taken : goal.returns-clause-taken
returns-clause-taken c = λ slots. (startup_starts slots).taken
