use Rattle.client_laws.proofs.Steps.{step_flushed, step_full, step_listed, step_loaded, step_refused, step_run, step_saved}
use Rattle.client_laws.proofs.laws.clients_steps_go_by_their_code.Goals as goal

pub returns-clause-refused : goal.returns-clause-refused
returns-clause-refused c = step_refused

pub returns-clause-flushed : goal.returns-clause-flushed
returns-clause-flushed c = step_flushed

pub returns-clause-saved : goal.returns-clause-saved
returns-clause-saved c = step_saved

pub returns-clause-loaded : goal.returns-clause-loaded
returns-clause-loaded c = step_loaded

pub returns-clause-listed : goal.returns-clause-listed
returns-clause-listed c = step_listed

pub returns-clause-full : goal.returns-clause-full
returns-clause-full c = step_full

pub returns-clause-run : goal.returns-clause-run
returns-clause-run c = step_run
