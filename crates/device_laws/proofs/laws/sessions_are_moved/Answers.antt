use Rattle.device_laws.proofs.SessionSteps.{session_flush_step, session_load_step, session_save_step}
use Rattle.device_laws.proofs.laws.sessions_are_moved.Goals as goal

pub returns-clause-save : goal.returns-clause-save
returns-clause-save c = session_save_step

pub returns-clause-flush : goal.returns-clause-flush
returns-clause-flush c = session_flush_step

pub returns-clause-load : goal.returns-clause-load
returns-clause-load c = session_load_step
