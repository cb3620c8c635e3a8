use Rattle.device_laws.proofs.OverHandles.{over_leaves, over_sessions, over_step}
use Rattle.device_laws.proofs.handles.commands_run_over_other_handles.Goals as goal

pub returns-clause-run : goal.returns-clause-run
returns-clause-run c = over_step

pub returns-clause-kept : goal.returns-clause-kept
returns-clause-kept c = over_leaves

pub returns-clause-sessions : goal.returns-clause-sessions
returns-clause-sessions c = over_sessions
