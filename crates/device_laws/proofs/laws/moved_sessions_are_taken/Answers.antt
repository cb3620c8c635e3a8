use Rattle.device_laws.proofs.SessionMoves.{session_flush_taken, session_load_taken, session_save_taken}
use Rattle.device_laws.proofs.laws.moved_sessions_are_taken.Goals as goal

pub returns-clause-save : goal.returns-clause-save
returns-clause-save c = session_save_taken

pub returns-clause-flush : goal.returns-clause-flush
returns-clause-flush c = session_flush_taken

pub returns-clause-load : goal.returns-clause-load
returns-clause-load c = session_load_taken
