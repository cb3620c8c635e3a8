use Rattle.client_laws.proofs.Saving.{object_sequence_read, save_object_plain, save_over, save_over_taken, save_sent, save_session_plain, session_sequence_read}
use Rattle.client_laws.proofs.contexts.clients_contexts_are_saved.Goals as goal

pub returns-clause-sent : goal.returns-clause-sent
returns-clause-sent c = save_sent

pub returns-clause-over : goal.returns-clause-over
returns-clause-over c = save_over

pub returns-clause-taken : goal.returns-clause-taken
returns-clause-taken c = save_over_taken

pub returns-clause-object : goal.returns-clause-object
returns-clause-object c = save_object_plain

pub returns-clause-session : goal.returns-clause-session
returns-clause-session c = save_session_plain

pub returns-clause-object_sequence : goal.returns-clause-object_sequence
returns-clause-object_sequence c = object_sequence_read

pub returns-clause-session_sequence : goal.returns-clause-session_sequence
returns-clause-session_sequence c = session_sequence_read
