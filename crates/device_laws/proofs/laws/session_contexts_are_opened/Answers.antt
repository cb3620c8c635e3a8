use Rattle.device_laws.proofs.SessionContexts.{session_context_small, session_opened, session_opened_is, session_opened_spelling}
use Rattle.device_laws.proofs.laws.session_contexts_are_opened.Goals as goal

pub returns-clause-session : goal.returns-clause-session
returns-clause-session c = session_opened

pub returns-clause-most : goal.returns-clause-most
returns-clause-most c = session_context_small

pub returns-clause-sound : goal.returns-clause-sound
returns-clause-sound c = session_opened_is

pub returns-clause-one_spelling : goal.returns-clause-one_spelling
returns-clause-one_spelling c = session_opened_spelling
