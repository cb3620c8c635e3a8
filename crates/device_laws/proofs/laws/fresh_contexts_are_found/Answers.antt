use Rattle.device_laws.proofs.FreshContexts.{fresh_object_at, fresh_session_at, object_at_is, object_at_same, session_at_is}
use Rattle.device_laws.proofs.laws.fresh_contexts_are_found.Goals as goal

pub returns-clause-object : goal.returns-clause-object
returns-clause-object c = fresh_object_at

pub returns-clause-object_sound : goal.returns-clause-object_sound
returns-clause-object_sound c = object_at_is

pub returns-clause-object_same : goal.returns-clause-object_same
returns-clause-object_same c = object_at_same

pub returns-clause-session : goal.returns-clause-session
returns-clause-session c = fresh_session_at

pub returns-clause-session_sound : goal.returns-clause-session_sound
returns-clause-session_sound c = session_at_is
