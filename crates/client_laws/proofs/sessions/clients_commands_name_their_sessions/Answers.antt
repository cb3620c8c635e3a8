use Rattle.client_laws.proofs.NameSessions.{authorization_ends, left_among, named_none, named_own}
use Rattle.client_laws.proofs.sessions.clients_commands_name_their_sessions.Goals as goal

pub returns-clause-own : goal.returns-clause-own
returns-clause-own c = named_own

pub returns-clause-none : goal.returns-clause-none
returns-clause-none c = named_none

pub returns-clause-among : goal.returns-clause-among
returns-clause-among c = left_among

pub returns-clause-ended : goal.returns-clause-ended
returns-clause-ended c = authorization_ends
