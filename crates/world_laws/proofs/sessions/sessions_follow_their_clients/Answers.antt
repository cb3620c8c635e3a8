use Rattle.world_laws.proofs.Owners.{other_closed, own_closed}
use Rattle.world_laws.proofs.sessions.sessions_follow_their_clients.Goals as goal

pub returns-clause-other_closed : goal.returns-clause-other_closed
returns-clause-other_closed c = other_closed

pub returns-clause-own_closed : goal.returns-clause-own_closed
returns-clause-own_closed c = own_closed
