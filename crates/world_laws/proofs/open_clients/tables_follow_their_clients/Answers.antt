use Rattle.world_laws.proofs.Clients.{opened_table, other_table, other_without, own_table, own_without}
use Rattle.world_laws.proofs.open_clients.tables_follow_their_clients.Goals as goal

pub returns-clause-opened : goal.returns-clause-opened
returns-clause-opened c = opened_table

pub returns-clause-own : goal.returns-clause-own
returns-clause-own c = own_table

pub returns-clause-other : goal.returns-clause-other
returns-clause-other c = other_table

pub returns-clause-other_closed : goal.returns-clause-other_closed
returns-clause-other_closed c = other_without

pub returns-clause-own_closed : goal.returns-clause-own_closed
returns-clause-own_closed c = own_without
