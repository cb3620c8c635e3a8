use Rattle.client_laws.proofs.Listing.{list_taken, list_told}
use Rattle.client_laws.proofs.contexts.devices_list_for_clients.Goals as goal

pub returns-clause-told : goal.returns-clause-told
returns-clause-told c = list_told

pub returns-clause-taken : goal.returns-clause-taken
returns-clause-taken c = list_taken
