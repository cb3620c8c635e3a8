use Rattle.world_laws.proofs.Histories.{clients_of-push, world_of-push, world_most, legal-push}
use Rattle.world_laws.proofs.laws.histories_grow.Goals as goal

pub returns-clause-clients : goal.returns-clause-clients
returns-clause-clients c = clients_of-push

pub returns-clause-world : goal.returns-clause-world
returns-clause-world c = world_of-push

pub returns-clause-most : goal.returns-clause-most
returns-clause-most c = world_most

pub returns-clause-legal : goal.returns-clause-legal
returns-clause-legal c = legal-push
