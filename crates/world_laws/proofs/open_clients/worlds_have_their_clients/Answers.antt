use Rattle.world_laws.proofs.Clients.{is_open, once, opened, present}
use Rattle.world_laws.proofs.open_clients.worlds_have_their_clients.Goals as goal

pub returns-clause-opened : goal.returns-clause-opened
returns-clause-opened c = opened

pub returns-clause-present : goal.returns-clause-present
returns-clause-present c = present

pub returns-clause-is_open : goal.returns-clause-is_open
returns-clause-is_open c = is_open

pub returns-clause-once : goal.returns-clause-once
returns-clause-once c = once
