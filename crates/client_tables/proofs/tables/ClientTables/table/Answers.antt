use Rattle.client_tables.proofs.Seen.{seen_items, seen_open}
use Rattle.client_tables.proofs.tables.ClientTables.table.Goals as goal

pub index-requires : goal.index-requires
index-requires c = (seen_open _ _ _ c.args.client c.args.self.now c.self.view_is c.requires).0

pub returns : goal.returns
returns c = seen_items _ _ _ c.args.client c.index.result.now c.args.self.now c.self.view_is c.requires c.index.ensures
