-- What a table that is handed out leaves of all tables.
use Rattle.std.specs.Prelude.{ℕ, set}
use Rattle.std.specs.Borrow.{Lends, MutBor, Fml}
use Rattle.virtual_handles.specs.View.{TableView}
use Rattle.virtual_handles.specs.contracts.table.ClientTable as table
use Rattle.client_tables.specs.View.{TablesView}
use Rattle.client_tables.specs.contracts.tables.ClientTables as tables

-- the tables with what a client's table became
abbrev pub with_table : TablesView → ℕ → TableView → TablesView
with_table old client t = record old { items = set old.items client t.items }

-- what is last written through r ends up as the client's table, and the rest stays
abbrev pub LendsTable : MutBor TablesView → ℕ → MutBor TableView → Fml
LendsTable old client r = Lends tables.the_row table.the_row old r (with_table old.now client)
