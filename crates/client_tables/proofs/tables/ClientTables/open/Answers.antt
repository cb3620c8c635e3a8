use Rattle.std.proofs.Common.{sym, ap, arith}
use Rattle.client_tables.specs.View.{TablesView}
use Rattle.client_tables.proofs.Seen.{seen_length, seen_opened}
use Rattle.client_tables.proofs.tables.ClientTables.open.Goals as goal

pub overflow_add-self : goal.overflow_add-self
overflow_add-self c = omega (arith, c.requires.few, seen_length _ _ _ c.args.self.now c.self.view_is)

pub returns : goal.returns
returns c =
    let seen = seen_opened _ _ _ _ 0 c.args.list c.new-table.result c.args.self.now c.self.view_is c.new-table.ensures (rw c.unwrap.ensures at c.insert-put.ensures.updates).0 in
    record {
      number = sym (seen_length _ _ _ c.args.self.now c.self.view_is);
      items = ap (λ (v : TablesView). v.items) seen;
      lists = ap (λ (v : TablesView). v.lists) seen;
      present = ap (λ (v : TablesView). v.present) seen;
      spare = omega (arith, c.insert-put.ensures.spare, ap (λ (v : TablesView). v.spare) c.self.view_is);
    }
