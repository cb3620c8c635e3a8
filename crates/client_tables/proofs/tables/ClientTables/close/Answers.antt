use Rattle.std.proofs.Common.{sym, ap, ◌∙◌, arith}
use Rattle.client_tables.specs.View.{TablesView}
use Rattle.client_tables.proofs.Seen.{seen_closed, seen_list, seen_open}
use Rattle.client_tables.proofs.tables.ClientTables.close.Goals as goal

pub unwrap-requires : goal.unwrap-requires
unwrap-requires c = rw c.remove.ensures.value (seen_open _ _ _ c.args.client c.args.self.now c.self.view_is c.requires).0

pub returns : goal.returns
returns c =
    let seen = seen_closed _ _ _ _ 0 c.args.client c.args.self.now c.self.view_is c.requires c.remove.ensures.updates.0 in
    record {
      list = seen_list _ _ _ c.args.client c.unwrap.result c.args.self.now c.self.view_is c.requires (sym c.remove.ensures.value ∙ c.unwrap.ensures);
      items = ap (λ (v : TablesView). v.items) seen;
      lists = ap (λ (v : TablesView). v.lists) seen;
      present = ap (λ (v : TablesView). v.present) seen;
      spare = omega (arith, c.remove.ensures.spare, ap (λ (v : TablesView). v.spare) c.self.view_is);
    }
