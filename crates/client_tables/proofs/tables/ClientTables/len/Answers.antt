use Rattle.std.proofs.Common.{◌≡◌, ℕ, [], false, get_or, sym, subst, nat_eq}
use Rattle.std.specs.HashMap.{get}
use Rattle.client_tables.specs.Kept.{is_among}
use Rattle.client_tables.specs.View.{TablesView}
use Rattle.client_tables.proofs.Seen.{seen_length, seen_nothing}
use Rattle.client_tables.proofs.tables.ClientTables.len.Goals as goal

pub returns-clause-count : goal.returns-clause-count
returns-clause-count c = sym (seen_length _ _ _ c.args.self.now c.self.view_is)

pub returns-clause-closed : goal.returns-clause-closed
returns-clause-closed c =
    subst (λ (v : TablesView). (client : ℕ) → is_among client v.present ≡ false → get_or v.items client [] ≡ []) c.self.view_is
    (seen_nothing (get nat_eq c.self.inside.clients) c.self.inside.opened)
