use Rattle.std.proofs.Common.{◌≡◌, Option, Some, refl, sym, ap, ◌∙◌, nat_eq}
use Rattle.std.specs.HashMap.{get}
use Rattle.std.specs.Option.{option_copied_mut, is_some}
use Rattle.client_tables.specs.declared.open_client.OpenClient.{OpenClient}
use Rattle.client_tables.proofs.Seen.{lent, seen_changed, seen_items, seen_open}
use Rattle.client_tables.proofs.tables.ClientTables.table_mut.Goals as goal

pub unwrap-kept-requires : goal.unwrap-kept-requires
unwrap-kept-requires c = lent c.get_mut.result (rw c.get_mut.ensures.value (seen_open _ _ _ c.args.client c.args.self.now c.self.view_is c.requires).0)

pub returns : goal.returns
returns c =
    let now : OpenClient = c.unwrap-kept.result.now in
    let here : get nat_eq c.self.inside.clients c.args.client ≡ Some now = sym c.get_mut.ensures.value ∙ ap option_copied_mut c.unwrap-kept.ensures in (
      (
        refl,
        λ w.
            let held = c.get_mut.follows.holds (record now { table = w }) in
            seen_changed _ _ _ _ _ c.args.client now w c.args.self.now c.self.view_is here (held.3 (ap (λ (o : Option OpenClient). is_some o) here)).0 held.6,
      ),
      record {
        writes_back = tt;
        value = seen_items _ _ _ c.args.client now c.args.self.now c.self.view_is c.requires here;
      },
    )
