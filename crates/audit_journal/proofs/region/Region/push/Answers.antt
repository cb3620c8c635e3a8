use Rattle.std.proofs.Common.{◌≡◌, [], ◌∷◌, ◌++◌, ap, ◌∙◌, rules}
use Rattle.audit_journal.specs.declared.record.Record.{Record}
use Rattle.audit_journal.specs.Journal.{seen_entry}
use Rattle.audit_journal.specs.Region.{RegionView}
use Rattle.audit_journal.proofs.RegionLemmas.{IsLast, map-entry_of-push, kept_push}
use Rattle.audit_journal.proofs.region.Region.push.Goals as goal

pub invariant_of-self : goal.invariant_of-self
invariant_of-self c =
    let r : Record = record {
      client = c.args.entry.now.client;
      number = c.args.entry.now.number;
      kind = c.args.entry.now.kind;
      pick = c.args.entry.now.pick;
      faults = c.args.entry.now.faults;
      start = c.len-start.result;
      middle = c.len-middle.result;
      end = c.len-end.result;
    } in
    let bytes : c.extend_from_slice-2.new.self.items ≡ c.self.inside.bytes.items ++ c.args.entry.now.command.now ++ c.args.entry.now.reply.now = search rules in
    let records : c.push_reserved.new.self.items ≡ c.self.inside.records.items ++ r ∷ [] = search rules in
    let last : IsLast c.self.inside.bytes.items c.args.entry.now.command.now c.args.entry.now.reply.now r = record { start = search rules; middle = search rules; end = search rules } in
    rw (bytes, records) (kept_push _ _ _ _ r c.self.invariant last)

pub returns-clause-pushed : goal.returns-clause-pushed
returns-clause-pushed c =
    let r : Record = record {
      client = c.args.entry.now.client;
      number = c.args.entry.now.number;
      kind = c.args.entry.now.kind;
      pick = c.args.entry.now.pick;
      faults = c.args.entry.now.faults;
      start = c.len-start.result;
      middle = c.len-middle.result;
      end = c.len-end.result;
    } in
    let bytes : c.extend_from_slice-2.new.self.items ≡ c.self.inside.bytes.items ++ c.args.entry.now.command.now ++ c.args.entry.now.reply.now = search rules in
    let records : c.push_reserved.new.self.items ≡ c.self.inside.records.items ++ r ∷ [] = search rules in
    let last : IsLast c.self.inside.bytes.items c.args.entry.now.command.now c.args.entry.now.reply.now r = record { start = search rules; middle = search rules; end = search rules } in
    rw (bytes, records) (map-entry_of-push _ _ _ _ r c.self.invariant last)
    ∙ ap (λ (v : RegionView). v.entries ++ seen_entry c.args.entry.now ∷ []) c.self.view_is
