-- How a journal keeps its entries: the bytes of all of them one after another, and where each one's lie.
use Rattle.std.specs.Prelude.{◌≡◌, ◌≤◌, ◌+◌, ◌*◌, ℕ, List, length, map, Option, MatchOption}
use Rattle.std.specs.List.{All, AllByRecursion, between}
use Rattle.tab_spec.specs.Values.{AreBytes}
use Rattle.history_spec.specs.declared.TheConstants.{JOURNAL_LEAST, JOURNAL_MOST}
use Rattle.history_spec.specs.Entry.{Entry, kept}
use Rattle.history_spec.specs.declared.TheConstants.{SILENT_LIMIT}
use Rattle.audit_journal.specs.declared.counts.Counts.{Counts}
use Rattle.audit_journal.specs.declared.record.Record.{Record}
use Rattle.audit_journal.specs.Counts.{counts_of}

-- the entry that is kept so
abbrev pub entry_of : List ℕ → Record → Entry
entry_of bytes r = record {
  client = r.client;
  number = r.number;
  kind = r.kind;
  pick = r.pick;
  faults = r.faults;
  command = between r.start r.middle bytes;
  reply = between r.middle r.end bytes;
}

-- the entry's bytes lie in a region of this size
pub record LiesIn (size : ℕ) (r : Record) : Type 0 where
  pub command : r.start ≤ r.middle
  pub reply : r.middle ≤ r.end
  pub inside : r.end ≤ size

-- each entry's bytes lie in the region, and the entries keep all of its bytes, and 64 each
pub record HasKept (bytes : List ℕ) (records : List Record) : Type 0 where
  pub each : All (LiesIn (length bytes)) records
  pub kept_is : kept (map (entry_of bytes) records) ≡ 64 * length records + length bytes

-- what is seen of a region
pub record RegionView : Type 0 where
  pub entries : List Entry
  -- how many bytes its entries may keep in the memory that it has
  pub most : ℕ

-- the entries are counted, and what they keep is within the limit; where they are kept it is they
pub record IsSound (entries : List Entry) (counts : Counts) (limit : ℕ) (region : Option RegionView) : Type 0 where
  pub counted : counts ≡ counts_of entries
  pub within : kept entries ≤ limit
  pub are : AllByRecursion (λ e. AreBytes e.reply) entries
  pub region_is : MatchOption region (limit ≡ SILENT_LIMIT)
      (λ r. (JOURNAL_LEAST ≤ limit) × (limit ≤ JOURNAL_MOST) × (r.entries ≡ entries) × (limit ≤ r.most))
