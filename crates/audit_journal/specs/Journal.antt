-- What is seen of a journal.
use Rattle.std.specs.Prelude.{ℕ, ◌+◌, ◌*◌, Bool, nat_le, List}
use Rattle.tab_spec.specs.declared.TheConstants.{MOST_BYTES}
use Rattle.history_spec.specs.Entry as spec
use Rattle.history_spec.specs.Entry.{kept}
use Rattle.audit_journal.specs.declared.journal.Entry.{Entry}

pub record JournalView : Type 0 where
  pub entries : List spec.Entry
  -- how many bytes its entries may keep
  pub limit : ℕ

-- an entry without where it lies in memory
abbrev pub seen_entry : Entry → spec.Entry
seen_entry e = record { client = e.client; number = e.number; kind = e.kind; pick = e.pick; faults = e.faults; command = e.command.now; reply = e.reply.now }

-- whether there is room for the entry of a command of this length with the largest reply, and then for the closes of so many clients
abbrev pub has_room : JournalView → ℕ → ℕ → Bool
has_room journal command_length clients = nat_le (kept journal.entries + 64 + command_length + MOST_BYTES + 64 * clients) journal.limit

-- whether there is room for the opening and the close of one more client, and for the closes of so many others
abbrev pub has_room_for_client : JournalView → ℕ → Bool
has_room_for_client journal clients = nat_le (kept journal.entries + 128 + 64 * clients) journal.limit
