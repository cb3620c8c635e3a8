-- How many entries there are of each kind, and how many bytes they keep.
use Rattle.std.specs.Prelude.{ℕ, ◌+◌, Bool, true, false, cond, List, length}
use Rattle.std.specs.List.{count_by}
use Rattle.history_spec.specs.declared.EntryKind.{EntryKind}
use Rattle.history_spec.specs.declared.EntryKind.TheVariants.{Open, Command, Canceled, Fault, Close}
use Rattle.history_spec.specs.Entry.{Entry, is_fault_kind, kept, kept_by}
use Rattle.audit_journal.specs.declared.counts.Counts.{Counts}

abbrev pub is_command_kind : EntryKind → Bool
is_command_kind Open = false
is_command_kind Command = true
is_command_kind (Canceled upto) = false
is_command_kind Fault = false
is_command_kind Close = false

abbrev pub is_canceled_kind : EntryKind → Bool
is_canceled_kind Open = false
is_canceled_kind Command = false
is_canceled_kind (Canceled upto) = true
is_canceled_kind Fault = false
is_canceled_kind Close = false

-- how many commands were answered
abbrev pub commands_in : List Entry → ℕ
commands_in history = count_by (λ e. is_command_kind e.kind) history

-- how many commands were canceled
abbrev pub canceled_in : List Entry → ℕ
canceled_in history = count_by (λ e. is_canceled_kind e.kind) history

-- how many transmissions of commands failed
abbrev pub faults_in : List Entry → ℕ
faults_in history = count_by (λ e. is_fault_kind e.kind) history

abbrev pub counts_of : List Entry → Counts
counts_of history = record { entries = length history; kept = kept history; commands = commands_in history; canceled = canceled_in history; faults = faults_in history }

-- counts, with one more entry
abbrev pub with_counted : Counts → Entry → Counts
with_counted c e = record {
  entries = c.entries + 1;
  kept = c.kept + kept_by e;
  commands = cond (is_command_kind e.kind) (c.commands + 1) c.commands;
  canceled = cond (is_canceled_kind e.kind) (c.canceled + 1) c.canceled;
  faults = cond (is_fault_kind e.kind) (c.faults + 1) c.faults;
}
