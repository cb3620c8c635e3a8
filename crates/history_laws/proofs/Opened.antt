-- How many clients are opened, by the bytes of their entries.
use Rattle.std.proofs.Common.{◌≤◌, ◌+◌, ◌*◌, ℕ, List, [], ◌∷◌, length, arith}
use Rattle.std.proofs.lemmas.List.Sums.{sum_by-cons}
use Rattle.history_spec.specs.declared.EntryKind.{EntryKind}
use Rattle.history_spec.specs.declared.EntryKind.TheVariants.{Open, Command, Canceled, Fault, Close}
use Rattle.history_spec.specs.Entry.{Clients, Entry, clients_by, clients_from, kept, kept_by, opened_by}

opened_more : (kind : EntryKind) (opened : ℕ) → opened_by kind opened ≤ opened + 1
opened_more Open opened = omega arith
opened_more Command opened = omega arith
opened_more (Canceled upto) opened = omega arith
opened_more Fault opened = omega arith
opened_more Close opened = omega arith

-- at most one client is opened by each entry
pub opened_most : (clients : Clients) (history : List Entry) → (clients_from clients history).opened ≤ clients.opened + length history
opened_most clients [] = omega arith
opened_most clients (e ∷ history) = omega (arith, opened_most (clients_by clients e) history, opened_more e.kind clients.opened)

-- each entry keeps 64 bytes at least
pub kept_least : (history : List Entry) → 64 * length history ≤ kept history
kept_least [] = omega arith
kept_least (e ∷ history) = omega (arith, kept_least history, sum_by-cons kept_by e history)
