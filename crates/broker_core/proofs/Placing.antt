-- Whose tables a broker keeps: those of the open clients, after each entry. And the room for one client more.
use Rattle.std.proofs.Common.{◌≡◌, ◌<◌, ◌+◌, ◌*◌, ℕ, true, List, [], ◌∷◌, ◌++◌, length, Option, sym, ap, subst, ◌∙◌, arith}
use Rattle.std.proofs.lemmas.Bool.{le-leb, leb-true}
use Rattle.std.proofs.lemmas.List.{set-get_or}
use Rattle.std.specs.Bool.{IsTrue}
use Rattle.std.specs.Prelude.{set}
use Rattle.history_spec.specs.declared.TheConstants.{MOST_CLIENTS}
use Rattle.history_spec.specs.Entry.{Clients, Entry, HasRoomForClient, IsOpen, clients_of, close_entry, kept, open_entry, present_by, without}
use Rattle.world_laws.proofs.Histories.{clients_of-push}
use Rattle.client_tables.specs.Kept.{is_among}
use Rattle.audit_journal.specs.Journal.{JournalView, has_room_for_client}
use Rattle.broker_core.specs.Tables.{table_of}

-- ---- whose tables are kept

-- an open client has a table
pub open_there : (history : List Entry) (client : ℕ) {present : List ℕ} → present ≡ (clients_of history).present → IsOpen history client → IsTrue (is_among client present)
open_there history client are opened = subst (λ (p : List ℕ). IsTrue (is_among client p)) (sym are) opened

-- an entry that opens and closes none
pub present_same : (history : List Entry) (e : Entry) → present_by e.kind e.client (clients_of history).present ≡ (clients_of history).present
    → (clients_of (history ++ e ∷ [])).present ≡ (clients_of history).present
present_same history e same = ap (λ (c : Clients). c.present) (clients_of-push history e) ∙ same

pub kept_same : (history : List Entry) (e : Entry) {present : List ℕ} → present_by e.kind e.client (clients_of history).present ≡ (clients_of history).present
    → present ≡ (clients_of history).present → present ≡ (clients_of (history ++ e ∷ [])).present
kept_same history e same are = are ∙ sym (present_same history e same)

pub kept_opened : (history : List Entry) (client : ℕ) {before after : List ℕ} → before ≡ (clients_of history).present → after ≡ before ++ client ∷ []
    → after ≡ (clients_of (history ++ open_entry client ∷ [])).present
kept_opened history client are pushed =
    pushed ∙ ap (λ (p : List ℕ). p ++ client ∷ []) are ∙ sym (ap (λ (c : Clients). c.present) (clients_of-push history (open_entry client)))

pub kept_closed : (history : List Entry) (client : ℕ) {before after : List ℕ} → before ≡ (clients_of history).present → after ≡ without client before
    → after ≡ (clients_of (history ++ close_entry client ∷ [])).present
kept_closed history client are taken =
    taken ∙ ap (without client) are ∙ sym (ap (λ (c : Clients). c.present) (clients_of-push history (close_entry client)))

-- ---- one table

-- one that is as it was
pub tables_same : (tables : List (List (Option ℕ))) (client : ℕ) (table : List (Option ℕ)) → table ≡ table_of tables client → set tables client table ≡ tables
tables_same tables client table same = ap (set tables client) same ∙ set-get_or tables client []

-- ---- room

pub room_for_client : (journal : JournalView) (clients opened : ℕ) → clients ≡ length (clients_of journal.entries).present → opened ≡ (clients_of journal.entries).opened → has_room_for_client journal clients ≡ true → opened < MOST_CLIENTS
    → HasRoomForClient journal.limit journal.entries
room_for_client journal clients opened is is_opened e number =
    record { bytes = omega (arith, is, leb-true (kept journal.entries + 128 + 64 * clients) journal.limit e); number = omega (arith, number, is_opened) }

pub room_there : (journal : JournalView) (clients : ℕ) → clients ≡ length (clients_of journal.entries).present → HasRoomForClient journal.limit journal.entries → has_room_for_client journal clients ≡ true
room_there journal clients is has = le-leb (kept journal.entries + 128 + 64 * clients) journal.limit (omega (arith, is, has.bytes))
