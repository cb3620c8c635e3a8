-- A history: what happened to a broker's clients, one entry after another.
use Rattle.std.specs.Prelude.{ℕ, ◌≡◌, ◌<◌, ◌≤◌, ◌⊎◌, ◌+◌, ◌*◌, ◌==◌, ◌&&◌, ◌||◌, nat_lt, Bool, true, false, if◌then◌else◌, List, [], ◌∷◌, ◌++◌, length}
use Rattle.std.specs.Bool.{IsTrue}
use Rattle.std.specs.List.{filter, sum_by, list_any, AllByRecursion}
use Rattle.tab_spec.specs.declared.TheConstants.{MOST_BYTES}
use Rattle.history_spec.specs.declared.TheConstants.{ENTRY_BYTES, JOURNAL_LEAST, JOURNAL_MOST, MOST_CLIENTS, SILENT_LIMIT}
use Rattle.history_spec.specs.declared.Pick.{Pick}
use Rattle.history_spec.specs.declared.Pick.TheVariants.{Nothing}
use Rattle.history_spec.specs.declared.EntryKind.{EntryKind}
use Rattle.history_spec.specs.declared.EntryKind.TheVariants.{Open, Command, Canceled, Fault, Close}

pub record Entry : Type 0 where
  pub client : ℕ
  -- of a command among its client's commands, from 1; else 0
  pub number : ℕ
  pub kind : EntryKind
  pub pick : Pick
  -- the device's fault count, of a Fault; else 0
  pub faults : ℕ
  pub command : List ℕ
  pub reply : List ℕ

abbrev pub open_entry : ℕ → Entry
open_entry client = record { client = client; number = 0; kind = Open; pick = Nothing; faults = 0; command = []; reply = [] }

abbrev pub close_entry : ℕ → Entry
close_entry client = record { client = client; number = 0; kind = Close; pick = Nothing; faults = 0; command = []; reply = [] }

abbrev pub command_entry : ℕ → ℕ → Pick → List ℕ → List ℕ → Entry
command_entry client number pick command reply =
    record { client = client; number = number; kind = Command; pick = pick; faults = 0; command = command; reply = reply }

abbrev pub canceled_entry : ℕ → ℕ → ℕ → List ℕ → List ℕ → Entry
canceled_entry client number upto command reply =
    record { client = client; number = number; kind = Canceled upto; pick = Nothing; faults = 0; command = command; reply = reply }

abbrev pub fault_entry : ℕ → ℕ → ℕ → List ℕ → List ℕ → Entry
fault_entry client number faults command reply =
    record { client = client; number = number; kind = Fault; pick = Nothing; faults = faults; command = command; reply = reply }

abbrev pub is_fault_kind : EntryKind → Bool
is_fault_kind Open = false
is_fault_kind Command = false
is_fault_kind (Canceled upto) = false
is_fault_kind Fault = true
is_fault_kind Close = false

-- whether an entry is of a command whose transmission failed
abbrev pub is_fault : Entry → Bool
is_fault e = is_fault_kind e.kind

-- the entries of one client, in their order
abbrev pub own : List Entry → ℕ → List Entry
own history client = filter (λ e. e.client == client) history

-- the bytes that a history keeps
abbrev pub kept_by : Entry → ℕ
kept_by e = ENTRY_BYTES + length e.command + length e.reply

abbrev pub kept : List Entry → ℕ
kept history = sum_by kept_by history

-- ---- who is open

-- the list without the first such number
abbrev pub without : ℕ → List ℕ → List ℕ
without n [] = []
without n (m ∷ ms) = if m == n then ms else m ∷ without n ms

-- how many clients were opened, after one more entry
abbrev pub opened_by : EntryKind → ℕ → ℕ
opened_by Open opened = opened + 1
opened_by Command opened = opened
opened_by (Canceled upto) opened = opened
opened_by Fault opened = opened
opened_by Close opened = opened

-- the open clients, in the order of opening, after one more entry
abbrev pub present_by : EntryKind → ℕ → List ℕ → List ℕ
present_by Open client clients = clients ++ client ∷ []
present_by Command client clients = clients
present_by (Canceled upto) client clients = clients
present_by Fault client clients = clients
present_by Close client clients = without client clients

-- the clients of a history: how many were opened, and which are open
pub record Clients : Type 0 where
  pub opened : ℕ
  pub present : List ℕ

abbrev pub clients_by : Clients → Entry → Clients
clients_by clients e = record { opened = opened_by e.kind clients.opened; present = present_by e.kind e.client clients.present }

abbrev pub clients_from : Clients → List Entry → Clients
clients_from clients [] = clients
clients_from clients (e ∷ history) = clients_from (clients_by clients e) history

abbrev pub clients_of : List Entry → Clients
clients_of history = clients_from (record { opened = 0; present = [] }) history

-- whether a client is open after a history
abbrev pub IsOpen : List Entry → ℕ → Type 0
IsOpen history client = IsTrue (list_any (λ present. present == client) (clients_of history).present)

-- numbers of one client rise from 1 on
pub record IsNextNumber (before : List Entry) (client number : ℕ) : Type 0 where
  pub positive : 1 ≤ number
  pub above : AllByRecursion (λ e. e.number < number) (own before client)

-- ---- the room of a journal

-- the bytes that a history keeps, and those of a Close entry for each open client. Each legal entry leaves it as it was or higher
abbrev pub reserved : List Entry → ℕ
reserved history = kept history + ENTRY_BYTES * length (clients_of history).present

-- what an entry of a command of so many bytes may take at most, beside its command: its own bytes and the largest reply
abbrev pub entry_room : ℕ
entry_room = ENTRY_BYTES + MOST_BYTES

-- a journal of this limit has room for a command after this history
abbrev pub HasRoom : ℕ → List Entry → List ℕ → Type 0
HasRoom limit history command = reserved history + entry_room + length command ≤ limit

-- a limit that a journal may have: of one that keeps its entries, or of one that only counts them
abbrev pub IsLimit : ℕ → Type 0
IsLimit limit = ((JOURNAL_LEAST ≤ limit) × (limit ≤ JOURNAL_MOST)) ⊎ (limit ≡ SILENT_LIMIT)

-- it has no room
abbrev pub LacksRoom : ℕ → List Entry → List ℕ → Type 0
LacksRoom limit history command = limit < reserved history + entry_room + length command

-- it has room for another client and for the Close of that one, and there is a number left for it
pub record HasRoomForClient (limit : ℕ) (history : List Entry) : Type 0 where
  pub bytes : reserved history + 2 * ENTRY_BYTES ≤ limit
  pub number : (clients_of history).opened < MOST_CLIENTS

abbrev pub is_close_kind : EntryKind → Bool
is_close_kind Open = false
is_close_kind Command = false
is_close_kind (Canceled upto) = false
is_close_kind Fault = false
is_close_kind Close = true

-- whether an entry comes after this client's command of that number: it has a greater one, or is the client's Close
abbrev pub is_after : ℕ → ℕ → Entry → Bool
is_after client number e = e.client == client && (nat_lt number e.number || is_close_kind e.kind)

-- the part of a history before all such entries
abbrev pub part_before : ℕ → ℕ → List Entry → List Entry
part_before client number [] = []
part_before client number (e ∷ history) = if is_after client number e then [] else e ∷ part_before client number history
