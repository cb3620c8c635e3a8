-- The tables of a broker's clients, and their lists of objects.
use Rattle.std.specs.Prelude.{◌≡◌, ◌≤◌, ℕ, ◌+◌, true, false, List, [], length, get_or, Option, Some}
use Rattle.object_swap.specs.Items.{Item, has_free_list, owner_at}
use Rattle.client_machine.specs.declared.held.Held.{Held}
use Rattle.client_machine.specs.Tables.{IsTable, is_open}

-- the table of a client; the tables stand by the numbers of the clients
abbrev pub table_of : List (List (Option ℕ)) → ℕ → List (Option ℕ)
table_of tables client = get_or tables client []

-- each client has its table, and one that isn't open an empty one
pub record TablesStand (present : List ℕ) (tables : List (List (Option ℕ))) (items : List Item) : Type 0 where
  pub closed : (client : ℕ) → is_open client present ≡ false → table_of tables client ≡ []
  pub each : (client : ℕ) → IsTable items client (table_of tables client)

-- the number of a client's list of objects; these too stand by the numbers of the clients
abbrev pub list_of : List ℕ → ℕ → ℕ
list_of lists client = get_or lists client 0

-- the list of each open client is its own, and each list that is anybody's is that of an open client
pub record ListsStand (present lists : List ℕ) (owners : List (Option ℕ)) : Type 0 where
  pub own : (client : ℕ) → is_open client present ≡ true → owner_at owners (list_of lists client) ≡ Some client
  pub owned : (list client : ℕ) → owner_at owners list ≡ Some client → (is_open client present ≡ true) × (list ≡ list_of lists client)

-- there is one list more at most, and none if a list is free
pub record AddsList (owners new_owners : List (Option ℕ)) : Type 0 where
  pub again : has_free_list owners ≡ true → length new_owners ≡ length owners
  pub more : length new_owners ≤ length owners + 1

-- what is held, where these are the owners of the lists of objects
abbrev pub with_owners : Held → List (Option ℕ) → Held
with_owners held owners = record held { objects = record held.objects { owners = owners } }
