-- How the tables are kept: at an open client's number its table and its list, and nothing at another.
use Rattle.std.specs.Prelude.{◌==◌, ℕ, Bool, List, [], Option, None, Some, map, is_some}
use Rattle.std.specs.List.{filter, list_any, range_with_len}
use Rattle.client_tables.specs.declared.open_client.OpenClient.{OpenClient}
use Rattle.client_tables.specs.View.{TablesView}

-- whether a number is among these
abbrev pub is_among : ℕ → List ℕ → Bool
is_among number numbers = list_any (λ other. other == number) numbers

-- the items of what is kept at a number, and its list
abbrev pub items_of : Option OpenClient → List (Option ℕ)
items_of None = []
items_of (Some client) = client.table.items

abbrev pub list_of : Option OpenClient → ℕ
list_of None = 0
list_of (Some client) = client.list

-- what is seen of as many clients as were opened, by what is kept at each number and by how many more find room
abbrev pub view_of : (ℕ → Option OpenClient) → ℕ → ℕ → TablesView
view_of kept opened room = record {
  items = map (λ client. items_of (kept client)) (range_with_len 0 opened);
  lists = map (λ client. list_of (kept client)) (range_with_len 0 opened);
  present = filter (λ client. is_some (kept client)) (range_with_len 0 opened);
  spare = room;
}
