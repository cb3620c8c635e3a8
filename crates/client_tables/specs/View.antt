-- What is seen of the tables of all clients.
use Rattle.std.specs.Prelude.{ℕ, List, Option}

pub record TablesView : Type 0 where
  -- for each client that was opened, which item stands for each of its objects, by number; nothing where it is closed
  pub items : List (List (Option ℕ))
  -- the number of the list of each of them; 0 where it is closed
  pub lists : List ℕ
  -- the numbers of the open clients
  pub present : List ℕ
  -- how many more find room without memory being taken
  pub spare : ℕ
