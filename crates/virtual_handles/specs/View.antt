-- What is seen of a client's table.
use Rattle.std.specs.Prelude.{ℕ, List, Option}

pub record TableView : Type 0 where
  -- the item that stands for each number, which is free where there is none
  pub items : List (Option ℕ)
  -- how many more find room without memory being taken
  pub spare : ℕ
