-- With what accepting begins.
use Rattle.std.specs.Prelude.{ℕ, List, Option, None}

pub record PoolStart (L : Type 0) : Type 0 where
  -- the connections that come, where the acceptor tells them
  pub coming : Option (List L)
  -- how often the acceptor has failed
  pub faults : ℕ
  -- which acceptor it is
  pub name : ℕ
  -- how many connections may be accepted
  pub most : ℕ

abbrev pub nothing_begun : {L : Type 0} → PoolStart L
nothing_begun = record { coming = None; faults = 0; name = 0; most = 0 }

abbrev pub start_of : {L : Type 0} → (coming : Option (List L)) → (faults name most : ℕ)
    → PoolStart L
start_of coming faults name most = record { coming = coming; faults = faults; name = name; most = most }
