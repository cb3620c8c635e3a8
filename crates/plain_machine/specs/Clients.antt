-- The open clients, in the order of opening.
use Rattle.std.specs.Prelude.{ℕ, ◌+◌, ◌==◌, Bool, List, [], ◌∷◌, if◌then◌else◌}
use Rattle.std.specs.List.{list_any}
use Rattle.world_spec.specs.World.{Client}

-- whether a client is open
abbrev pub is_open_in : List Client → ℕ → Bool
is_open_in clients client = list_any (λ c. c.number == client) clients

-- its place among them; how many there are, where it isn't open
abbrev pub place_in : List Client → ℕ → ℕ
place_in [] client = 0
place_in (c ∷ clients) client = if c.number == client then 0 else 1 + place_in clients client
