-- The rule of the table of commands, which its definition alone can't say.
use Rattle.std.specs.Prelude.{ℕ, ◌&&◌, nat_lt, nat_le, Bool, true, List, [], ◌∷◌, take, drop}
use Rattle.tab_spec.specs.declared.CommandRow.{CommandRow}
use Rattle.tab_spec.specs.Shape.{count_in}

-- at most the first handle has an authorization, and no handle stands after an absent one
abbrev pub keeps_rule : CommandRow → Bool
keeps_rule row =
    nat_le row.authorized 1 && nat_le row.authorized (count_in row.handles) && nat_le (count_in (drop 1 row.handles)) (count_in (take 1 row.handles))

-- the codes rise from above this one
abbrev pub rise_above : ℕ → List CommandRow → Bool
rise_above code [] = true
rise_above code (row ∷ rows) = nat_lt code row.code && rise_above row.code rows
