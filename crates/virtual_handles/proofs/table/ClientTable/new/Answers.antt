use Rattle.std.proofs.Common.{ℕ, List, Option, sym, subst}
use Rattle.std.specs.Prelude.{replicate}
use Rattle.virtual_handles.specs.Blocks.{PlacesAreCounted}
use Rattle.virtual_handles.proofs.Kept.{counted_nothing}
use Rattle.virtual_handles.proofs.table.ClientTable.new.Goals as goal

pub invariant_of-result : goal.invariant_of-result
invariant_of-result c = subst (λ (places : List (Option ℕ)). PlacesAreCounted places (replicate 64 0) 0) (sym c.new.ensures.items) counted_nothing
