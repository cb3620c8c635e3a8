use Rattle.std.proofs.Common.{List, ℕ, ap, arith, subst, sym}
use Rattle.std.specs.Prelude.{Option, vec_capacity}
use Rattle.object_swap.specs.Records.{ListsFree, OwnersView}
use Rattle.object_swap.proofs.FreeLists.{free_more}
use Rattle.object_swap.proofs.owners.Owners.push.Goals as goal

pub invariant_of-self : goal.invariant_of-self
invariant_of-self c =
    let inside = c.self.inside in
    subst (λ (l : List (Option ℕ)). ListsFree l inside.free.items (vec_capacity inside.free)) (sym c.push_reserved.ensures.items)
    (free_more inside.owners.items inside.free.items _ c.self.invariant c.args.client
    (omega (arith, c.requires, ap (λ (v : OwnersView). v.spare) c.self.view_is)))
