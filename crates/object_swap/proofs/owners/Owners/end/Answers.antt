use Rattle.std.proofs.Common.{◌∙◌, ℕ, List, None, ap, arith, set, subst, sym}
use Rattle.std.specs.Prelude.{vec_capacity}
use Rattle.object_swap.specs.Items.{owner_at}
use Rattle.object_swap.specs.Records.{ListsFree, OwnersView}
use Rattle.object_swap.proofs.FreeLists.{free_ended, room_free}
use Rattle.object_swap.proofs.owners.Owners.end.Goals as goal

pub push_reserved-requires : goal.push_reserved-requires
push_reserved-requires c =
    let inside = c.self.inside in
    let owner = ap (λ (v : OwnersView). owner_at v.owners c.args.list) c.self.view_is ∙ c.requires.1 in
    omega (arith, room_free inside.owners.items inside.free.items _ c.self.invariant c.args.list c.requires.0 owner)

pub invariant_of-self : goal.invariant_of-self
invariant_of-self c =
    let inside = c.self.inside in
    let owner = ap (λ (v : OwnersView). owner_at v.owners c.args.list) c.self.view_is ∙ c.requires.1 in
    let room = vec_capacity c.push_reserved.new.self in
    subst (λ (l : List ℕ). ListsFree (set inside.owners.items c.args.list None) l room) (sym c.push_reserved.ensures.items)
    (free_ended inside.owners.items inside.free.items _ c.self.invariant c.args.list c.requires.0 owner room (omega (arith, c.push_reserved.ensures.capacity)))
