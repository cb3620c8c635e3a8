use Rattle.std.proofs.Common.{◌≡◌, ◌∙◌, ◌<◌, ℕ, List, None, ap, arith, length, refl, set, subst, sym}
use Rattle.std.specs.Prelude.{Option, Some, vec_capacity}
use Rattle.object_swap.specs.Items.{has_free_list, owner_at}
use Rattle.object_swap.specs.Records.{OwnersView}
use Rattle.object_swap.proofs.FreeLists.{free_taken, last_free, none_free}
use Rattle.object_swap.proofs.owners.Owners.take_free.Goals as goal

pub returns-in_err-list : goal.returns-in_err-list
returns-in_err-list c =
    let inside = c.self.inside in
    let owners = ap (λ (v : OwnersView). v.owners) c.self.view_is in
    rw c.from_residual.ensures
    (ap has_free_list (sym owners) ∙ none_free inside.owners.items inside.free.items _ c.self.invariant (omega (arith, c.in_err-list.ensures.cases)), owners)

pub index_mut-requires : goal.index_mut-requires
index_mut-requires c =
    let inside = c.self.inside in
    let last = last_free inside.owners.items inside.free.items _ c.self.invariant c.pop.new.self.items c.in_ok-list.list c.in_ok-list.ensures.items in
    omega (arith, last.0)

pub invariant_of-self-2 : goal.invariant_of-self-2
invariant_of-self-2 c =
    let inside = c.self.inside in
    free_taken inside.owners.items inside.free.items _ c.self.invariant c.pop.new.self.items c.in_ok-list.list c.args.client (vec_capacity c.pop.new.self) c.in_ok-list.ensures.items
    (omega (arith, c.pop.ensures.capacity))

pub returns : goal.returns
returns c =
    let inside = c.self.inside in
    let list = c.in_ok-list.list in
    let owners = inside.owners.items in
    let last = last_free owners inside.free.items _ c.self.invariant c.pop.new.self.items list c.in_ok-list.ensures.items in
    subst (λ (l : List (Option ℕ)). (list < length l) × (owner_at l list ≡ None) × (set owners list (Some c.args.client) ≡ set l list (Some c.args.client)))
    (ap (λ (v : OwnersView). v.owners) c.self.view_is) (last.0, last.1, refl)
