use Rattle.std.proofs.Common.{◌∙◌, ◌<◌, ◌∷◌, ◌++◌, [], ℕ, List, length, ap, subst, sym, arith}
use Rattle.std.specs.Prelude.{Option, Some}
use Rattle.object_swap.specs.declared.TheConstants.{PLACES_MOST}
use Rattle.object_swap.specs.Items.{ObjectsView, has_list}
use Rattle.object_swap.specs.Records.{IsOwnedBy, items_of}
use Rattle.object_swap.proofs.Owned.{owned_added, owned_reused}
use Rattle.object_swap.proofs.swapper.Objects.add_client.Goals as goal

pub invariant_of-self : goal.invariant_of-self
invariant_of-self c =
    let inside = c.self.inside in
    let new = ap (λ (v : ObjectsView). has_list v.owners c.args.client) c.self.view_is ∙ c.requires.new in
    let found = c.in-Some.ensures in
    record {
      owned = subst (λ (l : List (Option ℕ)). IsOwnedBy (items_of inside.records.items) inside.lists l inside.vacant) (sym found.2)
          (owned_reused (items_of inside.records.items) inside.lists inside.owners.owners inside.vacant c.self.invariant.owned c.in-Some.list c.args.client new
          found.0 found.1);
      held = c.self.invariant.held;
    }

pub invariant_of-self-2 : goal.invariant_of-self-2
invariant_of-self-2 c =
    let inside = c.self.inside in
    let items = items_of inside.records.items in
    let owners = inside.owners.owners in
    let new = ap (λ (v : ObjectsView). has_list v.owners c.args.client) c.self.view_is ∙ c.requires.new in
    let added = c.in_ok-list.ensures in
    let same = c.in_default.ensures.1 in
    let few : length owners < PLACES_MOST = omega (arith, c.len.ensures, c.if-len.false, ap (λ (l : List (Option ℕ)). length l) same) in
    let more = c.push.ensures ∙ ap (λ (l : List (Option ℕ)). l ++ Some c.args.client ∷ []) (c.reserve.ensures.owners ∙ same) in
    record {
      owned = subst (λ (l : List (Option ℕ)). IsOwnedBy items c.add_list.new.self l inside.vacant) (sym more)
          (owned_added items inside.lists owners inside.vacant c.self.invariant.owned c.add_list.new.self c.args.client new few
          added.ok added.spare.0 added.spare.1);
      held = c.self.invariant.held;
    }
