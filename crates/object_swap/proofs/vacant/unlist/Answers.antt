use Rattle.std.proofs.Common.{List, ℕ, ap, sym, ◌∙◌, subst, arith, length, get_or, set, false, ◌<◌, ◌≡◌}
use Rattle.std.specs.List.{remove}
use Rattle.device_port.specs.Use.{without_one}
use Rattle.object_swap.specs.Records.{ListsFlags}
use Rattle.object_swap.proofs.Flags.{lists_removed}
use Rattle.object_swap.proofs.vacant.unlist.Goals as goal

pub returns-clause-listed : goal.returns-clause-listed
returns-clause-listed c flags lists =
    let indices = c.args.indices.now.items in
    let at = c.place_of-at.result in
    let inside : at < length indices = omega (arith, c.place_of-at.ensures.inside, ap length c.deref.ensures.value) in
    let there = sym (ap (λ (l : List ℕ). get_or l at 0) c.deref.ensures.value) ∙ c.place_of-at.ensures.there in
    subst (λ (l : List ℕ). ListsFlags (set flags c.args.index false) l) (sym c.remove.ensures.items)
    (subst (λ (n : ℕ). ListsFlags (set flags n false) (remove indices at)) there (lists_removed flags indices at 0 lists inside))

pub returns-clause-order : goal.returns-clause-order
returns-clause-order c =
    c.remove.ensures.items
    ∙ sym (subst (λ (l : List ℕ). without_one c.args.index l ≡ remove l c.place_of-at.result) c.deref.ensures.value c.place_of-at.ensures.first)
