use Rattle.std.proofs.Common.{List, ℕ, [], ◌∷◌, ◌++◌, ◌<◌, ◌≡◌, ap, sym, ◌∙◌, subst, arith, length, get_or}
use Rattle.std.specs.List.{remove}
use Rattle.std.proofs.lemmas.List.Edits.{length-remove}
use Rattle.device_port.specs.Use.{without_one}
use Rattle.object_swap.specs.Records.{ListsFlags}
use Rattle.object_swap.proofs.Flags.{lists_moved}
use Rattle.object_swap.proofs.vacant.move_last.Goals as goal

pub list_last-requires : goal.list_last-requires
list_last-requires c =
    let indices = c.args.indices.now.items in
    let at = c.place_of-at.result in
    let inside : at < length indices = omega (arith, c.place_of-at.ensures.inside, ap length c.deref.ensures.value) in
    omega (arith, length-remove indices at inside, ap length c.remove.ensures.items, c.remove.ensures.capacity)

pub returns-clause-listed : goal.returns-clause-listed
returns-clause-listed c flags lists =
    let indices = c.args.indices.now.items in
    let at = c.place_of-at.result in
    let inside : at < length indices = omega (arith, c.place_of-at.ensures.inside, ap length c.deref.ensures.value) in
    let there = sym (ap (λ (l : List ℕ). get_or l at 0) c.deref.ensures.value) ∙ c.place_of-at.ensures.there in
    subst (λ (l : List ℕ). ListsFlags flags l) (sym (c.list_last.ensures.last ∙ ap (λ (l : List ℕ). l ++ c.args.index ∷ []) c.remove.ensures.items))
    (subst (λ (n : ℕ). ListsFlags flags (remove indices at ++ n ∷ [])) there (lists_moved flags indices at lists inside))

pub returns-clause-order : goal.returns-clause-order
returns-clause-order c =
    let first = subst (λ (l : List ℕ). without_one c.args.index l ≡ remove l c.place_of-at.result) c.deref.ensures.value c.place_of-at.ensures.first in
    c.list_last.ensures.last ∙ ap (λ (l : List ℕ). l ++ c.args.index ∷ []) (c.remove.ensures.items ∙ sym first)
