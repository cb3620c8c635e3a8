use Rattle.std.proofs.Common.{◌≡◌, ◌<◌, ℕ, List, [], ◌∷◌, IfSome, arith, refl, sym, subst, length}
use Rattle.std.specs.Prelude.{get_or, Option}
use Rattle.linked_records.specs.View.{IsListed, first_index}
use Rattle.wire_tests.proofs.lists.nth.Goals as goal

-- the first record of a list is listed
first_listed : {T : Type 0} (lists : List (List (ℕ × T))) (list : ℕ) (all : List (ℕ × T)) → list < length lists → get_or lists list [] ≡ all
    → IfSome (first_index all) (λ item. IsListed lists item)
first_listed lists list [] within is = tt
first_listed lists list (p ∷ rest) within is = record { list = list; before = []; value = p.1; after = rest; within = within; is = is }

pub loop-init : goal.loop-init
loop-init c =
    subst (λ (o : Option ℕ). IfSome o (λ item. IsListed c.args.records.now.lists item)) (sym c.front-here.ensures)
    (first_listed c.args.records.now.lists c.args.list _ (omega (arith, c.lists.ensures.count, c.if-list-lists.false)) refl)
