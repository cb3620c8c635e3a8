use Rattle.std.proofs.Common.{◌≡◌, ◌<◌, ℕ, List, [], ◌∷◌, ◌++◌, IfSome, ◌∙◌, refl, sym, ap, subst, length}
use Rattle.std.specs.Prelude.{get_or, Option}
use Rattle.linked_records.specs.View.{IsListed, first_index}
use Rattle.wire_tests.proofs.lists.after.Goals as goal

apart : {T : Type 0} (before : List (ℕ × T)) (p q : ℕ × T) (rest : List (ℕ × T)) → before ++ p ∷ q ∷ rest ≡ (before ++ p ∷ []) ++ q ∷ rest
apart [] p q rest = refl
apart {T} (x ∷ before) p q rest = ap (λ (l : List (ℕ × T)). x ∷ l) (apart before p q rest)

-- the record after one that is listed is listed too
next_listed : {T : Type 0} (lists : List (List (ℕ × T))) (item list : ℕ) (before : List (ℕ × T)) (value : T) (after : List (ℕ × T)) → list < length lists
    → get_or lists list [] ≡ before ++ (item, value) ∷ after
    → IfSome (first_index after) (λ next. IsListed lists next)
next_listed lists item list before value [] within is = tt
next_listed lists item list before value (p ∷ rest) within is =
    record { list = list; before = before ++ (item, value) ∷ []; value = p.1; after = rest; within = within; is = is ∙ apart before (item, value) p rest }

pub returns : goal.returns
returns c =
    let at = subst (λ (o : Option ℕ). IfSome o (λ item. IsListed c.args.records.now.lists item)) c.in_ok-here.was c.requires in
    subst (λ (o : Option ℕ). IfSome o (λ item. IsListed c.args.records.now.lists item)) (sym (c.next.ensures at))
    (next_listed c.args.records.now.lists c.in_ok-here.field-0 at.list at.before at.value at.after at.within at.is)
