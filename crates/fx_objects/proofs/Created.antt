-- The row of Create, from what its steps give.
use Rattle.std.proofs.Common.{◌≡◌, ℕ, true, List, ◌++◌, length, refl, ap, ◌∙◌, append_assoc}
use Rattle.std.specs.Prelude.{Result, Ok}
use Rattle.effect_spec.specs.Objects.{Template, Parentage, is_parent, template_of, data_fits, where_parent, where_data_fits, child_of, created_child, create_row, private_bytes, under, created}
use Rattle.tab_spec.specs.Object.{Object}
use Rattle.tab_spec.specs.Parameters.{when_read}
use Rattle.tab_spec.specs.Persist.{Persist}
use Rattle.tab_spec.specs.Values.{Reading, Public, sized_bytes}

-- the response parameters that both commands have look at the seed and the PCRs alone
created_as_before : (p q : Persist) (parent : Parentage) (t : Template) (public : Public) → q.seed ≡ p.seed → q.pcrs ≡ p.pcrs → created q parent t public ≡ created p parent t public
created_as_before p q parent t public seed pcrs = rw (seed, pcrs) refl

-- what comes of the parameters, where each test is passed
passed : {Y : Type 0} (parent : Object) (t : Template) (rest : List ℕ) (reading : Reading Template) (next : Template → Result Y ℕ) (answer : Result Y ℕ)
    → is_parent parent.public ≡ true → reading ≡ Ok (t, rest) → length rest ≡ 0 → data_fits t ≡ true → next t ≡ answer
    → where_parent parent (when_read reading (λ t. where_data_fits t (next t))) ≡ answer
passed parent t rest reading next answer is read ended fits same = rw (read, is, ended, fits) same

child_created : (p q : Persist) (parent o : Object) (t : Template)
    → created_child p parent t (Ok (o, q)) ≡ Ok (q, sized_bytes (private_bytes parent o) ++ created p (under parent) t o.public)
child_created p q parent o t = refl

pub create_row_made : (p q : Persist) (parent o : Object) (t : Template) (params rest : List ℕ) → is_parent parent.public ≡ true → template_of params ≡ Ok (t, rest) → length rest ≡ 0
    → data_fits t ≡ true → child_of p parent t ≡ Ok (o, q) → create_row p parent params ≡ Ok (q, sized_bytes (private_bytes parent o) ++ created p (under parent) t o.public)
create_row_made p q parent o t params rest is read ended fits made =
    passed parent t rest (template_of params) (λ t. created_child p parent t (child_of p parent t)) (Ok (q, sized_bytes (private_bytes parent o) ++ created p (under parent) t o.public))
    is read ended fits (ap (created_child p parent t) made ∙ child_created p q parent o t)

pub both_appended : (p q : Persist) (given parent : Parentage) (t : Template) (public : Public) (before middle after private : List ℕ) → given ≡ parent → q.seed ≡ p.seed
    → q.pcrs ≡ p.pcrs → middle ≡ before ++ private → after ≡ middle ++ created q given t public → after ≡ before ++ (private ++ created p parent t public)
both_appended p q given parent t public before middle after private is seed pcrs first second =
    second ∙ ap (λ (u : Parentage). middle ++ created q u t public) is ∙ rw (first, created_as_before p q parent t public seed pcrs) (append_assoc before private (created p parent t public))
