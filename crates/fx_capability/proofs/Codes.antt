-- Commands looked up by their codes, one after the other.
use Rattle.std.proofs.Common.{◌≡◌, ◌+◌, ◌≤◌, ℕ, Bool, true, eqb, List, [], ◌∷◌, ◌++◌, map, ap, sym, subst, ◌∙◌}
use Rattle.std.specs.Prelude.{Option, Some, None, IfSome}
use Rattle.std.specs.List.{find}
use Rattle.std.specs.Int.{w32, to_be_bytes}
use Rattle.std.proofs.lemmas.Bool.{eqb-true, cond_both}
use Rattle.tab_spec.specs.declared.CommandRow.{CommandRow}
use Rattle.effect_spec.specs.Capabilities.{command_attributes, command_items}
use Rattle.fx_capability.specs.Lists.{rises_from, all_below}
use Rattle.fx_capability.proofs.Lists.{left_from, left_step, left_none, kept}

abbrev pub code_of : CommandRow → ℕ
code_of row = row.code

abbrev pub every : CommandRow → Bool
every row = true

abbrev pub attribute_bytes : CommandRow → List ℕ
attribute_bytes row = to_be_bytes w32 (command_attributes row)

-- the command that was looked up has this code
found_code : (n : ℕ) (rows : List CommandRow) → IfSome (find (λ (r : CommandRow). eqb r.code n) rows) (λ r. r.code ≡ n)
found_code n [] = tt
found_code n (row ∷ rows) =
    cond_both (eqb row.code n) (Some row) (find (λ (r : CommandRow). eqb r.code n) rows) (λ (found : Option CommandRow). IfSome found (λ r. r.code ≡ n))
    (λ same. eqb-true row.code n same) (λ other. found_code n rows)

pub row_code : (n : ℕ) (rows : List CommandRow) (row : CommandRow) → find (λ (r : CommandRow). eqb r.code n) rows ≡ Some row → row.code ≡ n
row_code n rows row is = subst (λ (found : Option CommandRow). IfSome found (λ r. r.code ≡ n)) is (found_code n rows)

-- the commands from a code on, by the command of that code
commands_step : (n : ℕ) (rows : List CommandRow) (found : Option CommandRow) → rises_from 0 (map code_of rows) ≡ true
    → find (λ (r : CommandRow). eqb r.code n) rows ≡ found
    → command_items rows n ≡ map attribute_bytes (kept every found ++ left_from every code_of (n + 1) rows)
unfolding command_items
commands_step n rows found rise is =
    ap (map attribute_bytes)
    (left_step every code_of 0 n rows rise ∙ ap (λ (o : Option CommandRow). kept every o ++ left_from every code_of (n + 1) rows) is)

pub commands_skip : (n : ℕ) (rows : List CommandRow) → rises_from 0 (map code_of rows) ≡ true
    → find (λ (r : CommandRow). eqb r.code n) rows ≡ None → command_items rows n ≡ command_items rows (n + 1)
unfolding command_items
commands_skip n rows rise is = commands_step n rows None rise is

pub commands_found : (n : ℕ) (rows : List CommandRow) (row : CommandRow) → rises_from 0 (map code_of rows) ≡ true
    → find (λ (r : CommandRow). eqb r.code n) rows ≡ Some row
    → command_items rows n ≡ to_be_bytes w32 (command_attributes row) ∷ command_items rows (row.code + 1)
unfolding command_items
commands_found n rows row rise is =
    commands_step n rows (Some row) rise is
    ∙ ap (λ (m : ℕ). attribute_bytes row ∷ map attribute_bytes (left_from every code_of (m + 1) rows)) (sym (row_code n rows row is))

-- from a number on that no code reaches, there is none
pub commands_end : (most n : ℕ) (rows : List CommandRow) → all_below most (map code_of rows) ≡ true → most ≤ n → command_items rows n ≡ []
unfolding command_items
commands_end most n rows fit past = ap (map attribute_bytes) (left_none every code_of most n rows fit past)
