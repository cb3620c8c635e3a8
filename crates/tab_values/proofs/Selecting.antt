-- The selected PCRs, as they are added one after the other.
use Rattle.std.proofs.Common.{◌≡◌, ◌+◌, ℕ, true, false, List, [], ◌∷◌, ◌++◌, refl, ap, ◌∙◌, add-one, append-nil}
use Rattle.std.specs.Prelude.{flat_map, get_or}
use Rattle.std.proofs.lemmas.Grind.{flat_map-append}
use Rattle.tab_spec.specs.Values.{is_selected, selected_below}

-- the values of the selected PCRs below a number
abbrev pub values_below : List (List ℕ) → List ℕ → ℕ → List ℕ
values_below pcrs bits pcr = flat_map (λ pcr. get_or pcrs pcr []) (selected_below bits pcr)

pub values_also : (pcrs : List (List ℕ)) (bits : List ℕ) (pcr : ℕ) → is_selected bits pcr ≡ true → values_below pcrs bits (pcr + 1) ≡ values_below pcrs bits pcr ++ get_or pcrs pcr []
values_also pcrs bits pcr is =
    rw (add-one, is) (flat_map-append (λ pcr. get_or pcrs pcr []) (selected_below bits pcr) (pcr ∷ []) ∙ ap (λ (xs : List ℕ). values_below pcrs bits pcr ++ xs) (append-nil (get_or pcrs pcr [])))

pub values_not : (pcrs : List (List ℕ)) (bits : List ℕ) (pcr : ℕ) → is_selected bits pcr ≡ false → values_below pcrs bits (pcr + 1) ≡ values_below pcrs bits pcr
values_not pcrs bits pcr is = rw (add-one, is, append-nil) refl
