-- The selected PCRs, as they are found one after the other.
use Rattle.std.proofs.Common.{◌≡◌, ◌+◌, ◌<◌, ◌≤◌, ℕ, zero, suc, min, Bool, true, false, List, [], ◌∷◌, ◌++◌, length, take, length-take, refl, ap, sym, ◌∙◌, add-one, append-nil, arith}
use Rattle.std.specs.Prelude.{Some, if◌then◌else◌}
use Rattle.std.specs.List.{All}
use Rattle.std.proofs.Math.ListN.{set}
use Rattle.std.proofs.lemmas.List.{take-take, take_min, take_more_set}
use Rattle.std.proofs.lemmas.List.Elements.{All-nil, All-append, All-take, All-push}
use Rattle.tab_spec.specs.declared.TheConstants.{PCRS}
use Rattle.tab_spec.specs.Values.{is_selected, selected_below}
use Rattle.effect_spec.specs.Pcr.{answered_pcrs}

-- the selected PCRs with one more
selected_also : (bits : List ℕ) (pcr : ℕ) → is_selected bits pcr ≡ true → selected_below bits (pcr + 1) ≡ selected_below bits pcr ++ pcr ∷ []
selected_also bits pcr is = rw (add-one, is) refl

-- one more is put behind those that were found
pub found_also : (bits pcrs : List ℕ) (count pcr : ℕ) → count < length pcrs → is_selected bits pcr ≡ true → take count pcrs ≡ selected_below bits pcr
    → take (count + 1) (set pcrs count pcr) ≡ selected_below bits (pcr + 1)
found_also bits pcrs count pcr lt is found = take_more_set pcrs count pcr lt ∙ ap (λ (xs : List ℕ). xs ++ pcr ∷ []) found ∙ sym (selected_also bits pcr is)

pub found_not : (bits pcrs : List ℕ) (count pcr : ℕ) → is_selected bits pcr ≡ false → take count pcrs ≡ selected_below bits pcr
    → take count pcrs ≡ selected_below bits (pcr + 1)
found_not bits pcrs count pcr is found = rw (add-one, is, append-nil) found

-- the first eight of those that were found
pub first_eight : (bits pcrs : List ℕ) (count below : ℕ) → count ≤ length pcrs → below ≡ PCRS → take count pcrs ≡ selected_below bits below
    → take (min count 8) pcrs ≡ answered_pcrs (Some bits)
first_eight bits pcrs count below le is found =
    let selected = selected_below bits below in
    let many : length selected ≡ count = omega (arith, ap length found, length-take count pcrs) in
    sym (take-take (min count 8) count pcrs (omega arith))
    ∙ ap (take (min count 8)) found
    ∙ ap (λ (n : ℕ). take n selected) (omega arith)
    ∙ take_min 8 selected
    ∙ ap (λ (n : ℕ). take 8 (selected_below bits n)) is

-- each selected PCR is below the number of PCRs
one_within : (selected : Bool) (pcr most : ℕ) → pcr < most → All (λ p. p < most) (if selected then pcr ∷ [] else [])
one_within true pcr most lt = All-push (λ p. p < most) [] pcr (All-nil (λ p. p < most)) lt
one_within false pcr most lt = All-nil (λ p. p < most)

selected_within : (bits : List ℕ) (below most : ℕ) → below ≤ most → All (λ p. p < most) (selected_below bits below)
selected_within bits zero most le = All-nil (λ p. p < most)
selected_within bits (suc pcr) most le =
    All-append (λ p. p < most) (selected_below bits pcr) _ (selected_within bits pcr most (omega arith)) (one_within (is_selected bits pcr) pcr most (omega arith))

pub answered_within : (bits : List ℕ) → All (λ p. p < PCRS) (answered_pcrs (Some bits))
answered_within bits = All-take (λ p. p < PCRS) 8 (selected_below bits PCRS) (selected_within bits PCRS PCRS (omega arith))
