-- Slots as they are kept, and as they are seen.
use Rattle.std.proofs.Common.{◌≡◌, ◌+◌, ◌≤◌, ℕ, cond, ltb, List, [], ◌∷◌, length, refl, ap, arith}
use Rattle.std.specs.Prelude.{Option, Some, None, is_none}
use Rattle.std.specs.Option.{unwrap_or}
use Rattle.std.specs.List.{list_any, position_or_len}
use Rattle.std.proofs.lemmas.Bool.{cond_both, ltb-false}
use Rattle.device_spec.specs.Slots.{free_slot, is_free}
use Rattle.tab_values.specs.declared.object.Object.{Object}
use Rattle.device_slots.specs.Views.{slots_of}

-- the first free one
pub first_free : (slots : List (Option Object)) → free_slot (slots_of slots) ≡ position_or_len is_none slots
first_free [] = refl
first_free (None ∷ slots) = refl
first_free (Some o ∷ slots) = ap (λ (n : ℕ). 1 + n) (first_free slots)

pub some_free : (slots : List (Option Object)) → list_any is_free (slots_of slots) ≡ list_any is_none slots
some_free [] = refl
some_free (None ∷ slots) = refl
some_free (Some o ∷ slots) = some_free slots

place_within : (slots : List (Option Object)) → position_or_len is_none slots ≤ length slots
place_within [] = omega arith
place_within (None ∷ slots) = omega arith
place_within (Some o ∷ slots) = omega (arith, place_within slots)

pub free_within : (slots : List (Option Object)) → free_slot (slots_of slots) ≤ length slots
free_within slots = rw (first_free slots) (place_within slots)

or_len : (place len : ℕ) → place ≤ len → unwrap_or (cond (ltb place len) (Some place) None) len ≡ place
or_len place len within =
    cond_both (ltb place len) (Some place) None (λ (found : Option ℕ). unwrap_or found len ≡ place) (λ there. refl) (λ past. omega (arith, ltb-false place len past))

-- what a search for it answers
pub found_free : (slots : List (Option Object)) (found : Option ℕ)
    → found ≡ cond (ltb (position_or_len is_none slots) (length slots)) (Some (position_or_len is_none slots)) None
    → unwrap_or found (length slots) ≡ free_slot (slots_of slots)
found_free slots found is = rw (is, or_len (position_or_len is_none slots) (length slots) (place_within slots), first_free slots) refl
