-- Session numbers as they are kept, and as they are seen.
use Rattle.std.proofs.Common.{◌≡◌, ◌+◌, ◌≤◌, ℕ, Bool, cond, ltb, List, [], ◌∷◌, length, refl, ap, sym, ◌∙◌, arith}
use Rattle.std.specs.Prelude.{Option, Some, None, not}
use Rattle.std.specs.Option.{unwrap_or}
use Rattle.std.specs.List.{count_by, position_or_len}
use Rattle.std.proofs.lemmas.Bool.{cond_both, ltb-false}
use Rattle.std.proofs.lemmas.List.Sums.{sum_by-cons}
use Rattle.std.proofs.lemmas.List.Recursion.{is_position_or_len}
use Rattle.device_spec.specs.Slots.{SessionPlace, is_active, older, number_saved, oldest_saved, free_number}
use Rattle.device_slots.specs.declared.sessions.Place.{Place}
use Rattle.device_slots.specs.declared.sessions.Place.TheVariants.{Inactive, Loaded, Saved}
use Rattle.device_slots.specs.Views.{place_of, places_of}

pub count_seen : (test : SessionPlace → Bool) (places : List Place) → count_by (λ (p : Place). test (place_of p)) places ≡ count_by test (places_of places)
count_seen test [] = refl
count_seen test (place ∷ places) =
    sum_by-cons (λ (p : Place). cond (test (place_of p)) 1 0) place places
    ∙ ap (λ (n : ℕ). cond (test (place_of place)) 1 0 + n) (count_seen test places)
    ∙ sym (sum_by-cons (λ (p : SessionPlace). cond (test p) 1 0) (place_of place) (places_of places))

-- ---- the least number that is nobody's

abbrev pub is_free : Place → Bool
is_free place = not (is_active (place_of place))

free_step : (place : Place) (places : List Place) → free_number (places_of (place ∷ places)) ≡ cond (is_free place) 0 (1 + free_number (places_of places))
free_step Inactive places = refl
free_step (Loaded octet s) places = refl
free_step (Saved octet number) places = refl

first_free : (places : List Place) → free_number (places_of places) ≡ position_or_len is_free places
first_free places = is_position_or_len (λ (ps : List Place). free_number (places_of ps)) is_free refl free_step places

pub free_within : (places : List Place) → free_number (places_of places) ≤ length places
free_within [] = omega arith
free_within (Inactive ∷ places) = omega arith
free_within (Loaded octet s ∷ places) = omega (arith, free_within places)
free_within (Saved octet number ∷ places) = omega (arith, free_within places)

or_len : (place len : ℕ) → place ≤ len → unwrap_or (cond (ltb place len) (Some place) None) len ≡ place
or_len place len within =
    cond_both (ltb place len) (Some place) None (λ (found : Option ℕ). unwrap_or found len ≡ place) (λ there. refl) (λ past. omega (arith, ltb-false place len past))

-- what a search for it answers
pub found_free : (places : List Place) (found : Option ℕ)
    → found ≡ cond (ltb (position_or_len is_free places) (length places)) (Some (position_or_len is_free places)) None
    → unwrap_or found (length places) ≡ free_number (places_of places)
found_free places found is =
    let within : position_or_len is_free places ≤ length places = omega (arith, free_within places, first_free places) in
    rw (is, or_len (position_or_len is_free places) (length places) within, first_free places) refl

-- ---- the oldest context

older_again : (a b c : Option ℕ) → older a (older b c) ≡ older (older a b) c
older_again None b c = refl
older_again (Some n) None c = refl
older_again (Some n) (Some m) None = refl
older_again (Some n) (Some m) (Some k) = ap (λ (x : ℕ). Some x) (omega arith)

pub oldest_more : (oldest next whole : Option ℕ) (place : Place) (places left : List Place) → left ≡ place ∷ places
    → next ≡ older oldest (number_saved (place_of place))
    → older oldest (oldest_saved (places_of left)) ≡ whole → older next (oldest_saved (places_of places)) ≡ whole
oldest_more oldest next whole place places left is step so_far =
    ap (λ (o : Option ℕ). older o (oldest_saved (places_of places))) step
    ∙ sym (older_again oldest (number_saved (place_of place)) (oldest_saved (places_of places)))
    ∙ sym (ap (λ (ps : List Place). older oldest (oldest_saved (places_of ps))) is)
    ∙ so_far

or_none : (oldest : Option ℕ) → older oldest None ≡ oldest
or_none None = refl
or_none (Some n) = refl

pub oldest_last : (oldest whole : Option ℕ) (left : List Place) → left ≡ [] → older oldest (oldest_saved (places_of left)) ≡ whole → oldest ≡ whole
oldest_last oldest whole left is so_far =
    sym (or_none oldest) ∙ sym (ap (λ (ps : List Place). older oldest (oldest_saved (places_of ps))) is) ∙ so_far
