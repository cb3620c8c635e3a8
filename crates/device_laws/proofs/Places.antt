-- The session numbers of a device: what setting one of them keeps.
use Rattle.std.proofs.Common.{◌≡◌, ◌+◌, ◌<◌, ◌≤◌, ℕ, zero, suc, Bool, true, false, cond, List, [], ◌∷◌, length, get_or, set, refl, ◌∙◌, ap, arith, length-set}
use Rattle.std.specs.Prelude.{◌==◌}
use Rattle.std.specs.List.{AllByRecursion, count_by}
use Rattle.std.proofs.lemmas.Bool.{eqb-true}
use Rattle.std.proofs.lemmas.List.Sums.{sum_by-cons}
use Rattle.tab_spec.specs.declared.TheConstants.{SESSION_NUMBERS}
use Rattle.tab_spec.specs.Session.{Session, IsSession}
use Rattle.tab_spec.specs.Shape.{is_session_octet}
use Rattle.device_spec.specs.Slots.{SessionPlace, inactive, loaded, saved, IsPlace, is_loaded, is_saved_as, loaded_count}

-- ---- counts

abbrev weight : Bool → ℕ
weight test = cond test 1 0

count-cons : (p : SessionPlace → Bool) (place : SessionPlace) (places : List SessionPlace)
    → count_by p (place ∷ places) ≡ cond (p place) 1 0 + count_by p places
count-cons p place places = sum_by-cons (λ (x : SessionPlace). cond (p x) 1 0) place places

at_most_1 : (test : Bool) → cond test 1 0 ≤ 1
at_most_1 true = omega arith
at_most_1 false = omega arith

is_1 : (test : Bool) → test ≡ true → weight test ≡ 1
is_1 test is = ap weight is

is_0 : (test : Bool) → test ≡ false → weight test ≡ 0
is_0 test is = ap weight is

count_set : (p : SessionPlace → Bool) (places : List SessionPlace) (n : ℕ) (place : SessionPlace)
    → count_by p (set places n place) ≤ cond (p place) 1 0 + count_by p places
count_set p [] n place = omega arith
count_set p (old ∷ places) zero place = omega (arith, count-cons p place places, count-cons p old places)
count_set p (old ∷ places) (suc n) place =
    omega (arith, count-cons p old (set places n place), count-cons p old places, count_set p places n place)

-- in the place of one that counted
count_swapped : (p : SessionPlace → Bool) (places : List SessionPlace) (n : ℕ) (place : SessionPlace)
    → p (get_or places n inactive) ≡ true → count_by p (set places n place) ≤ count_by p places
count_swapped p [] n place is = omega arith
count_swapped p (old ∷ places) zero place is =
    omega (arith, count-cons p place places, count-cons p old places, is_1 (p old) is, at_most_1 (p place))
count_swapped p (old ∷ places) (suc n) place is =
    omega (arith, count-cons p old (set places n place), count-cons p old places, count_swapped p places n place is)

-- ---- places

pub place_set : (counter : ℕ) (places : List SessionPlace) (n : ℕ) (place : SessionPlace) → IsPlace counter place
    → AllByRecursion (λ place. IsPlace counter place) places → AllByRecursion (λ place. IsPlace counter place) (set places n place)
place_set counter [] n place is all = tt
place_set counter (old ∷ places) zero place is all = (is, all.1)
place_set counter (old ∷ places) (suc n) place is all = (all.0, place_set counter places n place is all.1)

pub place_at : (counter : ℕ) (places : List SessionPlace) (n : ℕ) → AllByRecursion (λ place. IsPlace counter place) places
    → IsPlace counter (get_or places n inactive)
place_at counter [] n all = tt
place_at counter (place ∷ places) zero all = all.0
place_at counter (place ∷ places) (suc n) all = place_at counter places n all.1

-- a place stays one where the counter goes on
later_place : (counter : ℕ) (place : SessionPlace) → IsPlace counter place → IsPlace (counter + 1) place
later_place counter inactive is = tt
later_place counter (loaded octet s) is = is
later_place counter (saved octet number) is = (is.0, omega (arith, is.1))

later_places : (counter : ℕ) (places : List SessionPlace) → AllByRecursion (λ place. IsPlace counter place) places
    → AllByRecursion (λ place. IsPlace (counter + 1) place) places
later_places counter [] all = tt
later_places counter (place ∷ places) all = (later_place counter place all.0, later_places counter places all.1)

-- one that is loaded stays so where another is loaded
pub still_loaded : (places : List SessionPlace) (n m octet : ℕ) (s : Session) → is_loaded (get_or places m inactive) ≡ true
    → is_loaded (get_or (set places n (loaded octet s)) m inactive) ≡ true
still_loaded [] n m octet s is = is
still_loaded (old ∷ places) zero zero octet s is = refl
still_loaded (old ∷ places) zero (suc m) octet s is = is
still_loaded (old ∷ places) (suc n) zero octet s is = is
still_loaded (old ∷ places) (suc n) (suc m) octet s is = still_loaded places n m octet s is

-- nothing is saved under a number that isn't used yet
not_saved_by : (same : Bool) (counter number kept : ℕ) → (kept == number) ≡ same → kept < counter → counter ≤ number → same ≡ false
not_saved_by false counter number kept is below above = refl
not_saved_by true counter number kept is below above = absurd (omega (arith, eqb-true kept number is))

not_saved : (counter number : ℕ) (place : SessionPlace) → IsPlace counter place → counter ≤ number → is_saved_as number place ≡ false
not_saved counter number inactive is above = refl
not_saved counter number (loaded octet s) is above = refl
not_saved counter number (saved octet kept) is above = not_saved_by (kept == number) counter number kept refl is.1 above

none_saved : (counter number : ℕ) (places : List SessionPlace) → AllByRecursion (λ place. IsPlace counter place) places → counter ≤ number
    → count_by (is_saved_as number) places ≡ 0
none_saved counter number [] all above = refl
none_saved counter number (place ∷ places) all above =
    omega (
      arith,
      count-cons (is_saved_as number) place places,
      is_0 (is_saved_as number place) (not_saved counter number place all.0 above),
      none_saved counter number places all.1 above,
    )

-- ---- all of them

-- the session numbers that a device with so many places may have, where the next session's context gets this number
pub record ArePlaces (most counter : ℕ) (sessions : List SessionPlace) : Type 0 where
  pub numbers : length sessions ≡ SESSION_NUMBERS
  pub places : AllByRecursion (λ place. IsPlace counter place) sessions
  pub few : loaded_count sessions ≤ most
  pub apart : (number : ℕ) → count_by (is_saved_as number) sessions ≤ 1

-- a loaded session in the place of a loaded one
pub loaded_again : (most counter : ℕ) (places : List SessionPlace) (n octet : ℕ) (s : Session) → ArePlaces most counter places
    → is_loaded (get_or places n inactive) ≡ true → is_session_octet octet ≡ true → IsSession s
    → ArePlaces most counter (set places n (loaded octet s))
loaded_again most counter places n octet s are there session is = record {
  numbers = length-set places n (loaded octet s) ∙ are.numbers;
  places = place_set counter places n (loaded octet s) (session, is) are.places;
  few = omega (arith, count_swapped is_loaded places n (loaded octet s) there, are.few);
  apart = λ number. omega (arith, count_set (is_saved_as number) places n (loaded octet s), are.apart number);
}

-- a session where there is room for it
pub loaded_new : (most counter : ℕ) (places : List SessionPlace) (n octet : ℕ) (s : Session) → ArePlaces most counter places
    → loaded_count places < most → is_session_octet octet ≡ true → IsSession s
    → ArePlaces most counter (set places n (loaded octet s))
loaded_new most counter places n octet s are room session is = record {
  numbers = length-set places n (loaded octet s) ∙ are.numbers;
  places = place_set counter places n (loaded octet s) (session, is) are.places;
  few = omega (arith, count_set is_loaded places n (loaded octet s), room);
  apart = λ number. omega (arith, count_set (is_saved_as number) places n (loaded octet s), are.apart number);
}

-- nobody's
pub made_inactive : (most counter : ℕ) (places : List SessionPlace) (n : ℕ) → ArePlaces most counter places → ArePlaces most counter (set places n inactive)
made_inactive most counter places n are = record {
  numbers = length-set places n inactive ∙ are.numbers;
  places = place_set counter places n inactive tt are.places;
  few = omega (arith, count_set is_loaded places n inactive, are.few);
  apart = λ number. omega (arith, count_set (is_saved_as number) places n inactive, are.apart number);
}

apart_by : (same : Bool) (counter number : ℕ) (places : List SessionPlace) → (counter == number) ≡ same
    → AllByRecursion (λ place. IsPlace counter place) places → count_by (is_saved_as number) places ≤ 1
    → cond same 1 0 + count_by (is_saved_as number) places ≤ 1
apart_by false counter number places is all few = omega (arith, few)
apart_by true counter number places is all few =
    omega (arith, none_saved counter number places all (omega (arith, eqb-true counter number is)))

-- saved under the next number
pub saved_next : (most counter : ℕ) (places : List SessionPlace) (n octet : ℕ) → ArePlaces most counter places → is_session_octet octet ≡ true
    → ArePlaces most (counter + 1) (set places n (saved octet counter))
saved_next most counter places n octet are session = record {
  numbers = length-set places n (saved octet counter) ∙ are.numbers;
  places = place_set (counter + 1) places n (saved octet counter) (session, omega arith) (later_places counter places are.places);
  few = omega (arith, count_set is_loaded places n (saved octet counter), are.few);
  apart = λ number.
      omega (
        arith,
        count_set (is_saved_as number) places n (saved octet counter),
        apart_by (counter == number) counter number places refl are.places (are.apart number),
      );
}

-- ---- what a command keeps of them

-- the session numbers are as they may be, and no more are loaded than were
pub record KeepsPlaces (most counter : ℕ) (old new : List SessionPlace) : Type 0 where
  pub are : ArePlaces most counter new
  pub fewer : loaded_count new ≤ loaded_count old

pub same_places : (most counter : ℕ) (places : List SessionPlace) → ArePlaces most counter places → KeepsPlaces most counter places places
same_places most counter places are = record { are = are; fewer = omega arith }

pub kept_loaded : (most counter : ℕ) (old new : List SessionPlace) (n octet : ℕ) (s : Session) → KeepsPlaces most counter old new
    → is_loaded (get_or new n inactive) ≡ true → is_session_octet octet ≡ true → IsSession s
    → KeepsPlaces most counter old (set new n (loaded octet s))
kept_loaded most counter old new n octet s keeps there session is = record {
  are = loaded_again most counter new n octet s keeps.are there session is;
  fewer = omega (arith, count_swapped is_loaded new n (loaded octet s) there, keeps.fewer);
}

pub kept_inactive : (most counter : ℕ) (old new : List SessionPlace) (n : ℕ) → KeepsPlaces most counter old new → KeepsPlaces most counter old (set new n inactive)
kept_inactive most counter old new n keeps = record {
  are = made_inactive most counter new n keeps.are;
  fewer = omega (arith, count_set is_loaded new n inactive, keeps.fewer);
}
