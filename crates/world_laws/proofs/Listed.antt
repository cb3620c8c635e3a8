-- The numbers of left sessions and their places, one at a time.
use Rattle.std.proofs.Common.{◌≡◌, ◌+◌, ◌≤◌, ℕ, zero, suc, Bool, true, false, true≢false, List, [], ◌∷◌, ◌++◌, length, get_or, set, refl, ◌∙◌, ap, sym, subst, arith}
use Rattle.std.specs.Prelude.{◌==◌, Option, None, if◌then◌else◌}
use Rattle.std.proofs.lemmas.Bool.{eq-eqb, eqb-true}
use Rattle.std.proofs.lemmas.List.{get_or-set_other}
use Rattle.std.proofs.lemmas.List.Sums.{sum_by-append}
use Rattle.history_spec.specs.Entry.{without}
use Rattle.history_laws.proofs.Counts.{count_cons, one_false, one_if}
use Rattle.world_spec.specs.World.{Owned}
use Rattle.world_laws.specs.Left.{LeftStands, is_left, is_saved, times}
use Rattle.world_laws.proofs.Clients.{apart_from}

-- ---- numbers

pub times_more : (n m : ℕ) (ms : List ℕ) → times n (m ∷ ms) ≡ one_if (m == n) + times n ms
times_more n m ms = count_cons (λ (one : ℕ). one == n) m ms

pub times_both : (n : ℕ) (ms more : List ℕ) → times n (ms ++ more) ≡ times n ms + times n more
times_both n ms more = sum_by-append (λ (one : ℕ). one_if (one == n)) ms more

none_by : (here : Bool) (k m : ℕ) (ms : List ℕ) → (m == k) ≡ here → one_if here + times k ms ≤ 1
    → (times k ms ≤ 1 → times k (without k ms) ≡ 0) → times k (if here then ms else m ∷ without k ms) ≡ 0
none_by true k m ms is once rest = omega arith
none_by false k m ms is once rest = omega (arith, times_more k m (without k ms), one_false (m == k) is, rest (omega arith))

-- what was there once isn't there once it is out
pub none_left : (k : ℕ) (ms : List ℕ) → times k ms ≤ 1 → times k (without k ms) ≡ 0
none_left k [] once = refl
none_left k (m ∷ ms) once = none_by (m == k) k m ms refl (omega (arith, times_more k m ms)) (none_left k ms)

others_by : (here : Bool) (k n m : ℕ) (ms : List ℕ) → (m == k) ≡ here → (k == n) ≡ false → times n (without k ms) ≡ times n ms
    → times n (if here then ms else m ∷ without k ms) ≡ times n (m ∷ ms)
others_by true k n m ms is apart rest = omega (arith, times_more n m ms, one_false (m == n) (apart_from m k n is apart))
others_by false k n m ms is apart rest = omega (arith, times_more n m ms, times_more n m (without k ms), rest)

pub others_left : (k n : ℕ) (ms : List ℕ) → (k == n) ≡ false → times n (without k ms) ≡ times n ms
others_left k n [] apart = refl
others_left k n (m ∷ ms) apart = others_by (m == k) k n m ms refl apart (others_left k n ms apart)

shorter_by : (here : Bool) (k m : ℕ) (ms : List ℕ) → length (without k ms) ≤ length ms → length (if here then ms else m ∷ without k ms) ≤ length (m ∷ ms)
shorter_by true k m ms rest = omega arith
shorter_by false k m ms rest = omega arith

pub shorter : (k : ℕ) (ms : List ℕ) → length (without k ms) ≤ length ms
shorter k [] = omega arith
shorter k (m ∷ ms) = shorter_by (m == k) k m ms (shorter k ms)

-- ---- places

abbrev pub place_at : List (Option Owned) → ℕ → Option Owned
place_at sessions n = get_or sessions n None

-- a session that is nobody's is saved
abbrev pub IsSound : Option Owned → Type 0
IsSound place = is_left place ≡ true → is_saved place ≡ true

pub sound_held : (place : Option Owned) → is_left place ≡ false → IsSound place
sound_held place held left = absurd (true≢false (sym left ∙ held))

-- what is put under a number stands there, if there is such a number
pub set_here : (P : Option Owned → Type 0) (sessions : List (Option Owned)) (n : ℕ) (place : Option Owned) → P place → P None
    → P (place_at (set sessions n place) n)
set_here P [] n place here none = none
set_here P (s ∷ sessions) zero place here none = here
set_here P (s ∷ sessions) (suc n) place here none = set_here P sessions n place here none

pub set_other : (sessions : List (Option Owned)) (k n : ℕ) (place : Option Owned) → (k == n) ≡ false
    → place_at (set sessions k place) n ≡ place_at sessions n
set_other sessions k n place apart = get_or-set_other sessions k n place None (λ same. apart_same k n apart same)
  where
    apart_same : (k n : ℕ) → (k == n) ≡ false → n ≡ k → ⊥
    apart_same k n apart same = true≢false (sym (eq-eqb k n (sym same)) ∙ apart)

-- where neither what stood there nor what stands there now is left, the same places are
pub left_set : (sessions : List (Option Owned)) (k n : ℕ) (place : Option Owned) → is_left (place_at sessions k) ≡ false → is_left place ≡ false
    → is_left (place_at (set sessions k place) n) ≡ is_left (place_at sessions n)
left_set [] k n place old new = refl
left_set (s ∷ sessions) zero zero place old new = new ∙ sym old
left_set (s ∷ sessions) zero (suc n) place old new = refl
left_set (s ∷ sessions) (suc k) zero place old new = refl
left_set (s ∷ sessions) (suc k) (suc n) place old new = left_set sessions k n place old new

sound_set : (sessions : List (Option Owned)) (k n : ℕ) (place : Option Owned) → is_left place ≡ false → IsSound (place_at sessions n)
    → IsSound (place_at (set sessions k place) n)
sound_set [] k n place new sound = sound
sound_set (s ∷ sessions) zero zero place new sound = sound_held place new
sound_set (s ∷ sessions) zero (suc n) place new sound = sound
sound_set (s ∷ sessions) (suc k) zero place new sound = sound
sound_set (s ∷ sessions) (suc k) (suc n) place new sound = sound_set sessions k n place new sound

-- ---- what a step leaves

-- another session under a number whose session is somebody's, or that was unused
pub stands_put : (sessions : List (Option Owned)) (left : List ℕ) (k : ℕ) (place : Option Owned) → LeftStands sessions left
    → is_left (place_at sessions k) ≡ false → is_left place ≡ false → LeftStands (set sessions k place) left
stands_put sessions left k place stands old new = record {
  listed = λ n. stands.listed n ∙ sym (ap one_if (left_set sessions k n place old new));
  saved = λ n. sound_set sessions k n place new (stands.saved n);
}

pub once_by : (left : Bool) → one_if left ≤ 1
once_by true = omega arith
once_by false = omega arith

pub once : (sessions : List (Option Owned)) (left : List ℕ) (k : ℕ) → LeftStands sessions left → times k left ≤ 1
once sessions left k stands = omega (arith, stands.listed k, once_by (is_left (place_at sessions k)))

taken_by : (here : Bool) (sessions : List (Option Owned)) (left : List ℕ) (k n : ℕ) (place : Option Owned) → (k == n) ≡ here
    → LeftStands sessions left → is_left place ≡ false → times n (without k left) ≡ one_if (is_left (place_at (set sessions k place) n))
taken_by true sessions left k n place is stands new =
    subst (λ (m : ℕ). times m (without k left) ≡ one_if (is_left (place_at (set sessions k place) m))) (eqb-true k n is)
    (none_left k left (once sessions left k stands)
    ∙ set_here (λ (p : Option Owned). 0 ≡ one_if (is_left p)) sessions k place (sym (ap one_if new)) refl)
taken_by false sessions left k n place apart stands new =
    others_left k n left apart ∙ stands.listed n ∙ sym (ap (λ (p : Option Owned). one_if (is_left p)) (set_other sessions k n place apart))

-- and the same where a left one is taken, which is out of the list then
pub stands_taken : (sessions : List (Option Owned)) (left : List ℕ) (k : ℕ) (place : Option Owned) → LeftStands sessions left
    → is_left place ≡ false → LeftStands (set sessions k place) (without k left)
stands_taken sessions left k place stands new = record {
  listed = λ n. taken_by (k == n) sessions left k n place refl stands new;
  saved = λ n. sound_set sessions k n place new (stands.saved n);
}
