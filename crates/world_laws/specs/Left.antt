-- The sessions that clients left: the places that have one, and the list of their numbers.
use Rattle.std.specs.Prelude.{◌≡◌, ℕ, ◌==◌, not, Bool, true, false, List, get_or, Option, Some, None, is_some, if◌then◌else◌}
use Rattle.std.specs.List.{count_by}
use Rattle.world_spec.specs.World.{Owned}

-- whether a place has a session that is nobody's
abbrev pub is_left : Option Owned → Bool
is_left None = false
is_left (Some place) = not (is_some place.client)

-- whether it has a saved one
abbrev pub is_saved : Option Owned → Bool
is_saved None = false
is_saved (Some place) = is_some place.handed

-- how often a number is among these
abbrev pub times : ℕ → List ℕ → ℕ
times number numbers = count_by (λ one. one == number) numbers

-- the list has each number once under which a session is nobody's, and no other; and each of those sessions is saved
pub record LeftStands (sessions : List (Option Owned)) (left : List ℕ) : Type 0 where
  pub listed : (number : ℕ) → times number left ≡ (if is_left (get_or sessions number None) then 1 else 0)
  pub saved : (number : ℕ) → is_left (get_or sessions number None) ≡ true → is_saved (get_or sessions number None) ≡ true
