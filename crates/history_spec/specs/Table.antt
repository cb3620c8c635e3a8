-- What a client holds, by number: the place of each in a list, which has free places where one was taken out. The handle of
-- an object is the number after the first handle of a transient object (Part 1, "Handles"; Part 2, "TPM_HC").
use Rattle.std.specs.Prelude.{ℕ, ◌+◌, ◌-◌, nat_lt, nat_le, Bool, List, [], ◌∷◌, get_or, set, drop, Option, Some, None, is_some, if◌then◌else◌}
use Rattle.std.specs.List.{count_by}
use Rattle.tab_spec.specs.declared.TheConstants.{TRANSIENT_FIRST}
use Rattle.history_spec.specs.declared.TheConstants.{CLIENT_OBJECTS}

-- the least number without anything
abbrev pub least_free : {A : Type 0} → List (Option A) → ℕ
least_free [] = 0
least_free (None ∷ places) = 0
least_free (Some x ∷ places) = 1 + least_free places

-- with one more, under that number
abbrev pub put_least : {A : Type 0} → A → List (Option A) → List (Option A)
put_least x [] = Some x ∷ []
put_least x (None ∷ places) = Some x ∷ places
put_least x (Some y ∷ places) = Some y ∷ put_least x places

-- how many there are
abbrev pub count_held : {A : Type 0} → List (Option A) → ℕ
count_held places = count_by is_some places

-- whether a client has as many objects as it may
abbrev pub is_full : {A : Type 0} → List (Option A) → Bool
is_full places = nat_le CLIENT_OBJECTS (count_held places)

-- the first number that is taken; the places begin at this number
abbrev pub first_taken : {A : Type 0} → ℕ → List (Option A) → Option ℕ
first_taken number [] = None
first_taken number (None ∷ places) = first_taken (number + 1) places
first_taken number (Some x ∷ places) = Some number

-- ---- by handle

abbrev pub number_of_object : ℕ → ℕ
number_of_object handle = handle - TRANSIENT_FIRST

-- what stands under a handle
abbrev pub held_under : {A : Type 0} → List (Option A) → ℕ → Option A
held_under places handle = if nat_lt handle TRANSIENT_FIRST then None else get_or places (number_of_object handle) None

-- without what stands under a handle
abbrev pub without_handle : {A : Type 0} → List (Option A) → ℕ → List (Option A)
without_handle places handle =
    if is_some (held_under places handle) then set places (number_of_object handle) None else places

-- the handle of the next one
abbrev pub next_handle : {A : Type 0} → List (Option A) → ℕ
next_handle places = TRANSIENT_FIRST + least_free places

abbrev pub handle_of_number : Option ℕ → Option ℕ
handle_of_number None = None
handle_of_number (Some number) = Some (TRANSIENT_FIRST + number)

-- the least handle that stands for something and isn't below this one
abbrev pub handle_from : {A : Type 0} → List (Option A) → ℕ → Option ℕ
handle_from places handle =
    handle_of_number (first_taken (number_of_object handle) (drop (number_of_object handle) places))
