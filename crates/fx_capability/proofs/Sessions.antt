-- Sessions looked up by their numbers, one after the other.
use Rattle.std.proofs.Common.{◌≡◌, ◌+◌, ◌≤◌, ℕ, Bool, true, false, cond, List, [], ◌∷◌, ◌++◌, length, map, refl, ap, ◌∙◌, arith}
use Rattle.std.specs.Prelude.{Option, Some, None, not}
use Rattle.std.specs.List.{count_by, filter}
use Rattle.std.specs.Int.{w32, to_be_bytes}
use Rattle.std.proofs.lemmas.List.Sums.{length-filter}
use Rattle.tab_spec.specs.Shape.{number_of_session}
use Rattle.effect_spec.specs.Capabilities.{Listed, listed_sessions}
use Rattle.fx_capability.specs.Lists.{rises_from, all_below, session_numbers, session_in}
use Rattle.fx_capability.proofs.Lists.{left_from, left_step, left_none, left_all, kept}

abbrev pub number : Listed → ℕ
number s = number_of_session s.handle

-- whether a session is in use, or else saved
abbrev pub is_of_sort : Bool → Listed → Bool
is_of_sort in_use s = cond in_use s.in_use (not s.in_use)

abbrev handle_bytes : Listed → List ℕ
handle_bytes s = to_be_bytes w32 s.handle

-- the list from a number on, by the session of that number
listed_step : (in_use : Bool) (n : ℕ) (sessions : List Listed) (found : Option Listed) → rises_from 0 (session_numbers sessions) ≡ true
    → session_in n sessions ≡ found
    → listed_sessions in_use n sessions ≡ map handle_bytes (kept (is_of_sort in_use) found ++ left_from (is_of_sort in_use) number (n + 1) sessions)
listed_step in_use n sessions found rise is =
    ap (map handle_bytes)
    (left_step (is_of_sort in_use) number 0 n sessions rise
    ∙ ap (λ (o : Option Listed). kept (is_of_sort in_use) o ++ left_from (is_of_sort in_use) number (n + 1) sessions) is)

pub listed_skip : (in_use : Bool) (n : ℕ) (sessions : List Listed) → rises_from 0 (session_numbers sessions) ≡ true
    → session_in n sessions ≡ None → listed_sessions in_use n sessions ≡ listed_sessions in_use (n + 1) sessions
listed_skip in_use n sessions rise is = listed_step in_use n sessions None rise is

pub listed_other : (in_use : Bool) (n : ℕ) (sessions : List Listed) (s : Listed) → rises_from 0 (session_numbers sessions) ≡ true
    → session_in n sessions ≡ Some s → is_of_sort in_use s ≡ false → listed_sessions in_use n sessions ≡ listed_sessions in_use (n + 1) sessions
listed_other in_use n sessions s rise is other =
    listed_step in_use n sessions (Some s) rise is
    ∙ ap (λ (b : Bool). map handle_bytes (cond b (s ∷ []) [] ++ left_from (is_of_sort in_use) number (n + 1) sessions)) other

pub listed_found : (in_use : Bool) (n : ℕ) (sessions : List Listed) (s : Listed) → rises_from 0 (session_numbers sessions) ≡ true
    → session_in n sessions ≡ Some s → is_of_sort in_use s ≡ true
    → listed_sessions in_use n sessions ≡ to_be_bytes w32 s.handle ∷ listed_sessions in_use (n + 1) sessions
listed_found in_use n sessions s rise is same =
    listed_step in_use n sessions (Some s) rise is
    ∙ ap (λ (b : Bool). map handle_bytes (cond b (s ∷ []) [] ++ left_from (is_of_sort in_use) number (n + 1) sessions)) same

pub listed_end : (in_use : Bool) (most n : ℕ) (sessions : List Listed) → all_below most (session_numbers sessions) ≡ true → most ≤ n
    → listed_sessions in_use n sessions ≡ []
listed_end in_use most n sessions fit past = ap (map handle_bytes) (left_none (is_of_sort in_use) number most n sessions fit past)

-- ---- counted

-- those of a sort from a number on, by the session of that number
pub count_skip : (keep : Listed → Bool) (n : ℕ) (sessions : List Listed) → rises_from 0 (session_numbers sessions) ≡ true
    → session_in n sessions ≡ None → length (left_from keep number n sessions) ≡ length (left_from keep number (n + 1) sessions)
count_skip keep n sessions rise is =
    ap length (left_step keep number 0 n sessions rise ∙ ap (λ (o : Option Listed). kept keep o ++ left_from keep number (n + 1) sessions) is)

counted : (b : Bool) (s : Listed) (rest : List Listed) → length (cond b (s ∷ []) [] ++ rest) ≡ cond b 1 0 + length rest
counted true s rest = omega arith
counted false s rest = omega arith

pub count_found : (keep : Listed → Bool) (n : ℕ) (sessions : List Listed) (s : Listed) → rises_from 0 (session_numbers sessions) ≡ true
    → session_in n sessions ≡ Some s
    → length (left_from keep number n sessions) ≡ cond (keep s) 1 0 + length (left_from keep number (n + 1) sessions)
count_found keep n sessions s rise is =
    ap length (left_step keep number 0 n sessions rise ∙ ap (λ (o : Option Listed). kept keep o ++ left_from keep number (n + 1) sessions) is)
    ∙ counted (keep s) s (left_from keep number (n + 1) sessions)

pub count_yes : (keep : Listed → Bool) (n : ℕ) (sessions : List Listed) (s : Listed) → rises_from 0 (session_numbers sessions) ≡ true
    → session_in n sessions ≡ Some s → keep s ≡ true
    → length (left_from keep number n sessions) ≡ 1 + length (left_from keep number (n + 1) sessions)
count_yes keep n sessions s rise is is_kept =
    count_found keep n sessions s rise is ∙ ap (λ (b : Bool). cond b 1 0 + length (left_from keep number (n + 1) sessions)) is_kept

pub count_no : (keep : Listed → Bool) (n : ℕ) (sessions : List Listed) (s : Listed) → rises_from 0 (session_numbers sessions) ≡ true
    → session_in n sessions ≡ Some s → keep s ≡ false
    → length (left_from keep number n sessions) ≡ 0 + length (left_from keep number (n + 1) sessions)
count_no keep n sessions s rise is is_left =
    count_found keep n sessions s rise is ∙ ap (λ (b : Bool). cond b 1 0 + length (left_from keep number (n + 1) sessions)) is_left

pub count_end : (keep : Listed → Bool) (most n : ℕ) (sessions : List Listed) → all_below most (session_numbers sessions) ≡ true → most ≤ n
    → length (left_from keep number n sessions) ≡ 0
count_end keep most n sessions fit past = ap length (left_none keep number most n sessions fit past)

pub count_start : (keep : Listed → Bool) (sessions : List Listed) → length (left_from keep number 0 sessions) ≡ count_by keep sessions
count_start keep sessions = ap length (left_all keep number sessions) ∙ length-filter keep sessions

keep_all : (sessions : List Listed) → filter (λ s. true) sessions ≡ sessions
keep_all [] = refl
keep_all (s ∷ sessions) = ap (λ (rest : List Listed). s ∷ rest) (keep_all sessions)

pub count_start_all : (sessions : List Listed) → length (left_from (λ s. true) number 0 sessions) ≡ length sessions
count_start_all sessions = ap length (left_all (λ s. true) number sessions ∙ keep_all sessions)
