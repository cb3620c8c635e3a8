-- What GetCapability lists of a machine: objects by their slots, and sessions by their numbers.
use Rattle.std.proofs.Common.{◌≡◌, ◌+◌, ◌*◌, ◌^◌, ◌%◌, ◌<◌, ◌≤◌, ℕ, zero, suc, Bool, true, false, cond, leb, eqb, List, [], ◌∷◌, length, drop, get_or, refl, ap, sym, ◌∙◌, subst, arith}
use Rattle.std.specs.Prelude.{Option, Some, None, is_some, ◌&&◌, MatchOption}
use Rattle.std.specs.List.{count_by}
use Rattle.std.proofs.lemmas.Bool.{eq-eqb, ne_eqb}
use Rattle.std.proofs.lemmas.Nat.{mod_low}
use Rattle.std.proofs.lemmas.List.{at_drop_more}
use Rattle.std.proofs.lemmas.List.Sums.{sum_by-cons}
use Rattle.tab_spec.specs.declared.TheConstants.{TRANSIENT_FIRST}
use Rattle.tab_spec.specs.Object.{Object}
use Rattle.effect_spec.specs.Capabilities.{Listed, transient_from}
use Rattle.fx_capability.specs.Lists.{number_from, session_in}
use Rattle.fx_capability.specs.Views.{listed_of}
use Rattle.fx_capability.specs.declared.holdings.HeldSession.{HeldSession}
use Rattle.device_spec.specs.Slots.{SessionPlace, inactive, loaded, saved, listed_place, listed_from}

-- ---- objects

-- by the object of a slot
from_step : (least handle : ℕ) (slot : Option Object) (slots : List (Option Object))
    → number_from least (transient_from handle (slot ∷ slots))
    ≡ cond (is_some slot && leb least handle) (Some handle) (number_from least (transient_from (handle + 1) slots))
from_step least handle None slots = refl
from_step least handle (Some o) slots = refl

from_at : (least first i : ℕ) (slots : List (Option Object)) (slot : Option Object) → i < length slots → get_or slots i None ≡ slot
    → number_from least (transient_from (first + i) (drop i slots))
    ≡ cond (is_some slot && leb least (first + i)) (Some (first + i)) (number_from least (transient_from (first + i + 1) (drop (i + 1) slots)))
from_at least first i slots slot within is =
    at_drop_more (λ (left : List (Option Object)). number_from least (transient_from (first + i) left)) slots i None within
    ∙ from_step least (first + i) (get_or slots i None) (drop (i + 1) slots)
    ∙ ap (λ (o : Option Object). cond (is_some o && leb least (first + i)) (Some (first + i)) (number_from least (transient_from (first + i + 1) (drop (i + 1) slots)))) is

pub from_next : (least first i : ℕ) (slots : List (Option Object)) (slot : Option Object) (whole : Option ℕ) → i < length slots
    → get_or slots i None ≡ slot → (is_some slot && leb least (first + i)) ≡ false
    → number_from least (transient_from (first + i) (drop i slots)) ≡ whole
    → number_from least (transient_from (first + (i + 1)) (drop (i + 1) slots)) ≡ whole
from_next least first i slots slot whole within is other so_far =
    ap (λ (n : ℕ). number_from least (transient_from n (drop (i + 1) slots))) (omega arith)
    ∙ sym (ap (λ (b : Bool). cond b (Some (first + i)) (number_from least (transient_from (first + i + 1) (drop (i + 1) slots)))) other)
    ∙ sym (from_at least first i slots slot within is)
    ∙ so_far

pub from_found : (least first i : ℕ) (slots : List (Option Object)) (slot : Option Object) (whole : Option ℕ) → i < length slots
    → get_or slots i None ≡ slot → (is_some slot && leb least (first + i)) ≡ true
    → number_from least (transient_from (first + i) (drop i slots)) ≡ whole → Some (first + i) ≡ whole
from_found least first i slots slot whole within is found so_far =
    sym (ap (λ (b : Bool). cond b (Some (first + i)) (number_from least (transient_from (first + i + 1) (drop (i + 1) slots)))) found)
    ∙ sym (from_at least first i slots slot within is)
    ∙ so_far

counted : (handle : ℕ) (slots : List (Option Object)) → count_by is_some slots ≡ length (transient_from handle slots)
counted handle [] = refl
counted handle (None ∷ slots) =
    let rest : count_by is_some slots ≡ length (transient_from (handle + 1) slots) = counted (handle + 1) slots in
    sum_by-cons (λ (o : Option Object). cond (is_some o) 1 0) None slots ∙ omega (arith, rest)
counted handle (Some o ∷ slots) =
    let rest : count_by is_some slots ≡ length (transient_from (handle + 1) slots) = counted (handle + 1) slots in
    sum_by-cons (λ (o : Option Object). cond (is_some o) 1 0) (Some o) slots ∙ omega (arith, rest)

pub objects_counted : (slots : List (Option Object)) → count_by is_some slots ≡ length (transient_from TRANSIENT_FIRST slots)
objects_counted slots = counted TRANSIENT_FIRST slots

-- ---- sessions

numbered : (octet n : ℕ) → n < 2 ^ 24 → (octet * 2 ^ 24 + n) % 2 ^ 24 ≡ n
numbered octet n within = mod_low octet 24 n within

-- ---- the session of a number

abbrev pub head_of : List Listed → Option Listed
head_of [] = None
head_of (s ∷ sessions) = Some s

other_first : (n k : ℕ) (s : Listed) (sessions : List Listed) → s.handle % 2 ^ 24 ≡ k → (k ≡ n → ⊥) → session_in n (s ∷ sessions) ≡ session_in n sessions
other_first n k s sessions is differ =
    ap (λ (b : Bool). cond b (Some s) (session_in n sessions)) (ap (λ (m : ℕ). eqb m n) is ∙ ne_eqb k n differ)

this_first : (n : ℕ) (s : Listed) (sessions : List Listed) → s.handle % 2 ^ 24 ≡ n → session_in n (s ∷ sessions) ≡ Some s
this_first n s sessions is = ap (λ (b : Bool). cond b (Some s) (session_in n sessions)) (eq-eqb (s.handle % 2 ^ 24) n is)

skipped : (n k : ℕ) (place : SessionPlace) (places : List SessionPlace) → (k ≡ n → ⊥) → k < 2 ^ 24
    → session_in n (listed_from k (place ∷ places)) ≡ session_in n (listed_from (k + 1) places)
skipped n k inactive places differ within = refl
skipped n k (loaded octet s) places differ within =
    other_first n k (record { handle = octet * 2 ^ 24 + k; in_use = true }) (listed_from (k + 1) places) (numbered octet k within) differ
skipped n k (saved octet number) places differ within =
    other_first n k (record { handle = octet * 2 ^ 24 + k; in_use = false }) (listed_from (k + 1) places) (numbered octet k within) differ

absent : (n k : ℕ) (places : List SessionPlace) → n < k → k + length places ≤ 2 ^ 24 → session_in n (listed_from k places) ≡ None
absent n k [] past within = refl
absent n k (place ∷ places) past within =
    skipped n k place places (λ same. omega (arith, same, past)) (omega (arith, within)) ∙ absent n (k + 1) places (omega arith) (omega (arith, within))

first_in : (k : ℕ) (place : SessionPlace) (places : List SessionPlace) → k + 1 + length places ≤ 2 ^ 24
    → session_in k (listed_from k (place ∷ places)) ≡ head_of (listed_place k place)
first_in k inactive places within = absent k (k + 1) places (omega arith) within
first_in k (loaded octet s) places within =
    this_first k (record { handle = octet * 2 ^ 24 + k; in_use = true }) (listed_from (k + 1) places) (numbered octet k (omega (arith, within)))
first_in k (saved octet number) places within =
    this_first k (record { handle = octet * 2 ^ 24 + k; in_use = false }) (listed_from (k + 1) places) (numbered octet k (omega (arith, within)))

found_in : (k i n : ℕ) (places : List SessionPlace) → n ≡ k + i → k + length places ≤ 2 ^ 24
    → session_in n (listed_from k places) ≡ head_of (listed_place n (get_or places i inactive))
found_in k i n [] is within = refl
found_in k zero n (place ∷ places) is within =
    let same : k ≡ n = omega (arith, is) in
    subst (λ (m : ℕ). session_in m (listed_from k (place ∷ places)) ≡ head_of (listed_place m place)) same
    (first_in k place places (omega (arith, within)))
found_in k (suc i) n (place ∷ places) is within =
    skipped n k place places (λ same. omega (arith, same, is)) (omega (arith, within))
    ∙ found_in (k + 1) i n places (omega (arith, is)) (omega (arith, within))

pub session_found : (n : ℕ) (places : List SessionPlace) → length places ≤ 2 ^ 24
    → session_in n (listed_from 0 places) ≡ head_of (listed_place n (get_or places n inactive))
session_found n places within = found_in 0 n n places (omega arith) (omega (arith, within))

pub session_listed : (result : Option HeldSession) (items : List Listed) (found : Option Listed) → found ≡ head_of items
    → MatchOption result (items ≡ []) (λ s. items ≡ listed_of s ∷ []) → MatchOption result (found ≡ None) (λ s. found ≡ Some (listed_of s))
session_listed None items found is empty = is ∙ ap head_of empty
session_listed (Some s) items found is one = is ∙ ap head_of one
