-- What GetCapability lists of a machine: the handles of its objects rise, and the numbers of its sessions too.
use Rattle.std.proofs.Common.{◌≡◌, ◌≤◌, le_refl, le_trans, le-add_right, refl, subst, sym, leb, ltb}
use Rattle.std.specs.Prelude.{ℕ, zero, suc, ◌+◌, ◌*◌, ◌%◌, ◌^◌, ◌&&◌, nat_lt, Bool, true, List, [], ◌∷◌, take, Option, Some, None}
use Rattle.std.proofs.lemmas.Bool.{and_from, and_parts, le-leb, ltb-true}
use Rattle.std.proofs.lemmas.Nat.{mod_low}
use Rattle.tab_spec.specs.declared.TheConstants.{SESSION_NUMBERS, TRANSIENT_FIRST}
use Rattle.tab_spec.specs.Object.{Object}
use Rattle.fx_capability.specs.Lists.{rises_from, all_below, session_numbers}
use Rattle.effect_spec.specs.Capabilities.{transient_from}
use Rattle.device_spec.specs.Slots.{SlotState, SessionPlace, inactive, loaded, saved, listed_from}

-- no machine has more slots: their number is a byte
abbrev pub MOST_SLOTS : ℕ
MOST_SLOTS = 255

-- the objects and the sessions of as many slots and numbers as a machine may have
abbrev pub objects_of : SlotState → List ℕ
objects_of slots = transient_from TRANSIENT_FIRST (take MOST_SLOTS slots.slots)

abbrev pub sessions_of : SlotState → List SessionPlace
sessions_of slots = take SESSION_NUMBERS slots.sessions

-- whether so many numbers from this one on are below `most`
abbrev pub are_below : ℕ → ℕ → ℕ → Bool
are_below most n zero = true
are_below most n (suc left) = nat_lt n most && are_below most (n + 1) left

-- ---- objects

rise : (least handle : ℕ) (slots : List (Option Object)) → least ≤ handle → rises_from least (transient_from handle slots) ≡ true
rise least handle [] above = refl
rise least handle (None ∷ slots) above = rise least (handle + 1) slots (le_trans above (le-add_right handle 1))
rise least handle (Some o ∷ slots) above =
    and_from (leb least handle) (rises_from (handle + 1) (transient_from (handle + 1) slots)) (le-leb least handle above)
    (rise (handle + 1) (handle + 1) slots (le_refl (handle + 1)))

pub objects_rise : (slots : SlotState) → rises_from 0 (objects_of slots) ≡ true
objects_rise slots = rise 0 TRANSIENT_FIRST (take MOST_SLOTS slots.slots) (le-add_right 0 TRANSIENT_FIRST)

fit : (most left handle : ℕ) (slots : List (Option Object)) → are_below most handle left ≡ true
    → all_below most (transient_from handle (take left slots)) ≡ true
fit most zero handle [] below = refl
fit most zero handle (slot ∷ slots) below = refl
fit most (suc left) handle [] below = refl
fit most (suc left) handle (None ∷ slots) below =
    fit most left (handle + 1) slots ((and_parts (ltb handle most) (are_below most (handle + 1) left) below).1)
fit most (suc left) handle (Some o ∷ slots) below =
    let both = and_parts (ltb handle most) (are_below most (handle + 1) left) below in
    and_from (ltb handle most) (all_below most (transient_from (handle + 1) (take left slots))) both.0 (fit most left (handle + 1) slots both.1)

pub objects_fit : (slots : SlotState) → all_below (2 ^ 32) (objects_of slots) ≡ true
objects_fit slots = fit (2 ^ 32) MOST_SLOTS TRANSIENT_FIRST slots.slots refl

-- ---- sessions

-- the number of a handle with this octet
pub numbered : (octet n : ℕ) → nat_lt n (2 ^ 24) ≡ true → (octet * 2 ^ 24 + n) % 2 ^ 24 ≡ n
numbered octet n within = mod_low octet 24 n (ltb-true n (2 ^ 24) within)

rises_on : (least n k : ℕ) (more : List ℕ) → k ≡ n → least ≤ n → rises_from (n + 1) more ≡ true → rises_from least (k ∷ more) ≡ true
rises_on least n k more is above rest =
    subst (λ (m : ℕ). rises_from least (m ∷ more) ≡ true) (sym is) (and_from (leb least n) (rises_from (n + 1) more) (le-leb least n above) rest)

numbers_rise : (left least n : ℕ) (places : List SessionPlace) → least ≤ n → are_below (2 ^ 24) n left ≡ true
    → rises_from least (session_numbers (listed_from n (take left places))) ≡ true
numbers_rise zero least n [] above below = refl
numbers_rise zero least n (place ∷ places) above below = refl
numbers_rise (suc left) least n [] above below = refl
numbers_rise (suc left) least n (inactive ∷ places) above below =
    numbers_rise left least (n + 1) places (le_trans above (le-add_right n 1))
    ((and_parts (ltb n (2 ^ 24)) (are_below (2 ^ 24) (n + 1) left) below).1)
numbers_rise (suc left) least n (loaded octet s ∷ places) above below =
    let both = and_parts (ltb n (2 ^ 24)) (are_below (2 ^ 24) (n + 1) left) below in
    rises_on least n ((octet * 2 ^ 24 + n) % 2 ^ 24) (session_numbers (listed_from (n + 1) (take left places))) (numbered octet n both.0) above
    (numbers_rise left (n + 1) (n + 1) places (le_refl (n + 1)) both.1)
numbers_rise (suc left) least n (saved octet number ∷ places) above below =
    let both = and_parts (ltb n (2 ^ 24)) (are_below (2 ^ 24) (n + 1) left) below in
    rises_on least n ((octet * 2 ^ 24 + n) % 2 ^ 24) (session_numbers (listed_from (n + 1) (take left places))) (numbered octet n both.0) above
    (numbers_rise left (n + 1) (n + 1) places (le_refl (n + 1)) both.1)

pub sessions_rise : (slots : SlotState) → rises_from 0 (session_numbers (listed_from 0 (sessions_of slots))) ≡ true
sessions_rise slots = numbers_rise SESSION_NUMBERS 0 0 slots.sessions (le_refl 0) refl

below_on : (most n k : ℕ) (more : List ℕ) → k ≡ n → nat_lt n most ≡ true → all_below most more ≡ true → all_below most (k ∷ more) ≡ true
below_on most n k more is below rest =
    subst (λ (m : ℕ). all_below most (m ∷ more) ≡ true) (sym is) (and_from (ltb n most) (all_below most more) below rest)

numbers_fit : (most left n : ℕ) (places : List SessionPlace) → are_below (2 ^ 24) n left ≡ true → are_below most n left ≡ true
    → all_below most (session_numbers (listed_from n (take left places))) ≡ true
numbers_fit most zero n [] small below = refl
numbers_fit most zero n (place ∷ places) small below = refl
numbers_fit most (suc left) n [] small below = refl
numbers_fit most (suc left) n (inactive ∷ places) small below =
    numbers_fit most left (n + 1) places ((and_parts (ltb n (2 ^ 24)) (are_below (2 ^ 24) (n + 1) left) small).1)
    ((and_parts (ltb n most) (are_below most (n + 1) left) below).1)
numbers_fit most (suc left) n (loaded octet s ∷ places) small below =
    let both = and_parts (ltb n (2 ^ 24)) (are_below (2 ^ 24) (n + 1) left) small in
    let here = and_parts (ltb n most) (are_below most (n + 1) left) below in
    below_on most n ((octet * 2 ^ 24 + n) % 2 ^ 24) (session_numbers (listed_from (n + 1) (take left places))) (numbered octet n both.0) here.0
    (numbers_fit most left (n + 1) places both.1 here.1)
numbers_fit most (suc left) n (saved octet number ∷ places) small below =
    let both = and_parts (ltb n (2 ^ 24)) (are_below (2 ^ 24) (n + 1) left) small in
    let here = and_parts (ltb n most) (are_below most (n + 1) left) below in
    below_on most n ((octet * 2 ^ 24 + n) % 2 ^ 24) (session_numbers (listed_from (n + 1) (take left places))) (numbered octet n both.0) here.0
    (numbers_fit most left (n + 1) places both.1 here.1)

pub sessions_fit : (slots : SlotState) → all_below SESSION_NUMBERS (session_numbers (listed_from 0 (sessions_of slots))) ≡ true
sessions_fit slots = numbers_fit SESSION_NUMBERS SESSION_NUMBERS 0 slots.sessions refl refl
