-- What GetCapability lists of a client (Part 3, "TPM2_GetCapability"): the handles of its objects rise, and the numbers of its
-- sessions too.
use Rattle.std.proofs.Common.{◌≡◌, ◌<◌, ◌≤◌, le_refl, lit≤, refl, ap, sym, ◌∙◌, subst}
use Rattle.std.proofs.Math.Nat.{min-le_left}
use Rattle.std.specs.Prelude.{ℕ, zero, suc, ◌+◌, ◌*◌, ◌^◌, ◌==◌, Bool, true, false, List, [], ◌∷◌, ◌++◌, length, replicate, take, Option, Some, None, if◌then◌else◌}
use Rattle.std.specs.Option.{option_or}
use Rattle.std.proofs.lemmas.List.{length-replicate, length-take}
use Rattle.std.proofs.lemmas.Nat.{mod_low}
use Rattle.tab_spec.specs.declared.TheConstants.{HT_HMAC_SESSION, HT_POLICY_SESSION, SESSION_NUMBERS, TRANSIENT_FIRST}
use Rattle.tab_spec.specs.Shape.{number_of_session}
use Rattle.effect_spec.specs.Capabilities.{Listed, transient_from}
use Rattle.fx_capability.specs.Lists.{all_below, rises_from, session_numbers}
use Rattle.fx_capability.proofs.Numbered as numbered
use Rattle.fx_capability.proofs.Numbered.{AreAt, IsAt, by_number}
use Rattle.fx_capability.proofs.Objects as handles
use Rattle.session_swap.specs.Items.{Item, owner_in}
use Rattle.history_spec.specs.declared.TheConstants.{CLIENT_OBJECTS}

-- ---- objects

-- of as many numbers as a client has
abbrev pub objects_had : List (Option ℕ) → List ℕ
objects_had table = transient_from TRANSIENT_FIRST (take CLIENT_OBJECTS table)

-- ---- sessions

-- the session under this handle, where it is this client's: in use, or saved by it
abbrev pub listed_owner : ℕ → ℕ → Option (ℕ × Bool) → Option Listed
listed_owner client handle None = None
listed_owner client handle (Some owner) = if owner.0 == client then Some (record { handle = handle; in_use = owner.1 }) else None

abbrev pub listed_under : ℕ → List (Option Item) → ℕ → Option Listed
listed_under client items handle = listed_owner client handle (owner_in items handle)

-- the session of this number: an HMAC session, or a policy session
abbrev pub listed_number : ℕ → List (Option Item) → ℕ → Option Listed
listed_number client items number =
    option_or (listed_under client items (HT_HMAC_SESSION * 2 ^ 24 + number)) (listed_under client items (HT_POLICY_SESSION * 2 ^ 24 + number))

abbrev pub with_listed : Option Listed → List Listed → List Listed
with_listed None more = more
with_listed (Some s) more = s ∷ more

-- those of so many numbers, from this one on
abbrev pub listed_from : (ℕ → Option Listed) → ℕ → ℕ → List Listed
listed_from listed zero number = []
listed_from listed (suc left) number = with_listed (listed number) (listed_from listed left (number + 1))

unfoldable pub sessions_had : ℕ → List (Option Item) → List Listed
sessions_had client items = listed_from (listed_number client items) SESSION_NUMBERS 0

-- ---- the handles of objects

few_had : (table : List (Option ℕ)) → length (take CLIENT_OBJECTS table) ≤ CLIENT_OBJECTS
few_had table =
    subst (λ (n : ℕ). n ≤ CLIENT_OBJECTS) (sym (length-take CLIENT_OBJECTS table)) (min-le_left CLIENT_OBJECTS (length table))

pub objects_rise : (table : List (Option ℕ)) → rises_from 0 (objects_had table) ≡ true
objects_rise table = handles.objects_rise TRANSIENT_FIRST (take CLIENT_OBJECTS table)

pub objects_fit : (table : List (Option ℕ)) → all_below (2 ^ 32) (objects_had table) ≡ true
objects_fit table = handles.objects_fit (2 ^ 32) TRANSIENT_FIRST CLIENT_OBJECTS (take CLIENT_OBJECTS table) (few_had table) (lit≤ tt)

-- ---- the numbers of sessions

-- a session that is listed has this number
abbrev pub IsNumbered : ℕ → Option Listed → Type 0
IsNumbered number None = Unit {0}
IsNumbered number (Some s) = number_of_session s.handle ≡ number

either_numbered : (number : ℕ) (one other : Option Listed) → IsNumbered number one → IsNumbered number other → IsNumbered number (option_or one other)
either_numbered number None other is also = also
either_numbered number (Some s) other is also = is

test_numbered : (octet number : ℕ) (in_use test : Bool) → number < 2 ^ 24
    → IsNumbered number (if test then Some (record { handle = octet * 2 ^ 24 + number; in_use = in_use }) else None)
test_numbered octet number in_use true within = mod_low octet 24 number within
test_numbered octet number in_use false within = tt

owner_numbered : (client octet number : ℕ) (owner : Option (ℕ × Bool)) → number < 2 ^ 24
    → IsNumbered number (listed_owner client (octet * 2 ^ 24 + number) owner)
owner_numbered client octet number None within = tt
owner_numbered client octet number (Some owner) within = test_numbered octet number owner.1 (owner.0 == client) within

abbrev pub AreNumbered : (ℕ → Option Listed) → Type 0
AreNumbered listed = (number : ℕ) → number < 2 ^ 24 → IsNumbered number (listed number)

pub are_numbered : (client : ℕ) (items : List (Option Item)) → AreNumbered (listed_number client items)
are_numbered client items = λ number within.
    let hmac = HT_HMAC_SESSION * 2 ^ 24 + number in
    let policy = HT_POLICY_SESSION * 2 ^ 24 + number in
    either_numbered number (listed_under client items hmac) (listed_under client items policy)
    (owner_numbered client HT_HMAC_SESSION number (owner_in items hmac) within)
    (owner_numbered client HT_POLICY_SESSION number (owner_in items policy) within)

-- ---- the same as in places, one for each number

abbrev pub listed_only : Option Listed → List Listed
listed_only None = []
listed_only (Some s) = s ∷ []

pub with_only : (s : Option Listed) (more : List Listed) → listed_only s ++ more ≡ with_listed s more
with_only None more = refl
with_only (Some s) more = refl

-- a place lists the session of its number
abbrev pub at_number : (ℕ → Option Listed) → ℕ → Bool → List Listed
at_number listed number true = listed_only (listed number)
at_number listed number false = []

pub by_place : (listed : ℕ → Option Listed) (left number : ℕ) → listed_from listed left number ≡ by_number (at_number listed) number (replicate left true)
by_place listed zero number = refl
by_place listed (suc left) number =
    sym (with_only (listed number) (listed_from listed left (number + 1)))
    ∙ ap (λ (more : List Listed). listed_only (listed number) ++ more) (by_place listed left (number + 1))

only_at : (number : ℕ) (s : Option Listed) → IsNumbered number s → IsAt number (listed_only s)
only_at number None is = tt
only_at number (Some s) is = is

pub are_at : (listed : ℕ → Option Listed) → AreNumbered listed → AreAt (2 ^ 24) (at_number listed)
are_at listed all number true below = only_at number (listed number) (all number below)
are_at listed all number false below = tt

pub places_are : (count : ℕ) → length (replicate count true) ≤ count
places_are count = subst (λ (n : ℕ). n ≤ count) (sym (length-replicate count true)) (le_refl count)

numbers_rise : (listed : ℕ → Option Listed) (count : ℕ) → AreNumbered listed → count ≤ 2 ^ 24
    → rises_from 0 (session_numbers (listed_from listed count 0)) ≡ true
numbers_rise listed count all within =
    subst (λ (sessions : List Listed). rises_from 0 (session_numbers sessions) ≡ true) (sym (by_place listed count 0))
    (numbered.numbers_rise (at_number listed) (2 ^ 24) count (replicate count true) (are_at listed all) (places_are count) within)

numbers_fit : (listed : ℕ → Option Listed) (count : ℕ) → AreNumbered listed → count ≤ 2 ^ 24
    → all_below count (session_numbers (listed_from listed count 0)) ≡ true
numbers_fit listed count all within =
    subst (λ (sessions : List Listed). all_below count (session_numbers sessions) ≡ true) (sym (by_place listed count 0))
    (numbered.numbers_fit (at_number listed) (2 ^ 24) count (replicate count true) (are_at listed all) (places_are count) within)

pub sessions_rise : (client : ℕ) (items : List (Option Item)) → rises_from 0 (session_numbers (sessions_had client items)) ≡ true
unfolding sessions_had
sessions_rise client items = numbers_rise (listed_number client items) SESSION_NUMBERS (are_numbered client items) (lit≤ tt)

pub sessions_fit : (client : ℕ) (items : List (Option Item)) → all_below SESSION_NUMBERS (session_numbers (sessions_had client items)) ≡ true
unfolding sessions_had
sessions_fit client items = numbers_fit (listed_number client items) SESSION_NUMBERS (are_numbered client items) (lit≤ tt)
