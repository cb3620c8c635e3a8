-- Which lists tell of the caller's own, and that the others are the same for all who ask.
use Rattle.std.proofs.Common.{◌≡◌, ℕ, Bool, true, false, List, refl, ap}
use Rattle.std.specs.Prelude.{◌==◌, ◌||◌, not, length, Result, Ok, Err, if◌then◌else◌}
use Rattle.tab_spec.specs.declared.CommandRow.{CommandRow}
use Rattle.tab_spec.specs.declared.TheConstants.{HT_HMAC_SESSION, HT_NV_INDEX, HT_PERSISTENT, HT_POLICY_SESSION, HT_TRANSIENT, RC_SIZE}
use Rattle.tab_spec.specs.Parameters.{when_read}
use Rattle.tab_spec.specs.Persist.{Persist}
use Rattle.tab_spec.specs.Shape.{is_session_octet, octet_of}
use Rattle.tab_spec.specs.Values.{Reading}
use Rattle.effect_spec.specs.Capabilities.{Asked, CapabilityLimits, Listed, asked_of, capability_of, handle_items, handles_listed, is_own_list, is_of_device, asks_another, list_of}

-- ---- what was read

read_by : (whole : Bool) (a asked : Asked) (next : Asked → Result (List ℕ) ℕ) → ◌≡◌ {A = Result Asked ℕ} (if whole then Ok a else Err RC_SIZE) (Ok asked)
    → (if whole then next a else Err RC_SIZE) ≡ next asked
read_by true a asked next is = let same : a ≡ asked = cc in ap next same
read_by false a asked next is = absurd cc

-- parameters that are read whole are asked with
pub read_next : (reading : Reading Asked) (asked : Asked) (next : Asked → Result (List ℕ) ℕ) → when_read reading (λ a. Ok a) ≡ Ok asked
    → when_read reading next ≡ next asked
read_next (Err code) asked next is = absurd cc
read_next (Ok read) asked next is = read_by (length read.1 == 0) read.0 asked next is

-- ---- lists that are the same for all

neither : (a b : Bool) → (a || b) ≡ false → (a ≡ false) × (b ≡ false)
neither true b is = absurd cc
neither false b is = (refl, is)

handles_by : {X : Type 0} (octet : ℕ) (a b c d e in_use saved objects others_in_use others_saved others : X)
    → (octet == HT_TRANSIENT || is_session_octet octet) ≡ false
    → (if octet == 0 then a else if octet == HT_NV_INDEX then b else if octet == HT_HMAC_SESSION then in_use else if octet == HT_POLICY_SESSION then saved
    else if octet == 0x40 then c else if octet == HT_TRANSIENT then objects else if octet == HT_PERSISTENT then d else e)
    ≡ (if octet == 0 then a else if octet == HT_NV_INDEX then b else if octet == HT_HMAC_SESSION then others_in_use else if octet == HT_POLICY_SESSION then others_saved
    else if octet == 0x40 then c else if octet == HT_TRANSIENT then others else if octet == HT_PERSISTENT then d else e)
handles_by octet a b c d e in_use saved objects others_in_use others_saved others none =
    let first = neither (octet == HT_TRANSIENT) (is_session_octet octet) none in
    let second = neither (octet == HT_HMAC_SESSION) (octet == HT_POLICY_SESSION) first.1 in
    rw (first.0, second.0, second.1) refl

-- what there is of others doesn't show in the handles of other kinds
pub other_handles : (persist : Persist) (objects others : List ℕ) (sessions other_sessions : List Listed) (property : ℕ)
    → (octet_of property == HT_TRANSIENT || is_session_octet (octet_of property)) ≡ false
    → handle_items persist objects sessions property ≡ handle_items persist others other_sessions property
other_handles persist objects others sessions other_sessions property none =
    handles_by (octet_of property) _ _ _ _ _ _ _ _ _ _ _ none

list_by : {X : Type 0} (handles own commands pcrs properties : Bool) (a b c d e others other_pairs : X) → (if handles then own else properties) ≡ false
    → (own ≡ false → a ≡ others)
    → (if handles then a else if commands then b else if pcrs then c else if properties then d else e)
    ≡ (if handles then others else if commands then b else if pcrs then c else if properties then other_pairs else e)
list_by true own commands pcrs properties a b c d e others other_pairs none same = same none
list_by false own commands pcrs properties a b c d e others other_pairs none same = rw none refl

pub other_lists : (limits others_limits : CapabilityLimits) (rows : List CommandRow) (persist : Persist) (objects others : List ℕ) (sessions other_sessions : List Listed)
    (active others_active : ℕ) (asked : Asked) → is_own_list asked ≡ false
    → list_of limits rows persist objects sessions active asked ≡ list_of others_limits rows persist others other_sessions others_active asked
other_lists limits others_limits rows persist objects others sessions other_sessions active others_active asked none =
    list_by (asked.capability == 1) (octet_of asked.property == HT_TRANSIENT || is_session_octet (octet_of asked.property)) (asked.capability == 2)
    (asked.capability == 5) (asked.capability == 6) _ _ _ _ _ _ _ none
    (λ own. ap (handles_listed asked) (other_handles persist objects others sessions other_sessions asked.property own))

told_by : (whole : Bool) (asked : Asked) (next other : Asked → Result (List ℕ) ℕ) → (is_own_list asked ≡ false → next asked ≡ other asked)
    → asks_another (if whole then Ok asked else Err RC_SIZE) ≡ true
    → (if whole then next asked else Err RC_SIZE) ≡ (if whole then other asked else Err RC_SIZE)
told_by true asked next other same is = same (not_own (is_own_list asked) is)
  where
    not_own : (own : Bool) → not own ≡ true → own ≡ false
    not_own true is = absurd cc
    not_own false is = refl
told_by false asked next other same is = refl

told_read : (reading : Reading Asked) (next other : Asked → Result (List ℕ) ℕ) → ((asked : Asked) → is_own_list asked ≡ false → next asked ≡ other asked)
    → asks_another (when_read reading (λ a. Ok a)) ≡ true → when_read reading next ≡ when_read reading other
told_read (Err code) next other same is = absurd cc
told_read (Ok read) next other same is = told_by (length read.1 == 0) read.0 next other (same read.0) is

-- the device's own answer is any client's
pub told_alike : (params : List ℕ) (rows : List CommandRow) (persist : Persist) (limits others_limits : CapabilityLimits) (objects others : List ℕ)
    (sessions other_sessions : List Listed) (active others_active : ℕ) → is_of_device params ≡ true
    → capability_of limits rows persist objects sessions active params ≡ capability_of others_limits rows persist others other_sessions others_active params
told_alike params rows persist limits others_limits objects others sessions other_sessions active others_active is =
    told_read (asked_of params) (list_of limits rows persist objects sessions active) (list_of others_limits rows persist others other_sessions others_active)
    (λ asked own. other_lists limits others_limits rows persist objects others sessions other_sessions active others_active asked own) is
