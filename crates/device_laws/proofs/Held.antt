-- The handles of what a device holds, over its slots and its session numbers: how many there are, and what they look like.
use Rattle.std.proofs.Common.{◌≡◌, ◌+◌, ◌*◌, ◌^◌, ◌<◌, ◌≤◌, ℕ, suc, Bool, true, false, cond, List, [], ◌∷◌, ◌++◌, length, get_or, set, refl, ◌∙◌, sym, ap, arith}
use Rattle.std.specs.Prelude.{Option, Some, None, is_some, ◌==◌, ◌||◌, not}
use Rattle.std.specs.List.{AllByRecursion, count_by}
use Rattle.std.proofs.lemmas.Bool.{eq-eqb, eqb-true}
use Rattle.std.proofs.lemmas.List.Sums.{count_by-le-length, sum_by-cons}
use Rattle.tab_spec.specs.declared.TheConstants.{HT_HMAC_SESSION, HT_POLICY_SESSION, HT_TRANSIENT}
use Rattle.tab_spec.specs.Admission.{is_session_handle}
use Rattle.tab_spec.specs.Object.{Object}
use Rattle.tab_spec.specs.Shape.{is_session_octet, number_of_session, octet_of}
use Rattle.effect_spec.specs.Capabilities.{transient_from}
use Rattle.device_spec.specs.Answers.{may_be_listed}
use Rattle.device_spec.specs.Remains.{handles_of_sessions}
use Rattle.device_spec.specs.Slots.{SessionPlace, inactive, loaded, saved, IsPlace, active_count, is_active, is_active_with, listed_from}
use Rattle.device_laws.proofs.HandleLists.{AreListed}

-- ---- how many

slot-cons : (slot : Option Object) (slots : List (Option Object)) → count_by is_some (slot ∷ slots) ≡ cond (is_some slot) 1 0 + count_by is_some slots
slot-cons slot slots = sum_by-cons (λ (s : Option Object). cond (is_some s) 1 0) slot slots

pub objects_counted : (from : ℕ) (slots : List (Option Object)) → count_by is_some slots ≡ length (transient_from from slots)
objects_counted from [] = refl
objects_counted from (None ∷ slots) = omega (arith, slot-cons None slots, objects_counted (from + 1) slots)
objects_counted from (Some o ∷ slots) = omega (arith, slot-cons (Some o) slots, objects_counted (from + 1) slots)

abbrev pub handles_in : Bool → ℕ → List SessionPlace → List ℕ
handles_in in_use from places = handles_of_sessions in_use (listed_from from places)

active-cons : (place : SessionPlace) (places : List SessionPlace) → active_count (place ∷ places) ≡ cond (is_active place) 1 0 + active_count places
active-cons place places = sum_by-cons (λ (p : SessionPlace). cond (is_active p) 1 0) place places

pub sessions_counted : (from : ℕ) (places : List SessionPlace)
    → active_count places ≡ length (handles_in true from places) + length (handles_in false from places)
sessions_counted from [] = refl
sessions_counted from (inactive ∷ places) = omega (arith, active-cons inactive places, sessions_counted (from + 1) places)
sessions_counted from (loaded octet s ∷ places) = omega (arith, active-cons (loaded octet s) places, sessions_counted (from + 1) places)
sessions_counted from (saved octet number ∷ places) = omega (arith, active-cons (saved octet number) places, sessions_counted (from + 1) places)

-- no more than there are places
pub objects_few : (from : ℕ) (slots : List (Option Object)) → length (transient_from from slots) ≤ length slots
objects_few from slots = omega (arith, objects_counted from slots, count_by-le-length is_some slots)

pub sessions_few : (in_use : Bool) (from : ℕ) (places : List SessionPlace) → length (handles_in in_use from places) ≤ length places
sessions_few true from places = omega (arith, sessions_counted from places, count_by-le-length is_active places)
sessions_few false from places = omega (arith, sessions_counted from places, count_by-le-length is_active places)

-- ---- the handle of a session

octet_by : (octet : ℕ) (hmac policy : Bool) → (octet == HT_HMAC_SESSION) ≡ hmac → (octet == HT_POLICY_SESSION) ≡ policy → (hmac || policy) ≡ true → octet ≤ 3
octet_by octet true policy a b is = omega (arith, eqb-true octet HT_HMAC_SESSION a)
octet_by octet false true a b is = omega (arith, eqb-true octet HT_POLICY_SESSION b)
octet_by octet false false a b is = absurd cc

octet_few : (octet : ℕ) → is_session_octet octet ≡ true → octet ≤ 3
octet_few octet is = octet_by octet (octet == HT_HMAC_SESSION) (octet == HT_POLICY_SESSION) refl refl is

-- the handle of this octet and number is one of a session, which has them
pub record HandleOf (octet number : ℕ) : Type 0 where
  pub fits : octet * 2 ^ 24 + number < 2 ^ 32
  pub octet_is : octet_of (octet * 2 ^ 24 + number) ≡ octet
  pub number_is : number_of_session (octet * 2 ^ 24 + number) ≡ number
  pub session : is_session_handle (octet * 2 ^ 24 + number) ≡ true

pub handle_of : (octet number : ℕ) → is_session_octet octet ≡ true → number < 64 → HandleOf octet number
handle_of octet number is below =
    let few : octet ≤ 3 = octet_few octet is in
    let same : octet_of (octet * 2 ^ 24 + number) ≡ octet = omega (arith, few, below) in
    record { fits = omega (arith, few, below); octet_is = same; number_is = omega (arith, few, below); session = ap is_session_octet same ∙ is }

-- ---- they may be listed

pub objects_listed : (from : ℕ) (slots : List (Option Object)) → 0x80000000 ≤ from → from + length slots ≤ 0x800000fe
    → AreListed 0x80000000 (transient_from from slots)
objects_listed from [] least most = tt
objects_listed from (None ∷ slots) least most = objects_listed (from + 1) slots (omega arith) (omega arith)
objects_listed from (Some o ∷ slots) least most =
    ((omega arith, eq-eqb (octet_of from) HT_TRANSIENT (omega arith)), objects_listed (from + 1) slots (omega arith) (omega arith))

-- whether a list has sessions
abbrev pub OfSessions : ℕ → Type 0
OfSessions property = (handle : ℕ) → is_session_handle handle ≡ true → may_be_listed property handle ≡ true

session_listed : (property octet number : ℕ) → OfSessions property → is_session_octet octet ≡ true → number < 64
    → (octet * 2 ^ 24 + number < 2 ^ 32) × (may_be_listed property (octet * 2 ^ 24 + number) ≡ true)
session_listed property octet number of is below =
    let handle = handle_of octet number is below in
    (handle.fits, of (octet * 2 ^ 24 + number) handle.session)

pub sessions_listed : (property : ℕ) (in_use : Bool) (counter from : ℕ) (places : List SessionPlace) → OfSessions property
    → AllByRecursion (λ place. IsPlace counter place) places → from + length places ≤ 64 → AreListed property (handles_in in_use from places)
sessions_listed property in_use counter from [] of all most = tt
sessions_listed property in_use counter from (inactive ∷ places) of all most = sessions_listed property in_use counter (from + 1) places of all.1 (omega arith)
sessions_listed property true counter from (loaded octet s ∷ places) of all most =
    (session_listed property octet from of all.0.0 (omega arith), sessions_listed property true counter (from + 1) places of all.1 (omega arith))
sessions_listed property false counter from (loaded octet s ∷ places) of all most =
    sessions_listed property false counter (from + 1) places of all.1 (omega arith)
sessions_listed property true counter from (saved octet number ∷ places) of all most =
    sessions_listed property true counter (from + 1) places of all.1 (omega arith)
sessions_listed property false counter from (saved octet number ∷ places) of all most =
    (session_listed property octet from of all.0.0 (omega arith), sessions_listed property false counter (from + 1) places of all.1 (omega arith))

-- ---- the first of them, and what is left without it

-- the first handle is that of the object in this slot
pub record FirstObject (from : ℕ) (slots : List (Option Object)) (handle : ℕ) (rest : List ℕ) : Type 0 where
  pub slot : ℕ
  pub object : Object
  pub below : slot < length slots
  pub handle_is : handle ≡ from + slot
  pub there : get_or slots slot None ≡ Some object
  pub gone : transient_from from (set slots slot None) ≡ rest

pub first_object : (from : ℕ) (slots : List (Option Object)) (handle : ℕ) (rest : List ℕ) → transient_from from slots ≡ handle ∷ rest
    → FirstObject from slots handle rest
first_object from [] handle rest is = absurd cc
first_object from (Some o ∷ slots) handle rest is =
    let first : from ≡ handle = cc in
    let more : transient_from (from + 1) slots ≡ rest = cc in
    record { slot = 0; object = o; below = omega arith; handle_is = omega (arith, first); there = refl; gone = more }
first_object from (None ∷ slots) handle rest is =
    let next = first_object (from + 1) slots handle rest is in
    record {
      slot = suc next.slot;
      object = next.object;
      below = omega (arith, next.below);
      handle_is = omega (arith, next.handle_is);
      there = next.there;
      gone = next.gone;
    }

-- the first handle of those in use, or of those that are saved, is that of the session with this number
pub record FirstSession (in_use : Bool) (from : ℕ) (places : List SessionPlace) (handle : ℕ) (rest : List ℕ) : Type 0 where
  pub number : ℕ
  pub octet : ℕ
  pub below : number < length places
  pub handle_is : handle ≡ octet * 2 ^ 24 + (from + number)
  pub session : is_session_octet octet ≡ true
  pub active : is_active_with octet (get_or places number inactive) ≡ true
  pub gone : handles_in in_use from (set places number inactive) ≡ rest
  pub others : handles_in (not in_use) from (set places number inactive) ≡ handles_in (not in_use) from places

-- the place is that of the first one
is_first : (in_use : Bool) (from octet : ℕ) (place : SessionPlace) (places : List SessionPlace) (handle : ℕ) (rest : List ℕ)
    → octet * 2 ^ 24 + from ≡ handle → is_session_octet octet ≡ true → is_active_with octet place ≡ true → handles_in in_use (from + 1) places ≡ rest
    → handles_in (not in_use) from (place ∷ places) ≡ handles_in (not in_use) (from + 1) places → FirstSession in_use from (place ∷ places) handle rest
is_first in_use from octet place places handle rest is session active more others = record {
  number = 0;
  octet = octet;
  below = omega arith;
  handle_is = omega (arith, is);
  session = session;
  active = active;
  gone = more;
  others = sym others;
}

-- the first one is behind the place, which has these handles on the other list
is_behind : (in_use : Bool) (from : ℕ) (place : SessionPlace) (places : List SessionPlace) (handle : ℕ) (front rest : List ℕ)
    → ((left : List SessionPlace) → handles_in in_use from (place ∷ left) ≡ handles_in in_use (from + 1) left)
    → ((left : List SessionPlace) → handles_in (not in_use) from (place ∷ left) ≡ front ++ handles_in (not in_use) (from + 1) left)
    → FirstSession in_use (from + 1) places handle rest → FirstSession in_use from (place ∷ places) handle rest
is_behind in_use from place places handle front rest none some next =
    let left = set places next.number inactive in
    record {
      number = suc next.number;
      octet = next.octet;
      below = omega (arith, next.below);
      handle_is = omega (arith, next.handle_is);
      session = next.session;
      active = next.active;
      gone = none left ∙ next.gone;
      others = some left ∙ ap (λ (more : List ℕ). front ++ more) next.others ∙ sym (some places);
    }

pub first_session : (in_use : Bool) (counter from : ℕ) (places : List SessionPlace) (handle : ℕ) (rest : List ℕ)
    → AllByRecursion (λ place. IsPlace counter place) places → handles_in in_use from places ≡ handle ∷ rest → FirstSession in_use from places handle rest
first_session in_use counter from [] handle rest all is = absurd cc
first_session in_use counter from (inactive ∷ places) handle rest all is =
    is_behind in_use from inactive places handle [] rest (λ left. refl) (λ left. refl) (first_session in_use counter (from + 1) places handle rest all.1 is)
first_session true counter from (loaded octet s ∷ places) handle rest all is =
    is_first true from octet (loaded octet s) places handle rest (cc) all.0.0 (eq-eqb octet octet refl) (cc) refl
first_session false counter from (loaded octet s ∷ places) handle rest all is =
    is_behind false from (loaded octet s) places handle ((octet * 2 ^ 24 + from) ∷ []) rest (λ left. refl) (λ left. refl)
    (first_session false counter (from + 1) places handle rest all.1 is)
first_session true counter from (saved octet number ∷ places) handle rest all is =
    is_behind true from (saved octet number) places handle ((octet * 2 ^ 24 + from) ∷ []) rest (λ left. refl) (λ left. refl)
    (first_session true counter (from + 1) places handle rest all.1 is)
first_session false counter from (saved octet number ∷ places) handle rest all is =
    is_first false from octet (saved octet number) places handle rest (cc) all.0.0 (eq-eqb octet octet refl) (cc) refl
