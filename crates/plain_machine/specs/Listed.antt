-- What a client is told that it has: the handles of its objects, and its sessions by their numbers.
use Rattle.std.proofs.Common.{◌≡◌, ◌≤◌, lit≤, ap, refl, subst, sym}
use Rattle.std.specs.Prelude.{ℕ, ◌*◌, ◌+◌, ◌^◌, not, true, List, [], ◌∷◌, ◌++◌, length, Option, Some, None, is_some, option_map}
use Rattle.std.proofs.lemmas.Bool.{cond_both}
use Rattle.std.proofs.lemmas.List.{length-map}
use Rattle.std.proofs.lemmas.Nat.{mod_low}
use Rattle.tab_spec.specs.declared.TheConstants.{SESSION_NUMBERS, TRANSIENT_FIRST}
use Rattle.effect_spec.specs.Capabilities.{Listed, transient_from}
use Rattle.fx_capability.specs.Lists.{rises_from, all_below, session_numbers}
use Rattle.fx_capability.proofs.Numbered.{AreAt, IsAt, by_number, numbers_fit, numbers_rise}
use Rattle.fx_capability.proofs.Objects as handles
use Rattle.history_spec.specs.declared.TheConstants.{CLIENT_OBJECTS}
use Rattle.world_spec.specs.World.{Owned, is_of, listed_owned, listed_sessions}
use Rattle.plain_machine.specs.declared.seen.Seen.{Seen}
use Rattle.tab_values.specs.Views.{object_of}
use Rattle.plain_machine.specs.Owners.{owned_of, owners_of}
use Rattle.plain_machine.specs.Views.{objects_of}

abbrev pub objects_listed : Seen → List ℕ
objects_listed seen = transient_from TRANSIENT_FIRST (objects_of seen.places.now)

abbrev pub sessions_listed : Seen → List Listed
sessions_listed seen = listed_sessions seen.client 0 (owners_of seen.sessions.now)

-- ---- objects

pub objects_rise : (seen : Seen) → rises_from 0 (objects_listed seen) ≡ true
objects_rise seen = handles.objects_rise TRANSIENT_FIRST (objects_of seen.places.now)

few_seen : (seen : Seen) → length (objects_of seen.places.now) ≤ CLIENT_OBJECTS
few_seen seen = subst (λ (n : ℕ). n ≤ CLIENT_OBJECTS) (sym (length-map seen.places.now (option_map object_of))) seen.few

pub objects_fit : (seen : Seen) → all_below (2 ^ 32) (objects_listed seen) ≡ true
objects_fit seen = handles.objects_fit (2 ^ 32) TRANSIENT_FIRST CLIENT_OBJECTS (objects_of seen.places.now) (few_seen seen) (lit≤ tt)

-- ---- sessions

-- a client's sessions are listed place by place
pub by_place : (client n : ℕ) (places : List (Option Owned)) → listed_sessions client n places ≡ by_number (listed_owned client) n places
by_place client n [] = refl
by_place client n (place ∷ places) = ap (λ (rest : List Listed). listed_owned client n place ++ rest) (by_place client (n + 1) places)

-- and each under the number of its place
pub owned_at : (client : ℕ) → AreAt (2 ^ 24) (listed_owned client)
owned_at client n None below = tt
owned_at client n (Some place) below =
    cond_both (is_of client place.client) (record { handle = place.octet * 2 ^ 24 + n; in_use = not (is_some place.handed) } ∷ []) [] (IsAt n)
    (λ own. mod_low place.octet 24 n below) (λ other. tt)

numbers_seen : (seen : Seen) → length (owners_of seen.sessions.now) ≤ SESSION_NUMBERS
numbers_seen seen = subst (λ (n : ℕ). n ≤ SESSION_NUMBERS) (sym (length-map seen.sessions.now (option_map owned_of))) seen.numbers

pub sessions_rise : (seen : Seen) → rises_from 0 (session_numbers (sessions_listed seen)) ≡ true
sessions_rise seen =
    let owners = owners_of seen.sessions.now in
    subst (λ (sessions : List Listed). rises_from 0 (session_numbers sessions) ≡ true) (sym (by_place seen.client 0 owners))
    (numbers_rise (listed_owned seen.client) (2 ^ 24) SESSION_NUMBERS owners (owned_at seen.client) (numbers_seen seen) (lit≤ tt))

pub sessions_fit : (seen : Seen) → all_below SESSION_NUMBERS (session_numbers (sessions_listed seen)) ≡ true
sessions_fit seen =
    let owners = owners_of seen.sessions.now in
    subst (λ (sessions : List Listed). all_below SESSION_NUMBERS (session_numbers sessions) ≡ true) (sym (by_place seen.client 0 owners))
    (numbers_fit (listed_owned seen.client) (2 ^ 24) SESSION_NUMBERS owners (owned_at seen.client) (numbers_seen seen) (lit≤ tt))
