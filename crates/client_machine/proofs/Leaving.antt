-- While a client is closed, its close leaves the same of all sessions after each step: where one in use is dropped, where a saved one is
-- left, and where the one that was left longest is dropped.
use Rattle.std.proofs.Common.{◌≡◌, ◌<◌, ◌≤◌, ◌+◌, inl, inr, ℕ, zero, suc, Bool, true, false, List, [], ◌∷◌, ◌++◌, length, get_or, set, map, refl, ap, sym, ◌∙◌, append-nil, append_assoc, length-append, arith}
use Rattle.std.specs.Prelude.{◌-◌, ◌==◌, ◌&&◌, not, take, drop, slice_get, Option, Some, None, is_some, IfSome, if◌then◌else◌}
use Rattle.std.specs.List.{count_by, list_any}
use Rattle.std.proofs.lemmas.Bool.{eq-eqb, or_parts}
use Rattle.std.proofs.lemmas.List.{length-map, map-set}
use Rattle.tab_spec.specs.Session.{Session}
use Rattle.tab_spec.specs.Shape.{number_of_session, octet_of}
use Rattle.tab_spec.specs.Numbers.{leave_limit}
use Rattle.device_spec.specs.Slots.{SlotState}
use Rattle.device_port.specs.Use.{without_one}
use Rattle.session_swap.specs.Items.{Item, ItemStands, ListsThose, Names, SessionsStand, SessionsView, flag, is_left, is_orphan, is_owned, is_owner, is_saved_for_owner, item_at, item_session, left_behind, owner_by, owner_in, owner_of_item}
use Rattle.session_swap.proofs.Among.{named_inside, named_is}
use Rattle.session_swap.proofs.Counts.{count_cons, flag_false, is_true}
use Rattle.history_laws.proofs.Tables.{get_or_mapped}
use Rattle.world_spec.specs.World.{Owned, closed_sessions, is_saved_by, left_place, saved_numbers, without_places}
use Rattle.client_machine.specs.Dropping.{IsDropped, IsLeastOf, is_saved_of, is_used, left_after}
use Rattle.client_machine.specs.Settled.{owned_by_client, owned_in, sessions_in}
use Rattle.client_machine.proofs.LeftOnes.{behind_unsaved, first_leaves, kept_leaves, kept_saved, left_of, others_unsaved, used_leaves, used_unsaved, without_first_one}
use Rattle.client_machine.proofs.Settling.{some_same}

abbrev place_of : List (Option Owned) → ℕ → Option Owned
place_of sessions n = get_or sessions n None

-- ---- sessions of the world

-- what is left of these sessions, where these are left in order, and so many may be
abbrev closed_with : ℕ → List ℕ → List (Option Owned) → List (Option Owned) × List ℕ
closed_with most all sessions =
    let gone = length all - most in
    (without_places (take gone all) sessions, drop gone all)

-- its number, where it is one that the client saved
abbrev number_if : Bool → ℕ → List ℕ
number_if saved number = if saved then number ∷ [] else []

-- a place changes, and the client saved the one exactly where it saved the other
saved_set : (client first n : ℕ) (sessions : List (Option Owned)) (place : Option Owned) → is_saved_by client place ≡ is_saved_by client (place_of sessions n)
    → saved_numbers client first (set sessions n place) ≡ saved_numbers client first sessions
saved_set client first n [] place same = refl
saved_set client first zero (one ∷ sessions) place same =
    ap (λ (saved : Bool). number_if saved first ++ saved_numbers client (first + 1) sessions) same
saved_set client first (suc n) (one ∷ sessions) place same =
    ap (λ (l : List ℕ). number_if (is_saved_by client one) first ++ l) (saved_set client (first + 1) n sessions place same)

-- and the client's close leaves the same of both
left_set : (client n : ℕ) (sessions : List (Option Owned)) (place : Option Owned) → left_place client place ≡ left_place client (place_of sessions n)
    → map (left_place client) (set sessions n place) ≡ map (left_place client) sessions
left_set client n [] place same = refl
left_set client zero (one ∷ sessions) place same = ap (λ (p : Option Owned). p ∷ map (left_place client) sessions) same
left_set client (suc n) (one ∷ sessions) place same =
    ap (λ (l : List (Option Owned)). left_place client one ∷ l) (left_set client n sessions place same)

-- a place goes of which the client's close leaves nothing
used_goes : (client most n : ℕ) (sessions : List (Option Owned)) (left : List ℕ) → is_saved_by client (place_of sessions n) ≡ false
    → left_place client (place_of sessions n) ≡ None
    → closed_sessions client most (set sessions n None) left ≡ closed_sessions client most sessions left
used_goes client most n sessions left unsaved goes =
    let saved : saved_numbers client 0 (set sessions n None) ≡ saved_numbers client 0 sessions = saved_set client 0 n sessions None (sym unsaved) in
    let places : map (left_place client) (set sessions n None) ≡ map (left_place client) sessions = left_set client n sessions None (sym goes) in
    λ i. closed_with (leave_limit most) (left ++ saved i) (places i)

-- the first number that the client saved, where its session is another one then
saved_first : (client first n number : ℕ) (sessions : List (Option Owned)) (place : Option Owned) → number ≡ first + n → n < length sessions
    → ((k : ℕ) → k < n → is_saved_by client (place_of sessions k) ≡ false) → is_saved_by client (place_of sessions n) ≡ true
    → is_saved_by client place ≡ false → saved_numbers client first sessions ≡ number ∷ saved_numbers client first (set sessions n place)
saved_first client first n number [] place is inside lower here none = absurd (omega (arith, inside))
saved_first client first zero number (one ∷ sessions) place is inside lower here none =
    let rest = saved_numbers client (first + 1) sessions in
    let at : first ≡ number = omega (arith, is) in
    ap (λ (saved : Bool). number_if saved first ++ rest) here ∙ (λ i. at i ∷ number_if (sym none i) first ++ rest)
saved_first client first (suc n) number (one ∷ sessions) place is inside lower here none =
    let unsaved : is_saved_by client one ≡ false = lower 0 (omega arith) in
    let after = saved_numbers client (first + 1) (set sessions n place) in
    ap (λ (saved : Bool). number_if saved first ++ saved_numbers client (first + 1) sessions) unsaved
    ∙ saved_first client (first + 1) n number sessions place (omega (arith, is)) (omega (arith, inside)) (λ k less. lower (suc k) (omega (arith, less))) here none
    ∙ (λ i. number ∷ number_if (sym unsaved i) first ++ after)

-- it is left, behind those that are left already
saved_leaves : (client most n : ℕ) (sessions : List (Option Owned)) (left : List ℕ) (place : Option Owned) → n < length sessions
    → ((k : ℕ) → k < n → is_saved_by client (place_of sessions k) ≡ false) → is_saved_by client (place_of sessions n) ≡ true
    → is_saved_by client place ≡ false → left_place client place ≡ left_place client (place_of sessions n)
    → closed_sessions client most (set sessions n place) (left ++ n ∷ []) ≡ closed_sessions client most sessions left
saved_leaves client most n sessions left place inside lower here none same =
    let after = saved_numbers client 0 (set sessions n place) in
    let saved : saved_numbers client 0 sessions ≡ n ∷ after = saved_first client 0 n n sessions place (omega arith) inside lower here none in
    let all : (left ++ n ∷ []) ++ after ≡ left ++ saved_numbers client 0 sessions =
    append_assoc left (n ∷ []) after ∙ ap (λ (l : List ℕ). left ++ l) (sym saved) in
    let places : map (left_place client) (set sessions n place) ≡ map (left_place client) sessions = left_set client n sessions place same in
    λ i. closed_with (leave_limit most) (all i) (places i)

-- the first of more than may be left goes
past_goes : (most first : ℕ) (all : List ℕ) (sessions : List (Option Owned)) → most ≤ length all
    → closed_with most all (set sessions first None) ≡ closed_with most (first ∷ all) sessions
past_goes most first all sessions many =
    let more : suc (length all - most) ≡ length (first ∷ all) - most = omega (arith, many) in
    λ i. (without_places (take (more i) (first ∷ all)) sessions, drop (more i) (first ∷ all))

first_goes : (client most n : ℕ) (sessions : List (Option Owned)) (left : List ℕ) → leave_limit most < length left → slice_get left 0 ≡ Some n
    → is_saved_by client (place_of sessions n) ≡ false
    → closed_sessions client most (set sessions n None) (without_one n left) ≡ closed_sessions client most sessions left
first_goes client most n sessions [] many first unsaved = absurd cc
first_goes client most n sessions (one ∷ more) many first unsaved =
    let is : one ≡ n = some_same first in
    let rest = saved_numbers client 0 sessions in
    let saved : saved_numbers client 0 (set sessions n None) ≡ rest = saved_set client 0 n sessions None (sym unsaved) in
    ap (λ (l : List ℕ). closed_sessions client most (set sessions n None) l) (without_first_one n one more is)
    ∙ (λ i. closed_with (leave_limit most) (more ++ saved i) (map-set (left_place client) sessions n None i))
    ∙ past_goes (leave_limit most) n (more ++ rest) (map (left_place client) sessions) (omega (arith, many, length-append more rest))
    ∙ ap (λ (k : ℕ). closed_with (leave_limit most) (k ∷ more ++ rest) (map (left_place client) sessions)) (sym is)

-- ---- an item as the world has it

-- the close of the client leaves it as it is
record IsOthers (client : ℕ) (place : Option Owned) : Type 0 where
  unsaved : is_saved_by client place ≡ false
  stays : left_place client place ≡ place

others_by : (client : ℕ) (used : Bool) (owner : Option ℕ) (handle : ℕ) (handed : Option (List ℕ)) (found : Option Session)
    → is_owner client (owner_by used owner) ≡ false → IsOthers client (owned_by_client owner handle handed found)
others_by client used None handle None found apart = record { unsaved = refl; stays = refl }
others_by client used None handle (Some context) None apart = record { unsaved = refl; stays = refl }
others_by client used None handle (Some context) (Some s) apart = record { unsaved = refl; stays = refl }
others_by client used (Some c) handle handed None apart = record { unsaved = refl; stays = refl }
others_by client used (Some c) handle handed (Some s) apart =
    let place : Owned = record { client = Some c; octet = octet_of handle; session = s; handed = handed } in
    record {
      unsaved = ap (λ (own : Bool). own && is_some handed) apart;
      stays = ap (λ (own : Bool). if own then (if is_some handed then Some (record place { client = None }) else None) else Some place) apart;
    }

others_at : (client : ℕ) (slots : SlotState) (item : Option Item) → is_owned client item ≡ false → IsOthers client (owned_in slots item)
others_at client slots None apart = record { unsaved = refl; stays = refl }
others_at client slots (Some item) apart =
    others_by client (not (is_some item.handed)) item.client item.handle item.handed (item_session slots (Some item)) apart

-- it leaves nothing of it
record IsUsed (client : ℕ) (place : Option Owned) : Type 0 where
  unsaved : is_saved_by client place ≡ false
  goes : left_place client place ≡ None

used_by : (client : ℕ) (owner : Option ℕ) (handle : ℕ) (handed : Option (List ℕ)) (found : Option Session)
    → is_owner client (owner_by (not (is_some handed)) owner) ≡ true → is_used (owner_by (not (is_some handed)) owner) ≡ true
    → IsUsed client (owned_by_client owner handle handed found)
used_by client None handle handed found own used = absurd cc
used_by client (Some c) handle (Some context) found own used = absurd cc
used_by client (Some c) handle None None own used = record { unsaved = refl; goes = refl }
used_by client (Some c) handle None (Some s) own used =
    let place : Owned = record { client = Some c; octet = octet_of handle; session = s; handed = None } in
    record {
      unsaved = ap (λ (own : Bool). own && false) own;
      goes = ap (λ (own : Bool). if own then None else Some place) own;
    }

used_at : (client : ℕ) (slots : SlotState) (item : Option Item) → is_owner client (owner_of_item item) ≡ true → is_used (owner_of_item item) ≡ true
    → IsUsed client (owned_in slots item)
used_at client slots None own used = absurd cc
used_at client slots (Some item) own used = used_by client item.client item.handle item.handed (item_session slots (Some item)) own used

-- it leaves it to nobody
record IsKept (client : ℕ) (place left : Option Owned) : Type 0 where
  saved : is_saved_by client place ≡ true
  unsaved : is_saved_by client left ≡ false
  same : left_place client left ≡ left_place client place

kept_by : (client : ℕ) (owner : Option ℕ) (handle : ℕ) (handed : Option (List ℕ)) (found : Option Session)
    → is_owner client (owner_by (not (is_some handed)) owner) ≡ true → is_used (owner_by (not (is_some handed)) owner) ≡ false → is_some found ≡ true
    → IsKept client (owned_by_client owner handle handed found) (owned_by_client None handle handed found)
kept_by client None handle handed found own used there = absurd cc
kept_by client (Some c) handle None found own used there = absurd cc
kept_by client (Some c) handle (Some context) None own used there = absurd cc
kept_by client (Some c) handle (Some context) (Some s) own used there =
    let place : Owned = record { client = Some c; octet = octet_of handle; session = s; handed = Some context } in
    record {
      saved = ap (λ (own : Bool). own && true) own;
      unsaved = refl;
      same = sym (ap (λ (own : Bool). if own then Some (record place { client = None }) else Some place) own);
    }

kept_at : (client n : ℕ) (slots : SlotState) (item : Option Item) → is_owner client (owner_of_item item) ≡ true
    → is_used (owner_of_item item) ≡ false → IfSome item (λ item. ItemStands slots n item)
    → IsKept client (owned_in slots item) (owned_in slots (left_behind item))
kept_at client n slots None own used stands = absurd cc
kept_at client n slots (Some item) own used stands =
    kept_by client item.client item.handle item.handed (item_session slots (Some item)) own used stands.there

place_in : (slots : SlotState) (items : List (Option Item)) (n : ℕ) → place_of (sessions_in slots items) n ≡ owned_in slots (item_at items n)
place_in slots items n = get_or_mapped (owned_in slots) items n refl

-- ---- where the client has none

none_saved : (client first : ℕ) (slots : SlotState) (items : List (Option Item)) → list_any (is_owned client) items ≡ false
    → saved_numbers client first (sessions_in slots items) ≡ []
none_saved client first slots [] none = refl
none_saved client first slots (item ∷ items) none =
    let parts = or_parts (is_owned client item) (list_any (is_owned client) items) none in
    λ i. number_if ((others_at client slots item parts.0).unsaved i) first ++ none_saved client (first + 1) slots items parts.1 i

none_goes : (client : ℕ) (slots : SlotState) (items : List (Option Item)) → list_any (is_owned client) items ≡ false
    → map (left_place client) (sessions_in slots items) ≡ sessions_in slots items
none_goes client slots [] none = refl
none_goes client slots (item ∷ items) none =
    let parts = or_parts (is_owned client item) (list_any (is_owned client) items) none in
    λ i. (others_at client slots item parts.0).stays i ∷ none_goes client slots items parts.1 i

few_stay : (most : ℕ) (left : List ℕ) (sessions : List (Option Owned)) → length left ≤ most → closed_with most left sessions ≡ (sessions, left)
few_stay most left sessions few =
    let none : length left - most ≡ 0 = omega (arith, few) in
    λ i. (without_places (take (none i) left) sessions, drop (none i) left)

-- the close of a client that has no session leaves all as it is, where no more are left than may be
pub closed_already : (client most : ℕ) (slots : SlotState) (items : List (Option Item)) (left : List ℕ) → list_any (is_owned client) items ≡ false
    → length left ≤ leave_limit most → closed_sessions client most (sessions_in slots items) left ≡ (sessions_in slots items, left)
closed_already client most slots items left none few =
    let saved = none_saved client 0 slots items none in
    let places = none_goes client slots items none in
    (λ i. closed_with (leave_limit most) (left ++ saved i) (places i))
    ∙ ap (λ (l : List ℕ). closed_with (leave_limit most) l (sessions_in slots items)) (append-nil left)
    ∙ few_stay (leave_limit most) left (sessions_in slots items) few

-- ---- the list of the left ones

unlisted_by : (n one : ℕ) (left : List ℕ) (here : Bool) → (one == n) ≡ here → flag here ≡ 0 → without_one n left ≡ left → without_one n (one ∷ left) ≡ one ∷ left
unlisted_by n one left true is none rest = absurd (omega (arith, none))
unlisted_by n one left false is none rest =
    ap (λ (here : Bool). if here then left else one ∷ without_one n left) is ∙ ap (λ (l : List ℕ). one ∷ l) rest

-- a number that isn't listed
pub unlisted : (n : ℕ) (left : List ℕ) → count_by (λ one. one == n) left ≡ 0 → without_one n left ≡ left
unlisted n [] none = refl
unlisted n (one ∷ left) none =
    let more = count_cons (λ (k : ℕ). k == n) one left in
    unlisted_by n one left (one == n) refl (omega (arith, none, more)) (unlisted n left (omega (arith, none, more)))

-- that of a session that wasn't left
pub unleft : (items : List (Option Item)) (left : List ℕ) (n : ℕ) → ListsThose is_left left items → is_left (item_at items n) ≡ false
    → without_one n left ≡ left
unleft items left n listed none = unlisted n left (listed.each n ∙ flag_false (is_left (item_at items n)) none)

shorter_by : (n one : ℕ) (left : List ℕ) (here : Bool) → length (without_one n left) ≤ length left
    → length (if here then left else one ∷ without_one n left) ≤ suc (length left)
shorter_by n one left true rest = omega arith
shorter_by n one left false rest = omega (arith, rest)

pub shorter : (n : ℕ) (left : List ℕ) → length (without_one n left) ≤ length left
shorter n [] = omega arith
shorter n (one ∷ left) = shorter_by n one left (one == n) (shorter n left)

-- the first one is gone
pub one_fewer : (n : ℕ) (left : List ℕ) → slice_get left 0 ≡ Some n → length (without_one n left) + 1 ≡ length left
one_fewer n [] first = absurd cc
one_fewer n (one ∷ more) first = omega (arith, ap length (without_first_one n one more (some_same first)))

first_listed : (n : ℕ) (left : List ℕ) → slice_get left 0 ≡ Some n → 1 ≤ count_by (λ one. one == n) left
first_listed n [] first = absurd cc
first_listed n (one ∷ more) first =
    omega (arith, count_cons (λ (k : ℕ). k == n) one more, ap flag (eq-eqb one n (some_same first)))

-- and was left
first_left : (items : List (Option Item)) (left : List ℕ) (n : ℕ) → ListsThose is_left left items → slice_get left 0 ≡ Some n
    → is_left (item_at items n) ≡ true
first_left items left n listed first = is_true (is_left (item_at items n)) (omega (arith, listed.each n, first_listed n left first))

-- ---- what isn't left

owned_by : (client : ℕ) (used : Bool) (owner : Option ℕ) (handed : Option (List ℕ)) → is_owner client (owner_by used owner) ≡ true
    → (not (is_some owner) && is_some handed) ≡ false
owned_by client used None handed own = absurd cc
owned_by client used (Some c) handed own = refl

-- a client's session
pub owned_unleft : (client : ℕ) (item : Option Item) → is_owned client item ≡ true → is_left item ≡ false
owned_unleft client None own = refl
owned_unleft client (Some item) own = owned_by client (not (is_some item.handed)) item.client item.handed own

orphan_by : (owner handed : Bool) → (not owner && not handed) ≡ true → (not owner && handed) ≡ false
orphan_by true handed orphan = absurd cc
orphan_by false true orphan = absurd cc
orphan_by false false orphan = refl

-- an orphan
pub orphan_unleft : (item : Option Item) → is_orphan item ≡ true → is_left item ≡ false
orphan_unleft None orphan = refl
orphan_unleft (Some item) orphan = orphan_by (is_some item.client) (is_some item.handed) orphan

left_by : (client : ℕ) (used : Bool) (owner : Option ℕ) (handed : Option (List ℕ)) → (not (is_some owner) && is_some handed) ≡ true
    → is_owner client (owner_by used owner) ≡ false
left_by client used None handed left = refl
left_by client used (Some c) handed left = absurd cc

-- a left one is no client's
pub left_unowned : (client : ℕ) (item : Option Item) → is_left item ≡ true → is_owned client item ≡ false
left_unowned client None left = refl
left_unowned client (Some item) left = left_by client (not (is_some item.handed)) item.client item.handed left

held_by : (owner handed : Bool) → (not owner && handed) ≡ true → (not owner && not handed) ≡ false
held_by true handed left = absurd cc
held_by false true left = refl
held_by false false left = absurd cc

-- and no orphan
left_held : (item : Option Item) → is_left item ≡ true → is_orphan item ≡ false
left_held None left = refl
left_held (Some item) left = held_by (is_some item.client) (is_some item.handed) left

client_held : (client : ℕ) (used : Bool) (owner : Option ℕ) (handed : Option (List ℕ)) → is_owner client (owner_by used owner) ≡ true
    → (not (is_some owner) && not (is_some handed)) ≡ false
client_held client used None handed own = absurd cc
client_held client used (Some c) handed own = refl

pub owned_held : (client : ℕ) (item : Option Item) → is_owned client item ≡ true → is_orphan item ≡ false
owned_held client None own = refl
owned_held client (Some item) own = client_held client (not (is_some item.handed)) item.client item.handed own

-- ---- a session that a close drops

-- what the client's close leaves is the same without it
pub record IsGoing (client : ℕ) (view : SessionsView) (n : ℕ) : Type 0 where
  pub inside : n < length view.items
  pub held : is_orphan (item_at view.items n) ≡ false
  pub closes : (slots : SlotState)
      → closed_sessions client view.numbers.active (set (sessions_in slots view.items) n None) (without_one n view.left)
      ≡ closed_sessions client view.numbers.active (sessions_in slots view.items) view.left
  -- whatever has its number then that the client didn't save
  pub leaves : (item : Option Item) → is_saved_of client item ≡ false
      → left_of client view.numbers.active (set view.items n item) (without_one n view.left) ≡ left_after client view

used_going : (client : ℕ) (view : SessionsView) (n : ℕ) → n < length view.items → ListsThose is_left view.left view.items
    → is_owner client (owner_of_item (item_at view.items n)) ≡ true → is_used (owner_of_item (item_at view.items n)) ≡ true → IsGoing client view n
used_going client view n inside listed own used =
    let active = view.numbers.active in
    record {
      inside = inside;
      held = owned_held client (item_at view.items n) own;
      closes = λ slots.
          let sessions = sessions_in slots view.items in
          let here = place_in slots view.items n in
          let is = used_at client slots (item_at view.items n) own used in
          ap (λ (l : List ℕ). closed_sessions client active (set sessions n None) l)
          (unleft view.items view.left n listed (owned_unleft client (item_at view.items n) own))
          ∙ used_goes client active n sessions view.left (ap (is_saved_by client) here ∙ is.unsaved)
          (ap (left_place client) here ∙ is.goes);
      leaves = λ item none.
          ap (left_of client active (set view.items n item)) (unleft view.items view.left n listed (owned_unleft client (item_at view.items n) own))
          ∙ used_leaves client active n view.items view.left item (used_unsaved client (item_at view.items n) used) none;
    }

first_going : (client : ℕ) (view : SessionsView) (n : ℕ) → n < length view.items → ListsThose is_left view.left view.items
    → leave_limit view.numbers.active < length view.left → slice_get view.left 0 ≡ Some n → IsGoing client view n
first_going client view n inside listed many first =
    let left = first_left view.items view.left n listed first in
    record {
      inside = inside;
      held = left_held (item_at view.items n) left;
      closes = λ slots.
          let is = others_at client slots (item_at view.items n) (left_unowned client (item_at view.items n) left) in
          first_goes client view.numbers.active n (sessions_in slots view.items) view.left many first
          (ap (is_saved_by client) (place_in slots view.items n) ∙ is.unsaved);
      leaves = λ item none.
          first_leaves client view.numbers.active n view.items view.left item many first
          (others_unsaved client (item_at view.items n) (left_unowned client (item_at view.items n) left)) none;
    }

pub going : (client : ℕ) (view : SessionsView) (handle : ℕ) → Names view.items handle → ListsThose is_left view.left view.items
    → IsDropped client view handle → IsGoing client view (number_of_session handle)
going client view handle names listed (inl used) =
    let here = named_is view.items handle names in
    used_going client view (number_of_session handle) (named_inside view.items handle names) listed
    (sym (ap (λ (item : Option Item). is_owner client (owner_of_item item)) here) ∙ used.0)
    (sym (ap (λ (item : Option Item). is_used (owner_of_item item)) here) ∙ used.1)
going client view handle names listed (inr first) =
    first_going client view (number_of_session handle) (named_inside view.items handle names) listed first.0 first.1

-- ---- a session that is left

-- the client has it, saved, under its least number
pub record IsLeaving (client : ℕ) (items : List (Option Item)) (n : ℕ) : Type 0 where
  pub inside : n < length items
  pub own : is_owner client (owner_of_item (item_at items n)) ≡ true
  pub saved : is_used (owner_of_item (item_at items n)) ≡ false
  pub least : (lower : ℕ) → lower < n → is_owned client (item_at items lower) ≡ false

pub leaving : (client : ℕ) (view : SessionsView) (handle : ℕ) → IsLeastOf client view handle → is_used (owner_in view.items handle) ≡ false
    → IsLeaving client view.items (number_of_session handle)
leaving client view handle first saved =
    let here = named_is view.items handle first.named in
    record {
      inside = named_inside view.items handle first.named;
      own = sym (ap (λ (item : Option Item). is_owner client (owner_of_item item)) here) ∙ first.own;
      saved = sym (ap (λ (item : Option Item). is_used (owner_of_item item)) here) ∙ saved;
      least = first.least;
    }

pub left_closes : (client : ℕ) (view : SessionsView) (n : ℕ) (slots : SlotState) → IsLeaving client view.items n → SessionsStand slots view []
    → closed_sessions client view.numbers.active (sessions_in slots (set view.items n (left_behind (item_at view.items n)))) (view.left ++ n ∷ [])
    ≡ closed_sessions client view.numbers.active (sessions_in slots view.items) view.left
left_closes client view n slots is stand =
    let items = view.items in
    let active = view.numbers.active in
    let sessions = sessions_in slots items in
    let after = left_behind (item_at items n) in
    let here = place_in slots items n in
    let kept = kept_at client n slots (item_at items n) is.own is.saved (stand.each n) in
    ap (λ (l : List (Option Owned)). closed_sessions client active l (view.left ++ n ∷ [])) (map-set (owned_in slots) items n after)
    ∙ saved_leaves client active n sessions view.left (owned_in slots after) (omega (arith, is.inside, length-map items (owned_in slots)))
    (λ k less. ap (is_saved_by client) (place_in slots items k) ∙ (others_at client slots (item_at items k) (is.least k less)).unsaved)
    (ap (is_saved_by client) here ∙ kept.saved) kept.unsaved (kept.same ∙ sym (ap (left_place client) here))

pub left_leaves : (client : ℕ) (view : SessionsView) (n : ℕ) → IsLeaving client view.items n
    → left_of client view.numbers.active (set view.items n (left_behind (item_at view.items n))) (view.left ++ n ∷ []) ≡ left_after client view
left_leaves client view n is =
    let item = item_at view.items n in
    kept_leaves client view.numbers.active n view.items view.left (left_behind item) is.inside
    (λ k less. others_unsaved client (item_at view.items k) (is.least k less)) (kept_saved client item is.own is.saved) (behind_unsaved client item)

saved_by : (client : ℕ) (owner : Option ℕ) (handed : Option (List ℕ)) → is_owner client (owner_by (not (is_some handed)) owner) ≡ true
    → is_used (owner_by (not (is_some handed)) owner) ≡ false → (is_some owner && is_some handed) ≡ true
saved_by client None handed own saved = absurd cc
saved_by client (Some c) None own saved = absurd cc
saved_by client (Some c) (Some context) own saved = refl

pub saved_owner : (client : ℕ) (item : Option Item) → is_owner client (owner_of_item item) ≡ true → is_used (owner_of_item item) ≡ false
    → is_saved_for_owner item ≡ true
saved_owner client None own saved = absurd cc
saved_owner client (Some item) own saved = saved_by client item.client item.handed own saved

-- it is no orphan then, and no client's
handed_held : (owner handed : Bool) → (owner && handed) ≡ true → (true && not handed) ≡ false
handed_held true true saved = refl
handed_held true false saved = absurd cc
handed_held false handed saved = absurd cc

pub behind_held : (item : Option Item) → is_saved_for_owner item ≡ true → is_orphan (left_behind item) ≡ false
behind_held None saved = refl
behind_held (Some item) saved = handed_held (is_some item.client) (is_some item.handed) saved

pub behind_unowned : (client : ℕ) (item : Option Item) → is_owned client (left_behind item) ≡ false
behind_unowned client None = refl
behind_unowned client (Some item) = refl
