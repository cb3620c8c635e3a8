-- What a client may name over its table and the sessions in the broker is what it may name over its objects and sessions.
use Rattle.std.proofs.Common.{◌≡◌, ◌+◌, ◌*◌, ◌^◌, ◌<◌, inl, inr, ℕ, Bool, true, false, List, [], length, refl, sym, ap, ◌∙◌, subst, arith}
use Rattle.std.specs.Prelude.{◌==◌, ◌&&◌, not, Option, Some, None, is_some, IfSome, if◌then◌else◌}
use Rattle.std.specs.List.{AllByRecursion}
use Rattle.std.proofs.lemmas.Bool.{eq-eqb, eqb-true, cases_Bool, true≢false}
use Rattle.std.proofs.lemmas.List.Elements.{All-from_recursion, All-get_or}
use Rattle.tab_spec.specs.Admission.{client_admitted}
use Rattle.tab_spec.specs.Object.{Object}
use Rattle.tab_spec.specs.Session.{Session}
use Rattle.tab_spec.specs.Shape.{number_of_session, octet_of}
use Rattle.tab_spec.specs.declared.contexts.TheConstants.{PROFILE_CONTEXTS}
use Rattle.device_spec.specs.Slots.{SlotState}
use Rattle.object_swap.specs.Items.{Item, ItemStands, ObjectsStand, item_at, no_item}
use Rattle.session_swap.specs.Items as sessions
use Rattle.session_swap.specs.Items.{SessionsStand, SessionsView, is_owner, is_user, item_session, owner_in, owner_of_item, with_handle}
use Rattle.session_swap.proofs.Moved.{some_of}
use Rattle.client_laws.proofs.Steps.{looked_up}
use Rattle.world_spec.specs.World.{Owned, in_use, owned_by, owned_under, session_of, tables_of}
use Rattle.world_laws.proofs.Histories.{each-weaker}
use Rattle.history_laws.proofs.Tables as tables
use Rattle.history_laws.proofs.Tables.{full, get_or_mapped, held_all}
use Rattle.client_machine.specs.declared.held.Held.{Held}
use Rattle.client_machine.specs.Moves.{client_state}
use Rattle.client_machine.specs.Settled.{Sequences, owned_by_client, owned_in, sessions_in}
use Rattle.client_machine.specs.Tables.{IsTable, IsTablePlace, place_object, tables_seen}

-- ---- objects

-- an item that a table names has an object
pub item_stands : {others : List ℕ} (slots : SlotState) (items : List Item) (index : ℕ) → ObjectsStand slots items others → index < length items
    → ItemStands slots (item_at items index)
item_stands slots items index stand inside =
    All-get_or (λ item. ItemStands slots item) items index no_item inside (All-from_recursion (λ item. ItemStands slots item) items stand.each)

pub place_there : {others : List ℕ} (slots : SlotState) (items : List Item) (client : ℕ) → ObjectsStand slots items others → (place : Option ℕ)
    → IsTablePlace client items place
    → is_some (place_object slots items place) ≡ is_some place
place_there slots items client stand None is = refl
place_there slots items client stand (Some index) is = (item_stands slots items index stand is.0.inside).there is.0.there

pub seen_places : {others : List ℕ} (slots : SlotState) (items : List Item) (client : ℕ) (table : List (Option ℕ)) → ObjectsStand slots items others
    → IsTable items client table
    → AllByRecursion (λ place. is_some (place_object slots items place) ≡ is_some place) table
seen_places slots items client table stand is =
    each-weaker (λ place. IsTablePlace client items place) (λ place. is_some (place_object slots items place) ≡ is_some place) table
    (place_there slots items client stand) is.named

-- ---- sessions

-- handles of one number are the same where their octets are
whole : (handle : ℕ) → handle ≡ octet_of handle * 2 ^ 24 + number_of_session handle
whole handle = omega arith

same_by : (one other : ℕ) (octets : Bool) → (octet_of one == octet_of other) ≡ octets → number_of_session one ≡ number_of_session other → (one == other) ≡ octets
same_by one other true is number =
    eq-eqb one other (whole one ∙ (λ i. eqb-true (octet_of one) (octet_of other) is i * 2 ^ 24 + number i) ∙ sym (whole other))
same_by one other false is number = elim (cases_Bool (one == other)) [
  | inl same ↦ absurd (true≢false (sym (eq-eqb (octet_of one) (octet_of other) (ap octet_of (eqb-true one other same))) ∙ is))
  | inr apart ↦ apart
]

pub same_handle : (one other : ℕ) → number_of_session one ≡ number_of_session other → (one == other) ≡ (octet_of one == octet_of other)
same_handle one other number = same_by one other (octet_of one == octet_of other) refl number

had_by : (own same : Bool) (place : Owned) → same ≡ true → own ≡ is_some (if own && same then Some place else None)
had_by true true place is = refl
had_by true false place is = absurd cc
had_by false same place is = refl

free_by : (saved : Bool) (s : Session) → not saved ≡ is_some (if saved then None else Some s)
free_by true s = refl
free_by false s = refl

used_by : (own same : Bool) (place : Owned) → same ≡ true
    → (own && not (is_some place.handed)) ≡ is_some (in_use (if own && same then Some place else None))
used_by true true place is = free_by (is_some place.handed) place.session
used_by true false place is = absurd cc
used_by false same place is = refl

pub other_by : (own same : Bool) (place : Owned) → same ≡ false → (if own && same then Some place else None) ≡ None
other_by true true place is = absurd cc
other_by true false place is = refl
other_by false same place is = refl

-- one that was left, and an orphan, is no client's
nobodys_by : (client octet handle : ℕ) (handed : Option (List ℕ)) (s : Session) → owned_by client octet (owned_by_client None handle handed (Some s)) ≡ None
nobodys_by client octet handle None s = refl
nobodys_by client octet handle (Some context) s = refl

-- a session, whosever it is, in use or saved
record SeenBy (client : ℕ) (owner : Option (ℕ × Bool)) (place : Option Owned) : Type 0 where
  used : is_user client owner ≡ is_some (in_use place)
  had : is_owner client owner ≡ is_some place

seen_by : (client handle : ℕ) (item : sessions.Item) (owner : Option ℕ) (test : Bool) (s : Session) → item.client ≡ owner
    → (octet_of item.handle == octet_of handle) ≡ test
    → SeenBy client (owner_of_item (if test then Some item else None)) (owned_by client (octet_of handle) (owned_by_client owner item.handle item.handed (Some s)))
seen_by client handle item None true s is same =
    let none = ap (sessions.owner_by (not (is_some item.handed))) is in
    let out = sym (nobodys_by client (octet_of handle) item.handle item.handed s) in
    record {
      used = ap (is_user client) none ∙ ap (λ (p : Option Owned). is_some (in_use p)) out;
      had = ap (is_owner client) none ∙ ap (λ (p : Option Owned). is_some p) out;
    }
seen_by client handle item None false s is same =
    let out = sym (nobodys_by client (octet_of handle) item.handle item.handed s) in
    record { used = ap (λ (p : Option Owned). is_some (in_use p)) out; had = ap (λ (p : Option Owned). is_some p) out }
seen_by client handle item (Some owner) true s is same =
    let some = ap (sessions.owner_by (not (is_some item.handed))) is in
    let place : Owned = record { client = Some owner; octet = octet_of item.handle; session = s; handed = item.handed } in
    let octets = octet_of item.handle == octet_of handle in
    record {
      used = ap (is_user client) some ∙ used_by (owner == client) octets place same;
      had = ap (is_owner client) some ∙ had_by (owner == client) octets place same;
    }
seen_by client handle item (Some owner) false s is same =
    let place : Owned = record { client = Some owner; octet = octet_of item.handle; session = s; handed = item.handed } in
    let none = sym (other_by (owner == client) (octet_of item.handle == octet_of handle) place same) in
    record { used = ap (λ (p : Option Owned). is_some (in_use p)) none; had = ap (λ (p : Option Owned). is_some p) none }

seen_item : (slots : SlotState) (client handle : ℕ) (item : Option sessions.Item)
    → IfSome item (λ item. sessions.ItemStands slots (number_of_session handle) item)
    → SeenBy client (owner_of_item (with_handle handle item)) (owned_by client (octet_of handle) (owned_in slots item))
seen_item slots client handle None stands = record { used = refl; had = refl }
seen_item slots client handle (Some item) stands =
    let there = some_of (item_session slots (Some item)) stands.there in
    subst (λ (test : Bool). SeenBy client (owner_of_item (if test then Some item else None)) (owned_by client (octet_of handle) (owned_in slots (Some item))))
    (sym (same_handle item.handle handle stands.number_is))
    (subst (λ (found : Option Session). SeenBy client (owner_of_item (if octet_of item.handle == octet_of handle then Some item else None))
    (owned_by client (octet_of handle) (owned_by_client item.client item.handle item.handed found)))
    (sym there.1) (seen_by client handle item item.client (octet_of item.handle == octet_of handle) there.0 refl refl))

seen_under : (slots : SlotState) (view : SessionsView) (others : List ℕ) (client handle : ℕ) → SessionsStand slots view others
    → SeenBy client (owner_in view.items handle) (owned_under (sessions_in slots view.items) client handle)
seen_under slots view others client handle stand =
    let n = number_of_session handle in
    subst (λ (place : Option Owned). SeenBy client (owner_in view.items handle) (owned_by client (octet_of handle) place))
    (sym (get_or_mapped (owned_in slots) view.items n refl))
    (seen_item slots client handle (sessions.item_at view.items n) (stand.each n))

pub session_seen : (slots : SlotState) (view : SessionsView) (others : List ℕ) (client handle : ℕ) → SessionsStand slots view others
    → is_user client (owner_in view.items handle) ≡ is_some (session_of (sessions_in slots view.items) client handle)
session_seen slots view others client handle stand = (seen_under slots view others client handle stand).used

pub session_had : (slots : SlotState) (view : SessionsView) (others : List ℕ) (client handle : ℕ) → SessionsStand slots view others
    → is_owner client (owner_in view.items handle) ≡ is_some (owned_under (sessions_in slots view.items) client handle)
session_had slots view others client handle stand = (seen_under slots view others client handle stand).had

-- ---- both

pub admitted_seen : {others : List ℕ} (slots : SlotState) (client : ℕ) (table : List (Option ℕ)) (held : Held) (least : Sequences) (bytes : List ℕ)
    → ObjectsStand slots held.objects.items others
    → SessionsStand slots held.sessions [] → IsTable held.objects.items client table
    → client_admitted (tables_seen PROFILE_CONTEXTS client table held.sessions.items) bytes ≡ client_admitted (tables_of client (client_state slots held table least)) bytes
admitted_seen slots client table held least bytes stand sessions is =
    let items = held.objects.items in
    let f : Option ℕ → Option Object = λ place. place_object slots items place in
    let all = seen_places slots items client table stand is in
    looked_up (tables_seen PROFILE_CONTEXTS client table held.sessions.items) (tables_of client (client_state slots held table least)) bytes
    (λ handle.
    sym (held_all (λ place. is_some (f place) ≡ is_some place) table handle all refl)
    ∙ ap (λ (o : Option Object). is_some o) (sym (tables.held f table handle refl)))
    (λ handle. session_seen slots held.sessions [] client handle sessions) (sym (full f table all)) refl
