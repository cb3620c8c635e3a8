-- What GetCapability tells a client over its table and the sessions in the broker is what it tells over its objects and sessions.
use Rattle.std.proofs.Common.{◌≡◌, ◌+◌, ◌*◌, ◌^◌, ◌<◌, ℕ, suc, Bool, true, false, List, [], ◌∷◌, ◌++◌, length, get_or, map, refl, ap, sym, ◌∙◌, subst, arith}
use Rattle.std.specs.Prelude.{◌==◌, ◌&&◌, ◌||◌, not, Option, Some, None, is_some, IfSome, if◌then◌else◌}
use Rattle.std.specs.List.{AllByRecursion, count_by}
use Rattle.std.specs.Option.{option_or}
use Rattle.std.proofs.lemmas.Bool.{eq-eqb, eqb-true, ne_eqb}
use Rattle.std.proofs.lemmas.List.{length-map}
use Rattle.tab_spec.specs.declared.TheConstants.{HT_HMAC_SESSION, HT_POLICY_SESSION, SESSION_NUMBERS, TRANSIENT_FIRST}
use Rattle.tab_spec.specs.Commands.{all_commands}
use Rattle.tab_spec.specs.Object.{Object}
use Rattle.tab_spec.specs.Session.{Session}
use Rattle.tab_spec.specs.Shape.{number_of_session, octet_of}
use Rattle.effect_spec.specs.Capabilities.{Listed, capability_of, client_limits, transient_from}
use Rattle.device_spec.specs.Slots.{SlotState}
use Rattle.session_swap.specs.Items.{Item, ItemStands, SessionsStand, SessionsView, is_held, item_at, item_session, owner_by, owner_of_item, with_handle}
use Rattle.session_swap.proofs.Counts as flags
use Rattle.history_laws.proofs.Tables.{get_or_mapped}
use Rattle.world_spec.specs.World.{Owned, active, client_capability, listed_owned, listed_sessions}
use Rattle.client_machine.specs.declared.held.Held.{Held}
use Rattle.client_machine.specs.Listing.{listed_from, listed_number, listed_only, listed_owner, sessions_had, with_only}
use Rattle.client_machine.specs.Moves.{client_state}
use Rattle.client_machine.specs.Replies.{own_capability}
use Rattle.client_machine.specs.Settled.{IsSettled, Sequences, owned_by_client, owned_in, sessions_in}
use Rattle.client_machine.specs.Tables.{IsTable, objects_in, place_object}
use Rattle.client_machine.proofs.Seeing.{seen_places}

-- ---- objects

listed_same : {X Y : Type 0} (handle : ℕ) (one : Option X) (xs : List (Option X)) (other : Option Y) (ys : List (Option Y)) → is_some one ≡ is_some other
    → transient_from (handle + 1) xs ≡ transient_from (handle + 1) ys → transient_from handle (one ∷ xs) ≡ transient_from handle (other ∷ ys)
listed_same handle None xs None ys same rest = rest
listed_same handle None xs (Some y) ys same rest = absurd cc
listed_same handle (Some x) xs None ys same rest = absurd cc
listed_same handle (Some x) xs (Some y) ys same rest = ap (λ (l : List ℕ). handle ∷ l) rest

objects_listed : (f : Option ℕ → Option Object) (handle : ℕ) (table : List (Option ℕ)) → AllByRecursion (λ place. is_some (f place) ≡ is_some place) table
    → transient_from handle (map f table) ≡ transient_from handle table
objects_listed f handle [] all = refl
objects_listed f handle (place ∷ table) all =
    listed_same handle (f place) (map f table) place table all.0 (objects_listed f (handle + 1) table all.1)

-- ---- one session

-- under its own handle it is listed as it stands in the world, and under no other
own_by : (client handle number : ℕ) (c octet : ℕ) (s : Session) (handed : Option (List ℕ)) (mine : Bool) → (c == client) ≡ mine
    → octet * 2 ^ 24 + number ≡ handle
    → listed_owned client number (Some (record { client = Some c; octet = octet; session = s; handed = handed }))
    ≡ listed_only (listed_owner client handle (Some (c, not (is_some handed))))
own_by client handle number c octet s handed true mine is =
    ap (λ (own : Bool). if own then record { handle = octet * 2 ^ 24 + number; in_use = not (is_some handed) } ∷ [] else []) mine
    ∙ ap (λ (h : ℕ). let one : List Listed = record { handle = h; in_use = not (is_some handed) } ∷ [] in one) is
    ∙ sym (ap (λ (own : Bool). listed_only (if own then Some (record { handle = handle; in_use = not (is_some handed) }) else None)) mine)
own_by client handle number c octet s handed false mine is =
    ap (λ (own : Bool). if own then record { handle = octet * 2 ^ 24 + number; in_use = not (is_some handed) } ∷ [] else []) mine
    ∙ sym (ap (λ (own : Bool). listed_only (if own then Some (record { handle = handle; in_use = not (is_some handed) }) else None)) mine)

own_listed : (client handle number own : ℕ) (owner : Option ℕ) (handed : Option (List ℕ)) (found : Option Session) → is_some found ≡ true
    → octet_of own * 2 ^ 24 + number ≡ handle
    → listed_owned client number (owned_by_client owner own handed found)
    ≡ listed_only (listed_owner client handle (owner_by (not (is_some handed)) owner))
own_listed client handle number own None None found there is = refl
own_listed client handle number own None (Some context) None there is = absurd cc
own_listed client handle number own None (Some context) (Some s) there is = refl
own_listed client handle number own (Some c) handed None there is = absurd cc
own_listed client handle number own (Some c) handed (Some s) there is = own_by client handle number c (octet_of own) s handed (c == client) refl is

or_none : (one : Option Listed) → option_or one None ≡ one
or_none None = refl
or_none (Some s) = refl

-- whichever of the two handles it has
first_listed : (client hmac policy : ℕ) (item : Item) (one other : Bool) → (item.handle == hmac) ≡ one → (item.handle == policy) ≡ other → one ≡ true → other ≡ false
    → option_or (listed_owner client hmac (owner_of_item (if item.handle == hmac then Some item else None)))
    (listed_owner client policy (owner_of_item (if item.handle == policy then Some item else None)))
    ≡ listed_owner client hmac (owner_of_item (Some item))
first_listed client hmac policy item one other is also holds fails =
    (λ i. option_or (listed_owner client hmac (owner_of_item (if (is ∙ holds) i then Some item else None)))
    (listed_owner client policy (owner_of_item (if (also ∙ fails) i then Some item else None))))
    ∙ or_none (listed_owner client hmac (owner_of_item (Some item)))

second_listed : (client hmac policy : ℕ) (item : Item) → (item.handle == hmac) ≡ false → (item.handle == policy) ≡ true
    → option_or (listed_owner client hmac (owner_of_item (if item.handle == hmac then Some item else None)))
    (listed_owner client policy (owner_of_item (if item.handle == policy then Some item else None)))
    ≡ listed_owner client policy (owner_of_item (Some item))
second_listed client hmac policy item is also =
    λ i. option_or (listed_owner client hmac (owner_of_item (if is i then Some item else None)))
    (listed_owner client policy (owner_of_item (if also i then Some item else None)))

whole : (handle : ℕ) → handle ≡ octet_of handle * 2 ^ 24 + number_of_session handle
whole handle = omega arith

-- a handle with this octet and this number
made_of : (handle octet number : ℕ) → (octet_of handle == octet) ≡ true → number_of_session handle ≡ number → handle ≡ octet * 2 ^ 24 + number
made_of handle octet number is also =
    whole handle ∙ (λ i. eqb-true (octet_of handle) octet is i * 2 ^ 24 + also i)

apart_of : (handle octet other number : ℕ) → handle ≡ octet * 2 ^ 24 + number → ((octet * 2 ^ 24 + number ≡ other * 2 ^ 24 + number) → ⊥)
    → (handle == other * 2 ^ 24 + number) ≡ false
apart_of handle octet other number is apart = ne_eqb handle (other * 2 ^ 24 + number) (λ same. apart (sym is ∙ same))

by_octet : (slots : SlotState) (client number : ℕ) (item : Item) (hmac policy : Bool) → (octet_of item.handle == HT_HMAC_SESSION) ≡ hmac
    → (octet_of item.handle == HT_POLICY_SESSION) ≡ policy → (hmac || policy) ≡ true → number_of_session item.handle ≡ number
    → is_some (item_session slots (Some item)) ≡ true
    → listed_owned client number (owned_in slots (Some item))
    ≡ listed_only (option_or (listed_owner client (HT_HMAC_SESSION * 2 ^ 24 + number) (owner_of_item (with_handle (HT_HMAC_SESSION * 2 ^ 24 + number) (Some item))))
    (listed_owner client (HT_POLICY_SESSION * 2 ^ 24 + number) (owner_of_item (with_handle (HT_POLICY_SESSION * 2 ^ 24 + number) (Some item)))))
by_octet slots client number item true policy is also either numbered there =
    let hmac_handle = HT_HMAC_SESSION * 2 ^ 24 + number in
    let policy_handle = HT_POLICY_SESSION * 2 ^ 24 + number in
    let same : item.handle ≡ hmac_handle = made_of item.handle HT_HMAC_SESSION number is numbered in
    own_listed client hmac_handle number item.handle item.client item.handed (item_session slots (Some item)) there
    (ap (λ (octet : ℕ). octet * 2 ^ 24 + number) (eqb-true (octet_of item.handle) HT_HMAC_SESSION is))
    ∙ sym (ap listed_only (first_listed client hmac_handle policy_handle item (item.handle == hmac_handle) (item.handle == policy_handle) refl refl
    (eq-eqb item.handle hmac_handle same)
    (apart_of item.handle HT_HMAC_SESSION HT_POLICY_SESSION number same (λ e. omega (arith, e)))))
by_octet slots client number item false true is also either numbered there =
    let hmac_handle = HT_HMAC_SESSION * 2 ^ 24 + number in
    let policy_handle = HT_POLICY_SESSION * 2 ^ 24 + number in
    let same : item.handle ≡ policy_handle = made_of item.handle HT_POLICY_SESSION number also numbered in
    own_listed client policy_handle number item.handle item.client item.handed (item_session slots (Some item)) there
    (ap (λ (octet : ℕ). octet * 2 ^ 24 + number) (eqb-true (octet_of item.handle) HT_POLICY_SESSION also))
    ∙ sym (ap listed_only (second_listed client hmac_handle policy_handle item
    (apart_of item.handle HT_POLICY_SESSION HT_HMAC_SESSION number same (λ e. omega (arith, e)))
    (eq-eqb item.handle policy_handle same)))
by_octet slots client number item false false is also either numbered there = absurd cc

place_listed : (slots : SlotState) (client number : ℕ) (found : Option Item) → IfSome found (λ item. ItemStands slots number item)
    → listed_owned client number (owned_in slots found)
    ≡ listed_only (option_or (listed_owner client (HT_HMAC_SESSION * 2 ^ 24 + number) (owner_of_item (with_handle (HT_HMAC_SESSION * 2 ^ 24 + number) found)))
    (listed_owner client (HT_POLICY_SESSION * 2 ^ 24 + number) (owner_of_item (with_handle (HT_POLICY_SESSION * 2 ^ 24 + number) found))))
place_listed slots client number None stands = refl
place_listed slots client number (Some item) stands =
    by_octet slots client number item (octet_of item.handle == HT_HMAC_SESSION) (octet_of item.handle == HT_POLICY_SESSION) refl refl stands.handle
    stands.number_is stands.there

number_listed : (slots : SlotState) (view : SessionsView) (client number : ℕ) → SessionsStand slots view [] → number < 2 ^ 24
    → listed_owned client number (owned_in slots (item_at view.items number)) ≡ listed_only (listed_number client view.items number)
number_listed slots view client number stand few =
    let hmac : number_of_session (HT_HMAC_SESSION * 2 ^ 24 + number) ≡ number = omega (arith, few) in
    let policy : number_of_session (HT_POLICY_SESSION * 2 ^ 24 + number) ≡ number = omega (arith, few) in
    place_listed slots client number (item_at view.items number) (stand.each number)
    ∙ λ i. listed_only (option_or
    (listed_owner client (HT_HMAC_SESSION * 2 ^ 24 + number) (owner_of_item (with_handle (HT_HMAC_SESSION * 2 ^ 24 + number) (item_at view.items (sym hmac i)))))
    (listed_owner client (HT_POLICY_SESSION * 2 ^ 24 + number) (owner_of_item (with_handle (HT_POLICY_SESSION * 2 ^ 24 + number) (item_at view.items (sym policy i))))))

-- ---- all of them

all_listed : (client : ℕ) (f : ℕ → Option Listed) (n : ℕ) (places : List (Option Owned))
    → ((k : ℕ) → k < length places → listed_owned client (n + k) (get_or places k None) ≡ listed_only (f (n + k)))
    → listed_sessions client n places ≡ listed_from f (length places) n
all_listed client f n [] each = refl
all_listed client f n (place ∷ places) each =
    let at : n + 0 ≡ n = omega arith in
    let here : listed_owned client n place ≡ listed_only (f n) =
    subst (λ (m : ℕ). listed_owned client m place ≡ listed_only (f m)) at (each 0 (omega arith)) in
    let rest : listed_sessions client (n + 1) places ≡ listed_from f (length places) (n + 1) =
    all_listed client f (n + 1) places (λ k inside.
    let next : n + suc k ≡ n + 1 + k = omega arith in
    subst (λ (m : ℕ). listed_owned client m (get_or places k None) ≡ listed_only (f m)) next (each (suc k) (omega (arith, inside)))) in
    (λ i. here i ++ rest i) ∙ with_only (f n) (listed_from f (length places) (n + 1))

sessions_listed : (slots : SlotState) (view : SessionsView) (client : ℕ) → SessionsStand slots view []
    → listed_sessions client 0 (sessions_in slots view.items) ≡ sessions_had client view.items
unfolding sessions_had
sessions_listed slots view client stand =
    let places = sessions_in slots view.items in
    let long : length places ≡ SESSION_NUMBERS = length-map view.items (owned_in slots) ∙ stand.count in
    all_listed client (listed_number client view.items) 0 places (λ k inside.
    let from_first : k ≡ 0 + k = omega arith in
    let here : listed_owned client k (get_or places k None) ≡ listed_only (listed_number client view.items k) =
    ap (listed_owned client k) (get_or_mapped (owned_in slots) view.items k refl) ∙ number_listed slots view client k stand (omega (arith, inside, long)) in
    subst (λ (m : ℕ). listed_owned client m (get_or places k None) ≡ listed_only (listed_number client view.items m)) from_first here)
    ∙ ap (λ (n : ℕ). listed_from (listed_number client view.items) n 0) long

-- ---- how many there are

owner_some : (owner : Option ℕ) (used : Bool) (handle : ℕ) (handed : Option (List ℕ)) (found : Option Session) → is_some found ≡ true
    → is_some (owned_by_client owner handle handed found) ≡ (is_some (owner_by used owner) || (not (is_some owner) && is_some handed))
owner_some None used handle None found there = refl
owner_some None used handle (Some context) None there = absurd cc
owner_some None used handle (Some context) (Some s) there = refl
owner_some (Some c) used handle handed None there = absurd cc
owner_some (Some c) used handle handed (Some s) there = refl

owned_some : (slots : SlotState) (n : ℕ) (found : Option Item) → IfSome found (λ item. ItemStands slots n item)
    → is_some (owned_in slots found) ≡ is_held found
owned_some slots n None stands = refl
owned_some slots n (Some item) stands =
    owner_some item.client (not (is_some item.handed)) item.handle item.handed (item_session slots (Some item)) stands.there

active_had : (slots : SlotState) (view : SessionsView) → SessionsStand slots view [] → active (sessions_in slots view.items) ≡ count_by is_held view.items
active_had slots view stand =
    flags.count_same is_some is_held (sessions_in slots view.items) view.items None None (length-map view.items (owned_in slots))
    (λ n inside.
    ap (λ (o : Option Owned). is_some o) (get_or_mapped (owned_in slots) view.items n refl) ∙ owned_some slots n (item_at view.items n) (stand.each n))

-- ---- GetCapability

pub capability_had : (slots : SlotState) (held : Held) (client : ℕ) (table : List (Option ℕ)) (least : Sequences) (params : List ℕ) → IsSettled slots held
    → IsTable held.objects.items client table
    → client_capability client (client_state slots held table least) params ≡ own_capability slots.persist client table held.sessions params
capability_had slots held client table least params settled is =
    let items = held.objects.items in
    let objects : transient_from TRANSIENT_FIRST (objects_in slots items table) ≡ transient_from TRANSIENT_FIRST table =
    objects_listed (λ place. place_object slots items place) TRANSIENT_FIRST table (seen_places slots items client table settled.objects is) in
    let sessions = sessions_listed slots held.sessions client settled.sessions in
    let count = active_had slots held.sessions settled.sessions in
    λ i. capability_of (client_limits held.sessions.numbers.active) all_commands slots.persist (objects i) (sessions i) (count i) params
