-- The sessions as a command leaves them: what a device has of them, by the items beside it, is what the plain machine has.
use Rattle.std.proofs.Common.{◌≡◌, ◌≢◌, ◌<◌, ℕ, suc, Bool, true, false, List, [], ◌∷◌, length, get_or, set, map, refl, ap, sym, ◌∙◌, subst, arith, length-set}
use Rattle.std.specs.Prelude.{◌==◌, ◌||◌, Option, Some, None, is_some, IfSome, if◌then◌else◌}
use Rattle.std.specs.List.{AllByRecursion, list_any}
use Rattle.std.proofs.lemmas.Bool.{eqb-true}
use Rattle.std.proofs.lemmas.List.{map-set, set-get_or, get_or-set_same, get_or-set_other}
use Rattle.tab_spec.specs.Session.{Session}
use Rattle.tab_spec.specs.Shape.{number_of_session, octet_of}
use Rattle.effect_spec.specs.Operands.{Operand, Operands, a_session, absent, an_object, operand_at, plain, sessions_after, with_authorization, with_operand}
use Rattle.device_spec.specs.Slots.{SessionPlace, SlotState, inactive, loaded, loaded_under, place_of, session_in_place, sessions_left}
use Rattle.client_laws.specs.Ready.{IsAmong, SessionsAreAmong}
use Rattle.session_swap.specs.Items.{Item, ItemStands, SessionsStand, SessionsView, context_of, item_at, new_item}
use Rattle.session_swap.proofs.Moved.{item_inside, session_loaded}
use Rattle.session_swap.proofs.PlaceSet.{map_but}
use Rattle.world_spec.specs.World.{Owned, own_place}
use Rattle.client_machine.specs.Settled.{owned_by_client, owned_in, sessions_in}

-- each item stands under the number of its handle
abbrev pub IsNumbered : ℕ → Option Item → Type 0
IsNumbered number item = IfSome item (λ item. number_of_session item.handle ≡ number)

abbrev pub AreNumbered : List (Option Item) → Type 0
AreNumbered items = (number : ℕ) → IsNumbered number (item_at items number)

numbered_by : (slots : SlotState) (number : ℕ) (item : Option Item) → IfSome item (λ item. ItemStands slots number item) → IsNumbered number item
numbered_by slots number None stands = tt
numbered_by slots number (Some item) stands = stands.number_is

pub numbered : (slots : SlotState) (view : SessionsView) (others : List ℕ) → SessionsStand slots view others → AreNumbered view.items
numbered slots view others stand = λ number. numbered_by slots number (item_at view.items number) (stand.each number)

-- the session of this handle is the client's, and loaded
abbrev pub IsOwn : List (Option Item) → ℕ → ℕ → Type 0
IsOwn items client handle = item_at items (number_of_session handle) ≡ Some (new_item client handle)

-- ---- the same sessions

map_same : {X Y : Type 0} (f g : X → Y) (xs : List X) (d : X) → ((m : ℕ) → m < length xs → f (get_or xs m d) ≡ g (get_or xs m d)) → map f xs ≡ map g xs
map_same f g [] d same = refl
map_same f g (x ∷ xs) d same =
    ap (λ y. y ∷ map f xs) (same 0 (omega arith)) ∙ ap (λ ys. g x ∷ ys) (map_same f g xs d (λ m inside. same (suc m) (omega arith)))

owned_same : (slots new : SlotState) (item : Option Item) → new.persist.seed ≡ slots.persist.seed
    → IfSome item (λ item. place_of new item.handle ≡ place_of slots item.handle) → owned_in new item ≡ owned_in slots item
owned_same slots new None seed same = refl
owned_same slots new (Some item) seed same =
    λ i. owned_by_client item.client item.handle item.handed (session_in_place (seed i) item.handle (same i) (context_of item.saved))

places_same : (slots new : SlotState) (item : Option Item) → new.sessions ≡ slots.sessions
    → IfSome item (λ item. place_of new item.handle ≡ place_of slots item.handle)
places_same slots new None same = tt
places_same slots new (Some item) same = ap (λ (places : List SessionPlace). get_or places (number_of_session item.handle) inactive) same

pub sessions_same : (slots new : SlotState) (items : List (Option Item)) → new.persist.seed ≡ slots.persist.seed → new.sessions ≡ slots.sessions
    → sessions_in new items ≡ sessions_in slots items
sessions_same slots new items seed same =
    map_same (owned_in new) (owned_in slots) items None
    (λ m inside. owned_same slots new (item_at items m) seed (places_same slots new (item_at items m) same))

-- ---- one number changes

places_elsewhere : (slots new : SlotState) (n m : ℕ) (place : SessionPlace) (item : Option Item) → new.sessions ≡ set slots.sessions n place
    → IsNumbered m item → m ≢ n → IfSome item (λ item. place_of new item.handle ≡ place_of slots item.handle)
places_elsewhere slots new n m place None sessions is apart = tt
places_elsewhere slots new n m place (Some item) sessions is apart =
    ap (λ (places : List SessionPlace). get_or places (number_of_session item.handle) inactive) sessions
    ∙ get_or-set_other slots.sessions n (number_of_session item.handle) place inactive (λ same. apart (sym is ∙ same))

pub sessions_set : (slots new : SlotState) (items : List (Option Item)) (n : ℕ) (place : SessionPlace) (item : Option Item)
    → new.persist.seed ≡ slots.persist.seed → new.sessions ≡ set slots.sessions n place → AreNumbered items
    → sessions_in new (set items n item) ≡ set (sessions_in slots items) n (owned_in new item)
sessions_set slots new items n place item seed sessions numbered =
    map-set (owned_in new) items n item
    ∙ map_but (owned_in new) (owned_in slots) items n (owned_in new item) None
    (λ m inside apart. owned_same slots new (item_at items m) seed (places_elsewhere slots new n m place (item_at items m) sessions (numbered m) apart))

owned_here : (new : SlotState) (client handle : ℕ) (s : Session) → place_of new handle ≡ loaded (octet_of handle) s
    → owned_in new (Some (new_item client handle)) ≡ own_place client handle s
owned_here new client handle s is =
    ap (λ (found : Option Session). owned_by_client (Some client) handle None found)
    (ap (λ (place : SessionPlace). session_in_place new.persist.seed handle place None) is
    ∙ session_loaded new.persist.seed handle (octet_of handle) s None refl)

place_set : (slots new : SlotState) (handle : ℕ) (place : SessionPlace) → new.sessions ≡ set slots.sessions (number_of_session handle) place
    → number_of_session handle < length slots.sessions → place_of new handle ≡ place
place_set slots new handle place sessions inside =
    ap (λ (places : List SessionPlace). get_or places (number_of_session handle) inactive) sessions
    ∙ get_or-set_same slots.sessions (number_of_session handle) place inactive inside

-- a session of the client's, new or changed
pub sessions_with : (slots new : SlotState) (items : List (Option Item)) (client handle : ℕ) (s : Session) → new.persist.seed ≡ slots.persist.seed
    → new.sessions ≡ set slots.sessions (number_of_session handle) (loaded (octet_of handle) s) → AreNumbered items
    → number_of_session handle < length slots.sessions
    → sessions_in new (set items (number_of_session handle) (Some (new_item client handle)))
    ≡ set (sessions_in slots items) (number_of_session handle) (own_place client handle s)
sessions_with slots new items client handle s seed sessions numbered inside =
    let n = number_of_session handle in
    sessions_set slots new items n (loaded (octet_of handle) s) (Some (new_item client handle)) seed sessions numbered
    ∙ ap (set (sessions_in slots items) n)
    (owned_here new client handle s (place_set slots new handle (loaded (octet_of handle) s) sessions inside))

pub sessions_changed : (slots new : SlotState) (items : List (Option Item)) (client handle : ℕ) (s : Session) → new.persist.seed ≡ slots.persist.seed
    → new.sessions ≡ set slots.sessions (number_of_session handle) (loaded (octet_of handle) s) → AreNumbered items
    → IsOwn items client handle → number_of_session handle < length slots.sessions
    → sessions_in new items ≡ set (sessions_in slots items) (number_of_session handle) (own_place client handle s)
sessions_changed slots new items client handle s seed sessions numbered own inside =
    let n = number_of_session handle in
    ap (sessions_in new) (sym (set-get_or items n None) ∙ ap (set items n) own)
    ∙ sessions_with slots new items client handle s seed sessions numbered inside

-- a session that ended
pub sessions_without : (slots new : SlotState) (items : List (Option Item)) (n : ℕ) → new.persist.seed ≡ slots.persist.seed
    → new.sessions ≡ set slots.sessions n inactive → AreNumbered items
    → sessions_in new (set items n None) ≡ set (sessions_in slots items) n None
sessions_without slots new items n seed sessions numbered = sessions_set slots new items n inactive None seed sessions numbered

-- ---- those that a command names

-- the device with other sessions
abbrev pub with_sessions : SlotState → List SessionPlace → SlotState
with_sessions slots places = record slots { sessions = places }

one_by : (here rest : Bool) (P : Type 0) → (here ≡ true → P) → (rest ≡ true → P) → (here || rest) ≡ true → P
one_by true rest P first more is = first refl
one_by false rest P first more is = more is

-- what holds of each holds of one among them
pub one_among : (P : ℕ → Type 0) (named : List ℕ) (handle : ℕ) → AllByRecursion P named → list_any (λ other. other == handle) named ≡ true → P handle
one_among P [] handle all among = absurd cc
one_among P (other ∷ named) handle all among =
    one_by (other == handle) (list_any (λ other. other == handle) named) (P handle)
    (λ is. subst P (eqb-true other handle is) all.0) (λ rest. one_among P named handle all.1 rest) among

pub operand_length : (places : List SessionPlace) (operand : Operand) → length (with_operand loaded_under places operand) ≡ length places
operand_length places absent = refl
operand_length places (plain handle) = refl
operand_length places (an_object o) = refl
operand_length places (a_session handle s) = length-set places (number_of_session handle) (loaded_under handle s)

pub own_inside : (slots : SlotState) (items : List (Option Item)) (client handle : ℕ) → IsOwn items client handle → length items ≡ length slots.sessions
    → number_of_session handle < length slots.sessions
own_inside slots items client handle own long =
    omega (arith, item_inside items (number_of_session handle) (new_item client handle) own, long)

pub operand_after : (slots : SlotState) (items : List (Option Item)) (client : ℕ) (named : List ℕ) (operand : Operand) → AreNumbered items
    → length items ≡ length slots.sessions → AllByRecursion (λ handle. IsOwn items client handle) named → IsAmong named operand
    → sessions_in (with_sessions slots (with_operand loaded_under slots.sessions operand)) items
    ≡ with_operand (own_place client) (sessions_in slots items) operand
operand_after slots items client named absent numbered long own among = refl
operand_after slots items client named (plain handle) numbered long own among = refl
operand_after slots items client named (an_object o) numbered long own among = refl
operand_after slots items client named (a_session handle s) numbered long own among =
    let is = one_among (λ handle. IsOwn items client handle) named handle own among in
    sessions_changed slots (with_sessions slots (set slots.sessions (number_of_session handle) (loaded_under handle s))) items client handle s refl refl numbered is
    (own_inside slots items client handle is long)

-- the items, where the session of a handle ended
abbrev pub items_ended : List (Option Item) → ℕ → Bool → List (Option Item)
items_ended items handle ended = if ended then set items (number_of_session handle) None else items

-- the session of the authorization is that of this handle, and where it ended there is one
pub record IsAuthorized (handle : ℕ) (ended : Bool) (session : Option (ℕ × Session)) : Type 0 where
  pub handle_is : IfSome session (λ held. held.0 ≡ handle)
  pub there : ended ≡ true → is_some session ≡ true

pub authorization_after : (slots : SlotState) (items : List (Option Item)) (client handle : ℕ) (ended : Bool) (session : Option (ℕ × Session)) → AreNumbered items
    → length items ≡ length slots.sessions → IfSome session (λ held. IsOwn items client held.0) → IsAuthorized handle ended session
    → sessions_in (with_sessions slots (with_authorization loaded_under inactive slots.sessions ended session)) (items_ended items handle ended)
    ≡ with_authorization (own_place client) None (sessions_in slots items) ended session
authorization_after slots items client handle true None numbered long own is = absurd (let no = is.there refl in cc)
authorization_after slots items client handle false None numbered long own is = refl
authorization_after slots items client handle true (Some held) numbered long own is =
    let n = number_of_session held.0 in
    let new = with_sessions slots (set slots.sessions n inactive) in
    ap (λ (handle : ℕ). sessions_in new (set items (number_of_session handle) None)) (sym is.handle_is)
    ∙ sessions_without slots new items n refl refl numbered
authorization_after slots items client handle false (Some held) numbered long own is =
    sessions_changed slots (with_sessions slots (set slots.sessions (number_of_session held.0) (loaded_under held.0 held.1))) items client held.0 held.1 refl refl numbered own
    (own_inside slots items client held.0 own long)

-- what is known of the sessions of an effect
pub record AreOwn (items : List (Option Item)) (client handle : ℕ) (ended : Bool) (operands : Operands) : Type 0 where
  pub named : List ℕ
  pub own : AllByRecursion (λ handle. IsOwn items client handle) named
  pub among : SessionsAreAmong named operands
  pub authorized : IsAuthorized handle ended operands.session

pub own_session : (items : List (Option Item)) (client : ℕ) (named : List ℕ) (session : Option (ℕ × Session))
    → AllByRecursion (λ handle. IsOwn items client handle) named → IfSome session (λ held. list_any (λ other. other == held.0) named ≡ true)
    → IfSome session (λ held. IsOwn items client held.0)
own_session items client named None own among = tt
own_session items client named (Some held) own among = one_among (λ handle. IsOwn items client handle) named held.0 own among

-- the places after both handles of a command
abbrev pub places_between : List SessionPlace → Operands → List SessionPlace
places_between places operands =
    with_operand loaded_under (with_operand loaded_under places (operand_at operands.handles 0)) (operand_at operands.handles 1)

pub between_length : (places : List SessionPlace) (operands : Operands) → length (places_between places operands) ≡ length places
between_length places operands =
    operand_length (with_operand loaded_under places (operand_at operands.handles 0)) (operand_at operands.handles 1)
    ∙ operand_length places (operand_at operands.handles 0)

pub left_in : (slots after : SlotState) (items : List (Option Item)) (client handle : ℕ) (ended : Bool) (operands : Operands) → AreNumbered items
    → length items ≡ length slots.sessions → AreOwn items client handle ended operands → after.persist.seed ≡ slots.persist.seed
    → after.sessions ≡ sessions_left slots.sessions operands ended
    → sessions_in after (items_ended items handle ended) ≡ sessions_after (own_place client) None (sessions_in slots items) operands ended
left_in slots after items client handle ended operands numbered long are seed sessions =
    let first = operand_at operands.handles 0 in
    let second = operand_at operands.handles 1 in
    let one = with_sessions slots (with_operand loaded_under slots.sessions first) in
    let two = with_sessions slots (places_between slots.sessions operands) in
    let new_items = items_ended items handle ended in
    let three = with_sessions slots (sessions_left slots.sessions operands ended) in
    sessions_same three after new_items seed sessions
    ∙ authorization_after two items client handle ended operands.session numbered (omega (arith, long, between_length slots.sessions operands))
    (own_session items client are.named operands.session are.own are.among.authorization) are.authorized
    ∙ ap (λ (all : List (Option Owned)). with_authorization (own_place client) None all ended operands.session)
    (operand_after one items client are.named second numbered (omega (arith, long, operand_length slots.sessions first)) are.own are.among.second
    ∙ ap (λ (all : List (Option Owned)). with_operand (own_place client) all second)
    (operand_after slots items client are.named first numbered long are.own are.among.first))
