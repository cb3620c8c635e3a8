-- A device that is ready for a client's command over its handle of the client's object, where the sessions that it names are loaded.
use Rattle.std.proofs.Common.{◌≡◌, ◌⊎◌, inl, inr, ◌+◌, ◌-◌, ◌<◌, ◌≤◌, ◌^◌, ℕ, zero, suc, Bool, true, false, List, [], ◌∷◌, length, get_or, refl, ap, sym, ◌∙◌, arith}
use Rattle.std.specs.Prelude.{◌==◌, ◌&&◌, not, Option, Some, None, Ok, IfSome, is_some, if◌then◌else◌}
use Rattle.std.specs.List.{AllByRecursion, count_by, list_any}
use Rattle.std.proofs.lemmas.Bool.{and_parts, eq-eqb, eqb-true}
use Rattle.std.proofs.lemmas.List.{length-map}
use Rattle.tab_spec.specs.declared.TheConstants.{CONTEXT_LIMIT, HT_TRANSIENT, TRANSIENT_FIRST}
use Rattle.tab_spec.specs.declared.Admitted.{Admitted}
use Rattle.tab_spec.specs.declared.numbers.Numbers.{Numbers}
use Rattle.tab_spec.specs.Admission.{client_admitted}
use Rattle.tab_spec.specs.Session.{Session}
use Rattle.tab_spec.specs.Shape.{makes_object_by, number_of_session, octet_of}
use Rattle.tab_spec.specs.Values.{AreBytes}
use Rattle.tab_spec.specs.declared.contexts.TheConstants.{PROFILE_CONTEXTS}
use Rattle.tab_laws.proofs.Handled.{client_is}
use Rattle.tab_laws.proofs.OwnHandles.{own_handles}
use Rattle.device_spec.specs.Slots.{SessionPlace, SlotState, active_count, gap_of, inactive, is_active, is_free, is_loaded, loaded, loaded_count, loaded_in, loaded_session, object_at, place_of, saved, session_in_place}
use Rattle.device_laws.proofs.AnswerForms.{transient_octet}
use Rattle.client_laws.specs.Ready.{HasSessionRoom, IsReady, StandsBy, is_sent, named_sessions, sent_for, starts_session}
use Rattle.object_swap.specs.Items.{Item, handle_in, is_named, item_at, no_item, taken}
use Rattle.session_swap.specs.declared.TheConstants.{NEEDED_MOST}
use Rattle.session_swap.specs.Items as sessions
use Rattle.session_swap.specs.Items.{AreLoaded, Saved, SessionsStand, SessionsView, flag, is_loaded_item, is_orphan, is_user, item_session, new_item, owner_by, owner_in, owner_of_item, place_at, renewal_gap, with_handle}
use Rattle.session_swap.proofs.Counts as flags
use Rattle.session_swap.proofs.Moved as moved
use Rattle.history_laws.proofs.Counts.{count_one, one_true}
use Rattle.history_laws.proofs.Tables as tables
use Rattle.history_laws.proofs.Tables.{get_or_mapped}
use Rattle.history_spec.specs.Table.{held_under}
use Rattle.world_spec.specs.World.{Owned, active, in_use, owned_by, session_of, tables_of}
use Rattle.client_machine.specs.declared.held.Held.{Held}
use Rattle.client_machine.specs.Moves.{client_state, first_handle}
use Rattle.client_machine.specs.Settled.{IsSettled, Sequences, owned_by_client, owned_in, sessions_in}
use Rattle.client_machine.specs.Tables.{IsPlaced, IsTable, device_handle, handle_or, objects_in, place_object, slot_handle, tables_seen}
use Rattle.client_laws.proofs.NameSessions.{named_own}
use Rattle.client_machine.proofs.Seeing.{admitted_seen}
use Rattle.client_machine.proofs.SessionsAfter.{IsOwn}

-- ---- the object that the command names

slot_there : (slot : Option ℕ) → is_some (handle_in slot) ≡ true → (n : ℕ) × (slot ≡ Some n)
slot_there None there = absurd cc
slot_there (Some n) there = (n, refl)

inside_some : {A : Type 0} (xs : List (Option A)) (n : ℕ) → is_some (get_or xs n None) ≡ true → n < length xs
inside_some [] n there = absurd cc
inside_some (x ∷ xs) zero there = omega arith
inside_some (x ∷ xs) (suc n) there = omega (arith, inside_some xs n there)

-- the slot of an item is one that the device has
slot_inside : (slots : SlotState) (held : Held) (index n : ℕ) → IsSettled slots held → (item_at held.objects.items index).slot ≡ Some n → n < 254
slot_inside slots held index n settled is =
    let items = held.objects.items in
    let named : is_named (item_at items index).slot n ≡ true = ap (λ (slot : Option ℕ). is_named slot n) is ∙ eq-eqb n n refl in
    let some : 1 ≤ taken slots n = omega (
      arith,
      count_one (λ (item : Item). is_named item.slot n) items index no_item refl,
      one_true (is_named (item_at items index).slot n) named,
      settled.objects.owned n,
    ) in
    omega (
      arith,
      inside_some slots.slots n (flags.is_true (is_some (get_or slots.slots n None)) some),
      settled.objects.sound.count,
      settled.objects.sound.range.slots_most,
    )

-- a place whose object is in a slot
record IsInSlot (slots : SlotState) (items : List Item) (place : Option ℕ) : Type 0 where
  slot : ℕ
  handle : slot_handle items place ≡ Some (TRANSIENT_FIRST + slot)
  inside : slot < 254
  object : place_object slots items place ≡ get_or slots.slots slot None

is_in_slot : (slots : SlotState) (held : Held) (place : Option ℕ) → IsSettled slots held → is_some (slot_handle held.objects.items place) ≡ true
    → IsInSlot slots held.objects.items place
is_in_slot slots held None settled there = absurd cc
is_in_slot slots held (Some index) settled there =
    let items = held.objects.items in
    let named = slot_there (item_at items index).slot there in
    record {
      slot = named.0;
      handle = ap handle_in named.1;
      inside = slot_inside slots held index named.0 settled named.1;
      object = ap (λ (slot : Option ℕ). object_at slots slot (item_at items index).blob) named.1;
    }

stands_by : (transient : Bool) (slots : SlotState) (held : Held) (table : List (Option ℕ)) (handle first : ℕ) → IsSettled slots held
    → (octet_of handle == HT_TRANSIENT) ≡ transient → IsPlaced table held.objects.items handle → handle < 2 ^ 32
    → first ≡ (if transient then handle_or handle (slot_handle held.objects.items (held_under table handle)) else handle)
    → (first < 2 ^ 32) × StandsBy transient slots (objects_in slots held.objects.items table) handle first
stands_by true slots held table handle first settled is placed fits first_is =
    let items = held.objects.items in
    let place = held_under table handle in
    let in_it = is_in_slot slots held place settled (placed is) in
    let there : first ≡ TRANSIENT_FIRST + in_it.slot = first_is ∙ ap (handle_or handle) in_it.handle in
    let number : first - TRANSIENT_FIRST ≡ in_it.slot = omega (arith, there) in (
      omega (arith, there, in_it.inside),
      (
        ap (λ (handle : ℕ). octet_of handle == HT_TRANSIENT) there ∙ transient_octet in_it.slot (omega (arith, in_it.inside)),
        ap (λ (n : ℕ). get_or slots.slots n None) number ∙ sym in_it.object
            ∙ sym (tables.held (λ (place : Option ℕ). place_object slots items place) table handle refl),
      ),
    )
stands_by false slots held table handle first settled is placed fits first_is = (omega (arith, fits, first_is), first_is)

-- ---- the sessions that it names

user_is : (client : ℕ) (used : Bool) (owner : Option ℕ) → is_user client (owner_by used owner) ≡ true → (owner ≡ Some client) × (used ≡ true)
user_is client used None is = absurd cc
user_is client used (Some other) is =
    let both = and_parts (other == client) used is in
    (ap (λ (n : ℕ). Some n) (eqb-true other client both.0), both.1)

unhanded : (handed : Option (List ℕ)) → not (is_some handed) ≡ true → handed ≡ None
unhanded None is = refl
unhanded (Some context) is = absurd cc

unsaved : (last : Option Saved) → not (is_some last) ≡ true → last ≡ None
unsaved None is = refl
unsaved (Some last) is = absurd cc

item_by : (item : sessions.Item) (client handle : ℕ) → item.client ≡ Some client → item.handle ≡ handle → item.saved ≡ None → item.handed ≡ None
    → item ≡ new_item client handle
item_by item client handle owner named out used = λ i. record { client = owner i; handle = named i; saved = out i; handed = used i }

found_by : (client handle : ℕ) (item : sessions.Item) (test : Bool) → (item.handle == handle) ≡ test
    → is_user client (owner_of_item (if test then Some item else None)) ≡ true → is_loaded_item (if test then Some item else None) ≡ true
    → item ≡ new_item client handle
found_by client handle item true is owner in_it =
    let own = user_is client (not (is_some item.handed)) item.client owner in
    item_by item client handle own.0 (eqb-true item.handle handle is) (unsaved item.saved in_it) (unhanded item.handed own.1)
found_by client handle item false is owner in_it = absurd cc

own_by : (client handle : ℕ) (found : Option sessions.Item) → is_user client (owner_of_item (with_handle handle found)) ≡ true
    → is_loaded_item (with_handle handle found) ≡ true → found ≡ Some (new_item client handle)
own_by client handle None owner in_it = absurd cc
own_by client handle (Some item) owner in_it =
    ap (λ (item : sessions.Item). Some item) (found_by client handle item (item.handle == handle) refl owner in_it)

own_all : (items : List (Option sessions.Item)) (client : ℕ) (named : List ℕ) → AllByRecursion (λ handle. is_user client (owner_in items handle) ≡ true) named
    → AreLoaded named items → AllByRecursion (λ handle. IsOwn items client handle) named
own_all items client [] own in_it = tt
own_all items client (handle ∷ named) own in_it =
    (own_by client handle (sessions.item_at items (number_of_session handle)) own.0 in_it.0, own_all items client named own.1 in_it.1)

both_by : (own same : Bool) (place : Owned) → own ≡ true → same ≡ true → (if own && same then Some place else None) ≡ Some place
both_by own same place is also = rw (is, also) refl

session_test : (client handle octet : ℕ) (s : Session) (test : Bool)
    → (if test then Some s else None)
    ≡ in_use (owned_by client (octet_of handle) (owned_by_client (Some client) handle None (if test then Some s else None)))
session_test client handle octet s true =
    let place : Owned = record { client = Some client; octet = octet_of handle; session = s; handed = None } in
    ap in_use (sym (
    both_by (client == client) (octet_of handle == octet_of handle) place (eq-eqb client client refl) (eq-eqb (octet_of handle) (octet_of handle) refl)
    ))
session_test client handle octet s false = refl

session_by : (seed : List ℕ) (client handle : ℕ) (place : SessionPlace) → is_loaded place ≡ true
    → loaded_in (octet_of handle) place
    ≡ in_use (owned_by client (octet_of handle) (owned_by_client (Some client) handle None (session_in_place seed handle place None)))
session_by seed client handle inactive is = absurd cc
session_by seed client handle (saved octet number) is = absurd cc
session_by seed client handle (loaded octet s) is = session_test client handle octet s (octet == octet_of handle)

session_same : (slots : SlotState) (view : SessionsView) (client handle : ℕ) → SessionsStand slots view [] → IsOwn view.items client handle
    → loaded_session slots handle ≡ session_of (sessions_in slots view.items) client handle
session_same slots view client handle stand own =
    let n = number_of_session handle in
    let stands = moved.item_stands slots view [] n (new_item client handle) stand own in
    session_by slots.persist.seed client handle (place_of slots handle) stands.place
    ∙ ap (λ (item : Option sessions.Item). in_use (owned_by client (octet_of handle) (owned_in slots item))) (sym own)
    ∙ ap (λ (place : Option Owned). in_use (owned_by client (octet_of handle) place)) (sym (get_or_mapped (owned_in slots) view.items n refl))

same_sessions : (slots : SlotState) (view : SessionsView) (client : ℕ) (named : List ℕ) → SessionsStand slots view []
    → AllByRecursion (λ handle. IsOwn view.items client handle) named
    → AllByRecursion (λ handle. loaded_session slots handle ≡ session_of (sessions_in slots view.items) client handle) named
same_sessions slots view client [] stand own = tt
same_sessions slots view client (handle ∷ named) stand own =
    (session_same slots view client handle stand own.0, same_sessions slots view client named stand own.1)

-- ---- the device has a session for each that a client has

same_flag : (one other : Bool) → flag one + 0 ≡ flag other → other ≡ one
same_flag true true is = refl
same_flag true false is = absurd (omega (arith, is))
same_flag false true is = absurd (omega (arith, is))
same_flag false false is = refl

-- how many numbers are active
pub active_told : (slots : SlotState) (view : SessionsView) → SessionsStand slots view [] → active_count slots.sessions ≡ count_by is_some view.items
active_told slots view stand =
    flags.count_same is_active is_some slots.sessions view.items inactive None (stand.sound.numbers ∙ sym stand.count)
    (λ n inside. same_flag (is_some (sessions.item_at view.items n)) (is_active (place_at slots n)) (stand.owned n))

owner_there : (owner : Option ℕ) (handle : ℕ) (handed : Option (List ℕ)) (found : Option Session)
    → (not (is_some owner) && not (is_some handed)) ≡ false → is_some found ≡ true → is_some (owned_by_client owner handle handed found) ≡ true
owner_there None handle None found is there = absurd cc
owner_there None handle (Some context) None is there = absurd cc
owner_there None handle (Some context) (Some s) is there = refl
owner_there (Some client) handle handed None is there = absurd cc
owner_there (Some client) handle handed (Some s) is there = refl

owned_there : (slots : SlotState) (n : ℕ) (item : Option sessions.Item) → IfSome item (λ item. sessions.ItemStands slots n item) → is_orphan item ≡ false
    → is_some (owned_in slots item) ≡ is_some item
owned_there slots n None stands is = refl
owned_there slots n (Some item) stands is = owner_there item.client item.handle item.handed (item_session slots (Some item)) is stands.there

-- and how many the world has, where there are no orphans
pub active_seen : (slots : SlotState) (view : SessionsView) → SessionsStand slots view [] → count_by is_orphan view.items ≡ 0
    → active (sessions_in slots view.items) ≡ count_by is_some view.items
active_seen slots view stand nobodys =
    flags.count_same is_some is_some (sessions_in slots view.items) view.items None None (length-map view.items (owned_in slots))
    (λ n inside.
    ap (λ (o : Option Owned). is_some o) (get_or_mapped (owned_in slots) view.items n refl)
    ∙ owned_there slots n (sessions.item_at view.items n) (stand.each n)
    (flags.is_false (is_orphan (sessions.item_at view.items n))
    (omega (arith, nobodys, flags.count_one is_orphan view.items n None (omega (arith, inside, length-map view.items (owned_in slots))))))
    )

-- ---- a device that is ready

-- what is known before a command is sent to a device that tells its state
pub record MayRun (slots : SlotState) (held : Held) (client : ℕ) (table : List (Option ℕ)) (a : Admitted) (bytes : List ℕ) : Type 0 where
  pub settled : IsSettled slots held
  pub is : IsTable held.objects.items client table
  pub admitted : client_admitted (tables_seen PROFILE_CONTEXTS client table held.sessions.items) bytes ≡ Ok a
  pub sort : is_sent PROFILE_CONTEXTS a bytes ≡ true
  pub all : AreBytes bytes
  pub placed : IsPlaced table held.objects.items (first_handle a)
  pub loaded_all : AreLoaded (named_sessions a) held.sessions.items
  pub nobodys : count_by is_orphan held.sessions.items ≡ 0
  pub room : makes_object_by PROFILE_CONTEXTS (Ok a.shape) bytes ≡ true → list_any is_free slots.slots ≡ true
  pub place : starts_session a ≡ true → (loaded_count slots.sessions + 1 ≤ slots.numbers.loaded)
      ⊎ (held.sessions.numbers.active ≤ count_by is_some held.sessions.items)
  pub gap : gap_of slots < renewal_gap slots.numbers + NEEDED_MOST
  pub object_numbers : slots.object_counter < CONTEXT_LIMIT
  pub session_numbers : slots.counter < CONTEXT_LIMIT

-- what it is sent
abbrev pub sent_over : List ℕ → Admitted → List (Option ℕ) → List Item → List ℕ
sent_over bytes a table items = sent_for bytes a (device_handle table items (first_handle a))

pub admitted_here : (slots : SlotState) (held : Held) (client : ℕ) (table : List (Option ℕ)) (least : Sequences) (a : Admitted) (bytes : List ℕ)
    → MayRun slots held client table a bytes → client_admitted (tables_of client (client_state slots held table least)) bytes ≡ Ok a
admitted_here slots held client table least a bytes may =
    sym (admitted_seen slots client table held least bytes may.settled.objects may.settled.sessions may.is) ∙ may.admitted

pub own_here : (slots : SlotState) (held : Held) (client : ℕ) (table : List (Option ℕ)) (a : Admitted) (bytes : List ℕ)
    → MayRun slots held client table a bytes → AllByRecursion (λ handle. IsOwn held.sessions.items client handle) (named_sessions a)
own_here slots held client table a bytes may =
    own_all held.sessions.items client (named_sessions a) (named_own (tables_seen PROFILE_CONTEXTS client table held.sessions.items) bytes a may.admitted) may.loaded_all

place_by : (few known all room most : ℕ) → all ≡ known → (few + 1 ≤ room) ⊎ (most ≤ known) → (few < room) ⊎ (most ≤ all)
place_by few known all room most same (inl place) = inl (omega (arith, place))
place_by few known all room most same (inr full) = inr (omega (arith, full, same))

session_room : (slots : SlotState) (held : Held) (client : ℕ) (table : List (Option ℕ)) (least : Sequences) (a : Admitted) (bytes : List ℕ)
    → MayRun slots held client table a bytes → starts_session a ≡ true → HasSessionRoom slots (client_state slots held table least)
session_room slots held client table least a bytes may start =
    let view = held.sessions in
    let seen = active_seen slots view may.settled.sessions may.nobodys in
    record {
      same = active_told slots view may.settled.sessions ∙ sym seen;
      place = place_by (loaded_count slots.sessions) (count_by is_some view.items) (active (sessions_in slots view.items)) slots.numbers.loaded
          view.numbers.active seen (may.place start);
    }

pub ready_here : (slots : SlotState) (held : Held) (client : ℕ) (table : List (Option ℕ)) (least : Sequences) (a : Admitted) (bytes : List ℕ)
    → MayRun slots held client table a bytes
    → IsReady slots client (client_state slots held table least) a bytes (device_handle table held.objects.items (first_handle a))
ready_here slots held client table least a bytes may =
    let handle = first_handle a in
    let own = own_handles (tables_seen PROFILE_CONTEXTS client table held.sessions.items) bytes a (client_is (tables_seen PROFILE_CONTEXTS client table held.sessions.items) bytes a may.admitted).whole in
    let stands = stands_by (octet_of handle == HT_TRANSIENT) slots held table handle (device_handle table held.objects.items handle) may.settled refl may.placed
    (own.are may.all).first_fits refl in
    record {
      started = may.settled.objects.started;
      sound = may.settled.objects.sound;
      persist = refl;
      most = sym (ap (λ (n : Numbers). n.active) may.settled.sessions.numbers);
      fits = stands.0;
      stands = stands.1;
      sessions = same_sessions slots held.sessions client (named_sessions a) may.settled.sessions (own_here slots held client table a bytes may);
      room = may.room;
      place = session_room slots held client table least a bytes may;
    }
