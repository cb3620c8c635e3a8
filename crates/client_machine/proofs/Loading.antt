-- What a call that moves sessions alone leaves: what clients have stands as before, and whose it is.
use mir.Val.{bool_byte}
use Rattle.std.proofs.Common.{◌≡◌, ◌+◌, ◌≤◌, ◌<◌, ◌⊎◌, inl, inr, ℕ, Bool, true, false, ltb, List, [], ◌∷◌, length, get_or, refl, ap, sym, ◌∙◌, subst, arith}
use Rattle.std.specs.Prelude.{Option, Some, None, IfSome, ◌==◌, ◌&&◌, ◌||◌, is_some, nat_lt, not, Result, if◌then◌else◌}
use Rattle.std.specs.List.{count_by}
use Rattle.std.proofs.lemmas.Bool.{cases_lt, ltb-false, ltb-true}
use Rattle.std.proofs.lemmas.Result.{on_ok_weaker}
use Rattle.std.proofs.Math.ListN as lists
use Rattle.std.proofs.lemmas.List.{length-map}
use Rattle.tab_spec.specs.declared.TheConstants.{SESSION_NUMBERS}
use Rattle.tab_spec.specs.declared.numbers.Numbers.{Numbers}
use Rattle.tab_spec.specs.declared.Admitted.{Admitted}
use Rattle.client_laws.specs.Ready.{named_sessions, starts_session}
use Rattle.device_spec.specs.Slots.{SlotState, gap_of, loaded_count}
use Rattle.device_port.specs.Device.{Seen}
use Rattle.device_port.specs.Use.{is_among}
use Rattle.device_port.specs.declared.own.SwapError.{SwapError}
use Rattle.session_swap.specs.Items as sessions
use Rattle.session_swap.specs.Items.{AreFree, AreLoaded, HasGapRoom, Holder, Item, MakesRoom, Moved, SessionsView, evictions, flag, gap_in, is_held, holder_of, holders, is_loaded_item, is_orphan, item_at, item_of, loaded_items, missing, owner_by, renewal_gap}
use Rattle.session_swap.specs.declared.TheConstants.{NEEDED_MOST}
use Rattle.history_laws.proofs.Counts.{count_cons, one_if}
use Rattle.client_machine.specs.declared.held.Held.{Held}
use Rattle.client_machine.specs.Costs.{places_of}
use Rattle.client_machine.specs.Moves.{AreAllActive, MovesSessions, Prepares, any_client}
use Rattle.client_machine.specs.Moves.{places_needed}
use Rattle.client_machine.specs.Settled.{Settled}
use Rattle.client_machine.proofs.Settling.{keeps_over_sessions, object_counter_over_sessions, objects_over_sessions, owned_handles_same, persist_over_sessions, sessions_kept, settled_over_sessions}

-- ---- how many sessions there are, and how many are orphans

abbrev orphan_from : Option Holder → Bool
orphan_from None = false
orphan_from (Some holder) = not (is_some holder.client) && not (is_some holder.handed)

orphan_is : (item : Option Item) → is_orphan item ≡ orphan_from (holder_of item)
orphan_is None = refl
orphan_is (Some item) = refl

there_is : (item : Option Item) → is_some item ≡ is_some (holder_of item)
there_is None = refl
there_is (Some item) = refl

-- a count by whose each session is
counted_by : (p : Option Item → Bool) (q : Option Holder → Bool) (items : List (Option Item)) → ((item : Option Item) → p item ≡ q (holder_of item))
    → count_by p items ≡ count_by q (holders items)
counted_by p q [] same = refl
counted_by p q (item ∷ items) same = omega (
  arith,
  count_cons p item items,
  count_cons q (holder_of item) (holders items),
  ap (λ (test : Bool). one_if test) (same item),
  counted_by p q items same,
)

pub orphans_same : (items new_items : List (Option Item)) → holders new_items ≡ holders items → count_by is_orphan new_items ≡ count_by is_orphan items
orphans_same items new_items same =
    counted_by is_orphan orphan_from new_items orphan_is ∙ ap (count_by orphan_from) same ∙ sym (counted_by is_orphan orphan_from items orphan_is)

pub active_same : (items new_items : List (Option Item)) → holders new_items ≡ holders items
    → count_by (λ (item : Option Item). is_some item) new_items ≡ count_by (λ (item : Option Item). is_some item) items
active_same items new_items same =
    let there : Option Item → Bool = λ item. is_some item in
    let held : Option Holder → Bool = λ holder. is_some holder in
    counted_by there held new_items there_is ∙ ap (count_by held) same ∙ sym (counted_by there held items there_is)

-- each session is a client's or was left, or is an orphan
either_held : (used : Bool) (owner : Option ℕ) (handed : Bool)
    → one_if (is_some (owner_by used owner) || (not (is_some owner) && handed)) + one_if (not (is_some owner) && not handed) ≡ 1
either_held used None true = refl
either_held used None false = refl
either_held used (Some client) handed = refl

one_held : (item : Option Item) → one_if (is_held item) + one_if (is_orphan item) ≡ one_if (is_some item)
one_held None = refl
one_held (Some item) = either_held (not (is_some item.handed)) item.client (is_some item.handed)

pub held_and_orphans : (items : List (Option Item)) → count_by is_held items + count_by is_orphan items ≡ count_by is_some items
held_and_orphans [] = refl
held_and_orphans (item ∷ items) = omega (
  arith,
  count_cons is_held item items,
  count_cons is_orphan item items,
  count_cons is_some item items,
  one_held item,
  held_and_orphans items,
)

-- no session is under a number that had none
none_by : (item : Option Item) → holder_of item ≡ None → item ≡ None
none_by None none = refl
none_by (Some item) none = absurd cc

none_kept : (items new_items : List (Option Item)) (n : ℕ) → holders new_items ≡ holders items → item_at items n ≡ None → item_at new_items n ≡ None
none_kept items new_items n same none =
    none_by (item_at new_items n)
    (sym (lists.get_or-map holder_of new_items n None) ∙ ap (λ (l : List (Option Holder)). get_or l n None) same
    ∙ lists.get_or-map holder_of items n None ∙ ap holder_of none)

-- ---- what such a call leaves

pub sessions_moved : {D : Type 0} (seen : D → Seen) (most : ℕ) (old new : D) (held : Held) (view : SessionsView)
    → Moved seen old new held.sessions view → HasGapRoom (seen new).state
    → sessions.counter_of (seen new).state ≤ sessions.counter_of (seen old).state + most → Settled (seen old).state held
    → Prepares most seen old new held (record { objects = held.objects; sessions = view })
sessions_moved seen most old new held view moved room counter settled =
    let rest = moved.rest.rest in
    let holders = moved.sessions.holders in
    record {
      keeps = keeps_over_sessions seen old new moved.rest;
      counts = record {
        objects_rise = omega (arith, object_counter_over_sessions (seen old).state (seen new).state rest);
        sessions_rise = moved.rest.rises;
        objects_on = omega (arith, object_counter_over_sessions (seen old).state (seen new).state rest);
        sessions_on = counter;
      };
      owners = λ index owner names own mine. (names, own);
      gained = λ index owner own mine. own;
      lists = refl;
      objects = objects_over_sessions (seen old).state (seen new).state any_client held.objects.items rest;
      session_owners = owned_handles_same held.sessions.items view.items holders;
      sessions = sessions_kept (seen old).state (seen new).state held.sessions.items view.items moved.sessions;
      persist = persist_over_sessions (seen old).state (seen new).state rest;
      settled = settled_over_sessions (seen old).state (seen new).state held (record { objects = held.objects; sessions = view }) rest refl moved.stand room settled;
      vacant = λ some. some;
      gone = record {
        objects = λ index vacant. vacant;
        sessions = λ number none. none_kept held.sessions.items view.items number holders none;
      };
      orphans = omega (arith, orphans_same held.sessions.items view.items holders);
      made_for = record { objects = refl; sessions = moved.contexts };
      slots = refl;
      numbers = moved.numbers;
      left = moved.left;
      length_is = refl;
    }

-- ---- the gap

flag_most : (test : Bool) → flag test ≤ 1
flag_most true = omega arith
flag_most false = omega arith

-- a gap with room for one more context
abbrev pub HasRoomForOne : Option SlotState → Type 0
HasRoomForOne state = IfSome state (λ slots. gap_of slots < renewal_gap slots.numbers + NEEDED_MOST)

pub gap_room : (state : Option SlotState) → HasRoomForOne state → HasGapRoom state
gap_room None less = tt
gap_room (Some slots) less = omega (arith, less, flag_most (loaded_count slots.sessions == slots.numbers.loaded))

-- by the numbers that are kept
pub room_told : (state : Option SlotState) (numbers : Numbers) (view : SessionsView) → sessions.Stand state view [] → view.numbers ≡ numbers
    → gap_in state < renewal_gap numbers + NEEDED_MOST → HasRoomForOne state
room_told None numbers view stand same less = tt
room_told (Some slots) numbers view stand same less =
    subst (λ (n : Numbers). gap_of slots < renewal_gap n + NEEDED_MOST) (sym (stand.numbers ∙ same)) less

-- ---- a place for one more

-- a place is free where fewer sessions than may be active are clients' or were left; else, as there are no orphans, as many are active as
-- may be
pub room_made : (state : Option SlotState) (view new_view : SessionsView) (few : Bool) (places active most : ℕ) → length view.items ≡ SESSION_NUMBERS
    → places ≡ bool_byte few → few ≡ ltb active most → most ≡ view.numbers.active → active ≡ count_by is_held view.items
    → count_by is_orphan view.items ≡ 0 → new_view.numbers ≡ view.numbers → holders new_view.items ≡ holders view.items
    → AreFree state places → loaded_items new_view.items + places ≤ new_view.numbers.loaded
    → (AreFree state 1 × (loaded_items new_view.items < new_view.numbers.loaded)) ⊎ AreAllActive new_view
room_made state view new_view true places active most long places_is few_is most_is active_is none numbers same free room =
    inl (subst (λ (count : ℕ). AreFree state count) places_is free, omega (arith, places_is, room))
room_made state view new_view false places active most long places_is few_is most_is active_is none numbers same free room =
    let items = view.items in
    inr (record {
      long = sym (length-map new_view.items holder_of) ∙ ap length same ∙ length-map items holder_of ∙ long;
      full = omega (
        arith,
        ltb-false active most (sym few_is),
        most_is,
        ap (λ (n : Numbers). n.active) numbers,
        active_is,
        none,
        held_and_orphans items,
        active_same items new_view.items same,
      );
    })

-- one at the most, where a session is started, and else none
few_places : (starts few : Bool) (places : ℕ) → places ≡ bool_byte few → (few ≡ true → starts ≡ true) → places ≤ (if starts then 1 else 0)
few_places true true places is starts = omega (arith, is)
few_places true false places is starts = omega (arith, is)
few_places false true places is starts = absurd (let no = starts refl in cc)
few_places false false places is starts = omega (arith, is)

pub no_places : (starts few : Bool) (places : ℕ) → places ≡ bool_byte few → starts ≡ false → (few ≡ true → starts ≡ true) → places ≡ 0
no_places starts few places is none some =
    omega (arith, few_places starts few places is some, ap {B = ℕ} (λ (test : Bool). if test then 1 else 0) none)

-- none is needed where as many sessions as may be active are clients' or were left
pub no_place : (few : Bool) (places active most count : ℕ) → places ≡ bool_byte few → few ≡ ltb active most → active ≡ count
    → most ≤ count → places ≡ 0
no_place true places active most count places_is few_is active_is full =
    absurd (omega (arith, ltb-true active most (sym few_is), active_is, full))
no_place false places active most count places_is few_is active_is full = places_is

-- ---- what it costs

missing_at : (loaded among : Bool) (more : ℕ) → (if loaded || among then 0 else 1) + more ≤ more + 1
missing_at true among more = omega arith
missing_at false true more = omega arith
missing_at false false more = omega arith

missing_few : (needed : List ℕ) (items : List (Option Item)) → missing needed items ≤ length needed
missing_few [] items = omega arith
missing_few (handle ∷ needed) items =
    omega (
      arith,
      missing_at (is_loaded_item (item_of items handle)) (is_among needed handle) (missing needed items),
      missing_few needed items,
    )

pub missing_none : (needed : List ℕ) (items : List (Option Item)) → AreLoaded needed items → missing needed items ≡ 0
missing_none [] items loaded = refl
missing_none (handle ∷ needed) items loaded =
    omega (
      arith,
      ap (λ (test : Bool). (if test || is_among needed handle then 0 else 1) + missing needed items) loaded.0,
      missing_none needed items loaded.1,
    )

-- nothing is sent where all that is needed is loaded, and no place has to be free
pub loads_none : {D : Type 0} (seen : D → Seen) (old new : D) (needed : List ℕ) (places : ℕ) (view new_view : SessionsView)
    (result : Result (Unit {0}) SwapError) → MakesRoom seen old new needed places view new_view result → AreLoaded needed view.items → places ≡ 0
    → new ≡ old
loads_none seen old new needed places view new_view result room loaded none =
    (room.idle loaded (omega (arith, room.few, missing_none needed view.items loaded, none))).0

-- a place is needed at the most where a session is started
place_by : (starts few : Bool) → (if starts && few then 1 else 0) ≤ (if starts then 1 else 0)
place_by true true = omega arith
place_by true false = omega arith
place_by false few = omega arith

pub byte_is : (test : Bool) → bool_byte test ≡ (if test then 1 else 0)
byte_is true = refl
byte_is false = refl

-- the places that are asked for are those that are needed
pub places_are : (starts few : Bool) (places active most : ℕ) (view : SessionsView) → places ≡ bool_byte few → few ≡ ltb active most
    → most ≡ view.numbers.active → active ≡ count_by is_held view.items → starts ≡ true
    → places ≡ (if starts && nat_lt (count_by is_held view.items) view.numbers.active then 1 else 0)
places_are true few places active most view is few_is most_is active_is starts =
    is ∙ ap bool_byte (few_is ∙ (λ i. ltb (active_is i) (most_is i))) ∙ byte_is (nat_lt (count_by is_held view.items) view.numbers.active)
places_are false few places active most view is few_is most_is active_is starts = absurd cc

pub no_place_needed : (starts few : Bool) (places : ℕ) (view : SessionsView) → places ≡ bool_byte few → few ≡ starts → starts ≡ false
    → places ≡ (if starts && nat_lt (count_by is_held view.items) view.numbers.active then 1 else 0)
no_place_needed true few places view is few_is none = absurd cc
no_place_needed false few places view is few_is none = is ∙ ap bool_byte few_is

-- two commands for each session that is needed, and one for a place; a session leaves for room alone
loads_needed : {D : Type 0} (seen : D → Seen) (old new : D) (held : Held) (view : SessionsView) (a : Admitted)
    (result : Result (Unit {0}) SwapError) → view.numbers ≡ held.sessions.numbers
    → MakesRoom seen old new (named_sessions a) (places_needed held.sessions a) held.sessions view result
    → length (named_sessions a) + places_needed held.sessions a ≤ NEEDED_MOST
    → MovesSessions seen old new held (record { objects = held.objects; sessions = view }) a result
loads_needed seen old new held view a result numbers room fits =
    let items = held.sessions.items in
    let few : places_needed held.sessions a ≤ places_of a =
    place_by (starts_session a) (nat_lt (count_by is_held items) held.sessions.numbers.active) in
    record {
      sent = room.sent;
      most = omega (arith, room.few, missing_few (named_sessions a) items, fits);
      stays = on_ok_weaker result
          (λ full. record {
            objects = λ index resident. inl resident;
            sessions = λ number loaded.
                elim (cases_lt 0 (evictions (named_sessions a) (places_needed held.sessions a) held.sessions)) [
                  | inl some ↦ inr (inr (inr (omega (arith, some, full, few, ap (λ (n : Numbers). n.loaded) numbers))))
                  | inr none ↦ inl (ap is_loaded_item (room.rest (omega (arith, none)) number loaded) ∙ loaded)
                ];
          }) room.full;
      order = room.order;
    }

pub loads_few : {D : Type 0} (seen : D → Seen) (old new : D) (held : Held) (view : SessionsView) (a : Admitted) (needed : List ℕ) (places : ℕ)
    (result : Result (Unit {0}) SwapError) → view.numbers ≡ held.sessions.numbers → MakesRoom seen old new needed places held.sessions view result
    → length needed + places ≤ NEEDED_MOST → needed ≡ named_sessions a → places ≡ places_needed held.sessions a
    → MovesSessions seen old new held (record { objects = held.objects; sessions = view }) a result
loads_few seen old new held view a needed places result numbers room fits named_is places_is =
    loads_needed seen old new held view a result numbers
    (subst (λ (n : ℕ). MakesRoom seen old new (named_sessions a) n held.sessions view result) places_is
    (subst (λ (l : List ℕ). MakesRoom seen old new l places held.sessions view result) named_is room))
    (omega (arith, fits, ap (λ (l : List ℕ). length l) named_is, places_is))
