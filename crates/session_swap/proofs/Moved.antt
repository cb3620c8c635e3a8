-- What saving, loading and ending one session keep.
use Rattle.std.proofs.Common.{◌≡◌, ◌≢◌, ◌+◌, ◌-◌, ◌^◌, ◌<◌, ◌≤◌, inl, inr, ℕ, Bool, true, false, List, length, get_or, set, map, refl, ap, subst, sym, ◌∙◌, arith, length-set, []}
use Rattle.std.specs.Prelude.{◌==◌, ◌&&◌, drop, min, vec_capacity, Option, Some, None, is_some, IfSome, IsSomeAnd, if◌then◌else◌}
use Rattle.std.specs.List.{count_by, list_any}
use Rattle.std.proofs.lemmas.Bool.{and_parts, cases_eq, cases_lt, eq-eqb, eqb-true}
use Rattle.std.proofs.lemmas.List.{map-set, get_or-set_same, get_or-set_other, get_or-map, set-get_or, get_or_past, length-map}
use Rattle.std.proofs.lemmas.List.Elements.{All-set}
use Rattle.tab_spec.specs.declared.numbers.Numbers.{Numbers}
use Rattle.tab_spec.specs.declared.TheConstants.{CONTEXT_LIMIT, HEADER_BYTES, RC_SUCCESS, SESSION_NUMBERS}
use Rattle.tab_spec.specs.Frame.{code_of, is_frame}
use Rattle.tab_spec.specs.Values.{AreBytes}
use Rattle.tab_spec.specs.Session.{Session, IsSession}
use Rattle.tab_spec.specs.Shape.{number_of_session, octet_of}
use Rattle.tab_spec.specs.declared.contexts.ContextLimits.{ContextLimits}
use Rattle.tab_spec.specs.declared.contexts.TheConstants.{PROFILE_CONTEXTS}
use Rattle.device_spec.specs.Answers.{is_error_form, is_success_form, may_refuse, takes}
use Rattle.device_spec.specs.ContextCommands.{context_save_command}
use Rattle.device_spec.specs.Slots.{SessionPlace, SlotState, IsSlots, inactive, loaded, saved, is_active, is_loaded, loaded_count, loaded_in, loaded_session, number_saved, place_of, session_at, session_in_place, session_of_context, with_place}
use Rattle.device_port.specs.Device.{Seen}
use Rattle.device_laws.proofs.FreshContexts.{place_saved, session_at_is}
use Rattle.device_laws.proofs.Places.{ArePlaces, loaded_new, made_inactive, saved_next}
use Rattle.device_port.specs.Own.{IsOwnAnswered, Succeeds}
use Rattle.session_swap.specs.Items.{AreFree, HandsOut, HasGapRoom, IsLastContext, IsPlaceOf, IsSentOut, Item, ItemStands, KeepsSessions, Names, Rise, Saved, SessionsStand, SessionsView, Stand, context_number, context_of, counter_of, flag, gap_in, holder_of, is_loaded_item, is_saved_item, item_at, item_session, number_after, number_of_item, numbers_along, place_at, rest_of, sessions_of, with_handle, without_session}
use Rattle.session_swap.specs.Moves.{HasPlace, IsOut, KeepsReply, Loads, MaySave, MaySaveIf, RepliesOf, RiseIn, Saves, Swaps, brought_in, ended, loaded_place, put_out, with_context}
use Rattle.session_swap.specs.Records.{AreRecords, IsContext, IsHandleOf, IsRecord, KeepsContext, handed_by, handed_of, item_in, item_of_record, items_of}
use Rattle.session_swap.specs.declared.record.Place.{Place}
use Rattle.session_swap.specs.declared.record.Place.TheVariants as places
use Rattle.session_swap.specs.declared.record.Record.{Record}
use Rattle.session_swap.proofs.Counts.{count_set}
use Rattle.session_swap.proofs.Numbers.{gap_saved, gap_unsaved}
use Rattle.session_swap.proofs.PlaceSet.{any_set, flag_true, map_but, place_elsewhere, place_here, session_elsewhere, session_here}

-- ---- one number changes

-- the device with another place under this number, and where the next session's context gets this number
abbrev pub moved : SlotState → ℕ → SessionPlace → ℕ → SlotState
moved slots n place counter = record slots { sessions = set slots.sessions n place; counter = counter }

-- what changes: the place of one number, and its item
pub record Moves (slots : SlotState) (items : List (Option Item)) (n : ℕ) (place : SessionPlace) (counter : ℕ)
    (item : Option Item) : Type 0 where
  pub fits : n < SESSION_NUMBERS
  pub places : ArePlaces slots.numbers.loaded counter (set slots.sessions n place)
  pub limit : counter ≤ CONTEXT_LIMIT
  pub stands : IfSome item (λ item. ItemStands (moved slots n place counter) n item)
  pub owned : flag (is_some item) + flag (is_active (place_at slots n))
      ≡ flag (is_some (item_at items n)) + flag (is_active place)

pub are_places : (slots : SlotState) → IsSlots slots → ArePlaces slots.numbers.loaded slots.counter slots.sessions
are_places slots sound = record { numbers = sound.numbers; places = sound.places; few = sound.loaded; apart = sound.apart }

moved_sound : (slots : SlotState) (n counter : ℕ) (place : SessionPlace) → IsSlots slots
    → ArePlaces slots.numbers.loaded counter (set slots.sessions n place) → counter ≤ CONTEXT_LIMIT
    → IsSlots (moved slots n place counter)
moved_sound slots n counter place sound are limit = record {
  persist = sound.persist;
  range = sound.range;
  count = sound.count;
  objects = sound.objects;
  object_counter = sound.object_counter;
  numbers = are.numbers;
  places = are.places;
  loaded = are.few;
  apart = are.apart;
  counter = limit;
}

-- the items of other numbers stand
other_stands : (slots : SlotState) (n m counter : ℕ) (place : SessionPlace) (item : Option Item) → m ≢ n
    → IfSome item (λ item. ItemStands slots m item)
    → IfSome item (λ item. ItemStands (moved slots n place counter) m item)
other_stands slots n m counter place None apart stands = tt
other_stands slots n m counter place (Some item) apart stands = record {
  number_is = stands.number_is;
  handle = stands.handle;
  place = subst (λ (p : SessionPlace). IsPlaceOf item.handle item.saved p) (sym (place_elsewhere slots n m place apart))
      stands.place;
  there = ap (λ (o : Option Session). is_some o)
      (session_elsewhere slots n item.handle place (context_of item.saved) (λ same. apart (sym stands.number_is ∙ same)))
      ∙ stands.there;
}

other_session : (slots : SlotState) (n m counter : ℕ) (place : SessionPlace) (item : Option Item) → m ≢ n
    → IfSome item (λ item. ItemStands slots m item)
    → item_session (moved slots n place counter) item ≡ item_session slots item
other_session slots n m counter place None apart stands = refl
other_session slots n m counter place (Some item) apart stands =
    session_elsewhere slots n item.handle place (context_of item.saved) (λ same. apart (sym stands.number_is ∙ same))

each_moved : (slots : SlotState) (view : SessionsView) (others : List ℕ) (n : ℕ) (place : SessionPlace) (counter : ℕ)
    (item : Option Item)
    → SessionsStand slots view others → Moves slots view.items n place counter item → (m : ℕ)
    → IfSome (item_at (set view.items n item) m) (λ item. ItemStands (moved slots n place counter) m item)
each_moved slots view others n place counter item stand moves m =
    elim (cases_eq m n) [
      | inl same ↦
          subst (λ (m : ℕ). IfSome (item_at (set view.items n item) m) (λ item. ItemStands (moved slots n place counter) m item))
          (sym same)
          (subst (λ (i : Option Item). IfSome i (λ item. ItemStands (moved slots n place counter) n item))
          (sym (get_or-set_same view.items n item None (omega (arith, stand.count, moves.fits)))) moves.stands)
      | inr apart ↦
          subst (λ (i : Option Item). IfSome i (λ item. ItemStands (moved slots n place counter) m item))
          (sym (get_or-set_other view.items n m item None apart))
          (other_stands slots n m counter place (item_at view.items m) apart (stand.each m))
    ]

-- each active number is still that of one item, or of one of the others
owned_moved : (slots : SlotState) (view : SessionsView) (others : List ℕ) (n : ℕ) (place : SessionPlace) (counter : ℕ)
    (item : Option Item)
    → SessionsStand slots view others → Moves slots view.items n place counter item → (m : ℕ)
    → flag (is_some (item_at (set view.items n item) m)) + count_by (λ other. other == m) others
    ≡ flag (is_active (place_at (moved slots n place counter) m))
owned_moved slots view others n place counter item stand moves m =
    elim (cases_eq m n) [
      | inl same ↦
          subst
          (λ (m : ℕ).
          flag (is_some (item_at (set view.items n item) m)) + count_by (λ other. other == m) others
          ≡ flag (is_active (place_at (moved slots n place counter) m)))
          (sym same)
          (omega (
            arith,
            ap (λ (i : Option Item). flag (is_some i))
                (get_or-set_same view.items n item None (omega (arith, stand.count, moves.fits))),
            ap (λ (p : SessionPlace). flag (is_active p))
                (place_here slots n place (omega (arith, stand.sound.numbers, moves.fits))),
            moves.owned,
            stand.owned n,
          ))
      | inr apart ↦
          omega (
            arith,
            ap (λ (i : Option Item). flag (is_some i)) (get_or-set_other view.items n m item None apart),
            ap (λ (p : SessionPlace). flag (is_active p)) (place_elsewhere slots n m place apart),
            stand.owned m,
          )
    ]

pub stands_moved : (slots : SlotState) (view : SessionsView) (others : List ℕ) (n : ℕ) (place : SessionPlace) (counter : ℕ)
    (item : Option Item) (next : ℕ) (order listed left : List ℕ) (contexts : ContextLimits)
    → SessionsStand slots view others → Moves slots view.items n place counter item
    → (list_any is_saved_item (set view.items n item) ≡ true → next ≡ counter) → Rise (numbers_along (set view.items n item) listed)
    → SessionsStand (moved slots n place counter) (record {
      numbers = view.numbers;
      items = set view.items n item;
      next = next;
      order = order;
      saved = listed;
      left = left;
      contexts = contexts;
    }) others
stands_moved slots view others n place counter item next order listed left contexts stand moves next_is rise = record {
  started = stand.started;
  sound = moved_sound slots n counter place stand.sound moves.places moves.limit;
  numbers = stand.numbers;
  count = length-set view.items n item ∙ stand.count;
  each = each_moved slots view others n place counter item stand moves;
  owned = owned_moved slots view others n place counter item stand moves;
  next = next_is;
  rise = rise;
}

pub sessions_moved : (slots : SlotState) (view : SessionsView) (others : List ℕ) (n : ℕ) (place : SessionPlace) (counter : ℕ)
    (item : Option Item)
    → SessionsStand slots view others
    → map (item_session (moved slots n place counter)) (set view.items n item)
    ≡ set (map (item_session slots) view.items) n (item_session (moved slots n place counter) item)
sessions_moved slots view others n place counter item stand =
    map-set (item_session (moved slots n place counter)) view.items n item
    ∙ map_but (item_session (moved slots n place counter)) (item_session slots) view.items n
    (item_session (moved slots n place counter) item) None
    (λ m inside apart. other_session slots n m counter place (item_at view.items m) apart (stand.each m))

-- ---- one item in the place of another

pub map_kept : {Y : Type 0} (f : Option Item → Y) (items : List (Option Item)) (n : ℕ) (item : Option Item) → n < length items
    → f item ≡ f (item_at items n)
    → map f (set items n item) ≡ map f items
map_kept f items n item inside same =
    map-set f items n item ∙ ap (set (map f items) n) (same ∙ sym (get_or-map f items n None (f None) inside))
    ∙ set-get_or (map f items) n (f None)

sessions_kept : (slots : SlotState) (items : List (Option Item)) (n : ℕ) (s : Option Session) → n < length items
    → s ≡ item_session slots (item_at items n)
    → set (map (item_session slots) items) n s ≡ map (item_session slots) items
sessions_kept slots items n s inside same =
    ap (set (map (item_session slots) items) n)
    (same ∙ sym (get_or-map (item_session slots) items n None (item_session slots None) inside))
    ∙ set-get_or (map (item_session slots) items) n (item_session slots None)

-- ---- places

-- a loaded session, of a client or of nobody
abbrev pub unsaved_item : Option ℕ → Option (List ℕ) → ℕ → Item
unsaved_item client handed handle = record { client = client; handle = handle; saved = None; handed = handed }

-- a session that was saved
abbrev pub saved_item : Option ℕ → Option (List ℕ) → ℕ → ℕ → List ℕ → Item
saved_item client handed handle number context =
    record { client = client; handle = handle; saved = Some (record { number = number; context = context }); handed = handed }

loaded_active : (place : SessionPlace) → is_loaded place ≡ true → is_active place ≡ true
loaded_active inactive is = absurd cc
loaded_active (loaded octet s) is = refl
loaded_active (saved octet number) is = absurd cc

loaded_unsaved : (place : SessionPlace) → is_loaded place ≡ true → number_saved place ≡ None
loaded_unsaved inactive is = absurd cc
loaded_unsaved (loaded octet s) is = refl
loaded_unsaved (saved octet number) is = absurd cc

place_active : (handle : ℕ) (last : Option Saved) (place : SessionPlace) → IsPlaceOf handle last place → is_active place ≡ true
place_active handle None place is = loaded_active place is
place_active handle (Some last) place is = ap is_active is

-- what is loaded under a handle is its session, with any context
loaded_same : (seed : List ℕ) (handle : ℕ) (place : SessionPlace) (context : Option (List ℕ)) → is_loaded place ≡ true
    → session_in_place seed handle place context ≡ loaded_in (octet_of handle) place
loaded_same seed handle inactive context is = absurd cc
loaded_same seed handle (loaded octet s) context is = refl
loaded_same seed handle (saved octet number) context is = absurd cc

pub session_loaded : (seed : List ℕ) (handle octet : ℕ) (s : Session) (context : Option (List ℕ)) → octet ≡ octet_of handle
    → session_in_place seed handle (loaded octet s) context ≡ Some s
session_loaded seed handle octet s context same =
    ap (λ (test : Bool). if test then Some s else None) (eq-eqb octet (octet_of handle) same)

pub some_of : (o : Option Session) → is_some o ≡ true → (s : Session) × (o ≡ Some s)
some_of None is = absurd cc
some_of (Some s) is = (s, refl)

-- the item of a number stands
pub item_stands : (slots : SlotState) (view : SessionsView) (others : List ℕ) (n : ℕ) (item : Item)
    → SessionsStand slots view others
    → item_at view.items n ≡ Some item → ItemStands slots n item
item_stands slots view others n item stand was =
    subst (λ (i : Option Item). IfSome i (λ item. ItemStands slots n item)) was (stand.each n)

some_inside : (items : List (Option Item)) (n : ℕ) → is_some (item_at items n) ≡ true → n < length items
some_inside items n is =
    elim (cases_lt n (length items)) [
      | inl inside ↦ inside
      | inr past ↦ absurd (let none = ap (λ (i : Option Item). is_some i) (get_or_past items n None past) in cc)
    ]

pub item_inside : (items : List (Option Item)) (n : ℕ) (item : Item) → item_at items n ≡ Some item → n < length items
item_inside items n item was = some_inside items n (ap (λ (i : Option Item). is_some i) was)

-- ---- what saving and loading keep

pub record Keeps (numbers : Numbers) (old_state new_state : Option SlotState) (items new_items : List (Option Item)) (next : ℕ)
    (others : List ℕ) : Type 0 where
  pub rest : rest_of new_state ≡ rest_of old_state
  pub sessions : KeepsSessions old_state new_state items new_items
  pub stand : Stand new_state (record { numbers = numbers; items = new_items; next = next; order = []; saved = []; left = []; contexts = PROFILE_CONTEXTS }) others
  pub gap : gap_in new_state + counter_of old_state ≤ gap_in old_state + counter_of new_state
  pub rises : counter_of old_state ≤ counter_of new_state

-- a loaded session is saved
saving : (slots : SlotState) (view : SessionsView) (others : List ℕ) (client : Option ℕ) (handed : Option (List ℕ)) (handle : ℕ) (context : List ℕ)
    → SessionsStand slots view others
    → item_at view.items (number_of_session handle) ≡ Some (unsaved_item client handed handle) → MaySave slots
    → session_of_context slots.persist.seed handle slots.counter (Some context) ≡ loaded_session slots handle
    → let place = saved (octet_of handle) slots.counter in
    let n = number_of_session handle in
    (session_at (moved slots n place (slots.counter + 1)) handle (Some context) ≡ session_at slots handle None)
    × Moves slots view.items n place (slots.counter + 1) (Some (saved_item client handed handle slots.counter context))
saving slots view others client handed handle context stand was may same =
    let n = number_of_session handle in
    let place = saved (octet_of handle) slots.counter in
    let seed = slots.persist.seed in
    let old = item_stands slots view others n (unsaved_item client handed handle) stand was in
    let fits : n < SESSION_NUMBERS = omega (arith, item_inside view.items n (unsaved_item client handed handle) was, stand.count) in
    let inside : n < length slots.sessions = omega (arith, fits, stand.sound.numbers) in
    let found : session_at (moved slots n place (slots.counter + 1)) handle (Some context) ≡ session_at slots handle None =
    session_here slots n handle place (Some context) inside refl
    ∙ place_saved seed handle (octet_of handle) slots.counter (Some context) refl
    ∙ same
    ∙ sym (loaded_same seed handle (place_of slots handle) None old.place) in (
      found,
      record {
        fits = fits;
        places = saved_next slots.numbers.loaded slots.counter slots.sessions n (octet_of handle) (are_places slots stand.sound) old.handle;
        limit = omega (arith, may.below);
        stands = record {
          number_is = refl;
          handle = old.handle;
          place = place_here slots n place inside;
          there = ap (λ (o : Option Session). is_some o) found ∙ old.there;
        };
        owned = omega (
          arith,
          flag_true (is_active (place_at slots n)) (loaded_active (place_at slots n) old.place),
          ap (λ (i : Option Item). flag (is_some i)) was,
        );
      },
    )

-- a saved session is loaded
loading : (slots : SlotState) (view : SessionsView) (others : List ℕ) (client : Option ℕ) (handed : Option (List ℕ)) (handle number : ℕ) (context : List ℕ) (s : Session)
    → SessionsStand slots view others
    → item_at view.items (number_of_session handle) ≡ Some (saved_item client handed handle number context)
    → loaded_count slots.sessions < slots.numbers.loaded → IsSession s
    → let place = loaded (octet_of handle) s in
    let n = number_of_session handle in
    (session_at (moved slots n place slots.counter) handle None ≡ Some s)
    × Moves slots view.items n place slots.counter (Some (unsaved_item client handed handle))
loading slots view others client handed handle number context s stand was room is =
    let n = number_of_session handle in
    let place = loaded (octet_of handle) s in
    let old = item_stands slots view others n (saved_item client handed handle number context) stand was in
    let item = saved_item client handed handle number context in
    let fits : n < SESSION_NUMBERS = omega (arith, item_inside view.items n item was, stand.count) in
    let inside : n < length slots.sessions = omega (arith, fits, stand.sound.numbers) in
    let found : session_at (moved slots n place slots.counter) handle None ≡ Some s =
    session_here slots n handle place None inside refl
    ∙ session_loaded slots.persist.seed handle (octet_of handle) s None refl in (
      found,
      record {
        fits = fits;
        places = loaded_new slots.numbers.loaded slots.counter slots.sessions n (octet_of handle) s (are_places slots stand.sound) room old.handle is;
        limit = stand.sound.counter;
        stands = record {
          number_is = refl;
          handle = old.handle;
          place = ap is_loaded (place_here slots n place inside);
          there = ap (λ (o : Option Session). is_some o) found;
        };
        owned = omega (
          arith,
          flag_true (is_active (place_at slots n)) (ap is_active old.place),
          ap (λ (i : Option Item). flag (is_some i)) was,
        );
      },
    )

-- a session ends
pub ending : (slots : SlotState) (view : SessionsView) (others : List ℕ) (n : ℕ) (item : Item) → SessionsStand slots view others
    → item_at view.items n ≡ Some item
    → Moves slots view.items n inactive slots.counter None
ending slots view others n item stand was =
    let old = item_stands slots view others n item stand was in
    record {
      fits = omega (arith, item_inside view.items n item was, stand.count);
      places = made_inactive slots.numbers.loaded slots.counter slots.sessions n (are_places slots stand.sound);
      limit = stand.sound.counter;
      stands = tt;
      owned = omega (
        arith,
        flag_true (is_active (place_at slots n)) (place_active item.handle item.saved (place_at slots n) old.place),
        ap (λ (i : Option Item). flag (is_some i)) was,
      );
    }

-- ---- where the device tells its state

saved_told : (slots : SlotState) (view : SessionsView) (others : List ℕ) (client : Option ℕ) (handed : Option (List ℕ)) (handle next : ℕ) (context : List ℕ)
    → SessionsStand slots view others
    → item_at view.items (number_of_session handle) ≡ Some (unsaved_item client handed handle) → MaySave slots
    → session_of_context slots.persist.seed handle slots.counter (Some context) ≡ loaded_session slots handle
    → next ≡ slots.counter + 1
    → Keeps view.numbers (Some slots) (put_out handle (Some slots)) view.items
    (set view.items (number_of_session handle) (Some (saved_item client handed handle slots.counter context))) next others
saved_told slots view others client handed handle next context stand was may same next_is =
    let n = number_of_session handle in
    let place = saved (octet_of handle) slots.counter in
    let item : Option Item = Some (saved_item client handed handle slots.counter context) in
    let moves = saving slots view others client handed handle context stand was may same in
    let old = item_stands slots view others n (unsaved_item client handed handle) stand was in
    let inside = item_inside view.items n (unsaved_item client handed handle) was in
    record {
      rest = refl;
      sessions = record {
        sessions = ap (λ (sessions : List (Option Session)). Some sessions) (
            sessions_moved slots view others n place (slots.counter + 1) item stand
            ∙ sessions_kept slots view.items n (item_session (moved slots n place (slots.counter + 1)) item) inside
            (moves.0 ∙ sym (ap (item_session slots) was))
            );
        holders = map_kept holder_of view.items n item inside (sym (ap holder_of was));
      };
      stand = stands_moved slots view others n place (slots.counter + 1) item next [] [] [] PROFILE_CONTEXTS stand moves.1 (λ some. next_is) tt;
      gap = omega (
        arith,
        gap_saved slots.counter slots.sessions n place (omega (arith, moves.1.fits, stand.sound.numbers))
            (loaded_unsaved (place_at slots n) old.place) refl,
      );
      rises = omega arith;
    }

loaded_told : (slots : SlotState) (view : SessionsView) (others : List ℕ) (client : Option ℕ) (handed : Option (List ℕ)) (handle number : ℕ) (context : List ℕ)
    (s : Session)
    → SessionsStand slots view others
    → item_at view.items (number_of_session handle) ≡ Some (saved_item client handed handle number context)
    → loaded_count slots.sessions < slots.numbers.loaded → AreBytes context → session_at slots handle (Some context) ≡ Some s
    → Keeps view.numbers (Some slots) (Some (with_place slots (number_of_session handle) (loaded (octet_of handle) s))) view.items
    (set view.items (number_of_session handle) (Some (unsaved_item client handed handle))) view.next others
loaded_told slots view others client handed handle number context s stand was room bytes found =
    let n = number_of_session handle in
    let place = loaded (octet_of handle) s in
    let item : Option Item = Some (unsaved_item client handed handle) in
    let is : IsSession s =
    subst (λ (o : Option Session). IfSome o (λ s. IsSession s)) found
    (session_at_is slots handle (Some context) stand.sound bytes) in
    let moves = loading slots view others client handed handle number context s stand was room is in
    let inside = item_inside view.items n (saved_item client handed handle number context) was in
    record {
      rest = refl;
      sessions = record {
        sessions = ap (λ (sessions : List (Option Session)). Some sessions) (
            sessions_moved slots view others n place slots.counter item stand
            ∙ sessions_kept slots view.items n (item_session (moved slots n place slots.counter) item) inside
            (moves.0 ∙ sym found ∙ sym (ap (item_session slots) was))
            );
        holders = map_kept holder_of view.items n item inside (sym (ap holder_of was));
      };
      stand = stands_moved slots view others n place slots.counter item view.next [] [] [] PROFILE_CONTEXTS stand moves.1
          (λ some. stand.next (any_set is_saved_item view.items n item refl some)) tt;
      gap = omega (arith, gap_unsaved slots.counter slots.sessions n place refl);
      rises = omega arith;
    }

-- ---- in every state

untold_keeps : (numbers : Numbers) (items : List (Option Item)) (others : List ℕ) (n next : ℕ) (item : Option Item) → n < length items
    → holder_of item ≡ holder_of (item_at items n)
    → Keeps numbers None None items (set items n item) next others
untold_keeps numbers items others n next item inside same = record {
  rest = refl;
  sessions = record { sessions = refl; holders = map_kept holder_of items n item inside same };
  stand = tt;
  gap = omega arith;
  rises = omega arith;
}

pub saved_keeps : (state : Option SlotState) (view : SessionsView) (others : List ℕ) (n : ℕ) (client : Option ℕ) (handed : Option (List ℕ)) (handle number next : ℕ)
    (context : List ℕ) → Stand state view others
    → item_at view.items n ≡ Some (unsaved_item client handed handle) → number_of_session handle ≡ n → MaySaveIf state
    → IfSome state (λ slots. number ≡ slots.counter)
    → IfSome state (λ slots. session_of_context slots.persist.seed handle number (Some context) ≡ loaded_session slots handle)
    → IfSome state (λ slots. next ≡ slots.counter + 1)
    → Keeps view.numbers state (put_out handle state) view.items
    (set view.items n (Some (saved_item client handed handle number context))) next others
saved_keeps None view others n client handed handle number next context stand was n_is may number_is same next_is =
    untold_keeps view.numbers view.items others n next (Some (saved_item client handed handle number context))
    (item_inside view.items n (unsaved_item client handed handle) was)
    (sym (ap holder_of was))
saved_keeps (Some slots) view others n client handed handle number next context stand was n_is may number_is same next_is =
    let its : session_of_context slots.persist.seed handle slots.counter (Some context) ≡ loaded_session slots handle =
    ap (λ (k : ℕ). session_of_context slots.persist.seed handle k (Some context)) (sym number_is) ∙ same in
    subst
    (λ (k : ℕ). Keeps view.numbers (Some slots) (put_out handle (Some slots)) view.items
    (set view.items n (Some (saved_item client handed handle k context))) next others)
    (sym number_is)
    (
    subst
    (λ (m : ℕ).
    Keeps view.numbers (Some slots) (put_out handle (Some slots)) view.items
    (set view.items m (Some (saved_item client handed handle slots.counter context))) next others)
    n_is
    (saved_told slots view others client handed handle next context stand (ap (item_at view.items) n_is ∙ was) may its next_is)
    )

pub loaded_keeps : (state : Option SlotState) (view : SessionsView) (others : List ℕ) (n : ℕ) (client : Option ℕ) (handed : Option (List ℕ)) (handle number : ℕ)
    (context : List ℕ) → Stand state view others
    → item_at view.items n ≡ Some (saved_item client handed handle number context) → number_of_session handle ≡ n → HasPlace state
    → AreBytes context
    → Keeps view.numbers state (brought_in handle context state) view.items (set view.items n (Some (unsaved_item client handed handle))) view.next others
loaded_keeps None view others n client handed handle number context stand was n_is room bytes =
    untold_keeps view.numbers view.items others n view.next (Some (unsaved_item client handed handle))
    (item_inside view.items n (saved_item client handed handle number context) was)
    (sym (ap holder_of was))
loaded_keeps (Some slots) view others n client handed handle number context stand was n_is room bytes =
    let found = some_of (session_at slots handle (Some context))
    (item_stands slots view others n (saved_item client handed handle number context) stand was).there in
    subst
    (λ (place : SessionPlace).
    Keeps view.numbers (Some slots) (Some (with_place slots (number_of_session handle) place)) view.items
    (set view.items n (Some (unsaved_item client handed handle))) view.next others)
    (sym (ap (loaded_place (octet_of handle)) found.1))
    (
    subst
    (λ (m : ℕ).
    Keeps view.numbers (Some slots) (Some (with_place slots (number_of_session handle) (loaded (octet_of handle) found.0))) view.items
    (set view.items m (Some (unsaved_item client handed handle))) view.next others)
    n_is
    (loaded_told slots view others client handed handle number context found.0 stand
    (ap (item_at view.items) n_is ∙ was) room bytes found.1)
    )

-- ---- a session ends

-- what a flush leaves
pub record Drops (numbers : Numbers) (old_state new_state : Option SlotState) (items new_items : List (Option Item)) (n next : ℕ)
    (others : List ℕ) : Type 0 where
  pub rest : rest_of new_state ≡ rest_of old_state
  pub sessions : sessions_of new_state new_items ≡ without_session n (sessions_of old_state items)
  pub stand : Stand new_state (record { numbers = numbers; items = new_items; next = next; order = []; saved = []; left = []; contexts = PROFILE_CONTEXTS }) others
  pub counter : counter_of new_state ≡ counter_of old_state
  pub gap : gap_in new_state ≤ gap_in old_state

pub ended_drops : (state : Option SlotState) (view : SessionsView) (others : List ℕ) (handle : ℕ) (item : Item)
    → Stand state view others
    → item_at view.items (number_of_session handle) ≡ Some item
    → Drops view.numbers state (ended handle state) view.items (set view.items (number_of_session handle) None)
    (number_of_session handle) view.next others
ended_drops None view others handle item stand was =
    record { rest = refl; sessions = refl; stand = tt; counter = refl; gap = omega arith }
ended_drops (Some slots) view others handle item stand was =
    let n = number_of_session handle in
    record {
      rest = refl;
      sessions = ap (λ (sessions : List (Option Session)). Some sessions)
          (sessions_moved slots view others n inactive slots.counter None stand);
      stand = stands_moved slots view others n inactive slots.counter None view.next [] [] [] PROFILE_CONTEXTS stand
          (ending slots view others n item stand was)
          (λ some. stand.next (any_set is_saved_item view.items n None refl some)) tt;
      counter = refl;
      gap = gap_unsaved slots.counter slots.sessions n inactive refl;
    }

-- a flush frees no less of the gap and of the places
flag_by : (places after before : ℕ) → after ≤ before → before ≤ places → (is : Bool) → (after == places) ≡ is
    → flag is ≤ flag (before == places)
flag_by places after before less most false is = omega arith
flag_by places after before less most true is =
    let last : after ≡ places = eqb-true after places is in
    omega (arith, flag_true (before == places) (eq-eqb before places (omega (arith, less, most, last))))

flag_below : (places after before : ℕ) → after ≤ before → before ≤ places → flag (after == places) ≤ flag (before == places)
flag_below places after before less most = flag_by places after before less most (after == places) refl

pub ended_room : (state : Option SlotState) (view : SessionsView) (others : List ℕ) (handle : ℕ) (item : Item)
    → Stand state view others → item_at view.items (number_of_session handle) ≡ Some item
    → HasGapRoom state → HasGapRoom (ended handle state)
ended_room None view others handle item stand was room = tt
ended_room (Some slots) view others handle item stand was room =
    let n = number_of_session handle in
    let inside : n < length slots.sessions =
    omega (arith, item_inside view.items n item was, stand.count, stand.sound.numbers) in
    let counted = count_set is_loaded slots.sessions n inactive inactive inside in
    let fewer : loaded_count (set slots.sessions n inactive) ≤ loaded_count slots.sessions = omega (arith, counted) in
    omega (
      arith,
      room,
      (ended_drops (Some slots) view others handle item stand was).gap,
      flag_below slots.numbers.loaded (loaded_count (set slots.sessions n inactive)) (loaded_count slots.sessions) fewer stand.sound.loaded,
    )

-- ---- what the commands ask of the device

pub can_load : (state : Option SlotState) (view : SessionsView) (others : List ℕ) (n : ℕ) (client : Option ℕ) (handed : Option (List ℕ)) (handle number : ℕ) (context : List ℕ)
    → Stand state view others
    → item_at view.items n ≡ Some (saved_item client handed handle number context) → HasPlace state
    → IfSome state (λ slots. IsOut slots handle context)
can_load None view others n client handed handle number context stand was room = tt
can_load (Some slots) view others n client handed handle number context stand was room =
    let old = item_stands slots view others n (saved_item client handed handle number context) stand was in
    record {
      started = stand.started;
      sound = stand.sound;
      room = room;
      number = number;
      place = ap (place_at slots) old.number_is ∙ old.place;
      there = old.there;
    }

-- ---- records

pub record_item : (records : List Record) (n : ℕ) (d : Record) → n < length records
    → item_at (items_of records) n ≡ item_of_record (get_or records n d)
record_item records n d inside = get_or-map item_of_record records n d None inside

pub record_inside : (records : List Record) (n : ℕ) → is_some (item_at (items_of records) n) ≡ true → n < length records
record_inside records n is = omega (arith, some_inside (items_of records) n is, length-map records item_of_record)

loaded_some : (item : Option Item) → is_loaded_item item ≡ true → is_some item ≡ true
loaded_some None is = is
loaded_some (Some item) is = refl

pub saved_some : (item : Option Item) → is_saved_item item ≡ true → is_some item ≡ true
saved_some None is = is
saved_some (Some item) is = refl

loaded_place_is : (place : Place) (client : Option ℕ) (handed : Option (List ℕ)) (handle : ℕ) (context : List ℕ)
    → is_loaded_item (item_in place client handle context handed) ≡ true → place ≡ places.Loaded
loaded_place_is places.Unused client handed handle context is = absurd cc
loaded_place_is places.Loaded client handed handle context is = refl
loaded_place_is (places.Saved number) client handed handle context is = absurd cc

saved_place_is : (place : Place) (client : Option ℕ) (handed : Option (List ℕ)) (handle : ℕ) (context : List ℕ)
    → is_saved_item (item_in place client handle context handed) ≡ true
    → (number : ℕ) × (place ≡ places.Saved number)
saved_place_is places.Unused client handed handle context is = absurd cc
saved_place_is places.Loaded client handed handle context is = absurd cc
saved_place_is (places.Saved number) client handed handle context is = (number, refl)

-- the record of a loaded session
pub record IsLoadedAt (contexts : ContextLimits) (records : List Record) (n : ℕ) (r : Record) : Type 0 where
  pub inside : n < length records
  pub place : r.place ≡ places.Loaded
  pub was : item_at (items_of records) n ≡ Some (unsaved_item r.client (handed_of r) r.handle)
  pub handle : IsHandleOf n (unsaved_item r.client (handed_of r) r.handle)
  pub sound : IsRecord contexts r

pub loaded_at : {contexts : ContextLimits} (records : List Record) (n : ℕ) (d : Record) → AreRecords contexts records
    → is_loaded_item (item_at (items_of records) n) ≡ true
    → IsLoadedAt contexts records n (get_or records n d)
loaded_at records n d sound is =
    let r = get_or records n d in
    let inside = record_inside records n (loaded_some (item_at (items_of records) n) is) in
    let at = record_item records n d inside in
    let place = loaded_place_is r.place r.client (handed_of r) r.handle r.context.items (sym (ap is_loaded_item at) ∙ is) in
    let was : item_at (items_of records) n ≡ Some (unsaved_item r.client (handed_of r) r.handle) =
    at ∙ ap (λ (p : Place). item_in p r.client r.handle r.context.items (handed_of r)) place in
    record {
      inside = inside;
      place = place;
      was = was;
      handle = subst (λ (i : Option Item). IfSome i (λ item. IsHandleOf n item)) was (sound.handles n);
      sound = sound.each n d inside;
    }

-- the record of a saved session
pub record IsSavedAt (contexts : ContextLimits) (records : List Record) (n : ℕ) (r : Record) : Type 0 where
  pub inside : n < length records
  pub number : ℕ
  pub place : r.place ≡ places.Saved number
  pub was : item_at (items_of records) n ≡ Some (saved_item r.client (handed_of r) r.handle number r.context.items)
  pub handle : IsHandleOf n (saved_item r.client (handed_of r) r.handle number r.context.items)
  pub sound : IsRecord contexts r
  pub context : IsContext contexts r.handle number r.context.items

pub saved_at : {contexts : ContextLimits} (records : List Record) (n : ℕ) (d : Record) → AreRecords contexts records
    → is_saved_item (item_at (items_of records) n) ≡ true
    → IsSavedAt contexts records n (get_or records n d)
saved_at {contexts = contexts} records n d sound is =
    let r = get_or records n d in
    let inside = record_inside records n (saved_some (item_at (items_of records) n) is) in
    let at = record_item records n d inside in
    let place = saved_place_is r.place r.client (handed_of r) r.handle r.context.items (sym (ap is_saved_item at) ∙ is) in
    let was : item_at (items_of records) n ≡ Some (saved_item r.client (handed_of r) r.handle place.0 r.context.items) =
    at ∙ ap (λ (p : Place). item_in p r.client r.handle r.context.items (handed_of r)) place.1 in
    let its = sound.each n d inside in
    record {
      inside = inside;
      number = place.0;
      place = place.1;
      was = was;
      handle = subst (λ (i : Option Item). IfSome i (λ item. IsHandleOf n item)) was (sound.handles n);
      sound = its;
      context = subst (λ (p : Place). KeepsContext contexts p r.handle r.context.items) place.1 its.context;
    }

handles_set : (items : List (Option Item)) (n : ℕ) (item : Option Item) → n < length items
    → ((m : ℕ) → IfSome (item_at items m) (λ item. IsHandleOf m item))
    → IfSome item (λ item. IsHandleOf n item) → (m : ℕ) → IfSome (item_at (set items n item) m) (λ item. IsHandleOf m item)
handles_set items n item inside all is m =
    elim (cases_eq m n) [
      | inl same ↦
          subst (λ (m : ℕ). IfSome (item_at (set items n item) m) (λ item. IsHandleOf m item)) (sym same)
          (subst (λ (i : Option Item). IfSome i (λ item. IsHandleOf n item)) (sym (get_or-set_same items n item None inside)) is)
      | inr apart ↦
          subst (λ (i : Option Item). IfSome i (λ item. IsHandleOf m item)) (sym (get_or-set_other items n m item None apart))
          (all m)
    ]

pub records_set : {contexts : ContextLimits} (records : List Record) (n : ℕ) (r : Record) → n < length records → AreRecords contexts records → IsRecord contexts r
    → IfSome (item_of_record r) (λ item. IsHandleOf n item) → AreRecords contexts (set records n r)
records_set {contexts = contexts} records n r inside sound is handle = record {
  count = length-set records n r ∙ sound.count;
  each = All-set (λ (r : Record). IsRecord contexts r) records n r is sound.each;
  handles = λ m.
      subst (λ (items : List (Option Item)). IfSome (item_at items m) (λ item. IsHandleOf m item))
      (sym (map-set item_of_record records n r))
      (handles_set (items_of records) n (item_of_record r) (omega (arith, inside, length-map records item_of_record))
      sound.handles handle m);
}

-- the items of the records, where one was set to this item
pub items_set : (records : List Record) (n : ℕ) (r : Record) (item : Option Item) → item_of_record r ≡ item
    → items_of (set records n r) ≡ set (items_of records) n item
items_set records n r item is = map-set item_of_record records n r ∙ ap (set (items_of records) n) is

pub items_same : (records : List Record) (n : ℕ) (r : Record) → item_of_record r ≡ item_at (items_of records) n
    → items_of (set records n r) ≡ items_of records
items_same records n r is = items_set records n r (item_at (items_of records) n) is ∙ set-get_or (items_of records) n None

-- the item that was set
pub item_set : (records : List Record) (n : ℕ) (r : Record) → n < length records
    → item_at (items_of (set records n r)) n ≡ item_of_record r
item_set records n r inside =
    ap (λ (items : List (Option Item)). item_at items n) (map-set item_of_record records n r)
    ∙ get_or-set_same (items_of records) n (item_of_record r) None (omega (arith, inside, length-map records item_of_record))

-- what is in the room of a loaded session's record isn't its context
pub record IsLike (n r : Record) : Type 0 where
  pub client : n.client ≡ r.client
  pub handle : n.handle ≡ r.handle
  pub place : n.place ≡ r.place
  pub handed : handed_of n ≡ handed_of r

loaded_item : (n r : Record) → r.place ≡ places.Loaded → IsLike n r
    → item_of_record n ≡ Some (unsaved_item r.client (handed_of r) r.handle)
loaded_item n r loaded_is like =
    (λ i. item_in ((like.place ∙ loaded_is) i) n.client n.handle n.context.items (handed_of n))
    ∙ (λ i. Some (unsaved_item (like.client i) (like.handed i) (like.handle i)))

pub items_loaded : {contexts : ContextLimits} (records : List Record) (n : ℕ) (changed r : Record) → IsLoadedAt contexts records n r → IsLike changed r
    → items_of (set records n changed) ≡ items_of records
items_loaded records n changed r at like =
    items_same records n changed (loaded_item changed r at.place like ∙ sym at.was)

pub records_loaded : {contexts : ContextLimits} (records : List Record) (n : ℕ) (changed r : Record) → AreRecords contexts records → IsLoadedAt contexts records n r
    → IsLike changed r → contexts.session_bytes ≤ vec_capacity changed.context
    → contexts.session_bytes ≤ vec_capacity changed.handed
    → AreRecords contexts (set records n changed)
records_loaded {contexts = contexts} records n changed r sound at like room handed_room =
    records_set records n changed at.inside sound
    (record {
      room = room;
      handed_room = handed_room;
      context = subst (λ (p : Place). KeepsContext contexts p changed.handle changed.context.items) (sym (like.place ∙ at.place)) tt;
    })
    (subst (λ (i : Option Item). IfSome i (λ item. IsHandleOf n item))
    (sym (loaded_item changed r at.place like)) at.handle)

-- ---- what a move leaves

pub swaps_from : {D : Type 0} {numbers : Numbers} (seen : D → Seen) (old new : D)
    (records new_records : List Record) (new_next : ℕ) (others : List ℕ)
    → Keeps numbers (seen old).state (seen new).state (items_of records) (items_of new_records) new_next others
    → (seen new).base ≡ (seen old).base → (seen old).faults ≤ (seen new).faults → Swaps seen old new records new_records
swaps_from seen old new records new_records new_next others keeps base_is count = record {
  rest = keeps.rest;
  sessions = keeps.sessions;
  gap = keeps.gap;
  rises = keeps.rises;
  base_is = base_is;
  count = count;
}

-- nothing is left changed where a command fails
pub keeps_same : (numbers : Numbers) (state new_state : Option SlotState) (items new_items : List (Option Item)) (next : ℕ) (others : List ℕ)
    → Stand state (record { numbers = numbers; items = items; next = next; order = []; saved = []; left = []; contexts = PROFILE_CONTEXTS }) others
    → new_state ≡ state → new_items ≡ items
    → Keeps numbers state new_state items new_items next others
keeps_same numbers state new_state items new_items next others stand state_is items_are =
    let at_rest : Keeps numbers state state items items next others =
    record { rest = refl; sessions = record { sessions = refl; holders = refl }; stand = stand; gap = omega arith; rises = omega arith } in
    subst (λ (st : Option SlotState). Keeps numbers state st items new_items next others) (sym state_is)
    (subst (λ (list : List (Option Item)). Keeps numbers state state items list next others) (sym items_are) at_rest)

pub keeps_by : (numbers : Numbers) (state moved new_state : Option SlotState) (items moved_items new_items : List (Option Item)) (next : ℕ)
    (others : List ℕ)
    → new_state ≡ moved → new_items ≡ moved_items → Keeps numbers state moved items moved_items next others
    → Keeps numbers state new_state items new_items next others
keeps_by numbers state moved new_state items moved_items new_items next others state_is items_are keeps =
    subst (λ (st : Option SlotState). Keeps numbers state st items new_items next others) (sym state_is)
    (subst (λ (list : List (Option Item)). Keeps numbers state moved items list next others) (sym items_are) keeps)

-- what stands doesn't depend on which sessions were left and on the order of the loaded ones, and on that of the saved ones by their
-- numbers alone
pub stands_alike : (slots : SlotState) (view new_view : SessionsView) (others : List ℕ) → view.numbers ≡ new_view.numbers
    → view.items ≡ new_view.items → view.next ≡ new_view.next
    → Rise (numbers_along new_view.items new_view.saved) → SessionsStand slots view others → SessionsStand slots new_view others
stands_alike slots view new_view others numbers items next rise stand =
    let same : record {
      numbers = view.numbers;
      items = view.items;
      next = view.next;
      order = new_view.order;
      saved = new_view.saved;
      left = new_view.left;
      contexts = new_view.contexts;
    } ≡ new_view =
    λ i. record {
      numbers = numbers i;
      items = items i;
      next = next i;
      order = new_view.order;
      saved = new_view.saved;
      left = new_view.left;
      contexts = new_view.contexts;
    } in
    subst (λ (v : SessionsView). SessionsStand slots v others) same (record {
      started = stand.started;
      sound = stand.sound;
      numbers = stand.numbers;
      count = stand.count;
      each = stand.each;
      owned = stand.owned;
      next = stand.next;
      rise = subst (λ (l : List (Option Item)). Rise (numbers_along l new_view.saved)) (sym items) rise;
    })

pub stand_alike : (state : Option SlotState) (view new_view : SessionsView) (others : List ℕ) → view.numbers ≡ new_view.numbers
    → view.items ≡ new_view.items → view.next ≡ new_view.next
    → RiseIn state new_view.items new_view.saved → Stand state view others → Stand state new_view others
stand_alike None view new_view others numbers items next rise stand = tt
stand_alike (Some slots) view new_view others numbers items next rise stand =
    stands_alike slots view new_view others numbers items next rise stand

-- they rise where sessions stand
pub stand_rise : (state : Option SlotState) (view : SessionsView) (others : List ℕ) → Stand state view others
    → RiseIn state view.items view.saved
stand_rise None view others stand = tt
stand_rise (Some slots) view others stand = stand.rise

-- the number of the next context, after this one
pub next_is : (state : Option SlotState) (number next : ℕ) → MaySaveIf state → IfSome state (λ slots. number ≡ slots.counter)
    → next ≡ min (number + 1) (2 ^ 64 - 1) → IfSome state (λ slots. next ≡ slots.counter + 1)
next_is None number next may number_is is = tt
next_is (Some slots) number next may number_is is = omega (arith, may.below, number_is, is)

number_saved_as : (state : Option SlotState) (number : ℕ) (has : Option ℕ) → has ≡ Some number
    → IfSome state (λ slots. number ≡ slots.counter)
    → IfSome state (λ slots. has ≡ Some slots.counter)
number_saved_as None number has is number_is = tt
number_saved_as (Some slots) number has is number_is = is ∙ ap (λ (n : ℕ). Some n) number_is

counted_by : (state new_state : Option SlotState) (handle : ℕ) → new_state ≡ put_out handle state
    → IfSome state (λ slots. counter_of new_state ≡ slots.counter + 1)
counted_by None new_state handle is = tt
counted_by (Some slots) new_state handle is = ap counter_of is

-- the place of a session that was saved is free
pub place_freed : (state : Option SlotState) (view : SessionsView) (others : List ℕ) (n : ℕ) (client : Option ℕ)
    (handed : Option (List ℕ)) (handle : ℕ)
    → Stand state view others → item_at view.items n ≡ Some (unsaved_item client handed handle) → AreFree (put_out handle state) 1
place_freed None view others n client handed handle stand was = tt
place_freed (Some slots) view others n client handed handle stand was =
    let old = item_stands slots view others n (unsaved_item client handed handle) stand was in
    let m = number_of_session handle in
    let is : is_loaded (place_at slots m) ≡ true = ap (λ (k : ℕ). is_loaded (place_at slots k)) old.number_is ∙ old.place in
    let inside : m < length slots.sessions =
    omega (arith, old.number_is, item_inside view.items n (unsaved_item client handed handle) was, stand.count, stand.sound.numbers) in
    omega (
      arith,
      stand.sound.loaded,
      count_set is_loaded slots.sessions m (saved (octet_of handle) slots.counter) inactive inside,
      flag_true (is_loaded (place_at slots m)) is,
    )

-- what a save says of the item and of the counter
pub saves : (state new_state : Option SlotState) (records : List Record) (n number : ℕ) (r : Record) → n < length records
    → r.place ≡ places.Saved number
    → IfSome state (λ slots. number ≡ slots.counter) → new_state ≡ put_out r.handle state
    → AreFree (put_out r.handle state) 1
    → Saves state new_state (items_of records) (items_of (set records n r)) n
saves state new_state records n number r inside place number_is state_is free =
    let item : Option Item = Some (saved_item r.client (handed_of r) r.handle number r.context.items) in
    let is : item_of_record r ≡ item = ap (λ (p : Place). item_in p r.client r.handle r.context.items (handed_of r)) place in
    let here : item_at (items_of (set records n r)) n ≡ item = item_set records n r inside ∙ is in
    record {
      saved_is = ap is_saved_item here;
      items_are = items_set records n r item is ∙ ap (set (items_of records) n) (sym here);
      number_is = number_saved_as state number (number_of_item (item_at (items_of (set records n r)) n))
          (ap number_of_item here) number_is;
      counted = counted_by state new_state r.handle state_is;
      free = subst (λ (st : Option SlotState). AreFree st 1) (sym state_is) free;
    }

-- and of the command that was sent
pub sent_out : (asked : List ℕ) (last : Option (List ℕ)) (records : List Record) (n number : ℕ) (r : Record) → n < length records
    → r.place ≡ places.Saved number → asked ≡ context_save_command r.handle → IsLastContext last r.context.items
    → IsSomeAnd (item_at (items_of (set records n r)) n) (λ item. IsSentOut asked last item)
sent_out asked last records n number r inside place sent context =
    let item : Option Item = Some (saved_item r.client (handed_of r) r.handle number r.context.items) in
    let here : item_at (items_of (set records n r)) n ≡ item =
    item_set records n r inside ∙ ap (λ (p : Place). item_in p r.client r.handle r.context.items (handed_of r)) place in
    subst (λ (item : Option Item). IsSomeAnd item (λ item. IsSentOut asked last item)) (sym here) (record { asked_is = sent; context = context })

-- the context of the last response
pub last_context : (last : Option (List ℕ)) (reply context : List ℕ) → last ≡ Some reply → context ≡ drop HEADER_BYTES reply
    → IsLastContext last context
last_context last reply context is same =
    subst (λ (last : Option (List ℕ)). IsLastContext last context) (sym is) same

-- a response that is taken is a frame
taken_frame : (contexts : ContextLimits) (asked : List ℕ) (last : Option (List ℕ)) (reply : List ℕ) → IsOwnAnswered contexts asked last → last ≡ Some reply
    → is_frame reply ≡ true
taken_frame contexts asked last reply answered is =
    let taken = subst (λ (last : Option (List ℕ)). IsSomeAnd last (λ response. takes contexts true true asked response ≡ true)) is answered.1 in
    (and_parts (is_frame reply)
    (if code_of reply == RC_SUCCESS then is_success_form contexts true asked reply
    else is_error_form reply && may_refuse contexts true asked (code_of reply)) taken).0

-- what is kept of the response
pub keeps_reply : {contexts : ContextLimits} (asked : List ℕ) (last : Option (List ℕ)) (reply : List ℕ) (records : List Record) (n number next : ℕ) (r old : Record)
    → IsLoadedAt contexts records n old → r ≡ record old { place = places.Saved number; context = r.context } → IsOwnAnswered contexts asked last
    → last ≡ Some reply → r.context.items ≡ drop HEADER_BYTES reply → number ≡ context_number (drop HEADER_BYTES reply)
    → next ≡ number_after number
    → KeepsReply last reply (items_of records) (items_of (set records n r)) n next
keeps_reply {contexts = contexts} asked last reply records n number next r old at is answered last_is context number_is next_is =
    let bytes = drop HEADER_BYTES reply in
    let item : item_of_record r ≡ Some (saved_item old.client (handed_of old) old.handle number r.context.items) =
    (λ i. item_in ((is i).place) ((is i).client) ((is i).handle) r.context.items (handed_by ((is i).in_use) ((is i).handed.items))) in
    let same : item_of_record r ≡ with_context bytes (item_at (items_of records) n) =
    item ∙ (λ i. Some (saved_item old.client (handed_of old) old.handle (number_is i) (context i)))
    ∙ ap (with_context bytes) (sym at.was) in
    record {
      last_is = last_is;
      frame = taken_frame contexts asked last reply answered last_is;
      items_are = items_set records n r (with_context bytes (item_at (items_of records) n)) same;
      next_is = next_is ∙ ap number_after number_is;
    }

-- and of whose context it is
replies_by : {contexts : ContextLimits} (state : Option SlotState) (view : SessionsView) (n : ℕ) (client : Option ℕ) (handed : Option (List ℕ)) (handle : ℕ)
    (reply : List ℕ) (others : List ℕ) → Stand state view others → item_at view.items n ≡ Some (unsaved_item client handed handle)
    → Succeeds contexts (context_save_command handle) reply
    → IfSome state (λ slots. HandsOut slots handle (loaded_session slots handle) reply)
    → RepliesOf contexts state reply (unsaved_item client handed handle)
replies_by None view n client handed handle reply others stand was success told = record { success = success; context = tt }
replies_by (Some slots) view n client handed handle reply others stand was success told =
    let old = item_stands slots view others n (unsaved_item client handed handle) stand was in
    let is : is_loaded (place_of slots handle) ≡ true = ap (λ (m : ℕ). is_loaded (place_at slots m)) old.number_is ∙ old.place in
    record {
      success = success;
      context = subst (λ (s : Option Session). HandsOut slots handle s reply)
          (sym (loaded_same slots.persist.seed handle (place_of slots handle) None is)) told;
    }

pub replies_of : {contexts : ContextLimits} (state : Option SlotState) (view : SessionsView) (n : ℕ) (client : Option ℕ) (handed : Option (List ℕ)) (handle : ℕ)
    (reply : List ℕ) (others : List ℕ) → Stand state view others → item_at view.items n ≡ Some (unsaved_item client handed handle)
    → Succeeds contexts (context_save_command handle) reply
    → IfSome state (λ slots. HandsOut slots handle (loaded_session slots handle) reply)
    → IsSomeAnd (item_at view.items n) (λ item. RepliesOf contexts state reply item)
replies_of {contexts = contexts} state view n client handed handle reply others stand was success told =
    subst (λ (item : Option Item). IsSomeAnd item (λ item. RepliesOf contexts state reply item)) (sym was)
    (replies_by state view n client handed handle reply others stand was success told)

loads_counted : (state new_state : Option SlotState) (handle : ℕ) (context : List ℕ) → new_state ≡ brought_in handle context state
    → counter_of new_state ≡ counter_of state
loads_counted None new_state handle context is = ap counter_of is
loads_counted (Some slots) new_state handle context is = ap counter_of is

-- the same of a load
pub loads : (state new_state : Option SlotState) (records : List Record) (n : ℕ) (r : Record) (context : List ℕ)
    → n < length records → r.place ≡ places.Loaded
    → new_state ≡ brought_in r.handle context state → Loads state new_state (items_of records) (items_of (set records n r)) n
loads state new_state records n r context inside place state_is =
    let item : Option Item = Some (unsaved_item r.client (handed_of r) r.handle) in
    let is : item_of_record r ≡ item = ap (λ (p : Place). item_in p r.client r.handle r.context.items (handed_of r)) place in
    let here : item_at (items_of (set records n r)) n ≡ item = item_set records n r inside ∙ is in
    record {
      loaded_is = ap is_loaded_item here;
      items_are = items_set records n r item is ∙ ap (set (items_of records) n) (sym here);
      counted = loads_counted state new_state r.handle context state_is;
    }

-- ---- a handle that names a session

pub record HasItem (items : List (Option Item)) (handle : ℕ) : Type 0 where
  pub item : Item
  pub was : item_at items (number_of_session handle) ≡ Some item
  pub handle_is : item.handle ≡ handle

handle_by : (test : Bool) (item : Item) → is_some (if test then Some item else None) ≡ true → test ≡ true
handle_by true item is = refl
handle_by false item is = absurd cc

has_by : (items : List (Option Item)) (handle : ℕ) (found : Option Item) → item_at items (number_of_session handle) ≡ found
    → is_some (with_handle handle found) ≡ true → HasItem items handle
has_by items handle None is named = absurd cc
has_by items handle (Some item) is named =
    record { item = item; was = is; handle_is = eqb-true item.handle handle (handle_by (item.handle == handle) item named) }

pub has_item : (items : List (Option Item)) (handle : ℕ) → Names items handle → HasItem items handle
has_item items handle named = has_by items handle (item_at items (number_of_session handle)) refl named

pub named_inside : (records : List Record) (items : List (Option Item)) (n handle : ℕ) → items_of records ≡ items
    → n ≡ number_of_session handle
    → Names items handle → n < length records
named_inside records items n handle items_are n_is named =
    let has = has_item items handle named in
    record_inside records n (
    ap (λ (list : List (Option Item)). is_some (item_at list n)) items_are
    ∙ ap (λ (m : ℕ). is_some (item_at items m)) n_is
    ∙ ap (λ (i : Option Item). is_some i) has.was
    )
