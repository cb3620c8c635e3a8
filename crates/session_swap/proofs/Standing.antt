-- Sessions stand over what else becomes of them.
use Rattle.std.proofs.Common.{◌≡◌, ◌+◌, ◌<◌, inl, inr, ℕ, zero, suc, Bool, true, false, List, [], ◌∷◌, length, get_or, set, map, refl, ap, subst, sym, ◌∙◌, arith, length-set}
use Rattle.std.specs.Prelude.{◌==◌, ◌||◌, Option, Some, None, is_some, IfSome, if◌then◌else◌}
use Rattle.std.specs.List.{count_by, list_any}
use Rattle.std.proofs.lemmas.Bool.{cases_eq, eq-eqb, eqb-true}
use Rattle.std.proofs.lemmas.List.{get_or-set_same, get_or-set_other}
use Rattle.tab_spec.specs.declared.numbers.Numbers.{Numbers}
use Rattle.tab_spec.specs.declared.TheConstants.{SESSION_NUMBERS}
use Rattle.tab_spec.specs.Admission.{is_session_handle}
use Rattle.tab_spec.specs.Session.{Session}
use Rattle.tab_spec.specs.Shape.{number_of_session, octet_of}
use Rattle.device_spec.specs.Slots.{SessionPlace, SlotState, IsSlots, inactive, loaded, saved, is_active, is_active_with, is_loaded, session_in_place}
use Rattle.device_laws.proofs.Places.{ArePlaces}
use Rattle.session_swap.specs.Items.{AreAlike, IsPlaceOf, Item, ItemStands, Names, Saved, SessionsStand, SessionsView, context_of, disowned, flag, is_loaded_item, is_saved_item, item_at, item_session, left_behind, new_item, number_of_item, place_at, taken_back}
use Rattle.session_swap.specs.Moves.{with_handed}
use Rattle.session_swap.proofs.Moved.{Moves, are_places, ending, has_item, item_inside, moved, session_loaded, stands_moved}
use Rattle.session_swap.proofs.Rising.{rise_gone, rise_set, unsaved_none}
use Rattle.session_swap.proofs.PlaceSet.{any_set, place_here, session_here}

-- ---- a place like another

pub alike_same : (place : SessionPlace) → AreAlike place place
alike_same inactive = refl
alike_same (loaded octet s) = (refl, eq-eqb octet octet refl)
alike_same (saved octet number) = refl

loaded_active : (place : SessionPlace) → is_loaded place ≡ true → is_active place ≡ true
loaded_active inactive is = absurd cc
loaded_active (loaded octet s) is = refl
loaded_active (saved octet number) is = absurd cc

alike_active : (place other : SessionPlace) → AreAlike place other → is_active other ≡ is_active place
alike_active inactive other alike = ap is_active alike
alike_active (loaded octet s) other alike = loaded_active other alike.0
alike_active (saved octet number) other alike = ap is_active alike

alike_loaded : (place other : SessionPlace) → AreAlike place other → is_loaded place ≡ true → is_loaded other ≡ true
alike_loaded inactive other alike is = absurd cc
alike_loaded (loaded octet s) other alike is = alike.0
alike_loaded (saved octet number) other alike is = absurd cc

alike_saved : (place other : SessionPlace) (octet number : ℕ) → AreAlike place other → place ≡ saved octet number
    → other ≡ saved octet number
alike_saved place other octet number alike is = subst (λ (p : SessionPlace). AreAlike p other) is alike

alike_place : (handle : ℕ) (last : Option Saved) (place other : SessionPlace) → AreAlike place other
    → IsPlaceOf handle last place → IsPlaceOf handle last other
alike_place handle None place other alike is = alike_loaded place other alike is
alike_place handle (Some last) place other alike is = alike_saved place other (octet_of handle) last.number alike is

test_of : (test : Bool) (s : Session) → is_some (if test then Some s else None) ≡ true → test ≡ true
test_of true s is = refl
test_of false s is = absurd cc

some_by : (test : Bool) (s : Session) → test ≡ true → is_some (if test then Some s else None) ≡ true
some_by true s is = refl
some_by false s is = absurd cc

loaded_there : (seed : List ℕ) (handle octet : ℕ) (other : SessionPlace) (context : Option (List ℕ)) → octet ≡ octet_of handle
    → is_loaded other ≡ true → is_active_with octet other ≡ true
    → is_some (session_in_place seed handle other context) ≡ true
loaded_there seed handle octet inactive context same is with = absurd cc
loaded_there seed handle octet (loaded kept s) context same is with =
    some_by (kept == octet_of handle) s (eq-eqb kept (octet_of handle) (eqb-true kept octet with ∙ same))
loaded_there seed handle octet (saved kept number) context same is with = absurd cc

alike_there : (seed : List ℕ) (handle : ℕ) (place other : SessionPlace) (context : Option (List ℕ)) → AreAlike place other
    → is_some (session_in_place seed handle place context) ≡ true
    → is_some (session_in_place seed handle other context) ≡ true
alike_there seed handle inactive other context alike is = absurd cc
alike_there seed handle (loaded octet s) other context alike is =
    loaded_there seed handle octet other context
    (eqb-true octet (octet_of handle) (test_of (octet == octet_of handle) s is)) alike.0 alike.1
alike_there seed handle (saved octet number) other context alike is =
    ap (λ (p : SessionPlace). is_some (session_in_place seed handle p context)) alike ∙ is

-- ---- a client's command changes sessions that are loaded

changed_item : (slots new : SlotState) (number : ℕ) (item : Option Item) → new.persist.seed ≡ slots.persist.seed
    → ((number : ℕ) → AreAlike (place_at slots number) (place_at new number))
    → IfSome item (λ item. ItemStands slots number item) → IfSome item (λ item. ItemStands new number item)
changed_item slots new number None seed alike stands = tt
changed_item slots new number (Some item) seed alike stands =
    let n = number_of_session item.handle in
    record {
      number_is = stands.number_is;
      handle = stands.handle;
      place = alike_place item.handle item.saved (place_at slots number) (place_at new number) (alike number) stands.place;
      there =
          ap (λ (seed : List ℕ). is_some (session_in_place seed item.handle (place_at new n) (context_of item.saved))) seed
          ∙ alike_there slots.persist.seed item.handle (place_at slots n) (place_at new n) (context_of item.saved) (alike n)
          stands.there;
    }

pub stands_changed : (slots new : SlotState) (view : SessionsView) (others : List ℕ) → SessionsStand slots view others
    → new.started ≡ true → IsSlots new → new.counter ≡ slots.counter → new.persist.seed ≡ slots.persist.seed → new.numbers ≡ slots.numbers
    → ((number : ℕ) → AreAlike (place_at slots number) (place_at new number)) → SessionsStand new view others
stands_changed slots new view others stand started sound counter seed numbers alike = record {
  started = started;
  sound = sound;
  numbers = numbers ∙ stand.numbers;
  count = stand.count;
  each = λ number. changed_item slots new number (item_at view.items number) seed alike (stand.each number);
  owned = λ number.
      stand.owned number ∙ sym (ap flag (alike_active (place_at slots number) (place_at new number) (alike number)));
  next = λ some. stand.next some ∙ sym counter;
  rise = stand.rise;
}

-- ---- one session begins or ends

-- the device after a move, and whatever else a command changed in it
stands_by : (slots new : SlotState) (view : SessionsView) (others : List ℕ) (n : ℕ) (place : SessionPlace) (item : Option Item)
    → SessionsStand slots view others → new.started ≡ true → IsSlots new → new.counter ≡ slots.counter
    → new.persist.seed ≡ slots.persist.seed → new.numbers ≡ slots.numbers → new.sessions ≡ set slots.sessions n place
    → Moves slots view.items n place slots.counter item → is_saved_item item ≡ false
    → SessionsStand new (record view { items = set view.items n item }) others
stands_by slots new view others n place item stand started sound counter seed numbers sessions moves unsaved =
    stands_changed (moved slots n place slots.counter) new (record view { items = set view.items n item }) others
    (stands_moved slots view others n place slots.counter item view.next view.order view.saved view.left view.contexts stand moves
    (λ some. stand.next (any_set is_saved_item view.items n item unsaved some))
    (rise_gone view.items n item view.saved (unsaved_none item unsaved) stand.rise))
    started sound counter seed numbers
    (λ number.
    subst (λ (l : List SessionPlace). AreAlike (get_or (set slots.sessions n place) number inactive) (get_or l number inactive))
    (sym sessions) (alike_same (get_or (set slots.sessions n place) number inactive)))

new_places : (slots new : SlotState) (n : ℕ) (place : SessionPlace) → IsSlots new → new.counter ≡ slots.counter → new.numbers ≡ slots.numbers
    → new.sessions ≡ set slots.sessions n place → ArePlaces slots.numbers.loaded slots.counter (set slots.sessions n place)
new_places slots new n place sound counter numbers sessions =
    subst (λ (own : Numbers). ArePlaces own.loaded slots.counter (set slots.sessions n place)) numbers
    (subst (λ (c : ℕ). ArePlaces new.numbers.loaded c (set slots.sessions n place)) counter
    (subst (λ (l : List SessionPlace). ArePlaces new.numbers.loaded new.counter l) sessions (are_places new sound)))

beginning : (slots new : SlotState) (view : SessionsView) (others : List ℕ) (client handle : ℕ) (s : Session)
    → SessionsStand slots view others → IsSlots new → new.counter ≡ slots.counter → new.numbers ≡ slots.numbers
    → item_at view.items (number_of_session handle) ≡ None
    → is_session_handle handle ≡ true → number_of_session handle < SESSION_NUMBERS
    → place_at slots (number_of_session handle) ≡ inactive
    → new.sessions ≡ set slots.sessions (number_of_session handle) (loaded (octet_of handle) s)
    → Moves slots view.items (number_of_session handle) (loaded (octet_of handle) s) slots.counter
    (Some (new_item client handle))
beginning slots new view others client handle s stand sound counter numbers none is fits unused sessions =
    let n = number_of_session handle in
    let place = loaded (octet_of handle) s in
    let inside : n < length slots.sessions = omega (arith, fits, stand.sound.numbers) in
    record {
      fits = fits;
      places = new_places slots new n place sound counter numbers sessions;
      limit = stand.sound.counter;
      stands = record {
        number_is = refl;
        handle = is;
        place = ap is_loaded (place_here slots n place inside);
        there = ap (λ (o : Option Session). is_some o) (
            session_here slots n handle place None inside refl
            ∙ session_loaded slots.persist.seed handle (octet_of handle) s None refl
            );
      };
      owned = omega (
        arith,
        ap (λ (i : Option Item). flag (is_some i)) none,
        ap (λ (p : SessionPlace). flag (is_active p)) unused,
      );
    }

pub stands_begun : (slots new : SlotState) (view : SessionsView) (others : List ℕ) (client handle : ℕ) (s : Session)
    → SessionsStand slots view others → new.started ≡ true → IsSlots new → new.counter ≡ slots.counter
    → new.persist.seed ≡ slots.persist.seed → new.numbers ≡ slots.numbers
    → item_at view.items (number_of_session handle) ≡ None
    → is_session_handle handle ≡ true → number_of_session handle < SESSION_NUMBERS
    → place_at slots (number_of_session handle) ≡ inactive
    → new.sessions ≡ set slots.sessions (number_of_session handle) (loaded (octet_of handle) s)
    → SessionsStand new (record view { items = set view.items (number_of_session handle) (Some (new_item client handle)) }) others
stands_begun slots new view others client handle s stand started sound counter seed numbers none is fits unused sessions =
    stands_by slots new view others (number_of_session handle) (loaded (octet_of handle) s) (Some (new_item client handle))
    stand started sound counter seed numbers sessions
    (beginning slots new view others client handle s stand sound counter numbers none is fits unused sessions) refl

pub stands_ended : (slots new : SlotState) (view : SessionsView) (others : List ℕ) (handle : ℕ)
    → SessionsStand slots view others → new.started ≡ true → IsSlots new → new.counter ≡ slots.counter
    → new.persist.seed ≡ slots.persist.seed → new.numbers ≡ slots.numbers → Names view.items handle
    → new.sessions ≡ set slots.sessions (number_of_session handle) inactive
    → SessionsStand new (record view { items = set view.items (number_of_session handle) None }) others
stands_ended slots new view others handle stand started sound counter seed numbers named sessions =
    let has = has_item view.items handle named in
    stands_by slots new view others (number_of_session handle) inactive None stand started sound counter seed numbers sessions
    (ending slots view others (number_of_session handle) has.item stand has.was) refl

-- ---- whose a session is changes, or its context is handed out

-- the same session, with this client, and with this context that was handed out
abbrev pub held_as : Option ℕ → Option (List ℕ) → Option Item → Option Item
held_as client handed None = None
held_as client handed (Some item) = Some (record item { client = client; handed = handed })

pub record IsHeldAs (item other : Option Item) : Type 0 where
  pub client : Option ℕ
  pub handed : Option (List ℕ)
  pub is : other ≡ held_as client handed item

disowned_held : (item : Option Item) → IsHeldAs item (disowned item)
disowned_held None = record { client = None; handed = None; is = refl }
disowned_held (Some item) = record { client = None; handed = None; is = refl }

behind_held : (item : Option Item) → IsHeldAs item (left_behind item)
behind_held None = record { client = None; handed = None; is = refl }
behind_held (Some item) = record { client = None; handed = item.handed; is = refl }

pub handed_held : (bytes : List ℕ) (item : Option Item) → IsHeldAs item (with_handed bytes item)
handed_held bytes None = record { client = None; handed = None; is = refl }
handed_held bytes (Some item) = record { client = item.client; handed = Some bytes; is = refl }

pub taken_held : (client : ℕ) (item : Option Item) → IsHeldAs item (taken_back client item)
taken_held client None = record { client = None; handed = None; is = refl }
taken_held client (Some item) = record { client = Some client; handed = None; is = refl }

held_item : (slots : SlotState) (number : ℕ) (client : Option ℕ) (handed : Option (List ℕ)) (item : Option Item)
    → IfSome item (λ item. ItemStands slots number item)
    → IfSome (held_as client handed item) (λ item. ItemStands slots number item)
held_item slots number client handed None stands = tt
held_item slots number client handed (Some item) stands =
    record { number_is = stands.number_is; handle = stands.handle; place = stands.place; there = stands.there }

pub held_some : (client : Option ℕ) (handed : Option (List ℕ)) (item : Option Item) → is_some (held_as client handed item) ≡ is_some item
held_some client handed None = refl
held_some client handed (Some item) = refl

pub held_loaded : (client : Option ℕ) (handed : Option (List ℕ)) (item : Option Item)
    → is_loaded_item (held_as client handed item) ≡ is_loaded_item item
held_loaded client handed None = refl
held_loaded client handed (Some item) = refl

pub held_saved : (client : Option ℕ) (handed : Option (List ℕ)) (item : Option Item)
    → is_saved_item (held_as client handed item) ≡ is_saved_item item
held_saved client handed None = refl
held_saved client handed (Some item) = refl

held_number : (client : Option ℕ) (handed : Option (List ℕ)) (item : Option Item)
    → number_of_item (held_as client handed item) ≡ number_of_item item
held_number client handed None = refl
held_number client handed (Some item) = refl

held_session : (slots : SlotState) (client : Option ℕ) (handed : Option (List ℕ)) (item : Option Item)
    → item_session slots (held_as client handed item) ≡ item_session slots item
held_session slots client handed None = refl
held_session slots client handed (Some item) = refl

any_same : {X : Type 0} (p : X → Bool) (xs : List X) (n : ℕ) (y d : X) → n < length xs → p y ≡ p (get_or xs n d)
    → list_any p (set xs n y) ≡ list_any p xs
any_same p [] n y d inside same = absurd (omega arith)
any_same p (x ∷ xs) zero y d inside same = ap (λ (b : Bool). b || list_any p xs) same
any_same p (x ∷ xs) (suc n) y d inside same =
    ap (λ (b : Bool). p x || b) (any_same p xs n y d (omega arith) same)

sessions_held_as : (slots : SlotState) (client : Option ℕ) (handed : Option (List ℕ)) (items : List (Option Item)) (number : ℕ)
    → map (item_session slots) (set items number (held_as client handed (item_at items number))) ≡ map (item_session slots) items
sessions_held_as slots client handed [] number = refl
sessions_held_as slots client handed (item ∷ items) zero =
    ap (λ (s : Option Session). s ∷ map (item_session slots) items) (held_session slots client handed item)
sessions_held_as slots client handed (item ∷ items) (suc number) =
    ap (λ (l : List (Option Session)). item_session slots item ∷ l) (sessions_held_as slots client handed items number)

-- it is what it was
pub sessions_held : (slots : SlotState) (items : List (Option Item)) (number : ℕ) (other : Option Item)
    → IsHeldAs (item_at items number) other → map (item_session slots) (set items number other) ≡ map (item_session slots) items
sessions_held slots items number other held =
    ap (λ (o : Option Item). map (item_session slots) (set items number o)) held.is
    ∙ sessions_held_as slots held.client held.handed items number

-- another item of a number
item_set : (items : List (Option Item)) (n m : ℕ) (item : Option Item) (P : Option Item → Type 0) → n < length items
    → (m ≡ n → P item) → P (item_at items m) → P (item_at (set items n item) m)
item_set items n m item P inside this other =
    elim (cases_eq m n) [
      | inl same ↦
          subst P
          (sym (ap (item_at (set items n item)) same ∙ get_or-set_same items n item None inside)) (this same)
      | inr apart ↦ subst P (sym (get_or-set_other items n m item None apart)) other
    ]

stands_held_as : (slots : SlotState) (view : SessionsView) (left others : List ℕ) (n : ℕ) (client : Option ℕ) (handed : Option (List ℕ))
    → SessionsStand slots view others → n < length view.items
    → SessionsStand slots (record view { items = set view.items n (held_as client handed (item_at view.items n)); left = left }) others
stands_held_as slots view left others n client handed stand inside =
    let was = item_at view.items n in
    let other = held_as client handed was in
    record {
      started = stand.started;
      sound = stand.sound;
      numbers = stand.numbers;
      count = length-set view.items n other ∙ stand.count;
      each = λ m.
          item_set view.items n m other (λ item. IfSome item (λ item. ItemStands slots m item)) inside
          (λ same.
          subst (λ (m : ℕ). IfSome other (λ item. ItemStands slots m item)) (sym same)
          (held_item slots n client handed was (stand.each n)))
          (stand.each m);
      owned = λ m.
          item_set view.items n m other
          (λ item. flag (is_some item) + count_by (λ other. other == m) others ≡ flag (is_active (place_at slots m))) inside
          (λ same.
          ap (λ (b : Bool). flag b + count_by (λ other. other == m) others)
          (held_some client handed was ∙ ap (λ (k : ℕ). is_some (item_at view.items k)) (sym same))
          ∙ stand.owned m)
          (stand.owned m);
      next = λ some.
          stand.next (sym (any_same is_saved_item view.items n other None inside (held_saved client handed was)) ∙ some);
      rise = rise_set view.items n other view.saved (λ m is. sym (held_number client handed was) ∙ is) stand.rise;
    }

-- and it stands on, whichever sessions were left
pub stands_held : (slots : SlotState) (view : SessionsView) (left others : List ℕ) (n : ℕ) (other : Option Item)
    → SessionsStand slots view others → n < length view.items → IsHeldAs (item_at view.items n) other
    → SessionsStand slots (record view { items = set view.items n other; left = left }) others
stands_held slots view left others n other stand inside held =
    subst (λ (o : Option Item). SessionsStand slots (record view { items = set view.items n o; left = left }) others) (sym held.is)
    (stands_held_as slots view left others n held.client held.handed stand inside)

pub sessions_disowned : (slots : SlotState) (items : List (Option Item)) (number : ℕ)
    → map (item_session slots) (set items number (disowned (item_at items number))) ≡ map (item_session slots) items
sessions_disowned slots items number =
    sessions_held slots items number (disowned (item_at items number)) (disowned_held (item_at items number))

pub sessions_behind : (slots : SlotState) (items : List (Option Item)) (number : ℕ)
    → map (item_session slots) (set items number (left_behind (item_at items number))) ≡ map (item_session slots) items
sessions_behind slots items number =
    sessions_held slots items number (left_behind (item_at items number)) (behind_held (item_at items number))

pub stands_disowned : (slots : SlotState) (view : SessionsView) (left others : List ℕ) (handle : ℕ)
    → SessionsStand slots view others → Names view.items handle
    → SessionsStand slots (record view {
      items = set view.items (number_of_session handle)
          (disowned (item_at view.items (number_of_session handle)));
      left = left;
    }) others
stands_disowned slots view left others handle stand named =
    let n = number_of_session handle in
    let has = has_item view.items handle named in
    stands_held slots view left others n (disowned (item_at view.items n)) stand (item_inside view.items n has.item has.was)
    (disowned_held (item_at view.items n))

pub stands_behind : (slots : SlotState) (view : SessionsView) (left others : List ℕ) (handle : ℕ)
    → SessionsStand slots view others → Names view.items handle
    → SessionsStand slots (record view {
      items = set view.items (number_of_session handle)
          (left_behind (item_at view.items (number_of_session handle)));
      left = left;
    }) others
stands_behind slots view left others handle stand named =
    let n = number_of_session handle in
    let has = has_item view.items handle named in
    stands_held slots view left others n (left_behind (item_at view.items n)) stand (item_inside view.items n has.item has.was)
    (behind_held (item_at view.items n))
