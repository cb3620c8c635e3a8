-- What is left where an orphan is flushed: what clients have and left stands as before, and whose it is. Such steps compose.
use Rattle.std.proofs.Common.{◌≡◌, ◌≢◌, ◌+◌, ◌<◌, ◌⊎◌, inl, inr, ℕ, zero, suc, Bool, true, false, List, [], ◌∷◌, ◌++◌, length, get_or, set, map, refl, ap, sym, ◌∙◌, subst, arith, length-append, length-set, ◌≤◌}
use Rattle.std.specs.Prelude.{not, ◌&&◌, Option, Some, None, is_some}
use Rattle.std.specs.List.{count_by, list_any}
use Rattle.std.proofs.lemmas.Bool.{cases_lt, true≢false}
use Rattle.std.proofs.lemmas.List.{get_or-map, get_or-set_other, map-set, set-get_or}
use Rattle.std.proofs.Math.ListN as lists
use Rattle.tab_spec.specs.Object.{Object}
use Rattle.tab_spec.specs.Session.{Session}
use Rattle.tab_spec.specs.Shape.{number_of_session}
use Rattle.device_spec.specs.Slots.{SlotState, gap_from}
use Rattle.device_port.specs.Device.{Seen}
use Rattle.object_swap.specs.Items as objects
use Rattle.object_swap.specs.Items.{Item, LosesOrphan, ObjectsView, is_vacant, item_at, item_object, no_item, objects_of, without_object}
use Rattle.object_swap.proofs.Counts.{count_cons, count_set, list_some, number_false, number_true}
use Rattle.session_swap.specs.Items as sessions
use Rattle.session_swap.specs.Items.{HasGapRoom, SessionsView, gap_kept, item_session, oldest_number, sessions_of, without_session}
use Rattle.world_spec.specs.World.{Owned}
use Rattle.client_machine.specs.declared.held.Held.{Held}
use Rattle.client_machine.specs.Moves.{Clears, GainsNone, Loses, Keeps, KeepsObjectsOf, KeepsOwners, KeepsPersist, Prepares, any_client}
use Rattle.client_machine.specs.Settled.{Settled, orphan_count, owned_by_client, owned_in, sessions_in}
use Rattle.client_machine.specs.Tables.{owned_handle, owned_handles, with_owner}
use Rattle.client_machine.proofs.Bringing.{item_told, objects_told}
use Rattle.client_machine.proofs.Prepared.{counts_same, counts_then}
use Rattle.client_machine.proofs.Staying.{gap_without, gone_then, loses_gone, loses_left, loses_none, loses_session, loses_then}
use Rattle.client_machine.proofs.Settling.{counter_over_objects, owned_same, keeps_over_objects, keeps_over_sessions, object_counter_over_sessions, objects_over_sessions, persist_over_objects, persist_over_sessions, rest_over_objects, sessions_over_objects, sessions_same, settled_over_objects, settled_over_sessions, some_same}
use Rattle.client_machine.proofs.Keeping.{for_then, same_for}

-- ---- one step after another

pub keeps_same : {D : Type 0} (seen : D → Seen) (old : D)
    → Keeps seen old old
keeps_same seen old = record { base_is = refl; tells = refl; count = omega arith }

pub keeps_then : {D : Type 0} (seen : D → Seen) (old middle new : D)
    → Keeps seen old middle → Keeps seen middle new → Keeps seen old new
keeps_then seen old middle new first second = record {
  base_is = second.base_is ∙ first.base_is;
  tells = second.tells ∙ first.tells;
  count = omega (arith, first.count, second.count);
}

pub persist_then : (old middle new : Option SlotState) → is_some middle ≡ is_some old → KeepsPersist old middle
    → KeepsPersist middle new → KeepsPersist old new
persist_then old None new tells first second =
    λ slots after is_old is_new.
    let none : false ≡ true = tells ∙ ap (λ (s : Option SlotState). is_some s) is_old in absurd cc
persist_then old (Some between) new tells first second =
    λ slots after is_old is_new. second between after refl is_new ∙ first slots between is_old refl

pub owners_then : (whose : ℕ → Bool) (items between new_items : List Item) → KeepsOwners whose items between
    → KeepsOwners whose between new_items → KeepsOwners whose items new_items
owners_then whose items between new_items first second =
    λ index owner names own mine.
    let one = first index owner names own mine in
    second index owner one.0 one.1 mine

pub gains_then : (whose : ℕ → Bool) (items between new_items : List Item) → GainsNone whose items between → GainsNone whose between new_items
    → GainsNone whose items new_items
gains_then whose items between new_items first second = λ index owner own mine. first index owner (second index owner own mine) mine

pub objects_then : (whose : ℕ → Bool) (old middle new : Option SlotState) (items between new_items : List Item)
    → is_some middle ≡ is_some old → KeepsOwners whose items between → KeepsObjectsOf whose old middle items between
    → KeepsObjectsOf whose middle new between new_items → KeepsObjectsOf whose old new items new_items
objects_then whose old None new items between new_items tells owners first second =
    λ slots after index owner is_old is_new names own mine.
    let none : false ≡ true = tells ∙ ap (λ (s : Option SlotState). is_some s) is_old in absurd cc
objects_then whose old (Some state) new items between new_items tells owners first second =
    λ slots after index owner is_old is_new names own mine.
    let one = owners index owner names own mine in
    second state after index owner refl is_new one.0 one.1 mine ∙ first slots state index owner is_old refl names own mine

sessions_then : (old middle new : Option SlotState) (items between new_items : List (Option sessions.Item))
    → is_some middle ≡ is_some old
    → ((slots after : SlotState) → old ≡ Some slots → middle ≡ Some after → sessions_in after between ≡ sessions_in slots items)
    → ((slots after : SlotState) → middle ≡ Some slots → new ≡ Some after → sessions_in after new_items ≡ sessions_in slots between)
    → (slots after : SlotState) → old ≡ Some slots → new ≡ Some after → sessions_in after new_items ≡ sessions_in slots items
sessions_then old None new items between new_items tells first second = λ slots after is_old is_new.
    let none : false ≡ true = tells ∙ ap (λ (s : Option SlotState). is_some s) is_old in absurd cc
sessions_then old (Some state) new items between new_items tells first second = λ slots after is_old is_new.
    second state after refl is_new ∙ first slots state is_old refl

-- a call that leaves the device in its state, and what is held
pub prepares_still : {D : Type 0} (seen : D → Seen) (old new : D) (held : Held)
    → Keeps seen old new → (seen new).state ≡ (seen old).state → Settled (seen old).state held → Prepares 0 seen old new held held
prepares_still seen old new held keeps same settled = record {
  keeps = keeps;
  counts = counts_same (seen old).state (seen new).state (ap objects.counter_of same) (ap sessions.counter_of same);
  owners = λ index owner names own mine. (names, own);
  gained = λ index owner own mine. own;
  lists = refl;
  objects = λ slots after index owner is_old is_new names own mine.
      let is : after ≡ slots = cc in ap (λ (s : SlotState). item_object s (item_at held.objects.items index)) is;
  session_owners = refl;
  sessions = λ slots after is_old is_new.
      let is : after ≡ slots = cc in ap (λ (s : SlotState). sessions_in s held.sessions.items) is;
  persist = λ slots after is_old is_new. let is : after ≡ slots = cc in ap (λ (s : SlotState). s.persist) is;
  settled = subst (λ (s : Option SlotState). Settled s held) (sym same) settled;
  vacant = λ some. some;
  gone = loses_gone held held (loses_none held);
  orphans = omega arith;
  made_for = same_for held;
  slots = refl;
  numbers = refl;
  left = refl;
  length_is = refl;
}

pub prepares_same : {D : Type 0} (seen : D → Seen) (old : D) (held : Held)
    → Settled (seen old).state held → Prepares 0 seen old old held held
prepares_same seen old held settled =
    prepares_still seen old old held (keeps_same seen old) refl settled

pub prepares_then : {D : Type 0} {n m most : ℕ} (seen : D → Seen) (old middle new : D)
    (held between new_held : Held) → n + m ≤ most → Prepares n seen old middle held between
    → Prepares m seen middle new between new_held → Prepares most seen old new held new_held
prepares_then {n = n} {m = m} {most = most} seen old middle new held between new_held few first second = record {
  keeps = keeps_then seen old middle new first.keeps second.keeps;
  counts = counts_then n m most (seen old).state (seen middle).state (seen new).state few first.counts second.counts;
  owners = owners_then any_client held.objects.items between.objects.items new_held.objects.items first.owners second.owners;
  gained = gains_then any_client held.objects.items between.objects.items new_held.objects.items first.gained second.gained;
  lists = second.lists ∙ first.lists;
  objects = objects_then any_client (seen old).state (seen middle).state (seen new).state held.objects.items between.objects.items
      new_held.objects.items first.keeps.tells first.owners first.objects second.objects;
  session_owners = second.session_owners ∙ first.session_owners;
  sessions = sessions_then (seen old).state (seen middle).state (seen new).state held.sessions.items between.sessions.items new_held.sessions.items
      first.keeps.tells first.sessions second.sessions;
  persist = persist_then (seen old).state (seen middle).state (seen new).state first.keeps.tells first.persist second.persist;
  settled = second.settled;
  vacant = λ some. second.vacant (first.vacant some);
  gone = gone_then held between new_held first.gone second.gone;
  orphans = omega (arith, first.orphans, second.orphans);
  made_for = for_then held between new_held first.made_for second.made_for;
  slots = second.slots ∙ first.slots;
  numbers = second.numbers ∙ first.numbers;
  left = second.left ∙ first.left;
  length_is = second.length_is ∙ first.length_is;
}

-- fewer contexts
pub prepares_more : {D : Type 0} {n most : ℕ} (seen : D → Seen) (old new : D) (held new_held : Held) → n ≤ most
    → Prepares n seen old new held new_held → Prepares most seen old new held new_held
prepares_more seen old new held new_held few prepares =
    prepares_then seen old new new held new_held new_held (omega (arith, few)) prepares (prepares_same seen new new_held prepares.settled)

-- ---- what is left while orphans are flushed

pub clears_none : {D : Type 0} (seen : D → Seen) (old : D) (held : Held)
    → Settled (seen old).state held → Clears seen old old held held
clears_none seen old held settled = record {
  prepared = prepares_same seen old held settled;
  objects = refl;
  sessions = λ number mine. refl;
  loses = loses_none held;
  gap = omega arith;
  still = λ none. (refl, refl);
}

pub clears_then : {D : Type 0} (seen : D → Seen) (old middle new : D)
    (held between new_held : Held) → Clears seen old middle held between
    → Clears seen middle new between new_held → Clears seen old new held new_held
clears_then seen old middle new held between new_held first second = record {
  prepared = prepares_then seen old middle new held between new_held (omega arith) first.prepared second.prepared;
  objects = second.objects ∙ ap (λ (v : ObjectsView). record v { left = new_held.objects.left }) first.objects;
  sessions = λ number mine.
      let one = first.sessions number mine in
      second.sessions number (ap sessions.is_orphan one ∙ mine) ∙ one;
  loses = loses_then held between new_held first.loses second.loses;
  gap = omega (arith, first.gap, second.gap);
  still = λ none.
      let one = first.still none in
      let two = second.still (ap orphan_count one.1 ∙ none) in
      (two.0 ∙ one.0, two.1 ∙ one.1);
}

-- a flush that failed
pub prepares_failed : {D : Type 0} (seen : D → Seen) (old new : D)
    (held new_held : Held) → Keeps seen old new → (seen new).state ≡ (seen old).state → new_held ≡ held → Settled (seen old).state held
    → Prepares 0 seen old new held new_held
prepares_failed seen old new held new_held keeps same are settled =
    subst (λ (h : Held). Prepares 0 seen old new held h) (sym are)
    (prepares_still seen old new held keeps same settled)

pub clears_failed : {D : Type 0} (seen : D → Seen) (old middle new : D) (held between new_held : Held) → Clears seen old middle held between
    → Keeps seen middle new → (seen new).state ≡ (seen middle).state → new_held ≡ between → (orphan_count between ≡ 0 → ⊥)
    → Clears seen old new held new_held
clears_failed seen old middle new held between new_held first keeps same are some = record {
  prepared = prepares_then seen old middle new held between new_held (omega arith) first.prepared
      (prepares_failed seen middle new between new_held keeps same are first.prepared.settled);
  objects = subst (λ (h : Held). h.objects ≡ record held.objects { left = h.objects.left }) (sym are) first.objects;
  sessions = λ number mine. ap (λ (h : Held). sessions.item_at h.sessions.items number) are ∙ first.sessions number mine;
  loses = subst (λ (h : Held). Loses held h) (sym are) first.loses;
  gap = omega (arith, ap (λ (h : Held). gap_kept h.sessions) are, first.gap);
  still = λ none. absurd (some (ap orphan_count (first.still none).1 ∙ none));
}

-- a loop that finds none
pub none_counted : {X : Type 0} (p : X → Bool) (xs : List X) → list_any p xs ≡ false → count_by p xs ≡ 0
none_counted p xs none =
    elim (cases_lt 0 (count_by p xs)) [
      | inl some ↦ absurd (true≢false (sym (list_some p xs (omega (arith, some))) ∙ none))
      | inr nothing ↦ omega (arith, nothing)
    ]

-- a list without any such item, with another that is none
pub zero_set : {X : Type 0} (p : X → Bool) (xs : List X) (n : ℕ) (y : X) → p y ≡ false → count_by p xs ≡ 0 → count_by p (set xs n y) ≡ 0
zero_set p [] n y not none = none
zero_set p (x ∷ xs) zero y not none = omega (arith, none, count_cons p x xs, count_cons p y xs, number_false (p y) not)
zero_set p (x ∷ xs) (suc n) y not none =
    omega (arith, none, count_cons p x xs, count_cons p x (set xs n y), zero_set p xs n y not (omega (arith, none, count_cons p x xs)))

-- the last of what was sent has a property, where anything was
pub answered_then : {D : Type 0} (P : D → Type 0) (old middle new : D) → (middle ≡ old) ⊎ P middle → (new ≡ middle) ⊎ P new
    → (new ≡ old) ⊎ P new
answered_then P old middle new first (inr answered) = inr answered
answered_then P old middle new (inl same) (inl still) = inl (still ∙ same)
answered_then P old middle new (inr answered) (inl still) = inr (subst P (sym still) answered)

-- ---- an orphaned session

kept_by : {X Y : Type 0} (f : X → Y) (xs : List X) (i : ℕ) (y d : X) → f y ≡ f (get_or xs i d) → map f (set xs i y) ≡ map f xs
kept_by f xs i y d same =
    map-set f xs i y ∙ ap (set (map f xs) i) (same ∙ sym (lists.get_or-map f xs i d)) ∙ set-get_or (map f xs) i (f d)

-- without one session each other one is as it was
pub sessions_without_one : (slots after : SlotState) (items : List (Option sessions.Item)) (n : ℕ)
    → map (λ item. item_session after item) (set items n None) ≡ set (map (λ item. item_session slots item) items) n None
    → sessions_in after (set items n None) ≡ set (sessions_in slots items) n None
sessions_without_one slots after [] n same = refl
sessions_without_one slots after (item ∷ items) zero same =
    let rest : map (λ item. item_session after item) items ≡ map (λ item. item_session slots item) items = cc in
    ap (λ (l : List (Option Owned)). None ∷ l) (sessions_same slots after items items refl rest)
sessions_without_one slots after (item ∷ items) (suc n) same =
    let first : item_session after item ≡ item_session slots item = cc in
    let rest : map (λ item. item_session after item) (set items n None) ≡ set (map (λ item. item_session slots item) items) n None = cc in
    ap (λ (o : Option Owned). o ∷ sessions_in after (set items n None)) (owned_same slots after item item refl first)
    ∙ ap (λ (l : List (Option Owned)). owned_in slots item ∷ l) (sessions_without_one slots after items n rest)

orphan_owned : (client : Option ℕ) (handle : ℕ) (handed : Option (List ℕ)) (found : Option Session) → (not (is_some client) && not (is_some handed)) ≡ true
    → owned_by_client client handle handed found ≡ None
orphan_owned None handle None found is = refl
orphan_owned None handle (Some context) found is = absurd cc
orphan_owned (Some client) handle handed found is = absurd cc

-- the world doesn't have it
owned_orphan : (slots : SlotState) (item : Option sessions.Item) → sessions.is_orphan item ≡ true → owned_in slots item ≡ None
owned_orphan slots None is = absurd cc
owned_orphan slots (Some item) is = orphan_owned item.client item.handle item.handed (item_session slots (Some item)) is

orphan_handle : (client : Option ℕ) (handle : ℕ) (handed : Option (List ℕ)) → (not (is_some client) && not (is_some handed)) ≡ true
    → with_owner client handle handed ≡ None
orphan_handle None handle None is = refl
orphan_handle None handle (Some context) is = absurd cc
orphan_handle (Some client) handle handed is = absurd cc

handle_orphan : (item : Option sessions.Item) → sessions.is_orphan item ≡ true → owned_handle item ≡ None
handle_orphan None is = absurd cc
handle_orphan (Some item) is = orphan_handle item.client item.handle item.handed is

pub sessions_told : (old new : Option SlotState) (items new_items : List (Option sessions.Item)) (n : ℕ) (slots after : SlotState)
    → sessions_of new new_items ≡ without_session n (sessions_of old items) → old ≡ Some slots → new ≡ Some after
    → map (λ item. item_session after item) new_items ≡ set (map (λ item. item_session slots item) items) n None
sessions_told old new items new_items n slots after same is_old is_new =
    some_same (
    ap (λ (s : Option SlotState). sessions_of s new_items) (sym is_new) ∙ same
    ∙ ap (λ (s : Option SlotState). without_session n (sessions_of s items)) is_old
    )

inside_by : (items : List (Option sessions.Item)) (n : ℕ) → sessions.is_orphan (sessions.item_at items n) ≡ true → n < length items
inside_by [] n is = absurd cc
inside_by (item ∷ items) zero is = omega arith
inside_by (item ∷ items) (suc n) is = omega (arith, inside_by items n is)

pub orphans_less : (items : List (Option sessions.Item)) (n : ℕ) → sessions.is_orphan (sessions.item_at items n) ≡ true
    → count_by sessions.is_orphan (set items n None) + 1 ≡ count_by sessions.is_orphan items
orphans_less items n is =
    omega (
      arith,
      count_set sessions.is_orphan items n None None (inside_by items n is),
      number_true (sessions.is_orphan (sessions.item_at items n)) is,
    )

not_here : (items : List (Option sessions.Item)) (n m : ℕ) → sessions.is_orphan (sessions.item_at items n) ≡ true
    → sessions.is_orphan (sessions.item_at items m) ≡ false → m ≢ n
not_here items n m is other = λ same.
    let both : true ≡ false = sym is ∙ ap (λ (k : ℕ). sessions.is_orphan (sessions.item_at items k)) (sym same) ∙ other in absurd cc

pub clears_session : {D : Type 0} (seen : D → Seen) (old new : D)
    (held : Held) (new_view : SessionsView) (handle : ℕ)
    → sessions.is_orphan (sessions.item_at held.sessions.items (number_of_session handle)) ≡ true
    → new_view.numbers ≡ held.sessions.numbers → new_view.contexts ≡ held.sessions.contexts
    → new_view.items ≡ set held.sessions.items (number_of_session handle) None
    → new_view.next ≡ held.sessions.next → new_view.left ≡ held.sessions.left
    → sessions_of (seen new).state new_view.items ≡ without_session (number_of_session handle) (sessions_of (seen old).state held.sessions.items)
    → sessions.Stand (seen new).state new_view [] → sessions.counter_of (seen new).state ≡ sessions.counter_of (seen old).state
    → HasGapRoom (seen new).state → sessions.KeepsRest seen old new → Settled (seen old).state held
    → Clears seen old new held (record { objects = held.objects; sessions = new_view })
clears_session seen old new held new_view handle orphan numbers room_is items_are next_is left_is same stand counter room keeps settled =
    let n = number_of_session handle in
    let items = held.sessions.items in
    let loses = loses_session held new_view n items_are in
    let gap_is : gap_kept new_view ≡ gap_from held.sessions.next (oldest_number (set items n None)) =
    λ i. gap_from (next_is i) (oldest_number (items_are i)) in
    let fewer : count_by sessions.is_orphan new_view.items + 1 ≡ count_by sessions.is_orphan items =
    ap (λ (l : List (Option sessions.Item)). count_by sessions.is_orphan l + 1) items_are ∙ orphans_less items n orphan in
    record {
      prepared = record {
        keeps = keeps_over_sessions seen old new keeps;
        counts = counts_same (seen old).state (seen new).state (object_counter_over_sessions (seen old).state (seen new).state keeps.rest) counter;
        owners = λ index owner names own mine. (names, own);
        gained = λ index owner own mine. own;
        lists = refl;
        objects = objects_over_sessions (seen old).state (seen new).state any_client held.objects.items keeps.rest;
        session_owners = ap owned_handles items_are ∙ kept_by owned_handle items n None None (sym (handle_orphan (sessions.item_at items n) orphan));
        sessions = λ slots after is_old is_new.
            ap (λ (l : List (Option sessions.Item)). sessions_in after l) items_are
            ∙ sessions_without_one slots after items n
            (ap (λ (l : List (Option sessions.Item)). map (λ item. item_session after item) l) (sym items_are)
            ∙ sessions_told (seen old).state (seen new).state items new_view.items n slots after same is_old is_new)
            ∙ sym (map-set (owned_in slots) items n None)
            ∙ kept_by (owned_in slots) items n None None (sym (owned_orphan slots (sessions.item_at items n) orphan));
        persist = persist_over_sessions (seen old).state (seen new).state keeps.rest;
        settled = settled_over_sessions (seen old).state (seen new).state held (record { objects = held.objects; sessions = new_view })
            keeps.rest refl stand room settled;
        vacant = λ some. some;
        gone = loses_gone held (record { objects = held.objects; sessions = new_view }) loses;
        orphans = omega (arith, fewer);
        made_for = record { objects = refl; sessions = room_is };
        slots = refl;
        numbers = numbers;
        left = left_is;
        length_is = refl;
      };
      objects = refl;
      sessions = λ m mine.
          ap (λ (l : List (Option sessions.Item)). sessions.item_at l m) items_are
          ∙ get_or-set_other items n m None None (not_here items n m orphan mine);
      loses = loses;
      gap = omega (arith, gap_is, gap_without held.sessions.next items n (inside_by items n orphan));
      still = λ none. absurd (omega (arith, fewer, none));
    }

-- ---- an object

-- the last of them is gone
pub clears_orphan : {D : Type 0} (seen : D → Seen) (old new : D) (held : Held) (new_view : ObjectsView)
    → LosesOrphan (seen old).state (seen new).state held.objects new_view → objects.KeepsRest seen old new → Settled (seen old).state held
    → Clears seen old new held (record { objects = new_view; sessions = held.sessions })
clears_orphan seen old new held new_view lost keeps settled =
    let items = held.objects.items in
    let items_are : new_view.items ≡ items = ap (λ (v : ObjectsView). v.items) lost.same in
    let fewer : length new_view.left + 1 ≡ length held.objects.left =
    omega (arith, ap (λ (l : List ℕ). length l) lost.left, length-append new_view.left (lost.slot ∷ [])) in
    let loses = loses_left held new_view items_are in
    record {
      prepared = record {
        keeps = keeps_over_objects seen old new keeps;
        counts = counts_same (seen old).state (seen new).state lost.counter (counter_over_objects (seen old).state (seen new).state keeps.rest);
        owners = subst (λ (l : List Item). KeepsOwners any_client items l) (sym items_are) (λ index owner names own mine. (names, own));
        gained = subst (λ (l : List Item). GainsNone any_client items l) (sym items_are) (λ index owner own mine. own);
        lists = ap (λ (v : ObjectsView). v.owners) lost.same;
        objects = λ slots after index owner was is names own mine.
            item_told slots after items new_view.items index
            (objects_told (seen old).state (seen new).state slots after items new_view.items was is lost.objects);
        session_owners = refl;
        sessions = λ slots after was is.
            sessions_over_objects slots after held.sessions.items (rest_over_objects (seen old).state (seen new).state slots after keeps.rest was is);
        persist = persist_over_objects (seen old).state (seen new).state keeps.rest;
        settled = settled_over_objects (seen old).state (seen new).state held (record { objects = new_view; sessions = held.sessions })
            keeps.rest refl lost.stand settled;
        vacant = λ some. ap (λ (l : List Item). list_any is_vacant l) items_are ∙ some;
        gone = loses_gone held (record { objects = new_view; sessions = held.sessions }) loses;
        orphans = omega (arith, fewer);
        made_for = record { objects = ap (λ (v : ObjectsView). v.contexts) lost.same; sessions = refl };
        slots = ap (λ (v : ObjectsView). v.slots) lost.same;
        numbers = refl;
        left = refl;
        length_is = ap (λ (l : List Item). length l) items_are;
      };
      objects = lost.same;
      sessions = λ number mine. refl;
      loses = loses;
      gap = omega arith;
      still = λ none. absurd (omega (arith, fewer, none));
    }

-- the last of them
pub last_of : (left : List ℕ) → 1 ≤ length left → (rest : List ℕ) × (slot : ℕ) × (left ≡ rest ++ slot ∷ [])
last_of [] some = absurd (omega arith)
last_of (slot ∷ []) some = ([], slot, refl)
last_of (first ∷ slot ∷ left) some =
    let last = last_of (slot ∷ left) (omega arith) in (first ∷ last.0, last.1, ap (λ (l : List ℕ). first ∷ l) last.2)

-- ---- an object of a client

-- each other object stays
pub dropped_object : (old new : Option SlotState) (items new_items : List Item) (item index : ℕ) (slots after : SlotState)
    → objects_of new new_items ≡ without_object item (objects_of old items) → new_items ≡ set items item no_item
    → old ≡ Some slots → new ≡ Some after → index < length items → index ≢ item
    → item_object after (item_at (set items item no_item) index) ≡ item_object slots (item_at items index)
dropped_object old new items new_items item index slots after same are is_old is_new inside apart =
    let told : map (λ i. item_object after i) new_items ≡ set (map (λ i. item_object slots i) items) item None =
    some_same (
    ap (λ (s : Option SlotState). objects_of s new_items) (sym is_new) ∙ same
    ∙ ap (λ (s : Option SlotState). without_object item (objects_of s items)) is_old
    ) in
    sym (get_or-map (λ (i : Item). item_object after i) (set items item no_item) index no_item None
    (omega (arith, inside, length-set items item no_item)))
    ∙ ap (λ (objects : List (Option Object)). get_or objects index None)
    (ap (λ (l : List Item). map (λ i. item_object after i) l) (sym are) ∙ told)
    ∙ get_or-set_other (map (λ (i : Item). item_object slots i) items) item index None None apart
    ∙ get_or-map (λ (i : Item). item_object slots i) items index no_item None inside
