-- How the objects stand over a call that changes sessions alone, and the sessions over one that changes objects alone.
use Rattle.std.proofs.Common.{◌≡◌, ℕ, Bool, List, [], ◌∷◌, get_or, map, refl, ap, sym, ◌∙◌, subst}
use Rattle.std.specs.Prelude.{◌+◌, ◌<◌, Option, Some, None, IfSome, is_some}
use Rattle.tab_spec.specs.Object.{Object}
use Rattle.tab_spec.specs.Session.{Session}
use Rattle.device_spec.specs.Slots.{IsSlots, SessionPlace, SlotState, gap_of, inactive, object_at}
use Rattle.device_port.specs.Device.{Seen}
use Rattle.object_swap.specs.Items as objects
use Rattle.object_swap.specs.Items.{Item, ItemStands, ObjectsStand, ObjectsView, item_at, item_object, taken, without_objects}
use Rattle.session_swap.specs.Items as sessions
use Rattle.session_swap.specs.Items.{AreAlike, HasGapRoom, Holder, SessionsStand, SessionsView, holder_of, holders, item_session, renewal_gap, without_sessions}
use Rattle.session_swap.specs.declared.TheConstants.{NEEDED_MOST}
use Rattle.session_swap.proofs.Standing.{alike_same, stands_changed}
use Rattle.world_laws.proofs.Histories.{each-weaker}
use Rattle.world_spec.specs.World.{Owned}
use Rattle.client_machine.specs.declared.held.Held.{Held}
use Rattle.client_machine.specs.Moves.{Keeps, KeepsObjectsOf, KeepsPersist}
use Rattle.client_machine.specs.Settled.{IsSettled, Settled, owned_by_client, owned_in, sessions_in}
use Rattle.client_machine.specs.Tables.{OwnedHandle, objects_in, owned_handle, owned_handles, place_object, with_owner}

pub some_same : {A : Type 0} {x y : A} → Some x ≡ Some y → x ≡ y
some_same e = cc

-- ---- what is settled

pub objects_settled : (state : Option SlotState) (held : Held) → Settled state held → objects.Stand state held.objects.items held.objects.left
objects_settled None held settled = tt
objects_settled (Some slots) held settled = settled.objects

pub sessions_settled : (state : Option SlotState) (held : Held) → Settled state held → sessions.Stand state held.sessions []
sessions_settled None held settled = tt
sessions_settled (Some slots) held settled = settled.sessions

pub gap_settled : (state : Option SlotState) (held : Held) → Settled state held → HasGapRoom state
gap_settled None held settled = tt
gap_settled (Some slots) held settled = settled.gap

pub settled_at : (state : Option SlotState) (slots : SlotState) (held : Held) → Settled state held → state ≡ Some slots
    → IsSettled slots held
settled_at state slots held settled is = subst (λ (s : Option SlotState). Settled s held) is settled

-- ---- the device but for its sessions

session_told : (state : Option SlotState) → is_some (sessions.rest_of state) ≡ is_some state
session_told None = refl
session_told (Some slots) = refl

pub tells_over_sessions : (old new : Option SlotState) → sessions.rest_of new ≡ sessions.rest_of old → is_some new ≡ is_some old
tells_over_sessions old new same =
    sym (session_told new) ∙ ap (λ (rest : Option SlotState). is_some rest) same ∙ session_told old

pub rest_over_sessions : (old new : Option SlotState) (slots after : SlotState) → sessions.rest_of new ≡ sessions.rest_of old
    → old ≡ Some slots → new ≡ Some after → without_sessions after ≡ without_sessions slots
rest_over_sessions old new slots after same is_old is_new =
    some_same (ap sessions.rest_of (sym is_new) ∙ same ∙ ap sessions.rest_of is_old)

pub keeps_over_sessions : {D : Type 0} (seen : D → Seen) (old new : D)
    → sessions.KeepsRest seen old new → Keeps seen old new
keeps_over_sessions seen old new keeps = record {
  base_is = keeps.base_is;
  tells = tells_over_sessions (seen old).state (seen new).state keeps.rest;
  count = keeps.count;
}

pub persist_over_sessions : (old new : Option SlotState) → sessions.rest_of new ≡ sessions.rest_of old → KeepsPersist old new
persist_over_sessions old new same =
    λ slots after is_old is_new.
    ap (λ (s : SlotState). s.persist) (rest_over_sessions old new slots after same is_old is_new)

pub object_counter_over_sessions : (old new : Option SlotState) → sessions.rest_of new ≡ sessions.rest_of old
    → objects.counter_of new ≡ objects.counter_of old
object_counter_over_sessions None None same = refl
object_counter_over_sessions None (Some after) same = absurd cc
object_counter_over_sessions (Some slots) None same = absurd cc
object_counter_over_sessions (Some slots) (Some after) same = ap (λ (s : SlotState). s.object_counter) (some_same same)

object_seen : (slots : SlotState) (slot : Option ℕ) (context : Option (List ℕ))
    → object_at (without_sessions slots) slot context ≡ object_at slots slot context
object_seen slots None None = refl
object_seen slots None (Some bytes) = refl
object_seen slots (Some slot) context = refl

object_kept : (slots after : SlotState) (slot : Option ℕ) (context : Option (List ℕ))
    → without_sessions after ≡ without_sessions slots → object_at after slot context ≡ object_at slots slot context
object_kept slots after slot context same =
    sym (object_seen after slot context) ∙ ap (λ (s : SlotState). object_at s slot context) same ∙ object_seen slots slot context

-- each object stays
pub object_over_sessions : (slots after : SlotState) (item : Item) → without_sessions after ≡ without_sessions slots
    → item_object after item ≡ item_object slots item
object_over_sessions slots after item same = object_kept slots after item.slot item.blob same

pub objects_over_sessions : (old new : Option SlotState) (whose : ℕ → Bool) (items : List Item)
    → sessions.rest_of new ≡ sessions.rest_of old → KeepsObjectsOf whose old new items items
objects_over_sessions old new whose items same =
    λ slots after index owner is_old is_new names own mine.
    object_over_sessions slots after (item_at items index) (rest_over_sessions old new slots after same is_old is_new)

place_over_sessions : (slots after : SlotState) (items : List Item) (place : Option ℕ)
    → without_sessions after ≡ without_sessions slots → place_object after items place ≡ place_object slots items place
place_over_sessions slots after items None same = refl
place_over_sessions slots after items (Some index) same = object_over_sessions slots after (item_at items index) same

pub table_over_sessions : (slots after : SlotState) (items : List Item) (table : List (Option ℕ))
    → without_sessions after ≡ without_sessions slots → objects_in after items table ≡ objects_in slots items table
table_over_sessions slots after items [] same = refl
table_over_sessions slots after items (place ∷ table) same =
    ap (λ (o : Option Object). o ∷ objects_in after items table) (place_over_sessions slots after items place same)
    ∙ ap (λ (l : List (Option Object)). place_object slots items place ∷ l) (table_over_sessions slots after items table same)

-- and all stand
pub stand_over_sessions : (slots after : SlotState) (items : List Item) (others : List ℕ)
    → without_sessions after ≡ without_sessions slots → IsSlots after → ObjectsStand slots items others → ObjectsStand after items others
stand_over_sessions slots after items others same sound stand = record {
  started = ap (λ (s : SlotState). s.started) same ∙ stand.started;
  sound = sound;
  each = each-weaker (λ (item : Item). ItemStands slots item) (λ (item : Item). ItemStands after item) items
      (λ item stands. record {
        there = λ some. ap (λ (o : Option Object). is_some o) (object_over_sessions slots after item same) ∙ stands.there some;
        beside = λ slot blob.
            object_kept slots after None item.blob same ∙ stands.beside slot blob
            ∙ sym (object_over_sessions slots after item same);
      })
      stand.each;
  owned = λ n. stand.owned n ∙ sym (ap (λ (s : SlotState). taken s n) same);
}

pub settled_over_sessions : (old new : Option SlotState) (held new_held : Held) → sessions.rest_of new ≡ sessions.rest_of old
    → new_held.objects ≡ held.objects → sessions.Stand new new_held.sessions [] → HasGapRoom new
    → Settled old held → Settled new new_held
settled_over_sessions old None held new_held same view stand room settled = tt
settled_over_sessions None (Some after) held new_held same view stand room settled = absurd cc
settled_over_sessions (Some slots) (Some after) held new_held same view stand room settled = record {
  objects = subst (λ (v : ObjectsView). ObjectsStand after v.items v.left) (sym view)
      (stand_over_sessions slots after held.objects.items held.objects.left (some_same same) stand.sound settled.objects);
  sessions = stand;
  gap = room;
}

-- ---- the device but for its objects

object_told : (state : Option SlotState) → is_some (objects.rest_of state) ≡ is_some state
object_told None = refl
object_told (Some slots) = refl

pub tells_over_objects : (old new : Option SlotState) → objects.rest_of new ≡ objects.rest_of old → is_some new ≡ is_some old
tells_over_objects old new same =
    sym (object_told new) ∙ ap (λ (rest : Option SlotState). is_some rest) same ∙ object_told old

pub rest_over_objects : (old new : Option SlotState) (slots after : SlotState) → objects.rest_of new ≡ objects.rest_of old
    → old ≡ Some slots → new ≡ Some after → without_objects after ≡ without_objects slots
rest_over_objects old new slots after same is_old is_new =
    some_same (ap objects.rest_of (sym is_new) ∙ same ∙ ap objects.rest_of is_old)

pub keeps_over_objects : {D : Type 0} (seen : D → Seen) (old new : D)
    → objects.KeepsRest seen old new → Keeps seen old new
keeps_over_objects seen old new keeps = record {
  base_is = keeps.base_is;
  tells = tells_over_objects (seen old).state (seen new).state keeps.rest;
  count = keeps.count;
}

pub persist_over_objects : (old new : Option SlotState) → objects.rest_of new ≡ objects.rest_of old → KeepsPersist old new
persist_over_objects old new same =
    λ slots after is_old is_new.
    ap (λ (s : SlotState). s.persist) (rest_over_objects old new slots after same is_old is_new)

pub counter_over_objects : (old new : Option SlotState) → objects.rest_of new ≡ objects.rest_of old
    → sessions.counter_of new ≡ sessions.counter_of old
counter_over_objects None None same = refl
counter_over_objects None (Some after) same = absurd cc
counter_over_objects (Some slots) None same = absurd cc
counter_over_objects (Some slots) (Some after) same = ap (λ (s : SlotState). s.counter) (some_same same)

abbrev IsBelow : SlotState → Type 0
IsBelow slots = gap_of slots < renewal_gap slots.numbers + NEEDED_MOST

pub gap_over_objects : (old new : Option SlotState) → objects.rest_of new ≡ objects.rest_of old → IfSome old (λ slots. IsBelow slots) → IfSome new (λ slots. IsBelow slots)
gap_over_objects old None same less = tt
gap_over_objects None (Some after) same less = absurd cc
gap_over_objects (Some slots) (Some after) same less = subst IsBelow (sym (some_same same)) less

pub narrow_over_objects : (old new : Option SlotState) → objects.rest_of new ≡ objects.rest_of old → sessions.IsNarrow old → sessions.IsNarrow new
narrow_over_objects old None same narrow = tt
narrow_over_objects None (Some after) same narrow = absurd cc
narrow_over_objects (Some slots) (Some after) same narrow =
    subst (λ (s : SlotState). sessions.IsNarrow (Some s)) (sym (some_same same)) narrow

session_seen : (slots : SlotState) (item : Option sessions.Item) → item_session (without_objects slots) item ≡ item_session slots item
session_seen slots None = refl
session_seen slots (Some item) = refl

-- each session stays
pub session_over_objects : (slots after : SlotState) (item : Option sessions.Item) → without_objects after ≡ without_objects slots
    → item_session after item ≡ item_session slots item
session_over_objects slots after item same =
    sym (session_seen after item) ∙ ap (λ (s : SlotState). item_session s item) same ∙ session_seen slots item

-- and all stand
pub stand_over_objects : (slots after : SlotState) (view : SessionsView) (others : List ℕ)
    → without_objects after ≡ without_objects slots → IsSlots after → SessionsStand slots view others → SessionsStand after view others
stand_over_objects slots after view others same sound stand =
    let places : after.sessions ≡ slots.sessions = ap (λ (s : SlotState). s.sessions) same in
    stands_changed slots after view others stand (ap (λ (s : SlotState). s.started) same ∙ stand.started) sound
    (ap (λ (s : SlotState). s.counter) same) (ap (λ (s : SlotState). s.persist.seed) same) (ap (λ (s : SlotState). s.numbers) same)
    (λ number.
    subst (λ (l : List SessionPlace). AreAlike (get_or slots.sessions number inactive) (get_or l number inactive)) (sym places)
    (alike_same (get_or slots.sessions number inactive)))

pub settled_over_objects : (old new : Option SlotState) (held new_held : Held) → objects.rest_of new ≡ objects.rest_of old
    → new_held.sessions ≡ held.sessions → objects.Stand new new_held.objects.items new_held.objects.left → Settled old held → Settled new new_held
settled_over_objects old None held new_held same view stand settled = tt
settled_over_objects None (Some after) held new_held same view stand settled = absurd cc
settled_over_objects (Some slots) (Some after) held new_held same view stand settled =
    let rest : without_objects after ≡ without_objects slots = some_same same in
    record {
      objects = stand;
      sessions = subst (λ (v : SessionsView). SessionsStand after v []) (sym view)
          (stand_over_objects slots after held.sessions [] rest stand.sound settled.sessions);
      gap = subst (λ (s : SlotState). HasGapRoom (Some s)) (sym rest) settled.gap;
    }

-- ---- whose sessions there are

-- of whose a session is and what it is
abbrev owned_from : Option Holder → Option Session → Option Owned
owned_from None found = None
owned_from (Some holder) found = owned_by_client holder.client holder.handle holder.handed found

owned_is : (slots : SlotState) (item : Option sessions.Item) → owned_in slots item ≡ owned_from (holder_of item) (item_session slots item)
owned_is slots None = refl
owned_is slots (Some item) = refl

pub owned_same : (slots after : SlotState) (item new_item : Option sessions.Item) → holder_of new_item ≡ holder_of item
    → item_session after new_item ≡ item_session slots item → owned_in after new_item ≡ owned_in slots item
owned_same slots after item new_item holder session =
    owned_is after new_item ∙ ap (λ (h : Option Holder). owned_from h (item_session after new_item)) holder
    ∙ ap (λ (s : Option Session). owned_from (holder_of item) s) session ∙ sym (owned_is slots item)

-- sessions that stay, and whose they are, are in the world what they were
pub sessions_same : (slots after : SlotState) (items new_items : List (Option sessions.Item)) → holders new_items ≡ holders items
    → map (λ item. item_session after item) new_items ≡ map (λ item. item_session slots item) items
    → sessions_in after new_items ≡ sessions_in slots items
sessions_same slots after [] [] holder session = refl
sessions_same slots after [] (new_item ∷ new_items) holder session = absurd cc
sessions_same slots after (item ∷ items) [] holder session = absurd cc
sessions_same slots after (item ∷ items) (new_item ∷ new_items) holder session =
    let first : holder_of new_item ≡ holder_of item = cc in
    let rest : holders new_items ≡ holders items = cc in
    let own : item_session after new_item ≡ item_session slots item = cc in
    let others : map (λ item. item_session after item) new_items ≡ map (λ item. item_session slots item) items = cc in
    ap (λ (o : Option Owned). o ∷ sessions_in after new_items) (owned_same slots after item new_item first own)
    ∙ ap (λ (l : List (Option Owned)). owned_in slots item ∷ l) (sessions_same slots after items new_items rest others)

pub sessions_over_objects : (slots after : SlotState) (items : List (Option sessions.Item)) → without_objects after ≡ without_objects slots
    → sessions_in after items ≡ sessions_in slots items
sessions_over_objects slots after [] same = refl
sessions_over_objects slots after (item ∷ items) same =
    ap (λ (o : Option Owned). o ∷ sessions_in after items)
    (owned_same slots after item item refl (session_over_objects slots after item same))
    ∙ ap (λ (l : List (Option Owned)). owned_in slots item ∷ l) (sessions_over_objects slots after items same)

-- the same of all sessions, where the device tells its state
pub sessions_kept : (old new : Option SlotState) (items new_items : List (Option sessions.Item))
    → sessions.KeepsSessions old new items new_items → (slots after : SlotState) → old ≡ Some slots → new ≡ Some after
    → sessions_in after new_items ≡ sessions_in slots items
sessions_kept old new items new_items keeps = λ slots after is_old is_new.
    sessions_same slots after items new_items keeps.holders
    (some_same (
    ap (λ (s : Option SlotState). sessions.sessions_of s new_items) (sym is_new) ∙ keeps.sessions
    ∙ ap (λ (s : Option SlotState). sessions.sessions_of s items) is_old
    ))

abbrev handle_from : Option Holder → Option OwnedHandle
handle_from None = None
handle_from (Some holder) = with_owner holder.client holder.handle holder.handed

handle_is : (item : Option sessions.Item) → owned_handle item ≡ handle_from (holder_of item)
handle_is None = refl
handle_is (Some item) = refl

pub owned_handles_same : (items new_items : List (Option sessions.Item)) → holders new_items ≡ holders items
    → owned_handles new_items ≡ owned_handles items
owned_handles_same [] [] holder = refl
owned_handles_same [] (new_item ∷ new_items) holder = absurd cc
owned_handles_same (item ∷ items) [] holder = absurd cc
owned_handles_same (item ∷ items) (new_item ∷ new_items) holder =
    let first : holder_of new_item ≡ holder_of item = cc in
    let rest : holders new_items ≡ holders items = cc in
    ap (λ (h : Option OwnedHandle). h ∷ owned_handles new_items) (handle_is new_item ∙ ap handle_from first ∙ sym (handle_is item))
    ∙ ap (λ (l : List (Option OwnedHandle)). owned_handle item ∷ l) (owned_handles_same items new_items rest)
