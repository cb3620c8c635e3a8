-- What a client's command did, from before all was made ready for it to after what it made has an owner.
use Rattle.std.proofs.Common.{◌≡◌, ◌⊎◌, ◌+◌, ◌-◌, ◌<◌, ◌≤◌, ℕ, zero, suc, Bool, true, false, List, [], ◌∷◌, ◌++◌, length, drop, get_or, set, Fits, w8, refl, ap, sym, ◌∙◌, subst, arith, inl, inr}
use Rattle.std.proofs.lemmas.Bool.{and_parts, true≢false}
use Rattle.std.specs.Prelude.{◌==◌, ◌&&◌, ◌||◌, not, Option, Some, None, is_some, IfSome, Result, Ok, Err, if◌then◌else◌}
use Rattle.std.specs.List.{AllByRecursion, count_by, filter}
use Rattle.tab_spec.specs.declared.TheConstants.{CC_CREATE, CONTEXT_LIMIT, HEADER_BYTES, HT_TRANSIENT, RC_OBJECT_MEMORY, RC_SUCCESS, ST_SESSIONS, TRANSIENT_FIRST}
use Rattle.tab_spec.specs.declared.Admitted.{Admitted}
use Rattle.tab_spec.specs.declared.numbers.Numbers.{Numbers}
use Rattle.tab_spec.specs.Admission.{client_admitted, is_session_handle, object_too_many}
use Rattle.tab_spec.specs.Frame.{code_of, is_frame}
use Rattle.tab_spec.specs.Reply.{with_response_handle}
use Rattle.tab_spec.specs.Shape.{makes_object_by, needs_slot, number_of_session, octet_of}
use Rattle.tab_spec.specs.declared.contexts.ContextLimits.{ContextLimits}
use Rattle.tab_spec.specs.declared.contexts.TheConstants.{PROFILE_CONTEXTS}
use Rattle.tab_laws.proofs.Handled.{client_is, passed}
use Rattle.effect_spec.specs.Operands.{command_auth}
use Rattle.effect_spec.specs.SessionAuths.{continues}
use Rattle.device_spec.specs.Answers.{IsRight, profile_takes, takes}
use Rattle.device_spec.specs.Slots.{SlotState, Step, slot_step}
use Rattle.device_port.specs.Device.{Answered, Seen, asked_of, last_of}
use Rattle.device_port.specs.Own.{HasCause}
use Rattle.device_port.specs.Use.{without_one}
use Rattle.device_port.specs.declared.own.SwapError.{SwapError}
use Rattle.client_laws.specs.Ready.{ends_session, is_sent, named_sessions, sent_for, starts_session, tells_object, tells_session}
use Rattle.client_laws.proofs.Commands.{command_frame, command_makes, command_object, command_session}
use Rattle.client_laws.proofs.NameSessions.{named_none, named_own}
use Rattle.client_laws.proofs.Steps.{looked_up}
use Rattle.object_swap.specs.Items as objects
use Rattle.object_swap.specs.Items.{Item, Names, ObjectsView, handle_in, item_at, item_object, new_item}
use Rattle.session_swap.specs.Items as sessions
use Rattle.session_swap.specs.Items.{Rise, SessionsView, gap_kept, is_held, is_owner, is_user, loaded_items, numbers_along, owner_in, renewal_gap, saved_by_client}
use Rattle.history_spec.specs.Table.{held_under, is_full, next_handle, put_least}
use Rattle.world_spec.specs.World.{ClientState, client_step}
use Rattle.session_swap.proofs.Moved.{stands_alike}
use Rattle.session_swap.proofs.Rising.{rise_without}
use Rattle.world_laws.proofs.Histories.{each-weaker}
use Rattle.history_laws.proofs.Tables.{held_all, mapped}
use Rattle.client_machine.specs.declared.held.Held.{Held}
use Rattle.client_machine.specs.Costs.{SendsUpTo, StaysIn, new_bound, places_of, renewal_bound}
use Rattle.client_machine.specs.Moves.{Adopts, AreAllActive, CarriesOut, CountsOnBy, FailsAtLast, GainsNone, HasRoomFor, IsAtHand, IsCalm, IsPrepared, IsSent, IsTaken, KeepsOwners, MayAdopt, MayBegin, MayStart, Moves, Prepares, Ran, Serves, StaysAs, StepsAs, UsesNamed, any_client, order_after, order_made, client_reply, first_handle, loads_kept, number_taken, objects_told, other_than, pick_of, saved_list_after, saved_number, saves_one, saves_session, sessions_held_after, told_handle, SentBefore}
use Rattle.client_machine.specs.Settled.{AreBelow, Sequences, Settled, call_contexts, orphan_count}
use Rattle.client_machine.specs.Tables.{AreOpenOwners, IsOpenOwner, IsPlaced, IsTable, IsTablePlace, OwnedHandle, device_handle, handle_or, is_open, objects_in, owned_handles, place_object, slot_handle, table_with, tables_seen, with_owner}
use Rattle.client_machine.proofs.Adopting.{adopted_gained, adopted_item, adopted_length, adopted_loads, adopted_new, adopted_others, adopted_table}
use Rattle.client_machine.proofs.Handing.{handed_frame, slice_bytes, taken_frame}
use Rattle.client_machine.proofs.Orphans.{zero_set}
use Rattle.client_machine.proofs.Ready.{MayRun, sent_over}
use Rattle.client_machine.proofs.Doing.{all_taken, runs_else, runs_then}
use Rattle.client_machine.proofs.Running.{Runs, held_after}
use Rattle.client_machine.proofs.Loading.{held_and_orphans}
use Rattle.client_machine.proofs.Prepared.{counts_then}
use Rattle.client_machine.proofs.PreparedSessions.{owner_kept}
use Rattle.client_machine.proofs.Sending.{taken_more, taken_right}
use Rattle.client_machine.proofs.Started.{none_told}
use Rattle.client_machine.proofs.Staying.{KeepsLoaded, KeepsResidents, loaded_after, one_resident_more, residents_same, residents_with, stays_over}
use Rattle.client_machine.proofs.Keeping.{IsProfile}

some_of : {A : Type 0} (x : Option A) → is_some x ≡ true → (y : A) × (x ≡ Some y)
some_of None there = absurd cc
some_of (Some y) there = (y, refl)

-- ---- whose sessions are

-- what a client may name depends on whose the sessions are
pub admitted_over : (contexts : ContextLimits) (client : ℕ) (table : List (Option ℕ)) (items new_items : List (Option sessions.Item)) (bytes : List ℕ) → owned_handles new_items ≡ owned_handles items
    → client_admitted (tables_seen contexts client table new_items) bytes ≡ client_admitted (tables_seen contexts client table items) bytes
admitted_over contexts client table items new_items bytes same =
    looked_up (tables_seen contexts client table new_items) (tables_seen contexts client table items) bytes (λ handle. refl)
    (λ handle. ap (is_user client) (owner_kept items new_items handle same)) refl refl

abbrev IsOpenHandle : List ℕ → Option OwnedHandle → Type 0
IsOpenHandle present handle = IfSome handle (λ o. IfSome o.0 (λ client. is_open client present ≡ true))

open_by : (present : List ℕ) (owner : Option ℕ) (handle : ℕ) (handed : Option (List ℕ)) → IfSome owner (λ client. is_open client present ≡ true)
    → IsOpenHandle present (with_owner owner handle handed)
open_by present None handle None is = tt
open_by present None handle (Some context) is = tt
open_by present (Some client) handle handed is = is

open_from : (present : List ℕ) (owner : Option ℕ) (handle : ℕ) (handed : Option (List ℕ)) → IsOpenHandle present (with_owner owner handle handed)
    → IfSome owner (λ client. is_open client present ≡ true)
open_from present None handle handed is = tt
open_from present (Some client) handle handed is = is

open_handles : (present : List ℕ) (items : List (Option sessions.Item)) → AreOpenOwners present items → AllByRecursion (λ o. IsOpenHandle present o) (owned_handles items)
open_handles present [] all = tt
open_handles present (None ∷ items) all = (tt, open_handles present items all.1)
open_handles present (Some item ∷ items) all = (open_by present item.client item.handle item.handed all.0, open_handles present items all.1)

open_items : (present : List ℕ) (items : List (Option sessions.Item)) → AllByRecursion (λ o. IsOpenHandle present o) (owned_handles items) → AreOpenOwners present items
open_items present [] all = tt
open_items present (None ∷ items) all = (tt, open_items present items all.1)
open_items present (Some item ∷ items) all = (open_from present item.client item.handle item.handed all.0, open_items present items all.1)

pub open_same : (present : List ℕ) (items new_items : List (Option sessions.Item)) → owned_handles new_items ≡ owned_handles items
    → AreOpenOwners present items → AreOpenOwners present new_items
open_same present items new_items same all =
    open_items present new_items (subst (λ (l : List (Option OwnedHandle)). AllByRecursion (λ o. IsOpenHandle present o) l) (sym same) (open_handles present items all))

pub each_set : {X : Type 0} (P : X → Type 0) (xs : List X) (n : ℕ) (y : X) → AllByRecursion P xs → P y → AllByRecursion P (set xs n y)
each_set P [] n y all this = tt
each_set P (x ∷ xs) zero y all this = (this, all.1)
each_set P (x ∷ xs) (suc n) y all this = (all.0, each_set P xs n y all.1 this)

pub each_at : {X : Type 0} (P : Option X → Type 0) (xs : List (Option X)) (n : ℕ) → AllByRecursion P xs → P None → P (get_or xs n None)
each_at P [] n all none = none
each_at P (x ∷ xs) zero all none = all.0
each_at P (x ∷ xs) (suc n) all none = each_at P xs n all.1 none

after_by : (P : List (Option sessions.Item) → Type 0) (starts ends saves : Bool) (items started ended saved : List (Option sessions.Item)) → P items → P started → P ended
    → P saved → P (if starts then started else if ends then ended else if saves then saved else items)
after_by P true ends saves items started ended saved all new gone out = new
after_by P false true saves items started ended saved all new gone out = gone
after_by P false false true items started ended saved all new gone out = out
after_by P false false false items started ended saved all new gone out = all

-- what holds of the sessions that a command leaves, where it holds of those before it
pub each_after : (P : List (Option sessions.Item) → Type 0) (client : ℕ) (a : Admitted) (answer : List ℕ) (items : List (Option sessions.Item)) → P items
    → ((n : ℕ) (item : Option sessions.Item) → IfSome item (λ item. item.client ≡ Some client) → P (set items n item))
    → ((n : ℕ) (context : List ℕ) → P (set items n (saved_by_client context (sessions.item_at items n)))) → P (sessions_held_after client a answer items)
each_after P client a answer items all set_one save_one =
    after_by P (tells_session a answer) (ends_session a answer) (saves_session a answer) items _ _ _ all
    (set_one (number_of_session (told_handle answer)) (Some (sessions.new_item client (told_handle answer))) refl)
    (set_one (number_of_session (command_auth a.auths).session) None tt)
    (save_one (number_of_session (first_handle a)) (drop HEADER_BYTES answer))

saved_open : (present context : List ℕ) (item : Option sessions.Item) → IsOpenOwner present item → IsOpenOwner present (saved_by_client context item)
saved_open present context None is = tt
saved_open present context (Some item) is = is

own_open : (present : List ℕ) (client : ℕ) (item : Option sessions.Item) → is_open client present ≡ true → IfSome item (λ item. item.client ≡ Some client)
    → IsOpenOwner present item
own_open present client None is own = tt
own_open present client (Some item) is own = subst (λ (owner : Option ℕ). IfSome owner (λ client. is_open client present ≡ true)) (sym own) is

pub open_after : (present : List ℕ) (client : ℕ) (a : Admitted) (answer : List ℕ) (items : List (Option sessions.Item)) → is_open client present ≡ true
    → AreOpenOwners present items → AreOpenOwners present (sessions_held_after client a answer items)
open_after present client a answer items is all =
    each_after (AreOpenOwners present) client a answer items all
    (λ n item own. each_set (λ item. IsOpenOwner present item) items n item all (own_open present client item is own))
    (λ n context.
    each_set (λ item. IsOpenOwner present item) items n (saved_by_client context (sessions.item_at items n)) all
    (saved_open present context (sessions.item_at items n) (each_at (λ item. IsOpenOwner present item) items n all tt)))

-- ---- orphans

own_no_orphan : (client : ℕ) (item : Option sessions.Item) → IfSome item (λ item. item.client ≡ Some client) → sessions.is_orphan item ≡ false
own_no_orphan client None own = refl
own_no_orphan client (Some item) own = ap (λ (owner : Option ℕ). not (is_some owner) && not (is_some item.handed)) own

handed_no_orphan : (owned : Bool) → (not owned && false) ≡ false
handed_no_orphan true = refl
handed_no_orphan false = refl

saved_no_orphan : (context : List ℕ) (item : Option sessions.Item) → sessions.is_orphan (saved_by_client context item) ≡ false
saved_no_orphan context None = refl
saved_no_orphan context (Some item) = handed_no_orphan (is_some item.client)

pub none_after : (client : ℕ) (a : Admitted) (answer : List ℕ) (items : List (Option sessions.Item)) → count_by sessions.is_orphan items ≡ 0
    → count_by sessions.is_orphan (sessions_held_after client a answer items) ≡ 0
none_after client a answer items none =
    each_after (λ items. count_by sessions.is_orphan items ≡ 0) client a answer items none
    (λ n item own. zero_set sessions.is_orphan items n item (own_no_orphan client item own) none)
    (λ n context.
    zero_set sessions.is_orphan items n (saved_by_client context (sessions.item_at items n))
    (saved_no_orphan context (sessions.item_at items n)) none)

-- ---- before the command

place_kept : (client : ℕ) (items new_items : List Item) → KeepsOwners any_client items new_items → (place : Option ℕ) → IsTablePlace client items place
    → IsTablePlace client new_items place
place_kept client items new_items keeps None is = tt
place_kept client items new_items keeps (Some index) is = keeps index client is.0 is.1 refl

place_stays : (slots after : SlotState) (items new_items : List Item) (client : ℕ)
    → ((index : ℕ) → Names items index → (item_at items index).client ≡ Some client → item_object after (item_at new_items index) ≡ item_object slots (item_at items index))
    → (place : Option ℕ) → IsTablePlace client items place → place_object after new_items place ≡ place_object slots items place
place_stays slots after items new_items client keeps None is = refl
place_stays slots after items new_items client keeps (Some index) is = keeps index is.0 is.1

pub prepares_table : {D : Type 0} {most : ℕ} {seen : D → Seen} {old new : D} {held new_held : Held}
    (client : ℕ) (table : List (Option ℕ)) → Prepares most seen old new held new_held → IsTable held.objects.items client table
    → IsTable new_held.objects.items client table
prepares_table {held = held} {new_held = new_held} client table prepares is = record {
  named = each-weaker (λ place. IsTablePlace client held.objects.items place) (λ place. IsTablePlace client new_held.objects.items place) table
      (place_kept client held.objects.items new_held.objects.items prepares.owners) is.named;
  apart = is.apart;
  all = λ index own. is.all index (prepares.gained index client own refl);
  few = is.few;
  short = is.short;
}

pub prepares_moves : {D : Type 0} {most : ℕ} {seen : D → Seen} {old new : D} {held new_held : Held}
    (client : ℕ) (table : List (Option ℕ)) → most ≤ 100 → Prepares most seen old new held new_held
    → IsTable held.objects.items client table → Moves seen client old new held new_held table
prepares_moves {held = held} {new_held = new_held} client table few prepares is = record {
  keeps = prepares.keeps;
  settled = prepares.settled;
  counts = record {
    objects_rise = prepares.counts.objects_rise;
    sessions_rise = prepares.counts.sessions_rise;
    objects_on = omega (arith, few, prepares.counts.objects_on);
    sessions_on = omega (arith, few, prepares.counts.sessions_on);
  };
  others = λ index owner names own mine. prepares.owners index owner names own refl;
  gained = λ index owner own mine. prepares.gained index owner own refl;
  other_objects = λ slots after index owner was now names own mine. prepares.objects slots after index owner was now names own refl;
  own_table = prepares_table client table prepares is;
  lists = prepares.lists;
  owners = λ present open_here all. open_same present held.sessions.items new_held.sessions.items prepares.session_owners all;
  orphans = prepares.orphans;
  made_for = prepares.made_for;
  slots = prepares.slots;
  numbers = prepares.numbers;
  left = omega (arith, ap length prepares.left);
  length_is = prepares.length_is;
}

pub prepares_stays : {D : Type 0} {most : ℕ} {seen : D → Seen} {old new : D} {held new_held : Held}
    (client : ℕ) (table : List (Option ℕ)) → Prepares most seen old new held new_held → IsTable held.objects.items client table
    → StaysAs (seen old).state (seen new).state held new_held table
prepares_stays {seen = seen} {old = old} {new = new} {held = held} {new_held = new_held} client table prepares is =
    λ slots after least was now.
    let objects_are : objects_in after new_held.objects.items table ≡ objects_in slots held.objects.items table =
    mapped (λ place. place_object slots held.objects.items place) (λ place. place_object after new_held.objects.items place) table
    (each-weaker (λ place. IsTablePlace client held.objects.items place)
    (λ place. place_object after new_held.objects.items place ≡ place_object slots held.objects.items place) table
    (place_stays slots after held.objects.items new_held.objects.items client (λ index names own. prepares.objects slots after index client was now names own refl))
    is.named) in
    λ i. record {
      persist = prepares.persist slots after was now i;
      most = ap (λ (n : Numbers). n.active) prepares.numbers i;
      objects = objects_are i;
      sessions = prepares.sessions slots after was now i;
      left = prepares.left i;
      object_sequence = least.object;
      session_sequence = least.session;
    }

-- a call that failed, after no more than such steps
pub serves_failed : {contexts : ContextLimits} {D B : Type 0} {most : ℕ} {seen : D → Seen} {old new : D} {held new_held : Held} {e : SwapError}
    (client : ℕ) (table : List (Option ℕ)) (result : Result B SwapError) → (f : SwapError) × (result ≡ Err f) × (f ≡ e) → most ≤ 100
    → Prepares most seen old new held new_held → IsTable held.objects.items client table → HasCause contexts seen e old new
    → SendsUpTo seen (new_bound (orphan_count held) (gap_kept held.sessions) held.sessions.numbers) old new → FailsAtLast contexts seen old new
    → Serves contexts seen client old new held new_held table table result
serves_failed {contexts = contexts} {B = B} {seen = seen} {old = old} {new = new} {held = held} {new_held = new_held} client table result (f, result_is, same) few prepares is cause costs fails =
    subst (λ (r : Result B SwapError). Serves contexts seen client old new held new_held table table r) (sym result_is)
    (record {
      moves = prepares_moves client table few prepares is;
      right = tt;
      stays = record {
        table_is = refl;
        client = prepares_stays client table prepares is;
        sessions = prepares.session_owners;
        left = prepares.left;
        objects = prepares.owners;
      };
      costs = costs;
      cause = subst (λ (e : SwapError). HasCause contexts seen e old new) (sym same) cause;
      fails = fails;
    })

-- a call that returned where the last one failed
pub serves_again : {contexts : ContextLimits} {D A B : Type 0} {seen : D → Seen} {client : ℕ} {old new : D} {held new_held : Held} {table new_table : List (Option ℕ)} {e : SwapError}
    (result : Result B SwapError) → (f : SwapError) × (result ≡ Err f) × (f ≡ e)
    → Serves {A = A} contexts seen client old new held new_held table new_table (Err e) → Serves contexts seen client old new held new_held table new_table result
serves_again {contexts = contexts} {B = B} {seen = seen} {client = client} {old = old} {new = new} {held = held} {new_held = new_held} {table = table} {new_table = new_table} result (f, result_is, same) serves =
    subst (λ (r : Result B SwapError). Serves contexts seen client old new held new_held table new_table r) (sym result_is) (record {
      moves = serves.moves;
      right = tt;
      stays = serves.stays;
      costs = serves.costs;
      cause = subst (λ (e : SwapError). HasCause contexts seen e old new) (sym same) serves.cause;
      fails = serves.fails;
    })

-- ---- what is sent

full_by : (makes full : Bool) (code : ℕ) → (if makes && full then Some code else None) ≡ None → makes ≡ true → full ≡ false
full_by true true code e makes = absurd cc
full_by true false code e makes = refl
full_by false full code e makes = absurd cc

-- a command that makes an object is admitted where the client may have another
pub not_full : (contexts : ContextLimits) (client : ℕ) (table : List (Option ℕ)) (items : List (Option sessions.Item)) (bytes : List ℕ) (a : Admitted)
    → client_admitted (tables_seen contexts client table items) bytes ≡ Ok a → makes_object_by contexts (Ok a.shape) bytes ≡ true → is_full table ≡ false
not_full contexts client table items bytes a e makes =
    let tables = tables_seen contexts client table items in
    let room : object_too_many tables a.shape bytes ≡ None = (passed tables bytes a (client_is tables bytes a e).whole).given.room in
    full_by (makes_object_by contexts (Ok a.shape) bytes) (is_full table) RC_OBJECT_MEMORY room makes

either_so : (one other : Bool) → other ≡ true → (one || other) ≡ true
either_so true other is = refl
either_so false other is = is

-- and needs a slot
made_needs : (contexts : ContextLimits) (a : Admitted) (bytes : List ℕ) → makes_object_by contexts (Ok a.shape) bytes ≡ true → needs_slot contexts a.shape bytes ≡ true
made_needs contexts a bytes makes = either_so (contexts.create_takes_slot && a.shape.row.code == CC_CREATE) (makes_object_by contexts (Ok a.shape) bytes) makes

-- ---- what is told

pub client_told : (table : List (Option ℕ)) (a : Admitted) (answer : List ℕ) → tells_object a answer ≡ true
    → with_response_handle answer (next_handle table) ≡ client_reply table a answer
client_told table a answer tells =
    ap (λ (told : Bool). if told then with_response_handle answer (next_handle table) else answer) (sym tells)

pub table_told : (table : List (Option ℕ)) (item : ℕ) (a : Admitted) (answer : List ℕ) → tells_object a answer ≡ true
    → put_least item table ≡ table_with table item (tells_object a answer)
table_told table item a answer tells = ap (λ (told : Bool). if told then put_least item table else table) (sym tells)

pub client_plain : (table : List (Option ℕ)) (a : Admitted) (answer : List ℕ) → tells_object a answer ≡ false → answer ≡ client_reply table a answer
client_plain table a answer plain =
    ap (λ (told : Bool). if told then with_response_handle answer (next_handle table) else answer) (sym plain)

pub table_plain : (table : List (Option ℕ)) (item : ℕ) (a : Admitted) (answer : List ℕ) → tells_object a answer ≡ false → table ≡ table_with table item (tells_object a answer)
table_plain table item a answer plain = ap (λ (told : Bool). if told then put_least item table else table) (sym plain)

-- the object that the command names stays where it is
slot_kept : {client handle : ℕ} {items new_items : List Item} {table new_table : List (Option ℕ)} (place : Option ℕ)
    → Adopts client handle items new_items table new_table → IsTablePlace client items place → slot_handle new_items place ≡ slot_handle items place
slot_kept None adopts is = refl
slot_kept (Some index) adopts is = ap (λ (item : Item). handle_in item.slot) (adopted_item index adopts is.0)

adopted_slot : {client handle : ℕ} {items new_items : List Item} {table new_table : List (Option ℕ)} (named : ℕ)
    → Adopts client handle items new_items table new_table → IsTable items client table
    → slot_handle new_items (held_under table named) ≡ slot_handle items (held_under table named)
adopted_slot {client = client} {items = items} {table = table} named adopts is =
    slot_kept (held_under table named) adopts (held_all (λ place. IsTablePlace client items place) table named is.named tt)

pub adopted_placed : {client handle : ℕ} {items new_items : List Item} {table new_table : List (Option ℕ)} (named : ℕ)
    → Adopts client handle items new_items table new_table → IsTable items client table → IsPlaced table items named → IsPlaced table new_items named
adopted_placed named adopts is placed = λ transient.
    ap (λ (found : Option ℕ). is_some found) (adopted_slot named adopts is) ∙ placed transient

pub adopted_device : {client handle : ℕ} {items new_items : List Item} {table new_table : List (Option ℕ)} (named : ℕ)
    → Adopts client handle items new_items table new_table → IsTable items client table
    → device_handle table items named ≡ device_handle table new_items named
adopted_device named adopts is =
    ap (λ (found : Option ℕ). if octet_of named == HT_TRANSIENT then handle_or named found else named) (sym (adopted_slot named adopts is))

-- ---- in every state

place_or_full : (Free : Type 0) (view : SessionsView) → (Free × (loaded_items view.items < view.numbers.loaded)) ⊎ AreAllActive view
    → Free ⊎ (view.numbers.active ≤ count_by is_some view.items)
place_or_full Free view (inl free) = inl free.0
place_or_full Free view (inr taken) = inr taken.full

may_run : {contexts : ContextLimits} (state : Option SlotState) (held : Held) (client : ℕ) (table : List (Option ℕ)) (a : Admitted) (bytes : List ℕ) {command : List ℕ} → Settled state held
    → IsTable held.objects.items client table → client_admitted (tables_seen contexts client table held.sessions.items) bytes ≡ Ok a
    → is_sent contexts a bytes ≡ true → ((i : ℕ) → Fits w8 (get_or bytes i 0)) → IsPrepared contexts state held table a bytes command
    → IsProfile contexts state → objects.counter_of state < CONTEXT_LIMIT → sessions.counter_of state < CONTEXT_LIMIT
    → IfSome state (λ slots. MayRun slots held client table a bytes)
may_run None held client table a bytes settled is e sort all ready profile of_objects of_sessions = tt
may_run {contexts = contexts} (Some slots) held client table a bytes settled is e sort all ready profile of_objects of_sessions = record {
  settled = settled;
  is = is;
  admitted = subst (λ (c : ContextLimits). client_admitted (tables_seen c client table held.sessions.items) bytes ≡ Ok a) profile e;
  sort = subst (λ (c : ContextLimits). is_sent c a bytes ≡ true) profile sort;
  all = slice_bytes bytes all;
  placed = ready.placed;
  loaded_all = ready.sessions.loaded;
  nobodys = omega (arith, ready.nobodys);
  room = λ makes.
      (ready.free (made_needs contexts a bytes (subst (λ (c : ContextLimits). makes_object_by c (Ok a.shape) bytes ≡ true) (sym profile) makes))).0;
  place = λ starts. place_or_full (sessions.AreFree (Some slots) 1) held.sessions (ready.sessions.room starts);
  gap = ready.gap;
  object_numbers = of_objects;
  session_numbers = of_sessions;
}

-- what the command did, where the device tells it
pub record Done (old new : Option SlotState) (held new_held : Held) (client : ℕ) (table new_table : List (Option ℕ)) (a : Admitted) (bytes reply : List ℕ) : Type 0 where
  pub tells : is_some new ≡ is_some old
  pub settled : Settled new new_held
  pub counts : CountsOnBy 1 old new
  pub kept : (slots after : SlotState) (index : ℕ) → old ≡ Some slots → new ≡ Some after → Names held.objects.items index
      → item_object after (item_at new_held.objects.items index) ≡ item_object slots (item_at held.objects.items index)
  pub steps : StepsAs (λ state. client_step client state bytes (pick_of a reply)) old new held new_held table new_table reply

some_same : {A : Type 0} (x y : A) → Some x ≡ Some y → x ≡ y
some_same x y same = cc

pub done_none : (new : Option SlotState) (held new_held : Held) (client : ℕ) (table new_table : List (Option ℕ)) (a : Admitted) (bytes reply : List ℕ) → new ≡ None
    → Done None new held new_held client table new_table a bytes reply
done_none new held new_held client table new_table a bytes reply is =
    subst (λ (new : Option SlotState). Done None new held new_held client table new_table a bytes reply) (sym is)
    (record {
      tells = refl;
      settled = tt;
      counts = record { objects_rise = omega arith; sessions_rise = omega arith; objects_on = omega arith; sessions_on = omega arith };
      kept = λ slots after index was now names. absurd (cc was);
      steps = λ slots after least was now below. absurd (cc was);
    })

runs_same : (slots after one other : SlotState) (held new_held : Held) (client : ℕ) (table new_table : List (Option ℕ)) (a : Admitted) (bytes reply : List ℕ)
    → slots ≡ one → after ≡ other → Runs slots after held new_held client table new_table a bytes reply
    → Runs one other held new_held client table new_table a bytes reply
runs_same slots after one other held new_held client table new_table a bytes reply is also runs =
    subst (λ (other : SlotState). Runs one other held new_held client table new_table a bytes reply) also
    (subst (λ (one : SlotState). Runs one after held new_held client table new_table a bytes reply) is runs)

pub done_some : (slots after : SlotState) (new : Option SlotState) (held new_held : Held) (client : ℕ) (table new_table : List (Option ℕ)) (a : Admitted) (bytes reply : List ℕ)
    → new ≡ Some after → Runs slots after held new_held client table new_table a bytes reply
    → Done (Some slots) new held new_held client table new_table a bytes reply
done_some slots after new held new_held client table new_table a bytes reply is runs =
    subst (λ (new : Option SlotState). Done (Some slots) new held new_held client table new_table a bytes reply) (sym is)
    (record {
      tells = refl;
      settled = runs.settled;
      counts = runs.counts;
      kept = λ one other index was now names.
          (runs_same slots after one other held new_held client table new_table a bytes reply (some_same slots one was) (some_same after other now) runs).kept index names;
      steps = λ one other least was now below.
          (runs_same slots after one other held new_held client table new_table a bytes reply (some_same slots one was) (some_same after other now) runs).step least below;
    })

unsaved : (saves success : Bool) → saves ≡ false → (saves && success) ≡ false
unsaved true success none = absurd (let no = none in cc)
unsaved false success none = refl

-- where the numbers of contexts rise along the first list, they do along the second one
abbrev pub KeepsRise : List ℕ → List ℕ → Type 0
KeepsRise numbers new_numbers = (items : List (Option sessions.Item)) → Rise (numbers_along items numbers) → Rise (numbers_along items new_numbers)

rise_by : (starts ends saves : Bool) (number : ℕ) (numbers more : List ℕ) → saves ≡ false
    → KeepsRise numbers (if starts then numbers else if ends then without_one number numbers else if saves then more else numbers)
rise_by true ends saves number numbers more none items rise = rise
rise_by false true saves number numbers more none items rise = rise_without items number numbers rise
rise_by false false true number numbers more none items rise = absurd (let no = none in cc)
rise_by false false false number numbers more none items rise = rise

-- a command that saves no session takes at most the one that it ended from those that are saved
rise_after : (a : Admitted) (reply : List ℕ) (numbers : List ℕ) → saves_one a ≡ false → KeepsRise numbers (saved_list_after a reply numbers)
rise_after a reply numbers alone =
    rise_by (tells_session a reply) (ends_session a reply) (saves_session a reply) (number_of_session (command_auth a.auths).session) numbers _
    (unsaved (saves_one a) (code_of reply == RC_SUCCESS) alone)

-- the same with other orders of use
abbrev pub in_orders : Held → (used loaded listed : List ℕ) → Held
in_orders held used loaded listed =
    record { objects = record held.objects { order = used }; sessions = record held.sessions { order = loaded; saved = listed } }

settled_in : (state : Option SlotState) (held : Held) (used loaded listed : List ℕ) → KeepsRise held.sessions.saved listed → Settled state held
    → Settled state (in_orders held used loaded listed)
settled_in None held used loaded listed rise settled = tt
settled_in (Some slots) held used loaded listed rise settled = record {
  objects = settled.objects;
  sessions = stands_alike slots held.sessions (record held.sessions { order = loaded; saved = listed }) [] refl refl refl
      (rise held.sessions.items settled.sessions.rise) settled.sessions;
  gap = settled.gap;
}

done_in : {old new : Option SlotState} {held new_held : Held} {client : ℕ} {table new_table : List (Option ℕ)} {a : Admitted} {bytes reply : List ℕ}
    (used loaded listed : List ℕ) → KeepsRise new_held.sessions.saved listed → Done old new held new_held client table new_table a bytes reply
    → Done old new held (in_orders new_held used loaded listed) client table new_table a bytes reply
done_in {new = new} {new_held = new_held} used loaded listed rise done = record {
  tells = done.tells;
  settled = settled_in new new_held used loaded listed rise done.settled;
  counts = done.counts;
  kept = done.kept;
  steps = done.steps;
}

done_else : (state new : Option SlotState) (held : Held) (client : ℕ) (table : List (Option ℕ)) (a : Admitted) (bytes command reply : List ℕ)
    → IfSome state (λ slots. MayRun slots held client table a bytes) → saves_one a ≡ false → command ≡ sent_over bytes a table held.objects.items
    → Answered state command new reply → tells_object a reply ≡ false → Done state new held (held_after held held.objects.items client a reply) client table table a bytes reply
done_else None new held client table a bytes command reply may alone is answered plain =
    done_none new held (held_after held held.objects.items client a reply) client table table a bytes reply answered
done_else (Some slots) new held client table a bytes command reply may alone is answered plain =
    let step : Step = slot_step slots (sent_over bytes a table held.objects.items) in
    let new_is : new ≡ Some step.0 = answered.0 ∙ ap (λ (command : List ℕ). Some (slot_step slots command).0) is in
    let reply_is : reply ≡ step.1 = answered.1 ∙ ap (λ (command : List ℕ). (slot_step slots command).1) is in
    let runs = runs_else slots held client table a bytes may alone (ap (λ (reply : List ℕ). tells_object a reply) (sym reply_is) ∙ plain) in
    done_some slots step.0 new held (held_after held held.objects.items client a reply) client table table a bytes reply new_is
    (subst (λ (reply : List ℕ). Runs slots step.0 held (held_after held held.objects.items client a reply) client table table a bytes reply) (sym reply_is) runs)

done_then : {new_items : List Item} {new_table : List (Option ℕ)} (state new : Option SlotState) (held : Held) (client : ℕ) (table : List (Option ℕ)) (a : Admitted)
    (bytes command reply new_reply : List ℕ) → IfSome state (λ slots. MayRun slots held client table a bytes) → saves_one a ≡ false
    → command ≡ sent_over bytes a table held.objects.items → Answered state command new reply → tells_object a reply ≡ true → Adopts client (told_handle reply) held.objects.items new_items table new_table
    → new_reply ≡ with_response_handle reply (next_handle table) → Done state new held (held_after held new_items client a reply) client table new_table a bytes new_reply
done_then {new_items = new_items} {new_table = new_table} None new held client table a bytes command reply new_reply may alone is answered told adopts new_reply_is =
    done_none new held (held_after held new_items client a reply) client table new_table a bytes new_reply answered
done_then {new_items = new_items} {new_table = new_table} (Some slots) new held client table a bytes command reply new_reply may alone is answered told adopts new_reply_is =
    let step : Step = slot_step slots (sent_over bytes a table held.objects.items) in
    let new_is : new ≡ Some step.0 = answered.0 ∙ ap (λ (command : List ℕ). Some (slot_step slots command).0) is in
    let reply_is : reply ≡ step.1 = answered.1 ∙ ap (λ (command : List ℕ). (slot_step slots command).1) is in
    let runs = runs_then slots held client table a bytes new_reply may alone (ap (λ (reply : List ℕ). tells_object a reply) (sym reply_is) ∙ told)
    (subst (λ (reply : List ℕ). Adopts client (told_handle reply) held.objects.items new_items table new_table) reply_is adopts)
    (new_reply_is ∙ ap (λ (reply : List ℕ). with_response_handle reply (next_handle table)) reply_is) in
    done_some slots step.0 new held (held_after held new_items client a reply) client table new_table a bytes new_reply new_is
    (subst (λ (reply : List ℕ). Runs slots step.0 held (held_after held new_items client a reply) client table new_table a bytes new_reply) (sym reply_is) runs)

state_taken : (state : Option SlotState) (held : Held) (client : ℕ) (table : List (Option ℕ)) (a : Admitted) (bytes command : List ℕ)
    → IfSome state (λ slots. MayRun slots held client table a bytes) → saves_one a ≡ false → command ≡ sent_over bytes a table held.objects.items
    → IfSome state (λ slots. profile_takes (loads_kept held.objects.items command) (number_taken held.sessions (slot_step slots command).1) command (slot_step slots command).1 ≡ true)
state_taken None held client table a bytes command may alone is = tt
state_taken (Some slots) held client table a bytes command may alone is =
    subst (λ (command : List ℕ).
    profile_takes (loads_kept held.objects.items command) (number_taken held.sessions (slot_step slots command).1) command (slot_step slots command).1 ≡ true) (sym is)
    (all_taken slots held client table a bytes may alone)

-- ---- a command that is ready to be sent

-- what is known when it is sent, over the device and what is held before and after all was made ready
pub record Prepared (contexts : ContextLimits) {D : Type 0} (seen : D → Seen) (old between : D)
    (held mid : Held) (client : ℕ) (table : List (Option ℕ)) (a : Admitted) (bytes command : List ℕ) : Type 0 where
  pub prepares : Prepares 100 seen old between held mid
  pub ready : IsPrepared contexts (seen between).state mid table a bytes command
  pub is : IsTable held.objects.items client table
  pub here : IsTable mid.objects.items client table
  pub admitted : client_admitted (tables_seen contexts client table mid.sessions.items) bytes ≡ Ok a
  pub sort : is_sent contexts a bytes ≡ true
  pub may : IfSome (seen between).state (λ slots. MayRun slots mid client table a bytes)
  pub costs : SendsUpTo seen (11 + orphan_count held + renewal_bound (gap_kept held.sessions) held.sessions.numbers) old between
  pub stays : gap_kept held.sessions < renewal_gap held.sessions.numbers → StaysIn 1 (places_of a) None held mid
  pub used : IsCalm held → UsesNamed contexts held mid table a bytes

pub prepared : {contexts : ContextLimits} {D : Type 0} {seen : D → Seen} {old between : D} {held mid : Held}
    (client : ℕ) (table : List (Option ℕ)) (a : Admitted) (bytes : List ℕ) {translated command : List ℕ} → Prepares 100 seen old between held mid
    → IsTable held.objects.items client table → client_admitted (tables_seen contexts client table held.sessions.items) bytes ≡ Ok a → is_sent contexts a bytes ≡ true
    → MayBegin call_contexts contexts seen old held → IsProfile contexts (seen between).state → ((i : ℕ) → Fits w8 (get_or bytes i 0)) → IsPrepared contexts (seen between).state mid table a bytes translated
    → SendsUpTo seen (11 + orphan_count held + renewal_bound (gap_kept held.sessions) held.sessions.numbers) old between
    → (gap_kept held.sessions < renewal_gap held.sessions.numbers → StaysIn 1 (places_of a) None held mid) → (IsCalm held → UsesNamed contexts held mid table a bytes)
    → command ≡ translated → Prepared contexts seen old between held mid client table a bytes command
prepared {contexts = contexts} {seen = seen} {between = between} {held = held} {mid = mid} client table a bytes prepares is e sort may profile all ready costs stays used same =
    let here = prepares_table client table prepares is in
    let admitted = admitted_over _ client table held.sessions.items mid.sessions.items bytes prepares.session_owners ∙ e in
    record {
      prepares = prepares;
      ready = subst (λ (command : List ℕ). IsPrepared contexts (seen between).state mid table a bytes command) (sym same) ready;
      is = is;
      here = here;
      admitted = admitted;
      sort = sort;
      may = may_run (seen between).state mid client table a bytes prepares.settled here admitted sort all ready profile
          (omega (arith, may.object_counter, prepares.counts.objects_on)) (omega (arith, may.counter, prepares.counts.sessions_on));
      costs = costs;
      stays = stays;
      used = used;
    }

pub prepared_frame : {contexts : ContextLimits} {D : Type 0} {seen : D → Seen} {old between : D} {held mid : Held}
    {client : ℕ} {table : List (Option ℕ)} {a : Admitted} {bytes command : List ℕ}
    → Prepared contexts seen old between held mid client table a bytes command → is_frame command ≡ true
prepared_frame {contexts = contexts} {mid = mid} {client = client} {table = table} {a = a} {bytes = bytes} p =
    ap (λ (sent : List ℕ). is_frame sent) p.ready.written
    ∙ command_frame (tables_seen contexts client table mid.sessions.items) bytes a (device_handle table mid.objects.items (first_handle a)) p.admitted

pub prepared_taken : {contexts : ContextLimits} {D : Type 0} {seen : D → Seen} {old between : D} {held mid : Held}
    {client : ℕ} {table : List (Option ℕ)} {a : Admitted} {bytes command : List ℕ}
    → Prepared contexts seen old between held mid client table a bytes command → saves_one a ≡ false
    → IfSome (seen between).state (λ slots.
    profile_takes (loads_kept mid.objects.items command) (number_taken mid.sessions (slot_step slots command).1) command (slot_step slots command).1 ≡ true)
prepared_taken {seen = seen} {between = between} {mid = mid} {client = client} {table = table} {a = a} {bytes = bytes} {command = command} p alone =
    state_taken (seen between).state mid client table a bytes command p.may alone p.ready.written

pub sent_right : {contexts : ContextLimits} {D : Type 0} {seen : D → Seen} {between new : D} {mid : Held} {command reply : List ℕ} → IsTaken contexts seen between new mid command reply
    → IsRight contexts (asked_of (seen new)) (last_of (seen new))
sent_right {contexts = contexts} {seen = seen} {new = new} {mid = mid} {command = command} {reply = reply} sent =
    taken_right contexts (loads_kept mid.objects.items command) (number_taken mid.sessions reply) command (asked_of (seen new)) reply (last_of (seen new)) sent.taken
    sent.sent.asked_is sent.last_is

-- a broker that keeps no contexts takes it too
taken_unkept : {contexts : ContextLimits} {D : Type 0} {seen : D → Seen} {between new : D} {mid : Held} {command reply : List ℕ}
    → IsTaken contexts seen between new mid command reply → takes contexts false (number_taken mid.sessions reply) command reply ≡ true
taken_unkept {contexts = contexts} {mid = mid} {command = command} {reply = reply} sent =
    let is_taken = number_taken mid.sessions reply in
    taken_more contexts (loads_kept mid.objects.items command) false is_taken is_taken command reply (λ so. absurd (true≢false (sym so))) (λ so. so) sent.taken

-- ---- the session that it started, or that ended

-- there is a place for it: where as many are active as may be, none is told
place_for : (Free : Type 0) (view : SessionsView) → count_by is_held view.items < view.numbers.active → count_by sessions.is_orphan view.items ≡ 0
    → (Free × (loaded_items view.items < view.numbers.loaded)) ⊎ AreAllActive view → loaded_items view.items < view.numbers.loaded
place_for Free view few none (inl free) = free.1
place_for Free view few none (inr taken) = absurd (omega (arith, taken.full, few, none, held_and_orphans view.items))

-- where the command starts a session, a place was free when it was sent
pub place_free : {contexts : ContextLimits} {D : Type 0} {seen : D → Seen} {old between : D} {held mid : Held}
    {client : ℕ} {table : List (Option ℕ)} {a : Admitted} {bytes command : List ℕ}
    → Prepared contexts seen old between held mid client table a bytes command → starts_session a ≡ true
    → count_by is_held mid.sessions.items < held.sessions.numbers.active → loaded_items mid.sessions.items < held.sessions.numbers.loaded
place_free {mid = mid} p starts few =
    let place = place_for _ mid.sessions (omega (arith, few, ap (λ (n : Numbers). n.active) p.prepares.numbers)) (omega (arith, p.ready.nobodys))
    (p.ready.sessions.room starts) in
    omega (arith, place, ap (λ (n : Numbers). n.loaded) p.prepares.numbers)

pub may_start : {contexts : ContextLimits} {D : Type 0} {seen : D → Seen} {old between new : D} {held mid : Held}
    {client : ℕ} {table : List (Option ℕ)} {a : Admitted} {bytes command reply : List ℕ}
    → Prepared contexts seen old between held mid client table a bytes command → IsTaken contexts seen between new mid command reply
    → tells_session a reply ≡ true → MayStart reply mid.sessions
may_start {contexts = contexts} {mid = mid} {client = client} {table = table} {a = a} {bytes = bytes} {reply = reply} p sent tells =
    let is_taken = number_taken mid.sessions reply in
    let told = command_session contexts is_taken (tables_seen contexts client table mid.sessions.items) bytes a (device_handle table mid.objects.items (first_handle a)) reply p.admitted
    (ap (λ (command : List ℕ). takes contexts false is_taken command reply) (sym p.ready.written) ∙ taken_unkept sent) tells in
    let free = none_told mid.sessions reply told.1 told.0 in
    let nobodys : count_by sessions.is_orphan mid.sessions.items ≡ 0 = omega (arith, p.ready.nobodys) in
    record {
      long = told.1;
      handle = told.2;
      number = told.3;
      vacant = free.none;
      place = place_for _ mid.sessions free.few nobodys
          (p.ready.sessions.room (and_parts (starts_session a) (code_of reply == RC_SUCCESS) tells).0);
      few = omega (arith, free.few, nobodys, held_and_orphans mid.sessions.items);
    }

named_rest : (P : ℕ → Type 0) (is : Bool) (handle : ℕ) (more : List ℕ) → AllByRecursion P (if is then handle ∷ more else more) → AllByRecursion P more
named_rest P true handle more all = all.1
named_rest P false handle more all = all

named_last : (P : ℕ → Type 0) (is : Bool) (handle : ℕ) → AllByRecursion P (if is then handle ∷ [] else []) → is ≡ true → P handle
named_last P true handle all so = all.0
named_last P false handle all so = absurd cc

-- what holds of each session that a command names holds of that of its authorization
auth_named : (P : ℕ → Type 0) (a : Admitted) → AllByRecursion P (named_sessions a) → is_session_handle (command_auth a.auths).session ≡ true
    → P (command_auth a.auths).session
auth_named P a all is =
    let first = get_or a.shape.handles 0 0 in
    let second = get_or a.shape.handles 1 0 in
    let auth = (command_auth a.auths).session in
    let last = filter is_session_handle (auth ∷ []) in
    named_last P (is_session_handle auth) auth
    (named_rest P (is_session_handle second) second last
    (named_rest P (is_session_handle first) first (filter is_session_handle (second ∷ auth ∷ [])) all)) is

ends_by : (success tag session more : Bool) → (success && tag && session && more) ≡ true → session ≡ true
ends_by true true true more is = refl
ends_by true true false more is = absurd cc
ends_by true false session more is = absurd cc
ends_by false tag session more is = absurd cc

user_owner : (client : ℕ) (owner : Option (ℕ × Bool)) → is_user client owner ≡ true → is_owner client owner ≡ true
user_owner client None is = absurd cc
user_owner client (Some owner) is = (and_parts (owner.0 == client) owner.1 is).0

-- which is the client's
pub ends_own : {contexts : ContextLimits} {D : Type 0} {seen : D → Seen} {old between : D} {held mid : Held}
    {client : ℕ} {table : List (Option ℕ)} {a : Admitted} {bytes command : List ℕ} (reply : List ℕ)
    → Prepared contexts seen old between held mid client table a bytes command
    → ends_session a reply ≡ true → is_owner client (owner_in mid.sessions.items (command_auth a.auths).session) ≡ true
ends_own {contexts = contexts} {mid = mid} {client = client} {table = table} {a = a} {bytes = bytes} reply p ends =
    let auth = (command_auth a.auths).session in
    user_owner client (owner_in mid.sessions.items auth)
    (auth_named (λ handle. is_user client (owner_in mid.sessions.items handle) ≡ true) a
    (named_own (tables_seen contexts client table mid.sessions.items) bytes a p.admitted)
    (ends_by (code_of reply == RC_SUCCESS) (a.shape.tag == ST_SESSIONS) (is_session_handle auth) (not (continues (command_auth a.auths))) ends))

-- ---- what stays in the device

starts_none : (starts : Bool) → (starts ≡ true → ⊥) → ◌≡◌ {A = ℕ} (if starts then 1 else 0) 0
starts_none true never = absurd (never refl)
starts_none false never = refl

places_by : (starts : Bool) → (if starts then 1 else 0) ≤ 1
places_by true = omega arith
places_by false = omega arith

pub places_few : (a : Admitted) → places_of a ≤ 1
places_few a = places_by (starts_session a)

-- a command whose session ends starts none
ends_apart : {contexts : ContextLimits} {D : Type 0} {seen : D → Seen} {old between : D} {held mid : Held}
    {client : ℕ} {table : List (Option ℕ)} {a : Admitted} {bytes command : List ℕ} (reply : List ℕ)
    → Prepared contexts seen old between held mid client table a bytes command → ends_session a reply ≡ true → places_of a ≡ 0
ends_apart {contexts = contexts} {mid = mid} {client = client} {table = table} {a = a} {bytes = bytes} reply p ends =
    let auth = (command_auth a.auths).session in
    starts_none (starts_session a)
    (λ starts.
    auth_named (λ handle. ⊥) a
    (subst (AllByRecursion (λ handle. ⊥)) (sym (named_none (tables_seen contexts client table mid.sessions.items) bytes a p.admitted starts)) tt)
    (ends_by (code_of reply == RC_SUCCESS) (a.shape.tag == ST_SESSIONS) (is_session_handle auth) (not (continues (command_auth a.auths))) ends))

pub stays_after : {contexts : ContextLimits} {D : Type 0} {seen : D → Seen} {old between : D} {held mid : Held}
    {client : ℕ} {table : List (Option ℕ)} {a : Admitted} {bytes command : List ℕ} (new_held : Held) (reply : List ℕ)
    → Prepared contexts seen old between held mid client table a bytes command → saves_session a reply ≡ false
    → KeepsResidents mid.objects.items new_held.objects.items → new_held.objects.slots ≡ mid.objects.slots
    → new_held.sessions.numbers ≡ mid.sessions.numbers → new_held.sessions.items ≡ sessions_held_after client a reply mid.sessions.items
    → gap_kept held.sessions < renewal_gap held.sessions.numbers → StaysIn 1 1 (saved_number a) held new_held
stays_after {held = held} {mid = mid} {client = client} {a = a} new_held reply p none residents slots_are numbers items_are narrow =
    stays_over held mid new_held (places_of a) (saved_number a) (p.stays narrow) residents slots_are numbers
    (subst (KeepsLoaded (places_of a) (saved_number a) mid.sessions.items) (sym items_are)
    (loaded_after (places_of a) (saved_number a) client a reply mid.sessions.items none (places_few a) (ends_apart reply p)))

-- ---- what the command did

pub record Outcome (contexts : ContextLimits) {D : Type 0} (seen : D → Seen) (old new : D) (client : ℕ)
    (held new_held : Held) (table new_table : List (Option ℕ)) (a : Admitted) (bytes reply : List ℕ) : Type 0 where
  pub serves : Serves {A = Unit {0}} contexts seen client old new held new_held table new_table (Ok tt)
  pub carries : CarriesOut contexts seen client old new held new_held table new_table a bytes reply

pub ran_moves : {contexts : ContextLimits} {D : Type 0} {seen : D → Seen} {old between : D} {held mid : Held}
    {client : ℕ} {table : List (Option ℕ)} {a : Admitted} {bytes command : List ℕ} (new : D) (new_items : List Item) (new_view : SessionsView) (new_table : List (Option ℕ))
    (used : List ℕ) (answer reply : List ℕ) → Prepared contexts seen old between held mid client table a bytes command → (seen new).base ≡ (seen between).base → (seen between).faults ≤ (seen new).faults
    → new_view.items ≡ sessions_held_after client a answer mid.sessions.items → new_view.numbers ≡ mid.sessions.numbers
    → new_view.contexts ≡ mid.sessions.contexts → new_view.left ≡ mid.sessions.left
    → let new_held : Held = record { objects = record mid.objects { items = new_items; order = used }; sessions = new_view } in
    Done (seen between).state (seen new).state mid new_held client table new_table a bytes reply
    → KeepsOwners (other_than client) mid.objects.items new_items → GainsNone (other_than client) mid.objects.items new_items
    → IsTable new_items client new_table → length new_items ≡ length mid.objects.items → Moves seen client old new held new_held new_table
ran_moves {seen = seen} {old = old} {between = between} {held = held} {mid = mid} {client = client} {table = table} {a = a} {bytes = bytes} new new_items new_view new_table used answer reply p base_is count view_is numbers room left_is done others gained is long =
    let prepares = p.prepares in
    let none_left : count_by sessions.is_orphan new_view.items ≡ 0 =
    ap (count_by sessions.is_orphan) view_is ∙ none_after client a answer mid.sessions.items (omega (arith, p.ready.nobodys)) in
    record {
      keeps = record {
        base_is = base_is ∙ prepares.keeps.base_is;
        tells = done.tells ∙ prepares.keeps.tells;
        count = omega (arith, prepares.keeps.count, count);
      };
      settled = done.settled;
      counts = counts_then 100 1 200 (seen old).state (seen between).state (seen new).state (omega arith) p.prepares.counts done.counts;
      others = λ index owner names own mine.
          let kept = prepares.owners index owner names own refl in
          others index owner kept.0 kept.1 mine;
      gained = λ index owner own mine. prepares.gained index owner (gained index owner own mine) refl;
      other_objects = λ slots after index owner was now names own mine.
          let kept = prepares.owners index owner names own refl in
          let there : is_some (seen between).state ≡ true = prepares.keeps.tells ∙ ap (λ (s : Option SlotState). is_some s) was in
          let middle = some_of (seen between).state there in
          done.kept middle.0 after index middle.1 now kept.0 ∙ prepares.objects slots middle.0 index owner was middle.1 names own refl;
      own_table = is;
      lists = prepares.lists;
      owners = λ present open_here all.
          subst (AreOpenOwners present) (sym view_is)
          (open_after present client a answer mid.sessions.items open_here
          (open_same present held.sessions.items mid.sessions.items prepares.session_owners all));
      orphans = omega (arith, none_left, p.ready.nobodys);
      made_for = record { objects = prepares.made_for.objects; sessions = room ∙ prepares.made_for.sessions };
      slots = prepares.slots;
      numbers = numbers ∙ prepares.numbers;
      left = omega (arith, ap length left_is, ap length prepares.left);
      length_is = long ∙ prepares.length_is;
    }

-- sequences that were below the device's numbers are so still
pub below_on : {n : ℕ} (old new : Option SlotState) (slots after : SlotState) (least : Sequences) → CountsOnBy n old new → old ≡ Some slots → new ≡ Some after
    → AreBelow least slots → AreBelow least after
below_on old new slots after least counts was now below = record {
  of_objects = omega (arith, below.of_objects, counts.objects_rise, ap objects.counter_of was, ap objects.counter_of now);
  of_sessions = omega (arith, below.of_sessions, counts.sessions_rise, ap sessions.counter_of was, ap sessions.counter_of now);
}

pub ran_steps : {contexts : ContextLimits} {D : Type 0} {seen : D → Seen} {old between : D} {held mid : Held}
    {client : ℕ} {table : List (Option ℕ)} {a : Admitted} {bytes command : List ℕ} (new : D) (new_held : Held) (new_table : List (Option ℕ)) (reply : List ℕ)
    → Prepared contexts seen old between held mid client table a bytes command
    → Done (seen between).state (seen new).state mid new_held client table new_table a bytes reply
    → StepsAs (λ s. client_step client s bytes (pick_of a reply)) (seen old).state (seen new).state held new_held table new_table reply
ran_steps {seen = seen} {old = old} {between = between} {client = client} {table = table} {a = a} {bytes = bytes} new new_held new_table reply p done =
    λ slots after least was now below.
    let there : is_some (seen between).state ≡ true = p.prepares.keeps.tells ∙ ap (λ (s : Option SlotState). is_some s) was in
    let middle = some_of (seen between).state there in
    let done = done.steps middle.0 after least middle.1 now (below_on (seen old).state (seen between).state slots middle.0 least p.prepares.counts was middle.1 below) in (
      done.0,
      done.1,
      ap (λ (s : ClientState). client_step client s bytes (pick_of a reply)) (sym (prepares_stays client table p.prepares p.is slots middle.0 least was middle.1))
          ∙ done.2,
    )

-- where the command needs a slot, one is free
slot_spare : {contexts : ContextLimits} {D : Type 0} {seen : D → Seen} {old between : D} {held mid : Held}
    {client : ℕ} {table : List (Option ℕ)} {a : Admitted} {bytes command : List ℕ}
    → Prepared contexts seen old between held mid client table a bytes command → needs_slot contexts a.shape bytes ≡ true
    → objects.residents mid.objects.items + length mid.objects.left < mid.objects.slots
slot_spare p needs = omega (arith, (p.ready.free needs).1, p.ready.nobodys)

told_one : (a : Admitted) (answer : List ℕ) → tells_object a answer ≡ true → objects_told a answer ≡ 1
told_one a answer tells = ap {B = ℕ} (λ (told : Bool). if told then 1 else 0) tells

-- and without the object that it made there is room for one more
spare_then : {contexts : ContextLimits} {D : Type 0} {seen : D → Seen} {old between : D} {held mid : Held}
    {client : ℕ} {table new_table : List (Option ℕ)} {a : Admitted} {bytes command : List ℕ} {new_items : List Item} (reply : List ℕ)
    → Prepared contexts seen old between held mid client table a bytes command → tells_object a reply ≡ true
    → Adopts client (told_handle reply) mid.objects.items new_items table new_table → needs_slot contexts a.shape bytes ≡ true
    → objects.residents new_items + length mid.objects.left < mid.objects.slots + objects_told a reply
spare_then {mid = mid} {client = client} {a = a} {new_items = new_items} reply p tells adopts needs =
    omega (
      arith,
      slot_spare p needs,
      told_one a reply tells,
      one_resident_more mid.objects.items new_items adopts.item (new_item client (told_handle reply - TRANSIENT_FIRST)) adopts.items_are,
    )

pub spare_else : {contexts : ContextLimits} {D : Type 0} {seen : D → Seen} {old between : D} {held mid : Held}
    {client : ℕ} {table : List (Option ℕ)} {a : Admitted} {bytes command : List ℕ} (reply : List ℕ)
    → Prepared contexts seen old between held mid client table a bytes command → needs_slot contexts a.shape bytes ≡ true
    → objects.residents mid.objects.items + length mid.objects.left < mid.objects.slots + objects_told a reply
spare_else reply p needs = omega (arith, slot_spare p needs)

pub may_adopt : {contexts : ContextLimits} {D : Type 0} {seen : D → Seen} {old between new : D} {held mid : Held}
    {client : ℕ} {table : List (Option ℕ)} {a : Admitted} {bytes command reply : List ℕ} (spare : ℕ)
    → Prepared contexts seen old between held mid client table a bytes command → IsTaken contexts seen between new mid command reply
    → HasRoomFor contexts a bytes spare held.objects.items → tells_object a reply ≡ true → MayAdopt mid.objects table spare reply
may_adopt {contexts = contexts} {mid = mid} {client = client} {table = table} {a = a} {bytes = bytes} {reply = reply} spare p sent room tells =
    let tables = tables_seen contexts client table mid.sessions.items in
    let is_taken = number_taken mid.sessions reply in
    let makes : makes_object_by contexts (Ok a.shape) bytes ≡ true = command_makes contexts tables bytes a reply p.admitted p.sort tells in
    let told = command_object contexts is_taken tables bytes a (device_handle table mid.objects.items (first_handle a)) reply p.admitted p.sort
    (ap (λ (command : List ℕ). takes contexts false is_taken command reply) (sym p.ready.written) ∙ taken_unkept sent) tells in
    record {
      vacant = p.prepares.vacant (room makes).1;
      slot = slot_spare p (made_needs contexts a bytes makes);
      room = (room makes).0;
      few = not_full _ client table mid.sessions.items bytes a p.admitted makes;
      long = told.0;
      transient = told.1;
    }

-- the order of use of objects, where it made one, and where it made none
order_told : (told : Bool) (item : ℕ) (order : List ℕ) → told ≡ true → order_made told item order ≡ order ++ item ∷ []
order_told true item order is = refl
order_told false item order is = absurd cc

pub order_plain : (told : Bool) (item : ℕ) (order : List ℕ) → told ≡ false → order_made told item order ≡ order
order_plain true item order is = absurd cc
order_plain false item order is = refl

-- the response is taken by the numbers of the device, which stay
taken_held : {contexts : ContextLimits} {D : Type 0} {seen : D → Seen} {old between new : D} {held mid : Held}
    {client : ℕ} {table : List (Option ℕ)} {a : Admitted} {bytes command reply : List ℕ}
    → Prepared contexts seen old between held mid client table a bytes command → IsTaken contexts seen between new mid command reply
    → takes contexts (loads_kept mid.objects.items command) (number_taken (record held.sessions { items = mid.sessions.items }) reply) command reply ≡ true
taken_held {contexts = contexts} {held = held} {mid = mid} {command = command} {reply = reply} p sent =
    ap
    (λ (n : Numbers).
    takes contexts (loads_kept mid.objects.items command) (number_taken (record held.sessions { numbers = n; items = mid.sessions.items }) reply) command reply)
    (sym p.prepares.numbers)
    ∙ sent.taken

-- what became of the command, where it made an object
pub ran_then : {contexts : ContextLimits} {D : Type 0} {old between new : D} {held mid : Held}
    {client : ℕ} {new_items : List Item} {table new_table : List (Option ℕ)} {a : Admitted} {bytes command reply new_reply : List ℕ}
    (seen : D → Seen) (used : List ℕ)
    → Prepared contexts seen old between held mid client table a bytes command → IsTaken contexts seen between new mid command reply
    → SentBefore contexts seen (orphan_count held) old between → tells_object a reply ≡ true
    → (adopts : Adopts client (told_handle reply) mid.objects.items new_items table new_table) → used ≡ mid.objects.order ++ adopts.item ∷ []
    → new_reply ≡ with_response_handle reply (next_handle table) → (IsAtHand contexts held table a bytes → between ≡ old)
    → Ran contexts seen client old new held (in_orders (held_after mid new_items client a reply) used (order_after a reply mid.sessions.order)
    (saved_list_after a reply mid.sessions.saved)) table new_table a bytes new_reply
ran_then {contexts = contexts} {between = between} {new = new} {held = held} {mid = mid} {client = client} {new_items = new_items} {table = table} {a = a} {bytes = bytes} {command = command} {reply = reply} seen used p sent own tells adopts used_is reply_is still =
    let command_is = p.ready.written ∙ ap (λ (handle : ℕ). sent_for bytes a handle) (adopted_device (first_handle a) adopts p.here) in
    record {
      sort = p.sort;
      before = between;
      own_before = own;
      unmoved = still;
      placed = adopted_placed (first_handle a) adopts p.here p.ready.placed;
      mid = mid.sessions.items;
      loaded = p.ready.sessions.loaded;
      owners = p.prepares.session_owners;
      sent_is = subst (λ (command : List ℕ). IsSent seen between new command) command_is sent.sent;
      answer = reply;
      last_is = sent.last_is;
      reply_is = reply_is ∙ client_told table a reply tells;
      item = adopts.item;
      table_is = adopts.table_is ∙ table_told table adopts.item a reply tells;
      object_is = λ told. adopted_new adopts;
      spare = λ needs. spare_then reply p tells adopts needs;
      place = λ starts few. place_free p starts few;
      taken = subst
          (λ (command : List ℕ). takes contexts (loads_kept new_items command) (number_taken (record held.sessions { items = mid.sessions.items }) reply) command reply ≡ true)
          (sym sent.sent.asked_is)
          (ap (λ (kept : Bool). takes contexts kept (number_taken (record held.sessions { items = mid.sessions.items }) reply) command reply) (adopted_loads command adopts)
          ∙ taken_held p sent);
      sessions_are = refl;
      left = p.prepares.left;
      nobodys = omega (arith, p.ready.nobodys, none_after client a reply mid.sessions.items (omega (arith, p.ready.nobodys)));
      used = λ calm. record {
        ready = mid;
        named = p.used calm;
        objects = used_is ∙ sym (order_told (tells_object a reply) adopts.item mid.objects.order tells);
        sessions = refl;
      };
    }

-- the same where no object was made
pub ran_else : {contexts : ContextLimits} {D : Type 0} {old between new : D} {held mid : Held}
    {client : ℕ} {table : List (Option ℕ)} {a : Admitted} {bytes command reply : List ℕ}
    (seen : D → Seen)
    → Prepared contexts seen old between held mid client table a bytes command → IsTaken contexts seen between new mid command reply
    → SentBefore contexts seen (orphan_count held) old between → tells_object a reply ≡ false → (IsAtHand contexts held table a bytes → between ≡ old)
    → Ran contexts seen client old new held (in_orders (held_after mid mid.objects.items client a reply) mid.objects.order (order_after a reply mid.sessions.order)
    (saved_list_after a reply mid.sessions.saved)) table table a bytes reply
ran_else {contexts = contexts} {between = between} {new = new} {held = held} {mid = mid} {client = client} {table = table} {a = a} {bytes = bytes} {reply = reply} seen p sent own plain still = record {
  sort = p.sort;
  before = between;
  own_before = own;
  unmoved = still;
  placed = p.ready.placed;
  mid = mid.sessions.items;
  loaded = p.ready.sessions.loaded;
  owners = p.prepares.session_owners;
  sent_is = subst (λ (command : List ℕ). IsSent seen between new command) p.ready.written sent.sent;
  answer = reply;
  last_is = sent.last_is;
  reply_is = client_plain table a reply plain;
  item = 0;
  table_is = table_plain table 0 a reply plain;
  object_is = λ told. absurd (true≢false (sym told ∙ plain));
  spare = λ needs. spare_else reply p needs;
  place = λ starts few. place_free p starts few;
  taken = subst
      (λ (command : List ℕ).
      takes contexts (loads_kept mid.objects.items command) (number_taken (record held.sessions { items = mid.sessions.items }) reply) command reply ≡ true)
      (sym sent.sent.asked_is) (taken_held p sent);
  sessions_are = refl;
  left = p.prepares.left;
  nobodys = omega (arith, none_after client a reply mid.sessions.items (omega (arith, p.ready.nobodys)), p.ready.nobodys);
  used = λ calm. record {
    ready = mid;
    named = p.used calm;
    objects = sym (order_plain (tells_object a reply) 0 mid.objects.order plain);
    sessions = refl;
  };
}

-- ---- what is held in the end

-- the sessions, once the one that a command started is held, and the one that it ended is forgotten
abbrev pub sessions_kept : SessionsView → ℕ → Admitted → List ℕ → SessionsView
sessions_kept view client a reply =
    record view {
      items = sessions_held_after client a reply view.items;
      order = order_after a reply view.order;
      saved = saved_list_after a reply view.saved;
    }

pub held_else : (mid : Held) (new_sessions : SessionsView) (client : ℕ) (a : Admitted) (shown reply : List ℕ)
    → new_sessions ≡ sessions_kept mid.sessions client a shown → shown ≡ reply
    → in_orders (held_after mid mid.objects.items client a reply) mid.objects.order (order_after a reply mid.sessions.order)
    (saved_list_after a reply mid.sessions.saved) ≡ record { objects = mid.objects; sessions = new_sessions }
held_else mid new_sessions client a shown reply is same =
    λ i. record {
      objects = mid.objects;
      sessions = sym (is ∙ ap (λ (reply : List ℕ). sessions_kept mid.sessions client a reply) same) i;
    }

pub held_then : (mid : Held) (new_objects : ObjectsView) (new_sessions : SessionsView) (client : ℕ) (a : Admitted) (shown reply : List ℕ)
    → new_sessions ≡ sessions_kept mid.sessions client a shown → shown ≡ reply
    → new_objects ≡ record mid.objects { items = new_objects.items; order = new_objects.order }
    → in_orders (held_after mid new_objects.items client a reply) new_objects.order (order_after a reply mid.sessions.order)
    (saved_list_after a reply mid.sessions.saved) ≡ record { objects = new_objects; sessions = new_sessions }
held_then mid new_objects new_sessions client a shown reply is same rest =
    λ i. record {
      objects = sym rest i;
      sessions = sym (is ∙ ap (λ (reply : List ℕ). sessions_kept mid.sessions client a reply) same) i;
    }

-- ---- the outcome

pub outcome_else : {contexts : ContextLimits} {D : Type 0} {seen : D → Seen} {old between new : D} {held mid : Held}
    {client : ℕ} {table : List (Option ℕ)} {a : Admitted} {bytes command shown reply : List ℕ} (new_sessions : SessionsView)
    → Prepared contexts seen old between held mid client table a bytes command → IsTaken contexts seen between new mid command reply
    → SentBefore contexts seen (orphan_count held) old between → (IsAtHand contexts held table a bytes → between ≡ old)
    → saves_one a ≡ false → tells_object a reply ≡ false
    → new_sessions ≡ sessions_kept mid.sessions client a shown → shown ≡ reply
    → Outcome contexts seen old new client held (record { objects = mid.objects; sessions = new_sessions }) table table a bytes reply
outcome_else {contexts = contexts} {seen = seen} {old = old} {between = between} {new = new} {held = held} {mid = mid} {client = client} {table = table} {a = a} {bytes = bytes} {command = command} {shown = shown} {reply = reply} new_sessions p sent own still alone plain is same =
    let new_held = in_orders (held_after mid mid.objects.items client a reply) mid.objects.order (order_after a reply mid.sessions.order) (saved_list_after a reply mid.sessions.saved) in
    let done : Done (seen between).state (seen new).state mid new_held client table table a bytes reply =
    done_in mid.objects.order (order_after a reply mid.sessions.order) (saved_list_after a reply mid.sessions.saved)
    (rise_after a reply mid.sessions.saved alone)
    (done_else (seen between).state (seen new).state mid client table a bytes command reply p.may alone p.ready.written sent.answered plain) in
    subst (λ (h : Held). Outcome contexts seen old new client held h table table a bytes reply) (held_else mid new_sessions client a shown reply is same)
    (record {
      serves = record {
        moves = ran_moves new mid.objects.items new_held.sessions table mid.objects.order reply reply p sent.base_is sent.count refl refl refl refl done
            (λ index owner names own mine. (names, own)) (λ index owner own mine. own) p.here refl;
        right = inr (sent_right sent);
        stays = tt;
        costs = omega (arith, p.costs, sent.sent.once);
        cause = tt;
        fails = tt;
      };
      carries = record {
        did = inr (inr (ran_else seen p sent own plain still));
        steps = ran_steps new new_held table reply p done;
        whole = taken_frame contexts (loads_kept mid.objects.items command) (number_taken mid.sessions reply) command reply sent.taken;
        stays = stays_after new_held reply p (unsaved (saves_one a) (code_of reply == RC_SUCCESS) alone) (residents_same mid.objects.items) refl refl refl;
      };
    })

pub outcome_then : {contexts : ContextLimits} {D : Type 0} {seen : D → Seen} {old between new : D} {held mid : Held}
    {client spare : ℕ} {table new_table : List (Option ℕ)} {a : Admitted} {bytes command shown reply new_reply : List ℕ} (new_objects : ObjectsView) (new_sessions : SessionsView)
    → Prepared contexts seen old between held mid client table a bytes command → IsTaken contexts seen between new mid command reply
    → SentBefore contexts seen (orphan_count held) old between → (IsAtHand contexts held table a bytes → between ≡ old)
    → saves_one a ≡ false → MayAdopt mid.objects table spare reply → tells_object a reply ≡ true
    → (adopts : Adopts client (told_handle reply) mid.objects.items new_objects.items table new_table)
    → new_objects.order ≡ mid.objects.order ++ adopts.item ∷ []
    → new_objects ≡ record mid.objects { items = new_objects.items; order = new_objects.order }
    → new_reply ≡ with_response_handle reply (next_handle table)
    → new_sessions ≡ sessions_kept mid.sessions client a shown → shown ≡ reply
    → Outcome contexts seen old new client held (record { objects = new_objects; sessions = new_sessions }) table new_table a bytes new_reply
outcome_then {contexts = contexts} {seen = seen} {old = old} {between = between} {new = new} {held = held} {mid = mid} {client = client} {table = table} {new_table = new_table} {a = a} {bytes = bytes} {command = command} {shown = shown} {reply = reply} {new_reply = new_reply} new_objects new_sessions p sent own still alone may tells adopts used_is rest reply_is is same =
    let new_held = in_orders (held_after mid new_objects.items client a reply) new_objects.order (order_after a reply mid.sessions.order) (saved_list_after a reply mid.sessions.saved) in
    let done : Done (seen between).state (seen new).state mid new_held client table new_table a bytes new_reply =
    done_in new_objects.order (order_after a reply mid.sessions.order) (saved_list_after a reply mid.sessions.saved)
    (rise_after a reply mid.sessions.saved alone)
    (done_then (seen between).state (seen new).state mid client table a bytes command reply new_reply p.may alone p.ready.written sent.answered tells adopts reply_is) in
    subst (λ (h : Held). Outcome contexts seen old new client held h table new_table a bytes new_reply) (held_then mid new_objects new_sessions client a shown reply is same rest)
    (record {
      serves = record {
        moves = ran_moves new new_objects.items new_held.sessions new_table new_objects.order reply new_reply p sent.base_is sent.count refl refl refl refl done
            (adopted_others (other_than client) adopts) (adopted_gained adopts) (adopted_table adopts p.here may.few) (adopted_length adopts);
        right = inr (sent_right sent);
        stays = tt;
        costs = omega (arith, p.costs, sent.sent.once);
        cause = tt;
        fails = tt;
      };
      carries = record {
        did = inr (inr (ran_then seen new_objects.order p sent own tells adopts used_is reply_is still));
        steps = ran_steps new new_held new_table new_reply p done;
        whole = ap (λ (reply : List ℕ). is_frame reply) reply_is ∙ handed_frame reply (next_handle table) may.long
            ∙ taken_frame contexts (loads_kept mid.objects.items command) (number_taken mid.sessions reply) command reply sent.taken;
        stays = stays_after new_held reply p (unsaved (saves_one a) (code_of reply == RC_SUCCESS) alone)
            (residents_with mid.objects.items new_objects.items adopts.item (new_item client (told_handle reply - TRANSIENT_FIRST)) adopts.items_are refl) refl refl refl;
      };
    })
