-- FlushContext of a client's object, after orphans were flushed: the client has what it had but for the object, and each
-- other client what it had.
use Rattle.std.proofs.Common.{◌≡◌, ℕ, Bool, true, false, List, length, get_or, set, refl, ap, sym, ◌∙◌, subst, arith}
use Rattle.std.specs.Prelude.{◌==◌, nat_lt, Option, Some, None, is_some, IfSome, IsSome, MatchOption, Ok, if◌then◌else◌}
use Rattle.std.specs.List.{count_by}
use Rattle.std.proofs.lemmas.Bool.{eq-eqb, eqb-false, ne_eqb}
use Rattle.tab_spec.specs.declared.TheConstants.{HT_TRANSIENT, TRANSIENT_FIRST}
use Rattle.tab_spec.specs.Count.{one_more}
use Rattle.tab_spec.specs.Object.{Object}
use Rattle.tab_spec.specs.Persist.{Persist}
use Rattle.tab_spec.specs.Shape.{number_of_session, octet_of}
use Rattle.tab_spec.specs.declared.contexts.ContextLimits.{ContextLimits}
use Rattle.device_spec.specs.ContextCommands.{flush_context_command}
use Rattle.device_spec.specs.Slots.{SlotState}
use Rattle.device_port.specs.Device.{Seen, asked_of, last_of, sent_of}
use Rattle.device_port.specs.Own.{Asks, IsOwnAnswered}
use Rattle.object_swap.specs.Items.{Item, KeepsRest, ObjectsStand, ObjectsView, handle_in, item_at, no_item, objects_of, without_object}
use Rattle.session_swap.specs.Items as sessions
use Rattle.history_laws.proofs.Tables.{at_all, held_all, named, without}
use Rattle.history_spec.specs.Table.{held_under, number_of_object, without_handle}
use Rattle.world_spec.specs.World.{ClientState, Owned, without_named}
use Rattle.client_machine.specs.declared.held.Held.{Held}
use Rattle.client_machine.specs.Moves.{FlushesSome, IsFlushSent, KeepsOwners, LeavesState, Moves, Prepares, StaysAs, any_client, client_state, other_than}
use Rattle.client_machine.specs.Settled.{Sequences, Settled, orphan_count, sessions_in}
use Rattle.client_machine.specs.Tables.{IsTable, IsTablePlace, flushed_handle, is_item, objects_in, place_object, slot_handle}
use Rattle.client_machine.proofs.Keeping.{Forgets}
use Rattle.client_machine.proofs.Orphans.{dropped_object, keeps_then, objects_then, owners_then, zero_set}
use Rattle.client_machine.proofs.Prepared.{counts_then}
use Rattle.client_machine.proofs.Ran.{open_same}
use Rattle.client_machine.proofs.Seeing.{place_there}
use Rattle.client_machine.proofs.Settling.{persist_over_objects, rest_over_objects, sessions_over_objects, settled_at}
use Rattle.client_machine.proofs.Keeping.{for_then}

-- ---- what a client has, after another step

abbrev state_of : ℕ → Persist → List (Option Object) → List (Option Owned) → List ℕ → Sequences → ClientState
state_of most persist objects sessions left least = record {
  persist = persist;
  most = most;
  objects = objects;
  sessions = sessions;
  left = left;
  object_sequence = least.object;
  session_sequence = least.session;
}

pub state_is : (most there : ℕ) (persist other : Persist) (objects others : List (Option Object)) (owned own : List (Option Owned)) (left still : List ℕ)
    (least : Sequences) → most ≡ there → persist ≡ other → objects ≡ others → owned ≡ own → left ≡ still
    → state_of most persist objects owned left least ≡ state_of there other others own still least
state_is most there persist other objects others owned own left still least m p o s l = λ i. state_of (m i) (p i) (o i) (s i) (l i) least

leaves_by : (change : ClientState → ClientState) (old middle new : Option SlotState) (held between new_held : Held)
    (table new_table : List (Option ℕ)) → is_some middle ≡ is_some old → StaysAs old middle held between table
    → LeavesState change middle new between new_held table new_table → LeavesState change old new held new_held table new_table
leaves_by change old None new held between new_held table new_table tells first second = λ slots after least is_old is_new.
    let none : false ≡ true = tells ∙ ap (λ (s : Option SlotState). is_some s) is_old in absurd cc
leaves_by change old (Some state) new held between new_held table new_table tells first second = λ slots after least is_old is_new.
    second state after least refl is_new ∙ ap change (first slots state least is_old refl)

-- a change of what the client has, after that
pub leaves_after : {D : Type 0} (seen : D → Seen) (change : ClientState → ClientState) (old middle new : D)
    (held between new_held : Held) (table new_table : List (Option ℕ)) → is_some (seen middle).state ≡ is_some (seen old).state
    → StaysAs (seen old).state (seen middle).state held between table
    → LeavesState change (seen middle).state (seen new).state between new_held table new_table
    → LeavesState change (seen old).state (seen new).state held new_held table new_table
leaves_after seen change old middle new held between new_held table new_table tells first second =
    leaves_by change (seen old).state (seen middle).state (seen new).state held between new_held table new_table tells first second

any_other : (client : ℕ) (items new_items : List Item) → KeepsOwners any_client items new_items
    → KeepsOwners (other_than client) items new_items
any_other client items new_items keeps = λ index owner names own other. keeps index owner names own refl

-- what goes for a client, after orphans were flushed
pub moves_after : {D : Type 0} (seen : D → Seen) (client : ℕ) (old middle new : D) (held between new_held : Held) (new_table : List (Option ℕ))
    → Prepares 0 seen old middle held between → Forgets seen client middle new between new_held
    → IsTable new_held.objects.items client new_table → Moves seen client old new held new_held new_table
moves_after seen client old middle new held between new_held new_table p d is = record {
  keeps = keeps_then seen old middle new p.keeps d.keeps;
  settled = d.settled;
  counts = counts_then 0 0 200 (seen old).state (seen middle).state (seen new).state (omega arith) p.counts d.counts;
  others = owners_then (other_than client) held.objects.items between.objects.items new_held.objects.items
      (any_other client held.objects.items between.objects.items p.owners) d.others;
  gained = λ index owner own other. p.gained index owner (d.gained index owner own other) refl;
  other_objects = objects_then (other_than client) (seen old).state (seen middle).state (seen new).state held.objects.items between.objects.items
      new_held.objects.items p.keeps.tells (any_other client held.objects.items between.objects.items p.owners)
      (λ slots after index owner is_old is_new names own other. p.objects slots after index owner is_old is_new names own refl)
      d.other_objects;
  own_table = is;
  lists = d.lists ∙ p.lists;
  owners = λ present there owners.
      d.owners present (open_same present held.sessions.items between.sessions.items p.session_owners owners);
  orphans = omega (arith, p.orphans, d.orphans);
  made_for = for_then held between new_held p.made_for d.made_for;
  slots = d.slots ∙ p.slots;
  numbers = d.numbers ∙ p.numbers;
  left = omega (arith, ap length p.left, d.left);
  length_is = d.length_is ∙ p.length_is;
}

-- ---- what a client may flush

pub transient : (octet handle : ℕ) → octet ≡ octet_of handle → octet ≡ HT_TRANSIENT → (octet_of handle == HT_TRANSIENT) ≡ true
transient octet handle is same = eq-eqb (octet_of handle) HT_TRANSIENT (sym is ∙ same)

pub not_transient : (octet handle : ℕ) → octet ≡ octet_of handle → (octet ≡ HT_TRANSIENT → ⊥) → (octet_of handle == HT_TRANSIENT) ≡ false
not_transient octet handle is other = ne_eqb (octet_of handle) HT_TRANSIENT (λ same. other (is ∙ same))

-- ---- a client's object

-- what a handle names stands in no other place
stands_by : (low : Bool) (place : Option ℕ) → is_some (if low then None else place) ≡ true → place ≡ (if low then None else place)
stands_by true place there = absurd cc
stands_by false place there = refl

only_there : (items : List Item) (client : ℕ) (table : List (Option ℕ)) (handle item : ℕ) → IsTable items client table
    → held_under table handle ≡ Some item → (j : ℕ) → (j == number_of_object handle) ≡ false → is_item item (get_or table j None) ≡ false
only_there items client table handle item is held_here j apart =
    let n = number_of_object handle in
    let there : is_some (held_under table handle) ≡ true = ap (λ (place : Option ℕ). is_some place) held_here in
    let at : get_or table n None ≡ Some item = stands_by (nat_lt handle TRANSIENT_FIRST) (get_or table n None) there ∙ held_here in
    let here : is_item item (get_or table n None) ≡ true = ap (is_item item) at ∙ eq-eqb item item refl in
    named table n j (λ (place : Option ℕ). is_item item place) (is.apart item) here refl apart

place_same : (old new : Option SlotState) (slots after : SlotState) (items new_items : List Item) (client item : ℕ) (place : Option ℕ)
    → objects_of new new_items ≡ without_object item (objects_of old items) → new_items ≡ set items item no_item
    → old ≡ Some slots → new ≡ Some after → is_item item place ≡ false → IsTablePlace client items place
    → place_object after (set items item no_item) place ≡ place_object slots items place
place_same old new slots after items new_items client item None same are is_old is_new apart is = refl
place_same old new slots after items new_items client item (Some index) same are is_old is_new apart is =
    dropped_object old new items new_items item index slots after same are is_old is_new is.0.inside (eqb-false index item apart)

-- the client's objects are those that it had, but for the one
objects_left : {others : List ℕ} (old new : Option SlotState) (slots after : SlotState) (items new_items : List Item) (client : ℕ)
    (table : List (Option ℕ)) (handle item : ℕ) → objects_of new new_items ≡ without_object item (objects_of old items)
    → new_items ≡ set items item no_item → old ≡ Some slots → new ≡ Some after → ObjectsStand slots items others
    → IsTable items client table → held_under table handle ≡ Some item
    → objects_in after new_items (without_handle table handle) ≡ without_handle (objects_in slots items table) handle
objects_left old new slots after items new_items client table handle item same are is_old is_new stand is held_here =
    let there : is_some (held_under table handle) ≡ true = ap (λ (place : Option ℕ). is_some place) held_here in
    let named = held_all (λ (place : Option ℕ). IsTablePlace client items place) table handle is.named tt in
    ap (λ (l : List Item). objects_in after l (without_handle table handle)) are
    ∙ without (λ (place : Option ℕ). place_object slots items place) (λ (place : Option ℕ). place_object after (set items item no_item) place)
    table handle refl refl there (place_there slots items client stand (held_under table handle) named ∙ there)
    (λ i apart.
    place_same old new slots after items new_items client item (get_or table i None) same are is_old is_new
    (only_there items client table handle item is held_here i apart)
    (at_all (λ (place : Option ℕ). IsTablePlace client items place) table is.named tt i))

pub chosen : {A : Type 0} (test : Bool) (x y : A) → test ≡ true → (if test then x else y) ≡ x
chosen true x y is = refl
chosen false x y is = absurd cc

pub other_chosen : {A : Type 0} (test : Bool) (x y : A) → test ≡ false → (if test then x else y) ≡ y
other_chosen true x y is = absurd cc
other_chosen false x y is = refl

pub object_leaves : {D : Type 0} (seen : D → Seen) (client : ℕ) (old new : D)
    (held : Held) (new_view : ObjectsView) (table new_table : List (Option ℕ)) (handle item : ℕ)
    → objects_of (seen new).state new_view.items ≡ without_object item (objects_of (seen old).state held.objects.items)
    → new_view.items ≡ set held.objects.items item no_item → KeepsRest seen old new → Settled (seen old).state held
    → IsTable held.objects.items client table → held_under table handle ≡ Some item → (octet_of handle == HT_TRANSIENT) ≡ true
    → new_table ≡ without_handle table handle
    → LeavesState (λ client_state. without_named client_state handle) (seen old).state (seen new).state held
    (record { objects = new_view; sessions = held.sessions }) table new_table
object_leaves seen client old new held new_view table new_table handle item same are keeps settled is held_here transient without_is =
    λ slots after least is_old is_new.
    let now = client_state slots held table least in
    let settled_here = settled_at (seen old).state slots held settled is_old in
    let rest = rest_over_objects (seen old).state (seen new).state slots after keeps.rest is_old is_new in
    state_is held.sessions.numbers.active held.sessions.numbers.active after.persist slots.persist (objects_in after new_view.items new_table)
    (without_handle (objects_in slots held.objects.items table) handle) (sessions_in after held.sessions.items)
    (sessions_in slots held.sessions.items) held.sessions.left held.sessions.left least refl (persist_over_objects (seen old).state (seen new).state keeps.rest slots after is_old is_new)
    (ap (λ (l : List (Option ℕ)). objects_in after new_view.items l) without_is
    ∙ objects_left (seen old).state (seen new).state slots after held.objects.items new_view.items client table handle item same are is_old is_new
    settled_here.objects is held_here)
    (sessions_over_objects slots after held.sessions.items rest) refl
    ∙ sym (chosen (octet_of handle == HT_TRANSIENT) (record now { objects = without_handle now.objects handle })
    (record now { sessions = set now.sessions (number_of_session handle) None }) transient)

-- ---- what is sent

pub was_answered : (contexts : ContextLimits) (asked : List ℕ) (last : Option (List ℕ)) → IsOwnAnswered contexts asked last → IsSome last
was_answered contexts asked None answered = absurd answered.1
was_answered contexts asked (Some response) answered = refl

slot_by : (table : List (Option ℕ)) (items : List Item) (handle item : ℕ) → (octet_of handle == HT_TRANSIENT) ≡ true
    → held_under table handle ≡ Some item → flushed_handle table items handle ≡ handle_in (item_at items item).slot
slot_by table items handle item transient held_here =
    chosen (octet_of handle == HT_TRANSIENT) (slot_handle items (held_under table handle)) (Some handle) transient
    ∙ ap (λ (place : Option ℕ). slot_handle items place) held_here

sent_by : {contexts : ContextLimits} {D : Type 0} (seen : D → Seen) (nobodys : ℕ) (slot : Option ℕ)
    (old middle new : D) → is_some slot ≡ true → FlushesSome contexts seen nobodys old middle
    → (nobodys ≡ 0 → middle ≡ old)
    → IfSome slot (λ handle. (asked_of (seen new) ≡ flush_context_command handle) × (sent_of (seen new) ≡ one_more (sent_of (seen middle))))
    → IfSome slot (λ handle. IsOwnAnswered contexts (asked_of (seen new)) (last_of (seen new))) → IsFlushSent contexts seen nobodys slot old new
sent_by seen nobodys None old middle new there own still flushed answered = absurd cc
sent_by {contexts = contexts} seen nobodys (Some slot) old middle new there own still flushed answered =
    (middle, own, still, flushed.0, flushed.1, was_answered contexts (asked_of (seen new)) (last_of (seen new)) answered)

sent_once : (contexts : ContextLimits) {D : Type 0} (unsent : Type 0) (seen : D → Seen) (old new : D) (slot : Option ℕ)
    → MatchOption slot unsent (λ handle. Asks {A = Unit {0}} contexts seen old new (flush_context_command handle) (Ok tt))
    → IfSome slot (λ handle. (asked_of (seen new) ≡ flush_context_command handle) × (sent_of (seen new) ≡ one_more (sent_of (seen old))))
sent_once contexts unsent seen old new None sent = tt
sent_once contexts unsent seen old new (Some handle) sent = (sent.asked, sent.once)

sent_answered : (contexts : ContextLimits) {D : Type 0} (unsent : Type 0) (seen : D → Seen) (old new : D) (slot : Option ℕ)
    → MatchOption slot unsent (λ handle. Asks {A = Unit {0}} contexts seen old new (flush_context_command handle) (Ok tt))
    → IfSome slot (λ handle. IsOwnAnswered contexts (asked_of (seen new)) (last_of (seen new)))
sent_answered contexts unsent seen old new None sent = tt
sent_answered contexts unsent seen old new (Some handle) sent = sent.answered

pub object_sent : {contexts : ContextLimits} {D : Type 0} (unsent : Type 0) (seen : D → Seen) (nobodys : ℕ)
    (table : List (Option ℕ)) (items between : List Item) (handle item : ℕ) (old middle new : D)
    → (octet_of handle == HT_TRANSIENT) ≡ true → held_under table handle ≡ Some item
    → is_some (handle_in (item_at items item).slot) ≡ true → item_at between item ≡ item_at items item
    → FlushesSome contexts seen nobodys old middle → (nobodys ≡ 0 → middle ≡ old)
    → MatchOption (handle_in (item_at between item).slot) unsent (λ handle. Asks {A = Unit {0}} contexts seen middle new (flush_context_command handle) (Ok tt))
    → IsFlushSent contexts seen nobodys (flushed_handle table items handle) old new
object_sent {contexts = contexts} unsent seen nobodys table items between handle item old middle new transient held_here there same own still sent =
    let slot : handle_in (item_at between item).slot ≡ flushed_handle table items handle =
    ap (λ (i : Item). handle_in i.slot) same ∙ sym (slot_by table items handle item transient held_here) in
    subst (λ (slot : Option ℕ). IsFlushSent contexts seen nobodys slot old new) slot
    (sent_by seen nobodys (handle_in (item_at between item).slot) old middle new
    (ap (λ (i : Item). is_some (handle_in i.slot)) same ∙ there) own still
    (sent_once contexts unsent seen middle new (handle_in (item_at between item).slot) sent) (sent_answered contexts unsent seen middle new (handle_in (item_at between item).slot) sent))

-- one that is in no slot isn't flushed
unsent_by : (contexts : ContextLimits) {D : Type 0} (done : Type 0) (Sent : ℕ → Type 0) (seen : D → Seen) (nobodys : ℕ) (old new : D) (slot : Option ℕ) → is_some slot ≡ false
    → MatchOption slot (done × (new ≡ old)) Sent → IsFlushSent contexts seen nobodys slot old new
unsent_by contexts done Sent seen nobodys old new None out sent = sent.1
unsent_by contexts done Sent seen nobodys old new (Some handle) out sent = absurd cc

pub object_unsent : (contexts : ContextLimits) {D : Type 0} (done : Type 0) (Sent : ℕ → Type 0) (seen : D → Seen) (nobodys : ℕ) (table : List (Option ℕ)) (items : List Item)
    (handle item : ℕ) (old new : D) → (octet_of handle == HT_TRANSIENT) ≡ true → held_under table handle ≡ Some item
    → is_some (handle_in (item_at items item).slot) ≡ false → MatchOption (handle_in (item_at items item).slot) (done × (new ≡ old)) Sent
    → IsFlushSent contexts seen nobodys (flushed_handle table items handle) old new × (is_some (flushed_handle table items handle) ≡ false)
object_unsent contexts done Sent seen nobodys table items handle item old new transient held_here out sent =
    let slot : flushed_handle table items handle ≡ handle_in (item_at items item).slot = slot_by table items handle item transient held_here in (
      subst (λ (slot : Option ℕ). IsFlushSent contexts seen nobodys slot old new) (sym slot)
          (unsent_by contexts done Sent seen nobodys old new (handle_in (item_at items item).slot) out sent),
      ap (λ (slot : Option ℕ). is_some slot) slot ∙ out,
    )

-- ---- orphans

-- where there are no orphans, there are none after a flush
pub none_without_session : (held : Held) (new_view : sessions.SessionsView) (n : ℕ) → new_view.items ≡ set held.sessions.items n None
    → orphan_count held ≡ 0 → orphan_count (record { objects = held.objects; sessions = new_view }) ≡ 0
none_without_session held new_view n are none =
    omega (
      arith,
      none,
      ap (count_by sessions.is_orphan) are,
      zero_set sessions.is_orphan held.sessions.items n None refl (omega (arith, none)),
    )

pub none_without_object : (held : Held) (new_view : ObjectsView) → new_view.left ≡ held.objects.left → orphan_count held ≡ 0
    → orphan_count (record { objects = new_view; sessions = held.sessions }) ≡ 0
none_without_object held new_view left none = omega (arith, none, ap (λ (l : List ℕ). length l) left)
