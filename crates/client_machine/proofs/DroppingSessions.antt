-- A session is flushed, or is an orphan since its flush failed, or its client leaves it: what that leaves.
use Rattle.std.proofs.Common.{◌≡◌, ◌+◌, ◌<◌, ◌≤◌, inl, inr, ℕ, List, [], ◌∷◌, ◌++◌, length, length-append, set, refl, ap, sym, ◌∙◌, subst, arith}
use Rattle.std.specs.Prelude.{false, slice_get, Option, Some, None, Result, Ok, Err, is_err, IfOk, OnOk}
use Rattle.std.specs.List.{count_by}
use Rattle.tab_spec.specs.Count.{Rose}
use Rattle.tab_spec.specs.Shape.{number_of_session}
use Rattle.tab_spec.specs.Numbers.{leave_limit}
use Rattle.tab_spec.specs.declared.contexts.ContextLimits.{ContextLimits}
use Rattle.device_spec.specs.Slots.{SlotState}
use Rattle.device_port.specs.Device.{Seen, asked_of, last_of}
use Rattle.device_port.specs.Own.{IsOwnAnswered}
use Rattle.device_port.specs.Use.{without_one}
use Rattle.object_swap.specs.Items as objects
use Rattle.session_swap.specs.Items as sessions
use Rattle.session_swap.specs.Items.{HasGapRoom, KeepsRest, Names, SessionsView, Stand, counter_of, disowned, is_orphan, item_at, left_behind, sessions_of, without_session}
use Rattle.session_swap.proofs.Among.{named_inside, named_some}
use Rattle.session_swap.proofs.Counts.{count_set, flag_false, flag_most}
use Rattle.session_swap.proofs.Standing.{stands_behind, stands_disowned}
use Rattle.client_machine.specs.declared.held.Held.{Held}
use Rattle.client_machine.specs.Dropping.{AreLeftByFaults, Disowns, Drops, IsDropped, left_after}
use Rattle.client_machine.specs.Moves.{other_than}
use Rattle.client_machine.specs.Settled.{Settled, orphan_count, sessions_in}
use Rattle.client_machine.specs.Tables.{AreOpenOwners}
use Rattle.world_spec.specs.World.{Owned, closed_sessions}
use Rattle.client_machine.proofs.Disowning.{behind_owners, ended_in, ended_owners, orphaned_in, orphaned_owners, orphans_more, orphans_same}
use Rattle.client_machine.proofs.Dropping.{leaves_same}
use Rattle.client_machine.proofs.Keeping.{Forgets, counted_once, owners_same, right_none, right_of}
use Rattle.client_machine.proofs.Leaving.{IsGoing, IsLeaving, behind_held, left_closes, one_fewer, left_leaves, owned_held, saved_owner, shorter}
use Rattle.client_machine.proofs.LeftOnes.{disowned_unsaved, left_of}
use Rattle.client_machine.proofs.Prepared.{counts_same}
use Rattle.client_machine.proofs.Tried.{tried_behind, tried_then}
use Rattle.client_machine.proofs.Settling.{keeps_over_sessions, object_counter_over_sessions, objects_over_sessions, persist_over_sessions, settled_at, settled_over_sessions}

-- the same objects beside other sessions
abbrev pub with_sessions : Held → SessionsView → Held
with_sessions held view = record { objects = held.objects; sessions = view }

abbrev Items : Type 0
Items = List (Option sessions.Item)

-- what a flush of one session gives
pub record Ended {D : Type 0} (contexts : ContextLimits) (seen : D → Seen)
    (old new : D) (view new_view : SessionsView) (n : ℕ) : Type 0 where
  pub numbers : new_view.numbers ≡ view.numbers
  pub items_are : new_view.items ≡ set view.items n None
  pub left_is : new_view.left ≡ without_one n view.left
  pub sessions : sessions_of (seen new).state new_view.items ≡ without_session n (sessions_of (seen old).state view.items)
  pub stand : Stand (seen new).state new_view []
  pub room : HasGapRoom (seen new).state
  pub counter : counter_of (seen new).state ≡ counter_of (seen old).state
  pub rest : KeepsRest seen old new
  pub answered : IsOwnAnswered contexts (asked_of (seen new)) (last_of (seen new))
  pub made_for : new_view.contexts ≡ view.contexts

-- of a session that is no orphan
pub forgets : (contexts : ContextLimits) {D : Type 0} (seen : D → Seen)
    (client : ℕ) (old new : D) (held : Held) (new_view : SessionsView) (n : ℕ)
    → Ended contexts seen old new held.sessions new_view n → n < length held.sessions.items → is_orphan (item_at held.sessions.items n) ≡ false
    → Settled (seen old).state held → Forgets seen client old new held (with_sessions held new_view)
forgets contexts seen client old new held new_view n e inside none settled =
    let items = held.sessions.items in
    record {
      keeps = keeps_over_sessions seen old new e.rest;
      settled = settled_over_sessions (seen old).state (seen new).state held (with_sessions held new_view) e.rest.rest refl e.stand e.room settled;
      counts = counts_same (seen old).state (seen new).state (object_counter_over_sessions (seen old).state (seen new).state e.rest.rest) e.counter;
      others = owners_same (other_than client) held.objects.items;
      gained = λ index owner own other. own;
      other_objects = objects_over_sessions (seen old).state (seen new).state (other_than client) held.objects.items e.rest.rest;
      lists = refl;
      owners = λ present owners. subst (λ (l : Items). AreOpenOwners present l) (sym e.items_are) (ended_owners present items n owners);
      persist = persist_over_sessions (seen old).state (seen new).state e.rest.rest;
      orphans = omega (arith, ap (λ (l : Items). count_by is_orphan l) e.items_are, orphans_same items n None inside none refl);
      made_for = record { objects = refl; sessions = e.made_for };
      slots = refl;
      numbers = e.numbers;
      left = omega (arith, ap length e.left_is, shorter n held.sessions.left);
      length_is = refl;
    }

-- and one that the client's close drops
pub ended : {contexts : ContextLimits} {D : Type 0} (seen : D → Seen)
    (client : ℕ) (old new : D) (held : Held) (new_view : SessionsView) (n : ℕ)
    → Ended contexts seen old new held.sessions new_view n → IsGoing client held.sessions n → Settled (seen old).state held
    → Drops contexts seen client old new held (with_sessions held new_view) held.objects.owners 0
ended {contexts = contexts} seen client old new held new_view n e going settled =
    let items = held.sessions.items in
    let active = held.sessions.numbers.active in
    let f = forgets _ seen client old new held new_view n e going.inside going.held settled in
    let same = subst (λ (l : Items). sessions_of (seen new).state l ≡ without_session n (sessions_of (seen old).state items)) e.items_are e.sessions in
    record {
      keeps = f.keeps;
      settled = f.settled;
      counts = f.counts;
      others = f.others;
      gained = f.gained;
      other_objects = f.other_objects;
      lists = refl;
      closes = λ slots after is_old is_new.
          (λ i. closed_sessions client active (sessions_in after (e.items_are i)) (e.left_is i))
          ∙ ap (λ (l : List (Option Owned)). closed_sessions client active l (without_one n held.sessions.left))
          (ended_in (seen old).state (seen new).state items n slots after same is_old is_new)
          ∙ going.closes slots;
      leaves = (λ i. left_of client (e.numbers i).active (e.items_are i) (e.left_is i)) ∙ going.leaves None refl;
      few_left = λ few. omega (arith, few, f.left);
      owners = f.owners;
      persist = f.persist;
      orphans = omega (arith, f.orphans);
      left = leaves_same 0 held.objects.left held.objects.left refl;
      failures = inl (omega (arith, e.rest.count));
      right = inr (right_of contexts (asked_of (seen new)) (last_of (seen new)) e.answered);
      made_for = record { objects = refl; sessions = e.made_for };
      slots = refl;
      numbers = e.numbers;
      length_is = refl;
    }

-- ---- a flush failed

-- what is seen of the sessions then
abbrev orphaned_view : SessionsView → ℕ → SessionsView
orphaned_view view n = record view { items = set view.items n (disowned (item_at view.items n)); left = without_one n view.left }

orphaned_settled : (state : Option SlotState) (held : Held) (handle : ℕ) → Settled state held → Names held.sessions.items handle
    → Settled state (with_sessions held (orphaned_view held.sessions (number_of_session handle)))
orphaned_settled None held handle settled names = tt
orphaned_settled (Some slots) held handle settled names = record {
  objects = settled.objects;
  sessions = stands_disowned slots held.sessions (without_one (number_of_session handle) held.sessions.left) [] handle settled.sessions names;
  gap = settled.gap;
}

pub orphaned : {contexts : ContextLimits} {D : Type 0} (seen : D → Seen)
    (client : ℕ) (old new : D) (held : Held) (new_view : SessionsView) (handle : ℕ)
    → new_view ≡ orphaned_view held.sessions (number_of_session handle)
    → (seen new).state ≡ (seen old).state → KeepsRest seen old new → Rose (seen old).faults (seen new).faults → last_of (seen new) ≡ None
    → Names held.sessions.items handle → IsGoing client held.sessions (number_of_session handle) → Settled (seen old).state held
    → Drops contexts seen client old new held (with_sessions held new_view) held.objects.owners 1
orphaned {contexts = contexts} seen client old new held new_view handle view_is same rest rose none names going settled =
    let items = held.sessions.items in
    let active = held.sessions.numbers.active in
    let n = number_of_session handle in
    let items_are : new_view.items ≡ set items n (disowned (item_at items n)) = ap (λ (v : SessionsView). v.items) view_is in
    let left_is : new_view.left ≡ without_one n held.sessions.left = ap (λ (v : SessionsView). v.left) view_is in
    record {
      keeps = keeps_over_sessions seen old new rest;
      settled = subst (λ (s : Option SlotState). Settled s (with_sessions held new_view)) (sym same)
          (subst (λ (v : SessionsView). Settled (seen old).state (with_sessions held v)) (sym view_is) (orphaned_settled (seen old).state held handle settled names));
      counts = counts_same (seen old).state (seen new).state (ap objects.counter_of same) (ap counter_of same);
      others = owners_same (other_than client) held.objects.items;
      gained = λ index owner own other. own;
      other_objects = objects_over_sessions (seen old).state (seen new).state (other_than client) held.objects.items rest.rest;
      lists = refl;
      closes = λ slots after is_old is_new.
          (λ i. closed_sessions client active (sessions_in after (items_are i)) (left_is i))
          ∙ ap (λ (l : List (Option Owned)). closed_sessions client active l (without_one n held.sessions.left))
          (orphaned_in (seen old).state (seen new).state items n slots after same is_old is_new)
          ∙ going.closes slots;
      leaves = ap (left_after client) view_is ∙ going.leaves (disowned (item_at items n)) (disowned_unsaved client (item_at items n));
      few_left = λ few. omega (arith, few, ap length left_is, shorter n held.sessions.left);
      owners = λ present owners. subst (λ (l : Items). AreOpenOwners present l) (sym items_are) (orphaned_owners present items n owners);
      persist = persist_over_sessions (seen old).state (seen new).state rest.rest;
      orphans = omega (
        arith,
        ap (λ (l : Items). count_by is_orphan l) items_are,
        orphans_more items n going.inside (named_some items handle names) going.held,
      );
      left = leaves_same 1 held.objects.left held.objects.left refl;
      failures = counted_once (seen old).faults (seen new).faults rose;
      right = inr (right_none contexts (asked_of (seen new)) (last_of (seen new)) none);
      made_for = record { objects = refl; sessions = ap (λ (v : SessionsView). v.contexts) view_is };
      slots = refl;
      numbers = ap (λ (v : SessionsView). v.numbers) view_is;
      length_is = refl;
    }

-- ---- the client leaves a session that it saved

-- what is seen of the sessions then
abbrev pub behind_view : SessionsView → ℕ → SessionsView
behind_view view n = record view { items = set view.items n (left_behind (item_at view.items n)); left = view.left ++ n ∷ [] }

pub behind_settled : (state : Option SlotState) (held : Held) (view : SessionsView) (handle : ℕ) → view ≡ behind_view held.sessions (number_of_session handle)
    → Settled state held → Names held.sessions.items handle → Settled state (with_sessions held view)
behind_settled None held view handle is settled names = tt
behind_settled (Some slots) held view handle is settled names =
    subst (λ (v : SessionsView). Settled (Some slots) (with_sessions held v)) (sym is) (record {
      objects = settled.objects;
      sessions = stands_behind slots held.sessions (held.sessions.left ++ number_of_session handle ∷ []) [] handle settled.sessions names;
      gap = settled.gap;
    })

-- there are as many orphans
behind_orphans : (client : ℕ) (items : Items) (n : ℕ) → IsLeaving client items n
    → count_by is_orphan (set items n (left_behind (item_at items n))) ≡ count_by is_orphan items
behind_orphans client items n is =
    orphans_same items n (left_behind (item_at items n)) is.inside (owned_held client (item_at items n) is.own)
    (behind_held (item_at items n) (saved_owner client (item_at items n) is.own is.saved))

-- and what is dropped then
pub leaves_then : {contexts : ContextLimits} {D : Type 0} (seen : D → Seen) (client : ℕ) (old new : D) (held : Held) (view : SessionsView) (new_held : Held)
    (n failed : ℕ)
    → view ≡ behind_view held.sessions n → IsLeaving client held.sessions.items n → Settled (seen old).state held
    → (length held.sessions.left ≤ leave_limit held.sessions.numbers.active → length new_held.sessions.left ≤ leave_limit held.sessions.numbers.active)
    → Drops contexts seen client old new (with_sessions held view) new_held held.objects.owners failed
    → Drops contexts seen client old new held new_held held.objects.owners failed
leaves_then {contexts = contexts} seen client old new held view new_held n failed is leaving settled few drops =
    let items = held.sessions.items in
    let d : Drops contexts seen client old new (with_sessions held (behind_view held.sessions n)) new_held held.objects.owners failed =
    subst (λ (v : SessionsView). Drops contexts seen client old new (with_sessions held v) new_held held.objects.owners failed) is drops in
    record {
      keeps = d.keeps;
      settled = d.settled;
      counts = d.counts;
      others = d.others;
      gained = d.gained;
      other_objects = d.other_objects;
      lists = d.lists;
      closes = λ slots after is_old is_new.
          d.closes slots after is_old is_new
          ∙ left_closes client held.sessions n slots leaving (settled_at (seen old).state slots held settled is_old).sessions;
      leaves = d.leaves ∙ left_leaves client held.sessions n leaving;
      few_left = few;
      owners = λ present owners. d.owners present (behind_owners present items n owners);
      persist = d.persist;
      orphans = omega (arith, d.orphans, behind_orphans client items n leaving);
      left = d.left;
      failures = d.failures;
      right = d.right;
      made_for = record { objects = d.made_for.objects; sessions = d.made_for.sessions };
      slots = d.slots;
      numbers = d.numbers;
      length_is = d.length_is;
    }

pub disowns_behind : {contexts : ContextLimits} {D A : Type 0} (seen : D → Seen) (client : ℕ) (old new : D) (held : Held) (view : SessionsView) (new_held : Held)
    (n : ℕ) (result : Result A ℕ) → view ≡ behind_view held.sessions n → IsLeaving client held.sessions.items n
    → Disowns contexts seen old new (with_sessions held view) new_held result → Disowns contexts seen old new held new_held result
disowns_behind {contexts = contexts} seen client old new held view new_held n result is leaving disowns =
    let d : Disowns contexts seen old new (with_sessions held (behind_view held.sessions n)) new_held result =
    subst (λ (v : SessionsView). Disowns contexts seen old new (with_sessions held v) new_held result) is disowns in
    record {
      keeps = d.keeps;
      made_for = record { objects = d.made_for.objects; sessions = d.made_for.sessions };
      slots = d.slots;
      numbers = d.numbers;
      length_is = d.length_is;
      lists = d.lists;
      left = subst (λ (count : ℕ). AreLeftByFaults (length held.objects.left + count) (seen old).faults (orphan_count new_held) (seen new).faults)
          (behind_orphans client held.sessions.items n leaving) d.left;
      err = d.err;
      sent = tried_then seen old old new held.sessions.items _ new_held.sessions.items (is_err result) (tried_behind seen old held.sessions.items n) d.sent;
    }

-- ---- how many are orphans then

pub none_left : (faults new_faults : ℕ) (held : Held) (new_view : SessionsView) (handle : ℕ) → Names held.sessions.items handle
    → new_view.items ≡ set held.sessions.items (number_of_session handle) None → faults ≤ new_faults
    → AreLeftByFaults (orphan_count held) faults (orphan_count (with_sessions held new_view)) new_faults
none_left faults new_faults held new_view handle names is rose =
    let items = held.sessions.items in
    inl (omega (
      arith,
      ap (λ (l : Items). count_by is_orphan l) is,
      count_set is_orphan items (number_of_session handle) None None (named_inside items handle names),
      flag_false (is_orphan None) refl,
      rose,
    ))

pub one_left : (faults new_faults : ℕ) (held : Held) (new_view : SessionsView) (handle : ℕ) → Names held.sessions.items handle
    → new_view.items ≡ set held.sessions.items (number_of_session handle) (disowned (item_at held.sessions.items (number_of_session handle)))
    → Rose faults new_faults → AreLeftByFaults (orphan_count held) faults (orphan_count (with_sessions held new_view)) new_faults
one_left faults new_faults held new_view handle names is rose =
    let items = held.sessions.items in
    let n = number_of_session handle in
    let left_item = disowned (item_at items n) in
    let count = ap (λ (l : Items). count_by is_orphan l) is in
    let one = count_set is_orphan items n left_item None (named_inside items handle names) in
    elim (counted_once faults new_faults rose) [
      | inl once ↦ inl (omega (arith, count, one, flag_most (is_orphan left_item), once))
      | inr most ↦ inr most
    ]

-- ---- where the result of a call is passed on

pub drops_passed : (contexts : ContextLimits) {D : Type 0} (seen : D → Seen) (client handle : ℕ) (old new : D) (held new_held : Held) (result : Result ℕ ℕ)
    → IsDropped client held.sessions handle
    → IfOk result (λ failed. (c : ℕ) → IsDropped c held.sessions handle → Drops contexts seen c old new held new_held held.objects.owners failed)
    → IfOk result (λ failed. Drops contexts seen client old new held new_held held.objects.owners failed)
drops_passed contexts seen client handle old new held new_held (Ok failed) is drops = drops client is
drops_passed contexts seen client handle old new held new_held (Err code) is drops = tt

-- a session is left, and the one that was left longest is dropped
pub leaves_dropped : (contexts : ContextLimits) {D : Type 0} (seen : D → Seen) (client : ℕ) (old new : D) (held : Held) (view : SessionsView) (new_held : Held)
    (n first : ℕ) (result : Result ℕ ℕ) → view ≡ behind_view held.sessions n → IsLeaving client held.sessions.items n → Settled (seen old).state held
    → slice_get view.left 0 ≡ Some first → OnOk result (new_held.sessions.left ≡ without_one first view.left)
    → IfOk result (λ failed. Drops contexts seen client old new (with_sessions held view) new_held held.objects.owners failed)
    → IfOk result (λ failed. Drops contexts seen client old new held new_held held.objects.owners failed)
leaves_dropped contexts seen client old new held view new_held n first (Ok failed) is leaving settled first_is gone drops =
    let longer : length view.left ≡ length held.sessions.left + 1 =
    ap (λ (v : SessionsView). length v.left) is ∙ length-append held.sessions.left (n ∷ []) in
    leaves_then seen client old new held view new_held n failed is leaving settled
    (λ few. omega (arith, few, longer, ap length gone, one_fewer first view.left first_is)) drops
leaves_dropped contexts seen client old new held view new_held n first (Err code) is leaving settled first_is gone drops = tt
