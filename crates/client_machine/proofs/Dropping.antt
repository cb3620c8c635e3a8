-- A client's object is flushed, or an orphan since its flush failed: every other item as it was, and the client's table without
-- its handle. What is dropped one after another is dropped in one.
use Rattle.std.proofs.Common.{◌≡◌, ◌≢◌, ◌⊎◌, ◌+◌, ◌≤◌, ◌<◌, ◌++◌, ◌∷◌, inl, inr, ℕ, suc, Bool, true, false, List, [], length, get_or, set, map, refl, ap, sym, ◌∙◌, subst, append-nil, append_assoc, arith}
use Rattle.std.specs.Prelude.{◌==◌, ◌&&◌, nat_lt, not, Option, Some, None, is_some, Result, Ok, Err, is_err, OnErr, if◌then◌else◌}
use Rattle.std.specs.List.{AllByRecursion}
use Rattle.std.proofs.lemmas.Bool.{cases_eq, eqb-false, false≢true, ne_eqb, eq-eqb}
use Rattle.std.proofs.lemmas.List.{get_or-map, get_or-set_same, get_or-set_other, length-append, length-set}
use Rattle.tab_spec.specs.declared.TheConstants.{TRANSIENT_FIRST}
use Rattle.tab_spec.specs.Count.{Rose}
use Rattle.tab_spec.specs.Object.{Object}
use Rattle.tab_spec.specs.declared.contexts.ContextLimits.{ContextLimits}
use Rattle.device_spec.specs.Answers.{IsRight}
use Rattle.device_spec.specs.Slots.{SlotState}
use Rattle.device_port.specs.Device.{Seen, asked_of, last_of}
use Rattle.device_port.specs.Own.{IsOwnAnswered}
use Rattle.device_port.specs.Use.{without_one}
use Rattle.object_swap.specs.Items.{HasNone, Item, KeepsRest, Names, ObjectsView, Stand, counter_of, handle_in, is_client, is_owner, is_resident, is_vacant, item_at, item_object, no_item, objects_of, rest_of, without_object}
use Rattle.object_swap.specs.Records.{number}
use Rattle.object_swap.proofs.Counts.{count_cons, all_but, count_one, count_set, number_true}
use Rattle.object_swap.proofs.Orphans.{orphaned_last, orphaned_stand}
use Rattle.session_swap.specs.Items as sessions
use Rattle.tab_spec.specs.declared.numbers.Numbers.{Numbers}
use Rattle.tab_spec.specs.Numbers.{leave_limit}
use Rattle.history_spec.specs.Table.{held_under, number_of_object, without_handle}
use Rattle.world_spec.specs.World.{closed_sessions}
use Rattle.history_laws.proofs.Counts.{one_false, one_if}
use Rattle.history_laws.proofs.Tables.{held_all, named, without_by, without_count}
use Rattle.client_machine.specs.declared.held.Held.{Held}
use Rattle.client_machine.specs.Costs.{own_objects, own_residents}
use Rattle.client_machine.specs.Dropping.{AreLeftByFaults, Disowns, Drops, LeavesMore, SendsFlushes}
use Rattle.client_machine.specs.Moves.{GainsNone, KeepsObjectsOf, KeepsOwners, other_than}
use Rattle.client_machine.specs.Settled.{Settled, sessions_in}
use Rattle.client_machine.specs.Tables.{IsTable, IsTablePlace, is_item, naming_in}
use Rattle.client_machine.proofs.Keeping.{ClosesAs, Forgets, closes_same, closes_then, counted_both, counted_once, left_then, objects_same, owners_same, persist_same, right_none, rightly, for_then, same_for}
use Rattle.client_machine.proofs.Orphans.{answered_then, gains_then, keeps_same, keeps_then, objects_then, owners_then, persist_then}
use Rattle.client_machine.proofs.Prepared.{counts_same, counts_then}
use Rattle.client_machine.proofs.Settling.{counter_over_objects, keeps_over_objects, persist_over_objects, rest_over_objects, settled_over_objects, some_same}
use Rattle.client_machine.proofs.Staying.{set_at}
use Rattle.client_machine.proofs.Tried.{none_tried, tried_then}

-- ---- an object of a client

-- an index names an object of a client
pub record IsNamed (items : List Item) (client item : ℕ) : Type 0 where
  pub names : Names items item
  pub own : (item_at items item).client ≡ Some client

pub held_named : (items : List Item) (client : ℕ) (table : List (Option ℕ)) (handle item : ℕ) → IsTable items client table
    → held_under table handle ≡ Some item → IsNamed items client item
held_named items client table handle item is held_here =
    let named = subst (λ (place : Option ℕ). IsTablePlace client items place) held_here
    (held_all (λ (place : Option ℕ). IsTablePlace client items place) table handle is.named tt) in
    record { names = named.0; own = named.1 }

-- ---- the other items

other_at : (items : List Item) (item index : ℕ) → index ≢ item → item_at (set items item no_item) index ≡ item_at items index
other_at items item index apart = get_or-set_other items item index no_item no_item apart

other_names : (items : List Item) (item index : ℕ) → Names items index → index ≢ item → Names (set items item no_item) index
other_names items item index names apart = record {
  inside = omega (arith, names.inside, length-set items item no_item);
  there = ap is_vacant (other_at items item index apart) ∙ names.there;
}

-- another client's item is another one
another : (items : List Item) (client item index owner : ℕ) → (item_at items item).client ≡ Some client → (item_at items index).client ≡ Some owner
    → other_than client owner ≡ true → index ≢ item
another items client item index owner own is other =
    λ same.
    let one : owner ≡ client = some_same (sym is ∙ ap (λ (n : ℕ). (item_at items n).client) same ∙ own) in
    false≢true (sym (ap not (eq-eqb owner client one)) ∙ other)

others_left : (items : List Item) (client item : ℕ) → (item_at items item).client ≡ Some client
    → KeepsOwners (other_than client) items (set items item no_item)
others_left items client item own =
    λ index owner names is other.
    let apart = another items client item index owner own is other in (
      other_names items item index names apart,
      ap (λ (i : Item). i.client) (other_at items item index apart) ∙ is,
    )

none_gained : (whose : ℕ → Bool) (items : List Item) (item : ℕ) → GainsNone whose items (set items item no_item)
none_gained whose items item =
    λ index owner own mine.
    elim (set_at items item no_item no_item index) [
      | inl same ↦ ap (λ (i : Item). i.client) (sym same) ∙ own
      | inr here ↦
          let none : ◌≡◌ {A = Option ℕ} None (Some owner) = ap (λ (i : Item). i.client) (sym here.1) ∙ own in absurd cc
    ]

-- their objects, where one is gone
gone_object : (slots new : SlotState) (items : List Item) (item index : ℕ)
    → map (λ i. item_object new i) (set items item no_item) ≡ set (map (λ i. item_object slots i) items) item None → index < length items → index ≢ item
    → item_object new (item_at (set items item no_item) index) ≡ item_object slots (item_at items index)
gone_object slots new items item index same inside apart =
    sym (get_or-map (λ (i : Item). item_object new i) (set items item no_item) index no_item None (omega (arith, inside, length-set items item no_item)))
    ∙ ap (λ (objects : List (Option Object)). get_or objects index None) same
    ∙ get_or-set_other (map (λ (i : Item). item_object slots i) items) item index None None apart
    ∙ get_or-map (λ (i : Item). item_object slots i) items index no_item None inside

gone_others : (old new : Option SlotState) (items : List Item) (client item : ℕ) → (item_at items item).client ≡ Some client
    → objects_of new (set items item no_item) ≡ without_object item (objects_of old items)
    → KeepsObjectsOf (other_than client) old new items (set items item no_item)
gone_others old new items client item own same =
    λ slots after index owner is_old is_new names is other.
    gone_object slots after items item index
    (some_same (
    ap (λ (state : Option SlotState). objects_of state (set items item no_item)) (sym is_new)
    ∙ same
    ∙ ap (λ (state : Option SlotState). without_object item (objects_of state items)) is_old
    ))
    names.inside (another items client item index owner own is other)

-- where one is an orphan then
left_others : (old new : Option SlotState) (items : List Item) (client item : ℕ) → (item_at items item).client ≡ Some client → new ≡ old
    → KeepsObjectsOf (other_than client) old new items (set items item no_item)
left_others old new items client item own same =
    λ slots after index owner is_old is_new names is other.
    let state : after ≡ slots = some_same (sym is_new ∙ same ∙ is_old) in
    ap (λ (s : SlotState). item_object s (item_at (set items item no_item) index)) state
    ∙ ap (item_object slots) (other_at items item index (another items client item index owner own is other))

-- ---- how many there are

own_client : (client : ℕ) (item : Item) → item.client ≡ Some client → is_client client item ≡ true
own_client client item own = ap (is_owner client) own ∙ eq-eqb client client refl

-- the client has one at least, and one fewer without it
pub some_object : (items : List Item) (client item : ℕ) → IsNamed items client item → 1 ≤ own_objects client items
some_object items client item at =
    omega (
      arith,
      count_one (is_client client) items item no_item at.names.inside,
      number_true (is_client client (item_at items item)) (own_client client (item_at items item) at.own),
    )

pub fewer_objects : (items new_items : List Item) (client item : ℕ) → IsNamed items client item → new_items ≡ set items item no_item
    → own_objects client new_items + 1 ≡ own_objects client items
fewer_objects items new_items client item at are =
    omega (
      arith,
      ap (own_objects client) are,
      count_set (is_client client) items item no_item no_item at.names.inside,
      number_true (is_client client (item_at items item)) (own_client client (item_at items item) at.own),
    )

-- how many objects the client of a list has
abbrev pub objects_left : Option ℕ → List Item → ℕ
objects_left None items = 0
objects_left (Some client) items = own_objects client items

resident_own : (slot : Option ℕ) (own : Bool) → own ≡ true → one_if (is_some slot && own) ≡ one_if (is_some (handle_in slot))
resident_own None own is = refl
resident_own (Some slot) own is = ap one_if is

resident_at : (items : List Item) (client item : ℕ) → IsNamed items client item
    → one_if (is_resident (item_at items item) && is_client client (item_at items item)) ≡ one_if (is_some (handle_in (item_at items item).slot))
resident_at items client item at =
    resident_own (item_at items item).slot (is_client client (item_at items item)) (own_client client (item_at items item) at.own)

-- and one fewer in a slot, where it was in one
pub fewer_residents : (items new_items : List Item) (client item : ℕ) → IsNamed items client item → new_items ≡ set items item no_item
    → own_residents client new_items + one_if (is_some (handle_in (item_at items item).slot)) ≡ own_residents client items
fewer_residents items new_items client item at are =
    omega (
      arith,
      ap (own_residents client) are,
      count_set (λ (i : Item). is_resident i && is_client client i) items item no_item no_item at.names.inside,
      resident_at items client item at,
    )

pub among_residents : (items : List Item) (client item : ℕ) → IsNamed items client item
    → one_if (is_some (handle_in (item_at items item).slot)) ≤ own_residents client items
among_residents items client item at =
    omega (
      arith,
      count_one (λ (i : Item). is_resident i && is_client client i) items item no_item at.names.inside,
      resident_at items client item at,
    )

-- ---- the table

there_by : (table : List (Option ℕ)) (handle item : ℕ) → held_under table handle ≡ Some item → is_some (held_under table handle) ≡ true
there_by table handle item held_here = ap (λ (place : Option ℕ). is_some place) held_here

taken_out : (table : List (Option ℕ)) (handle : ℕ) → is_some (held_under table handle) ≡ true
    → without_handle table handle ≡ set table (number_of_object handle) None
taken_out table handle there = ap (λ (some : Bool). if some then set table (number_of_object handle) None else table) there

stands_by : (low : Bool) (place : Option ℕ) → is_some (if low then None else place) ≡ true → place ≡ (if low then None else place)
stands_by true place there = absurd cc
stands_by false place there = refl

-- what a handle names stands in its place, and in no other
elsewhere : (items : List Item) (client : ℕ) (table : List (Option ℕ)) (handle item : ℕ) → IsTable items client table → held_under table handle ≡ Some item
    → (j : ℕ) → j ≢ number_of_object handle → is_item item (get_or table j None) ≡ false
elsewhere items client table handle item is held_here j apart =
    let n = number_of_object handle in
    let at : get_or table n None ≡ Some item =
    stands_by (nat_lt handle TRANSIENT_FIRST) (get_or table n None) (there_by table handle item held_here) ∙ held_here in
    let here : is_item item (get_or table n None) ≡ true = ap (is_item item) at ∙ eq-eqb item item refl in
    named table n j (λ (place : Option ℕ). is_item item place) (is.apart item) here refl (ne_eqb j n apart)

naming_left : (table : List (Option ℕ)) (handle item index : ℕ) → held_under table handle ≡ Some item
    → naming_in index (without_handle table handle) + one_if (item == index) ≡ naming_in index table
naming_left table handle item index held_here =
    omega (
      arith,
      without_by (λ (place : Option ℕ). is_item index place) table handle refl (there_by table handle item held_here),
      ap (λ (place : Option ℕ). one_if (is_item index place)) held_here,
    )

other_place : (items : List Item) (client item : ℕ) (place : Option ℕ) → is_item item place ≡ false → IsTablePlace client items place
    → IsTablePlace client (set items item no_item) place
other_place items client item None apart is = tt
other_place items client item (Some index) apart is =
    let other : index ≢ item = eqb-false index item apart in
    (other_names items item index is.0 other, ap (λ (i : Item). i.client) (other_at items item index other) ∙ is.1)

-- each object that is left to the client is named
all_left : (items : List Item) (client : ℕ) (table : List (Option ℕ)) (handle item index : ℕ) → IsTable items client table
    → held_under table handle ≡ Some item → (item_at (set items item no_item) index).client ≡ Some client
    → 1 ≤ naming_in index (without_handle table handle)
all_left items client table handle item index is held_here own =
    elim (cases_eq index item) [
      | inl same ↦
          let inside = (held_named items client table handle item is held_here).names.inside in
          let gone : item_at (set items item no_item) index ≡ no_item =
          ap (λ (n : ℕ). item_at (set items item no_item) n) same ∙ get_or-set_same items item no_item no_item inside in
          let none : ◌≡◌ {A = Option ℕ} None (Some client) = ap (λ (i : Item). i.client) (sym gone) ∙ own in absurd cc
      | inr apart ↦ omega (
        arith,
        is.all index (ap (λ (i : Item). i.client) (sym (other_at items item index apart)) ∙ own),
        naming_left table handle item index held_here,
        one_false (item == index) (ne_eqb item index (λ same. apart (sym same))),
      )
    ]

table_left : (items : List Item) (client : ℕ) (table : List (Option ℕ)) (handle item : ℕ) → IsTable items client table
    → held_under table handle ≡ Some item → IsTable (set items item no_item) client (without_handle table handle)
table_left items client table handle item is held_here =
    let n = number_of_object handle in
    let there = there_by table handle item held_here in
    let new_items = set items item no_item in
    record {
      named = subst (λ (places : List (Option ℕ)). AllByRecursion (λ place. IsTablePlace client new_items place) places) (sym (taken_out table handle there))
          (all_but (λ (place : Option ℕ). IsTablePlace client items place) (λ (place : Option ℕ). IsTablePlace client new_items place) table n None None is.named
          (λ j inside apart. other_place items client item (get_or table j None) (elsewhere items client table handle item is held_here j apart)) tt);
      apart = λ index. omega (arith, is.apart index, naming_left table handle item index held_here);
      all = λ index own. all_left items client table handle item index is held_here own;
      few = omega (arith, is.few, without_count table handle there);
      short = omega (arith, is.short, ap (λ (l : List (Option ℕ)). length l) (taken_out table handle there), length-set table n None);
    }

-- a handle leaves its table, and its item is nowhere then
pub table_after : (items new_items : List Item) (client : ℕ) (table new_table : List (Option ℕ)) (handle item : ℕ) → IsTable items client table
    → held_under table handle ≡ Some item → new_items ≡ set items item no_item → new_table ≡ without_handle table handle
    → IsTable new_items client new_table
table_after items new_items client table new_table handle item is held_here are without_is =
    subst (λ (l : List (Option ℕ)). IsTable new_items client l) (sym without_is)
    (subst (λ (l : List Item). IsTable l client (without_handle table handle)) (sym are) (table_left items client table handle item is held_here))

-- a client without objects has an empty table
owns_none : (client : ℕ) (item : Item) → is_client client item ≡ false → item.client ≡ Some client → ⊥
owns_none client item none own = false≢true (sym none ∙ own_client client item own)

pub no_table : (items : List Item) (client : ℕ) → HasNone items client → IsTable items client []
no_table items client none = record {
  named = tt;
  apart = λ index. omega arith;
  all = λ index own. absurd (owns_none client (item_at items index) (none index) own);
  few = omega arith;
  short = omega arith;
}

-- a client that has no object has none to be counted
pub none_owned : (items : List Item) (client : ℕ) → HasNone items client → own_objects client items ≡ 0
none_owned [] client none = refl
none_owned (item ∷ items) client none =
    omega (arith, count_cons (is_client client) item items, ap number (none 0), none_owned items client (λ index. none (suc index)))

-- ---- what closed clients left

-- where the slots stay
pub leaves_same : (most : ℕ) (left new_left : List ℕ) → new_left ≡ left → LeavesMore most left new_left
leaves_same most left new_left same = ([], same ∙ sym (append-nil left), omega arith)

leaves_then : (n m : ℕ) (left between new_left : List ℕ) → LeavesMore n left between → LeavesMore m between new_left → LeavesMore (n + m) left new_left
leaves_then n m left between new_left (more, is, few) (later, then_is, few_later) = (
  more ++ later,
  then_is ∙ ap (λ (l : List ℕ). l ++ later) is ∙ append_assoc left more later,
  omega (arith, length-append more later, few, few_later),
)

-- ---- one object is flushed

-- the same sessions beside other objects
abbrev pub with_objects : Held → ObjectsView → Held
with_objects held view = record { objects = view; sessions = held.sessions }

-- what dropping one object gives
pub record Dropped {D : Type 0} (contexts : ContextLimits) (seen : D → Seen)
    (old new : D) (view new_view : ObjectsView) (item : ℕ) : Type 0 where
  pub items_are : new_view.items ≡ set view.items item no_item
  pub objects : objects_of (seen new).state new_view.items ≡ without_object item (objects_of (seen old).state view.items)
  pub stand : Stand (seen new).state new_view.items view.left
  pub counter : counter_of (seen new).state ≡ counter_of (seen old).state
  pub rest : KeepsRest seen old new
  pub taken : (new ≡ old) ⊎ IsOwnAnswered contexts (asked_of (seen new)) (last_of (seen new))
  pub slots : new_view.slots ≡ view.slots
  pub owners : new_view.owners ≡ view.owners
  pub left : new_view.left ≡ view.left
  pub made_for : new_view.contexts ≡ view.contexts

-- the sessions are the same in a device whose objects changed
sessions_unmoved : (client : ℕ) (old new : Option SlotState) (view : sessions.SessionsView) → rest_of new ≡ rest_of old
    → ClosesAs client view.numbers.active old new view.items view.items view.left view.left
sessions_unmoved client old new view same =
    λ slots after is_old is_new.
    ap (λ (s : SlotState). closed_sessions client view.numbers.active (sessions_in s view.items) view.left)
    (rest_over_objects old new slots after same is_old is_new)

pub dropped : {contexts : ContextLimits} {D : Type 0} (seen : D → Seen) (client : ℕ) (old new : D) (held : Held) (new_view : ObjectsView) (item : ℕ)
    → Dropped contexts seen old new held.objects new_view item → IsNamed held.objects.items client item → Settled (seen old).state held
    → Drops contexts seen client old new held (with_objects held new_view) held.objects.owners 0
dropped {contexts = contexts} seen client old new held new_view item d at settled =
    let items = held.objects.items in
    let back : set items item no_item ≡ new_view.items = sym d.items_are in
    record {
      keeps = keeps_over_objects seen old new d.rest;
      settled = settled_over_objects (seen old).state (seen new).state held (with_objects held new_view) d.rest.rest refl
          (subst (λ (l : List ℕ). Stand (seen new).state new_view.items l) (sym d.left) d.stand) settled;
      counts = counts_same (seen old).state (seen new).state d.counter (counter_over_objects (seen old).state (seen new).state d.rest.rest);
      others = subst (λ (l : List Item). KeepsOwners (other_than client) items l) back (others_left items client item at.own);
      gained = subst (λ (l : List Item). GainsNone (other_than client) items l) back (none_gained (other_than client) items item);
      other_objects = subst (λ (l : List Item). KeepsObjectsOf (other_than client) (seen old).state (seen new).state items l) back
          (gone_others (seen old).state (seen new).state items client item at.own
          (subst (λ (l : List Item). objects_of (seen new).state l ≡ without_object item (objects_of (seen old).state items)) d.items_are d.objects));
      lists = d.owners;
      closes = sessions_unmoved client (seen old).state (seen new).state held.sessions d.rest.rest;
      leaves = refl;
      few_left = λ few. few;
      owners = λ present owners. owners;
      persist = persist_over_objects (seen old).state (seen new).state d.rest.rest;
      orphans = omega (arith, ap (λ (l : List ℕ). length l) d.left);
      left = leaves_same 0 held.objects.left new_view.left d.left;
      failures = inl (omega (arith, d.rest.count));
      right = rightly contexts seen old new d.taken;
      made_for = record { objects = d.made_for; sessions = refl };
      slots = d.slots;
      numbers = refl;
      length_is = ap length d.items_are ∙ length-set items item no_item;
    }

-- ---- a flush failed

-- what making one object an orphan gives: its record is free, and its slot is that of an orphan
abbrev pub orphaned : ObjectsView → (item slot : ℕ) → ObjectsView
orphaned view item slot =
    record view { items = set view.items item no_item; order = without_one item view.order; left = view.left ++ slot ∷ [] }

left_settled : (state : Option SlotState) (held : Held) (item slot : ℕ) → Settled state held → Names held.objects.items item
    → (item_at held.objects.items item).slot ≡ Some slot → Settled state (with_objects held (orphaned held.objects item slot))
left_settled None held item slot settled names is = tt
left_settled (Some slots) held item slot settled names is = record {
  objects = orphaned_last slots (set held.objects.items item no_item) slot held.objects.left
      (orphaned_stand slots held.objects.items item slot held.objects.left settled.objects names.inside is);
  sessions = settled.sessions;
  gap = settled.gap;
}

pub left : {contexts : ContextLimits} {D : Type 0} (seen : D → Seen) (client : ℕ) (old new : D) (held : Held) (new_view : ObjectsView) (item slot : ℕ)
    → new_view ≡ orphaned held.objects item slot → (item_at held.objects.items item).slot ≡ Some slot
    → (seen new).state ≡ (seen old).state → KeepsRest seen old new → Rose (seen old).faults (seen new).faults → last_of (seen new) ≡ None
    → IsNamed held.objects.items client item → Settled (seen old).state held
    → Drops contexts seen client old new held (with_objects held new_view) held.objects.owners 1
left {contexts = contexts} seen client old new held new_view item slot view_is slot_is same rest rose none at settled =
    let items = held.objects.items in
    let items_are : new_view.items ≡ set items item no_item = ap (λ (v : ObjectsView). v.items) view_is in
    let back : set items item no_item ≡ new_view.items = sym items_are in
    record {
      keeps = keeps_over_objects seen old new rest;
      settled = subst (λ (s : Option SlotState). Settled s (with_objects held new_view)) (sym same)
          (subst (λ (v : ObjectsView). Settled (seen old).state (with_objects held v)) (sym view_is)
          (left_settled (seen old).state held item slot settled at.names slot_is));
      counts = counts_same (seen old).state (seen new).state (ap counter_of same) (ap sessions.counter_of same);
      others = subst (λ (l : List Item). KeepsOwners (other_than client) items l) back (others_left items client item at.own);
      gained = subst (λ (l : List Item). GainsNone (other_than client) items l) back (none_gained (other_than client) items item);
      other_objects = subst (λ (l : List Item). KeepsObjectsOf (other_than client) (seen old).state (seen new).state items l) back
          (left_others (seen old).state (seen new).state items client item at.own same);
      lists = ap (λ (v : ObjectsView). v.owners) view_is;
      closes = sessions_unmoved client (seen old).state (seen new).state held.sessions rest.rest;
      leaves = refl;
      few_left = λ few. few;
      owners = λ present owners. owners;
      persist = persist_over_objects (seen old).state (seen new).state rest.rest;
      orphans = omega (arith, ap (λ (v : ObjectsView). length v.left) view_is, length-append held.objects.left (slot ∷ []));
      left = (slot ∷ [], ap (λ (v : ObjectsView). v.left) view_is, omega arith);
      failures = counted_once (seen old).faults (seen new).faults rose;
      right = inr (right_none contexts (asked_of (seen new)) (last_of (seen new)) none);
      made_for = record { objects = ap (λ (v : ObjectsView). v.contexts) view_is; sessions = refl };
      slots = ap (λ (v : ObjectsView). v.slots) view_is;
      numbers = refl;
      length_is = ap length items_are ∙ length-set items item no_item;
    }

-- ---- one after another

pub drops_none : {contexts : ContextLimits} {D : Type 0} (seen : D → Seen) (client : ℕ) (old : D) (held : Held) → Settled (seen old).state held
    → Drops contexts seen client old old held held held.objects.owners 0
drops_none seen client old held settled = record {
  keeps = keeps_same seen old;
  settled = settled;
  counts = counts_same (seen old).state (seen old).state refl refl;
  others = owners_same (other_than client) held.objects.items;
  gained = λ index owner own other. own;
  other_objects = objects_same (other_than client) (seen old).state held.objects.items;
  lists = refl;
  closes = closes_same client held.sessions.numbers.active (seen old).state held.sessions.items held.sessions.left;
  leaves = refl;
  few_left = λ few. few;
  owners = λ present owners. owners;
  persist = persist_same (seen old).state;
  orphans = omega arith;
  left = leaves_same 0 held.objects.left held.objects.left refl;
  failures = inl (omega arith);
  right = inl refl;
  made_for = same_for held;
  slots = refl;
  numbers = refl;
  length_is = refl;
}

few_then : {active still between new_left : ℕ} → still ≡ active → between ≤ leave_limit active → (between ≤ leave_limit still → new_left ≤ leave_limit still)
    → new_left ≤ leave_limit active
few_then {between = between} {new_left = new_left} same few more =
    subst (λ (n : ℕ). new_left ≤ leave_limit n) same (more (subst (λ (n : ℕ). between ≤ leave_limit n) (sym same) few))

pub drops_then : {contexts : ContextLimits} {D : Type 0} (seen : D → Seen) (client : ℕ) (old middle new : D) (held between new_held : Held) (n m : ℕ)
    → Drops contexts seen client old middle held between held.objects.owners n
    → Drops contexts seen client middle new between new_held between.objects.owners m
    → Drops contexts seen client old new held new_held held.objects.owners (n + m)
drops_then {contexts = contexts} {D = D} seen client old middle new held between new_held n m first second = record {
  keeps = keeps_then seen old middle new first.keeps second.keeps;
  settled = second.settled;
  counts = counts_then 0 0 0 (seen old).state (seen middle).state (seen new).state (omega arith) first.counts second.counts;
  others = owners_then (other_than client) held.objects.items between.objects.items new_held.objects.items first.others second.others;
  gained = gains_then (other_than client) held.objects.items between.objects.items new_held.objects.items first.gained second.gained;
  other_objects = objects_then (other_than client) (seen old).state (seen middle).state (seen new).state held.objects.items between.objects.items
      new_held.objects.items first.keeps.tells first.others first.other_objects second.other_objects;
  lists = second.lists ∙ first.lists;
  closes = closes_then client held.sessions.numbers.active between.sessions.numbers.active (seen old).state (seen middle).state (seen new).state
      held.sessions.items between.sessions.items new_held.sessions.items held.sessions.left between.sessions.left new_held.sessions.left
      first.keeps.tells (ap (λ (n : Numbers). n.active) first.numbers) first.closes second.closes;
  leaves = second.leaves ∙ first.leaves;
  few_left = λ few. few_then (ap (λ (n : Numbers). n.active) first.numbers) (first.few_left few) second.few_left;
  owners = λ present owners. second.owners present (first.owners present owners);
  persist = persist_then (seen old).state (seen middle).state (seen new).state first.keeps.tells first.persist second.persist;
  orphans = omega (arith, first.orphans, second.orphans);
  left = leaves_then n m held.objects.left between.objects.left new_held.objects.left first.left second.left;
  failures = counted_both (seen old).faults (seen middle).faults (seen new).faults n m second.keeps.count first.failures second.failures;
  right = answered_then (λ (d : D). IsRight contexts (asked_of (seen d)) (last_of (seen d))) old middle new first.right second.right;
  made_for = for_then held between new_held first.made_for second.made_for;
  slots = second.slots ∙ first.slots;
  numbers = second.numbers ∙ first.numbers;
  length_is = second.length_is ∙ first.length_is;
}

-- the client's list is nobody's then
abbrev pub ended_list : ObjectsView → ℕ → ObjectsView
ended_list view list = record view { owners = set view.owners list None }

ended_settled : (state : Option SlotState) (held : Held) (list : ℕ) → Settled state held → Settled state (with_objects held (ended_list held.objects list))
ended_settled None held list settled = tt
ended_settled (Some slots) held list settled = record { objects = settled.objects; sessions = settled.sessions; gap = settled.gap }

pub drops_ended : {contexts : ContextLimits} {D : Type 0} (seen : D → Seen) (client : ℕ) (old new : D) (held new_held : Held) (view : ObjectsView) (list n : ℕ)
    → Drops contexts seen client old new held new_held held.objects.owners n → view ≡ ended_list new_held.objects list
    → Drops contexts seen client old new held (with_objects new_held view) (set held.objects.owners list None) n
drops_ended {contexts = contexts} seen client old new held new_held view list n drops view_is =
    subst (λ (v : ObjectsView). Drops contexts seen client old new held (with_objects new_held v) (set held.objects.owners list None) n) (sym view_is)
    (record {
      keeps = drops.keeps;
      settled = ended_settled (seen new).state new_held list drops.settled;
      counts = drops.counts;
      others = drops.others;
      gained = drops.gained;
      other_objects = drops.other_objects;
      lists = ap (λ (owners : List (Option ℕ)). set owners list None) drops.lists;
      closes = drops.closes;
      leaves = drops.leaves;
      few_left = drops.few_left;
      owners = drops.owners;
      persist = drops.persist;
      orphans = drops.orphans;
      left = drops.left;
      failures = drops.failures;
      right = drops.right;
      made_for = record { objects = drops.made_for.objects; sessions = drops.made_for.sessions };
      slots = drops.slots;
      numbers = drops.numbers;
      length_is = drops.length_is;
    })

-- one object of the client's, for FlushContext
pub drops_object : {contexts : ContextLimits} {D : Type 0} (seen : D → Seen) (client : ℕ) (old new : D) (held : Held) (view : ObjectsView)
    → Drops contexts seen client old new held (with_objects held view) held.objects.owners 0 → Forgets seen client old new held (with_objects held view)
drops_object seen client old new held view drops = record {
  keeps = drops.keeps;
  settled = drops.settled;
  counts = drops.counts;
  others = drops.others;
  gained = drops.gained;
  other_objects = drops.other_objects;
  lists = drops.lists;
  owners = drops.owners;
  persist = drops.persist;
  orphans = omega (arith, drops.orphans);
  made_for = drops.made_for;
  slots = drops.slots;
  numbers = refl;
  left = omega arith;
  length_is = drops.length_is;
}

-- ---- what couldn't be flushed

pub disowns_none : {contexts : ContextLimits} {D : Type 0} (seen : D → Seen) (device : D) (held : Held) (n : ℕ) → Disowns contexts seen device device held held (Ok n)
disowns_none seen device held n =
    record { keeps = keeps_same seen device; made_for = same_for held; slots = refl; numbers = refl; length_is = refl; lists = tt; left = inl (omega arith); err = tt; sent = none_tried seen device held.sessions.items }

lists_after : {B : Type 0} (result : Result B ℕ) (owners between after : List (Option ℕ)) → between ≡ owners → OnErr result (after ≡ between)
    → OnErr result (after ≡ owners)
lists_after (Ok x) owners between after first second = tt
lists_after (Err code) owners between after first second = second ∙ first

pub disowns_then : {contexts : ContextLimits} {D A B : Type 0} (seen : D → Seen) (old middle new : D) (held between new_held : Held) (x : A) (result : Result B ℕ)
    → between.objects.owners ≡ held.objects.owners → Disowns contexts seen old middle held between (Ok x) → Disowns contexts seen middle new between new_held result
    → Disowns contexts seen old new held new_held result
disowns_then seen old middle new held between new_held x result lists first second = record {
  keeps = keeps_then seen old middle new first.keeps second.keeps;
  made_for = for_then held between new_held first.made_for second.made_for;
  slots = second.slots ∙ first.slots;
  numbers = second.numbers ∙ first.numbers;
  length_is = second.length_is ∙ first.length_is;
  lists = lists_after result held.objects.owners between.objects.owners new_held.objects.owners lists second.lists;
  left = left_then _ _ _ _ _ _ second.keeps.count first.left second.left;
  err = second.err;
  sent = tried_then seen old middle new held.sessions.items between.sessions.items new_held.sessions.items (is_err result) first.sent second.sent;
}

left_once : (nobodys new_nobodys faults new_faults : ℕ) → new_nobodys ≡ nobodys + 1 → Rose faults new_faults
    → AreLeftByFaults nobodys faults new_nobodys new_faults
left_once nobodys new_nobodys faults new_faults more rose =
    elim (counted_once faults new_faults rose) [
      | inl once ↦ inl (omega (arith, more, once))
      | inr most ↦ inr most
    ]

-- one object whose flush failed
pub disowns_left : {contexts : ContextLimits} {D A : Type 0} (seen : D → Seen) (old new : D) (held : Held) (new_view : ObjectsView) (item slot : ℕ) (x : A)
    → new_view ≡ orphaned held.objects item slot → KeepsRest seen old new → Rose (seen old).faults (seen new).faults → SendsFlushes contexts seen old new held.sessions.items held.sessions.items false
    → Disowns contexts seen old new held (with_objects held new_view) (Ok x)
disowns_left seen old new held new_view item slot x view_is rest rose sent = record {
  keeps = keeps_over_objects seen old new rest;
  made_for = record { objects = ap (λ (v : ObjectsView). v.contexts) view_is; sessions = refl };
  slots = ap (λ (v : ObjectsView). v.slots) view_is;
  numbers = refl;
  length_is = ap (λ (v : ObjectsView). length v.items) view_is ∙ length-set held.objects.items item no_item;
  lists = tt;
  left = left_once _ _ _ _ (omega (arith, ap (λ (v : ObjectsView). length v.left) view_is, length-append held.objects.left (slot ∷ []))) rose;
  err = tt;
  sent = sent;
}

-- a call that returned where the last one succeeded, and where it failed
pub disowns_ok : {contexts : ContextLimits} {D A B : Type 0} (seen : D → Seen) (old new : D) (held new_held : Held) (x : A) (y : B)
    → Disowns contexts seen old new held new_held (Ok x) → Disowns contexts seen old new held new_held (Ok y)
disowns_ok seen old new held new_held x y done =
    record { keeps = done.keeps; made_for = done.made_for; slots = done.slots; numbers = done.numbers; length_is = done.length_is; lists = tt; left = done.left; err = tt; sent = done.sent }

-- and where its client's list is nobody's then
pub disowns_ended : {contexts : ContextLimits} {D A B : Type 0} (seen : D → Seen) (old new : D) (held new_held : Held) (view : ObjectsView) (list : ℕ) (x : A) (y : B)
    → Disowns contexts seen old new held new_held (Ok x) → view ≡ ended_list new_held.objects list
    → Disowns contexts seen old new held (with_objects new_held view) (Ok y)
disowns_ended {contexts = contexts} {B = B} seen old new held new_held view list x y done view_is =
    subst (λ (v : ObjectsView). Disowns {A = B} contexts seen old new held (with_objects new_held v) (Ok y)) (sym view_is)
    (record { keeps = done.keeps; made_for = record { objects = done.made_for.objects; sessions = done.made_for.sessions }; slots = done.slots; numbers = done.numbers; length_is = done.length_is; lists = tt; left = done.left; err = tt; sent = done.sent })

pub disowns_failed : {contexts : ContextLimits} {D A B : Type 0} (seen : D → Seen) (old new : D) (held new_held : Held) (code : ℕ) (result : Result B ℕ)
    → (other : ℕ) × (result ≡ Err other) × (other ≡ code) → Disowns {A = A} contexts seen old new held new_held (Err code)
    → Disowns contexts seen old new held new_held result
disowns_failed {contexts = contexts} {A = A} {B = B} seen old new held new_held code result (other, is, same) done =
    let failed : Disowns {A = A} contexts seen old new held new_held (Err other) =
    subst (λ (code : ℕ). Disowns {A = A} contexts seen old new held new_held (Err code)) (sym same) done in
    subst (λ (r : Result B ℕ). Disowns contexts seen old new held new_held r) (sym is)
    (record { keeps = failed.keeps; made_for = failed.made_for; slots = failed.slots; numbers = failed.numbers; length_is = failed.length_is; lists = failed.lists; left = failed.left; err = failed.err; sent = failed.sent })
