-- What a device tells of the objects and the sessions stands for the world, after each sort of entry.
use Rattle.std.proofs.Common.{◌≡◌, ◌+◌, ◌*◌, ◌^◌, ◌<◌, ◌≤◌, ◌∙◌, ℕ, zero, suc, Bool, true, false, List, [], ◌∷◌, ◌++◌, length, set, refl, sym, ap, subst, arith}
use Rattle.std.specs.Prelude.{◌==◌, Option, Some, None, Err, get_or, is_some, if◌then◌else◌}
use Rattle.std.specs.List.{count_by, list_any}
use Rattle.std.proofs.lemmas.Bool.{eq-eqb, eqb-false, eqb-true, ne_eqb}
use Rattle.std.proofs.lemmas.List.Sums.{sum_by_push}
use Rattle.tab_spec.specs.declared.numbers.Numbers.{Numbers}
use Rattle.tab_spec.specs.Admission.{client_admitted}
use Rattle.tab_spec.specs.Object.{Object}
use Rattle.tab_spec.specs.Reply.{error_reply}
use Rattle.tab_spec.specs.Numbers.{leave_limit}
use Rattle.tab_spec.specs.declared.contexts.TheConstants.{PROFILE_CONTEXTS}
use Rattle.device_spec.specs.Slots.{SlotState, active_count, inactive, is_active}
use Rattle.device_spec.specs.Slots as device
use Rattle.object_swap.specs.Items.{Item, ItemStands, ObjectsStand, is_named, is_resident, item_at, item_object, naming, no_item}
use Rattle.session_swap.specs.Items as sessions
use Rattle.session_swap.specs.Items.{ListsThose, SessionsStand, is_left, is_owned, place_at}
use Rattle.session_swap.proofs.Counts.{count_same, is_false, none_counted}
use Rattle.object_swap.proofs.Counts.{list_some}
use Rattle.history_spec.specs.declared.Pick.{Pick}
use Rattle.history_spec.specs.declared.Pick.TheVariants.{Nothing}
use Rattle.world_spec.specs.World.{Client, ClientState, ClientStep, Owned, World, client_step, closed_sessions, closed_world, opened_world, plain_step, state_in, step_in, table_in, tables_of, with_table, world_with_state}
use Rattle.world_laws.proofs.Clients.{opened_table, other_table, other_without, own_table, own_without}
use Rattle.history_laws.proofs.Counts.{count_cons, count_one, one_if}
use Rattle.world_laws.proofs.Histories.{each-push, each-weaker}
use Rattle.history_laws.proofs.Tables.{mapped}
use Rattle.client_laws.proofs.Steps.{step_refused}
use Rattle.client_machine.specs.declared.held.Held.{Held}
use Rattle.client_machine.specs.Moves.{KeepsObjectsOf, client_state, other_than}
use Rattle.client_machine.specs.Settled.{AreBelow, IsSettled, Sequences, most_contexts, orphan_count, sessions_in}
use Rattle.broker_core.specs.Broker.{HoldsOnly}
use Rattle.broker_core.specs.Stands.{Stands, sequences_of}
use Rattle.client_machine.specs.Tables.{AreOpenOwners, IsOpenOwner, IsTable, IsTablePlace, objects_in, place_object, tables_seen}
use Rattle.broker_core.specs.Tables.{TablesStand, table_of, with_owners}
use Rattle.client_machine.proofs.Leaving.{closed_already}
use Rattle.client_machine.proofs.Ran.{each_at}
use Rattle.client_machine.proofs.Seeing.{admitted_seen}
use Rattle.broker_core.proofs.Tabling.{is_other, item_pushed, left_there, nobodys_sessions, table_other, table_own, table_pushed}

-- ---- how much the device has room for

-- how much that is doesn't change
pub numbers_stay : (slots new : SlotState) (held new_held : Held) → IsSettled slots held → IsSettled new new_held → new_held.sessions.numbers ≡ held.sessions.numbers → new.numbers ≡ slots.numbers
numbers_stay slots new held new_held before settled same = settled.sessions.numbers ∙ same ∙ sym before.sessions.numbers

active_stays : (world : World) (slots new : SlotState) (tables : List (List (Option ℕ))) (held new_held : Held) (n : ℕ) → Stands world slots tables held n → IsSettled new new_held → new_held.sessions.numbers ≡ held.sessions.numbers
    → world.most ≡ new.numbers.active
active_stays world slots new tables held new_held n stands settled same =
    stands.most ∙ ap (λ (numbers : Numbers). numbers.active) (sym (numbers_stay slots new held new_held stands.settled settled same))

-- ---- the numbers of contexts

later_counter : (counter n : ℕ) → counter ≤ 2 ^ 61 + most_contexts * n → counter ≤ 2 ^ 61 + most_contexts * (n + 1)
later_counter counter n below = omega (arith, below)

moved_counter : (counter new n : ℕ) → counter ≤ 2 ^ 61 + most_contexts * n → new ≤ counter + most_contexts → new ≤ 2 ^ 61 + most_contexts * (n + 1)
moved_counter counter new n below more = omega (arith, below, more)

-- neither fell, and both rose by no more than one call makes the device number
pub record RoseBoth (slots new : SlotState) : Type 0 where
  pub objects_rise : slots.object_counter ≤ new.object_counter
  pub sessions_rise : slots.counter ≤ new.counter
  pub objects_on : new.object_counter ≤ slots.object_counter + most_contexts
  pub sessions_on : new.counter ≤ slots.counter + most_contexts

-- what was below the numbers is so still
below_still : (least : Sequences) (slots new : SlotState) → AreBelow least slots → RoseBoth slots new → AreBelow least new
below_still least slots new below rose = record {
  of_objects = omega (arith, below.of_objects, rose.objects_rise);
  of_sessions = omega (arith, below.of_sessions, rose.sessions_rise);
}

-- ---- the objects of other clients

place_stays : (slots new : SlotState) (items new_items : List Item) (client other : ℕ) → KeepsObjectsOf (other_than client) (Some slots) (Some new) items new_items
    → (client == other) ≡ false → (place : Option ℕ) → IsTablePlace other items place → place_object new new_items place ≡ place_object slots items place
place_stays slots new items new_items client other keeps apart None is = refl
place_stays slots new items new_items client other keeps apart (Some index) is =
    keeps slots new index other refl refl is.0 is.1 (is_other client other apart)

objects_stay : (slots new : SlotState) (items new_items : List Item) (client other : ℕ) (table : List (Option ℕ))
    → KeepsObjectsOf (other_than client) (Some slots) (Some new) items new_items → (client == other) ≡ false → IsTable items other table
    → objects_in new new_items table ≡ objects_in slots items table
objects_stay slots new items new_items client other table keeps apart is =
    mapped (λ place. place_object slots items place) (λ place. place_object new new_items place) table
    (each-weaker (λ place. IsTablePlace other items place) (λ place. place_object new new_items place ≡ place_object slots items place) table
    (place_stays slots new items new_items client other keeps apart) is.named)

-- another client's table, whatever becomes of this one's
other_stays : (slots new : SlotState) (tables : List (List (Option ℕ))) (items new_items : List Item) (client other : ℕ) (new_table : List (Option ℕ))
    → KeepsObjectsOf (other_than client) (Some slots) (Some new) items new_items → (client == other) ≡ false → IsTable items other (table_of tables other)
    → objects_in slots items (table_of tables other) ≡ objects_in new new_items (table_of (set tables client new_table) other)
other_stays slots new tables items new_items client other new_table keeps apart is =
    sym (objects_stay slots new items new_items client other (table_of tables other) keeps apart is)
    ∙ ap (λ (table : List (Option ℕ)). objects_in new new_items table) (sym (table_other tables client other new_table apart))

-- ---- a client opens

-- whose the lists of objects are doesn't count
settled_owners : (slots : SlotState) (held : Held) (owners : List (Option ℕ)) → IsSettled slots held → IsSettled slots (with_owners held owners)
settled_owners slots held owners settled = record { objects = settled.objects; sessions = settled.sessions; gap = settled.gap }

pub stands-open : (world : World) (slots : SlotState) (tables : List (List (Option ℕ))) (held : Held) (owners : List (Option ℕ)) (n number : ℕ)
    → Stands world slots tables held n → Stands (opened_world world number) slots (tables ++ [] ∷ []) (with_owners held owners) (n + 1)
stands-open world slots tables held owners n number stands = record {
  persist = stands.persist;
  most = stands.most;
  settled = settled_owners slots held owners stands.settled;
  clients = λ client.
      opened_table world.clients number client ∙ stands.clients client
      ∙ ap (λ (table : List (Option ℕ)). objects_in slots held.objects.items table) (sym (table_pushed tables client));
  sessions = stands.sessions;
  left = stands.left;
  handed = stands.handed;
  object_counter = later_counter slots.object_counter n stands.object_counter;
  counter = later_counter slots.counter n stands.counter;
}

-- an entry that leaves the world as it was
pub stands-longer : (world : World) (slots : SlotState) (tables : List (List (Option ℕ))) (held : Held) (n : ℕ) → Stands world slots tables held n → Stands world slots tables held (n + 1)
stands-longer world slots tables held n stands = record {
  persist = stands.persist;
  most = stands.most;
  settled = stands.settled;
  clients = stands.clients;
  sessions = stands.sessions;
  left = stands.left;
  handed = stands.handed;
  object_counter = later_counter slots.object_counter n stands.object_counter;
  counter = later_counter slots.counter n stands.counter;
}

-- ---- a client's command

-- the world's step with this pick, its reply, and what stands for the world afterwards
pub record Stepped (world : World) (client : ℕ) (bytes reply : List ℕ) (pick : Pick) (after : World) (slots : SlotState) (tables : List (List (Option ℕ))) (held : Held) (entries : ℕ) : Type 0 where
  pub stepped : plain_step world client bytes pick ≡ Some (after, reply)
  pub stands : Stands after slots tables held entries

state_stands : (world : World) (slots : SlotState) (tables : List (List (Option ℕ))) (held : Held) (n client : ℕ) → Stands world slots tables held n
    → state_in world client ≡ client_state slots held (table_of tables client) (sequences_of world)
state_stands world slots tables held n client stands =
    λ i. record {
      persist = sym stands.persist i;
      most = (stands.most ∙ ap (λ (numbers : Numbers). numbers.active) stands.settled.sessions.numbers) i;
      objects = stands.clients client i;
      sessions = stands.sessions i;
      left = stands.left i;
      object_sequence = world.object_sequence;
      session_sequence = world.session_sequence;
    }

plain_step_is : (world : World) (client : ℕ) (bytes : List ℕ) (pick : Pick) (step : Option ClientStep) → client_step client (state_in world client) bytes pick ≡ step
    → plain_step world client bytes pick ≡ step_in world client step
unfolding plain_step
plain_step_is world client bytes pick step is = ap (λ (s : Option ClientStep). step_in world client s) is

clients_stepped : (here : Bool) (world : World) (slots new : SlotState) (tables : List (List (Option ℕ))) (items new_items : List Item) (client other : ℕ)
    (new_table : List (Option ℕ)) → (client == other) ≡ here
    → table_in world.clients other ≡ objects_in slots items (table_of tables other) → list_any (λ (c : Client). c.number == client) world.clients ≡ true
    → client < length tables → IsTable items other (table_of tables other) → KeepsObjectsOf (other_than client) (Some slots) (Some new) items new_items
    → table_in (with_table client (objects_in new new_items new_table) world.clients) other ≡ objects_in new new_items (table_of (set tables client new_table) other)
clients_stepped true world slots new tables items new_items client other new_table here is some inside table keeps =
    subst (λ (c : ℕ). table_in (with_table client (objects_in new new_items new_table) world.clients) c ≡ objects_in new new_items (table_of (set tables client new_table) c))
    (eqb-true client other here)
    (own_table world.clients client (objects_in new new_items new_table) some
    ∙ ap (λ (table : List (Option ℕ)). objects_in new new_items table) (sym (table_own tables client new_table inside)))
clients_stepped false world slots new tables items new_items client other new_table here is some inside table keeps =
    other_table world.clients client other (objects_in new new_items new_table) here ∙ is ∙ other_stays slots new tables items new_items client other new_table keeps here table

pub stands-step : (world : World) (slots new : SlotState) (tables : List (List (Option ℕ))) (held new_held : Held) (client : ℕ)
    (new_table : List (Option ℕ)) (handed : Sequences) (bytes reply : List ℕ) (pick : Pick) (n : ℕ) → Stands world slots tables held n
    → list_any (λ (c : Client). c.number == client) world.clients ≡ true → client < length tables → (present : List ℕ) → TablesStand present tables held.objects.items
    → IsSettled new new_held → new_held.sessions.numbers ≡ held.sessions.numbers → RoseBoth slots new
    → KeepsObjectsOf (other_than client) (Some slots) (Some new) held.objects.items new_held.objects.items → AreBelow handed new
    → client_step client (client_state slots held (table_of tables client) (sequences_of world)) bytes pick ≡ Some (client_state new new_held new_table handed, reply)
    → Stepped world client bytes reply pick (world_with_state world client (client_state new new_held new_table handed)) new (set tables client new_table) new_held (n + 1)
stands-step world slots new tables held new_held client new_table handed bytes reply pick n stands some inside present tabled settled numbers rose keeps below ran = record {
  stepped =
      plain_step_is world client bytes pick (Some (client_state new new_held new_table handed, reply))
      (ap (λ (state : ClientState). client_step client state bytes pick) (state_stands world slots tables held n client stands) ∙ ran);
  stands = record {
    persist = refl;
    most = ap (λ (numbers : Numbers). numbers.active) (sym settled.sessions.numbers);
    settled = settled;
    clients = λ other.
        clients_stepped (client == other) world slots new tables held.objects.items new_held.objects.items client other new_table refl (stands.clients other) some inside
        (tabled.each other) keeps;
    sessions = refl;
    left = refl;
    handed = below;
    object_counter = moved_counter slots.object_counter new.object_counter n stands.object_counter rose.objects_on;
    counter = moved_counter slots.counter new.counter n stands.counter rose.sessions_on;
  };
}

-- ---- objects and sessions moved, and no command was run

clients_stay : (here : Bool) (slots new : SlotState) (tables : List (List (Option ℕ))) (items new_items : List Item) (client other : ℕ)
    → (client == other) ≡ here → IsTable items other (table_of tables other) → KeepsObjectsOf (other_than client) (Some slots) (Some new) items new_items
    → objects_in new new_items (table_of tables client) ≡ objects_in slots items (table_of tables client)
    → objects_in new new_items (table_of tables other) ≡ objects_in slots items (table_of tables other)
clients_stay true slots new tables items new_items client other here table keeps own =
    subst (λ (c : ℕ). objects_in new new_items (table_of tables c) ≡ objects_in slots items (table_of tables c)) (eqb-true client other here) own
clients_stay false slots new tables items new_items client other here table keeps own =
    objects_stay slots new items new_items client other (table_of tables other) keeps here table

pub stands-stay : (world : World) (slots new : SlotState) (tables : List (List (Option ℕ))) (held new_held : Held) (client n : ℕ)
    → Stands world slots tables held n → (present : List ℕ) → TablesStand present tables held.objects.items → IsSettled new new_held → new_held.sessions.numbers ≡ held.sessions.numbers → RoseBoth slots new
    → KeepsObjectsOf (other_than client) (Some slots) (Some new) held.objects.items new_held.objects.items
    → client_state new new_held (table_of tables client) (sequences_of world) ≡ client_state slots held (table_of tables client) (sequences_of world)
    → Stands world new tables new_held (n + 1)
stands-stay world slots new tables held new_held client n stands present tabled settled numbers rose keeps own = record {
  persist = ap (λ (s : ClientState). s.persist) own ∙ stands.persist;
  most = active_stays world slots new tables held new_held n stands settled numbers;
  settled = settled;
  clients = λ other.
      stands.clients other
      ∙ sym (clients_stay (client == other) slots new tables held.objects.items new_held.objects.items client other refl (tabled.each other) keeps (ap (λ (s : ClientState). s.objects) own));
  sessions = stands.sessions ∙ sym (ap (λ (s : ClientState). s.sessions) own);
  left = stands.left ∙ sym (ap (λ (s : ClientState). s.left) own);
  handed = below_still (sequences_of world) slots new stands.handed rose;
  object_counter = moved_counter slots.object_counter new.object_counter n stands.object_counter rose.objects_on;
  counter = moved_counter slots.counter new.counter n stands.counter rose.sessions_on;
}

-- ---- a client closes

clients_closed : (here : Bool) (world : World) (slots new : SlotState) (tables : List (List (Option ℕ))) (items new_items : List Item) (client other : ℕ)
    → (client == other) ≡ here → table_in world.clients other ≡ objects_in slots items (table_of tables other)
    → count_by (λ (c : Client). c.number == client) world.clients ≤ 1 → client < length tables → IsTable items other (table_of tables other)
    → KeepsObjectsOf (other_than client) (Some slots) (Some new) items new_items
    → table_in (closed_world world client).clients other ≡ objects_in new new_items (table_of (set tables client []) other)
clients_closed true world slots new tables items new_items client other here is once inside table keeps =
    subst (λ (c : ℕ). table_in (closed_world world client).clients c ≡ objects_in new new_items (table_of (set tables client []) c))
    (eqb-true client other here)
    (own_without world.clients client once
    ∙ ap (λ (table : List (Option ℕ)). objects_in new new_items table) (sym (table_own tables client [] inside)))
clients_closed false world slots new tables items new_items client other here is once inside table keeps =
    other_without world.clients client other here ∙ is ∙ other_stays slots new tables items new_items client other [] keeps here table

pub stands-close : (world : World) (slots new : SlotState) (tables : List (List (Option ℕ))) (held new_held : Held) (client n : ℕ)
    → Stands world slots tables held n → count_by (λ (c : Client). c.number == client) world.clients ≤ 1 → client < length tables
    → (present : List ℕ) → TablesStand present tables held.objects.items → IsSettled new new_held → new_held.sessions.numbers ≡ held.sessions.numbers → RoseBoth slots new
    → KeepsObjectsOf (other_than client) (Some slots) (Some new) held.objects.items new_held.objects.items → new.persist ≡ slots.persist
    → closed_sessions client held.sessions.numbers.active (sessions_in new new_held.sessions.items) new_held.sessions.left
    ≡ closed_sessions client held.sessions.numbers.active (sessions_in slots held.sessions.items) held.sessions.left
    → length new_held.sessions.left ≤ leave_limit held.sessions.numbers.active → list_any (is_owned client) new_held.sessions.items ≡ false
    → Stands (closed_world world client) new (set tables client []) new_held (n + 1)
stands-close world slots new tables held new_held client n stands once inside present tabled settled numbers rose keeps persist closes few none =
    let active = held.sessions.numbers.active in
    let most : world.most ≡ active = stands.most ∙ ap (λ (numbers : Numbers). numbers.active) stands.settled.sessions.numbers in
    let closed : closed_sessions client world.most world.sessions world.left ≡ (sessions_in new new_held.sessions.items, new_held.sessions.left) =
    (λ i. closed_sessions client (most i) (stands.sessions i) (stands.left i)) ∙ sym closes
    ∙ closed_already client active new new_held.sessions.items new_held.sessions.left none few in
    record {
      persist = persist ∙ stands.persist;
      most = active_stays world slots new tables held new_held n stands settled numbers;
      settled = settled;
      clients = λ other.
          clients_closed (client == other) world slots new tables held.objects.items new_held.objects.items client other refl (stands.clients other) once inside (tabled.each other) keeps;
      sessions = ap (λ (p : List (Option Owned) × List ℕ). p.0) closed;
      left = ap (λ (p : List (Option Owned) × List ℕ). p.1) closed;
      handed = below_still (sequences_of world) slots new stands.handed rose;
      object_counter = moved_counter slots.object_counter new.object_counter n stands.object_counter rose.objects_on;
      counter = moved_counter slots.counter new.counter n stands.counter rose.sessions_on;
    }

-- ---- one more item, and one more entry

place_pushed : (slots : SlotState) (items : List Item) (place : Option ℕ) → place_object slots (items ++ no_item ∷ []) place ≡ place_object slots items place
place_pushed slots items None = refl
place_pushed slots items (Some index) = ap (λ (item : Item). item_object slots item) (item_pushed items index)

objects_pushed : (slots : SlotState) (items : List Item) (table : List (Option ℕ)) → objects_in slots (items ++ no_item ∷ []) table ≡ objects_in slots items table
objects_pushed slots items [] = refl
objects_pushed slots items (place ∷ table) =
    ap (λ (o : Option Object). o ∷ objects_in slots (items ++ no_item ∷ []) table) (place_pushed slots items place)
    ∙ ap (λ (rest : List (Option Object)). place_object slots items place ∷ rest) (objects_pushed slots items table)

-- what is held, with other items
abbrev pub with_items : Held → List Item → Held
with_items held items = record { objects = record held.objects { items = items }; sessions = held.sessions }

settled_pushed : (slots : SlotState) (held : Held) → IsSettled slots held → IsSettled slots (with_items held (held.objects.items ++ no_item ∷ []))
settled_pushed slots held settled =
    let stand = settled.objects in
    let items = held.objects.items in
    record {
      objects = record {
        started = stand.started;
        sound = stand.sound;
        each = each-push (λ item. ItemStands slots item) items no_item stand.each (record { there = λ full. absurd cc; beside = λ resident kept. absurd cc });
        owned = λ slot. omega (arith, stand.owned slot, sum_by_push (λ (item : Item). one_if (is_named item.slot slot)) items no_item);
      };
      sessions = settled.sessions;
      gap = settled.gap;
    }

pub stands-more : (world : World) (slots : SlotState) (tables : List (List (Option ℕ))) (held : Held) (n : ℕ) → Stands world slots tables held n
    → Stands world slots tables (with_items held (held.objects.items ++ no_item ∷ [])) n
stands-more world slots tables held n stands = record {
  persist = stands.persist;
  most = stands.most;
  settled = settled_pushed slots held stands.settled;
  clients = λ client. stands.clients client ∙ sym (objects_pushed slots held.objects.items (table_of tables client));
  sessions = stands.sessions;
  left = stands.left;
  handed = stands.handed;
  object_counter = stands.object_counter;
  counter = stands.counter;
}

-- ---- how much the device holds

-- the numbers above 0, each one less
abbrev lowered : List ℕ → List ℕ
lowered [] = []
lowered (zero ∷ left) = lowered left
lowered (suc n ∷ left) = n ∷ lowered left

next_by : (n slot : ℕ) (same : Bool) → (n == slot) ≡ same → (suc n == suc slot) ≡ same
next_by n slot true is = eq-eqb (suc n) (suc slot) (ap suc (eqb-true n slot is))
next_by n slot false is = ne_eqb (suc n) (suc slot) (λ next. eqb-false n slot is (omega (arith, next)))

lowered_length : (left : List ℕ) → length left ≡ count_by (λ (n : ℕ). n == 0) left + length (lowered left)
lowered_length [] = refl
lowered_length (zero ∷ left) = omega (arith, count_cons (λ (n : ℕ). n == 0) zero left, lowered_length left)
lowered_length (suc n ∷ left) =
    omega (arith, count_cons (λ (m : ℕ). m == 0) (suc n) left, ap one_if (ne_eqb (suc n) 0 (omega arith)), lowered_length left)

lowered_count : (slot : ℕ) (left : List ℕ) → count_by (λ (n : ℕ). n == suc slot) left ≡ count_by (λ (n : ℕ). n == slot) (lowered left)
lowered_count slot [] = refl
lowered_count slot (zero ∷ left) =
    omega (arith, count_cons (λ (n : ℕ). n == suc slot) zero left, ap one_if (ne_eqb zero (suc slot) (omega arith)), lowered_count slot left)
lowered_count slot (suc n ∷ left) =
    omega (
      arith,
      count_cons (λ (m : ℕ). m == suc slot) (suc n) left,
      count_cons (λ (m : ℕ). m == slot) n (lowered left),
      ap one_if (next_by n slot (n == slot) refl),
      lowered_count slot left,
    )

-- none are there of which none is counted
none_there : (left : List ℕ) → ((slot : ℕ) → count_by (λ (n : ℕ). n == slot) left ≡ 0) → length left ≡ 0
none_there [] none = refl
none_there (n ∷ left) none =
    absurd (omega (arith, none n, count_cons (λ (m : ℕ). m == n) n left, ap one_if (eq-eqb n n refl)))

-- where just these slots are taken, each once, as many are
taken_exact : (held : List (Option Object)) (left : List ℕ)
    → ((slot : ℕ) → count_by (λ (n : ℕ). n == slot) left ≡ one_if (is_some (get_or held slot None))) → count_by is_some held ≡ length left
taken_exact [] left each = sym (none_there left each)
taken_exact (o ∷ held) left each =
    omega (
      arith,
      count_cons (λ (slot : Option Object). is_some slot) o held,
      each 0,
      lowered_length left,
      taken_exact held (lowered left) (λ slot. omega (arith, each (suc slot), lowered_count slot left)),
    )

names_none : (named : Option ℕ) (slot : ℕ) → is_some named ≡ false → one_if (is_named named slot) ≡ 0
names_none None slot none = refl
names_none (Some n) slot none = absurd cc

naming_none : (items : List Item) (slot : ℕ) → ((index : ℕ) → is_resident (item_at items index) ≡ false) → naming items slot ≡ 0
naming_none [] slot none = refl
naming_none (item ∷ items) slot none =
    omega (
      arith,
      count_cons (λ (i : Item). is_named i.slot slot) item items,
      names_none item.slot slot (none 0),
      naming_none items slot (λ index. none (suc index)),
    )

-- where no item is in a slot, each slot that is taken is that of an orphan
slots_left : (slots : SlotState) (items : List Item) (left : List ℕ) → ObjectsStand slots items left → ((index : ℕ) → is_resident (item_at items index) ≡ false)
    → count_by is_some slots.slots ≡ length left
slots_left slots items left stand none = taken_exact slots.slots left (λ slot. omega (arith, stand.owned slot, naming_none items slot none))

flags_same : (a b : Bool) → sessions.flag a ≡ sessions.flag b → a ≡ b
flags_same true true is = refl
flags_same true false is = absurd (omega (arith, is))
flags_same false true is = absurd (omega (arith, is))
flags_same false false is = refl

sessions_held : (slots : SlotState) (view : sessions.SessionsView) → SessionsStand slots view []
    → count_by (λ (item : Option sessions.Item). is_some item) view.items ≡ active_count slots.sessions
sessions_held slots view stand =
    count_same (λ (item : Option sessions.Item). is_some item) is_active view.items slots.sessions None inactive (stand.count ∙ sym stand.sound.numbers)
    (λ number inside. flags_same (is_some (sessions.item_at view.items number)) (is_active (place_at slots number)) (omega (arith, stand.owned number)))

-- where no client is open, it holds the sessions that were left, and orphans
pub held_slots : (slots : SlotState) (held : Held) → IsSettled slots held → AreOpenOwners [] held.sessions.items
    → ((index : ℕ) → is_resident (item_at held.objects.items index) ≡ false) → ListsThose is_left held.sessions.left held.sessions.items
    → device.held slots ≡ length held.sessions.left + orphan_count held
held_slots slots held settled owners none listed =
    omega (
      arith,
      slots_left slots held.objects.items held.objects.left settled.objects none,
      sessions_held slots held.sessions settled.sessions,
      nobodys_sessions held.sessions.items owners,
      listed.count,
    )

any_is : {X : Type 0} (p : X → Bool) (xs : List X) (b : Bool) → count_by p xs ≡ sessions.flag b → list_any p xs ≡ b
any_is p xs true is = list_some p xs (omega (arith, is))
any_is p xs false is = none_counted p xs is

no_orphan : (items : List (Option sessions.Item)) (number : ℕ) → count_by sessions.is_orphan items ≡ 0 → sessions.is_orphan (sessions.item_at items number) ≡ false
no_orphan items number none = is_false (sessions.is_orphan (sessions.item_at items number)) (omega (arith, none, count_one sessions.is_orphan items number None refl))

left_some : (item : Option sessions.Item) → is_left item ≡ true → is_some item ≡ true
left_some None left = absurd cc
left_some (Some item) left = refl

-- each of those sessions is there
pub held_there : (slots : SlotState) (held : Held) → IsSettled slots held → ListsThose is_left held.sessions.left held.sessions.items
    → (number : ℕ) → list_any (λ one. one == number) held.sessions.left ≡ true → is_active (get_or slots.sessions number inactive) ≡ true
held_there slots held settled listed number is =
    let item = sessions.item_at held.sessions.items number in
    let left = sym (any_is (λ (one : ℕ). one == number) held.sessions.left (is_left item) (listed.each number)) ∙ is in
    sym (flags_same (is_some item) (is_active (place_at slots number)) (omega (arith, settled.sessions.owned number))) ∙ left_some item left

-- and where there are no orphans, just those sessions
pub held_only : (slots : SlotState) (held : Held) → IsSettled slots held → AreOpenOwners [] held.sessions.items
    → ((index : ℕ) → is_resident (item_at held.objects.items index) ≡ false) → ListsThose is_left held.sessions.left held.sessions.items
    → orphan_count held ≡ 0 → HoldsOnly slots held.sessions.left
held_only slots held settled owners none listed no_orphans =
    let items = held.sessions.items in
    record {
      empty = omega (arith, slots_left slots held.objects.items held.objects.left settled.objects none, no_orphans);
      just = λ number.
          let item = sessions.item_at items number in
          let there : is_some item ≡ is_left item =
          left_there item (each_at (λ (item : Option sessions.Item). IsOpenOwner [] item) items number owners tt)
          (no_orphan items number (omega (arith, no_orphans))) in
          sym (flags_same (is_some item) (is_active (place_at slots number)) (omega (arith, settled.sessions.owned number))) ∙ there
          ∙ sym (any_is (λ (one : ℕ). one == number) held.sessions.left (is_left item) (listed.each number));
    }

-- ---- a command that the broker refuses by itself

table_before : (here : Bool) (c : Client) (clients : List Client) (client : ℕ) → (c.number == client) ≡ here
    → with_table client (table_in clients client) clients ≡ clients
    → with_table client (if here then c.objects else table_in clients client) (c ∷ clients) ≡ c ∷ clients
table_before true c clients client is rest =
    ap (λ (b : Bool). if b then record c { objects = c.objects } ∷ clients else c ∷ with_table client c.objects clients) is
table_before false c clients client is rest =
    ap (λ (b : Bool). if b then record c { objects = table_in clients client } ∷ clients else c ∷ with_table client (table_in clients client) clients) is
    ∙ ap (λ (after : List Client). c ∷ after) rest

-- the table that was there already
same_clients : (clients : List Client) (client : ℕ) → with_table client (table_in clients client) clients ≡ clients
same_clients [] client = refl
same_clients (c ∷ clients) client = table_before (c.number == client) c clients client refl (same_clients clients client)

refused-step : (world : World) (slots : SlotState) (tables : List (List (Option ℕ))) (held : Held) (client : ℕ) (bytes : List ℕ) (code n : ℕ)
    → Stands world slots tables held n → (present : List ℕ) → TablesStand present tables held.objects.items
    → client_admitted (tables_seen PROFILE_CONTEXTS client (table_of tables client) held.sessions.items) bytes ≡ Err code
    → client_step client (state_in world client) bytes Nothing ≡ Some (state_in world client, error_reply code)
refused-step world slots tables held client bytes code n stands present tabled refused =
    step_refused client (state_in world client) bytes Nothing code
    (ap (λ (state : ClientState). client_admitted (tables_of client state) bytes) (state_stands world slots tables held n client stands)
    ∙ sym (admitted_seen slots client (table_of tables client) held (sequences_of world) bytes stands.settled.objects stands.settled.sessions (tabled.each client)) ∙ refused)

pub steps-refused : (world : World) (slots : SlotState) (tables : List (List (Option ℕ))) (held : Held) (client : ℕ) (bytes : List ℕ) (code n : ℕ)
    → Stands world slots tables held n → (present : List ℕ) → TablesStand present tables held.objects.items
    → client_admitted (tables_seen PROFILE_CONTEXTS client (table_of tables client) held.sessions.items) bytes ≡ Err code
    → Stepped world client bytes (error_reply code) Nothing (world_with_state world client (state_in world client)) slots tables held (n + 1)
steps-refused world slots tables held client bytes code n stands present tabled refused = record {
  stepped = plain_step_is world client bytes Nothing (Some (state_in world client, error_reply code))
      (refused-step world slots tables held client bytes code n stands present tabled refused);
  stands = record {
    persist = stands.persist;
    most = stands.most;
    settled = stands.settled;
    clients = λ other. ap (λ (clients : List Client). table_in clients other) (same_clients world.clients client) ∙ stands.clients other;
    sessions = stands.sessions;
    left = stands.left;
    handed = stands.handed;
    object_counter = later_counter slots.object_counter n stands.object_counter;
    counter = later_counter slots.counter n stands.counter;
  };
}
