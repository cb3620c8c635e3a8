-- What holds of a broker holds of it after each of its calls.
use Rattle.std.proofs.Common.{◌≡◌, ◌<◌, ◌≤◌, ◌+◌, ◌^◌, ℕ, true, false, List, [], ◌∷◌, ◌++◌, length, Option, Some, None, Err, refl, sym, ap, subst, ◌∙◌, arith, inl, inr, length-append}
use Rattle.std.specs.Prelude.{◌⊎◌, is_some, IsSome, IfSome, set}
use Rattle.std.specs.List.{AllByRecursion, list_any}
use Rattle.std.proofs.lemmas.Bool.{and_parts, leb-true}
use Rattle.std.proofs.lemmas.List.{length-set}
use Rattle.tab_spec.specs.declared.TheConstants.{CONTEXT_LIMIT, RC_CANCELED, RC_DEVICE_FAULT}
use Rattle.tab_spec.specs.declared.numbers.Numbers.{Numbers}
use Rattle.tab_spec.specs.Admission.{client_admitted}
use Rattle.tab_spec.specs.Count.{Rose}
use Rattle.tab_spec.specs.Frame.{is_frame, is_size}
use Rattle.tab_spec.specs.Numbers.{AreInRange, leave_limit}
use Rattle.tab_spec.specs.Persist.{Persist}
use Rattle.tab_spec.specs.Reply.{error_reply}
use Rattle.tab_spec.specs.declared.contexts.ContextLimits.{ContextLimits}
use Rattle.device_spec.specs.Answers.{IsRight, IsWrongAnswer}
use Rattle.device_spec.specs.Slots.{SlotState}
use Rattle.device_port.specs.Device.{Seen, asked_of, last_of}
use Rattle.device_laws.proofs.Frames.{error_is_frame}
use Rattle.object_swap.specs.Items as objects
use Rattle.object_swap.specs.Items.{Item, ObjectsView, has_list, is_vacant, no_item, owner_at}
use Rattle.session_swap.specs.Items as sessions
use Rattle.session_swap.specs.Items.{ListsThose, is_left}
use Rattle.history_spec.specs.declared.Pick.{Pick}
use Rattle.history_spec.specs.declared.Pick.TheVariants.{Nothing}
use Rattle.history_spec.specs.Entry.{Entry, HasRoom, HasRoomForClient, canceled_entry, clients_of, command_entry, fault_entry, is_fault, open_entry, present_by, IsNextNumber, IsOpen}
use Rattle.world_spec.specs.Legal.{Legal, MayFollow}
use Rattle.world_spec.specs.World.{World, after_step, client_step, opened_world, state_in, world_of, world_with_state}
use Rattle.world_laws.proofs.Clients.{is_open}
use Rattle.world_laws.proofs.Histories.{clients_of-push, legal-push, next_count, world_of-push}
use Rattle.client_machine.specs.declared.held.Held.{Held}
use Rattle.broker_core.specs.Broker.{FaultsCounted, HeldHolds, Holds, HoldsLeft, JournalHolds, StandsAfter, StandsAfterIf}
use Rattle.client_machine.specs.Moves.{CountsOn, KeepsObjectsOf, MayBegin, Moves, Stays, StaysAs, StepsAs, client_state, other_than, IsFor, StaysFor}
use Rattle.client_machine.specs.Settled.{IsSettled, Settled, orphan_count}
use Rattle.broker_core.specs.Stands.{Stands, sequences_of}
use Rattle.client_machine.specs.Tables.{AreOpenOwners, IsTable, tables_seen}
use Rattle.broker_core.specs.Tables.{TablesStand, list_of, table_of, with_owners}
use Rattle.broker_core.proofs.Listing.{Gives, lists-opened, lists_same, no_list}
use Rattle.object_swap.specs.declared.TheConstants.{PLACES_MOST}
use Rattle.broker_core.proofs.Journaling.{counted-fault, counted-later, counted-push, few-entries, journal-entry, journal-later, journal-open}
use Rattle.client_machine.proofs.Keeping.{right_none, IsProfile, profile_at}
use Rattle.broker_core.proofs.Placing.{present_same, tables_same}
use Rattle.client_machine.proofs.Settling.{settled_at}
use Rattle.broker_core.proofs.Tabling.{AreNowhere, none_rests, open_inside, open_none, owners-open, tables-more, tables-open, tables-step}
use Rattle.broker_core.proofs.WorldStands.{RoseBoth, Stepped, held_only, held_slots, held_there, numbers_stay, stands-longer, stands-more, stands-open, stands-stay, stands-step, steps-refused, with_items}

-- ---- what a device tells

pub told_before : (old new : Option SlotState) (slots : SlotState) → is_some new ≡ is_some old → new ≡ Some slots → (before : SlotState) × (old ≡ Some before)
told_before (Some before) new slots same is = (before, refl)
told_before None new slots same is = absurd (let yes : is_some new ≡ true = ap is_some is in cc)

pub counters_in : (old new : Option SlotState) (slots after : SlotState) → CountsOn old new → old ≡ Some slots → new ≡ Some after → RoseBoth slots after
counters_in old new slots after counts is_old is_new = record {
  objects_rise = omega (arith, counts.objects_rise, ap objects.counter_of is_old, ap objects.counter_of is_new);
  sessions_rise = omega (arith, counts.sessions_rise, ap sessions.counter_of is_old, ap sessions.counter_of is_new);
  objects_on = omega (arith, counts.objects_on, ap objects.counter_of is_old, ap objects.counter_of is_new);
  sessions_on = omega (arith, counts.sessions_on, ap sessions.counter_of is_old, ap sessions.counter_of is_new);
}

pub others_in : (client : ℕ) (old new : Option SlotState) (slots after : SlotState) (items new_items : List Item) → KeepsObjectsOf (other_than client) old new items new_items → old ≡ Some slots → new ≡ Some after
    → KeepsObjectsOf (other_than client) (Some slots) (Some after) items new_items
others_in client old new slots after items new_items others is_old is_new = λ s a index owner is_s is_a named is other. others s a index owner (is_old ∙ is_s) (is_new ∙ is_a) named is other

-- ---- the items before a command, of which one more may be vacant

-- the items as they were, and perhaps a vacant one more
abbrev pub AreMore : List Item → List Item → Type 0
AreMore items more = (more ≡ items) ⊎ (more ≡ items ++ no_item ∷ [])

more_tables : (present : List ℕ) (tables : List (List (Option ℕ))) (items more : List Item) → AreMore items more → TablesStand present tables items → TablesStand present tables more
more_tables present tables items more (inl same) stand = subst (TablesStand present tables) (sym same) stand
more_tables present tables items more (inr longer) stand = subst (TablesStand present tables) (sym longer) (tables-more present tables items stand)

more_stands : (world : World) (slots : SlotState) (tables : List (List (Option ℕ))) (held : Held) (more : List Item) (n : ℕ) → AreMore held.objects.items more
    → Stands world slots tables held n → Stands world slots tables (with_items held more) n
more_stands world slots tables held more n (inl same) stands = subst (λ (i : List Item). Stands world slots tables (with_items held i) n) (sym same) stands
more_stands world slots tables held more n (inr longer) stands = subst (λ (i : List Item). Stands world slots tables (with_items held i) n) (sym longer) (stands-more world slots tables held n stands)

more_length : (items more : List Item) → AreMore items more → length more ≤ length items + 1
more_length items more (inl same) = omega (arith, ap length same)
more_length items more (inr longer) = omega (arith, ap length longer, length-append items (no_item ∷ []))

-- fewer objects and sessions are counted too
pub fewer-counted : (began : ℕ) {faults : ℕ} (history : List Entry) {left fewer : ℕ} → FaultsCounted began faults history left → fewer ≤ left → FaultsCounted began faults history fewer
fewer-counted began history (inl counted) few = inl (omega (arith, counted, few))
fewer-counted began history (inr most) few = inr most

-- ---- the device and the world

abbrev pub Entries : Type 0
Entries = List Entry

stands_with : (base : Option Persist) (state : Option SlotState) (history : Entries) (tables : List (List (Option ℕ))) (held : Held) (more : List Item) → AreMore held.objects.items more
    → StandsAfterIf base state history tables held → StandsAfterIf base state history tables (with_items held more)
stands_with base state history tables held more are stands = λ b slots is_base is_state.
    let so_far = stands b slots is_base is_state in
    record { legal = so_far.legal; stands = more_stands (world_of b slots.numbers.active history) slots tables held more (length history) are so_far.stands }

-- so a call may begin
stands_settled : (base : Option Persist) (state : Option SlotState) (history : Entries) (tables : List (List (Option ℕ))) (held : Held) → is_some state ≡ is_some base
    → StandsAfterIf base state history tables held → Settled state held
stands_settled base None history tables held same stands = tt
stands_settled (Some b) (Some slots) history tables held same stands = (stands b slots refl refl).stands.settled
stands_settled None (Some slots) history tables held same stands = absurd cc

stands_objects : (base : Option Persist) (state : Option SlotState) (history : Entries) (tables : List (List (Option ℕ))) (held : Held) → is_some state ≡ is_some base
    → StandsAfterIf base state history tables held → length history ≤ 2 ^ 52 → objects.counter_of state + 2000 ≤ CONTEXT_LIMIT
stands_objects base None history tables held same stands few = omega arith
stands_objects (Some b) (Some slots) history tables held same stands few = omega (arith, (stands b slots refl refl).stands.object_counter, few)
stands_objects None (Some slots) history tables held same stands few = absurd cc

stands_sessions : (base : Option Persist) (state : Option SlotState) (history : Entries) (tables : List (List (Option ℕ))) (held : Held) → is_some state ≡ is_some base
    → StandsAfterIf base state history tables held → length history ≤ 2 ^ 52 → sessions.counter_of state + 2000 ≤ CONTEXT_LIMIT
stands_sessions base None history tables held same stands few = omega arith
stands_sessions (Some b) (Some slots) history tables held same stands few = omega (arith, (stands b slots refl refl).stands.counter, few)
stands_sessions None (Some slots) history tables held same stands few = absurd cc

-- it is for the same contexts as before
pub made_since : {contexts : ContextLimits} {held new_held : Held} → IsFor contexts held → StaysFor held new_held → IsFor contexts new_held
made_since made stays = record { objects = stays.objects ∙ made.objects; sessions = stays.sessions ∙ made.sessions }

-- how much the device has room for doesn't change
pub slots_still : {slots new_slots : ℕ} {numbers new_numbers : Numbers} → new_slots ≡ slots → new_numbers ≡ numbers → slots ≡ numbers.slots → new_slots ≡ new_numbers.slots
slots_still same_slots same_numbers are = same_slots ∙ are ∙ ap (λ (n : Numbers). n.slots) (sym same_numbers)

may_move : {contexts : ContextLimits} {D : Type 0} (seen : D → Seen) (device : D) (history : Entries) (tables : List (List (Option ℕ))) (held : Held) (more : List Item)
    → is_some (seen device).state ≡ is_some (seen device).base → StandsAfterIf (seen device).base (seen device).state history tables held → AreMore held.objects.items more
    → length history ≤ 2 ^ 52 → held.objects.slots ≡ held.sessions.numbers.slots → AreInRange held.sessions.numbers → IsFor contexts held
    → MayBegin 2000 contexts seen device (with_items held more)
may_move seen device history tables held more same stands are few slots_are range made_for = record {
  made_for = record { objects = made_for.objects; sessions = made_for.sessions };
  slots = slots_are;
  range = range;
  settled = stands_settled (seen device).base (seen device).state history tables (with_items held more) same (stands_with (seen device).base (seen device).state history tables held more are stands);
  object_counter = stands_objects (seen device).base (seen device).state history tables held same stands few;
  counter = stands_sessions (seen device).base (seen device).state history tables held same stands few;
}

-- one more entry that may follow, after which the device stands for the world
pub after-push : (base : Persist) (slots : SlotState) (history : Entries) (e : Entry) (tables : List (List (Option ℕ))) (held : Held) (world : World) → StandsAfter base slots history tables held → MayFollow base slots.numbers.active history e
    → (after : SlotState) (new_tables : List (List (Option ℕ))) (new_held : Held) → world_of base slots.numbers.active (history ++ e ∷ []) ≡ world → new_held.sessions.numbers ≡ held.sessions.numbers
    → Stands world after new_tables new_held (length history + 1) → StandsAfter base after (history ++ e ∷ []) new_tables new_held
after-push base slots history e tables held world so_far follows after new_tables new_held is_world numbers stands =
    let same : slots.numbers ≡ after.numbers = sym (numbers_stay slots after held new_held so_far.stands.settled stands.settled numbers) in
    record {
      legal = subst (λ (n : Numbers). Legal base n.active (history ++ e ∷ [])) same (legal-push base slots.numbers.active history e so_far.legal follows);
      stands = subst (λ (n : Numbers). Stands (world_of base n.active (history ++ e ∷ [])) after new_tables new_held (length (history ++ e ∷ []))) same
          (subst (λ (n : ℕ). Stands (world_of base slots.numbers.active (history ++ e ∷ [])) after new_tables new_held n) (sym (length-append history (e ∷ [])))
          (subst (λ (w : World). Stands w after new_tables new_held (length history + 1)) (sym is_world) stands));
    }

stepped_by : (base : Persist) (history : Entries) (client number : ℕ) (pick : Pick) (bytes reply : List ℕ) (world : World) (slots new : SlotState) (tables new_tables : List (List (Option ℕ))) (held new_held : Held)
    → StandsAfter base slots history tables held → IsOpen history client → IsNextNumber history client number → Stepped (world_of base slots.numbers.active history) client bytes reply pick world new new_tables new_held (length history + 1)
    → new_held.sessions.numbers ≡ held.sessions.numbers → StandsAfter base new (history ++ command_entry client number pick bytes reply ∷ []) new_tables new_held
stepped_by base history client number pick bytes reply world slots new tables new_tables held new_held so_far opened next s numbers =
    let e : Entry = command_entry client number pick bytes reply in
    after-push base slots history e tables held world so_far (record { form = refl; is_open = opened; number = next; after = world; stepped = s.stepped })
    new new_tables new_held (world_of-push base slots.numbers.active history e ∙ ap (after_step (world_of base slots.numbers.active history)) s.stepped) numbers s.stands

stands_carried : {D : Type 0} {seen : D → Seen} {device new : D} (history : Entries) (tables : List (List (Option ℕ))) {held new_held : Held}
    (client number : ℕ) (pick : Pick) {new_table : List (Option ℕ)} (bytes reply : List ℕ) → StandsAfterIf (seen device).base (seen device).state history tables held → TablesStand (clients_of history).present tables held.objects.items
    → IsOpen history client → client < length tables → IsNextNumber history client number → Moves seen client device new held new_held new_table
    → StepsAs (λ s. client_step client s bytes pick) (seen device).state (seen new).state held new_held (table_of tables client) new_table reply
    → StandsAfterIf (seen new).base (seen new).state (history ++ command_entry client number pick bytes reply ∷ []) (set tables client new_table) new_held
stands_carried {seen = seen} {device = device} {new = new} history tables {held} {new_held} client number pick {new_table} bytes reply stands tables_stand opened inside next moves steps = λ b after is_base is_after.
    let before = told_before (seen device).state (seen new).state after moves.keeps.tells is_after in
    let slots = before.0 in
    let so_far = stands b slots (sym moves.keeps.base_is ∙ is_base) before.1 in
    let ran = steps slots after (sequences_of (world_of b slots.numbers.active history)) before.1 is_after so_far.stands.handed in
    stepped_by b history client number pick bytes reply (world_with_state (world_of b slots.numbers.active history) client (client_state after new_held new_table ran.0)) slots after tables (set tables client new_table) held new_held so_far opened next
    (stands-step (world_of b slots.numbers.active history) slots after tables held new_held client new_table ran.0 bytes reply pick (length history) so_far.stands (is_open b slots.numbers.active history client ∙ opened) inside (clients_of history).present tables_stand
    (settled_at (seen new).state after new_held moves.settled is_after) moves.numbers (counters_in (seen device).state (seen new).state slots after moves.counts before.1 is_after)
    (others_in client (seen device).state (seen new).state slots after held.objects.items new_held.objects.items moves.other_objects before.1 is_after) ran.1 ran.2) moves.numbers

stands_refused : (contexts : ContextLimits) (base : Option Persist) (state : Option SlotState) (history : Entries) (tables : List (List (Option ℕ))) (held : Held) (client number : ℕ) (bytes : List ℕ) (code : ℕ)
    → StandsAfterIf base state history tables held → TablesStand (clients_of history).present tables held.objects.items → IsOpen history client → IsNextNumber history client number
    → client_admitted (tables_seen contexts client (table_of tables client) held.sessions.items) bytes ≡ Err code
    → IsProfile contexts state → StandsAfterIf base state (history ++ command_entry client number Nothing bytes (error_reply code) ∷ []) tables held
stands_refused contexts base state history tables held client number bytes code stands tables_stand opened next refused profile = λ b slots is_base is_state.
    let here = profile_at contexts state slots profile is_state in
    let so_far = stands b slots is_base is_state in
    stepped_by b history client number Nothing bytes (error_reply code) (world_with_state (world_of b slots.numbers.active history) client (state_in (world_of b slots.numbers.active history) client)) slots slots tables tables held held so_far opened next
    (steps-refused (world_of b slots.numbers.active history) slots tables held client bytes code (length history) so_far.stands (clients_of history).present tables_stand
    (subst (λ (c : ContextLimits). client_admitted (tables_seen c client (table_of tables client) held.sessions.items) bytes ≡ Err code) here refused)) refl

stands_canceled : (base : Option Persist) (state : Option SlotState) (history : Entries) (tables : List (List (Option ℕ))) (held : Held) (client number upto : ℕ) (bytes : List ℕ)
    → StandsAfterIf base state history tables held → IsOpen history client → IsNextNumber history client number → number ≤ upto
    → StandsAfterIf base state (history ++ canceled_entry client number upto bytes (error_reply RC_CANCELED) ∷ []) tables held
stands_canceled base state history tables held client number upto bytes stands opened next covers = λ b slots is_base is_state.
    let so_far = stands b slots is_base is_state in
    let e : Entry = canceled_entry client number upto bytes (error_reply RC_CANCELED) in
    after-push b slots history e tables held (world_of b slots.numbers.active history) so_far (record { upto = upto; form = refl; is_open = opened; number = next; covers = covers })
    slots tables held (world_of-push b slots.numbers.active history e) refl (stands-longer (world_of b slots.numbers.active history) slots tables held (length history) so_far.stands)

stands_faulted : {D : Type 0} {seen : D → Seen} {device new : D} (history : Entries) (tables : List (List (Option ℕ))) {held new_held : Held}
    (client number : ℕ) {new_table : List (Option ℕ)} (bytes : List ℕ) → StandsAfterIf (seen device).base (seen device).state history tables held → TablesStand (clients_of history).present tables held.objects.items
    → IsOpen history client → IsNextNumber history client number → Moves seen client device new held new_held new_table
    → StaysAs (seen device).state (seen new).state held new_held (table_of tables client) → AllByRecursion (λ x. x.faults ≤ (seen device).faults) history → Rose (seen device).faults (seen new).faults
    → StandsAfterIf (seen new).base (seen new).state (history ++ fault_entry client number (seen new).faults bytes (error_reply RC_DEVICE_FAULT) ∷ []) tables new_held
stands_faulted {seen = seen} {device = device} {new = new} history tables {held} {new_held} client number {new_table} bytes stands tables_stand opened next moves stays counts rose = λ b after is_base is_after.
    let before = told_before (seen device).state (seen new).state after moves.keeps.tells is_after in
    let slots = before.0 in
    let so_far = stands b slots (sym moves.keeps.base_is ∙ is_base) before.1 in
    let e : Entry = fault_entry client number (seen new).faults bytes (error_reply RC_DEVICE_FAULT) in
    after-push b slots history e tables held (world_of b slots.numbers.active history) so_far
    (record { form = refl; is_open = opened; number = next; count = next_count history (seen device).faults (seen new).faults counts rose })
    after tables new_held (world_of-push b slots.numbers.active history e) moves.numbers
    (stands-stay (world_of b slots.numbers.active history) slots after tables held new_held client (length history) so_far.stands (clients_of history).present tables_stand
    (settled_at (seen new).state after new_held moves.settled is_after) moves.numbers (counters_in (seen device).state (seen new).state slots after moves.counts before.1 is_after)
    (others_in client (seen device).state (seen new).state slots after held.objects.items new_held.objects.items moves.other_objects before.1 is_after)
    (stays slots after (sequences_of (world_of b slots.numbers.active history)) before.1 is_after))

stands_opened : (base : Option Persist) (state : Option SlotState) (history : Entries) (tables : List (List (Option ℕ))) (held : Held) (owners : List (Option ℕ)) (number : ℕ)
    → number ≡ (clients_of history).opened → StandsAfterIf base state history tables held
    → StandsAfterIf base state (history ++ open_entry number ∷ []) (tables ++ [] ∷ []) (with_owners held owners)
stands_opened base state history tables held owners number is_next stands = λ b slots is_base is_state.
    let so_far = stands b slots is_base is_state in
    let e : Entry = open_entry number in
    after-push b slots history e tables held (opened_world (world_of b slots.numbers.active history) number) so_far (ap open_entry is_next) slots (tables ++ [] ∷ []) (with_owners held owners) (world_of-push b slots.numbers.active history e) refl
    (stands-open (world_of b slots.numbers.active history) slots tables held owners (length history) number so_far.stands)

-- ---- the objects and the sessions

pub longer : (history : Entries) (e : Entry) → length (history ++ e ∷ []) ≡ length history + 1
longer history e = length-append history (e ∷ [])

-- no more are left than may be, by how much the device has room for
pub few_left : {numbers new_numbers : Numbers} {few : ℕ} → new_numbers ≡ numbers → few ≤ leave_limit numbers.active → few ≤ leave_limit new_numbers.active
few_left {few = few} same most = subst (λ (n : Numbers). few ≤ leave_limit n.active) (sym same) most

held_carried : {D : Type 0} {seen : D → Seen} {device new : D} {began before after : ℕ} (history : Entries) (e : Entry) (tables : List (List (Option ℕ))) {lists : List ℕ} {held new_held : Held} {more : List Item} {client : ℕ} {new_table : List (Option ℕ)}
    → HeldHolds began before history tables lists held → AreMore held.objects.items more → present_by e.kind e.client (clients_of history).present ≡ (clients_of history).present
    → IsOpen history client → client < length tables → Moves seen client device new (with_items held more) new_held new_table
    → FaultsCounted began after (history ++ e ∷ []) (orphan_count held)
    → HeldHolds began after (history ++ e ∷ []) (set tables client new_table) lists new_held
held_carried {began = began} history e tables {lists} {held} {new_held} {more} {client} {new_table} h are same opened inside moves counted =
    let items = held.objects.items in
    let new_items = new_held.objects.items in
    let present_is = present_same history e same in
    record {
      each = subst (λ (p : List ℕ). TablesStand p (set tables client new_table) new_items) (sym present_is)
          (tables-step (clients_of history).present tables more new_items client new_table (more_tables (clients_of history).present tables items more are h.each) opened inside moves.others moves.gained moves.own_table);
      short = omega (arith, h.short, more_length items more are, moves.length_is, longer history e);
      listed = h.listed ∙ sym (length-set tables client new_table);
      lists_stand = lists_same present_is moves.lists h.lists_stand;
      owners = subst (λ (p : List ℕ). AreOpenOwners p new_held.sessions.items) (sym present_is) (moves.owners (clients_of history).present opened h.owners);
      left_few = few_left moves.numbers (omega (arith, h.left_few, moves.left));
      counted = fewer-counted began (history ++ e ∷ []) counted (omega (arith, moves.orphans));
    }

held_refused : {began faults : ℕ} (history : Entries) (e : Entry) {tables : List (List (Option ℕ))} {lists : List ℕ} {held : Held}
    → HeldHolds began faults history tables lists held → present_by e.kind e.client (clients_of history).present ≡ (clients_of history).present → is_fault e ≡ false
    → HeldHolds began faults (history ++ e ∷ []) tables lists held
held_refused {began = began} history e {tables} {lists} {held} h same no_fault = record {
  each = subst (λ (p : List ℕ). TablesStand p tables held.objects.items) (sym (present_same history e same)) h.each;
  short = omega (arith, h.short, longer history e);
  listed = h.listed;
  lists_stand = lists_same (present_same history e same) refl h.lists_stand;
  owners = subst (λ (p : List ℕ). AreOpenOwners p held.sessions.items) (sym (present_same history e same)) h.owners;
  left_few = h.left_few;
  counted = counted-push began history e (orphan_count held) h.counted (omega arith) no_fault;
}

held_opened : {began faults : ℕ} (history : Entries) {tables : List (List (Option ℕ))} {lists : List ℕ} {held : Held} (list : ℕ) (owners : List (Option ℕ))
    → AllByRecursion (λ client. client < length tables) (clients_of history).present → HeldHolds began faults history tables lists held → Gives held.objects.owners owners list (length tables)
    → HeldHolds began faults (history ++ open_entry (length tables) ∷ []) (tables ++ [] ∷ []) (lists ++ list ∷ []) (with_owners held owners)
held_opened {began = began} history {tables} {lists} {held} list owners below h gives =
    let e : Entry = open_entry (length tables) in
    let present_is : (clients_of (history ++ e ∷ [])).present ≡ (clients_of history).present ++ length tables ∷ [] = ap (λ c. c.present) (clients_of-push history e) in
    record {
      each = subst (λ (p : List ℕ). TablesStand p (tables ++ [] ∷ []) held.objects.items) (sym present_is) (tables-open (clients_of history).present tables held.objects.items h.each);
      short = omega (arith, h.short, longer history e);
      listed = omega (arith, h.listed, length-append tables ([] ∷ []), length-append lists (list ∷ []));
      lists_stand = lists_same present_is refl (lists-opened (clients_of history).present lists held.objects.owners owners list (length tables) (sym h.listed) below h.lists_stand gives);
      owners = subst (λ (p : List ℕ). AreOpenOwners p held.sessions.items) (sym present_is) (owners-open (clients_of history).present (length tables) held.sessions.items h.owners);
      left_few = h.left_few;
      counted = counted-push began history e (orphan_count held) h.counted (omega arith) refl;
    }

-- what the device holds where no client is open
held_closed : {began faults : ℕ} (history : Entries) (tables : List (List (Option ℕ))) {lists : List ℕ} (held : Held) (slots : SlotState)
    → HeldHolds began faults history tables lists held → (clients_of history).present ≡ [] → IsSettled slots held → AreNowhere held.objects.items
    → ListsThose is_left held.sessions.left held.sessions.items → HoldsLeft began faults history slots held.sessions.left
held_closed {began = began} {faults = faults} history tables held slots h none settled nowhere listed =
    let nobody = none_rests tables held.objects.items (subst (λ (p : List ℕ). TablesStand p tables held.objects.items) none h.each) nowhere in
    let owners = subst (λ (p : List ℕ). AreOpenOwners p held.sessions.items) none h.owners in
    record {
      few = few_left settled.sessions.numbers h.left_few;
      orphans = orphan_count held;
      held_is = held_slots slots held settled owners nobody listed;
      counted = h.counted;
      there = held_there slots held settled listed;
      only = held_only slots held settled owners nobody listed;
    }

pub held_told : (began : ℕ) (base : Option Persist) (state : Option SlotState) (faults : ℕ) (history : Entries) (tables : List (List (Option ℕ))) {lists : List ℕ} (held : Held) (wrong_code : Option ℕ)
    → is_some state ≡ is_some base → StandsAfterIf base state history tables held → (wrong_code ≡ None → HeldHolds began faults history tables lists held) → (IsSome state → wrong_code ≡ None)
    → AreNowhere held.objects.items → ListsThose is_left held.sessions.left held.sessions.items → (clients_of history).present ≡ []
    → IfSome state (λ slots. HoldsLeft began faults history slots held.sessions.left)
held_told began base None faults history tables held wrong_code same stands holds taken nowhere listed none = tt
held_told began (Some b) (Some slots) faults history tables held wrong_code same stands holds taken nowhere listed none =
    held_closed history tables held slots (holds (taken refl)) none (stands b slots refl refl).stands.settled nowhere listed
held_told began None (Some slots) faults history tables held wrong_code same stands holds taken nowhere listed none = absurd cc

-- ---- a broker

pub none_is : {A : Type 0} (o : Option A) → is_some o ≡ false → o ≡ None
none_is (Some x) none = absurd cc
none_is None none = refl

-- a client was opened
holds_opened : {contexts : ContextLimits} {began : ℕ} {seen : Seen} {history : Entries} {limit : ℕ} {tables : List (List (Option ℕ))} {lists : List ℕ} {held : Held}
    {present : ℕ} {wrong_code : Option ℕ} (number list : ℕ) (owners : List (Option ℕ)) → Holds contexts began seen history limit tables lists held present wrong_code
    → number ≡ length tables → HasRoomForClient limit history → Gives held.objects.owners owners list number
    → Holds contexts began seen (history ++ open_entry number ∷ []) limit (tables ++ [] ∷ []) (lists ++ list ∷ []) (with_owners held owners) (present + 1) wrong_code
holds_opened {began = began} {seen = seen} {history = history} {limit = limit} {tables = tables} {lists = lists} {held = held} {present = present} number list owners h is_next room gives =
    let e : Entry = open_entry number in
    let gives_next = subst (Gives held.objects.owners owners list) is_next gives in
    record {
      stands = stands_opened seen.base seen.state history tables held owners number (is_next ∙ h.journal.opened_is) h.stands;
      journal = subst (λ (n : ℕ). JournalHolds (history ++ open_entry n ∷ []) limit seen.faults (length (tables ++ [] ∷ [])) (present + 1)) (sym is_next)
          (subst (λ (n : ℕ). JournalHolds (history ++ open_entry (length tables) ∷ []) limit seen.faults n (present + 1)) (sym (length-append tables ([] ∷ []))) (journal-open h.journal room));
      objects = λ none. subst (λ (n : ℕ). HeldHolds began seen.faults (history ++ open_entry n ∷ []) (tables ++ [] ∷ []) (lists ++ list ∷ []) (with_owners held owners)) (sym is_next)
          (held_opened history list owners h.journal.below (h.objects none) gives_next);
      answers = h.answers;
      faulted = counted-push began history e 0 h.faulted (omega arith) refl;
      made_for = record { objects = h.made_for.objects; sessions = h.made_for.sessions };
      slots_are = h.slots_are;
      range = h.range;
      few = omega (arith, h.few, longer history e);
      placed = h.placed;
    }

-- the same of what is held with a list more that is given
pub view_opened : {contexts : ContextLimits} {began : ℕ} {seen : Seen} {history : Entries} {limit : ℕ} {tables : List (List (Option ℕ))} {lists : List ℕ} {held : Held}
    {present : ℕ} {wrong_code : Option ℕ} (number list : ℕ) (view : ObjectsView) → Holds contexts began seen history limit tables lists held present wrong_code
    → number ≡ length tables → HasRoomForClient limit history → Gives held.objects.owners view.owners list number → view ≡ record held.objects { owners = view.owners }
    → Holds contexts began seen (history ++ open_entry number ∷ []) limit (tables ++ [] ∷ []) (lists ++ list ∷ []) (record { objects = view; sessions = held.sessions }) (present + 1) wrong_code
view_opened {contexts = contexts} {began = began} {seen = seen} {history = history} {limit = limit} {tables = tables} {lists = lists} {held = held} {present = present} {wrong_code = wrong_code} number list view h is_next room gives is =
    subst (λ (v : ObjectsView). Holds contexts began seen (history ++ open_entry number ∷ []) limit (tables ++ [] ∷ []) (lists ++ list ∷ []) (record { objects = v; sessions = held.sessions }) (present + 1) wrong_code)
    (sym is) (holds_opened number list view.owners h is_next room gives)

-- a client that is opened has no list yet
pub none_listed : {contexts : ContextLimits} {began : ℕ} {seen : Seen} {history : Entries} {limit : ℕ} {tables : List (List (Option ℕ))} {lists : List ℕ} {held : Held}
    {present : ℕ} {wrong_code : Option ℕ} (number : ℕ) → Holds contexts began seen history limit tables lists held present wrong_code
    → is_some wrong_code ≡ false → number ≡ length tables → has_list held.objects.owners number ≡ false
none_listed {history = history} {tables = tables} {lists = lists} {held = held} {wrong_code = wrong_code} number h none is_next =
    no_list (clients_of history).present lists held.objects.owners number (h.objects (none_is wrong_code none)).lists_stand
    (open_none (clients_of history).present number (length tables) h.journal.below (omega (arith, is_next)))

-- the list of an open client is its own
pub own_list : {contexts : ContextLimits} {began : ℕ} {seen : Seen} {history : Entries} {limit : ℕ} {tables : List (List (Option ℕ))} {lists : List ℕ} {held : Held}
    {present : ℕ} {wrong_code : Option ℕ} (client list : ℕ) → Holds contexts began seen history limit tables lists held present wrong_code
    → is_some wrong_code ≡ false → IsOpen history client → list ≡ list_of lists client → owner_at held.objects.owners list ≡ Some client
own_list {held = held} {wrong_code = wrong_code} client list h none opened is =
    ap (owner_at held.objects.owners) is ∙ (h.objects (none_is wrong_code none)).lists_stand.own client opened

-- ---- a command

pub inside_tables : {contexts : ContextLimits} {began : ℕ} {seen : Seen} {history : Entries} {limit : ℕ} {tables : List (List (Option ℕ))} {lists : List ℕ} {held : Held}
    {present : ℕ} {wrong_code : Option ℕ} (client : ℕ) → Holds contexts began seen history limit tables lists held present wrong_code → IsOpen history client → client < length tables
inside_tables {history = history} {tables = tables} client h opened = open_inside (clients_of history).present client (length tables) h.journal.below opened

pub few_items : {contexts : ContextLimits} {began : ℕ} {seen : Seen} {history : Entries} {limit : ℕ} {tables : List (List (Option ℕ))} {lists : List ℕ} {held : Held}
    {present : ℕ} {wrong_code : Option ℕ} → Holds contexts began seen history limit tables lists held present wrong_code → length held.objects.items ≤ 2 ^ 31
few_items h = h.placed

size_most : (size : ℕ) → is_size size ≡ true → size ≤ 4096
size_most size e = leb-true size 4096 (and_parts _ _ e).1

frame_short : (reply : List ℕ) → is_frame reply ≡ true → length reply ≤ 4096
frame_short reply whole = size_most (length reply) (and_parts (is_size (length reply)) _ whole).0

pub no_answer : (contexts : ContextLimits) (asked : List ℕ) (last : Option (List ℕ)) (wrong_code : Option ℕ) → wrong_code ≡ None → IfSome wrong_code (IsWrongAnswer contexts asked last)
no_answer contexts asked last wrong_code none = subst (λ (o : Option ℕ). IfSome o (IsWrongAnswer contexts asked last)) (sym none) tt

-- the last answer is right, if it was before and nothing was sent since
pub still_right : (contexts : ContextLimits) {D : Type 0} (seen : D → Seen) (device new : D) → IsRight contexts (asked_of (seen device)) (last_of (seen device)) → (new ≡ device) ⊎ IsRight contexts (asked_of (seen new)) (last_of (seen new)) → IsRight contexts (asked_of (seen new)) (last_of (seen new))
still_right contexts seen device new before (inl same) = subst (λ d. IsRight contexts (asked_of (seen d)) (last_of (seen d))) (sym same) before
still_right contexts seen device new before (inr right) = right

pub not_told : (state : Option SlotState) → state ≡ None → IsSome state → ⊥
not_told state none some = let yes : is_some state ≡ true = some in let no : is_some state ≡ false = ap is_some none in cc

pub no_state : (state : Option SlotState) (slots : SlotState) → state ≡ None → state ≡ Some slots → ⊥
no_state state slots none some = let yes : is_some state ≡ true = ap is_some some in let no : is_some state ≡ false = ap is_some none in cc

-- one that the broker refused by itself
pub holds_refused : {contexts : ContextLimits} {began : ℕ} {seen : Seen} {history : Entries} {limit : ℕ} {tables : List (List (Option ℕ))} {lists : List ℕ} {held : Held}
    {present : ℕ} {wrong_code : Option ℕ} (client number : ℕ) (bytes : List ℕ) (code : ℕ) → Holds contexts began seen history limit tables lists held present wrong_code
    → is_some wrong_code ≡ false → IsOpen history client → IsNextNumber history client number → client_admitted (tables_seen contexts client (table_of tables client) held.sessions.items) bytes ≡ Err code
    → HasRoom limit history bytes → IsProfile contexts seen.state
    → Holds contexts began seen (history ++ command_entry client number Nothing bytes (error_reply code) ∷ []) limit tables lists held present wrong_code
holds_refused {began = began} {seen = seen} {history = history} {tables = tables} {held = held} {wrong_code = wrong_code} client number bytes code h none opened next refused has_room profile =
    let e : Entry = command_entry client number Nothing bytes (error_reply code) in
    let holds = h.objects (none_is wrong_code none) in
    record {
      stands = stands_refused _ seen.base seen.state history tables held client number bytes code h.stands holds.each opened next refused profile;
      journal = journal-entry e h.journal (omega arith) refl refl (omega arith) (error_is_frame code) has_room (frame_short (error_reply code) (error_is_frame code));
      objects = λ _. held_refused history e holds refl refl;
      answers = h.answers;
      faulted = counted-push began history e 0 h.faulted (omega arith) refl;
      made_for = h.made_for;
      slots_are = h.slots_are;
      range = h.range;
      few = omega (arith, h.few, longer history e);
      placed = h.placed;
    }

-- one that was canceled before it ran
pub holds_canceled : {contexts : ContextLimits} {began : ℕ} {seen : Seen} {history : Entries} {limit : ℕ} {tables : List (List (Option ℕ))} {lists : List ℕ} {held : Held}
    {present : ℕ} {wrong_code : Option ℕ} (client number upto : ℕ) (bytes : List ℕ) → Holds contexts began seen history limit tables lists held present wrong_code
    → is_some wrong_code ≡ false → IsOpen history client → IsNextNumber history client number → number ≤ upto → HasRoom limit history bytes
    → Holds contexts began seen (history ++ canceled_entry client number upto bytes (error_reply RC_CANCELED) ∷ []) limit tables lists held present wrong_code
holds_canceled {began = began} {seen = seen} {history = history} {tables = tables} {held = held} {wrong_code = wrong_code} client number upto bytes h none opened next covers has_room =
    let e : Entry = canceled_entry client number upto bytes (error_reply RC_CANCELED) in
    let whole = error_is_frame RC_CANCELED in
    record {
      stands = stands_canceled seen.base seen.state history tables held client number upto bytes h.stands opened next covers;
      journal = journal-entry e h.journal (omega arith) refl refl (omega arith) whole has_room (frame_short (error_reply RC_CANCELED) whole);
      objects = λ _. held_refused history e (h.objects (none_is wrong_code none)) refl refl;
      answers = h.answers;
      faulted = counted-push began history e 0 h.faulted (omega arith) refl;
      made_for = h.made_for;
      slots_are = h.slots_are;
      range = h.range;
      few = omega (arith, h.few, longer history e);
      placed = h.placed;
    }

-- one that was carried out
holds_carried : {contexts : ContextLimits} {D : Type 0} (seen : D → Seen) {device new : D} {began : ℕ} {history : Entries} {limit : ℕ}
    {tables : List (List (Option ℕ))} {lists : List ℕ} {held new_held : Held} {more : List Item} {new_table : List (Option ℕ)} {present : ℕ} {wrong_code : Option ℕ} (client number : ℕ) (pick : Pick) (bytes reply : List ℕ)
    → Holds contexts began (seen device) history limit tables lists held present wrong_code
    → is_some wrong_code ≡ false → IsOpen history client → IsNextNumber history client number → HasRoom limit history bytes → AreMore held.objects.items more → length more ≤ PLACES_MOST
    → Moves seen client device new (with_items held more) new_held new_table
    → StepsAs (λ s. client_step client s bytes pick) (seen device).state (seen new).state (with_items held more) new_held (table_of tables client) new_table reply
    → is_frame reply ≡ true → (new ≡ device) ⊎ IsRight contexts (asked_of (seen new)) (last_of (seen new))
    → Holds contexts began (seen new) (history ++ command_entry client number pick bytes reply ∷ []) limit (set tables client new_table) lists new_held present wrong_code
holds_carried {contexts = contexts} seen {device = device} {new = new} {began = began} {history = history} {limit = limit} {tables = tables} {held = held} {new_held = new_held} {more = more}
    {new_table = new_table} {present = present} {wrong_code = wrong_code} client number pick bytes reply h none opened next has_room are most moves steps whole right =
    let e : Entry = command_entry client number pick bytes reply in
    let none = none_is wrong_code none in
    let holds = h.objects none in
    let inside = open_inside (clients_of history).present client (length tables) h.journal.below opened in
    let tables_stand = more_tables (clients_of history).present tables held.objects.items more are holds.each in
    record {
      stands = stands_carried history tables client number pick bytes reply (stands_with (seen device).base (seen device).state history tables held more are h.stands) tables_stand opened inside next moves steps;
      journal = subst (λ (n : ℕ). JournalHolds (history ++ e ∷ []) limit (seen new).faults n present) (sym (length-set tables client new_table))
          (journal-entry e h.journal moves.keeps.count refl refl (omega arith) whole has_room (frame_short reply whole));
      objects = λ _. held_carried history e tables holds are refl opened inside moves (counted-push began history e _ holds.counted moves.keeps.count refl);
      answers = record {
        answer = no_answer _ (asked_of (seen new)) (last_of (seen new)) wrong_code none;
        right = λ _. still_right contexts seen device new (h.answers.right none) right;
        taken = λ _. none;
      };
      faulted = counted-push began history e 0 h.faulted moves.keeps.count refl;
      made_for = made_since {held = with_items held more} (record { objects = h.made_for.objects; sessions = h.made_for.sessions }) moves.made_for;
      slots_are = slots_still moves.slots moves.numbers h.slots_are;
      range = subst AreInRange (sym moves.numbers) h.range;
      few = omega (arith, holds.short, more_length held.objects.items more are, moves.length_is, longer history e);
      placed = omega (arith, most, moves.length_is);
    }

-- one whose transmission failed, or one of the broker's own before it
holds_faulted : {contexts : ContextLimits} {D : Type 0} (seen : D → Seen) {device new : D} {began : ℕ} {history : Entries} {limit : ℕ}
    {tables : List (List (Option ℕ))} {lists : List ℕ} {held new_held : Held} {more : List Item} {new_table : List (Option ℕ)} {present : ℕ} {wrong_code : Option ℕ} (client number : ℕ) (bytes : List ℕ)
    → Holds contexts began (seen device) history limit tables lists held present wrong_code
    → is_some wrong_code ≡ false → IsOpen history client → IsNextNumber history client number → HasRoom limit history bytes → AreMore held.objects.items more → length more ≤ PLACES_MOST
    → Moves seen client device new (with_items held more) new_held new_table
    → Stays (seen device).state (seen new).state (with_items held more) new_held (table_of tables client) new_table
    → Rose (seen device).faults (seen new).faults × (last_of (seen new) ≡ None)
    → Holds contexts began (seen new) (history ++ fault_entry client number (seen new).faults bytes (error_reply RC_DEVICE_FAULT) ∷ []) limit tables lists new_held present wrong_code
holds_faulted {contexts = contexts} seen {device = device} {new = new} {began = began} {history = history} {limit = limit} {tables = tables} {lists = lists} {held = held} {new_held = new_held} {more = more}
    {new_table = new_table} {present = present} {wrong_code = wrong_code} client number bytes h none opened next has_room are most moves stays failed =
    let e : Entry = fault_entry client number (seen new).faults bytes (error_reply RC_DEVICE_FAULT) in
    let none = none_is wrong_code none in
    let holds = h.objects none in
    let inside = open_inside (clients_of history).present client (length tables) h.journal.below opened in
    let tables_stand = more_tables (clients_of history).present tables held.objects.items more are holds.each in
    let whole = error_is_frame RC_DEVICE_FAULT in
    let same_tables = tables_same tables client new_table stays.table_is in
    record {
      stands = stands_faulted history tables client number bytes (stands_with (seen device).base (seen device).state history tables held more are h.stands) tables_stand opened next moves stays.client h.journal.counts failed.0;
      journal = journal-entry e h.journal moves.keeps.count refl refl (omega arith) whole has_room (frame_short (error_reply RC_DEVICE_FAULT) whole);
      objects = λ _. subst (λ (t : List (List (Option ℕ))). HeldHolds began (seen new).faults (history ++ e ∷ []) t lists new_held) same_tables
          (held_carried history e tables holds are refl opened inside moves (counted-fault began history e _ holds.counted moves.keeps.count failed.0 refl));
      answers = record { answer = no_answer _ (asked_of (seen new)) (last_of (seen new)) wrong_code none; right = λ _. right_none contexts (asked_of (seen new)) (last_of (seen new)) failed.1; taken = λ _. none };
      faulted = counted-fault began history e 0 h.faulted moves.keeps.count failed.0 refl;
      made_for = made_since {held = with_items held more} (record { objects = h.made_for.objects; sessions = h.made_for.sessions }) moves.made_for;
      slots_are = slots_still moves.slots moves.numbers h.slots_are;
      range = subst AreInRange (sym moves.numbers) h.range;
      few = omega (arith, holds.short, more_length held.objects.items more are, moves.length_is, longer history e);
      placed = omega (arith, most, moves.length_is);
    }

-- one after which a wrong answer came
pub holds_wrong : {contexts : ContextLimits} {began : ℕ} {seen new_seen : Seen} {history : Entries} {limit : ℕ}
    {tables tables_new : List (List (Option ℕ))} {lists : List ℕ} {held new_held : Held} {present : ℕ} {wrong_code : Option ℕ} (code : ℕ)
    → Holds contexts began seen history limit tables lists held present wrong_code → length tables_new ≡ length tables → seen.faults ≤ new_seen.faults
    → StaysFor held new_held → new_held.objects.slots ≡ held.objects.slots → new_held.sessions.numbers ≡ held.sessions.numbers → length new_held.objects.items ≤ length history + 1 → length new_held.objects.items ≤ PLACES_MOST
    → IsWrongAnswer contexts (asked_of new_seen) (last_of new_seen) code × (new_seen.state ≡ None)
    → Holds contexts began new_seen history limit tables_new lists new_held present (Some code)
holds_wrong {began = began} {new_seen = new_seen} {history = history} {limit = limit} {present = present} code h same count same_contexts same_slots same_numbers few placed answer = record {
  stands = λ b slots is_base is_state. absurd (no_state new_seen.state slots answer.1 is_state);
  journal = subst (λ (n : ℕ). JournalHolds history limit new_seen.faults n present) (sym same) (journal-later h.journal count);
  objects = λ none. absurd cc;
  answers = record {
    answer = answer.0;
    right = λ none. absurd cc;
    taken = λ told. absurd (not_told new_seen.state answer.1 told);
  };
  faulted = counted-later began history 0 h.faulted count;
  made_for = made_since h.made_for same_contexts;
  slots_are = slots_still same_slots same_numbers h.slots_are;
  range = subst AreInRange (sym same_numbers) h.range;
  few = few;
  placed = placed;
}

-- what is held, which is as it was
pub held_same : (held other : Held) → other.objects.items ≡ held.objects.items → other.objects ≡ record held.objects { items = other.objects.items }
    → other.sessions ≡ held.sessions → other ≡ held
held_same held other items objects sessions = λ i. record {
  objects = (objects ∙ ap (λ (items : List Item). record held.objects { items = items }) items) i;
  sessions = sessions i;
}

-- what is held with other items alone
pub with_items_is : (held roomier : Held) → roomier.objects ≡ record held.objects { items = roomier.objects.items } → roomier.sessions ≡ held.sessions
    → with_items held roomier.objects.items ≡ roomier
with_items_is held roomier objects sessions = λ i. record { objects = sym objects i; sessions = sym sessions i }

-- the same of a table, and of what is held, that are known by themselves
pub table_carried : {contexts : ContextLimits} {D : Type 0} (seen : D → Seen) {device new : D} {began : ℕ} {history : Entries} {limit : ℕ}
    {tables : List (List (Option ℕ))} {lists : List ℕ} {held roomier new_held : Held} {table new_table : List (Option ℕ)} {present : ℕ} {wrong_code : Option ℕ} (more : List Item) (client number : ℕ) (pick : Pick) (bytes reply : List ℕ)
    → Holds contexts began (seen device) history limit tables lists held present wrong_code
    → is_some wrong_code ≡ false → IsOpen history client → IsNextNumber history client number → HasRoom limit history bytes → AreMore held.objects.items more → length more ≤ PLACES_MOST
    → with_items held more ≡ roomier → table_of tables client ≡ table
    → Moves seen client device new roomier new_held new_table
    → StepsAs (λ s. client_step client s bytes pick) (seen device).state (seen new).state roomier new_held table new_table reply
    → is_frame reply ≡ true → (new ≡ device) ⊎ IsRight contexts (asked_of (seen new)) (last_of (seen new))
    → Holds contexts began (seen new) (history ++ command_entry client number pick bytes reply ∷ []) limit (set tables client new_table) lists new_held present wrong_code
table_carried {contexts = contexts} seen {device = device} {new = new} {began = began} {history = history} {limit = limit} {tables = tables} {lists = lists} {held = held} {roomier = roomier} {new_held = new_held} {new_table = new_table}
    {present = present} {wrong_code = wrong_code} more client number pick bytes reply h none opened next has_room are most is_held is =
    subst (λ (t : List (Option ℕ)). Moves seen client device new roomier new_held new_table
    → StepsAs (λ s. client_step client s bytes pick) (seen device).state (seen new).state roomier new_held t new_table reply
    → is_frame reply ≡ true → (new ≡ device) ⊎ IsRight contexts (asked_of (seen new)) (last_of (seen new))
    → Holds contexts began (seen new) (history ++ command_entry client number pick bytes reply ∷ []) limit (set tables client new_table) lists new_held present wrong_code)
    is (subst (λ (r : Held). Moves seen client device new r new_held new_table
    → StepsAs (λ s. client_step client s bytes pick) (seen device).state (seen new).state r new_held (table_of tables client) new_table reply
    → is_frame reply ≡ true → (new ≡ device) ⊎ IsRight contexts (asked_of (seen new)) (last_of (seen new))
    → Holds contexts began (seen new) (history ++ command_entry client number pick bytes reply ∷ []) limit (set tables client new_table) lists new_held present wrong_code)
    is_held (holds_carried seen client number pick bytes reply h none opened next has_room are most))

pub table_faulted : {contexts : ContextLimits} {D : Type 0} (seen : D → Seen) {device new : D} {began : ℕ} {history : Entries} {limit : ℕ}
    {tables : List (List (Option ℕ))} {lists : List ℕ} {held roomier new_held : Held} {table new_table : List (Option ℕ)} {present : ℕ} {wrong_code : Option ℕ} (more : List Item) (client number : ℕ) (bytes : List ℕ)
    → Holds contexts began (seen device) history limit tables lists held present wrong_code
    → is_some wrong_code ≡ false → IsOpen history client → IsNextNumber history client number → HasRoom limit history bytes → AreMore held.objects.items more → length more ≤ PLACES_MOST
    → with_items held more ≡ roomier → table_of tables client ≡ table
    → Moves seen client device new roomier new_held new_table
    → Stays (seen device).state (seen new).state roomier new_held table new_table
    → Rose (seen device).faults (seen new).faults × (last_of (seen new) ≡ None)
    → Holds contexts began (seen new) (history ++ fault_entry client number (seen new).faults bytes (error_reply RC_DEVICE_FAULT) ∷ []) limit tables lists new_held present wrong_code
table_faulted {contexts = contexts} seen {device = device} {new = new} {began = began} {history = history} {limit = limit} {tables = tables} {lists = lists} {held = held} {roomier = roomier} {new_held = new_held} {new_table = new_table}
    {present = present} {wrong_code = wrong_code} more client number bytes h none opened next has_room are most is_held is =
    subst (λ (t : List (Option ℕ)). Moves seen client device new roomier new_held new_table
    → Stays (seen device).state (seen new).state roomier new_held t new_table
    → Rose (seen device).faults (seen new).faults × (last_of (seen new) ≡ None)
    → Holds contexts began (seen new) (history ++ fault_entry client number (seen new).faults bytes (error_reply RC_DEVICE_FAULT) ∷ []) limit tables lists new_held present wrong_code)
    is (subst (λ (r : Held). Moves seen client device new r new_held new_table
    → Stays (seen device).state (seen new).state r new_held (table_of tables client) new_table
    → Rose (seen device).faults (seen new).faults × (last_of (seen new) ≡ None)
    → Holds contexts began (seen new) (history ++ fault_entry client number (seen new).faults bytes (error_reply RC_DEVICE_FAULT) ∷ []) limit tables lists new_held present wrong_code)
    is_held (holds_faulted seen client number bytes h none opened next has_room are most))

-- what a call on the machine may begin with
pub table_now : {contexts : ContextLimits} {began : ℕ} {seen : Seen} {history : Entries} {limit : ℕ} {tables : List (List (Option ℕ))} {lists : List ℕ} {held : Held}
    {present : ℕ} {wrong_code : Option ℕ} (more : List Item) (client : ℕ) (table : List (Option ℕ)) → Holds contexts began seen history limit tables lists held present wrong_code
    → is_some wrong_code ≡ false → AreMore held.objects.items more → table_of tables client ≡ table → IsTable more client table
table_now {history = history} {tables = tables} {held = held} {wrong_code = wrong_code} more client table h none are is =
    subst (λ (t : List (Option ℕ)). IsTable more client t) is ((more_tables (clients_of history).present tables held.objects.items more are (h.objects (none_is wrong_code none)).each).each client)

pub moves_now : {contexts : ContextLimits} {D : Type 0} (seen : D → Seen) (device : D) {began : ℕ} {history : Entries} {limit : ℕ} {tables : List (List (Option ℕ))} {lists : List ℕ} {held roomier : Held}
    {present : ℕ} {wrong_code : Option ℕ} (more : List Item) → is_some (seen device).state ≡ is_some (seen device).base → Holds contexts began (seen device) history limit tables lists held present wrong_code
    → AreMore held.objects.items more → with_items held more ≡ roomier → MayBegin 2000 contexts seen device roomier
moves_now {contexts = contexts} seen device {history = history} {tables = tables} {held = held} more same h are is_held =
    subst (λ (r : Held). MayBegin 2000 contexts seen device r) is_held (may_move seen device history tables held more same h.stands are (few-entries h.journal) h.slots_are h.range h.made_for)

-- an item more, or none
pub are_more : (items more : List Item) → (more ≡ items) ⊎ ((list_any is_vacant items ≡ false) × (more ≡ items ++ no_item ∷ [])) → AreMore items more
are_more items more (inl same) = inl same
are_more items more (inr longer) = inr longer.1

pub few_more : {contexts : ContextLimits} {began : ℕ} {seen : Seen} {history : Entries} {limit : ℕ} {tables : List (List (Option ℕ))} {lists : List ℕ} {held : Held}
    {present : ℕ} {wrong_code : Option ℕ} (more : List Item) → Holds contexts began seen history limit tables lists held present wrong_code
    → is_some wrong_code ≡ false → AreMore held.objects.items more → length more ≤ length history + 1
few_more {held = held} {wrong_code = wrong_code} more h none are = omega (arith, (h.objects (none_is wrong_code none)).short, more_length held.objects.items more are)
