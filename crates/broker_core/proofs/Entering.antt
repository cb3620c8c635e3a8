-- The entry of a command, and what its client is told.
use Rattle.std.proofs.Common.{◌≡◌, ◌≤◌, ◌<◌, ◌+◌, ◌-◌, ℕ, Bool, true, false, List, length, [], ◌∷◌, ◌++◌, Option, Some, None, Result, Ok, Err, refl, sym, ap, subst, ◌∙◌, arith, inl, inr}
use Rattle.std.specs.Prelude.{◌⊎◌, ◌==◌, ◌&&◌, ◌||◌, not, is_some, set, if◌then◌else◌}
use Rattle.std.proofs.lemmas.Bool.{and_parts, eqb-true, true≢false}
use Rattle.tab_spec.specs.declared.Admitted.{Admitted}
use Rattle.tab_spec.specs.declared.CommandRow.{CommandRow}
use Rattle.tab_spec.specs.declared.TheConstants.{CC_CONTEXT_SAVE, CC_FLUSH_CONTEXT, CC_START_AUTH_SESSION, HT_TRANSIENT, RC_DEVICE_FAULT, RC_SUCCESS}
use Rattle.tab_spec.specs.Admission.{Tables, client_admitted}
use Rattle.tab_spec.specs.Count.{Rose}
use Rattle.tab_spec.specs.Frame.{code_of}
use Rattle.tab_spec.specs.Reply.{error_reply, with_response_handle}
use Rattle.tab_spec.specs.declared.Shape.{Shape}
use Rattle.tab_spec.specs.Shape.{makes_object, makes_object_by, octet_of}
use Rattle.tab_spec.specs.declared.contexts.ContextLimits.{ContextLimits}
use Rattle.device_spec.specs.Answers.{IsRight, takes}
use Rattle.device_port.specs.Device.{Seen, asked_of, last_of, sent_of}
use Rattle.device_laws.proofs.ContextSteps.{save_row}
use Rattle.object_swap.specs.Items as objects
use Rattle.object_swap.specs.Items.{Item, ObjectsView, handle_in, no_item, item_at, is_resident, is_unsaved, missing, residents}
use Rattle.session_swap.specs.Items as sessions
use Rattle.std.specs.List.{count_by}
use Rattle.device_port.specs.Use.{all_used, first_unneeded, is_among, without_first}
use Rattle.client_laws.specs.Ready.{named_sessions, is_sent, sent_for, starts_session, tells_object, tells_session}
use Rattle.client_laws.proofs.Commands.{clients_command, command_sent_code, command_session, row_as}
use Rattle.history_spec.specs.declared.Pick.TheVariants.{Nothing}
use Rattle.history_spec.specs.Table.{held_under, next_handle}
use Rattle.history_spec.specs.Entry.{Entry, HasRoom, command_entry, fault_entry}
use Rattle.broker_lock.specs.declared.calls.Told.{Told}
use Rattle.broker_lock.specs.declared.calls.Told.TheVariants as tolds
use Rattle.client_machine.specs.declared.held.Held.{Held}
use Rattle.broker_core.specs.Broker.{BrokerView, EntersCommand, BrokerTells, TellsNoRoom, checked}
use Rattle.broker_core.specs.Broker.{Costs}
use Rattle.client_machine.specs.Moves.{Executes, FailsAtLast, IsAtHand, IsCalm, IsFlushSent, KeepsOwners, UsedLast, moves_for, named_objects, places_needed, slots_of, any_client, client_reply, first_handle, flush_of, pick_of, tells_context, saved_number}
use Rattle.client_machine.specs.Settled.{orphan_count}
use Rattle.client_machine.specs.Tables.{device_handle, flush_fault_of, flush_sent, flush_sent_unless, flushed_handle, owned_handles, slot_handle, tables_had, tables_seen}
use Rattle.broker_core.specs.Tables.{table_of}
use Rattle.broker_core.proofs.Holding.{AreMore, still_right}
use Rattle.client_machine.proofs.Bringing.{command_shape}
use Rattle.client_machine.proofs.Doing.{no_handle}
use Rattle.broker_core.proofs.Tabling.{item_pushed, names_pushed, residents-more, table_own}
use Rattle.client_machine.proofs.Telling.{context_there, save_refused, unsent_makes, unsent_starts}
use Rattle.session_swap.specs.Items.{gap_kept, renewal_gap}
use Rattle.client_machine.specs.Costs.{SendsUpTo, StaysIn, new_bound}
use Rattle.broker_core.proofs.WorldStands.{with_items}

-- what the broker admits over what it showed of a client is admitted over what the client has
pub admitted_read : (contexts read : ContextLimits) (client : ℕ) (table shown : List (Option ℕ)) (items : List (Option sessions.Item)) (bytes : List ℕ)
    (result : Result Admitted ℕ) → read ≡ contexts → shown ≡ table → result ≡ client_admitted (tables_seen read client shown items) bytes
    → client_admitted (tables_seen contexts client table items) bytes ≡ result
admitted_read contexts read client table shown items bytes result contexts_are table_is is =
    sym (is ∙ (λ i. client_admitted (tables_seen (contexts_are i) client (table_is i) items) bytes))

-- a command makes an object if it does by the shape with which it was admitted
pub made_by : (contexts : ContextLimits) (tables : Tables) (bytes : List ℕ) (a : Admitted) → client_admitted tables bytes ≡ Ok a → makes_object_by contexts (Ok a.shape) bytes ≡ true → makes_object contexts bytes ≡ true
made_by contexts tables bytes a admitted makes = ap (λ (shape : Result Shape ℕ). makes_object_by contexts shape bytes) (command_shape tables bytes a admitted) ∙ makes

-- a command that has no room for its entry changes nothing
pub told_unentered : (contexts : ContextLimits) {D : Type 0} (seen : D → Seen) (told : Told) (old new : BrokerView D) (client number : ℕ) (bytes reply : List ℕ)
    → TellsNoRoom told old.limit old.journal bytes reply → new ≡ old → BrokerTells contexts seen told old new client number bytes reply
told_unentered contexts seen tolds.Entered old new client number bytes reply none same = absurd none
told_unentered contexts seen tolds.Memory old new client number bytes reply none same = absurd none
told_unentered contexts seen (tolds.JournalFull count most) old new client number bytes reply none same =
    record { lacks = none.0; same = same; reply_is = none.1; kept_is = none.2; limit_is = none.3 }
told_unentered contexts seen tolds.Answer old new client number bytes reply none same = absurd none

pub view_entered : {D : Type 0} (old : BrokerView D) (journal : List Entry) (limit : ℕ) (e : Entry) → journal ≡ old.journal ++ e ∷ [] → limit ≡ old.limit
    → record old { journal = journal; limit = limit } ≡ record old { journal = old.journal ++ e ∷ [] }
view_entered old journal limit e is_journal is_limit =
    ap (λ (l : ℕ). record old { journal = journal; limit = l }) is_limit ∙ ap (λ (j : List Entry). record old { journal = j }) is_journal

pub entered_refused : {contexts : ContextLimits} {D : Type 0} (seen : D → Seen) (old new : BrokerView D) (client number : ℕ) (bytes reply : List ℕ) (code : ℕ)
    → checked contexts old client bytes ≡ Err code → reply ≡ error_reply code → HasRoom old.limit old.journal bytes
    → new ≡ record old { journal = old.journal ++ command_entry client number Nothing bytes reply ∷ [] } → EntersCommand contexts seen old new client number bytes reply
entered_refused seen old new client number bytes reply code refused is_reply room same = record {
  e = command_entry client number Nothing bytes reply;
  entered = ap (λ (v : _). v.journal) same;
  reply_is = refl;
  room = room;
  cause = inl (record { code = code; refused = refused; entry = ap (command_entry client number Nothing bytes) is_reply; same = same });
}

pub entered_faulted : {contexts : ContextLimits} {D : Type 0} (seen : D → Seen) (old new : BrokerView D) (client number count : ℕ) (bytes reply : List ℕ) (a : Admitted)
    → checked contexts old client bytes ≡ Ok a → reply ≡ error_reply RC_DEVICE_FAULT → count ≡ (seen new.device).faults → HasRoom old.limit old.journal bytes
    → new.journal ≡ old.journal ++ fault_entry client number count bytes reply ∷ [] → Rose (seen old.device).faults (seen new.device).faults × (last_of (seen new.device) ≡ None)
    → FailsAtLast contexts seen old.device new.device → new.tables ≡ old.tables
    → owned_handles new.held.sessions.items ≡ owned_handles old.held.sessions.items → new.held.sessions.left ≡ old.held.sessions.left
    → KeepsOwners any_client old.held.objects.items new.held.objects.items
    → EntersCommand contexts seen old new client number bytes reply
entered_faulted seen old new client number count bytes reply a admitted is_reply is_count room entered failed sent tables sessions left objects = record {
  e = fault_entry client number count bytes reply;
  entered = entered;
  reply_is = refl;
  room = room;
  cause = inr (inl (record {
    a = a;
    admitted = admitted;
    entry = ap (λ (r : List ℕ). fault_entry client number count bytes r) is_reply ∙ ap (λ (n : ℕ). fault_entry client number n bytes (error_reply RC_DEVICE_FAULT)) is_count;
    rose = failed.0;
    failed = failed.1;
    sent = sent;
    tables = tables;
    sessions = sessions;
    left = left;
    objects = objects;
  }));
}

pub entered_seen : {contexts : ContextLimits} {D : Type 0} (seen : D → Seen) {old between new : BrokerView D} {client number : ℕ} {bytes reply : List ℕ} → old ≡ between
    → EntersCommand contexts seen old new client number bytes reply → EntersCommand contexts seen between new client number bytes reply
entered_seen {contexts = contexts} seen {new = new} {client = client} {number = number} {bytes = bytes} {reply = reply} same entered =
    subst (λ (v : _). EntersCommand contexts seen v new client number bytes reply) same entered

-- ---- a vacant item more changes no handle

slot_pushed : (items : List Item) (place : Option ℕ) → slot_handle (items ++ no_item ∷ []) place ≡ slot_handle items place
slot_pushed items None = refl
slot_pushed items (Some index) = ap (λ (i : Item). handle_in i.slot) (item_pushed items index)

slot_more : (items more : List Item) (place : Option ℕ) → AreMore items more → slot_handle more place ≡ slot_handle items place
slot_more items more place (inl same) = ap (λ (i : List Item). slot_handle i place) same
slot_more items more place (inr longer) = ap (λ (i : List Item). slot_handle i place) longer ∙ slot_pushed items place

flushed_more : (table : List (Option ℕ)) (items more : List Item) (handle : ℕ) → AreMore items more → flushed_handle table more handle ≡ flushed_handle table items handle
flushed_more table items more handle are =
    ap (λ (slot : Option ℕ). if octet_of handle == HT_TRANSIENT then slot else Some handle) (slot_more items more (held_under table handle) are)

unless_more : (table : List (Option ℕ)) (items more : List Item) (handle : ℕ) (fault : Option ℕ) → AreMore items more
    → flush_sent_unless table more handle fault ≡ flush_sent_unless table items handle fault
unless_more table items more handle None are = flushed_more table items more handle are
unless_more table items more handle (Some code) are = refl

flush_more : (tables : Tables) (table : List (Option ℕ)) (items more : List Item) (named : Result ℕ ℕ) → AreMore items more → flush_sent tables table more named ≡ flush_sent tables table items named
flush_more tables table items more (Err code) are = refl
flush_more tables table items more (Ok handle) are = unless_more table items more handle (flush_fault_of tables handle) are

at_hand_more : {contexts : ContextLimits} (held : Held) (more : List Item) (table : List (Option ℕ)) (a : Admitted) (bytes : List ℕ) → AreMore held.objects.items more
    → IsAtHand contexts held table a bytes → IsAtHand contexts (with_items held more) table a bytes
at_hand_more held more table a bytes are at_hand = record {
  nobodys = at_hand.nobodys;
  narrow = at_hand.narrow;
  placed = λ transient.
      ap (λ (slot : Option ℕ). is_some slot) (slot_more held.objects.items more (held_under table (first_handle a)) are) ∙ at_hand.placed transient;
  loaded = at_hand.loaded;
  makes_none = at_hand.makes_none;
  starts_none = at_hand.starts_none;
}

item_more : (items more : List Item) (index : ℕ) → AreMore items more → item_at more index ≡ item_at items index
item_more items more index (inl same) = ap (λ (i : List Item). item_at i index) same
item_more items more index (inr longer) = ap (λ (i : List Item). item_at i index) longer ∙ item_pushed items index

-- nor what stays in the device
stays_more : (held : Held) {roomier new_held : Held} (more : List Item) (saves : Option ℕ) → AreMore held.objects.items more → with_items held more ≡ roomier
    → (gap_kept roomier.sessions < renewal_gap roomier.sessions.numbers → StaysIn 1 1 saves roomier new_held) → gap_kept held.sessions < renewal_gap held.sessions.numbers → StaysIn 1 1 saves held new_held
stays_more held {new_held = new_held} more saves are is_held stays = λ narrow.
    let there = subst (λ (r : Held). gap_kept r.sessions < renewal_gap r.sessions.numbers → StaysIn 1 1 saves r new_held) (sym is_held) stays narrow in
    record {
      objects = λ index here. there.objects index (ap is_resident (item_more held.objects.items more index are) ∙ here);
      sessions = there.sessions;
    }

-- nor how many orphans there are
count_more : (held : Held) (more : List Item) → AreMore held.objects.items more → orphan_count (with_items held more) ≡ orphan_count held
count_more held more are = refl

-- nor what has to move
residents_more : (items more : List Item) → AreMore items more → residents more ≡ residents items
residents_more items more (inl same) = ap residents same
residents_more items more (inr longer) = ap residents longer ∙ residents-more items

missing_more : (needed : List ℕ) (items more : List Item) → AreMore items more → missing needed more ≡ missing needed items
missing_more [] items more are = refl
missing_more (index ∷ needed) items more are =
    λ i. (if is_resident (item_more items more index are i) || is_among needed index then 0 else 1) + missing_more needed items more are i

evictions_more : (needed : List ℕ) (slots : ℕ) (view : ObjectsView) (more : List Item) → AreMore view.items more
    → objects.evictions needed slots (record view { items = more }) ≡ objects.evictions needed slots view
evictions_more needed slots view more are =
    λ i. residents_more view.items more are i + missing_more needed view.items more are i + slots - view.slots

object_moves_more : (needed : List ℕ) (slots : ℕ) (view : ObjectsView) (more : List Item) → AreMore view.items more
    → objects.moves_of needed slots (record view { items = more }) ≡ objects.moves_of needed slots view
object_moves_more needed slots view more are =
    λ i. evictions_more needed slots view more are i
    + count_by (λ (index : ℕ). is_unsaved (item_more view.items more index are i)) (first_unneeded (evictions_more needed slots view more are i) needed view.order)
    + missing_more needed view.items more are i

moves_more : (contexts : ContextLimits) (held : Held) (more : List Item) (table : List (Option ℕ)) (a : Admitted) (bytes : List ℕ) → AreMore held.objects.items more
    → moves_for contexts (with_items held more) table a bytes ≡ moves_for contexts held table a bytes
moves_more contexts held more table a bytes are =
    ap (λ (n : ℕ). sessions.moves_of (named_sessions a) (places_needed held.sessions a) held.sessions + n)
    (object_moves_more (named_objects table a) (slots_of contexts a bytes) held.objects more are)

calm_more : (held : Held) (more : List Item) → AreMore held.objects.items more → IsCalm held → IsCalm (with_items held more)
calm_more held more are calm = record { nobodys = count_more held more are ∙ calm.nobodys; narrow = calm.narrow }

-- nor what was used
used_more : {contexts : ContextLimits} (held new_held : Held) (more : List Item) (table : List (Option ℕ)) (a : Admitted) (bytes answer : List ℕ) (item : ℕ)
    → AreMore held.objects.items more → UsedLast contexts (with_items held more) new_held table a bytes answer item
    → UsedLast contexts held new_held table a bytes answer item
used_more {contexts = contexts} held new_held more table a bytes answer item are used =
    let needed = named_objects table a in
    record {
      ready = used.ready;
      named = record {
        objects = used.named.objects
            ∙ ap (λ (n : ℕ). all_used (without_first n needed held.objects.order) needed)
            (evictions_more needed (slots_of contexts a bytes) held.objects more are);
        sessions = used.named.sessions;
      };
      objects = used.objects;
      sessions = used.sessions;
    }

-- nor whose an object is
owners_pushed : (items new_items : List Item) → KeepsOwners any_client (items ++ no_item ∷ []) new_items → KeepsOwners any_client items new_items
owners_pushed items new_items keeps =
    λ index owner named own any. keeps index owner (names_pushed items index named) (ap (λ (i : Item). i.client) (item_pushed items index) ∙ own) any

pub owners_more : (items more new_items : List Item) → AreMore items more → KeepsOwners any_client more new_items → KeepsOwners any_client items new_items
owners_more items more new_items (inl same) keeps = subst (λ (i : List Item). KeepsOwners any_client i new_items) same keeps
owners_more items more new_items (inr longer) keeps = owners_pushed items new_items (subst (λ (i : List Item). KeepsOwners any_client i new_items) longer keeps)

-- there are no more orphans after a call that began with a vacant item more
pub left_more : (held roomier new_held : Held) → AreMore held.objects.items roomier.objects.items → with_items held roomier.objects.items ≡ roomier
    → orphan_count new_held ≤ orphan_count roomier → orphan_count new_held ≤ orphan_count held
left_more held roomier new_held are is_held fewer = omega (arith, fewer, ap orphan_count is_held, count_more held roomier.objects.items are)

flush_sent_more : (contexts : ContextLimits) {D : Type 0} (seen : D → Seen) (old new : D) (count fewer : ℕ) (slot other : Option ℕ) → count ≡ fewer → slot ≡ other
    → IsFlushSent contexts seen count slot old new → IsFlushSent contexts seen fewer other old new
flush_sent_more contexts seen old new count fewer slot other same_count same_slot is =
    subst (λ (s : Option ℕ). IsFlushSent contexts seen fewer s old new) same_slot
    (subst (λ (n : ℕ). IsFlushSent contexts seen n slot old new) same_count is)

carries_more : {contexts : ContextLimits} {D : Type 0} (seen : D → Seen) (client : ℕ) (old new : D) (held new_held : Held) (more : List Item) (table new_table : List (Option ℕ)) (a : Admitted) (bytes reply : List ℕ)
    → AreMore held.objects.items more → (is_sent contexts a bytes ≡ false → more ≡ held.objects.items)
    → Executes contexts seen client old new (with_items held more) new_held table new_table a bytes reply
    → Executes contexts seen client old new held new_held table new_table a bytes reply
carries_more seen client old new held new_held more table new_table a bytes reply are same (inl (code, flushed)) =
    let tables = tables_had client table held.sessions.items in
    inl (
      code,
      record {
        reply_is = flushed.reply_is;
        sent_is = flush_sent_more _ seen old new _ _ _ _ (count_more held more are) (flush_more tables table held.objects.items more (flush_of a bytes) are) flushed.sent_is;
        nobodys = λ some. flushed.nobodys (ap (λ (slot : Option ℕ). is_some slot) (flush_more tables table held.objects.items more (flush_of a bytes) are) ∙ some);
        table_is = flushed.table_is;
        owners = flushed.owners;
        left = flushed.left;
      },
    )
carries_more seen client old new held new_held more table new_table a bytes reply are same (inr (inl replied)) = inr (inl (record {
  sort = replied.sort;
  other = replied.other;
  device_is = replied.device_is;
  table_is = replied.table_is;
  objects_are = replied.objects_are ∙ (λ i. record held.objects { items = same replied.sort i });
  sessions_are = replied.sessions_are;
  reply_is = replied.reply_is;
}))
carries_more seen client old new held new_held more table new_table a bytes reply are same (inr (inr ran)) = inr (inr (record {
  sort = ran.sort;
  before = ran.before;
  own_before = ran.own_before;
  unmoved = λ at_hand. ran.unmoved (at_hand_more held more table a bytes are at_hand);
  placed = ran.placed;
  mid = ran.mid;
  loaded = ran.loaded;
  owners = ran.owners;
  sent_is = ran.sent_is;
  answer = ran.answer;
  last_is = ran.last_is;
  reply_is = ran.reply_is;
  item = ran.item;
  table_is = ran.table_is;
  object_is = ran.object_is;
  spare = ran.spare;
  place = ran.place;
  taken = ran.taken;
  sessions_are = ran.sessions_are;
  left = ran.left;
  nobodys = ran.nobodys;
  used = λ calm.
      used_more held new_held more table a bytes ran.answer ran.item are (ran.used (calm_more held more are calm));
}))

-- what was carried out over the table and what is held as they are known at the call
carries_seen : {contexts : ContextLimits} {D : Type 0} (seen : D → Seen) (client : ℕ) {device start new : D} {held roomier new_held : Held} (more : List Item) {table start_table new_table : List (Option ℕ)} (a : Admitted) (bytes reply : List ℕ)
    → device ≡ start → AreMore held.objects.items more → (is_sent contexts a bytes ≡ false → more ≡ held.objects.items) → with_items held more ≡ roomier → start_table ≡ table
    → Executes contexts seen client device new roomier new_held table new_table a bytes reply
    → Executes contexts seen client start new held new_held start_table new_table a bytes reply
carries_seen {contexts = contexts} seen client {device} {start} {new} {held} {roomier} {new_held} more {table} {start_table} {new_table} a bytes reply same are unsent is_held is carries =
    carries_more seen client start new held new_held more start_table new_table a bytes reply are unsent
    (subst (λ (t : List (Option ℕ)). Executes contexts seen client start new (with_items held more) new_held t new_table a bytes reply) (sym is)
    (subst (λ (r : Held). Executes contexts seen client start new r new_held table new_table a bytes reply) (sym is_held)
    (subst (λ d. Executes contexts seen client d new roomier new_held table new_table a bytes reply) same carries)))

pub entered_carried : {contexts : ContextLimits} {D : Type 0} (seen : D → Seen) (old new : BrokerView D) (client number : ℕ) (bytes reply : List ℕ) (a : Admitted) (device : D) {roomier : Held} (more : List Item)
    (table new_table : List (Option ℕ)) → checked contexts old client bytes ≡ Ok a → HasRoom old.limit old.journal bytes → new.journal ≡ old.journal ++ command_entry client number (pick_of a reply) bytes reply ∷ []
    → client < length old.tables → device ≡ old.device → AreMore old.held.objects.items more → (makes_object_by contexts (Ok a.shape) bytes ≡ false → more ≡ old.held.objects.items)
    → with_items old.held more ≡ roomier → table_of old.tables client ≡ table → new.tables ≡ set old.tables client new_table
    → Executes contexts seen client device new.device roomier new.held table new_table a bytes reply
    → (gap_kept roomier.sessions < renewal_gap roomier.sessions.numbers → StaysIn 1 1 (saved_number a) roomier new.held)
    → EntersCommand contexts seen old new client number bytes reply
entered_carried {contexts = contexts} seen old new client number bytes reply a device more table new_table admitted room entered inside same are none is_held is tables carries stays =
    let own : table_of new.tables client ≡ new_table = ap (λ (t : List (List (Option ℕ))). table_of t client) tables ∙ table_own old.tables client new_table inside in
    record {
      e = command_entry client number (pick_of a reply) bytes reply;
      entered = entered;
      reply_is = refl;
      room = room;
      cause = inr (inr (record {
        a = a;
        admitted = admitted;
        entry = refl;
        executes = subst (λ (t : List (Option ℕ)). Executes contexts seen client old.device new.device old.held new.held (table_of old.tables client) t a bytes reply) (sym own)
            (carries_seen seen client more a bytes reply same are (λ unsent. none (unsent_makes contexts a bytes unsent)) is_held is carries);
        stays = stays_more old.held more (saved_number a) are is_held stays;
        tables = tables ∙ ap (set old.tables client) (sym own);
      }));
    }

-- ---- what is sent

ok_same : (a b : Admitted) (r : Result Admitted ℕ) → r ≡ Ok a → r ≡ Ok b → a ≡ b
ok_same a b r is also = let both = sym is ∙ also in cc

sent_from : {D : Type 0} (seen : D → Seen) (device old new : D) (n m : ℕ) → n ≡ m → device ≡ old → SendsUpTo seen (n + 1) device new
    → SendsUpTo seen (m + 1) old new
sent_from seen device old new n m is same sent = omega (arith, sent, is, ap (λ d. sent_of (seen d)) same)

-- what a command costs that was admitted
pub costs_admitted : {contexts : ContextLimits} {D : Type 0} (seen : D → Seen) {old start new : BrokerView D} (client : ℕ) (bytes : List ℕ) (a : Admitted) {device : D} {roomier : Held}
    (more : List Item) {table : List (Option ℕ)} → old ≡ start → checked contexts old client bytes ≡ Ok a → device ≡ old.device → AreMore old.held.objects.items more
    → with_items old.held more ≡ roomier → table_of old.tables client ≡ table
    → SendsUpTo seen (new_bound (orphan_count roomier) (gap_kept roomier.sessions) roomier.sessions.numbers) device new.device
    → (IsAtHand contexts roomier table a bytes → SendsUpTo seen 1 device new.device)
    → (IsCalm roomier → SendsUpTo seen (moves_for contexts roomier table a bytes + 1) device new.device) → Costs contexts seen start new client bytes
costs_admitted {contexts = contexts} seen {old = old} {new = new} client bytes a {device = device} {roomier = roomier} more {table = table} is_start admitted same are is_held is most at_hand few =
    let orphans : orphan_count roomier ≡ orphan_count old.held = ap orphan_count (sym is_held) ∙ count_more old.held more are in
    let gap : gap_kept roomier.sessions ≡ gap_kept old.held.sessions = ap (λ (h : Held). gap_kept h.sessions) (sym is_held) in
    let numbers : roomier.sessions.numbers ≡ old.held.sessions.numbers = ap (λ (h : Held). h.sessions.numbers) (sym is_held) in
    let bound : new_bound (orphan_count roomier) (gap_kept roomier.sessions) roomier.sessions.numbers
    ≡ new_bound (orphan_count old.held) (gap_kept old.held.sessions) old.held.sessions.numbers =
    λ i. new_bound (orphans i) (gap i) (numbers i) in
    subst (λ (v : BrokerView _). Costs contexts seen v new client bytes) is_start (record {
      most = omega (arith, most, bound, ap (λ d. sent_of (seen d)) same);
      at_hand = λ other is_other here.
          let one : IsAtHand contexts old.held (table_of old.tables client) a bytes =
          subst (λ (a : Admitted). IsAtHand contexts old.held (table_of old.tables client) a bytes) (ok_same other a (checked contexts old client bytes) is_other admitted) here in
          let roomy = at_hand_more old.held more (table_of old.tables client) a bytes are one in
          let sent = at_hand (subst (λ (t : List (Option ℕ)). IsAtHand contexts roomier t a bytes) is
          (subst (λ (h : Held). IsAtHand contexts h (table_of old.tables client) a bytes) is_held roomy)) in
          omega (arith, sent, ap (λ d. sent_of (seen d)) same);
      few = λ other is_other calm.
          let alike : a ≡ other = ok_same a other (checked contexts old client bytes) admitted is_other in
          let moves : moves_for contexts roomier table a bytes ≡ moves_for contexts old.held (table_of old.tables client) other bytes =
          (λ i. moves_for contexts (sym is_held i) (sym is i) a bytes) ∙ moves_more contexts old.held more (table_of old.tables client) a bytes are
          ∙ ap (λ (a : Admitted). moves_for contexts old.held (table_of old.tables client) a bytes) alike in
          sent_from seen device old.device new.device _ _ moves same (few (subst (λ (h : Held). IsCalm h) is_held (calm_more old.held more are calm)));
    })

-- ---- the handle of a new session

-- a command that starts a session gets the device's own response
reply_same : (table : List (Option ℕ)) (a : Admitted) (answer : List ℕ) → starts_session a ≡ true → client_reply table a answer ≡ answer
reply_same table a answer starts =
    let none : tells_object a answer ≡ false = ap (λ (b : Bool). not b && a.shape.row.response_handle && code_of answer == RC_SUCCESS) starts in
    ap (λ (b : Bool). if b then with_response_handle answer (next_handle table) else answer) none

not_both : (code : ℕ) → (code == CC_FLUSH_CONTEXT) ≡ true → (code == CC_START_AUTH_SESSION) ≡ true → ⊥
not_both code flush start = omega (arith, eqb-true code CC_FLUSH_CONTEXT flush, eqb-true code CC_START_AUTH_SESSION start)

-- a reply that tells a session tells its handle
long_reply : {contexts : ContextLimits} {D : Type 0} (seen : D → Seen) (tables : Tables) {client : ℕ} {old new : D} {held new_held : Held} {table new_table : List (Option ℕ)} (a : Admitted) (bytes reply : List ℕ)
    → client_admitted tables bytes ≡ Ok a → IsRight contexts (asked_of (seen new)) (last_of (seen new)) → Executes contexts seen client old new held new_held table new_table a bytes reply
    → tells_session a reply ≡ true → 14 ≤ length reply
long_reply seen tables a bytes reply admitted right (inl (code, flushed)) tells =
    absurd (not_both a.shape.row.code code (and_parts (starts_session a) (code_of reply == RC_SUCCESS) tells).0)
long_reply {contexts = contexts} seen tables a bytes reply admitted right (inr (inl replied)) tells =
    absurd (true≢false (sym (and_parts (starts_session a) (code_of reply == RC_SUCCESS) tells).0 ∙ unsent_starts contexts a bytes replied.sort))
long_reply {contexts = contexts} seen tables {new = new} {new_held = new_held} {table = table} a bytes reply admitted right (inr (inr ran)) tells =
    let answer = ran.answer in
    let first = device_handle table new_held.objects.items (first_handle a) in
    let same : reply ≡ answer = ran.reply_is ∙ reply_same table a answer (and_parts (starts_session a) (code_of reply == RC_SUCCESS) tells).0 in
    let told : tells_session a answer ≡ true = ap (tells_session a) (sym same) ∙ tells in
    let is_right = subst (IsRight contexts (asked_of (seen new))) ran.last_is right in
    let taken : takes contexts false false (sent_for bytes a first) answer ≡ true = ap (λ (x : List ℕ). takes contexts false false x answer) (sym ran.sent_is.asked_is) ∙ is_right in
    omega (arith, ap length same, (command_session contexts false tables bytes a first answer admitted taken told).1)

-- after a command that was carried out the last answer is right, and its reply tells the handle of a session that it started
pub long_now : {contexts : ContextLimits} {D : Type 0} (seen : D → Seen) (tables : Tables) {client : ℕ} {old new : D} {held new_held : Held} {table new_table : List (Option ℕ)} (a : Admitted) (bytes reply : List ℕ)
    → client_admitted tables bytes ≡ Ok a → IsRight contexts (asked_of (seen old)) (last_of (seen old)) → (new ≡ old) ⊎ IsRight contexts (asked_of (seen new)) (last_of (seen new))
    → Executes contexts seen client old new held new_held table new_table a bytes reply → tells_session a reply ≡ true → 14 ≤ length reply
long_now {contexts = contexts} seen tables {old = old} {new = new} a bytes reply admitted before right carries =
    long_reply seen tables a bytes reply admitted (still_right contexts seen old new before right) carries

-- ---- the context that a response has

not_save : (code : ℕ) → (code == CC_FLUSH_CONTEXT) ≡ true → (code == CC_CONTEXT_SAVE) ≡ true → ⊥
not_save code flush save = omega (arith, eqb-true code CC_FLUSH_CONTEXT flush, eqb-true code CC_CONTEXT_SAVE save)

-- a command that saves a context gets the device's own response
save_same : (tables : Tables) (table : List (Option ℕ)) (a : Admitted) (bytes answer : List ℕ) → client_admitted tables bytes ≡ Ok a → (a.shape.row.code == CC_CONTEXT_SAVE) ≡ true
    → client_reply table a answer ≡ answer
save_same tables table a bytes answer admitted is =
    let row = row_as a.shape.row save_row CC_CONTEXT_SAVE (clients_command tables bytes a admitted).row refl is in
    let none : tells_object a answer ≡ false = no_handle (starts_session a) a.shape.row.response_handle (code_of answer == RC_SUCCESS) (ap (λ (r : CommandRow). r.response_handle) row) in
    ap (λ (b : Bool). if b then with_response_handle answer (next_handle table) else answer) none

-- a reply that has a context has its number
context_reply : {contexts : ContextLimits} {D : Type 0} (seen : D → Seen) (tables : Tables) {client : ℕ} {old new : D} {held new_held : Held} {table new_table : List (Option ℕ)} (a : Admitted) (bytes reply : List ℕ)
    → client_admitted tables bytes ≡ Ok a → IsRight contexts (asked_of (seen new)) (last_of (seen new)) → Executes contexts seen client old new held new_held table new_table a bytes reply
    → tells_context a reply ≡ true → 18 ≤ length reply
context_reply seen tables a bytes reply admitted right (inl (code, flushed)) tells =
    absurd (not_save a.shape.row.code code (and_parts (a.shape.row.code == CC_CONTEXT_SAVE) (code_of reply == RC_SUCCESS) tells).0)
context_reply {contexts = contexts} seen tables {client = client} {held = held} {table = table} a bytes reply admitted right (inr (inl replied)) tells =
    let parts = and_parts (a.shape.row.code == CC_CONTEXT_SAVE) (code_of reply == RC_SUCCESS) tells in
    absurd (true≢false (sym parts.1 ∙ save_refused contexts client table held.sessions a bytes reply replied.sort parts.0 replied.reply_is))
context_reply {contexts = contexts} seen tables {new = new} {new_held = new_held} {table = table} a bytes reply admitted right (inr (inr ran)) tells =
    let answer = ran.answer in
    let first = device_handle table new_held.objects.items (first_handle a) in
    let parts = and_parts (a.shape.row.code == CC_CONTEXT_SAVE) (code_of reply == RC_SUCCESS) tells in
    let same : reply ≡ answer = ran.reply_is ∙ save_same tables table a bytes answer admitted parts.0 in
    let is_right = subst (IsRight contexts (asked_of (seen new))) ran.last_is right in
    let taken : takes contexts false false (sent_for bytes a first) answer ≡ true = ap (λ (x : List ℕ). takes contexts false false x answer) (sym ran.sent_is.asked_is) ∙ is_right in
    let code : code_of (sent_for bytes a first) ≡ a.shape.row.code = command_sent_code tables bytes a first admitted ∙ (clients_command tables bytes a admitted).code in
    omega (
      arith,
      ap length same,
      context_there contexts (sent_for bytes a first) answer taken (ap (λ (x : List ℕ). code_of x == RC_SUCCESS) (sym same) ∙ parts.1) (ap (λ (c : ℕ). c == CC_CONTEXT_SAVE) code ∙ parts.0),
    )

pub context_now : {contexts : ContextLimits} {D : Type 0} (seen : D → Seen) (tables : Tables) {client : ℕ} {old new : D} {held new_held : Held} {table new_table : List (Option ℕ)} (a : Admitted) (bytes reply : List ℕ)
    → client_admitted tables bytes ≡ Ok a → IsRight contexts (asked_of (seen old)) (last_of (seen old)) → (new ≡ old) ⊎ IsRight contexts (asked_of (seen new)) (last_of (seen new))
    → Executes contexts seen client old new held new_held table new_table a bytes reply → tells_context a reply ≡ true → 18 ≤ length reply
context_now {contexts = contexts} seen tables {old = old} {new = new} a bytes reply admitted before right carries =
    context_reply seen tables a bytes reply admitted (still_right contexts seen old new before right) carries
