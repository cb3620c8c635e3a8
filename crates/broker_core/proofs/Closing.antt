-- A client closes: what it had in use is dropped, what it saved is left, and what couldn't be flushed is an orphan.
use Rattle.std.proofs.Common.{◌≡◌, ◌<◌, ◌≤◌, ◌+◌, ◌-◌, ℕ, Bool, true, false, List, [], ◌∷◌, ◌++◌, length, Option, Some, None, refl, sym, ap, subst, ◌∙◌, arith, inl}
use Rattle.std.specs.Prelude.{is_some, set}
use Rattle.std.specs.List.{list_any}
use Rattle.std.proofs.lemmas.List.{append-nil, length-set, nil_from_length}
use Rattle.tab_spec.specs.Numbers.{AreInRange, leave_limit}
use Rattle.tab_spec.specs.declared.contexts.ContextLimits.{ContextLimits}
use Rattle.tab_spec.specs.declared.contexts.TheConstants.{PROFILE_CONTEXTS}
use Rattle.device_spec.specs.Answers.{IsWrongAnswer}
use Rattle.device_spec.specs.Slots.{SlotState}
use Rattle.device_port.specs.Device.{Seen, asked_of, last_of}
use Rattle.session_swap.specs.Items as sessions
use Rattle.session_swap.specs.Items.{is_owned}
use Rattle.history_spec.specs.Entry.{Entry, clients_of, close_entry, without, IsOpen}
use Rattle.world_spec.specs.World.{closed_world, world_of}
use Rattle.world_laws.proofs.Clients.{once}
use Rattle.world_laws.proofs.Histories.{clients_of-push, world_of-push}
use Rattle.client_machine.specs.declared.held.Held.{Held}
use Rattle.broker_core.specs.Broker.{BrokerView, HeldHolds, Holds, JournalHolds, StandsAfterIf, times_open}
use Rattle.client_machine.specs.Dropping.{Drops, LeavesMore, LeavesThem, SendsFlushes}
use Rattle.client_machine.specs.Moves.{CountsOn, CountsOnBy, MayBegin, StaysFor}
use Rattle.client_machine.specs.Settled.{orphan_count}
use Rattle.client_machine.specs.Tables.{AreOpenOwners}
use Rattle.broker_core.specs.Tables.{TablesStand, list_of}
use Rattle.object_swap.specs.Items.{HasNone}
use Rattle.broker_core.proofs.Journaling.{counted-left, counted-push, journal-close, journal-later}
use Rattle.broker_core.proofs.Holding.{Entries, after-push, counters_in, few_left, fewer-counted, longer, moves_now, no_answer, no_state, none_is, not_told, others_in, slots_still, still_right, told_before, made_since}
use Rattle.client_machine.proofs.Remaining.{leaves_them, remains_same}
use Rattle.client_machine.proofs.Settling.{settled_at}
use Rattle.broker_core.proofs.Tabling.{open_inside, owners-close, tables-close}
use Rattle.broker_core.proofs.Listing.{lists-close, lists_same}
use Rattle.broker_core.proofs.WorldStands.{stands-close}

-- where no flush failed, no orphan was added
pub no_more : (left new_left : List ℕ) (failed : ℕ) → failed ≡ 0 → LeavesMore failed left new_left → new_left ≡ left
no_more left new_left failed none added =
    added.1 ∙ ap (λ (more : List ℕ). left ++ more) (nil_from_length added.0 (omega (arith, added.2, none))) ∙ append-nil left

-- no context is numbered
counts_on : (old new : Option SlotState) → CountsOnBy 0 old new → CountsOn old new
counts_on old new counts = record {
  objects_rise = counts.objects_rise;
  sessions_rise = counts.sessions_rise;
  objects_on = omega (arith, counts.objects_on);
  sessions_on = omega (arith, counts.sessions_on);
}

stands_closed : {contexts : ContextLimits} {D : Type 0} (seen : D → Seen) {device new : D} (history : Entries) (tables : List (List (Option ℕ))) {held new_held : Held}
    {owners : List (Option ℕ)} (client failed : ℕ) → StandsAfterIf (seen device).base (seen device).state history tables held → TablesStand (clients_of history).present tables held.objects.items
    → length held.sessions.left ≤ leave_limit held.sessions.numbers.active → IsOpen history client → client < length tables → times_open client (clients_of history).present ≤ 1
    → Drops contexts seen client device new held new_held owners failed → list_any (is_owned client) new_held.sessions.items ≡ false
    → StandsAfterIf (seen new).base (seen new).state (history ++ close_entry client ∷ []) (set tables client []) new_held
stands_closed seen {device = device} {new = new} history tables {held} {new_held} {owners} client failed stands tables_stand few opened inside one drops none = λ b after is_base is_after.
    let before = told_before (seen device).state (seen new).state after drops.keeps.tells is_after in
    let slots = before.0 in
    let so_far = stands b slots (sym drops.keeps.base_is ∙ is_base) before.1 in
    let e : Entry = close_entry client in
    after-push b slots history e tables held (closed_world (world_of b slots.numbers.active history) client) so_far (record { form = refl; is_open = opened })
    after (set tables client []) new_held (world_of-push b slots.numbers.active history e) drops.numbers
    (stands-close (world_of b slots.numbers.active history) slots after tables held new_held client (length history) so_far.stands (subst (λ (n : ℕ). n ≤ 1) (sym (once b slots.numbers.active history client)) one) inside (clients_of history).present tables_stand
    (settled_at (seen new).state after new_held drops.settled is_after) drops.numbers (counters_in (seen device).state (seen new).state slots after (counts_on (seen device).state (seen new).state drops.counts) before.1 is_after)
    (others_in client (seen device).state (seen new).state slots after held.objects.items new_held.objects.items drops.other_objects before.1 is_after) (drops.persist slots after before.1 is_after)
    (drops.closes slots after before.1 is_after) (drops.few_left few) none)

held_closed : {contexts : ContextLimits} {D : Type 0} (seen : D → Seen) {device new : D} {began : ℕ} (history : Entries) (tables : List (List (Option ℕ))) {lists : List ℕ} {held new_held : Held}
    (client failed : ℕ) → HeldHolds began (seen device).faults history tables lists held → times_open client (clients_of history).present ≤ 1 → IsOpen history client → client < length tables
    → Drops contexts seen client device new held new_held (set held.objects.owners (list_of lists client) None) failed → HasNone new_held.objects.items client
    → list_any (is_owned client) new_held.sessions.items ≡ false
    → HeldHolds began (seen new).faults (history ++ close_entry client ∷ []) (set tables client []) (set lists client 0) new_held
held_closed seen {new = new} {began = began} history tables {lists} {held} {new_held} client failed h one opened inside drops empty none =
    let e : Entry = close_entry client in
    let present_is : (clients_of (history ++ e ∷ [])).present ≡ without client (clients_of history).present = ap (λ c. c.present) (clients_of-push history e) in
    record {
      each = subst (λ (p : List ℕ). TablesStand p (set tables client []) new_held.objects.items) (sym present_is)
          (tables-close (clients_of history).present tables held.objects.items new_held.objects.items client h.each inside drops.others drops.gained empty);
      short = omega (arith, h.short, drops.length_is, longer history e);
      listed = length-set lists client 0 ∙ h.listed ∙ sym (length-set tables client []);
      lists_stand = lists_same present_is drops.lists (lists-close (clients_of history).present lists held.objects.owners client h.lists_stand one opened);
      owners = subst (λ (p : List ℕ). AreOpenOwners p new_held.sessions.items) (sym present_is)
          (owners-close client (clients_of history).present new_held.sessions.items none (drops.owners (clients_of history).present h.owners));
      left_few = few_left drops.numbers (drops.few_left h.left_few);
      counted = fewer-counted began (history ++ e ∷ [])
          (counted-push began history e (orphan_count held + failed) (counted-left began history (orphan_count held) failed h.counted drops.failures drops.keeps.count) (omega arith) refl)
          (omega (arith, drops.orphans));
    }

journal_closed : {history : Entries} {limit faults faults_new present : ℕ} (tables : List (List (Option ℕ))) (client : ℕ) → JournalHolds history limit faults (length tables) present → IsOpen history client
    → faults ≤ faults_new → JournalHolds (history ++ close_entry client ∷ []) limit faults_new (length (set tables client [])) (present - 1)
journal_closed {history = history} {limit = limit} {faults = faults} {faults_new = faults_new} {present = present} tables client h opened count =
    subst (λ (n : ℕ). JournalHolds (history ++ close_entry client ∷ []) limit faults_new n (present - 1)) (sym (length-set tables client []))
    (journal-later (journal-close client h opened) count)

-- whose flushes were answered or failed
holds_closed : {contexts : ContextLimits} {D : Type 0} (seen : D → Seen) {device new : D} {began : ℕ} {history : Entries} {limit : ℕ}
    {tables : List (List (Option ℕ))} {lists : List ℕ} {held new_held : Held} {present : ℕ} {wrong_code : Option ℕ} (client failed : ℕ)
    → Holds contexts began (seen device) history limit tables lists held present wrong_code
    → is_some wrong_code ≡ false → IsOpen history client
    → Drops contexts seen client device new held new_held (set held.objects.owners (list_of lists client) None) failed → HasNone new_held.objects.items client
    → list_any (is_owned client) new_held.sessions.items ≡ false
    → Holds contexts began (seen new) (history ++ close_entry client ∷ []) limit (set tables client []) (set lists client 0) new_held (present - 1) wrong_code
holds_closed {contexts = contexts} seen {device = device} {new = new} {began = began} {history = history} {tables = tables} {wrong_code = wrong_code} client failed h none opened drops empty unowned =
    let none = none_is wrong_code none in
    let holds = h.objects none in
    let inside = open_inside (clients_of history).present client (length tables) h.journal.below opened in
    let one = h.journal.once client in
    record {
      stands = stands_closed seen history tables client failed h.stands holds.each holds.left_few opened inside one drops unowned;
      journal = journal_closed _ client h.journal opened drops.keeps.count;
      objects = λ _. held_closed seen history tables client failed holds one opened inside drops empty unowned;
      answers = record {
        answer = no_answer _ (asked_of (seen new)) (last_of (seen new)) wrong_code none;
        right = λ _. still_right contexts seen device new (h.answers.right none) drops.right;
        taken = λ _. none;
      };
      faulted = counted-push began history (close_entry client) 0 h.faulted drops.keeps.count refl;
      made_for = made_since h.made_for drops.made_for;
      slots_are = slots_still drops.slots drops.numbers h.slots_are;
      range = subst AreInRange (sym drops.numbers) h.range;
      few = omega (arith, h.few, drops.length_is, longer history (close_entry client));
      placed = omega (arith, h.placed, drops.length_is);
    }

-- the same of a list that is known by itself
pub list_closed : {contexts : ContextLimits} {D : Type 0} (seen : D → Seen) {device new : D} {began : ℕ} {history : Entries} {limit : ℕ}
    {tables : List (List (Option ℕ))} {lists : List ℕ} {list : ℕ} {held new_held : Held} {present : ℕ} {wrong_code : Option ℕ} (client failed : ℕ)
    → Holds contexts began (seen device) history limit tables lists held present wrong_code
    → is_some wrong_code ≡ false → IsOpen history client → list ≡ list_of lists client
    → Drops contexts seen client device new held new_held (set held.objects.owners list None) failed → HasNone new_held.objects.items client
    → list_any (is_owned client) new_held.sessions.items ≡ false
    → Holds contexts began (seen new) (history ++ close_entry client ∷ []) limit (set tables client []) (set lists client 0) new_held (present - 1) wrong_code
list_closed {contexts = contexts} seen {device = device} {new = new} {held = held} {new_held = new_held} client failed h none opened is drops empty unowned =
    holds_closed seen client failed h none opened
    (subst (λ (l : ℕ). Drops contexts seen client device new held new_held (set held.objects.owners l None) failed) is drops) empty unowned

-- no more are left than may be
pub still_few : {contexts : ContextLimits} {began : ℕ} {seen : Seen} {history : Entries} {limit : ℕ} {tables : List (List (Option ℕ))} {lists : List ℕ}
    {held : Held} {present : ℕ} {wrong_code : Option ℕ} → Holds contexts began seen history limit tables lists held present wrong_code
    → is_some wrong_code ≡ false → length held.sessions.left ≤ leave_limit held.sessions.numbers.active
still_few {wrong_code = wrong_code} h none = (h.objects (none_is wrong_code none)).left_few

-- to whose flush a wrong answer came
pub holds_closed_wrong : {contexts : ContextLimits} {began : ℕ} {seen new_seen : Seen} {history : Entries} {limit : ℕ}
    {tables : List (List (Option ℕ))} {lists : List ℕ} {held new_held : Held} {present : ℕ} {wrong_code : Option ℕ} (client code : ℕ)
    → Holds contexts began seen history limit tables lists held present wrong_code → IsOpen history client → seen.faults ≤ new_seen.faults
    → StaysFor held new_held → new_held.objects.slots ≡ held.objects.slots → new_held.sessions.numbers ≡ held.sessions.numbers → length new_held.objects.items ≡ length held.objects.items
    → IsWrongAnswer contexts (asked_of new_seen) (last_of new_seen) code × (new_seen.state ≡ None)
    → Holds contexts began new_seen (history ++ close_entry client ∷ []) limit (set tables client []) (set lists client 0) new_held (present - 1) (Some code)
holds_closed_wrong {began = began} {new_seen = new_seen} {history = history} client code h opened count same_contexts same_slots same_numbers same_length answer = record {
  stands = λ b slots is_base is_state. absurd (no_state new_seen.state slots answer.1 is_state);
  journal = journal_closed _ client h.journal opened count;
  objects = λ none. absurd cc;
  answers = record { answer = answer.0; right = λ none. absurd cc; taken = λ told. absurd (not_told new_seen.state answer.1 told) };
  faulted = counted-push began history (close_entry client) 0 h.faulted count refl;
  made_for = made_since h.made_for same_contexts;
  slots_are = slots_still same_slots same_numbers h.slots_are;
  range = subst AreInRange (sym same_numbers) h.range;
  few = omega (arith, h.few, same_length, longer history (close_entry client));
  placed = omega (arith, h.placed, same_length);
}

not_none : (wrong_code : Option ℕ) → is_some wrong_code ≡ true → wrong_code ≡ None → ⊥
not_none wrong_code some none = let no : is_some wrong_code ≡ false = ap is_some none in absurd cc

-- after a wrong answer
pub holds_closed_after : {contexts : ContextLimits} {began : ℕ} {seen : Seen} {history : Entries} {limit : ℕ} {tables : List (List (Option ℕ))} {lists : List ℕ} {held : Held}
    {present : ℕ} {wrong_code : Option ℕ} (client : ℕ) → Holds contexts began seen history limit tables lists held present wrong_code
    → is_some wrong_code ≡ true → IsOpen history client
    → Holds contexts began seen (history ++ close_entry client ∷ []) limit (set tables client []) (set lists client 0) held (present - 1) wrong_code
holds_closed_after {began = began} {seen = seen} {history = history} {wrong_code = wrong_code} client h some opened = record {
  stands = λ b slots is_base is_state. absurd (not_none wrong_code some (h.answers.taken (let yes : is_some seen.state ≡ true = ap is_some is_state in yes)));
  journal = journal_closed _ client h.journal opened (omega arith);
  objects = λ none. absurd (not_none wrong_code some none);
  answers = h.answers;
  faulted = counted-push began history (close_entry client) 0 h.faulted (omega arith) refl;
  made_for = h.made_for;
  slots_are = h.slots_are;
  range = h.range;
  few = omega (arith, h.few, longer history (close_entry client));
  placed = h.placed;
}

-- what a close may begin with
pub moves_same : {contexts : ContextLimits} {D : Type 0} (seen : D → Seen) (device : D) {began : ℕ} {history : Entries} {limit : ℕ} {tables : List (List (Option ℕ))} {lists : List ℕ} {held : Held}
    {present : ℕ} {wrong_code : Option ℕ} → is_some (seen device).state ≡ is_some (seen device).base → Holds contexts began (seen device) history limit tables lists held present wrong_code
    → MayBegin 2000 contexts seen device held
moves_same seen device {held = held} same h = moves_now seen device held.objects.items same h (inl refl) refl

-- what is seen of a broker to which a wrong answer came, after a close
pub view_closed : {D : Type 0} (old seen : BrokerView D) (client : ℕ) (journal : List Entry) (limit : ℕ) (tables : List (List (Option ℕ))) → journal ≡ old.journal ++ close_entry client ∷ [] → limit ≡ old.limit
    → tables ≡ set old.tables client [] → old ≡ seen
    → record old { journal = journal; limit = limit; tables = tables } ≡ record seen { journal = seen.journal ++ close_entry client ∷ []; tables = set seen.tables client [] }
view_closed old seen client journal limit tables is_journal is_limit is_tables is_seen =
    ap (λ (j : List Entry). record old { journal = j; limit = limit; tables = tables }) is_journal
    ∙ ap (λ (l : ℕ). record old { journal = old.journal ++ close_entry client ∷ []; limit = l; tables = tables }) is_limit
    ∙ ap (λ (t : List (List (Option ℕ))). record old { journal = old.journal ++ close_entry client ∷ []; tables = t }) is_tables
    ∙ ap (λ (v : BrokerView _). record v { journal = v.journal ++ close_entry client ∷ []; tables = set v.tables client [] }) is_seen

-- ---- what is kept of the sessions, and what was sent

pub behind_from : {D : Type 0} {old seen : BrokerView D} (new_items : List (Option sessions.Item))
    → old ≡ seen
    → LeavesThem old.held.sessions.items new_items → LeavesThem seen.held.sessions.items new_items
behind_from {D = D} new_items is behind =
    subst (λ (v : BrokerView D). LeavesThem v.held.sessions.items new_items) is behind

pub leaves_same : (items : List (Option sessions.Item)) → LeavesThem items items
leaves_same items =
    leaves_them PROFILE_CONTEXTS [] items items (λ number. remains_same PROFILE_CONTEXTS [] (sessions.item_at items number))

pub sent_from : {contexts : ContextLimits} {D : Type 0} {seen : D → Seen} {old now : BrokerView D}
    {device : D} {new_items : List (Option sessions.Item)} {wrong : Bool}
    → old ≡ now
    → SendsFlushes contexts seen old.device device old.held.sessions.items new_items wrong
    → SendsFlushes contexts seen now.device device now.held.sessions.items new_items wrong
sent_from {contexts = contexts} {D = D} {seen = seen} {device = device} {new_items = new_items}
    {wrong = wrong} is sent =
    subst (λ (v : BrokerView D). SendsFlushes contexts seen v.device device v.held.sessions.items
    new_items wrong) is sent

-- nothing, after a wrong answer
pub none_sent : {contexts : ContextLimits} {D : Type 0} (seen : D → Seen) (device : D)
    (items : List (Option sessions.Item))
    → SendsFlushes contexts seen device device items items true
none_sent {contexts = contexts} seen device items =
    record {
      sent = [];
      trace_is = refl;
      each = tt;
      flushed = λ number. remains_same contexts [] (sessions.item_at items number);
    }
