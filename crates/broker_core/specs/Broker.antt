-- What is seen of a broker, and what holds of each one.
use Rattle.std.specs.Prelude.{◌≡◌, ◌<◌, ◌≤◌, ◌↔◌, ◌⊎◌, ℕ, ◌+◌, ◌^◌, ◌==◌, true, List, [], ◌∷◌, ◌++◌, get_or, length, set, Option, Some, None, is_some, IsSome, IfSome, Result, Ok, Err}
use Rattle.std.specs.List.{AllByRecursion, count_by, list_any}
use Rattle.tab_spec.specs.declared.TheConstants.{MOST_BYTES, RC_CANCELED, RC_DEVICE_ANSWER, RC_DEVICE_FAULT, RC_JOURNAL_FULL}
use Rattle.tab_spec.specs.declared.Admitted.{Admitted}
use Rattle.tab_spec.specs.Count.{Rose, largest_count}
use Rattle.tab_spec.specs.Admission.{Tables, client_admitted}
use Rattle.tab_spec.specs.Frame.{is_frame}
use Rattle.tab_spec.specs.declared.numbers.Numbers.{Numbers}
use Rattle.tab_spec.specs.Numbers.{AreInRange, leave_limit}
use Rattle.tab_spec.specs.Persist.{Persist}
use Rattle.tab_spec.specs.Reply.{error_reply}
use Rattle.tab_spec.specs.declared.contexts.ContextLimits.{ContextLimits}
use Rattle.device_spec.specs.Answers.{IsRight, IsWrongAnswer}
use Rattle.device_spec.specs.Slots as device
use Rattle.device_spec.specs.Slots.{SlotState, inactive, is_active}
use Rattle.device_port.specs.Device.{Seen, asked_of, last_of}
use Rattle.device_start.specs.Start.{ClearedIf, IsStartable, IsStarted, StopsAtNumber, StopsUnanswered}
use Rattle.session_swap.specs.Items.{gap_kept, renewal_gap}
use Rattle.history_spec.specs.declared.EntryKind.{EntryKind}
use Rattle.history_spec.specs.declared.EntryKind.TheVariants.{Open, Command, Fault, Close, Canceled}
use Rattle.history_spec.specs.declared.TheConstants.{ENTRY_BYTES, SILENT_LIMIT}
use Rattle.object_swap.specs.declared.TheConstants.{PLACES_MOST}
use Rattle.history_spec.specs.declared.Pick.TheVariants.{Nothing}
use Rattle.history_spec.specs.Entry.{Entry, HasRoom, LacksRoom, close_entry, command_entry, fault_entry, clients_of, kept, reserved, canceled_entry}
use Rattle.history_spec.specs.Told.{IsToldMemory}
use Rattle.audit_journal.specs.Counts.{faults_in}
use Rattle.audit_journal.specs.Journal.{JournalView}
use Rattle.world_spec.specs.Legal.{Legal}
use Rattle.world_spec.specs.World.{world_of}
use Rattle.client_machine.specs.declared.held.Held.{Held}
use Rattle.client_machine.specs.Costs.{SendsUpTo, StaysIn, close_bound, new_bound}
use Rattle.client_machine.specs.Dropping.{AreLeftByFaults, KeepsOthers, LeavesThem, SendsFlushes, left_after}
use Rattle.client_machine.specs.Moves.{Executes, FailsAtLast, IsAtHand, IsCalm, IsFor, Keeps, KeepsOwners, any_client, moves_for, pick_of, saved_number}
use Rattle.client_machine.specs.Settled.{orphan_count}
use Rattle.broker_core.specs.Stands.{Stands}
use Rattle.client_machine.specs.Tables.{AreOpenOwners, owned_handles, tables_seen}
use Rattle.broker_core.specs.Tables.{ListsStand, TablesStand, table_of}
use Rattle.broker_core.specs.declared.broker.BeginError.{BeginError}
use Rattle.broker_core.specs.declared.broker.BeginError.TheVariants as begin_errors
use Rattle.broker_lock.specs.Known.{Origin, origin_of}
use Rattle.broker_lock.specs.Serves.{closes_wrong}
use Rattle.broker_lock.specs.declared.calls.Closed.{Closed}
use Rattle.broker_lock.specs.declared.calls.Closed.TheVariants as closes
use Rattle.broker_lock.specs.declared.calls.Told.{Told}
use Rattle.broker_lock.specs.declared.calls.Told.TheVariants as tolds

pub record BrokerView (D : Type 0) : Type 0 where
  pub device : D
  pub journal : List Entry
  -- the most bytes that the journal may keep
  pub limit : ℕ
  -- for each client that was opened, which item stands for each of its objects, by number
  pub tables : List (List (Option ℕ))
  pub held : Held
  -- the code of the wrong answer, where one came
  pub wrong_code : Option ℕ
  -- the device's fault count before Startup was sent
  pub began : ℕ

-- a device that a broker may begin on: it keeps what its history begins from, and has numbers for many contexts
pub record IsAtBase (base : Option Persist) (state : Option SlotState) : Type 0 where
  pub kept : (b : Persist) (slots : SlotState) → base ≡ Some b → state ≡ Some slots → slots.persist ≡ b
  pub startable : IfSome state IsStartable
  pub object_counter : IfSome state (λ slots. slots.object_counter ≤ 2 ^ 61)
  pub counter : IfSome state (λ slots. slots.counter ≤ 2 ^ 61)

-- what the history of a device begins from, if the device shows it: what it keeps, and its numbers
abbrev pub told_origin : Option Persist → Option SlotState → Option Origin
told_origin base None = None
told_origin base (Some slots) = origin_of base slots.numbers

-- a legal history, by what it begins from
abbrev pub LegalOver : Origin → List Entry → Type 0
LegalOver origin history = Legal origin.persist origin.numbers.active history

-- the journal is a legal history, and the device stands for the world after it, with these tables, objects and sessions
pub record StandsAfter (base : Persist) (slots : SlotState) (history : List Entry) (tables : List (List (Option ℕ))) (held : Held) : Type 0 where
  pub legal : Legal base slots.numbers.active history
  pub stands : Stands (world_of base slots.numbers.active history) slots tables held (length history)

-- the same, if the device shows its state
abbrev pub StandsAfterIf : Option Persist → Option SlotState → List Entry → List (List (Option ℕ)) → Held → Type 0
StandsAfterIf base state history tables held =
    (b : Persist) (slots : SlotState) → base ≡ Some b → state ≡ Some slots → StandsAfter b slots history tables held

-- these entries and these orphans are together not more than the count rose, unless it stands at its type's end
abbrev pub FaultsCounted : ℕ → ℕ → List Entry → ℕ → Type 0
FaultsCounted old new history left = (faults_in history + left + old ≤ new) ⊎ (largest_count ≤ new)

-- the client's reply is one whole frame, over every device
abbrev pub IsWhole : EntryKind → List ℕ → Type 0
IsWhole Open reply = Unit {0}
IsWhole Command reply = is_frame reply ≡ true
IsWhole (Canceled upto) reply = is_frame reply ≡ true
IsWhole Fault reply = is_frame reply ≡ true
IsWhole Close reply = Unit {0}

abbrev pub AreWhole : List Entry → Type 0
AreWhole history = AllByRecursion (λ e. IsWhole e.kind e.reply) history

-- how many times a client is among the open ones
abbrev pub times_open : ℕ → List ℕ → ℕ
times_open client present = count_by (λ other. other == client) present

-- what holds of the journal, whatever the device is: how many clients were opened and are open, and the room that is kept for their
-- closes within the limit
pub record JournalHolds (history : List Entry) (limit faults opened present : ℕ) : Type 0 where
  pub counts : AllByRecursion (λ e. e.faults ≤ faults) history
  pub whole : AreWhole history
  pub below : AllByRecursion (λ client. client < opened) (clients_of history).present
  pub once : (client : ℕ) → times_open client (clients_of history).present ≤ 1
  pub opened_is : opened ≡ (clients_of history).opened
  pub present_is : present ≡ length (clients_of history).present
  pub opens : opened ≤ length history
  pub fewer : present ≤ opened
  pub limited : limit ≤ SILENT_LIMIT
  pub reserves : reserved history ≤ limit

-- what holds of the objects and the sessions, where no wrong answer came
pub record HeldHolds (began faults : ℕ) (history : List Entry) (tables : List (List (Option ℕ))) (lists : List ℕ) (held : Held) : Type 0 where
  pub each : TablesStand (clients_of history).present tables held.objects.items
  -- an item is added only where none is vacant, for a command that is entered
  pub short : length held.objects.items ≤ length history
  pub listed : length lists ≡ length tables
  pub lists_stand : ListsStand (clients_of history).present lists held.objects.owners
  -- a session is that of an open client, or it was left, or it is an orphan
  pub owners : AreOpenOwners (clients_of history).present held.sessions.items
  -- no more are left than may be
  pub left_few : length held.sessions.left ≤ leave_limit held.sessions.numbers.active
  pub counted : FaultsCounted began faults history (orphan_count held)

-- what holds of the last answer
pub record AnswersHold (contexts : ContextLimits) (seen : Seen) (wrong_code : Option ℕ) : Type 0 where
  pub answer : IfSome wrong_code (IsWrongAnswer contexts (asked_of seen) (last_of seen))
  -- no answer was taken that every broker would refuse
  pub right : wrong_code ≡ None → IsRight contexts (asked_of seen) (last_of seen)
  -- a device that shows its state gives no wrong answer
  pub taken : IsSome seen.state → wrong_code ≡ None

-- what holds of each broker over a device with these contexts, with what its device shows
pub record Holds (contexts : ContextLimits) (began : ℕ) (seen : Seen) (history : List Entry) (limit : ℕ) (tables : List (List (Option ℕ))) (lists : List ℕ) (held : Held) (present : ℕ) (wrong_code : Option ℕ) : Type 0 where
  pub stands : StandsAfterIf seen.base seen.state history tables held
  pub journal : JournalHolds history limit seen.faults (length tables) present
  pub objects : wrong_code ≡ None → HeldHolds began seen.faults history tables lists held
  pub answers : AnswersHold contexts seen wrong_code
  pub faulted : FaultsCounted began seen.faults history 0
  -- it is held for a device with these contexts, and of these numbers
  pub made_for : IsFor contexts held
  pub slots_are : held.objects.slots ≡ held.sessions.numbers.slots
  pub range : AreInRange held.sessions.numbers
  -- a command that met a wrong answer may have made an item, and has no entry
  pub few : length held.objects.items ≤ length history + 1
  pub placed : length held.objects.items ≤ PLACES_MOST

-- ---- what is held in the end

-- each slot is empty, and a session is active exactly if it is one of these
pub record HoldsOnly (slots : SlotState) (left : List ℕ) : Type 0 where
  pub empty : count_by is_some slots.slots ≡ 0
  pub just : (number : ℕ) → is_active (get_or slots.sessions number inactive) ≡ list_any (λ one. one == number) left

-- what the device holds where no client is open: the sessions that were left, no more than may be, and orphans, no more than
-- transmissions failed; where there are no orphans, just the sessions that were left
pub record HoldsLeft (began faults : ℕ) (history : List Entry) (slots : SlotState) (left : List ℕ) : Type 0 where
  pub few : length left ≤ leave_limit slots.numbers.active
  pub orphans : ℕ
  pub held_is : device.held slots ≡ length left + orphans
  pub counted : FaultsCounted began faults history orphans
  pub there : (number : ℕ) → list_any (λ one. one == number) left ≡ true → is_active (get_or slots.sessions number inactive) ≡ true
  pub only : orphans ≡ 0 → HoldsOnly slots left

-- ---- what becomes of a command

-- the command's shape and authorizations, or the code with which the broker refuses it over its client's table
abbrev pub seen_by : {D : Type 0} → ContextLimits → BrokerView D → ℕ → Tables
seen_by contexts b client = tables_seen contexts client (table_of b.tables client) b.held.sessions.items

abbrev pub checked : {D : Type 0} → ContextLimits → BrokerView D → ℕ → List ℕ → Result Admitted ℕ
checked contexts b client bytes = client_admitted (seen_by contexts b client) bytes

-- no step of the order of refusals refuses the command
abbrev pub IsAdmitted : {D : Type 0} → ContextLimits → BrokerView D → ℕ → List ℕ → Type 0
IsAdmitted contexts b client bytes = (a : Admitted) × (checked contexts b client bytes ≡ Ok a)

-- the journal can take the entry of this command with the largest reply
abbrev pub IsReadyFor : JournalView → List ℕ → Type 0
IsReadyFor journal command = kept journal.entries + ENTRY_BYTES + length command + MOST_BYTES ≤ journal.limit

-- what a client gets if there is no room for the entry of its command
abbrev pub TellsNoRoom : Told → (limit : ℕ) (history : List Entry) (bytes reply : List ℕ) → Type 0
TellsNoRoom tolds.Entered limit history bytes reply = ⊥
TellsNoRoom tolds.Memory limit history bytes reply = ⊥
TellsNoRoom (tolds.JournalFull count most) limit history bytes reply =
    LacksRoom limit history bytes × (reply ≡ error_reply RC_JOURNAL_FULL) × (count ≡ kept history) × (most ≡ limit)
TellsNoRoom tolds.Answer limit history bytes reply = ⊥

-- The broker refused the command by itself, and sent nothing.
pub record IsRefused {D : Type 0} (contexts : ContextLimits) (old new : BrokerView D) (client number : ℕ) (bytes : List ℕ) (e : Entry) : Type 0 where
  pub code : ℕ
  pub refused : checked contexts old client bytes ≡ Err code
  pub entry : e ≡ command_entry client number Nothing bytes (error_reply code)
  pub same : new ≡ record old { journal = old.journal ++ e ∷ [] }

-- A transmission failed, and the command wasn't run. Nothing was sent after it, and what was sent before it was answered.
pub record IsFaulted {D : Type 0} (contexts : ContextLimits) (seen : D → Seen) (old new : BrokerView D) (client number : ℕ) (bytes : List ℕ) (e : Entry) : Type 0 where
  pub a : Admitted
  pub admitted : checked contexts old client bytes ≡ Ok a
  pub entry : e ≡ fault_entry client number (seen new.device).faults bytes (error_reply RC_DEVICE_FAULT)
  pub rose : Rose (seen old.device).faults (seen new.device).faults
  pub failed : last_of (seen new.device) ≡ None
  pub sent : FailsAtLast contexts seen old.device new.device
  pub tables : new.tables ≡ old.tables
  -- each client has the sessions and the objects that it had, and the same sessions are left
  pub sessions : owned_handles new.held.sessions.items ≡ owned_handles old.held.sessions.items
  pub left : new.held.sessions.left ≡ old.held.sessions.left
  pub objects : KeepsOwners any_client old.held.objects.items new.held.objects.items

-- The command was carried out, and the entry has the client's own reply.
pub record IsCarriedOut {D : Type 0} (contexts : ContextLimits) (seen : D → Seen) (old new : BrokerView D) (client number : ℕ) (bytes : List ℕ) (e : Entry) : Type 0 where
  pub a : Admitted
  pub admitted : checked contexts old client bytes ≡ Ok a
  pub entry : e ≡ command_entry client number (pick_of a e.reply) bytes e.reply
  pub executes : Executes contexts seen client old.device new.device old.held new.held
      (table_of old.tables client) (table_of new.tables client) a bytes e.reply
  -- where no renewal was due
  pub stays : gap_kept old.held.sessions < renewal_gap old.held.sessions.numbers → StaysIn 1 1 (saved_number a) old.held new.held
  pub tables : new.tables ≡ set old.tables client (table_of new.tables client)

-- the entry of a command
pub record EntersCommand {D : Type 0} (contexts : ContextLimits) (seen : D → Seen) (old new : BrokerView D) (client number : ℕ) (bytes reply : List ℕ) : Type 0 where
  pub e : Entry
  pub entered : new.journal ≡ old.journal ++ e ∷ []
  pub reply_is : reply ≡ e.reply
  pub room : HasRoom old.limit old.journal bytes
  pub cause : IsRefused contexts old new client number bytes e ⊎ (IsFaulted contexts seen old new client number bytes e
      ⊎ IsCarriedOut contexts seen old new client number bytes e)

-- the journal has no room for the command, which changes nothing
pub record JournalIsFull {D : Type 0} (old new : BrokerView D) (bytes reply : List ℕ) (count limit : ℕ) : Type 0 where
  pub lacks : LacksRoom old.limit old.journal bytes
  pub same : new ≡ old
  pub reply_is : reply ≡ error_reply RC_JOURNAL_FULL
  pub kept_is : count ≡ kept old.journal
  pub limit_is : limit ≡ old.limit

-- what a client gets, and what becomes of the broker
abbrev pub BrokerTells : {D : Type 0} (contexts : ContextLimits) (seen : D → Seen) → Told → (old new : BrokerView D) (client number : ℕ) (bytes reply : List ℕ) → Type 0
BrokerTells contexts seen tolds.Entered old new client number bytes reply = EntersCommand contexts seen old new client number bytes reply
BrokerTells contexts seen tolds.Memory old new client number bytes reply =
    (new ≡ old) × IsToldMemory contexts bytes reply × HasRoom old.limit old.journal bytes × IsAdmitted contexts old client bytes
BrokerTells contexts seen (tolds.JournalFull count limit) old new client number bytes reply = JournalIsFull old new bytes reply count limit
BrokerTells contexts seen tolds.Answer old new client number bytes reply = (new.journal ≡ old.journal) × (reply ≡ error_reply RC_DEVICE_ANSWER) × (new.tables ≡ old.tables)

-- what a command sends at the most, whatever its result is, also over a device that shows nothing
pub record Costs {D : Type 0} (contexts : ContextLimits) (seen : D → Seen) (old new : BrokerView D) (client : ℕ) (bytes : List ℕ) : Type 0 where
  pub most : SendsUpTo seen (new_bound (orphan_count old.held) (gap_kept old.held.sessions) old.held.sessions.numbers) old.device new.device
  pub at_hand : (a : Admitted) → checked contexts old client bytes ≡ Ok a → IsAtHand contexts old.held (table_of old.tables client) a bytes
      → SendsUpTo seen 1 old.device new.device
  pub few : (a : Admitted) → checked contexts old client bytes ≡ Ok a → IsCalm old.held
      → SendsUpTo seen (moves_for contexts old.held (table_of old.tables client) a bytes + 1) old.device new.device

-- what becomes of a command
pub record Commands {D : Type 0} (contexts : ContextLimits) (seen : D → Seen) (told_is : Told) (old new : BrokerView D) (client number : ℕ)
    (bytes reply : List ℕ) : Type 0 where
  -- the entry is a refusal of the broker's own, a failed transmission, or what came back from the device, with the client's handle for a
  -- new object
  pub told : BrokerTells contexts seen told_is old new client number bytes reply
  -- `Answer` comes exactly after a wrong answer. A device that tells its state gives none.
  pub answer : (told_is ≡ tolds.Answer) ↔ IsSome new.wrong_code
  pub last_answer : AnswersHold contexts (seen new.device) new.wrong_code
  -- after a wrong answer a call changes nothing
  pub unchanged : IsSome old.wrong_code → new ≡ old
  pub keeps : Keeps seen old.device new.device
  pub costs : Costs contexts seen old new client bytes
  pub left : orphan_count new.held ≤ orphan_count old.held
  pub fixed : (new.began ≡ old.began) × (new.limit ≡ old.limit) × (new.held.sessions.numbers ≡ old.held.sessions.numbers)

-- The command was canceled, and wasn't run: it has an entry, and nothing else changed.
pub record EntersCanceled {D : Type 0} (old new : BrokerView D) (client number upto : ℕ) (bytes reply : List ℕ) : Type 0 where
  pub reply_is : reply ≡ error_reply RC_CANCELED
  pub room : HasRoom old.limit old.journal bytes
  pub same : new ≡ record old { journal = old.journal ++ canceled_entry client number upto bytes reply ∷ [] }

-- what a client gets for a command that it canceled, and what becomes of the broker
abbrev pub BrokerTellsCanceled : {D : Type 0} → Told → (old new : BrokerView D) (client number upto : ℕ) (bytes reply : List ℕ) → Type 0
BrokerTellsCanceled tolds.Entered old new client number upto bytes reply = EntersCanceled old new client number upto bytes reply
BrokerTellsCanceled tolds.Memory old new client number upto bytes reply = ⊥
BrokerTellsCanceled (tolds.JournalFull count limit) old new client number upto bytes reply = JournalIsFull old new bytes reply count limit
BrokerTellsCanceled tolds.Answer old new client number upto bytes reply = (new ≡ old) × (reply ≡ error_reply RC_DEVICE_ANSWER)

-- orphans that were in slots before stay there, with at most so many more as there are orphans more
abbrev pub HasLeft : (held new_held : Held) → Type 0
HasLeft held new_held =
    (more : List ℕ) × (new_held.objects.left ≡ held.objects.left ++ more) × (orphan_count held + length more ≤ orphan_count new_held)

-- what a close reports of orphans: that there are no more than before; or that there are more, and
-- how many there are in all
abbrev pub TellsLeft : Closed → (held new_held : Held) → Type 0
TellsLeft closes.Clean held new_held = (orphan_count new_held ≡ orphan_count held) × (new_held.objects.left ≡ held.objects.left)
TellsLeft (closes.Orphans count) held new_held =
    (count ≡ orphan_count new_held) × (orphan_count held < orphan_count new_held) × HasLeft held new_held
TellsLeft closes.Answer held new_held = Unit {0}

-- what a close leaves of all sessions: those of other clients stay where they are, each that is left
-- is what it was, and without a wrong answer those that this client saved are left behind the ones
-- that were left already, without the longest left ones past the limit
pub record LeavesSessions (client : ℕ) (told : Closed) (held new_held : Held) : Type 0 where
  pub others : KeepsOthers client held.sessions.items new_held.sessions.items
  pub left : (told ≡ closes.Answer → ⊥) → new_held.sessions.left ≡ left_after client held.sessions
  pub behind : LeavesThem held.sessions.items new_held.sessions.items

-- what becomes of a close
pub record Closes {D : Type 0} (contexts : ContextLimits) (seen : D → Seen) (client : ℕ) (told : Closed) (old new : BrokerView D) : Type 0 where
  pub closed : (new.journal ≡ old.journal ++ close_entry client ∷ []) × (new.tables ≡ set old.tables client [])
  pub answer : (told ≡ closes.Answer) ↔ IsSome new.wrong_code
  -- after a wrong answer nothing is sent, and nothing else changes
  pub unsent : IsSome old.wrong_code
      → new ≡ record old { journal = old.journal ++ close_entry client ∷ []; tables = set old.tables client [] }
  pub left : TellsLeft told old.held new.held
  -- no more orphans are added than transmissions failed
  pub more : AreLeftByFaults (orphan_count old.held) (seen old.device).faults (orphan_count new.held) (seen new.device).faults
  pub sessions : LeavesSessions client told old.held new.held
  pub keeps : Keeps seen old.device new.device
  pub costs : SendsUpTo seen (close_bound client old.held) old.device new.device
  -- nothing is sent but flushes, no wrong answer to one is passed over, and each session that is gone was flushed
  pub sent : SendsFlushes contexts seen old.device new.device old.held.sessions.items new.held.sessions.items (closes_wrong told)
  pub fixed : (new.began ≡ old.began) × (new.limit ≡ old.limit) × (new.held.sessions.numbers ≡ old.held.sessions.numbers)

-- the device was started and flushed, its numbers are in range, and memory lacked for what is kept of its objects and sessions
abbrev pub LackedMemory : (old new : Seen) → Type 0
LackedMemory old new = (numbers : Numbers) × IsStarted old.trace new.trace numbers × AreInRange numbers × ClearedIf old.state new.state

-- why a broker didn't begin: a transmission failed, or the response to it is a wrong answer, and
-- that was the last one; or memory lacked; or a number of the device is out of range, and nothing
-- was sent after the response that has it. In the other cases each number that the device reported
-- is in range.
abbrev pub HasBeginCause : {D : Type 0} (contexts : ContextLimits) (seen : D → Seen) → BeginError → (old new : D) → Type 0
HasBeginCause contexts seen (begin_errors.Device count) old new =
    StopsUnanswered contexts (seen old).trace (seen new).trace × (last_of (seen new) ≡ None) × Rose (seen old).faults (seen new).faults × (count ≡ (seen new).faults)
HasBeginCause contexts seen (begin_errors.Answer code) old new =
    StopsUnanswered contexts (seen old).trace (seen new).trace × IsWrongAnswer contexts (asked_of (seen new)) (last_of (seen new)) code × ((seen new).state ≡ None)
HasBeginCause contexts seen begin_errors.Memory old new = (new ≡ old) ⊎ LackedMemory (seen old) (seen new)
HasBeginCause contexts seen (begin_errors.Numbers property value) old new =
    StopsAtNumber (seen old).trace (seen new).trace property value
    × IfSome (seen old).state (λ slots. AreInRange slots.numbers → ⊥)
