-- What each step leaves while what a client has is dropped.
use Rattle.std.specs.Prelude.{◌≡◌, ◌<◌, ◌≤◌, ◌⊎◌, ℕ, ◌+◌, ◌-◌, ◌==◌, ◌&&◌, Bool, true, false, List, [], ◌∷◌, ◌++◌, length, drop, set, slice_get, Option, Some, None, is_some, Result, is_err, IfErr, IfOk, OnErr, OnOk, if◌then◌else◌}
use Rattle.tab_spec.specs.Count.{largest_count}
use Rattle.device_spec.specs.Answers.{IsRight, IsWrongAnswer}
use Rattle.device_spec.specs.ContextCommands.{flush_context_command}
use Rattle.device_spec.specs.Slots.{SlotState}
use Rattle.std.specs.List.{AllByRecursion, Any, count_by, list_any}
use Rattle.tab_spec.specs.declared.TheConstants.{CC_FLUSH_CONTEXT}
use Rattle.tab_spec.specs.Frame.{code_of}
use Rattle.tab_spec.specs.declared.contexts.ContextLimits.{ContextLimits}
use Rattle.device_port.specs.Device.{Seen, Transmission, asked_of, last_of, sent_of}
use Rattle.device_port.specs.Own.{WasTaken}
use Rattle.device_port.specs.Use.{without_one}
use Rattle.object_swap.specs.Items.{HasNone}
use Rattle.tab_spec.specs.Shape.{number_of_session}
use Rattle.tab_spec.specs.Numbers.{leave_limit}
use Rattle.session_swap.specs.Items.{Item, Names, SessionsView, flag, has_owner, is_left, is_owned, is_owner, item_at, left_behind, owner_in}
use Rattle.world_spec.specs.World.{closed_sessions}
use Rattle.client_machine.specs.declared.held.Held.{Held}
use Rattle.client_machine.specs.Costs.{SendsUpTo, close_bound, own_objects, own_residents}
use Rattle.client_machine.specs.Moves.{CountsOnBy, GainsNone, Keeps, KeepsObjectsOf, KeepsOwners, KeepsPersist, StaysFor, other_than}
use Rattle.client_machine.specs.Settled.{Settled, orphan_count, sessions_in}
use Rattle.client_machine.specs.Tables.{AreOpenOwners}

-- no more orphans are added than transmissions failed, where these are still counted
abbrev pub AreLeftByFaults : (nobodys faults new_nobodys new_faults : ℕ) → Type 0
AreLeftByFaults nobodys faults new_nobodys new_faults = (new_nobodys + faults ≤ nobodys + new_faults) ⊎ (largest_count ≤ new_faults)

-- what other clients have stays
abbrev pub KeepsOthers : ℕ → (items new_items : List (Option Item)) → Type 0
KeepsOthers client items new_items =
    (number : ℕ) → is_owned client (item_at items number) ≡ false → has_owner (item_at items number) ≡ true
    → item_at new_items number ≡ item_at items number

-- whether a client's session is in use: the client didn't save it
abbrev pub is_used : Option (ℕ × Bool) → Bool
is_used None = false
is_used (Some owner) = owner.1

-- the close of a client drops the session of this handle: it is the client's and in use, or it was left longest of more sessions than
-- may be left
abbrev pub IsDropped : ℕ → SessionsView → ℕ → Type 0
IsDropped client view handle =
    ((is_owner client (owner_in view.items handle) ≡ true) × (is_used (owner_in view.items handle) ≡ true))
    ⊎ ((leave_limit view.numbers.active < length view.left) × (slice_get view.left 0 ≡ Some (number_of_session handle)))

-- ---- which sessions are left

-- whether this client saved the session of an item
abbrev pub is_saved_of : ℕ → Option Item → Bool
is_saved_of client None = false
is_saved_of client (Some item) = is_owned client (Some item) && is_some item.handed

-- the numbers of the sessions that this client saved, rising; the first item has this number
abbrev pub saved_in : ℕ → ℕ → List (Option Item) → List ℕ
saved_in client number [] = []
saved_in client number (item ∷ items) = (if is_saved_of client item then number ∷ [] else []) ++ saved_in client (number + 1) items

-- which sessions are left once this client is closed: those that are left and those that it saved, without the longest left ones
-- past the limit
abbrev pub left_after : ℕ → SessionsView → List ℕ
left_after client view =
    let all = view.left ++ saved_in client 0 view.items in
    drop (length all - leave_limit view.numbers.active) all

-- the sessions that are left then, in the order of leaving, where no more than may be were left before
abbrev pub LeavesSaved : ℕ → (held new_held : Held) → Type 0
LeavesSaved client held new_held =
    length held.sessions.left ≤ leave_limit held.sessions.numbers.active
    → new_held.sessions.left ≡ left_after client held.sessions

-- each session that is left then is what it was, whoever had it: the same handle, kept context and
-- bytes handed out
abbrev pub LeavesThem : (items new_items : List (Option Item)) → Type 0
LeavesThem items new_items =
    (number : ℕ) → is_left (item_at new_items number) ≡ true
    → item_at new_items number ≡ left_behind (item_at items number)

-- A client that was closed has no object and no session. Those that it saved are left, behind the
-- ones that were left before, and up to the limit
pub record HasNothing (client : ℕ) (held new_held : Held) : Type 0 where
  pub objects : HasNone new_held.objects.items client
  pub sessions : list_any (is_owned client) new_held.sessions.items ≡ false
  pub left : LeavesSaved client held new_held
  pub behind : LeavesThem held.sessions.items new_held.sessions.items

-- ---- what is sent

-- a flush that was answered, or whose transmission failed
abbrev pub WasTried : ContextLimits → Transmission → Type 0
WasTried contexts one = (code_of one.command ≡ CC_FLUSH_CONTEXT) × ((one.response ≡ None) ⊎ WasTaken contexts one)

-- each of these was; or each but the newest, which is a flush that met a wrong answer
abbrev pub WereTried : ContextLimits → (wrong : Bool) → List Transmission → Type 0
WereTried contexts false sent = AllByRecursion (WasTried contexts) sent
WereTried contexts true [] = Unit {0}
WereTried contexts true (newest ∷ earlier) = (code_of newest.command ≡ CC_FLUSH_CONTEXT) × AllByRecursion (WasTried contexts) earlier

-- the session of this handle was flushed by one of these, which was answered
abbrev pub WasFlushedBy : ContextLimits → List Transmission → ℕ → Type 0
WasFlushedBy contexts sent handle =
    Any (λ one. (one.command ≡ flush_context_command handle) × WasTaken contexts one) sent

-- a session that isn't gone: its handle and its kept context are as before, and so are the bytes
-- handed out, unless it is an orphan
pub record Remains (item new : Item) : Type 0 where
  pub handle : new.handle ≡ item.handle
  pub saved : new.saved ≡ item.saved
  pub handed : is_some new.handed ≡ true → new.handed ≡ item.handed

-- what becomes of the session of a number: it remains, or it is gone and was flushed by one of these.
-- No session is new
abbrev pub RemainsOrFlushed : ContextLimits → List Transmission → (item new : Option Item) → Type 0
RemainsOrFlushed contexts sent None new = new ≡ None
RemainsOrFlushed contexts sent (Some item) None = WasFlushedBy contexts sent item.handle
RemainsOrFlushed contexts sent (Some item) (Some new) = Remains item new

-- Nothing was sent but flushes, the newest first, and each was answered or failed, unless the newest
-- met a wrong answer. No session is gone without one
pub record SendsFlushes {D : Type 0} (contexts : ContextLimits) (seen : D → Seen) (old new : D)
    (items new_items : List (Option Item)) (wrong : Bool) : Type 0 where
  pub sent : List Transmission
  pub trace_is : (seen new).trace ≡ sent ++ (seen old).trace
  pub each : WereTried contexts wrong sent
  pub flushed : (number : ℕ)
      → RemainsOrFlushed contexts sent (item_at items number) (item_at new_items number)

-- What can't be flushed is an orphan then. This holds of each step, also of one that met a wrong answer: its code is the error, and no
-- list of objects gets another owner
pub record Disowns {D A : Type 0} (contexts : ContextLimits) (seen : D → Seen) (old new : D) (held new_held : Held) (result : Result A ℕ) : Type 0 where
  pub keeps : Keeps seen old new
  pub made_for : StaysFor held new_held
  pub slots : new_held.objects.slots ≡ held.objects.slots
  pub numbers : new_held.sessions.numbers ≡ held.sessions.numbers
  pub length_is : length new_held.objects.items ≡ length held.objects.items
  pub lists : OnErr result (new_held.objects.owners ≡ held.objects.owners)
  pub left : AreLeftByFaults (orphan_count held) (seen old).faults (orphan_count new_held) (seen new).faults
  pub err : IfErr result (λ code. IsWrongAnswer contexts (asked_of (seen new)) (last_of (seen new)) code × ((seen new).state ≡ None))
  -- no wrong answer is passed over, and no session is gone that wasn't flushed
  pub sent : SendsFlushes contexts seen old new held.sessions.items new_held.sessions.items
      (is_err result)

-- the slots of orphans: those before, and so many more at most
abbrev pub LeavesMore : ℕ → (left new_left : List ℕ) → Type 0
LeavesMore most left new_left = (more : List ℕ) × (new_left ≡ left ++ more) × (length more ≤ most)

-- A client loses objects and sessions, of which so many are orphans since their flush failed, and leaves sessions that it saved. These
-- are the owners of the lists of objects then.
pub record Drops {D : Type 0} (contexts : ContextLimits) (seen : D → Seen)
    (client : ℕ) (old new : D) (held new_held : Held) (owners_after : List (Option ℕ)) (failed : ℕ) : Type 0 where
  pub keeps : Keeps seen old new
  pub settled : Settled (seen new).state new_held
  pub counts : CountsOnBy 0 (seen old).state (seen new).state
  pub others : KeepsOwners (other_than client) held.objects.items new_held.objects.items
  pub gained : GainsNone (other_than client) held.objects.items new_held.objects.items
  pub other_objects : KeepsObjectsOf (other_than client) (seen old).state (seen new).state held.objects.items new_held.objects.items
  pub lists : new_held.objects.owners ≡ owners_after
  -- closing the client over what is still there leaves what it leaves over what was there
  pub closes : (slots after : SlotState) → (seen old).state ≡ Some slots → (seen new).state ≡ Some after
      → closed_sessions client held.sessions.numbers.active (sessions_in after new_held.sessions.items) new_held.sessions.left
      ≡ closed_sessions client held.sessions.numbers.active (sessions_in slots held.sessions.items) held.sessions.left
  -- the same by what is kept, whatever the device tells: which sessions the close leaves
  pub leaves : left_after client new_held.sessions ≡ left_after client held.sessions
  -- no more are left than may be
  pub few_left : length held.sessions.left ≤ leave_limit held.sessions.numbers.active
      → length new_held.sessions.left ≤ leave_limit held.sessions.numbers.active
  pub owners : (present : List ℕ) → AreOpenOwners present held.sessions.items → AreOpenOwners present new_held.sessions.items
  pub persist : KeepsPersist (seen old).state (seen new).state
  pub orphans : orphan_count new_held ≡ orphan_count held + failed
  -- orphans of others aren't flushed in their place
  pub left : LeavesMore failed held.objects.left new_held.objects.left
  -- no more than transmissions failed
  pub failures : (failed + (seen old).faults ≤ (seen new).faults) ⊎ (largest_count ≤ (seen new).faults)
  -- nothing was sent, or the last response was taken
  pub right : (new ≡ old) ⊎ IsRight contexts (asked_of (seen new)) (last_of (seen new))
  pub made_for : StaysFor held new_held
  pub slots : new_held.objects.slots ≡ held.objects.slots
  pub numbers : new_held.sessions.numbers ≡ held.sessions.numbers
  pub length_is : length new_held.objects.items ≡ length held.objects.items

-- one object of the client's
pub record DropsOne {D : Type 0} (contexts : ContextLimits) (seen : D → Seen) (client : ℕ) (old new : D) (held new_held : Held) : Type 0 where
  pub failed : ℕ
  pub drops : Drops contexts seen client old new held new_held held.objects.owners failed
  pub fewer : own_objects client new_held.objects.items + 1 ≡ own_objects client held.objects.items
  -- a command is sent only where one fewer of them is in a slot then
  pub costs : sent_of (seen new) + own_residents client new_held.objects.items
      ≤ sent_of (seen old) + own_residents client held.objects.items

-- ---- one session

-- the handle of the client's session that has the least number
pub record IsLeastOf (client : ℕ) (view : SessionsView) (handle : ℕ) : Type 0 where
  pub named : Names view.items handle
  pub own : is_owner client (owner_in view.items handle) ≡ true
  pub least : (lower : ℕ) → lower < number_of_session handle → is_owned client (item_at view.items lower) ≡ false

-- The session of this handle is dropped, and the call returns how many flushes failed. Every other
-- session stays, after a wrong answer too
pub record DropsSession (handle : ℕ) (held new_held : Held) (result : Result ℕ ℕ) : Type 0 where
  -- it isn't left any more
  pub gone : OnOk result (new_held.sessions.left ≡ without_one (number_of_session handle) held.sessions.left)
  -- the session's owner has one fewer, and every other client has as many as before
  pub count : OnOk result ((client : ℕ)
      → count_by (is_owned client) new_held.sessions.items
      + flag (is_owned client (item_at held.sessions.items (number_of_session handle)))
      ≡ count_by (is_owned client) held.sessions.items)
  pub few : IfOk result (λ failed. failed ≤ 1)
  pub rest : new_held.objects ≡ held.objects
  pub others : (number : ℕ) → (number == number_of_session handle) ≡ false
      → item_at new_held.sessions.items number ≡ item_at held.sessions.items number

-- One session of the client's is dropped or left, and the call returns how many flushes failed.
-- What other clients have stays, after a wrong answer too
pub record ClosesSession (client : ℕ) (held new_held : Held) (result : Result ℕ ℕ) : Type 0 where
  -- the client has one fewer
  pub count : OnOk result (count_by (is_owned client) new_held.sessions.items + 1 ≡ count_by (is_owned client) held.sessions.items)
  pub few : IfOk result (λ failed. failed ≤ 1)
  pub rest : new_held.objects ≡ held.objects
  pub others : KeepsOthers client held.sessions.items new_held.sessions.items

-- ---- all that a client has

-- a client is closed: all that it has is dropped or left, and its list is nobody's then. What other
-- clients have stays, after a wrong answer too
pub record DropsAll {D : Type 0} (contexts : ContextLimits) (seen : D → Seen) (client list : ℕ)
    (old new : D) (held new_held : Held) (result : Result ℕ ℕ) : Type 0 where
  pub ok : IfOk result (λ failed. Drops contexts seen client old new held new_held
      (set held.objects.owners list None) failed)
  pub none : OnOk result (HasNothing client held new_held)
  pub others : KeepsOthers client held.sessions.items new_held.sessions.items
  -- no more orphans are added than transmissions failed, also after a wrong answer
  pub disowns : Disowns contexts seen old new held new_held result
  pub costs : SendsUpTo seen (close_bound client held) old new
