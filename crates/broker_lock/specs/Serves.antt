-- What each call of a value under a lock answers and enters, by the history before it and the history after it.
use Rattle.std.specs.Prelude.{◌≡◌, ◌≤◌, ◌⊎◌, ℕ, Bool, true, false, List, [], ◌∷◌, ◌++◌, Result, Ok, Err}
use Rattle.tab_spec.specs.Count.{Rose}
use Rattle.tab_spec.specs.declared.TheConstants.{RC_CANCELED, RC_DEVICE_ANSWER, RC_DEVICE_FAULT, RC_JOURNAL_FULL}
use Rattle.tab_spec.specs.Reply.{error_reply}
use Rattle.history_spec.specs.Entry.{Entry, HasRoom, HasRoomForClient, LacksRoom, canceled_entry, clients_of, close_entry, command_entry, fault_entry, kept, open_entry}
use Rattle.history_spec.specs.Told.{IsToldMemory}
use Rattle.broker_lock.specs.declared.calls.Closed.{Closed}
use Rattle.broker_lock.specs.declared.calls.Closed.TheVariants as closes
use Rattle.broker_lock.specs.declared.calls.OpenClientError.{OpenClientError}
use Rattle.broker_lock.specs.declared.calls.OpenClientError.TheVariants as open_errors
use Rattle.broker_lock.specs.declared.calls.Told.{Told}
use Rattle.broker_lock.specs.declared.calls.Told.TheVariants as tolds
use Rattle.broker_lock.specs.Known.{Fixed, IsUntold}

-- ---- wrong answers

-- whether an opening, a command or a close is told that the device gave a wrong answer
abbrev pub opens_wrong : Result ℕ OpenClientError → Bool
opens_wrong (Ok client) = false
opens_wrong (Err open_errors.Memory) = false
opens_wrong (Err (open_errors.JournalFull count most)) = false
opens_wrong (Err open_errors.Answer) = true

abbrev pub tells_wrong : Told → Bool
tells_wrong tolds.Entered = false
tells_wrong tolds.Memory = false
tells_wrong (tolds.JournalFull count most) = false
tells_wrong tolds.Answer = true

abbrev pub closes_wrong : Closed → Bool
closes_wrong closes.Clean = false
closes_wrong (closes.Orphans count) = false
closes_wrong closes.Answer = true

-- it is told exactly where a wrong answer came, now or before
abbrev pub TellsWrong : (wrong new_wrong told : Bool) → Type 0
TellsWrong wrong new_wrong told = (new_wrong ≡ told) × (wrong ≡ true → new_wrong ≡ true)

-- ---- opening a client

-- the next client is opened, for which a journal of this limit has room
pub record IsOpened (limit : ℕ) (before after : List Entry) (client : ℕ) : Type 0 where
  pub client_is : client ≡ (clients_of before).opened
  pub room : HasRoomForClient limit before
  pub entered : after ≡ before ++ open_entry client ∷ []

-- it has no room for another client
pub record IsFullForClient (limit : ℕ) (before after : List Entry) (count most : ℕ) : Type 0 where
  pub lacks : HasRoomForClient limit before → ⊥
  pub same : after ≡ before
  pub kept_is : count ≡ kept before
  pub limit_is : most ≡ limit

-- over a device that tells its state there is no wrong answer
abbrev pub Opens : Fixed → List Entry → List Entry → Result ℕ OpenClientError → Type 0
Opens fixed before after (Ok client) = IsOpened fixed.limit before after client
Opens fixed before after (Err open_errors.Memory) = (after ≡ before) × HasRoomForClient fixed.limit before
Opens fixed before after (Err (open_errors.JournalFull count most)) = IsFullForClient fixed.limit before after count most
Opens fixed before after (Err open_errors.Answer) = (after ≡ before) × IsUntold fixed

-- ---- a command

-- the command was answered
abbrev pub IsAnswered : ℕ → ℕ → List ℕ → Entry → Type 0
IsAnswered client number bytes e = e ≡ command_entry client number e.pick bytes e.reply

-- a transmission failed: the device's fault count is above that of the start, or stands at its type's end
pub record IsFailed (began client number : ℕ) (bytes : List ℕ) (e : Entry) : Type 0 where
  pub form : e ≡ fault_entry client number e.faults bytes (error_reply RC_DEVICE_FAULT)
  pub rose : Rose began e.faults

-- the command has an entry, for which a journal of this limit has room, and its client is told the entry's reply
pub record IsEntered (fixed : Fixed) (before after : List Entry) (client number : ℕ) (bytes reply : List ℕ) : Type 0 where
  pub e : Entry
  pub entered : after ≡ before ++ e ∷ []
  pub cause : IsAnswered client number bytes e ⊎ IsFailed fixed.began client number bytes e
  pub reply_is : reply ≡ e.reply
  pub room : HasRoom fixed.limit before bytes

-- it has no room for the command
pub record IsFull (limit : ℕ) (before after : List Entry) (bytes reply : List ℕ) (count most : ℕ) : Type 0 where
  pub lacks : LacksRoom limit before bytes
  pub same : after ≡ before
  pub reply_is : reply ≡ error_reply RC_JOURNAL_FULL
  pub kept_is : count ≡ kept before
  pub limit_is : most ≡ limit

abbrev pub Tells : Fixed → List Entry → List Entry → (client number : ℕ) (bytes reply : List ℕ) → Told → Type 0
Tells fixed before after client number bytes reply tolds.Entered = IsEntered fixed before after client number bytes reply
Tells fixed before after client number bytes reply tolds.Memory = (after ≡ before) × IsToldMemory fixed.contexts bytes reply × HasRoom fixed.limit before bytes
Tells fixed before after client number bytes reply (tolds.JournalFull count most) = IsFull fixed.limit before after bytes reply count most
Tells fixed before after client number bytes reply tolds.Answer = (after ≡ before) × (reply ≡ error_reply RC_DEVICE_ANSWER) × IsUntold fixed

-- the command was canceled before it ran: its entry says so, for which a journal of this limit has room
pub record IsEnteredCanceled (limit : ℕ) (before after : List Entry) (client number upto : ℕ) (bytes reply : List ℕ) : Type 0 where
  pub entered : after ≡ before ++ canceled_entry client number upto bytes reply ∷ []
  pub reply_is : reply ≡ error_reply RC_CANCELED
  pub room : HasRoom limit before bytes

-- it takes no memory
abbrev pub TellsCanceled : Fixed → List Entry → List Entry → (client number upto : ℕ) (bytes reply : List ℕ) → Told → Type 0
TellsCanceled fixed before after client number upto bytes reply tolds.Entered = IsEnteredCanceled fixed.limit before after client number upto bytes reply
TellsCanceled fixed before after client number upto bytes reply tolds.Memory = ⊥
TellsCanceled fixed before after client number upto bytes reply (tolds.JournalFull count most) = IsFull fixed.limit before after bytes reply count most
TellsCanceled fixed before after client number upto bytes reply tolds.Answer = (after ≡ before) × (reply ≡ error_reply RC_DEVICE_ANSWER) × IsUntold fixed

-- ---- a close

-- the answer to it: there are orphans, and not none; or a wrong answer came, as it never does over a device that tells
-- its state
abbrev pub MayLeave : Fixed → Closed → Type 0
MayLeave fixed closes.Clean = Unit {0}
MayLeave fixed (closes.Orphans count) = 1 ≤ count
MayLeave fixed closes.Answer = IsUntold fixed

-- whatever the answer is, the client is closed
pub record IsClosed (fixed : Fixed) (before after : List Entry) (client : ℕ) (closed : Closed) : Type 0 where
  pub entered : after ≡ before ++ close_entry client ∷ []
  pub answer : MayLeave fixed closed
