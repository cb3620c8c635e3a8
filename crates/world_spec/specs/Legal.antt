-- A legal history: what each entry must be, at its place.
use Rattle.std.specs.Prelude.{◌≡◌, ◌<◌, ◌≤◌, ◌⊎◌, ℕ, List, [], ◌∷◌, ◌++◌, Some}
use Rattle.std.specs.List.{filter, AllByRecursion}
use Rattle.tab_spec.specs.declared.TheConstants.{RC_CANCELED, RC_DEVICE_FAULT}
use Rattle.history_spec.specs.declared.EntryKind.{EntryKind}
use Rattle.history_spec.specs.declared.EntryKind.TheVariants.{Open, Command, Canceled, Fault, Close}
use Rattle.history_spec.specs.Entry.{Entry, IsNextNumber, IsOpen, clients_of, is_fault, open_entry, command_entry, canceled_entry, fault_entry, close_entry}
use Rattle.tab_spec.specs.Count.{largest_count}
use Rattle.tab_spec.specs.Persist.{Persist}
use Rattle.world_spec.specs.World.{World, plain_step, world_of}
use Rattle.tab_spec.specs.Reply.{error_reply}

-- the fault count is above that of each earlier Fault, or stands at its type's end
abbrev pub IsNextCount : List Entry → ℕ → Type 0
IsNextCount before faults = AllByRecursion (λ e. e.faults < faults) (filter is_fault before) ⊎ (faults ≡ largest_count)

-- the next client gets empty tables
abbrev pub IsOpening : Persist → ℕ → List Entry → Entry → Type 0
IsOpening base most before e = e ≡ open_entry (clients_of before).opened

-- the reply, and the world afterwards, are those of the plain machine
pub record IsRun (base : Persist) (most : ℕ) (before : List Entry) (e : Entry) : Type 0 where
  pub form : e ≡ command_entry e.client e.number e.pick e.command e.reply
  pub is_open : IsOpen before e.client
  pub number : IsNextNumber before e.client e.number
  pub after : World
  pub stepped : plain_step (world_of base most before) e.client e.command e.pick ≡ Some (after, e.reply)

-- the command's number is at most the one up to which commands were canceled, and the world stays
pub record IsCanceled (base : Persist) (most : ℕ) (before : List Entry) (e : Entry) : Type 0 where
  pub upto : ℕ
  pub form : e ≡ canceled_entry e.client e.number upto e.command (error_reply RC_CANCELED)
  pub is_open : IsOpen before e.client
  pub number : IsNextNumber before e.client e.number
  pub covers : e.number ≤ upto

-- the world stays
pub record IsFault (base : Persist) (most : ℕ) (before : List Entry) (e : Entry) : Type 0 where
  pub form : e ≡ fault_entry e.client e.number e.faults e.command (error_reply RC_DEVICE_FAULT)
  pub is_open : IsOpen before e.client
  pub number : IsNextNumber before e.client e.number
  pub count : IsNextCount before e.faults

-- the client's tables go, and its saved sessions are left
pub record IsClosing (base : Persist) (most : ℕ) (before : List Entry) (e : Entry) : Type 0 where
  pub form : e ≡ close_entry e.client
  pub is_open : IsOpen before e.client

abbrev pub MayFollowAs : EntryKind → Persist → ℕ → List Entry → Entry → Type 0
MayFollowAs Open = IsOpening
MayFollowAs Command = IsRun
MayFollowAs (Canceled upto) = IsCanceled
MayFollowAs Fault = IsFault
MayFollowAs Close = IsClosing

-- the entry may follow these
abbrev pub MayFollow : Persist → ℕ → List Entry → Entry → Type 0
MayFollow base most before e = MayFollowAs e.kind base most before e

abbrev pub LegalFrom : Persist → ℕ → List Entry → List Entry → Type 0
LegalFrom base most before [] = Unit {0}
LegalFrom base most before (e ∷ after) = MayFollow base most before e × LegalFrom base most (before ++ e ∷ []) after

-- each entry may follow those before it, in a world with this base, in which so many sessions may be active
abbrev pub Legal : Persist → ℕ → List Entry → Type 0
Legal base most history = LegalFrom base most [] history
