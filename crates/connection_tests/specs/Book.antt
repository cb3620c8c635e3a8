-- The value that the tests put under a lock, and a history of it. It answers one command, GetRandom of eight bytes, with the place of its entry.
use Rattle.std.specs.Prelude.{◌≡◌, ◌≤◌, ℕ, ◌*◌, ◌+◌, Bool, List, [], ◌∷◌, length, Option, Some, None}
use Rattle.history_spec.specs.declared.EntryKind.{EntryKind}
use Rattle.history_spec.specs.declared.Pick.TheVariants.{Nothing}
use Rattle.history_spec.specs.declared.TheConstants.{ENTRY_BYTES}
use Rattle.history_spec.specs.declared.EntryKind.TheVariants.{Open, Command, Canceled, Fault, Close}
use Rattle.history_spec.specs.Entry.{Entry, clients_of, close_entry, kept, open_entry}
use Rattle.tab_spec.specs.declared.TheConstants.{RC_CANCELED}
use Rattle.tab_spec.specs.Reply.{error_reply}
use Rattle.tab_spec.specs.declared.contexts.TheConstants.{PROFILE_CONTEXTS}
use Rattle.broker_lock.specs.Known.{Fixed, Origin}

-- GetRandom of eight bytes
abbrev pub asked : List ℕ
asked = 128 ∷ 1 ∷ 0 ∷ 0 ∷ 0 ∷ 12 ∷ 0 ∷ 0 ∷ 1 ∷ 123 ∷ 0 ∷ 8 ∷ []

-- its response, the last byte of which is this one
abbrev pub answer : ℕ → List ℕ
answer place = 128 ∷ 1 ∷ 0 ∷ 0 ∷ 0 ∷ 20 ∷ 0 ∷ 0 ∷ 0 ∷ 0 ∷ 0 ∷ 8 ∷ 0 ∷ 0 ∷ 0 ∷ 0 ∷ 0 ∷ 0 ∷ 0 ∷ place ∷ []

abbrev pub command_of : Option ℕ → List ℕ
command_of None = []
command_of (Some place) = asked

-- an answer with this place, or what a client is told of a canceled command
abbrev pub reply_as : EntryKind → ℕ → List ℕ
reply_as Open place = answer place
reply_as Command place = answer place
reply_as (Canceled upto) place = error_reply RC_CANCELED
reply_as Fault place = answer place
reply_as Close place = answer place

abbrev pub reply_of : EntryKind → Option ℕ → List ℕ
reply_of kind None = []
reply_of kind (Some place) = reply_as kind place

-- an entry of a command that was answered with this place or was canceled, or of none
abbrev pub book_entry : ℕ → ℕ → EntryKind → Option ℕ → Entry
book_entry client number kind place = record {
  client = client;
  number = number;
  kind = kind;
  pick = Nothing;
  faults = 0;
  command = command_of place;
  reply = reply_of kind place;
}

pub record BookView : Type 0 where
  pub entries : List Entry
  pub limit : ℕ
  -- whether it told of a wrong answer
  pub wrong : Bool

-- its counts are those of its history, which is within its limit
pub record IsCounted (entries : List Entry) (opened present bytes limit : ℕ) : Type 0 where
  pub opened_is : opened ≡ (clients_of entries).opened
  pub present_is : present ≡ length (clients_of entries).present
  pub kept_is : bytes ≡ kept entries
  pub fewer : opened ≤ bytes
  pub within : bytes + ENTRY_BYTES * present ≤ limit

-- ---- a history

-- client 0 is opened, its first command is answered, and it is closed
abbrev pub one_client : List Entry
one_client = open_entry 0 ∷ book_entry 0 1 Command (Some 1) ∷ close_entry 0 ∷ []

-- its first command is canceled
abbrev pub canceled_client : List Entry
canceled_client = open_entry 0 ∷ book_entry 0 1 (Canceled 1) (Some 0) ∷ close_entry 0 ∷ []

-- what a history stands on, with this limit
abbrev pub with_limit : Option Origin → ℕ → Fixed
with_limit base limit = record { base = base; limit = limit; began = 0; contexts = PROFILE_CONTEXTS }
