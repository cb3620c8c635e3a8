-- What a client is told of a command: the reply of its entry.
use Rattle.std.specs.Prelude.{◌≡◌, ◌⊎◌, ℕ, ◌+◌, ◌==◌, true, List, [], ◌∷◌, ◌++◌, Option, Some, None}
use Rattle.std.specs.List.{find}
use Rattle.tab_spec.specs.declared.TheConstants.{RC_JOURNAL_FULL, RC_MEMORY}
use Rattle.history_spec.specs.Entry.{Entry, LacksRoom, own, part_before}
use Rattle.tab_spec.specs.Reply.{error_reply}
use Rattle.tab_spec.specs.Shape.{makes_object}
use Rattle.tab_spec.specs.declared.contexts.ContextLimits.{ContextLimits}

-- a client's entry of this number
abbrev pub entry_of : List Entry → ℕ → ℕ → Option Entry
entry_of history client number = find (λ e. e.number == number) (own history client)

pub record IsEntryOf (command reply : List ℕ) (e : Entry) : Type 0 where
  pub command_is : e.command ≡ command
  pub reply_is : e.reply ≡ reply

-- what a client may be told without an entry goes by these: the most bytes that the journal may keep, and what the contexts of the device
-- may be, one of which may make an object
pub record Limits : Type 0 where
  pub bytes : ℕ
  pub contexts : ContextLimits

-- the journal had no room for the command after this part of its history
pub record IsToldFull (limit : ℕ) (before : List Entry) (command reply : List ℕ) : Type 0 where
  pub reply_is : reply ≡ error_reply RC_JOURNAL_FULL
  pub lacks : LacksRoom limit before command

-- memory lacked for the object that the command makes: no other command gets this reply
pub record IsToldMemory (contexts : ContextLimits) (command reply : List ℕ) : Type 0 where
  pub reply_is : reply ≡ error_reply RC_MEMORY
  pub makes : makes_object contexts command ≡ true

-- the reply if there is an entry, and if there is none: then memory lacked, or room
abbrev pub ToldBy : Option Entry → Limits → List Entry → List ℕ → List ℕ → Type 0
ToldBy (Some e) limit before command reply = IsEntryOf command reply e
ToldBy None limit before command reply = IsToldMemory limit.contexts command reply ⊎ IsToldFull limit.bytes before command reply

-- within these limits the client may get this reply to its command of this number
abbrev pub MayBeTold : List Entry → Limits → ℕ → ℕ → List ℕ → List ℕ → Type 0
MayBeTold history limit client number command reply =
    ToldBy (entry_of history client number) limit (part_before client number history) command reply

abbrev pub AnswersFrom : List Entry → Limits → ℕ → ℕ → List (List ℕ) → List ℕ → Type 0
AnswersFrom history limit client number [] bytes = bytes ≡ []
AnswersFrom history limit client number (command ∷ commands) bytes =
    (reply : List ℕ) × (more : List ℕ) × (bytes ≡ reply ++ more) × MayBeTold history limit client number command reply
    × AnswersFrom history limit client (number + 1) commands more

-- the bytes are one such reply for each command, one after another
abbrev pub Answers : List Entry → Limits → ℕ → List (List ℕ) → List ℕ → Type 0
Answers history limit client commands bytes = AnswersFrom history limit client 1 commands bytes
