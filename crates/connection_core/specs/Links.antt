-- How a connection ends: what was taken of its source, entered into the history and written to its client.
use Rattle.std.specs.Prelude.{◌≡◌, ◌<◌, ◌≤◌, ◌⊎◌, ℕ, ◌+◌, Bool, true, false, List, [], ◌∷◌, ◌++◌, length, take, All, Option, Some, None}
use mathlib.Core.List.{IsPrefix}
use Rattle.tab_spec.specs.declared.TheConstants.{RC_CANCELED, RC_COMMAND_SIZE, RC_DEVICE_ANSWER}
use Rattle.tab_spec.specs.Count.{Rose}
use Rattle.tab_spec.specs.Frame.{bad, commands, frames, meets_bad_size}
use Rattle.tab_spec.specs.Reply.{error_reply}
use Rattle.history_spec.specs.declared.EntryKind.{EntryKind}
use Rattle.history_spec.specs.declared.EntryKind.TheVariants.{Open, Command, Canceled, Fault, Close}
use Rattle.history_spec.specs.Cancels.{IsCovered, cancels, cover}
use Rattle.history_spec.specs.Entry.{Entry, HasRoom, HasRoomForClient, canceled_entry, clients_of, close_entry, kept, open_entry, own}
use Rattle.history_spec.specs.Told.{Answers, MayBeTold, entry_of}
use Rattle.link_port.specs.Port.{with_more}
use Rattle.broker_lock.specs.Examples.{HasCommandsUpTo}
use Rattle.broker_lock.specs.Known.{Fixed, IsLegalOver, IsUntold, Origin, limits_of}
use Rattle.broker_lock.specs.Pass.{PassView}
use Rattle.broker_lock.specs.Serves.{IsAnswered, IsFailed}
use Rattle.cancel_words.specs.View.{IsZeroOrRaised, WordView, of_both}
use Rattle.connection_core.specs.declared.ends.Ending.{Ending}
use Rattle.connection_core.specs.declared.ends.Ending.TheVariants as endings
use Rattle.connection_core.specs.Rounds.{IsTakenFrom}

-- ---- the entries of a client

-- the client was opened as the next one, where the journal had room for it
pub record IsOpenedIn (limit : ℕ) (history : List Entry) (client : ℕ) : Type 0 where
  pub before : List Entry
  pub there : IsPrefix (before ++ open_entry client ∷ []) history
  pub client_is : client ≡ (clients_of before).opened
  pub room : HasRoomForClient limit before

-- the command was canceled before it ran: its client canceled its commands up to this number
pub record IsCanceledUpTo (client number upto : ℕ) (command : List ℕ) (e : Entry) : Type 0 where
  pub form : e ≡ canceled_entry client number upto command (error_reply RC_CANCELED)
  pub covers : number ≤ upto

-- the entry of a client's command of this number, which was answered, failed or was canceled, where the journal had room for it
pub record IsCommandEntry (fixed : Fixed) (history : List Entry) (client number : ℕ) (command : List ℕ) (e : Entry) : Type 0 where
  pub cause : IsAnswered client number command e ⊎ (IsFailed fixed.began client number command e ⊎ ((upto : ℕ) × IsCanceledUpTo client number upto command e))
  pub before : List Entry
  pub there : IsPrefix (before ++ e ∷ []) history
  pub room : HasRoom fixed.limit before command

-- for each command, numbered from this number on, one entry of it or none, in their order
abbrev pub AreEntriesFrom : Fixed → List Entry → (client number : ℕ) → List (List ℕ) → List Entry → Type 0
AreEntriesFrom fixed history client number [] entries = entries ≡ []
AreEntriesFrom fixed history client number (command ∷ commands) entries =
    AreEntriesFrom fixed history client (number + 1) commands entries
    ⊎ ((e : Entry) × (more : List Entry) × (entries ≡ e ∷ more) × IsCommandEntry fixed history client number command e
    × AreEntriesFrom fixed history client (number + 1) commands more)

-- ---- what a client is told

-- the reply of the command's entry. Where it has none: that memory lacked, or room, or that the device gave a wrong answer, where one
-- came, as it may over a device that doesn't tell its state
abbrev pub IsTold : Fixed → (wrong : Bool) → List Entry → (client number : ℕ) (command reply : List ℕ) → Type 0
IsTold fixed wrong history client number command reply =
    MayBeTold history (limits_of fixed) client number command reply
    ⊎ ((entry_of history client number ≡ None) × (reply ≡ error_reply RC_DEVICE_ANSWER) × IsUntold fixed × (wrong ≡ true))

-- one such reply for each command, numbered from this number on, one after another
abbrev pub AreRepliesFrom : Fixed → (wrong : Bool) → List Entry → (client number : ℕ) → List (List ℕ) → List ℕ → Type 0
AreRepliesFrom fixed wrong history client number [] bytes = bytes ≡ []
AreRepliesFrom fixed wrong history client number (command ∷ commands) bytes =
    (reply : List ℕ) × (more : List ℕ) × (bytes ≡ reply ++ more) × IsTold fixed wrong history client number command reply
    × AreRepliesFrom fixed wrong history client (number + 1) commands more

-- ---- the cancel word

-- up to which number an entry says that commands were canceled, where it is of a canceled one
abbrev pub upto_of : EntryKind → Option ℕ
upto_of Open = None
upto_of Command = None
upto_of (Canceled upto) = Some upto
upto_of Fault = None
upto_of Close = None

-- this word was loaded before the command of this number: its entry, where it has one, says that it was canceled up to the word
-- exactly where the word isn't below its number
abbrev pub Decides : List Entry → (client number word : ℕ) → Type 0
Decides history client number word = (e : Entry) → entry_of history client number ≡ Some e → upto_of e.kind ≡ cover (Some word) number

-- the words that were loaded, one before each command, from this number on
abbrev pub DecideFrom : List Entry → (client number : ℕ) → List ℕ → Type 0
DecideFrom history client number [] = Unit {0}
DecideFrom history client number (word ∷ words) = Decides history client number word × DecideFrom history client (number + 1) words

-- the seat of a connection's cancel word is the reader's and the worker's. It holds the cancels of what was taken, and a word for
-- each command that was taken up
pub record IsSeatOf (history : List Entry) (client done : ℕ) (taken : List ℕ) (seat : WordView) : Type 0 where
  pub both : seat.role ≡ of_both
  pub raised_is : seat.raised ≡ cancels taken
  pub count : length seat.loaded ≡ done
  pub each : All (IsZeroOrRaised seat.raised) seat.loaded
  pub decide : DecideFrom history client 1 seat.loaded

-- each of the first commands that was canceled was canceled by a cancel of what was taken
abbrev pub AreCanceledBy : List ℕ → List Entry → (client done : ℕ) → Type 0
AreCanceledBy taken history client done = (number upto : ℕ) (e : Entry) → 1 ≤ number → number ≤ done → entry_of history client number ≡ Some e
    → upto_of e.kind ≡ Some upto → IsCovered taken upto

-- ---- the endings

-- all commands that came were answered. Over a device that tells its state the replies are the answers of the history
pub record AnswersAll (fixed : Fixed) (wrong : Bool) (history : List Entry) (client done : ℕ) (list : List (List ℕ)) (output : List ℕ) : Type 0 where
  pub all : done ≡ length list
  pub replies : AreRepliesFrom fixed wrong history client 1 list output
  pub answers : (base : Origin) → fixed.base ≡ Some base → Answers history (limits_of fixed) client list output

-- a front of the last reply was written, behind all of those before it
pub record CutsReply (fixed : Fixed) (wrong : Bool) (history : List Entry) (client done : ℕ) (list : List (List ℕ)) (output : List ℕ) : Type 0 where
  pub earlier : ℕ
  pub command : List ℕ
  pub before : List ℕ
  pub reply : List ℕ
  pub k : ℕ
  pub done_is : done ≡ earlier + 1
  pub next : take done list ≡ take earlier list ++ command ∷ []
  pub replies : AreRepliesFrom fixed wrong history client 1 (take earlier list) before
  pub told : IsTold fixed wrong history client done command reply
  pub short : k < length reply
  pub output_is : output ≡ before ++ take k reply

-- a front of what tells of a bad size was written, behind the replies to all commands
pub record CutsBadSize (fixed : Fixed) (wrong : Bool) (history : List Entry) (client done : ℕ) (list : List (List ℕ)) (output : List ℕ) : Type 0 where
  pub replies : List ℕ
  pub k : ℕ
  pub answered : AnswersAll fixed wrong history client done list replies
  pub short : k < length (error_reply RC_COMMAND_SIZE)
  pub output_is : output ≡ replies ++ take k (error_reply RC_COMMAND_SIZE)

-- all commands were answered, and then the client was told of a bad size
pub record TellsBadSize (fixed : Fixed) (wrong : Bool) (history : List Entry) (client done : ℕ) (list : List (List ℕ)) (output : List ℕ) : Type 0 where
  pub replies : List ℕ
  pub answered : AnswersAll fixed wrong history client done list replies
  pub output_is : output ≡ replies ++ error_reply RC_COMMAND_SIZE

-- what was taken and written, by the ending
abbrev pub EndsAs : Ending → Fixed → (wrong : Bool) → List Entry → (client done : ℕ) (given : Option (List ℕ)) (taken output : List ℕ) → Type 0
EndsAs endings.EndOfInput fixed wrong history client done given taken output =
    AnswersAll fixed wrong history client done (commands taken) output × (meets_bad_size taken ≡ false) × ((all : List ℕ) → given ≡ Some all → taken ≡ all)
EndsAs (endings.BadFrame size) fixed wrong history client done given taken output =
    TellsBadSize fixed wrong history client done (commands taken) output × ((frames taken).ending ≡ bad size)
EndsAs endings.ReadFault fixed wrong history client done given taken output =
    AnswersAll fixed wrong history client done (commands taken) output × (meets_bad_size taken ≡ false)
EndsAs endings.WriteFault fixed wrong history client done given taken output =
    CutsReply fixed wrong history client done (commands taken) output
    ⊎ (CutsBadSize fixed wrong history client done (commands taken) output × (meets_bad_size taken ≡ true))
EndsAs endings.Memory fixed wrong history client done given taken output = ⊥
EndsAs (endings.JournalFull count limit) fixed wrong history client done given taken output = ⊥
EndsAs endings.Answer fixed wrong history client done given taken output = ⊥

-- what came of an open client's connection: these entries, by the history at the end
pub record RanLink (ending : Ending) (fixed : Fixed) (wrong : Bool) (history : List Entry) (client done : ℕ) (entries : List Entry)
    (given left written written_new : Option (List ℕ)) (seat : WordView) : Type 0 where
  pub taken : List ℕ
  pub output : List ℕ
  pub took : IsTakenFrom given left taken
  pub within : done ≤ length (commands taken)
  pub entries_are : AreEntriesFrom fixed history client 1 (take done (commands taken)) entries
  pub written_is : written_new ≡ with_more written output
  pub ends : EndsAs ending fixed wrong history client done given taken output
  pub word : IsSeatOf history client done taken seat
  pub canceled : AreCanceledBy taken history client done

-- the pass knows this open client and its entries alone
pub record KnowsClient (pass : PassView) (client done : ℕ) (entries : List Entry) : Type 0 where
  pub known : pass.known ≡ open_entry client ∷ entries
  pub opened : IsOpenedIn pass.fixed.limit pass.front client
  pub own_is : own pass.front client ≡ pass.known
  pub present : HasCommandsUpTo pass.known client done

-- an open client's connection came to its end
pub record IsStopped (ending : Ending) (pass : PassView) (client done : ℕ) (given left written written_new : Option (List ℕ)) (seat : WordView) : Type 0 where
  pub entries : List Entry
  pub serves : KnowsClient pass client done entries
  pub ran : RanLink ending pass.fixed pass.wrong pass.front client done entries given left written written_new seat

-- a client was opened, its connection came to its end, and it was closed. The pass knows its entries alone, and the history
-- has just these of it. The seat of the cancel word is there
pub record IsClosedLink (legal : Origin → List Entry → Type 0) (ending : Ending) (pass : PassView) (client done : ℕ) (given left written written_new : Option (List ℕ)) (word : Option WordView) : Type 0 where
  pub entries : List Entry
  pub seat : WordView
  pub known : pass.known ≡ (open_entry client ∷ entries) ++ close_entry client ∷ []
  pub opened : IsOpenedIn pass.fixed.limit pass.front client
  pub own_is : own pass.front client ≡ pass.known
  pub is_legal : IsLegalOver legal pass.fixed.base pass.front
  pub word_is : word ≡ Some seat
  pub ran : RanLink ending pass.fixed pass.wrong pass.front client done entries given left written written_new seat

-- ---- a connection without a client

-- why there is none, by the history when its opening was refused
abbrev pub Refuses : Ending → PassView → Type 0
Refuses endings.EndOfInput pass = ⊥
Refuses (endings.BadFrame size) pass = ⊥
Refuses endings.ReadFault pass = ⊥
Refuses endings.WriteFault pass = ⊥
Refuses endings.Memory pass = Unit {0}
Refuses (endings.JournalFull count limit) pass =
    (HasRoomForClient pass.fixed.limit pass.front → ⊥) × (count ≡ kept pass.front) × (limit ≡ pass.fixed.limit)
Refuses endings.Answer pass = IsUntold pass.fixed × (pass.wrong ≡ true)

-- nothing was run, and the pass knows nobody
pub record IsOpeningRefused (ending : Ending) (pass : PassView) (done : ℕ) : Type 0 where
  pub done_is : done ≡ 0
  pub nobody : pass.known ≡ []
  pub refuses : Refuses ending pass

-- ---- every connection

-- a count stays, or it rose
abbrev pub StaysOrRose : (faults faults_new : ℕ) → Type 0
StaysOrRose faults faults_new = (faults_new ≡ faults) ⊎ Rose faults faults_new

-- a fault is told where that end's count rose. Where the sink's did, the source was read to its end, and its count may have risen,
-- too. The other counts stay
abbrev pub HasEndingCause : Ending → (source_faults source_faults_new sink_faults sink_faults_new : ℕ) → Type 0
HasEndingCause endings.EndOfInput source_faults source_faults_new sink_faults sink_faults_new = (source_faults_new ≡ source_faults) × (sink_faults_new ≡ sink_faults)
HasEndingCause (endings.BadFrame size) source_faults source_faults_new sink_faults sink_faults_new = (source_faults_new ≡ source_faults) × (sink_faults_new ≡ sink_faults)
HasEndingCause endings.ReadFault source_faults source_faults_new sink_faults sink_faults_new = Rose source_faults source_faults_new × (sink_faults_new ≡ sink_faults)
HasEndingCause endings.WriteFault source_faults source_faults_new sink_faults sink_faults_new = StaysOrRose source_faults source_faults_new × Rose sink_faults sink_faults_new
HasEndingCause endings.Memory source_faults source_faults_new sink_faults sink_faults_new = (source_faults_new ≡ source_faults) × (sink_faults_new ≡ sink_faults)
HasEndingCause (endings.JournalFull count limit) source_faults source_faults_new sink_faults sink_faults_new = (source_faults_new ≡ source_faults) × (sink_faults_new ≡ sink_faults)
HasEndingCause endings.Answer source_faults source_faults_new sink_faults sink_faults_new = (source_faults_new ≡ source_faults) × (sink_faults_new ≡ sink_faults)
