-- A journal and an output play calls.
use Rattle.std.specs.Prelude.{◌≡◌, ◌⊎◌, ℕ, ◌==◌, List, [], ◌∷◌, ◌++◌, Option, Some, None, if◌then◌else◌}
use Rattle.std.specs.Fmt.{decimal}
use Rattle.hex.specs.Hex.{encode_lower}
use Rattle.tab_spec.specs.declared.TheConstants.{RC_COMMAND_SIZE}
use Rattle.history_spec.specs.declared.EntryKind.{EntryKind}
use Rattle.history_spec.specs.declared.EntryKind.TheVariants.{Open, Command, Canceled, Fault, Close}
use Rattle.history_spec.specs.Entry.{Entry, HasRoom, HasRoomForClient, clients_of, open_entry, close_entry}
use Rattle.history_spec.specs.Told.{MayBeTold, Limits}
use Rattle.tab_spec.specs.Reply.{error_reply}
use Rattle.script_spec.specs.Calls.{Call, bad_size, closing, command, opening}

-- an open label and its client
pub record LabelHolder : Type 0 where
  pub label : ℕ
  pub client : ℕ

abbrev pub client_of : List LabelHolder → ℕ → Option ℕ
client_of [] label = None
client_of (holder ∷ holders) label = if holder.label == label then Some holder.client else client_of holders label

abbrev pub without_label : ℕ → List LabelHolder → List LabelHolder
without_label label [] = []
without_label label (holder ∷ holders) = if holder.label == label then holders else holder ∷ without_label label holders

-- how far a script has been played
pub record Stage : Type 0 where
  pub history : List Entry
  pub holders : List LabelHolder
  pub output : List ℕ

-- the line that a reply is written as: its label, a space, its bytes in lower case, a newline
abbrev pub reply_line : ℕ → List ℕ → List ℕ
reply_line label reply = decimal label ++ 32 ∷ encode_lower reply ++ 10 ∷ []

abbrev pub IsCommandKind : EntryKind → Type 0
IsCommandKind Open = ⊥
IsCommandKind Command = Unit {0}
IsCommandKind (Canceled upto) = ⊥
IsCommandKind Fault = Unit {0}
IsCommandKind Close = ⊥

-- a command that is canceled up to a number has an entry that says so, and any other has none that does
abbrev pub IsKindOf : Option ℕ → EntryKind → Type 0
IsKindOf None kind = IsCommandKind kind
IsKindOf (Some upto) kind = kind ≡ Canceled upto

-- the entry of a client's command
pub record IsEntryFor (client number : ℕ) (bytes : List ℕ) (covered : Option ℕ) (e : Entry) : Type 0 where
  pub client_is : e.client ≡ client
  pub number_is : e.number ≡ number
  pub kind_is : IsKindOf covered e.kind
  pub command_is : e.command ≡ bytes

-- one entry of the command, for which a journal of this limit has room, or none
abbrev pub MayAddEntry : ℕ → List Entry → ℕ → ℕ → List ℕ → Option ℕ → List Entry → Type 0
MayAddEntry limit old client number bytes covered new =
    (new ≡ old) ⊎ ((e : Entry) × (new ≡ old ++ e ∷ []) × IsEntryFor client number bytes covered e × HasRoom limit old bytes)

-- the label's client is told a reply to its command
pub record IsLabelAnswered (limit : Limits) (before : Stage) (label number : ℕ) (bytes : List ℕ) (covered : Option ℕ) (after : Stage)
    : Type 0 where
  pub client : ℕ
  pub reply : List ℕ
  pub known : client_of before.holders label ≡ Some client
  pub entry : MayAddEntry limit.bytes before.history client number bytes covered after.history
  pub told : MayBeTold after.history limit client number bytes reply
  pub output : after.output ≡ before.output ++ reply_line label reply
  pub holders : after.holders ≡ before.holders

-- the label gets the next client, for which a journal of this limit has room
abbrev pub IsLabelOpened : ℕ → Stage → ℕ → Stage → Type 0
IsLabelOpened limit before label after = let client = (clients_of before.history).opened in
    HasRoomForClient limit before.history × (after ≡ record {
      history = before.history ++ open_entry client ∷ [];
      holders = before.holders ++ record { label = label; client = client } ∷ [];
      output = before.output;
    })

-- the label's client is closed
abbrev pub IsLabelClosed : Stage → ℕ → Stage → Type 0
IsLabelClosed before label after = (client : ℕ) × (client_of before.holders label ≡ Some client) × (after ≡ record {
  history = before.history ++ close_entry client ∷ [];
  holders = without_label label before.holders;
  output = before.output;
})

-- the label's client is told of a bad size, which has no entry
abbrev pub IsToldBadSize : Stage → ℕ → Stage → Type 0
IsToldBadSize before label after = (client : ℕ) × (client_of before.holders label ≡ Some client) × (after ≡ record {
  history = before.history;
  holders = before.holders;
  output = before.output ++ reply_line label (error_reply RC_COMMAND_SIZE);
})

abbrev pub Plays1 : Limits → Stage → Call → Stage → Type 0
Plays1 limit before (opening label) after = IsLabelOpened limit.bytes before label after
Plays1 limit before (command label number bytes covered) after = IsLabelAnswered limit before label number bytes covered after
Plays1 limit before (bad_size label) after = IsToldBadSize before label after
Plays1 limit before (closing label) after = IsLabelClosed before label after

-- within these limits the calls lead from a stage to another
abbrev pub PlaysTo : Limits → Stage → List Call → Stage → Type 0
PlaysTo limit before [] after = after ≡ before
PlaysTo limit before (call ∷ calls) after = (between : Stage) × Plays1 limit before call between × PlaysTo limit between calls after

abbrev pub at_start : Stage
at_start = record { history = []; holders = []; output = [] }

-- the history and the output are what the calls make: one entry or none for each
abbrev pub Plays : List Entry → Limits → List Call → List ℕ → Type 0
Plays history limit calls output =
    (holders : List LabelHolder) × PlaysTo limit at_start calls (record { history = history; holders = holders; output = output })
