-- What comes of one round of a reader: of the bytes that were pulled, and of a pull. What comes of all of them.
use Rattle.std.specs.Prelude.{◌≡◌, ℕ, false, List, [], ◌∷◌, ◌++◌, Option, Some}
use Rattle.tab_spec.specs.Count.{Rose}
use Rattle.tab_spec.specs.Frame.{bad, cancel, command, commands, frames, meets_bad_size}
use Rattle.tab_frame.specs.Framing.{GaveItem}
use Rattle.history_spec.specs.Cancels.{cancels}
use Rattle.connection_core.specs.declared.message.Ended.{Ended}
use Rattle.connection_core.specs.declared.message.Ended.TheVariants as ends
use Rattle.connection_core.specs.declared.message.Message.{Message}
use Rattle.connection_core.specs.declared.message.Message.TheVariants as messages
use Rattle.connection_core.specs.declared.intake.Round.{Round}
use Rattle.connection_core.specs.declared.intake.Round.TheVariants as rounds
use Rattle.connection_core.specs.Line.{messages_of}

-- what is gone from a source that tells what it has left
abbrev pub IsTakenFrom : (given left : Option (List ℕ)) (taken : List ℕ) → Type 0
IsTakenFrom given left taken = (all : List ℕ) → given ≡ Some all → (rest : List ℕ) × (left ≡ Some rest) × (all ≡ taken ++ rest)

-- ---- one round

-- neither a whole frame nor a bad size comes next
pub record HasNoFrame (kept : List ℕ) : Type 0 where
  pub none : (frames kept).items ≡ []
  pub sound : meets_bad_size kept ≡ false

-- a pull gave these bytes, some at least
pub record IsPulled (left left_new : Option (List ℕ)) (kept kept_new : List ℕ) : Type 0 where
  pub piece : List ℕ
  pub took : IsTakenFrom left left_new piece
  pub kept_is : kept_new ≡ kept ++ piece

-- no byte is left
abbrev pub IsAtEnd : (left left_new : Option (List ℕ)) → Type 0
IsAtEnd left left_new = (all : List ℕ) → left ≡ Some all → (all ≡ []) × (left_new ≡ Some [])

-- no more commands come
abbrev pub IsEnd : Ended → (left left_new : Option (List ℕ)) (kept : List ℕ) → Type 0
IsEnd ends.NoMore left left_new kept = HasNoFrame kept × IsAtEnd left left_new
IsEnd (ends.BadSize size) left left_new kept = (frames kept ≡ record { items = []; ending = bad size }) × (left_new ≡ left)
IsEnd ends.Fault left left_new kept = HasNoFrame kept × (left_new ≡ left)

-- what comes next of the bytes that were pulled, or where no frame is there, of a pull
abbrev pub IsRound : Round → (left left_new : Option (List ℕ)) (kept kept_new frame : List ℕ) → Type 0
IsRound rounds.Command left left_new kept kept_new frame = GaveItem (command frame) kept kept_new frame × (left_new ≡ left)
IsRound rounds.Cancel left left_new kept kept_new frame = GaveItem cancel kept kept_new frame × (left_new ≡ left)
IsRound rounds.Pulled left left_new kept kept_new frame = HasNoFrame kept × IsPulled left left_new kept kept_new
IsRound rounds.Nothing left left_new kept kept_new frame = HasNoFrame kept × ((kept_new ≡ kept) × (left_new ≡ left))
IsRound (rounds.End ended) left left_new kept kept_new frame = IsEnd ended left left_new kept

-- the source's fault count rises where a pull fails, and there alone
abbrev pub EndCounts : Ended → (faults faults_new : ℕ) → Type 0
EndCounts ends.NoMore faults faults_new = faults_new ≡ faults
EndCounts (ends.BadSize size) faults faults_new = faults_new ≡ faults
EndCounts ends.Fault faults faults_new = Rose faults faults_new

abbrev pub RoundCounts : Round → (faults faults_new : ℕ) → Type 0
RoundCounts rounds.Command faults faults_new = faults_new ≡ faults
RoundCounts rounds.Cancel faults faults_new = faults_new ≡ faults
RoundCounts rounds.Pulled faults faults_new = faults_new ≡ faults
RoundCounts rounds.Nothing faults faults_new = faults_new ≡ faults
RoundCounts (rounds.End ended) faults faults_new = EndCounts ended faults faults_new

-- ---- all rounds

-- what was taken, by why no more commands came
abbrev pub ReadsTo : Ended → (given : Option (List ℕ)) (taken : List ℕ) → Type 0
ReadsTo ends.NoMore given taken = (meets_bad_size taken ≡ false) × ((all : List ℕ) → given ≡ Some all → taken ≡ all)
ReadsTo (ends.BadSize size) given taken = (frames taken).ending ≡ bad size
ReadsTo ends.Fault given taken = meets_bad_size taken ≡ false

-- the commands of what was taken were sent, and at each cancel the word was raised to how many came before it
pub record HasSent (ended : Ended) (given left : Option (List ℕ)) (sent : List Message) (raised : List ℕ) : Type 0 where
  pub taken : List ℕ
  pub took : IsTakenFrom given left taken
  pub sent_is : sent ≡ messages_of (commands taken)
  pub raised_is : raised ≡ cancels taken
  pub ends : ReadsTo ended given taken

-- and then that no more come
pub record HasRead (ended : Ended) (given left : Option (List ℕ)) (sent : List Message) (raised : List ℕ) : Type 0 where
  pub before : List Message
  pub sent_is : sent ≡ before ++ messages.End ended ∷ []
  pub commands_sent : HasSent ended given left before raised
