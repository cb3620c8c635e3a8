-- What the worker of a connection makes of what it takes of the line.
use Rattle.std.specs.Prelude.{◌≡◌, ◌≤◌, ◌⊎◌, ℕ, Bool, List, [], ◌∷◌, ◌++◌, length, take, Option}
use Rattle.tab_spec.specs.Count.{Rose}
use Rattle.history_spec.specs.Entry.{Entry}
use Rattle.link_port.specs.Port.{at_end, with_more}
use Rattle.broker_lock.specs.Known.{Fixed}
use Rattle.broker_lock.specs.Pass.{PassView}
use Rattle.connection_core.specs.declared.ends.Ending.{Ending}
use Rattle.connection_core.specs.declared.ends.Ending.TheVariants as endings
use Rattle.connection_core.specs.declared.message.Ended.{Ended}
use Rattle.connection_core.specs.declared.message.Ended.TheVariants as ends
use Rattle.connection_core.specs.declared.message.Message.{Message}
use Rattle.connection_core.specs.declared.message.Message.TheVariants as messages
use Rattle.connection_core.specs.Line.{messages_of}
use Rattle.connection_core.specs.Links.{AnswersAll, AreEntriesFrom, AreRepliesFrom, CutsBadSize, CutsReply, DecideFrom, KnowsClient, TellsBadSize}

-- these commands were taken, and then these messages. Each of the commands was taken up and answered
pub record SoFar (pass : PassView) (client done : ℕ) (taken rest : List Message) (loaded : List ℕ) (written written_new : Option (List ℕ)) : Type 0 where
  pub list : List (List ℕ)
  pub output : List ℕ
  pub entries : List Entry
  pub taken_is : taken ≡ messages_of list ++ rest
  pub count : length list ≡ done
  pub serves : KnowsClient pass client done entries
  pub entries_are : AreEntriesFrom pass.fixed pass.front client 1 list entries
  pub replies : AreRepliesFrom pass.fixed pass.wrong pass.front client 1 list output
  pub loads : length loaded ≡ done
  pub decide : DecideFrom pass.front client 1 loaded
  pub written_is : written_new ≡ with_more written output

-- the same, but the last reply wasn't written to its end
pub record CutsShort (pass : PassView) (client done : ℕ) (taken : List Message) (loaded : List ℕ) (written written_new : Option (List ℕ)) : Type 0 where
  pub list : List (List ℕ)
  pub output : List ℕ
  pub entries : List Entry
  pub taken_is : taken ≡ messages_of list
  pub count : length list ≡ done
  pub serves : KnowsClient pass client done entries
  pub entries_are : AreEntriesFrom pass.fixed pass.front client 1 list entries
  pub cuts : CutsReply pass.fixed pass.wrong pass.front client done list output
  pub loads : length loaded ≡ done
  pub decide : DecideFrom pass.front client 1 loaded
  pub written_is : written_new ≡ with_more written output

-- some more commands were taken and dropped, and then the last message
pub record IsDrained (taken taken_new : List Message) : Type 0 where
  pub list : List (List ℕ)
  pub ended : Ended
  pub taken_is : taken_new ≡ taken ++ (messages_of list ++ messages.End ended ∷ [])

-- what was written, by how the worker ended and why no more commands came
abbrev pub WorksTo : Ending → Ended → Fixed → (wrong : Bool) → List Entry → (client done : ℕ) (list : List (List ℕ)) (output : List ℕ) → Type 0
WorksTo endings.EndOfInput ended fixed wrong history client done list output = (ended ≡ ends.NoMore) × AnswersAll fixed wrong history client done list output
WorksTo (endings.BadFrame size) ended fixed wrong history client done list output = (ended ≡ ends.BadSize size) × TellsBadSize fixed wrong history client done list output
WorksTo endings.ReadFault ended fixed wrong history client done list output = (ended ≡ ends.Fault) × AnswersAll fixed wrong history client done list output
WorksTo endings.WriteFault ended fixed wrong history client done list output =
    CutsReply fixed wrong history client done list output
    ⊎ ((size : ℕ) × (ended ≡ ends.BadSize size) × CutsBadSize fixed wrong history client done list output)
WorksTo endings.Memory ended fixed wrong history client done list output = ⊥
WorksTo (endings.JournalFull count limit) ended fixed wrong history client done list output = ⊥
WorksTo endings.Answer ended fixed wrong history client done list output = ⊥

-- what came of all messages
pub record HasWorked (ending : Ending) (pass : PassView) (client done : ℕ) (taken : List Message) (loaded : List ℕ) (written written_new : Option (List ℕ)) : Type 0 where
  pub list : List (List ℕ)
  pub ended : Ended
  pub output : List ℕ
  pub entries : List Entry
  pub taken_is : taken ≡ messages_of list ++ messages.End ended ∷ []
  pub within : done ≤ length list
  pub serves : KnowsClient pass client done entries
  pub entries_are : AreEntriesFrom pass.fixed pass.front client 1 (take done list) entries
  pub loads : length loaded ≡ done
  pub decide : DecideFrom pass.front client 1 loaded
  pub written_is : written_new ≡ with_more written output
  pub works : WorksTo ending ended pass.fixed pass.wrong pass.front client done list output

-- a sink is ended at once where it took no reply, and else not before the client is closed
abbrev pub ended_by : Ending → Option Bool → Option Bool
ended_by endings.EndOfInput ended = ended
ended_by (endings.BadFrame size) ended = ended
ended_by endings.ReadFault ended = ended
ended_by endings.WriteFault ended = at_end ended
ended_by endings.Memory ended = ended
ended_by (endings.JournalFull count limit) ended = ended
ended_by endings.Answer ended = ended

-- the sink's fault count rises where a write fails, and there alone
abbrev pub WorkCounts : Ending → (faults faults_new : ℕ) → Type 0
WorkCounts endings.EndOfInput faults faults_new = faults_new ≡ faults
WorkCounts (endings.BadFrame size) faults faults_new = faults_new ≡ faults
WorkCounts endings.ReadFault faults faults_new = faults_new ≡ faults
WorkCounts endings.WriteFault faults faults_new = Rose faults faults_new
WorkCounts endings.Memory faults faults_new = faults_new ≡ faults
WorkCounts (endings.JournalFull count limit) faults faults_new = faults_new ≡ faults
WorkCounts endings.Answer faults faults_new = faults_new ≡ faults
