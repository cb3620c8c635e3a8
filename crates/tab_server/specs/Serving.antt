-- What `serve` leaves: how its status, its connections, its journal and its output stand to what there was before it.
use Rattle.std.specs.Prelude.{◌≡◌, ◌⊎◌, ◌==◌, ℕ, Bool, true, false, IsTrue, List, [], ◌∷◌, length, Option, Some, None, MatchOption, if◌then◌else◌}
use Rattle.std.specs.List.{list_any}
use Rattle.tab_spec.specs.Count.{Rose}
use Rattle.device_spec.specs.Answers.{IsRight, IsWrongAnswer}
use Rattle.device_port.specs.Device.{asked_of, last_of}
use Rattle.link_port.specs.Port.{with_more}
use Rattle.history_spec.specs.Entry.{Entry}
use Rattle.history_spec.specs.AuditText.{audit_text}
use Rattle.audit_journal.specs.Text.{WroteFrontOf}
use Rattle.connection_core.specs.declared.ends.Ending.{Ending}
use Rattle.accept_loop.specs.Connections.{AreEnough, AreServed}
pub use Rattle.accept_loop.specs.Connections.{IsLinkDone}
use Rattle.link_pool.specs.Endings.{lacks_memory}
use Rattle.link_pool.specs.Services.{AreServedOnce}
use Rattle.tab_server.specs.declared.status.TheConstants.{ACCEPTOR_FAILED, DONE, NO_MEMORY, OUTPUT_FAILED, OUT_OF_RANGE, START_FAILED, WRONG_ANSWER}
use Rattle.tab_server.specs.Counts.{counts_line}
use Rattle.tab_server.specs.Status.{IsNumberOut}
use Rattle.tab_server.specs.Run.{After, Before, IsSoundRun}

-- ---- the text at the end

-- the line of counts of the connections and the journal, or the audit text if it is asked for
abbrev pub end_text : Bool → ℕ → List Entry → List ℕ
end_text audit links history = if audit then audit_text history else counts_line links history

-- it was written whole, and no write failed; or a front of it, up to a failed write, with the output's fault count then
abbrev pub WroteOr : Option ℕ → (text : List ℕ) (written written_new : Option (List ℕ)) (faults faults_new : ℕ) → Type 0
WroteOr None text written written_new faults faults_new = (written_new ≡ with_more written text) × (faults_new ≡ faults)
WroteOr (Some count) text written written_new faults faults_new =
    WroteFrontOf text written written_new × Rose faults faults_new × (count ≡ faults_new)

-- memory lacked before the first connection: none was accepted, and nothing was run or written
pub record AcceptedNobody {L M : Type 0} (before : Before) (after : After) (coming coming_new : Option (List L)) (history : List Entry) (links : List M) : Type 0 where
  pub nothing : history ≡ []
  pub nobody : links ≡ []
  pub same : coming_new ≡ coming
  pub unwritten : after.written ≡ before.written
  pub quiet : after.faults.output ≡ before.faults.output

-- How the text was written: whole, and then no write failed; or a front of it, up to a failed
-- write; or not at all, if memory lacked before the first connection.
abbrev pub WroteEnd : List ℕ → Type 0 → Before → After → ℕ → Type 0
WroteEnd text idle before after status =
    ((after.written ≡ with_more before.written text) × (after.faults.output ≡ before.faults.output))
    ⊎ (WroteFrontOf text before.written after.written × Rose before.faults.output after.faults.output
    × IsTrue (list_any (λ n. n == status) (ACCEPTOR_FAILED ∷ OUTPUT_FAILED ∷ WRONG_ANSWER ∷ [])))
    ⊎ ((status ≡ NO_MEMORY) × idle)

-- ---- statuses

-- the status, by the first of these that there is: the code of a wrong answer, the fault count of
-- an acceptor that failed, that of an output that failed, a connection that lacked memory
abbrev pub serve_status : (wrong accept output : Option ℕ) → (lacked : Bool) → ℕ
serve_status (Some code) accept output lacked = WRONG_ANSWER
serve_status None (Some count) output lacked = ACCEPTOR_FAILED
serve_status None None (Some count) lacked = OUTPUT_FAILED
serve_status None None None true = NO_MEMORY
serve_status None None None false = DONE

abbrev pub serve_detail : (wrong accept output : Option ℕ) → ℕ
serve_detail (Some code) accept output = code
serve_detail None (Some count) output = count
serve_detail None None (Some count) = count
serve_detail None None None = 0

-- When each status comes. 7 goes before 3, 3 before 4, and 4 before 5. `accept` is the acceptor's fault count before, and
-- `accept_new` the one after.
pub record ServeCause (before : Before) (after : After) (accept accept_new status detail : ℕ) : Type 0 where
  pub known : IsTrue (list_any (λ n. n == status) (DONE ∷ ACCEPTOR_FAILED ∷ OUTPUT_FAILED ∷ NO_MEMORY ∷ START_FAILED ∷ WRONG_ANSWER ∷ OUT_OF_RANGE ∷ []))
  pub plain : (status ≡ DONE) ⊎ (status ≡ NO_MEMORY) → detail ≡ 0
  pub accepting : status ≡ ACCEPTOR_FAILED → Rose accept accept_new × (detail ≡ accept_new)
  pub accepted : (status ≡ ACCEPTOR_FAILED → ⊥) → (status ≡ WRONG_ANSWER → ⊥) → accept_new ≡ accept
  pub output : status ≡ OUTPUT_FAILED → Rose before.faults.output after.faults.output × (detail ≡ after.faults.output)
  pub start : status ≡ START_FAILED → Rose before.faults.device after.faults.device × (detail ≡ after.faults.device)
  pub answer : status ≡ WRONG_ANSWER → IsWrongAnswer before.contexts (asked_of after.seen) (last_of after.seen) detail × (after.seen.state ≡ None)
  pub numbers : status ≡ OUT_OF_RANGE → IsNumberOut detail (asked_of after.seen) (last_of after.seen) after.seen.state

-- What is told in the end, behind the text: by the code of a wrong answer, the acceptor's fault count where it failed, and
-- whether memory lacked. `output` is the output's fault count, where that failed.
pub record TellsEnd (wrong accept : Option ℕ) (lacked : Bool) (text : List ℕ) (written written_new : Option (List ℕ)) (faults faults_new status detail : ℕ) : Type 0 where
  pub output : Option ℕ
  pub wrote : WroteOr output text written written_new faults faults_new
  pub status_is : status ≡ serve_status wrong accept output lacked
  pub detail_is : detail ≡ serve_detail wrong accept output

-- ---- all of it

-- What `serve` leaves if the broker began. `are_served` is what became of all connections by the
-- journal at the end.
pub record LeavesLinks {L M : Type 0} (are_served : List Entry → List M → Type 0) (ending_of : M → Ending) (audit : Bool) (most : ℕ)
    (before : Before) (after : After) (coming coming_new : Option (List L)) (status : ℕ) (history : List Entry) (links : List M) : Type 0 where
  pub served : are_served history links
  -- As many were accepted as were asked for, or all that came.
  pub enough : (status ≡ DONE) ⊎ (status ≡ OUTPUT_FAILED) → AreEnough most coming_new links
  pub text : WroteEnd (end_text audit (length links) history) (AcceptedNobody before after coming coming_new history links) before after status
  -- A connection that lacked memory is told, and 5 comes where there was one, or where nobody was accepted.
  pub memory : status ≡ DONE → list_any (λ link. lacks_memory (ending_of link)) links ≡ false
  pub lacked : status ≡ NO_MEMORY → AcceptedNobody before after coming coming_new history links
      ⊎ ((list_any (λ link. lacks_memory (ending_of link)) links ≡ true) × AreEnough most coming_new links)
  -- No wrong answer was taken for an answer.
  pub right : (status ≡ WRONG_ANSWER → ⊥) → IsRight before.contexts (asked_of after.seen) (last_of after.seen)

-- if the broker didn't begin: no connection was accepted, and nothing was written
pub record IsUnserved {L M : Type 0} (before : Before) (after : After) (coming coming_new : Option (List L)) (accept accept_new status : ℕ) (links : List M) : Type 0 where
  pub nobody : links ≡ []
  pub same : coming_new ≡ coming
  pub accepted : accept_new ≡ accept
  pub unwritten : after.written ≡ before.written
  pub quiet : after.faults.output ≡ before.faults.output
  pub starts : IsTrue (list_any (λ n. n == status) (NO_MEMORY ∷ START_FAILED ∷ WRONG_ANSWER ∷ OUT_OF_RANGE ∷ []))

-- What `serve` leaves: its connections, and the journal if the broker began.
pub record LeavesServed {L M : Type 0} (are_served : List Entry → List M → Type 0) (ending_of : M → Ending) (audit : Bool) (most : ℕ)
    (before : Before) (after : After) (coming coming_new : Option (List L)) (accept accept_new status detail : ℕ) (journal : Option (List Entry)) (links : List M) : Type 0 where
  pub sound : IsSoundRun before after status journal
  pub links_are : MatchOption journal (IsUnserved before after coming coming_new accept accept_new status links)
      (λ history. LeavesLinks are_served ending_of audit most before after coming coming_new status history links)
  pub cause : ServeCause before after accept accept_new status detail
  -- The input isn't read.
  pub unread : (after.left ≡ before.left) × (after.faults.input ≡ before.faults.input)

-- The first connections that came were served. `is_link` is what became of each by the journal at the end: it has its commands in
-- the journal once and in order, and was written what they were told. The journal has no other client. That the device gave a wrong
-- answer is told to connections only where the status says so.
abbrev pub LeavesServe : {L M : Type 0} → (is_link : (wrong : Bool) → List Entry → L → M → Type 0) → (client_of : M → Option ℕ) → (ending_of : M → Ending) → (audit : Bool) → (most : ℕ)
    → (before : Before) → (after : After) → (coming coming_new : Option (List L)) → (accept accept_new status detail : ℕ) → (journal : Option (List Entry)) → (links : List M) → Type 0
LeavesServe is_link client_of ending_of audit most before after coming coming_new accept accept_new status detail journal links =
    LeavesServed (λ history served. AreServed (is_link (status == WRONG_ANSWER) history) client_of history coming coming_new most served) ending_of audit most
    before after coming coming_new accept accept_new status detail journal links

-- The same if nothing is kept of a connection that is over: the connections are a list that only
-- contracts see, in no order.
abbrev pub LeavesPool : {L M : Type 0} → (is_link : (wrong : Bool) → List Entry → M → Type 0) → (given_of : M → L) → (client_of : M → Option ℕ) → (ending_of : M → Ending) → (audit : Bool) → (most : ℕ)
    → (before : Before) → (after : After) → (coming coming_new : Option (List L)) → (accept accept_new status detail : ℕ) → (journal : Option (List Entry)) → (links : List M) → Type 0
LeavesPool is_link given_of client_of ending_of audit most before after coming coming_new accept accept_new status detail journal links =
    LeavesServed (λ history served. AreServedOnce (is_link (status == WRONG_ANSWER) history) given_of client_of history coming coming_new most served) ending_of audit most
    before after coming coming_new accept accept_new status detail journal links
