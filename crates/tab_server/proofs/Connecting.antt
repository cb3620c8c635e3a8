-- What `serve` leaves, by what its parts tell.
use Rattle.std.proofs.Common.{◌≡◌, ◌∙◌, eqb-true, ℕ, Bool, true, false, List, [], Option, Some, None, Result, Ok, Err, refl, sym, ap, subst, inl, inr, ⊎_elim, arith}
use Rattle.std.specs.Prelude.{◌⊎◌, ◌==◌, ◌≤◌, ◌∷◌, ◌||◌, is_some, length, IfNone, IfSome, IsSome, IsTrue, OnOk}
use Rattle.std.specs.List.{list_any}
use Rattle.std.specs.Option.{option_map}
use Rattle.tab_spec.specs.Count.{Rose}
use Rattle.device_spec.specs.Slots.{SlotState}
use Rattle.device_spec.specs.Answers.{IsWrongAnswer}
use Rattle.device_port.specs.Device.{Seen, asked_of, last_of}
use Rattle.history_spec.specs.Entry.{Entry}
use Rattle.broker_lock.specs.Known.{Fixed}
use Rattle.connection_core.specs.declared.ends.Ending.{Ending}
use Rattle.accept_loop.specs.Connections.{AreEnough, AreServed}
use Rattle.link_pool.specs.Endings.{lacks_memory}
use Rattle.link_pool.specs.Services.{AreServedOnce, IsEnough}
use Rattle.tab_server.specs.Status.{IsOfStart}
use Rattle.tab_server.specs.Run.{After, Before, IsEnded, Leaves, after_of, before_of}
use Rattle.tab_server.specs.Serving.{AcceptedNobody, LeavesPool, LeavesServe, LeavesServed, ServeCause, TellsEnd, WroteEnd, WroteOr, end_text, serve_detail, serve_status}

-- whether the acceptor failed, with its fault count then
abbrev pub AcceptOr : Option ℕ → (faults faults_new : ℕ) → Type 0
AcceptOr None faults faults_new = faults_new ≡ faults
AcceptOr (Some count) faults faults_new = Rose faults faults_new × (count ≡ faults_new)

-- a device that shows its state gave no wrong answer
untold : (state : Option SlotState) (code : ℕ) → (IsSome state → ◌≡◌ {A = Option ℕ} (Some code) None) → state ≡ None
untold None code taken = refl
untold (Some slots) code taken = absurd (let none : ◌≡◌ {A = Option ℕ} (Some code) None = taken refl in cc)

cause_of : (wrong accept output : Option ℕ) (lacked : Bool) (text : List ℕ) (before : Before) (after : After) (accepted accepted_new : ℕ)
    → WroteOr output text before.written after.written before.faults.output after.faults.output → AcceptOr accept accepted accepted_new → IfSome wrong (IsWrongAnswer before.contexts (asked_of after.seen) (last_of after.seen)) → (IsSome after.seen.state → wrong ≡ None)
    → ServeCause before after accepted accepted_new (serve_status wrong accept output lacked) (serve_detail wrong accept output)
cause_of (Some code) accept output lacked text before after accepted accepted_new wrote has answer taken = record {
  known = refl;
  plain = λ is. elim is [ inl zero ↦ absurd (omega arith) | inr five ↦ absurd (omega arith) ];
  accepting = λ is. absurd (omega arith);
  accepted = λ three seven. absurd (seven refl);
  output = λ is. absurd (omega arith);
  start = λ is. absurd (omega arith);
  answer = λ is. (answer, untold after.seen.state code taken);
  numbers = λ is. absurd (omega arith);
}
cause_of None (Some count) output lacked text before after accepted accepted_new wrote has answer taken = record {
  known = refl;
  plain = λ is. elim is [ inl zero ↦ absurd (omega arith) | inr five ↦ absurd (omega arith) ];
  accepting = λ is. has;
  accepted = λ three seven. absurd (three refl);
  output = λ is. absurd (omega arith);
  start = λ is. absurd (omega arith);
  answer = λ is. absurd (omega arith);
  numbers = λ is. absurd (omega arith);
}
cause_of None None (Some count) lacked text before after accepted accepted_new wrote has answer taken = record {
  known = refl;
  plain = λ is. elim is [ inl zero ↦ absurd (omega arith) | inr five ↦ absurd (omega arith) ];
  accepting = λ is. absurd (omega arith);
  accepted = λ three seven. has;
  output = λ is. (wrote.1, wrote.2);
  start = λ is. absurd (omega arith);
  answer = λ is. absurd (omega arith);
  numbers = λ is. absurd (omega arith);
}
cause_of None None None true text before after accepted accepted_new wrote has answer taken = record {
  known = refl;
  plain = λ is. refl;
  accepting = λ is. absurd (omega arith);
  accepted = λ three seven. has;
  output = λ is. absurd (omega arith);
  start = λ is. absurd (omega arith);
  answer = λ is. absurd (omega arith);
  numbers = λ is. absurd (omega arith);
}
cause_of None None None false text before after accepted accepted_new wrote has answer taken = record {
  known = refl;
  plain = λ is. refl;
  accepting = λ is. absurd (omega arith);
  accepted = λ three seven. has;
  output = λ is. absurd (omega arith);
  start = λ is. absurd (omega arith);
  answer = λ is. absurd (omega arith);
  numbers = λ is. absurd (omega arith);
}

wrote_end : (wrong accept output : Option ℕ) (lacked : Bool) (text : List ℕ) (idle : Type 0) (before : Before) (after : After) → WroteOr output text before.written after.written before.faults.output after.faults.output
    → WroteEnd text idle before after (serve_status wrong accept output lacked)
wrote_end wrong accept None lacked text idle before after wrote = inl wrote
wrote_end (Some code) accept (Some count) lacked text idle before after wrote = inr (inl (wrote.0, wrote.1, refl))
wrote_end None (Some at) (Some count) lacked text idle before after wrote = inr (inl (wrote.0, wrote.1, refl))
wrote_end None None (Some count) lacked text idle before after wrote = inr (inl (wrote.0, wrote.1, refl))

-- where the acceptor failed, the status is that of a wrong answer or its own
no_failure : (wrong accept output : Option ℕ) (lacked : Bool) → (serve_status wrong accept output lacked ≡ 0) ⊎ (serve_status wrong accept output lacked ≡ 4) → accept ≡ None
no_failure (Some code) accept output lacked (inl is) = absurd (omega arith)
no_failure (Some code) accept output lacked (inr is) = absurd (omega arith)
no_failure None (Some count) output lacked (inl is) = absurd (omega arith)
no_failure None (Some count) output lacked (inr is) = absurd (omega arith)
no_failure None None output lacked is = refl

at_0 : (wrong accept output : Option ℕ) (lacked : Bool) → serve_status wrong accept output lacked ≡ 0 → lacked ≡ false
at_0 (Some code) accept output lacked is = absurd (omega arith)
at_0 None (Some count) output lacked is = absurd (omega arith)
at_0 None None (Some count) lacked is = absurd (omega arith)
at_0 None None None true is = absurd (omega arith)
at_0 None None None false is = refl

at_5 : (wrong accept output : Option ℕ) (lacked : Bool) → serve_status wrong accept output lacked ≡ 5 → (lacked ≡ true) × (accept ≡ None)
at_5 (Some code) accept output lacked is = absurd (omega arith)
at_5 None (Some count) output lacked is = absurd (omega arith)
at_5 None None (Some count) lacked is = absurd (omega arith)
at_5 None None None true is = (refl, refl)
at_5 None None None false is = absurd (omega arith)

not_7 : (wrong accept output : Option ℕ) (lacked : Bool) → (serve_status wrong accept output lacked ≡ 7 → ⊥) → wrong ≡ None
not_7 (Some code) accept output lacked not = absurd (not refl)
not_7 None accept output lacked not = refl

never_start : (wrong accept output : Option ℕ) (lacked : Bool) → (serve_status wrong accept output lacked ≡ 6) ⊎ (serve_status wrong accept output lacked ≡ 11) → ⊥
never_start (Some code) accept output lacked = ⊎_elim (λ is. omega arith) (λ is. omega arith)
never_start None (Some count) output lacked = ⊎_elim (λ is. omega arith) (λ is. omega arith)
never_start None None (Some count) lacked = ⊎_elim (λ is. omega arith) (λ is. omega arith)
never_start None None None true = ⊎_elim (λ is. omega arith) (λ is. omega arith)
never_start None None None false = ⊎_elim (λ is. omega arith) (λ is. omega arith)

module _ {L M : Type 0} (are_served : List Entry → List M → Type 0) (ending_of : M → Ending) (audit : Bool) (most : ℕ) (before : Before) (after : After) (coming coming_new : Option (List L)) (accepted accepted_new : ℕ) where
  served_by : (wrong accept output : Option ℕ) (history : List Entry) (links : List M)
      → IsEnded before.contexts before.base before.faults.device after.seen wrong history
      → WroteOr output (end_text audit (length links) history) before.written after.written before.faults.output after.faults.output
      → AcceptOr accept accepted accepted_new → are_served history links → (accept ≡ None → AreEnough most coming_new links)
      → (after.left ≡ before.left) × (after.faults.input ≡ before.faults.input)
      → LeavesServed are_served ending_of audit most before after coming coming_new accepted accepted_new
      (serve_status wrong accept output (list_any (λ link. lacks_memory (ending_of link)) links)) (serve_detail wrong accept output) (Some history) links
  served_by wrong accept output history links ended wrote has served enough unread =
      let lacked = list_any (λ link. lacks_memory (ending_of link)) links in
      record {
        sound = record {
          legal = ended.legal;
          faulted = ended.faulted;
          replies = ended.replies;
          right = λ is. ended.right (not_7 wrong accept output lacked (λ seven. omega (arith, is, seven)));
          begun = λ is. absurd (never_start wrong accept output lacked is);
          base = ended.base_is;
          held = ended.holds;
        };
        links_are = record {
          served = served;
          enough = λ is. enough (no_failure wrong accept output lacked is);
          text = wrote_end wrong accept output lacked (end_text audit (length links) history) _ before after wrote;
          memory = λ is. at_0 wrong accept output lacked is;
          lacked = λ is. let at = at_5 wrong accept output lacked is in inr (at.0, enough at.1);
          right = λ not. ended.right (not_7 wrong accept output lacked not);
        };
        cause = cause_of wrong accept output lacked (end_text audit (length links) history) before after accepted accepted_new wrote has ended.answer ended.taken;
        unread = unread;
      }

  -- connections were served, and the text written
  pub leaves_served : (wrong accept : Option ℕ) (status detail : ℕ) (history : List Entry) (links : List M)
      → IsEnded before.contexts before.base before.faults.device after.seen wrong history
      → TellsEnd wrong accept (list_any (λ link. lacks_memory (ending_of link)) links) (end_text audit (length links) history) before.written after.written before.faults.output after.faults.output status detail
      → AcceptOr accept accepted accepted_new → are_served history links → (accept ≡ None → AreEnough most coming_new links)
      → (after.left ≡ before.left) × (after.faults.input ≡ before.faults.input)
      → LeavesServed are_served ending_of audit most before after coming coming_new accepted accepted_new status detail (Some history) links
  leaves_served wrong accept status detail history links ended told has served enough unread =
      rw (told.status_is, told.detail_is) (served_by wrong accept told.output history links ended told.wrote has served enough unread)

  -- memory lacked before the first connection
  pub leaves_idle : (history : List Entry) (links : List M)
      → IsEnded before.contexts before.base before.faults.device after.seen None history
      → are_served history links
      → AcceptedNobody before after coming coming_new history links → accepted_new ≡ accepted → (after.left ≡ before.left) × (after.faults.input ≡ before.faults.input)
      → LeavesServed are_served ending_of audit most before after coming coming_new accepted accepted_new 5 0 (Some history) links
  leaves_idle history links ended served idle same unread = record {
    sound = record {
      legal = ended.legal;
      faulted = ended.faulted;
      replies = ended.replies;
      right = λ is. absurd (omega arith);
      begun = λ is. elim is [ inl six ↦ absurd (omega arith) | inr eleven ↦ absurd (omega arith) ];
      base = ended.base_is;
      held = ended.holds;
    };
    links_are = record {
      served = served;
      enough = λ is. elim is [ inl zero ↦ absurd (omega arith) | inr four ↦ absurd (omega arith) ];
      text = inr (inr (refl, idle));
      memory = λ is. absurd (omega arith);
      lacked = λ is. inl idle;
      right = λ not. ended.right refl;
    };
    cause = record {
      known = refl;
      plain = λ is. refl;
      accepting = λ is. absurd (omega arith);
      accepted = λ three seven. same;
      output = λ is. absurd (omega arith);
      start = λ is. absurd (omega arith);
      answer = λ is. absurd (omega arith);
      numbers = λ is. absurd (omega arith);
    };
    unread = unread;
  }

-- ---- what an answer tells

pub ok_of : {X E T : Type 0} (r : Result X E) (x : X) → r ≡ Ok x → OnOk r T → T
ok_of (Ok y) x is all = all
ok_of (Err e) x is all = absurd (let no : Err e ≡ Ok x = is in cc)

pub err_of : {X E : Type 0} (r : Result X E) (e f : E) → r ≡ Err e → e ≡ f → r ≡ Err f
err_of {X} {E} r e f is same = subst (λ (x : E). r ≡ Err x) same is

-- as many as were asked for, or all that came, by their count
pub enough_links : {L M : Type 0} (most count : ℕ) (coming_new : Option (List L)) (links : List M) → count ≡ length links → IsEnough most count coming_new → AreEnough most coming_new links
enough_links most count coming_new links is enough = subst (λ (n : ℕ). IsEnough most n coming_new) is enough

-- what is told of all connections, by their count and whether one of them lacked memory
pub told_of : {M : Type 0} (ending_of : M → Ending) (wrong accept : Option ℕ) (lacked : Bool) (count : ℕ) (links : List M) (audit : Bool) (history : List Entry) (written written_new : Option (List ℕ)) (faults faults_new status detail : ℕ)
    → lacked ≡ list_any (λ link. lacks_memory (ending_of link)) links → count ≡ length links
    → TellsEnd wrong accept lacked (end_text audit count history) written written_new faults faults_new status detail
    → TellsEnd wrong accept (list_any (λ link. lacks_memory (ending_of link)) links) (end_text audit (length links) history) written written_new faults faults_new status detail
told_of ending_of wrong accept lacked count links audit history written written_new faults faults_new status detail lacks is told =
    subst (λ (n : ℕ). TellsEnd wrong accept (list_any (λ link. lacks_memory (ending_of link)) links) (end_text audit n history) written written_new faults faults_new status detail) is
    (subst (λ (b : Bool). TellsEnd wrong accept b (end_text audit count history) written written_new faults faults_new status detail) lacks told)

-- ---- what connections are told of a wrong answer

by_status : (wrong accept output : Option ℕ) (lacked : Bool) → is_some wrong ≡ (serve_status wrong accept output lacked == 7)
by_status (Some code) accept output lacked = refl
by_status None (Some count) output lacked = refl
by_status None None (Some count) lacked = refl
by_status None None None true = refl
by_status None None None false = refl

-- the status says whether one came
pub wrong_told : (wrong found accept : Option ℕ) (lacked : Bool) (text : List ℕ) (written written_new : Option (List ℕ)) (faults faults_new status detail : ℕ) → found ≡ wrong
    → TellsEnd found accept lacked text written written_new faults faults_new status detail → is_some wrong ≡ (status == 7)
wrong_told wrong found accept lacked text written written_new faults faults_new status detail is told =
    ap is_some (sym is) ∙ by_status found accept told.output lacked ∙ ap (λ (n : ℕ). n == 7) (sym told.status_is)

pub served_told : {L M : Type 0} (is_link : Bool → List Entry → L → M → Type 0) (client_of : M → Option ℕ) (wrong told : Bool) (history : List Entry) (coming coming_new : Option (List L)) (most : ℕ) (links : List M) → wrong ≡ told
    → AreServed (is_link wrong history) client_of history coming coming_new most links → AreServed (is_link told history) client_of history coming coming_new most links
served_told is_link client_of wrong told history coming coming_new most links same served =
    subst (λ (b : Bool). AreServed (is_link b history) client_of history coming coming_new most links) same served

pub pool_told : {L M : Type 0} (is_link : Bool → List Entry → M → Type 0) (given_of : M → L) (client_of : M → Option ℕ) (wrong told : Bool) (history : List Entry) (coming coming_new : Option (List L)) (most : ℕ) (links : List M) → wrong ≡ told
    → AreServedOnce (is_link wrong history) given_of client_of history coming coming_new most links → AreServedOnce (is_link told history) given_of client_of history coming coming_new most links
pool_told is_link given_of client_of wrong told history coming coming_new most links same served =
    subst (λ (b : Bool). AreServedOnce (is_link b history) given_of client_of history coming coming_new most links) same served

-- ---- over a device, by what the calls tell

abbrev over : Fixed → (left written : Option (List ℕ)) (input output : ℕ) → Before
over fixed left written input output = before_of fixed.contexts fixed.base fixed.began left input written output

module _ {D : Type 0} (seen : D → Seen) where
  abbrev left_by : D → (left written : Option (List ℕ)) (input output : ℕ) → After
  left_by device left written input output = after_of (seen device) left input written output

  -- connections were served
  pub leaves_finished : {L M J : Type 0} (entries : J → List Entry) (are_served : List Entry → List M → Type 0) (ending_of : M → Ending) (audit : Bool) (most : ℕ) (fixed value_fixed : Fixed)
      (left : Option (List ℕ)) (input : ℕ) (written written_new : Option (List ℕ)) (output output_new : ℕ) (coming coming_new : Option (List L)) (accepted accepted_new status detail : ℕ) (wrong accept : Option ℕ)
      (device ran_device : D) (history : List Entry) (journal : J) (ran_journal : Option J) (links ran_links : List M)
      → value_fixed ≡ fixed → entries journal ≡ history → ran_device ≡ device → ran_journal ≡ Some journal → ran_links ≡ links
      → IsEnded value_fixed.contexts value_fixed.base value_fixed.began (seen device) wrong (entries journal)
      → TellsEnd wrong accept (list_any (λ link. lacks_memory (ending_of link)) links) (end_text audit (length links) (entries journal)) written written_new output output_new status detail
      → AcceptOr accept accepted accepted_new → are_served history links → (accept ≡ None → AreEnough most coming_new links)
      → LeavesServed are_served ending_of audit most (over fixed left written input output) (left_by ran_device left written_new input output_new) coming coming_new accepted accepted_new status detail
      (option_map entries ran_journal) ran_links
  leaves_finished {L} {M} {J} entries are_served ending_of audit most fixed value_fixed left input written written_new output output_new coming coming_new accepted accepted_new status detail wrong accept
      device ran_device history journal ran_journal links ran_links fixed_is journal_is device_is ran_is links_are ended told has served enough =
      subst (λ (d : D). LeavesServed are_served ending_of audit most (over fixed left written input output) (left_by d left written_new input output_new) coming coming_new accepted accepted_new status detail
      (option_map entries ran_journal) ran_links) (sym device_is)
      (subst (λ (j : Option J). LeavesServed are_served ending_of audit most (over fixed left written input output) (left_by device left written_new input output_new) coming coming_new accepted accepted_new status detail
      (option_map entries j) ran_links) (sym ran_is)
      (subst (λ (l : List M). LeavesServed are_served ending_of audit most (over fixed left written input output) (left_by device left written_new input output_new) coming coming_new accepted accepted_new status detail
      (Some (entries journal)) l) (sym links_are)
      (leaves_served are_served ending_of audit most (over fixed left written input output) (left_by device left written_new input output_new) coming coming_new accepted accepted_new wrong accept status detail
      (entries journal) links
      (subst (λ (f : Fixed). IsEnded f.contexts f.base f.began (seen device) wrong (entries journal)) fixed_is ended)
      told has (subst (λ (h : List Entry). are_served h links) (sym journal_is) served) enough (refl, refl))))

  -- memory lacked before the first connection
  pub leaves_lacking : {L M : Type 0} (are_served : List Entry → List M → Type 0) (ending_of : M → Ending) (audit : Bool) (most : ℕ) (fixed value_fixed : Fixed)
      (left : Option (List ℕ)) (input : ℕ) (written : Option (List ℕ)) (output : ℕ) (coming coming_new : Option (List L)) (accepted accepted_new : ℕ) (wrong : Option ℕ) (device : D)
      (value_history history : List Entry) (links : List M)
      → value_fixed ≡ fixed → history ≡ value_history → value_history ≡ [] → links ≡ [] → coming_new ≡ coming → accepted_new ≡ accepted → wrong ≡ None
      → IsEnded value_fixed.contexts value_fixed.base value_fixed.began (seen device) wrong history
      → are_served value_history links
      → LeavesServed are_served ending_of audit most (over fixed left written input output) (left_by device left written input output) coming coming_new accepted accepted_new 5 0 (Some history) links
  leaves_lacking {L} {M} are_served ending_of audit most fixed value_fixed left input written output coming coming_new accepted accepted_new wrong device value_history history links
      fixed_is journal_is empty none same stays right ended served =
      leaves_idle are_served ending_of audit most (over fixed left written input output) (left_by device left written input output) coming coming_new accepted accepted_new history links
      (subst (λ (w : Option ℕ). IsEnded fixed.contexts fixed.base fixed.began (seen device) w history) right
      (subst (λ (f : Fixed). IsEnded f.contexts f.base f.began (seen device) wrong history) fixed_is ended))
      (subst (λ (h : List Entry). are_served h links) (sym journal_is) served)
      (record { nothing = journal_is ∙ empty; nobody = none; same = same; unwritten = refl; quiet = refl }) stays (refl, refl)

-- the same, where what the journal stands on is told in other words
leaves_over : {L M : Type 0} (are_served : Fixed → List Entry → List M → Type 0) (ending_of : M → Ending) (audit : Bool) (most : ℕ) (fixed other : Fixed) (left written : Option (List ℕ)) (input output : ℕ)
    (after : After) (coming coming_new : Option (List L)) (accepted accepted_new status detail : ℕ) (journal : Option (List Entry)) (links : List M) → fixed ≡ other
    → LeavesServed (are_served fixed) ending_of audit most (over fixed left written input output) after coming coming_new accepted accepted_new status detail journal links
    → LeavesServed (are_served other) ending_of audit most (over other left written input output) after coming coming_new accepted accepted_new status detail journal links
leaves_over are_served ending_of audit most fixed other left written input output after coming coming_new accepted accepted_new status detail journal links same left_is =
    subst (λ (f : Fixed). LeavesServed (are_served f) ending_of audit most (over f left written input output) after coming coming_new accepted accepted_new status detail journal links) same left_is

pub links_over : {L M : Type 0} (is_link : Fixed → Bool → List Entry → L → M → Type 0) (client_of : M → Option ℕ) (ending_of : M → Ending) (audit : Bool) (most : ℕ) (fixed other : Fixed) (left written : Option (List ℕ)) (input output : ℕ)
    (after : After) (coming coming_new : Option (List L)) (accepted accepted_new status detail : ℕ) (journal : Option (List Entry)) (links : List M) → fixed ≡ other
    → LeavesServe (is_link fixed) client_of ending_of audit most (over fixed left written input output) after coming coming_new accepted accepted_new status detail journal links
    → LeavesServe (is_link other) client_of ending_of audit most (over other left written input output) after coming coming_new accepted accepted_new status detail journal links
links_over is_link client_of ending_of audit most fixed other left written input output after coming coming_new accepted accepted_new status detail journal links =
    leaves_over (λ f history served. AreServed (is_link f (status == 7) history) client_of history coming coming_new most served) ending_of audit most fixed other left written input output after coming coming_new accepted accepted_new status detail journal links

pub pool_over : {L M : Type 0} (is_link : Fixed → Bool → List Entry → M → Type 0) (given_of : M → L) (client_of : M → Option ℕ) (ending_of : M → Ending) (audit : Bool) (most : ℕ) (fixed other : Fixed) (left written : Option (List ℕ)) (input output : ℕ)
    (after : After) (coming coming_new : Option (List L)) (accepted accepted_new status detail : ℕ) (journal : Option (List Entry)) (links : List M) → fixed ≡ other
    → LeavesPool (is_link fixed) given_of client_of ending_of audit most (over fixed left written input output) after coming coming_new accepted accepted_new status detail journal links
    → LeavesPool (is_link other) given_of client_of ending_of audit most (over other left written input output) after coming coming_new accepted accepted_new status detail journal links
pool_over is_link given_of client_of ending_of audit most fixed other left written input output after coming coming_new accepted accepted_new status detail journal links =
    leaves_over (λ f history served. AreServedOnce (is_link f (status == 7) history) given_of client_of history coming coming_new most served) ending_of audit most fixed other left written input output after coming coming_new accepted accepted_new status detail journal links

-- ---- where the broker began, and where it didn't

pub journal_there : {J : Type 0} (P : Type 0) (journal : Option J) → IsSome journal → IfNone journal P
journal_there P None there = absurd (let no : false ≡ true = there in cc)
journal_there P (Some entries) there = tt

same_number : (n m : ℕ) → (n == m) ≡ true → m ≡ n
same_number n m is = sym (eqb-true n m is)

one_of : (a b c d : Bool) → (a || (b || (c || (d || false)))) ≡ true → (a ≡ true) ⊎ ((b ≡ true) ⊎ ((c ≡ true) ⊎ (d ≡ true)))
one_of true b c d is = inl refl
one_of false true c d is = inr (inl refl)
one_of false false true d is = inr (inr (inl refl))
one_of false false false true is = inr (inr (inr refl))
one_of false false false false is = absurd cc

without_first : (a : Bool) (rest : Bool) → (a ≡ true → ⊥) → (a || rest) ≡ true → rest ≡ true
without_first true rest not is = absurd (not refl)
without_first false rest not is = is

abbrev IsStart : ℕ → Type 0
IsStart status = (status ≡ 5) ⊎ ((status ≡ 6) ⊎ ((status ≡ 7) ⊎ (status ≡ 11)))

start_of : (status : ℕ) → ((5 == status) ≡ true) ⊎ (((6 == status) ≡ true) ⊎ (((7 == status) ≡ true) ⊎ ((11 == status) ≡ true))) → IsStart status
start_of status (inl five) = inl (same_number 5 status five)
start_of status (inr (inl six)) = inr (inl (same_number 6 status six))
start_of status (inr (inr (inl seven))) = inr (inr (inl (same_number 7 status seven)))
start_of status (inr (inr (inr eleven))) = inr (inr (inr (same_number 11 status eleven)))

known_of : (status : ℕ) → IsStart status → IsTrue (list_any (λ n. n == status) (0 ∷ 3 ∷ 4 ∷ 5 ∷ 6 ∷ 7 ∷ 11 ∷ []))
known_of status (inl five) = subst (λ (m : ℕ). IsTrue (list_any (λ n. n == m) (0 ∷ 3 ∷ 4 ∷ 5 ∷ 6 ∷ 7 ∷ 11 ∷ []))) (sym five) refl
known_of status (inr (inl six)) = subst (λ (m : ℕ). IsTrue (list_any (λ n. n == m) (0 ∷ 3 ∷ 4 ∷ 5 ∷ 6 ∷ 7 ∷ 11 ∷ []))) (sym six) refl
known_of status (inr (inr (inl seven))) = subst (λ (m : ℕ). IsTrue (list_any (λ n. n == m) (0 ∷ 3 ∷ 4 ∷ 5 ∷ 6 ∷ 7 ∷ 11 ∷ []))) (sym seven) refl
known_of status (inr (inr (inr eleven))) = subst (λ (m : ℕ). IsTrue (list_any (λ n. n == m) (0 ∷ 3 ∷ 4 ∷ 5 ∷ 6 ∷ 7 ∷ 11 ∷ []))) (sym eleven) refl

not_below : (status : ℕ) → IsStart status → 5 ≤ status
not_below status (inl five) = omega (arith, five)
not_below status (inr (inl six)) = omega (arith, six)
not_below status (inr (inr (inl seven))) = omega (arith, seven)
not_below status (inr (inr (inr eleven))) = omega (arith, eleven)

pub never_2 : (limit : ℕ) (audit : Bool) (before : Before) (after : After) (status detail : ℕ) → Leaves limit audit before after status detail None → status ≡ 2 → ⊥
never_2 limit audit before after status detail leaves two =
    let known = subst (λ (m : ℕ). IsTrue (list_any (λ n. n == m) (0 ∷ 4 ∷ 5 ∷ 6 ∷ 7 ∷ 8 ∷ 9 ∷ 10 ∷ 11 ∷ []))) two leaves.cause.known in
    absurd (let no : false ≡ true = known in cc)

pub leaves_unbegun : {L M : Type 0} (are_served : List Entry → List M → Type 0) (ending_of : M → Ending) (limit : ℕ) (audit : Bool) (most : ℕ) (before : Before) (after : After) (coming : Option (List L)) (accepted status detail : ℕ) (links : List M)
    → links ≡ [] → Leaves limit audit before after status detail None → IsOfStart status → after.written ≡ before.written → after.faults.output ≡ before.faults.output
    → (after.left ≡ before.left) × (after.faults.input ≡ before.faults.input)
    → LeavesServed are_served ending_of audit most before after coming coming accepted accepted status detail None links
leaves_unbegun are_served ending_of limit audit most before after coming accepted status detail links none leaves of_start unwritten quiet unread =
    let starts = without_first (2 == status) (list_any (λ n. n == status) (5 ∷ 6 ∷ 7 ∷ 11 ∷ [])) (λ two. never_2 limit audit before after status detail leaves (same_number 2 status two)) of_start in
    let start : IsStart status = start_of status (one_of (5 == status) (6 == status) (7 == status) (11 == status) starts) in
    let above : 5 ≤ status = not_below status start in
    record {
      sound = leaves.sound;
      links_are = record { nobody = none; same = refl; accepted = refl; unwritten = unwritten; quiet = quiet; starts = starts };
      cause = record {
        known = known_of status start;
        plain = λ is. leaves.cause.plain is;
        accepting = λ is. absurd (omega (arith, is, above));
        accepted = λ three seven. refl;
        output = λ is. absurd (omega (arith, is, above));
        start = λ is. leaves.cause.start is;
        answer = λ is. leaves.cause.answer is;
        numbers = λ is. leaves.cause.numbers is;
      };
      unread = unread;
    }

-- ---- words that were carried out

-- no such status is that of refused words
pub never_refused_serve : {L M : Type 0} (are_served : List Entry → List M → Type 0) (ending_of : M → Ending) (audit : Bool) (most : ℕ) (before : Before) (after : After) (coming coming_new : Option (List L)) (accepted accepted_new status detail : ℕ) (journal : Option (List Entry)) (links : List M)
    → LeavesServed are_served ending_of audit most before after coming coming_new accepted accepted_new status detail journal links → status ≡ 2 → ⊥
never_refused_serve are_served ending_of audit most before after coming coming_new accepted accepted_new status detail journal links left two =
    let known = subst (λ (m : ℕ). IsTrue (list_any (λ n. n == m) (0 ∷ 3 ∷ 4 ∷ 5 ∷ 6 ∷ 7 ∷ 11 ∷ []))) two left.cause.known in
    absurd (let no : false ≡ true = known in cc)
