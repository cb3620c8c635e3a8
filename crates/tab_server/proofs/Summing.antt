-- What a workload leaves, once its summary was written and behind it the audit text of its journal.
use Rattle.std.proofs.Common.{◌≡◌, ◌∙◌, ◌++◌, ◌+◌, ◌<◌, ◌≤◌, ◌^◌, ℕ, Bool, true, false, List, [], length, take, Option, Some, None, refl, sym, ap, subst, inl, inr, arith, length-append}
use Rattle.std.specs.Prelude.{◌⊎◌, IsTrue, IsFalse}
use Rattle.std.specs.List.{AllByRecursion}
use Rattle.std.proofs.lemmas.List.{take-append-le}
use Rattle.std.proofs.Math.Seq.{take-append-add}
use Rattle.tab_spec.specs.Count.{Rose}
use Rattle.tab_spec.specs.Values.{AreBytes}
use Rattle.tab_spec.specs.declared.contexts.ContextLimits.{ContextLimits}
use Rattle.device_spec.specs.Answers.{IsWrongAnswer}
use Rattle.device_port.specs.Device.{Seen, asked_of, last_of}
use Rattle.link_port.specs.Port.{with_more}
use Rattle.history_spec.specs.Entry.{Entry}
use Rattle.history_spec.specs.AuditText.{audit_text}
use Rattle.history_spec.specs.Told.{Limits}
use Rattle.script_spec.specs.Script.{script, end, bad_line}
use Rattle.script_spec.specs.Calls.{Call, calls, with_closes}
use Rattle.script_spec.specs.Plays.{Plays, at_start}
use Rattle.script_spec.specs.Summary.{Reply, AreTold, HaveBytes, replies_to, reply_lines, summary_line}
use Rattle.script_spec.specs.Workload.{workload_key, workload_text}
use Rattle.audit_journal.specs.Text.{WroteFrontOf}
use Rattle.broker_lock.specs.Known.{Origin}
use Rattle.workload.proofs.Few.{calls_few}
use Rattle.workload.proofs.GoodLines.{IsWhole, lines_are_good}
use Rattle.workload.proofs.Telling.{calls_are_told}
use Rattle.tab_server.specs.declared.cause.Cause.{Cause}
use Rattle.tab_server.specs.declared.cause.Cause.TheVariants as causes
use Rattle.script_player.specs.Ends.{LeavesWhole, with_audit}
use Rattle.script_player.proofs.Playing.{with_nothing}
use Rattle.script_player.proofs.Writing.{with_more-append}
use Rattle.tab_server.specs.Status.{detail_of, status_of}
use Rattle.tab_server.specs.Run.{After, Before, Leaves, limits}
use Rattle.tab_server.specs.Endings.{StandsToEnd, WroteBehind}
use Rattle.tab_server.specs.Workload.{LeavesWorkload, PlayedFull, PlayedPart, PlayedToAnswer, PlayedWhole, TellsCalls, TellsSome, WorkloadEnded, workload_calls, whole, part, full, answered}

-- ---- a text behind another

front_more : (first second : List ℕ) (written written_new : Option (List ℕ)) → WroteFrontOf first written written_new → WroteFrontOf (first ++ second) written written_new
front_more first second written written_new wrote = (
  wrote.0,
  omega (arith, wrote.1, length-append first second),
  wrote.2 ∙ ap (with_more written) (sym (take-append-le wrote.0 first second (omega (arith, wrote.1)))),
)

front_behind : (first second : List ℕ) (written between written_new : Option (List ℕ)) → between ≡ with_more written first → WroteFrontOf second between written_new → WroteFrontOf (first ++ second) written written_new
front_behind first second written between written_new is wrote = (
  length first + wrote.0,
  omega (arith, wrote.1, length-append first second),
  wrote.2 ∙ ap (λ (w : Option (List ℕ)). with_more w (take wrote.0 second)) is ∙ with_more-append written first (take wrote.0 second) ∙ ap (with_more written) (sym (take-append-add first second wrote.0)),
)

-- nothing was done
abbrev IsLeft : (why why_new : Cause) (written written_new : Option (List ℕ)) (faults faults_new : ℕ) → Type 0
IsLeft why why_new written written_new faults faults_new = (why_new ≡ why) × (written_new ≡ written) × (faults_new ≡ faults)

both_written : (why between why_new : Cause) (first second : List ℕ) (start written written_new : Option (List ℕ)) (faults faults_between faults_new : ℕ) → (status_of why ≡ 4 → ⊥) → WroteBehind why between first start written faults faults_between
    → (status_of between ≡ 4 → IsLeft between why_new written written_new faults_between faults_new)
    → ((status_of between ≡ 4 → ⊥) → WroteBehind between why_new second written written_new faults_between faults_new)
    → WroteBehind why why_new (first ++ second) start written_new faults faults_new
both_written why between why_new first second start written written_new faults faults_between faults_new not_4 (inl all) failed behind =
    elim (behind (λ is. not_4 (sym (ap status_of all.0) ∙ is))) [
      | inl more ↦ inl (more.0 ∙ all.0, more.1 ∙ ap (λ (w : Option (List ℕ)). with_more w second) all.1 ∙ with_more-append start first second, more.2 ∙ all.2)
      | inr cut ↦ inr (cut.0, front_behind first second start written written_new all.1 cut.1, subst (λ (n : ℕ). Rose n faults_new) all.2 cut.2)
    ]
both_written why between why_new first second start written written_new faults faults_between faults_new not_4 (inr cut) failed behind =
    let same = failed (ap status_of cut.0) in
    inr (
      same.0 ∙ cut.0 ∙ ap causes.Output (sym same.2),
      subst (λ (w : Option (List ℕ)). WroteFrontOf (first ++ second) start w) (sym same.1) (front_more first second start written cut.1),
      subst (λ (n : ℕ). Rose faults n) (sym same.2) cut.2,
    )

-- a text was written, and behind it the audit text where it is asked for
pub audit_behind : (audit : Bool) (why between why_new : Cause) (history : List Entry) (text : List ℕ) (start written written_new : Option (List ℕ)) (faults faults_between faults_new : ℕ) → (status_of why ≡ 4 → ⊥)
    → WroteBehind why between text start written faults faults_between → (IsFalse audit → IsLeft between why_new written written_new faults_between faults_new)
    → (status_of between ≡ 4 → IsLeft between why_new written written_new faults_between faults_new)
    → (IsTrue audit → (status_of between ≡ 4 → ⊥) → WroteBehind between why_new (audit_text history) written written_new faults_between faults_new)
    → WroteBehind why why_new (with_audit audit history text) start written_new faults faults_new
audit_behind false why between why_new history text start written written_new faults faults_between faults_new not_4 wrote unasked failed behind =
    let same = unasked refl in rw (same.0, same.1, same.2) wrote
audit_behind true why between why_new history text start written written_new faults faults_between faults_new not_4 wrote unasked failed behind =
    both_written why between why_new text (audit_text history) start written written_new faults faults_between faults_new not_4 wrote failed (behind refl)

-- ---- the replies that were told

abbrev HasBytes : List Entry → Type 0
HasBytes history = AllByRecursion (λ e. AreBytes e.reply) history

told_of : (limit : Limits) (calls : List Call) (output : List ℕ) (history : List Entry) → Plays history limit calls output → HasBytes history → AreTold calls [] output
told_of limit calls output history plays bytes = calls_are_told limit calls at_start (record { history = history; holders = plays.0; output = output }) plays.1 bytes

plays_of : (limit : Limits) (calls : List Call) (output output_new : List ℕ) (history : List Entry) → output ≡ output_new → Plays history limit calls output → Plays history limit calls output_new
plays_of limit calls output output_new history is plays = subst (λ (out : List ℕ). Plays history limit calls out) is plays

pub tells_of : (limit : Limits) (done : List Call) (output : List ℕ) (history : List Entry) → Plays history limit (with_closes done) output → HasBytes history → TellsSome limit done history
tells_of limit done output history plays bytes =
    let told = told_of limit (with_closes done) output history plays bytes in (
      told.replies,
      record { plays = plays_of limit (with_closes done) output (reply_lines told.replies) history told.written plays; have = told.have },
    )

abbrev workload_lines : ℕ → ℕ → Type 0
workload_lines start lines = IsWhole lines (script (workload_text start lines))

good_lines : (start lines : ℕ) → lines ≤ 100000 → workload_lines start lines
good_lines start lines few = lines_are_good lines (workload_key start) 0 1 1073741824 (omega (arith, few))

few_replies : (start lines : ℕ) → lines ≤ 100000 → replies_to (with_closes (workload_calls start lines)) < 2 ^ 64
few_replies start lines few =
    let good : IsWhole lines (script (workload_text start lines)) = good_lines start lines few in
    omega (arith, few, calls_few (script (workload_text start lines)).items (omega (arith, good.bytes, few)), good.items)

-- what a tally of a script has that was played whole
pub record IsToldWhole (limit : Limits) (start lines : ℕ) (history : List Entry) (tally : List ℕ) : Type 0 where
  pub told : List Reply
  pub tells : TellsCalls limit (workload_calls start lines) told history
  pub tally_is : tally ≡ reply_lines told
  pub few : length told < 2 ^ 64

pub told_whole : (limit : Limits) (start lines : ℕ) (history : List Entry) (tally : List ℕ) → lines ≤ 100000 → HasBytes history → LeavesWhole limit false (Some (workload_text start lines)) (Some []) (Some tally) history
    → IsToldWhole limit start lines history tally
told_whole limit start lines history tally few bytes left =
    let made = left.2 in
    let output = made.output in
    let tally_is : tally ≡ output = (let is : Some tally ≡ Some output = made.written_is in cc) in
    let plays = subst (λ (done : List Call). Plays history limit (with_closes done) output) (sym left.1) made.plays in
    let told = told_of limit (with_closes (workload_calls start lines)) output history plays bytes in
    record {
      told = told.replies;
      tells = record { plays = plays_of limit (with_closes (workload_calls start lines)) output (reply_lines told.replies) history told.written plays; have = told.have };
      tally_is = tally_is ∙ told.written;
      few = rw told.count (few_replies start lines few);
    }

-- ---- how a run ended, by why it stopped

-- it was played so far, and this text comes of it
abbrev pub IsPlayedTo : (limit : Limits) (start lines : ℕ) → Cause → List Entry → List ℕ → Type 0
IsPlayedTo limit start lines causes.End history text = PlayedWhole limit start lines history text
IsPlayedTo limit start lines (causes.BadLine n) history text = ⊥
IsPlayedTo limit start lines causes.Memory history text = PlayedPart limit start lines history text
IsPlayedTo limit start lines (causes.Full n) history text = PlayedFull limit start lines n history text
IsPlayedTo limit start lines (causes.Output n) history text = ⊥
IsPlayedTo limit start lines (causes.Input n) history text = ⊥
IsPlayedTo limit start lines (causes.Answer n) history text = PlayedToAnswer limit start lines history text

neither : (n : ℕ) → (n ≡ 0 → ⊥) → (n ≡ 7 → ⊥) → (n ≡ 0) ⊎ (n ≡ 7) → ⊥
neither n not_0 not_7 (inl is) = not_0 is
neither n not_0 not_7 (inr is) = not_7 is

-- the whole script was played
pub played_whole : (limit : Limits) (start lines : ℕ) (why : Cause) (history : List Entry) (text : List ℕ) → (status_of why ≡ 0) ⊎ (status_of why ≡ 7) → PlayedWhole limit start lines history text → IsPlayedTo limit start lines why history text
played_whole limit start lines causes.End history text is played = played
played_whole limit start lines (causes.BadLine n) history text is played = absurd (neither 8 (λ e. omega arith) (λ e. omega arith) is)
played_whole limit start lines causes.Memory history text is played = absurd (neither 5 (λ e. omega arith) (λ e. omega arith) is)
played_whole limit start lines (causes.Full n) history text is played = absurd (neither 10 (λ e. omega arith) (λ e. omega arith) is)
played_whole limit start lines (causes.Output n) history text is played = absurd (neither 4 (λ e. omega arith) (λ e. omega arith) is)
played_whole limit start lines (causes.Input n) history text is played = absurd (neither 9 (λ e. omega arith) (λ e. omega arith) is)
played_whole limit start lines (causes.Answer n) history text is played = inl played

-- what there was before the script of a workload was played over a tally, and after it
abbrev pub before_tally : (contexts : ContextLimits) (base : Option Origin) (device : ℕ) (text : List ℕ) → Before
before_tally contexts base device text = record { contexts = contexts; base = base; left = Some text; written = Some []; faults = record { device = device; input = 0; output = 0 } }

abbrev pub after_tally : (seen : Seen) (left : Option (List ℕ)) (tally : List ℕ) → After
after_tally seen left tally =
    record { seen = seen; left = left; written = Some tally; faults = record { device = seen.faults; input = 0; output = 0 } }

not_rose : Rose 0 0 → ⊥
not_rose (inl is) = omega (arith, is)
not_rose (inr is) = omega (arith, is)

-- it stopped before the end, and nothing comes of it
pub played_early : (contexts : ContextLimits) (limit start lines : ℕ) (base : Option Origin) (device : ℕ) (new : Seen) (left : Option (List ℕ)) (tally : List ℕ) (why : Cause) (history : List Entry) → lines ≤ 100000 → HasBytes history
    → Leaves limit false (before_tally contexts base device (workload_text start lines)) (after_tally new left tally) (status_of why) (detail_of why) (Some history)
    → StandsToEnd false (limits contexts limit) (status_of why) (Some (workload_text start lines)) (Some []) (Some tally) history → IsPlayedTo (limits contexts limit) start lines why history []
played_early contexts limit start lines base device new left tally causes.End history few bytes leaves early = absurd (early.0 refl)
played_early contexts limit start lines base device new left tally (causes.BadLine n) history few bytes leaves early =
    let bad : (script (workload_text start lines)).ending ≡ bad_line n = leaves.ending.at_a_bad_line refl in
    let good : (script (workload_text start lines)).ending ≡ end = (good_lines start lines few).ending in
    absurd cc
played_early contexts limit start lines base device new left tally causes.Memory history few bytes leaves early =
    let was = leaves.part refl in (was.0, was.1, tells_of (limits contexts limit) was.0 was.2.output history was.2.plays bytes, refl)
played_early contexts limit start lines base device new left tally (causes.Full n) history few bytes leaves early =
    let was = leaves.full refl in (was.0, was.1, tells_of (limits contexts limit) was.0 was.2.output history was.2.plays bytes, was.3, refl)
played_early contexts limit start lines base device new left tally (causes.Output n) history few bytes leaves early = absurd (not_rose (leaves.cause.output refl).0)
played_early contexts limit start lines base device new left tally (causes.Input n) history few bytes leaves early = absurd (not_rose (leaves.cause.input refl).0)
played_early contexts limit start lines base device new left tally (causes.Answer n) history few bytes leaves early =
    let was = early.1 refl in inr (was.0, was.1, was.2, was.3, tells_of (limits contexts limit) was.0 was.4.output history was.4.plays bytes, refl)

-- ---- the end of a run

-- what there was before a workload, and what there is after it, where its output is another one than the tally
abbrev pub before_all : (contexts : ContextLimits) (base : Option Origin) (device : ℕ) (left written : Option (List ℕ)) (input output : ℕ) → Before
before_all contexts base device left written input output = record { contexts = contexts; base = base; left = left; written = written; faults = record { device = device; input = input; output = output } }

abbrev pub after_all : (seen : Seen) (left written : Option (List ℕ)) (input output : ℕ) → After
after_all seen left written input output =
    record { seen = seen; left = left; written = written; faults = record { device = seen.faults; input = input; output = output } }

at_0 : (limit : Limits) (start lines : ℕ) (why : Cause) (history : List Entry) (text : List ℕ) → status_of why ≡ 0 → IsPlayedTo limit start lines why history text → PlayedWhole limit start lines history text
at_0 limit start lines causes.End history text is played = played
at_0 limit start lines (causes.BadLine n) history text is played = absurd played
at_0 limit start lines causes.Memory history text is played = absurd (omega arith)
at_0 limit start lines (causes.Full n) history text is played = absurd (omega arith)
at_0 limit start lines (causes.Output n) history text is played = absurd played
at_0 limit start lines (causes.Input n) history text is played = absurd played
at_0 limit start lines (causes.Answer n) history text is played = absurd (omega arith)

at_5 : (limit : Limits) (start lines : ℕ) (why : Cause) (history : List Entry) (text : List ℕ) → status_of why ≡ 5 → IsPlayedTo limit start lines why history text → PlayedPart limit start lines history text
at_5 limit start lines causes.End history text is played = absurd (omega arith)
at_5 limit start lines (causes.BadLine n) history text is played = absurd played
at_5 limit start lines causes.Memory history text is played = played
at_5 limit start lines (causes.Full n) history text is played = absurd (omega arith)
at_5 limit start lines (causes.Output n) history text is played = absurd played
at_5 limit start lines (causes.Input n) history text is played = absurd played
at_5 limit start lines (causes.Answer n) history text is played = absurd (omega arith)

at_7 : (limit : Limits) (start lines : ℕ) (why : Cause) (history : List Entry) (text : List ℕ) → status_of why ≡ 7 → IsPlayedTo limit start lines why history text → PlayedToAnswer limit start lines history text
at_7 limit start lines causes.End history text is played = absurd (omega arith)
at_7 limit start lines (causes.BadLine n) history text is played = absurd played
at_7 limit start lines causes.Memory history text is played = absurd (omega arith)
at_7 limit start lines (causes.Full n) history text is played = absurd (omega arith)
at_7 limit start lines (causes.Output n) history text is played = absurd played
at_7 limit start lines (causes.Input n) history text is played = absurd played
at_7 limit start lines (causes.Answer n) history text is played = played

at_10 : (limit : Limits) (start lines : ℕ) (why : Cause) (history : List Entry) (text : List ℕ) → status_of why ≡ 10 → IsPlayedTo limit start lines why history text → PlayedFull limit start lines (detail_of why) history text
at_10 limit start lines causes.End history text is played = absurd (omega arith)
at_10 limit start lines (causes.BadLine n) history text is played = absurd played
at_10 limit start lines causes.Memory history text is played = absurd (omega arith)
at_10 limit start lines (causes.Full n) history text is played = played
at_10 limit start lines (causes.Output n) history text is played = absurd played
at_10 limit start lines (causes.Input n) history text is played = absurd played
at_10 limit start lines (causes.Answer n) history text is played = absurd (omega arith)

pub not_4 : (limit : Limits) (start lines : ℕ) (why : Cause) (history : List Entry) (text : List ℕ) → IsPlayedTo limit start lines why history text → status_of why ≡ 4 → ⊥
not_4 limit start lines causes.End history text played is = omega arith
not_4 limit start lines (causes.BadLine n) history text played is = absurd played
not_4 limit start lines causes.Memory history text played is = omega arith
not_4 limit start lines (causes.Full n) history text played is = omega arith
not_4 limit start lines (causes.Output n) history text played is = absurd played
not_4 limit start lines (causes.Input n) history text played is = absurd played
not_4 limit start lines (causes.Answer n) history text played is = omega arith

not_of_input : (limit : Limits) (start lines : ℕ) (why : Cause) (history : List Entry) (text : List ℕ) → IsPlayedTo limit start lines why history text → (status_of why ≡ 8) ⊎ (status_of why ≡ 9) → ⊥
not_of_input limit start lines causes.End history text played (inl is) = omega arith
not_of_input limit start lines causes.End history text played (inr is) = omega arith
not_of_input limit start lines (causes.BadLine n) history text played is = absurd played
not_of_input limit start lines causes.Memory history text played (inl is) = omega arith
not_of_input limit start lines causes.Memory history text played (inr is) = omega arith
not_of_input limit start lines (causes.Full n) history text played (inl is) = omega arith
not_of_input limit start lines (causes.Full n) history text played (inr is) = omega arith
not_of_input limit start lines (causes.Output n) history text played is = absurd played
not_of_input limit start lines (causes.Input n) history text played is = absurd played
not_of_input limit start lines (causes.Answer n) history text played (inl is) = omega arith
not_of_input limit start lines (causes.Answer n) history text played (inr is) = omega arith

workload_ended : (contexts : ContextLimits) (limit start lines : ℕ) (base : Option Origin) (device : ℕ) (new : Seen) (left : Option (List ℕ)) (tally : List ℕ) (after : After) (why : Cause) (history : List Entry) (text : List ℕ)
    → after.seen ≡ new
    → Leaves limit false (before_tally contexts base device (workload_text start lines)) (after_tally new left tally) (status_of why) (detail_of why) (Some history)
    → IsPlayedTo (limits contexts limit) start lines why history text → WorkloadEnded (limits contexts limit) start lines after history text
workload_ended contexts limit start lines base device new left tally after causes.End history text is_seen leaves played = whole played
workload_ended contexts limit start lines base device new left tally after (causes.BadLine n) history text is_seen leaves played = absurd played
workload_ended contexts limit start lines base device new left tally after causes.Memory history text is_seen leaves played = part played
workload_ended contexts limit start lines base device new left tally after (causes.Full n) history text is_seen leaves played = full n played
workload_ended contexts limit start lines base device new left tally after (causes.Output n) history text is_seen leaves played = absurd played
workload_ended contexts limit start lines base device new left tally after (causes.Input n) history text is_seen leaves played = absurd played
workload_ended contexts limit start lines base device new left tally after (causes.Answer n) history text is_seen leaves played =
    let wrong = leaves.cause.answer refl in answered n (subst (λ (s : Seen). IsWrongAnswer contexts (asked_of s) (last_of s) n) (sym is_seen) wrong.0) (ap (λ (s : Seen). s.state) is_seen ∙ wrong.1) played

pub leaves_workload : (contexts : ContextLimits) (limit : ℕ) (audit : Bool) (start lines : ℕ) (base : Option Origin) (device : ℕ) (new : Seen) (rest : Option (List ℕ)) (tally : List ℕ) (left written written_new : Option (List ℕ)) (input output output_new : ℕ) (why why_new : Cause) (history : List Entry) (text : List ℕ)
    → Leaves limit false (before_tally contexts base device (workload_text start lines)) (after_tally new rest tally) (status_of why) (detail_of why) (Some history)
    → IsPlayedTo (limits contexts limit) start lines why history text → WroteBehind why why_new (with_audit audit history text) written written_new output output_new
    → LeavesWorkload limit audit start lines (before_all contexts base device left written input output) (after_all new left written_new input output_new) (status_of why_new) (detail_of why_new) (Some history)
leaves_workload contexts limit audit start lines base device new rest tally left written written_new input output output_new why why_new history text leaves played (inl all) =
    let sound = leaves.sound in
    let cause = leaves.cause in
    rw all.0
    (record {
      sound = record { legal = sound.legal; faulted = sound.faulted; replies = sound.replies; right = sound.right; begun = sound.begun; base = sound.base; held = sound.held };
      whole = λ is. (text, at_0 (limits contexts limit) start lines why history text is played, all.1);
      part = λ is. (text, at_5 (limits contexts limit) start lines why history text is played, all.1);
      full = λ is. (text, at_10 (limits contexts limit) start lines why history text is played, all.1);
      answered = λ is. (text, at_7 (limits contexts limit) start lines why history text is played, all.1);
      front = λ is. absurd (not_4 (limits contexts limit) start lines why history text played is);
      never = not_of_input (limits contexts limit) start lines why history text played;
      cause = record {
        known = cause.known;
        plain = cause.plain;
        output = λ is. absurd (not_4 (limits contexts limit) start lines why history text played is);
        quiet = λ not. all.2;
        input_quiet = λ not not_4. refl;
        start = cause.start;
        answer = cause.answer;
        numbers = cause.numbers;
        input = λ is. absurd (not_of_input (limits contexts limit) start lines why history text played (inr is));
      };
      unread = (refl, refl);
    })
leaves_workload contexts limit audit start lines base device new rest tally left written written_new input output output_new why why_new history text leaves played (inr cut) =
    let sound = leaves.sound in
    rw cut.0
    (record {
      sound = record { legal = sound.legal; faulted = sound.faulted; replies = sound.replies; right = λ is. absurd (omega arith); begun = λ is. elim is [ inl six ↦ absurd (omega arith) | inr eleven ↦ absurd (omega arith) ]; base = sound.base; held = sound.held };
      whole = λ is. absurd (omega arith);
      part = λ is. absurd (omega arith);
      full = λ is. absurd (omega arith);
      answered = λ is. absurd (omega arith);
      front = λ is. (text, workload_ended contexts limit start lines base device new rest tally (after_all new left written_new input output_new) why history text refl leaves played, cut.1);
      never = λ is. elim is [ inl eight ↦ absurd (omega arith) | inr nine ↦ absurd (omega arith) ];
      cause = record {
        known = refl;
        plain = λ is. elim is [ inl zero ↦ absurd (omega arith) | inr five ↦ absurd (omega arith) ];
        output = λ is. (cut.2, refl);
        quiet = λ not. absurd (not refl);
        input_quiet = λ not not_4. refl;
        start = λ is. absurd (omega arith);
        answer = λ is. absurd (omega arith);
        numbers = λ is. absurd (omega arith);
        input = λ is. absurd (omega arith);
      };
      unread = (refl, refl);
    })

pub leaves_all : (contexts : ContextLimits) (limit : ℕ) (audit : Bool) (start lines : ℕ) (base : Option Origin) (device : ℕ) (new : Seen) (rest : Option (List ℕ)) (tally : List ℕ) (left written between_written written_new : Option (List ℕ)) (input output between_output output_new : ℕ)
    (whole : Bool) (why between why_new : Cause) (history : List Entry) → lines ≤ 100000 → HasBytes history
    → Leaves limit false (before_tally contexts base device (workload_text start lines)) (after_tally new rest tally) (status_of why) (detail_of why) (Some history)
    → StandsToEnd whole (limits contexts limit) (status_of why) (Some (workload_text start lines)) (Some []) (Some tally) history
    → (IsFalse whole → IsLeft why between written between_written output between_output)
    → (IsTrue whole → (told : List Reply) → tally ≡ reply_lines told → HaveBytes told → length told < 2 ^ 64 → WroteBehind why between (summary_line lines told (length history)) written between_written output between_output)
    → (IsFalse audit → IsLeft between why_new between_written written_new between_output output_new)
    → (status_of between ≡ 4 → IsLeft between why_new between_written written_new between_output output_new)
    → (IsTrue audit → (status_of between ≡ 4 → ⊥) → WroteBehind between why_new (audit_text history) between_written written_new between_output output_new)
    → LeavesWorkload limit audit start lines (before_all contexts base device left written input output) (after_all new left written_new input output_new) (status_of why_new) (detail_of why_new) (Some history)
leaves_all contexts limit audit start lines base device new rest tally left written between_written written_new input output between_output output_new true why between why_new history few bytes leaves to_end early summary unasked failed behind =
    let whole = told_whole (limits contexts limit) start lines history tally few bytes to_end.1 in
    let text = summary_line lines whole.told (length history) in
    let played : IsPlayedTo (limits contexts limit) start lines why history text = played_whole (limits contexts limit) start lines why history text to_end.0 (whole.told, whole.tells, refl) in
    let wrote = summary refl whole.told whole.tally_is whole.tells.have whole.few in
    leaves_workload contexts limit audit start lines base device new rest tally left written written_new input output output_new why why_new history text leaves played
    (audit_behind audit why between why_new history text written between_written written_new output between_output output_new (not_4 (limits contexts limit) start lines why history text played) wrote unasked failed behind)
leaves_all contexts limit audit start lines base device new rest tally left written between_written written_new input output between_output output_new false why between why_new history few bytes leaves to_end early summary unasked failed behind =
    let played : IsPlayedTo (limits contexts limit) start lines why history [] = played_early contexts limit start lines base device new rest tally why history few bytes leaves to_end in
    let same = early refl in
    let wrote : WroteBehind why between [] written between_written output between_output = inl (same.0, same.1 ∙ sym (with_nothing written), same.2) in
    leaves_workload contexts limit audit start lines base device new rest tally left written written_new input output output_new why why_new history [] leaves played
    (audit_behind audit why between why_new history [] written between_written written_new output between_output output_new (not_4 (limits contexts limit) start lines why history [] played) wrote unasked failed behind)

-- where the broker didn't begin, a workload leaves what any run does
pub unbegun_workload : (limit : ℕ) (audit : Bool) (start lines : ℕ) (before : Before) (after : After) (status detail : ℕ) → Leaves limit audit before after status detail None → after.left ≡ before.left → after.faults.input ≡ before.faults.input
    → LeavesWorkload limit audit start lines before after status detail None
unbegun_workload limit audit start lines before after status detail leaves left input = record {
  sound = leaves.sound;
  whole = λ is. absurd (leaves.whole (inl is));
  part = λ is. tt;
  full = λ is. absurd (leaves.full is);
  answered = λ is. tt;
  front = λ is. absurd (leaves.front is);
  never = λ is. elim is [ inl eight ↦ leaves.whole (inr eight) | inr nine ↦ leaves.read nine ];
  cause = leaves.cause;
  unread = (left, input);
}
