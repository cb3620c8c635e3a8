-- What a run leaves once the audit text of its journal was written behind its lines.
use Rattle.std.proofs.Common.{◌≡◌, ◌∙◌, ◌++◌, ◌+◌, ◌≤◌, ℕ, Bool, true, false, cond, eqb, length, List, Option, Some, refl, ap, subst, inl, inr, arith}
use Rattle.std.specs.Prelude.{◌⊎◌, IfSome, IsTrue, IsFalse}
use Rattle.std.proofs.lemmas.Bool.{cases_eq}
use Rattle.tab_spec.specs.Count.{Rose}
use Rattle.tab_spec.specs.declared.contexts.ContextLimits.{ContextLimits}
use Rattle.device_spec.specs.Slots.{SlotState}
use Rattle.link_port.specs.Port.{with_more}
use Rattle.history_spec.specs.Entry.{Entry}
use Rattle.script_spec.specs.declared.TheConstants.{SCRIPT_BYTES}
use Rattle.script_spec.specs.Script.{script}
use Rattle.script_spec.specs.Calls.{Call}
use Rattle.history_spec.specs.AuditText.{audit_text}
use Rattle.history_spec.specs.Told.{Limits}
use Rattle.audit_journal.specs.Text.{WroteFrontOf}
use Rattle.tab_server.specs.declared.cause.Cause.{Cause}
use Rattle.tab_server.specs.declared.cause.Cause.TheVariants as causes
use Rattle.script_player.specs.Ends.{Makes}
use Rattle.script_player.proofs.Ending.{if_given}
use Rattle.script_player.proofs.Writing.{with_more-append}
use Rattle.tab_server.specs.Status.{Faults, HasStatusCause, IsPulledByStatus, IsToldByStatus}
use Rattle.tab_server.specs.Status.{detail_of, status_of}
use Rattle.tab_server.specs.Endings.{WroteBehind}
use Rattle.tab_server.specs.Run.{After, Before, Ended, IsSoundRun, Leaves, whole, part, read, full, answered, limits}

-- what was written in the end, and how often the output had failed then
abbrev pub ended_with : After → Option (List ℕ) → ℕ → After
ended_with after written faults = record after { written = written; faults = record after.faults { output = faults } }

-- a run is sound whatever was written in the end
pub sound_on : {before : Before} {after : After} {status : ℕ} {journal : Option (List Entry)} (written : Option (List ℕ)) (faults : ℕ) → IsSoundRun before after status journal
    → IsSoundRun before (ended_with after written faults) status journal
sound_on written faults was = record { legal = was.legal; faulted = was.faulted; replies = was.replies; right = was.right; begun = was.begun; base = was.base; held = was.held }

-- and at status 4
pub sound_at_4 : {before : Before} {after : After} {status : ℕ} {journal : Option (List Entry)} (written : Option (List ℕ)) (faults : ℕ) → IsSoundRun before after status journal
    → IsSoundRun before (ended_with after written faults) 4 journal
sound_at_4 written faults was = record {
  legal = was.legal;
  faulted = was.faulted;
  replies = was.replies;
  right = λ is. absurd (omega arith);
  begun = λ is. elim is [ inl six ↦ absurd (omega arith) | inr eleven ↦ absurd (omega arith) ];
  base = was.base;
  held = was.held;
}

-- ---- the text was written whole

text_behind : (written lines lines_new : Option (List ℕ)) (output text : List ℕ) → lines ≡ with_more written output → lines_new ≡ with_more lines text → lines_new ≡ with_more written (output ++ text)
text_behind written lines lines_new output text first second = second ∙ ap (λ (w : Option (List ℕ)). with_more w text) first ∙ with_more-append written output text

makes_text : {limit : Limits} {done : List Call} {written lines lines_new : Option (List ℕ)} {history : List Entry} → Makes limit false done written lines history → lines_new ≡ with_more lines (audit_text history)
    → Makes limit true done written lines_new history
makes_text made wrote = record { output = made.output; written_is = text_behind _ _ _ made.output _ made.written_is wrote; plays = made.plays }

cause_after : {contexts : ContextLimits} {status detail : ℕ} {before after : Faults} {asked : List ℕ} {last : Option (List ℕ)} {state : Option SlotState} (faults : ℕ) → HasStatusCause contexts status detail before after asked last state → (status ≡ 4 → ⊥)
    → faults ≡ after.output → HasStatusCause contexts status detail before (record after { output = faults }) asked last state
cause_after faults was not_4 same = record {
  known = was.known;
  plain = was.plain;
  output = λ is. absurd (not_4 is);
  quiet = λ not. same ∙ was.quiet not;
  input_quiet = was.input_quiet;
  start = was.start;
  answer = was.answer;
  numbers = was.numbers;
  input = was.input;
}

pub text_written : (limit : ℕ) (before : Before) (after : After) (status detail : ℕ) (history : List Entry) (written : Option (List ℕ)) (faults : ℕ) → Leaves limit false before after status detail (Some history) → (status ≡ 4 → ⊥)
    → written ≡ with_more after.written (audit_text history) → faults ≡ after.faults.output → Leaves limit true before (ended_with after written faults) status detail (Some history)
text_written limit before after status detail history written faults left not_4 wrote same = record {
  sound = sound_on written faults left.sound;
  whole = λ is. let was = left.whole is in (was.0, was.1, makes_text was.2 wrote);
  part = λ is. let was = left.part is in (was.0, was.1, makes_text was.2 wrote);
  read = λ is. let was = left.read is in (was.0, was.1, makes_text was.2 wrote);
  full = λ is. let was = left.full is in (was.0, was.1, makes_text was.2 wrote, was.3);
  answered = λ is.
      let was = left.answered is in
      let made = was.4 in
      (was.0, was.1, was.2, was.3, record { output = made.output; written = text_behind _ _ _ _ _ made.written wrote; plays = made.plays });
  front = λ is. absurd (not_4 is);
  pulled = left.pulled;
  ending = left.ending;
  cause = cause_after faults left.cause not_4 same;
}

-- ---- a front of the text was written

-- how a run ended before
ended : (why : Cause) (limit : ℕ) (before : Before) (after : After) (history : List Entry) (written : Option (List ℕ)) (faults : ℕ) → Leaves limit false before after (status_of why) (detail_of why) (Some history) → (status_of why ≡ 4 → ⊥)
    → Ended (limits before.contexts limit) before (ended_with after written faults) after.written history
ended causes.End limit before after history written faults left not_4 = whole (left.cause.input_quiet (λ is. absurd (omega arith)) not_4) (left.whole (inl refl))
ended (causes.BadLine n) limit before after history written faults left not_4 = whole (left.cause.input_quiet (λ is. absurd (omega arith)) not_4) (left.whole (inr refl))
ended causes.Memory limit before after history written faults left not_4 = part (left.cause.input_quiet (λ is. absurd (omega arith)) not_4) (left.part refl)
ended (causes.Full n) limit before after history written faults left not_4 = full n (left.cause.input_quiet (λ is. absurd (omega arith)) not_4) (left.full refl)
ended (causes.Output n) limit before after history written faults left not_4 = absurd (not_4 refl)
ended (causes.Input n) limit before after history written faults left not_4 = read (left.cause.input refl).0 (left.read refl)
ended (causes.Answer n) limit before after history written faults left not_4 =
    let wrong = left.cause.answer refl in answered n wrong.0 wrong.1 (left.cause.input_quiet (λ is. absurd (omega arith)) not_4) (left.answered refl)

cause_cut : {contexts : ContextLimits} {status detail : ℕ} {before after : Faults} {asked : List ℕ} {last : Option (List ℕ)} {state : Option SlotState} (faults : ℕ) → HasStatusCause contexts status detail before after asked last state → (status ≡ 4 → ⊥)
    → Rose after.output faults → HasStatusCause contexts 4 faults before (record after { output = faults }) asked last state
cause_cut faults was not_4 rose = record {
  known = refl;
  plain = λ is. elim is [ inl zero ↦ absurd (omega arith) | inr five ↦ absurd (omega arith) ];
  output = λ is. (subst (λ (n : ℕ). Rose n faults) (was.quiet not_4) rose, refl);
  quiet = λ not. absurd (not refl);
  input_quiet = λ not_9 not. absurd (not refl);
  start = λ is. absurd (omega arith);
  answer = λ is. absurd (omega arith);
  numbers = λ is. absurd (omega arith);
  input = λ is. absurd (omega arith);
}

pulled_at_4 : (status : ℕ) (given left : Option (List ℕ)) → IsPulledByStatus status given left → IsPulledByStatus 4 given left
pulled_at_4 status given left pulled all rest is_given is_left =
    elim (eqb status 9) as (λ b. length all ≤ length rest + cond b SCRIPT_BYTES (SCRIPT_BYTES + 1) → length all ≤ length rest + (SCRIPT_BYTES + 1)) [
      | true ↦ λ le. omega (arith, le)
      | false ↦ λ le. le
    ] (pulled all rest is_given is_left)

ends_at_4 : (given : Option (List ℕ)) (detail : ℕ) → IfSome given (λ all. IsToldByStatus (script all).ending 4 detail)
ends_at_4 given detail =
    if_given given (λ all. IsToldByStatus (script all).ending 4 detail) (λ all is_given. record { at_the_end = λ is. absurd (omega arith); at_a_bad_line = λ is. absurd (omega arith) })

pub text_cut : (why : Cause) (limit : ℕ) (before : Before) (after : After) (history : List Entry) (written : Option (List ℕ)) (faults : ℕ) → Leaves limit false before after (status_of why) (detail_of why) (Some history) → (status_of why ≡ 4 → ⊥)
    → WroteFrontOf (audit_text history) after.written written → Rose after.faults.output faults → Leaves limit true before (ended_with after written faults) 4 faults (Some history)
text_cut why limit before after history written faults left not_4 wrote rose = record {
  sound = sound_at_4 written faults left.sound;
  whole = λ is. elim is [ inl zero ↦ absurd (omega arith) | inr eight ↦ absurd (omega arith) ];
  part = λ is. absurd (omega arith);
  read = λ is. absurd (omega arith);
  full = λ is. absurd (omega arith);
  answered = λ is. absurd (omega arith);
  front = λ is. inr (refl, record { lines = after.written; ended = ended why limit before after history written faults left not_4; text = wrote });
  pulled = pulled_at_4 (status_of why) before.left after.left left.pulled;
  ending = ends_at_4 before.left faults;
  cause = cause_cut faults left.cause not_4 rose;
}

-- ---- nothing more is written after a failed write

-- a failed write left a part of the lines out
front_kept : {A B : Type 0} → A ⊎ (IsTrue false × B) → A
front_kept (inl a) = a
front_kept (inr cut) = absurd (let no : false ≡ true = cut.0 in cc)

text_kept : (limit : ℕ) (before : Before) (after : After) (status detail : ℕ) (history : List Entry) → Leaves limit false before after status detail (Some history) → status ≡ 4 → Leaves limit true before after status detail (Some history)
text_kept limit before after status detail history left is_4 = record {
  sound = left.sound;
  whole = λ is. elim is [ inl zero ↦ absurd (omega arith) | inr eight ↦ absurd (omega arith) ];
  part = λ is. absurd (omega arith);
  read = λ is. absurd (omega arith);
  full = λ is. absurd (omega arith);
  answered = λ is. absurd (omega arith);
  front = λ is. inl (front_kept (left.front is));
  pulled = left.pulled;
  ending = left.ending;
  cause = left.cause;
}

-- ---- the end of a run

-- nothing was done
abbrev IsLeft : (why why_new : Cause) (after : After) (written : Option (List ℕ)) (faults : ℕ) → Type 0
IsLeft why why_new after written faults = (why_new ≡ why) × (written ≡ after.written) × (faults ≡ after.faults.output)

pub leaves_ended : (limit : ℕ) (audit : Bool) (before : Before) (after : After) (why why_new : Cause) (history : List Entry) (written : Option (List ℕ)) (faults : ℕ) → Leaves limit false before after (status_of why) (detail_of why) (Some history)
    → (IsFalse audit → IsLeft why why_new after written faults) → (status_of why ≡ 4 → IsLeft why why_new after written faults)
    → (IsTrue audit → (status_of why ≡ 4 → ⊥) → WroteBehind why why_new (audit_text history) after.written written after.faults.output faults)
    → Leaves limit audit before (ended_with after written faults) (status_of why_new) (detail_of why_new) (Some history)
leaves_ended limit false before after why why_new history written faults left unasked failed text =
    let same = unasked refl in rw (same.0, same.1, same.2) left
leaves_ended limit true before after why why_new history written faults left unasked failed text = elim (cases_eq (status_of why) 4) [
  | inl is_4 ↦ let same = failed is_4 in rw (same.0, same.1, same.2) (text_kept limit before after (status_of why) (detail_of why) history left is_4)
  | inr not_4 ↦ elim (text refl not_4) [
    | inl wrote ↦ rw wrote.0 (text_written limit before after (status_of why) (detail_of why) history written faults left not_4 wrote.1 wrote.2)
    | inr cut ↦ rw cut.0 (text_cut why limit before after history written faults left not_4 cut.1 cut.2)
  ]
]
