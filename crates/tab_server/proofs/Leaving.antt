-- What a run leaves, by why its script was played no further and whether a wrong answer came.
use Rattle.std.proofs.Common.{◌≡◌, ◌∙◌, ◌++◌, ℕ, true, false, List, [], Option, Some, None, sym, ap, subst, inl, inr, arith}
use Rattle.std.specs.Prelude.{is_some, IsSome, IfSome}
use Rattle.std.proofs.lemmas.List.{append-nil}
use Rattle.tab_spec.specs.declared.contexts.ContextLimits.{ContextLimits}
use Rattle.device_spec.specs.Slots.{SlotState}
use Rattle.device_spec.specs.Answers.{IsWrongAnswer, wrong as is_wrong}
use Rattle.device_port.specs.Device.{asked_of, last_of}
use Rattle.link_port.specs.Port.{with_more}
use Rattle.history_spec.specs.Entry.{Entry}
use Rattle.history_spec.specs.Told.{Limits}
use Rattle.script_spec.specs.Script.{script}
use Rattle.script_spec.specs.Calls.{calls_from}
use Rattle.script_player.specs.declared.stop.Stop.{Stop}
use Rattle.script_player.specs.declared.stop.Stop.TheVariants as stops
use Rattle.script_player.specs.Play.{IsPulledUpTo, most_pulled}
use Rattle.script_player.specs.Stops.{AreFirstCalls}
use Rattle.script_player.specs.Ends.{IsCaused, LeavesBy, LeavesCut, LeavesEarly, LeavesWhole}
use Rattle.script_player.proofs.Ending.{if_given}
use Rattle.tab_server.specs.Status.{HasStatusCause, IsPulledByStatus, IsToldByStatus, cause_of}
use Rattle.tab_server.specs.Status.{detail_of, status_of}
use Rattle.tab_server.specs.Run.{After, Before, IsEnded, IsSoundRun, Leaves, LeavesAnswered, LeavesFront, limits}
use Rattle.tab_server.proofs.Causes.{has_cause, no_wrong, not_start, pulled, untold}

if_some_more : {A : Type 0} (o : Option A) (P Q : A → Type 0) → ((x : A) → P x → Q x) → IfSome o P → IfSome o Q
if_some_more None P Q more is = tt
if_some_more (Some x) P Q more is = more x is

-- neither status that tells the ending
pub unsaid : (given : Option (List ℕ)) (status detail : ℕ) → (status ≡ 0 → ⊥) → (status ≡ 8 → ⊥) → IfSome given (λ all. IsToldByStatus (script all).ending status detail)
unsaid given status detail not_0 not_8 =
    if_given given (λ all. IsToldByStatus (script all).ending status detail) (λ all is. record { at_the_end = λ zero. absurd (not_0 zero); at_a_bad_line = λ eight. absurd (not_8 eight) })

-- the calls were all those of the script, and the device gave a wrong answer in the closes behind them
whole_answered : (limit : Limits) (given written written_new : Option (List ℕ)) (history : List Entry) → LeavesWhole limit false given written written_new history → LeavesAnswered limit false given written written_new history
whole_answered limit given written written_new history left =
    let made = left.2 in (
      left.0,
      None,
      (λ none. inr left.1),
      if_some_more given (λ all. calls_from [] (script all).items ≡ left.0) (λ all. AreFirstCalls left.0 None all) (λ all is. ([], is ∙ sym (append-nil (left.0 ++ []) ∙ append-nil left.0))) left.1,
      record { output = made.output; written = made.written_is ∙ ap (with_more written) (sym (append-nil made.output)); plays = made.plays },
    )

early_answered : (limit : Limits) (given written written_new : Option (List ℕ)) (history : List Entry) → LeavesEarly limit given written written_new history → LeavesAnswered limit false given written written_new history
early_answered limit given written written_new history left = (left.0, left.1, (λ none. inl (left.2 none)), left.3, record { output = left.4.output; written = left.4.written; plays = left.4.plays })

is_wrong_of : (contexts : ContextLimits) (wrong : Option ℕ) (asked : List ℕ) (response : Option (List ℕ)) → IfSome wrong (IsWrongAnswer contexts asked response) → IsSome wrong → is_wrong contexts asked response ≡ true
is_wrong_of contexts None asked response cause some = absurd (let no : false ≡ true = some in cc)
is_wrong_of contexts (Some code) asked response cause some = cause.is_wrong

front_cut : (limit : Limits) (wrong : Option ℕ) (asked : List ℕ) (response : Option (List ℕ)) (state : Option SlotState) (given written written_new : Option (List ℕ)) (history : List Entry) → IfSome wrong (IsWrongAnswer limit.contexts asked response)
    → (IsSome state → wrong ≡ None) → LeavesCut limit (is_some wrong) given written written_new history → LeavesFront limit asked response state given written written_new history
front_cut limit wrong asked response state given written written_new history answer taken left = (
  left.0,
  left.1,
  (λ some. (untold state wrong taken (left.2 some), is_wrong_of limit.contexts wrong asked response answer (left.2 some))),
  left.3,
  record { output = left.4.output; written = left.4.written; plays = left.4.plays },
)

-- all of it. A wrong answer comes only over a device that tells no state
module _ (limit : ℕ) (before : Before) (after : After) (history : List Entry) where
  pub leaves : (stop : Stop) (wrong : Option ℕ) → IsSoundRun before after (status_of (cause_of stop wrong)) (Some history)
      → LeavesBy stop (limits before.contexts limit) (is_some wrong) before.left after.left before.written after.written history
      → IsCaused stop before.faults.input after.faults.input before.faults.output after.faults.output (is_some wrong)
      → IsPulledByStatus (status_of (cause_of stop wrong)) before.left after.left → IfSome wrong (IsWrongAnswer before.contexts (asked_of after.seen) (last_of after.seen)) → (IsSome after.seen.state → wrong ≡ None)
      → HasStatusCause before.contexts (status_of (cause_of stop wrong)) (detail_of (cause_of stop wrong)) before.faults after.faults (asked_of after.seen) (last_of after.seen) after.seen.state
      → Leaves limit false before after (status_of (cause_of stop wrong)) (detail_of (cause_of stop wrong)) (Some history)
  leaves stops.End None sound left caused pulled answer taken cause = record {
    sound = sound;
    whole = λ is. left.0;
    part = λ is. absurd (omega arith);
    read = λ is. absurd (omega arith);
    full = λ is. absurd (omega arith);
    answered = λ is. absurd (omega arith);
    front = λ is. absurd (omega arith);
    pulled = pulled;
    ending = if_some_more before.left _ _ (λ all is. record { at_the_end = λ zero. is; at_a_bad_line = λ eight. absurd (omega arith) }) left.1;
    cause = cause;
  }
  leaves stops.End (Some code) sound left caused pulled answer taken cause = record {
    sound = sound;
    whole = λ is. elim is [ inl zero ↦ absurd (omega arith) | inr eight ↦ absurd (omega arith) ];
    part = λ is. absurd (omega arith);
    read = λ is. absurd (omega arith);
    full = λ is. absurd (omega arith);
    answered = λ is. whole_answered (limits before.contexts limit) before.left before.written after.written history left.0;
    front = λ is. absurd (omega arith);
    pulled = pulled;
    ending = unsaid before.left 7 code (λ is. omega arith) (λ is. omega arith);
    cause = cause;
  }
  leaves (stops.BadLine n) wrong sound left caused pulled answer taken cause = record {
    sound = sound;
    whole = λ is. left.0;
    part = λ is. absurd (omega arith);
    read = λ is. absurd (omega arith);
    full = λ is. absurd (omega arith);
    answered = λ is. absurd (omega arith);
    front = λ is. absurd (omega arith);
    pulled = pulled;
    ending = if_some_more before.left _ _ (λ all is. record { at_the_end = λ zero. absurd (omega arith); at_a_bad_line = λ eight. is }) left.1;
    cause = cause;
  }
  leaves stops.Memory wrong sound left caused pulled answer taken cause = record {
    sound = sound;
    whole = λ is. elim is [ inl zero ↦ absurd (omega arith) | inr eight ↦ absurd (omega arith) ];
    part = λ is. left;
    read = λ is. absurd (omega arith);
    full = λ is. absurd (omega arith);
    answered = λ is. absurd (omega arith);
    front = λ is. absurd (omega arith);
    pulled = pulled;
    ending = unsaid before.left 5 0 (λ is. omega arith) (λ is. omega arith);
    cause = cause;
  }
  leaves (stops.Full n) wrong sound left caused pulled answer taken cause = record {
    sound = sound;
    whole = λ is. elim is [ inl zero ↦ absurd (omega arith) | inr eight ↦ absurd (omega arith) ];
    part = λ is. absurd (omega arith);
    read = λ is. absurd (omega arith);
    full = λ is. left;
    answered = λ is. absurd (omega arith);
    front = λ is. absurd (omega arith);
    pulled = pulled;
    ending = unsaid before.left 10 n (λ is. omega arith) (λ is. omega arith);
    cause = cause;
  }
  leaves (stops.Output n) wrong sound left caused pulled answer taken cause = record {
    sound = sound;
    whole = λ is. elim is [ inl zero ↦ absurd (omega arith) | inr eight ↦ absurd (omega arith) ];
    part = λ is. absurd (omega arith);
    read = λ is. absurd (omega arith);
    full = λ is. absurd (omega arith);
    answered = λ is. absurd (omega arith);
    front = λ is. inl (caused.cause.2, front_cut (limits before.contexts limit) wrong (asked_of after.seen) (last_of after.seen) after.seen.state before.left before.written after.written history answer taken left);
    pulled = pulled;
    ending = unsaid before.left 4 n (λ is. omega arith) (λ is. omega arith);
    cause = cause;
  }
  leaves (stops.Input n) wrong sound left caused pulled answer taken cause = record {
    sound = sound;
    whole = λ is. elim is [ inl zero ↦ absurd (omega arith) | inr eight ↦ absurd (omega arith) ];
    part = λ is. absurd (omega arith);
    read = λ is. left;
    full = λ is. absurd (omega arith);
    answered = λ is. absurd (omega arith);
    front = λ is. absurd (omega arith);
    pulled = pulled;
    ending = unsaid before.left 9 n (λ is. omega arith) (λ is. omega arith);
    cause = cause;
  }
  leaves stops.Answer None sound left caused pulled answer taken cause = absurd (let no : false ≡ true = caused.stays caused.cause.0 in cc)
  leaves stops.Answer (Some code) sound left caused pulled answer taken cause = record {
    sound = sound;
    whole = λ is. elim is [ inl zero ↦ absurd (omega arith) | inr eight ↦ absurd (omega arith) ];
    part = λ is. absurd (omega arith);
    read = λ is. absurd (omega arith);
    full = λ is. absurd (omega arith);
    answered = λ is. early_answered (limits before.contexts limit) before.left before.written after.written history left;
    front = λ is. absurd (omega arith);
    pulled = pulled;
    ending = unsaid before.left 7 code (λ is. omega arith) (λ is. omega arith);
    cause = cause;
  }

-- the same by what is told of a broker whose clients are all closed
pub leaves_ended_broker : (limit : ℕ) (before : Before) (after : After) (history entries : List Entry) (stop : Stop) (wrong code : Option ℕ) → entries ≡ history → wrong ≡ code
    → IsEnded before.contexts before.base before.faults.device after.seen wrong history
    → LeavesBy stop (limits before.contexts limit) (is_some code) before.left after.left before.written after.written entries
    → IsCaused stop before.faults.input after.faults.input before.faults.output after.faults.output (is_some code)
    → IsPulledUpTo (most_pulled stop) before.left after.left
    → Leaves limit false before after (status_of (cause_of stop wrong)) (detail_of (cause_of stop wrong)) (Some history)
leaves_ended_broker limit before after history entries stop wrong code same_entries same_code ended left caused most =
    let left_by = subst (λ (h : List Entry). LeavesBy stop (limits before.contexts limit) (is_some wrong) before.left after.left before.written after.written h) same_entries
    (subst (λ (c : Option ℕ). LeavesBy stop (limits before.contexts limit) (is_some c) before.left after.left before.written after.written entries) (sym same_code) left) in
    let caused_by = subst (λ (c : Option ℕ). IsCaused stop before.faults.input after.faults.input before.faults.output after.faults.output (is_some c)) (sym same_code) caused in
    let sound : IsSoundRun before after (status_of (cause_of stop wrong)) (Some history) = record {
      legal = ended.legal;
      faulted = ended.faulted;
      replies = ended.replies;
      right = λ is. ended.right (no_wrong stop wrong is);
      begun = λ is. absurd (not_start stop wrong is);
      base = ended.base_is;
      held = ended.holds;
    } in
    leaves limit before after history stop wrong sound left_by caused_by (pulled stop wrong before.left after.left most) ended.answer ended.taken
    (has_cause before.contexts before.faults after.faults (asked_of after.seen) (last_of after.seen) after.seen.state stop wrong caused_by ended.answer ended.taken)
