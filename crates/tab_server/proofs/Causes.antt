-- A run's status has its cause, by why its script was played no further and whether a wrong answer came.
use Rattle.std.proofs.Common.{◌≡◌, ◌∙◌, ℕ, true, false, List, [], ◌∷◌, Option, Some, None, refl, sym, ap, subst, inl, inr, ⊎_elim, arith}
use Rattle.std.specs.Prelude.{◌⊎◌, ◌==◌, is_some, IsSome, IsTrue, IfSome}
use Rattle.std.specs.List.{list_any}
use Rattle.device_spec.specs.Slots.{SlotState}
use Rattle.device_spec.specs.Answers.{IsWrongAnswer}
use Rattle.tab_spec.specs.declared.numbers.Numbers.{Numbers}
use Rattle.tab_spec.specs.Persist.{Persist}
use Rattle.tab_spec.specs.declared.contexts.ContextLimits.{ContextLimits}
use Rattle.device_port.specs.Device.{Seen}
use Rattle.history_spec.specs.Entry.{Entry}
use Rattle.world_spec.specs.World.{world_of}
use Rattle.world_spec.specs.Legal.{Legal}
use Rattle.broker_lock.specs.Known.{Origin, origin_of}
use Rattle.broker_core.specs.Broker.{BrokerView, HoldsLeft, StandsAfterIf, told_origin}
use Rattle.script_player.specs.declared.stop.Stop.{Stop}
use Rattle.script_player.specs.declared.stop.Stop.TheVariants as stops
use Rattle.script_player.specs.Play.{IsPulledUpTo, most_pulled}
use Rattle.script_player.specs.Ends.{IsCaused}
use Rattle.tab_server.specs.Status.{Faults, HasStatusCause, IsPulledByStatus, cause_of, detail_of}
use Rattle.tab_server.specs.Status.{status_of}
use Rattle.tab_server.specs.Run.{HoldsLeftOf, IsHistoryOf}

-- a device that gave a wrong answer tells no state
pub untold : (state : Option SlotState) (wrong : Option ℕ) → (IsSome state → wrong ≡ None) → IsSome wrong → state ≡ None
untold None wrong taken some = refl
untold (Some s) None taken some = absurd (let no : false ≡ true = some in cc)
untold (Some s) (Some code) taken some = absurd (let none : Some code ≡ None = taken refl in cc)

module _ (contexts : ContextLimits) (before after : Faults) (asked : List ℕ) (last : Option (List ℕ)) (state : Option SlotState) where
  -- nothing went wrong
  quiet_cause : (status detail : ℕ) → ((status ≡ 0) ⊎ (status ≡ 5) → detail ≡ 0)
      → IsTrue (list_any (λ n. n == status) (0 ∷ 4 ∷ 5 ∷ 6 ∷ 7 ∷ 8 ∷ 9 ∷ 10 ∷ 11 ∷ [])) → (status ≡ 4 → ⊥) → (status ≡ 6 → ⊥) → (status ≡ 7 → ⊥) → (status ≡ 9 → ⊥) → (status ≡ 11 → ⊥)
      → after.output ≡ before.output → after.input ≡ before.input → HasStatusCause contexts status detail before after asked last state
  quiet_cause status detail plain known not_4 not_6 not_7 not_9 not_11 output input = record {
    known = known;
    plain = plain;
    output = λ is. absurd (not_4 is);
    quiet = λ not. output;
    input_quiet = λ not not_output. input;
    start = λ is. absurd (not_6 is);
    answer = λ is. absurd (not_7 is);
    numbers = λ is. absurd (not_11 is);
    input = λ is. absurd (not_9 is);
  }

  -- the device gave a wrong answer
  wrong_cause : (code : ℕ) → IsWrongAnswer contexts asked last code → state ≡ None → after.output ≡ before.output → after.input ≡ before.input → HasStatusCause contexts 7 code before after asked last state
  wrong_cause code answer none output input = record {
    known = refl;
    plain = λ is. elim is [ inl zero ↦ absurd (omega arith) | inr five ↦ absurd (omega arith) ];
    output = λ is. absurd (omega arith);
    quiet = λ not. output;
    input_quiet = λ not not_output. input;
    start = λ is. absurd (omega arith);
    answer = λ is. (answer, none);
    numbers = λ is. absurd (omega arith);
    input = λ is. absurd (omega arith);
  }

  pub has_cause : (stop : Stop) (wrong : Option ℕ) → IsCaused stop before.input after.input before.output after.output (is_some wrong)
      → IfSome wrong (IsWrongAnswer contexts asked last) → (IsSome state → wrong ≡ None) → HasStatusCause contexts (status_of (cause_of stop wrong)) (detail_of (cause_of stop wrong)) before after asked last state
  has_cause stops.End None caused answer taken =
      quiet_cause 0 0 (λ is. refl) refl (λ is. omega arith) (λ is. omega arith) (λ is. omega arith) (λ is. omega arith) (λ is. omega arith) caused.cause.0 caused.cause.2
  has_cause stops.End (Some code) caused answer taken = wrong_cause code answer (untold state (Some code) taken refl) caused.cause.0 caused.cause.2
  has_cause (stops.BadLine n) wrong caused answer taken =
      quiet_cause 8 n (λ is. elim is [ inl zero ↦ absurd (omega arith) | inr five ↦ absurd (omega arith) ]) refl (λ is. omega arith) (λ is. omega arith) (λ is. omega arith) (λ is. omega arith) (λ is. omega arith)
      caused.cause.0 caused.cause.2
  has_cause stops.Memory wrong caused answer taken =
      quiet_cause 5 0 (λ is. refl) refl (λ is. omega arith) (λ is. omega arith) (λ is. omega arith) (λ is. omega arith) (λ is. omega arith) caused.cause.0 caused.cause.2
  has_cause (stops.Full n) wrong caused answer taken =
      quiet_cause 10 n (λ is. elim is [ inl zero ↦ absurd (omega arith) | inr five ↦ absurd (omega arith) ]) refl (λ is. omega arith) (λ is. omega arith) (λ is. omega arith) (λ is. omega arith) (λ is. omega arith)
      caused.cause.0 caused.cause.2
  has_cause (stops.Output n) wrong caused answer taken = record {
    known = refl;
    plain = λ is. elim is [ inl zero ↦ absurd (omega arith) | inr five ↦ absurd (omega arith) ];
    output = λ is. (caused.cause.0, caused.cause.1);
    quiet = λ not. absurd (not refl);
    input_quiet = λ not not_output. caused.cause.2;
    start = λ is. absurd (omega arith);
    answer = λ is. absurd (omega arith);
    numbers = λ is. absurd (omega arith);
    input = λ is. absurd (omega arith);
  }
  has_cause (stops.Input n) wrong caused answer taken = record {
    known = refl;
    plain = λ is. elim is [ inl zero ↦ absurd (omega arith) | inr five ↦ absurd (omega arith) ];
    output = λ is. absurd (omega arith);
    quiet = λ not. caused.cause.2;
    input_quiet = λ not not_output. absurd (not refl);
    start = λ is. absurd (omega arith);
    answer = λ is. absurd (omega arith);
    numbers = λ is. absurd (omega arith);
    input = λ is. (caused.cause.0, caused.cause.1);
  }
  has_cause stops.Answer None caused answer taken = absurd (let no : false ≡ true = caused.stays caused.cause.0 in cc)
  has_cause stops.Answer (Some code) caused answer taken = wrong_cause code answer (untold state (Some code) taken refl) caused.cause.1 caused.cause.2

-- how much was read at most
pub pulled : (stop : Stop) (wrong : Option ℕ) (given left : Option (List ℕ)) → IsPulledUpTo (most_pulled stop) given left → IsPulledByStatus (status_of (cause_of stop wrong)) given left
pulled stops.End None given left is = is
pulled stops.End (Some code) given left is = is
pulled (stops.BadLine n) wrong given left is = is
pulled stops.Memory wrong given left is = is
pulled (stops.Full n) wrong given left is = is
pulled (stops.Output n) wrong given left is = is
pulled (stops.Input n) wrong given left is = is
pulled stops.Answer None given left is = is
pulled stops.Answer (Some code) given left is = is

-- no wrong answer came where the status is 0, and a broker that began didn't fail at its start
pub no_wrong : (stop : Stop) (wrong : Option ℕ) → status_of (cause_of stop wrong) ≡ 0 → wrong ≡ None
no_wrong stops.End None is = refl
no_wrong stops.End (Some code) is = absurd (omega arith)
no_wrong (stops.BadLine n) wrong is = absurd (omega arith)
no_wrong stops.Memory wrong is = absurd (omega arith)
no_wrong (stops.Full n) wrong is = absurd (omega arith)
no_wrong (stops.Output n) wrong is = absurd (omega arith)
no_wrong (stops.Input n) wrong is = absurd (omega arith)
no_wrong stops.Answer None is = absurd (omega arith)
no_wrong stops.Answer (Some code) is = absurd (omega arith)

pub not_start : (stop : Stop) (wrong : Option ℕ) → (status_of (cause_of stop wrong) ≡ 6) ⊎ (status_of (cause_of stop wrong) ≡ 11) → ⊥
not_start stops.End None = ⊎_elim (λ is. omega arith) (λ is. omega arith)
not_start stops.End (Some code) = ⊎_elim (λ is. omega arith) (λ is. omega arith)
not_start (stops.BadLine n) wrong = ⊎_elim (λ is. omega arith) (λ is. omega arith)
not_start stops.Memory wrong = ⊎_elim (λ is. omega arith) (λ is. omega arith)
not_start (stops.Full n) wrong = ⊎_elim (λ is. omega arith) (λ is. omega arith)
not_start (stops.Output n) wrong = ⊎_elim (λ is. omega arith) (λ is. omega arith)
not_start (stops.Input n) wrong = ⊎_elim (λ is. omega arith) (λ is. omega arith)
not_start stops.Answer None = ⊎_elim (λ is. omega arith) (λ is. omega arith)
not_start stops.Answer (Some code) = ⊎_elim (λ is. omega arith) (λ is. omega arith)

-- ---- the device at the end

-- what a history begins from has two parts
origin_is : (base : Option Persist) (numbers : Numbers) (o : Origin) → origin_of base numbers ≡ Some o → (base ≡ Some o.persist) × (o.numbers ≡ numbers)
origin_is None numbers o is = absurd cc
origin_is (Some b) numbers o is =
    let same : record { persist = b; numbers = numbers } ≡ o = cc in
    (ap (λ (x : Origin). Some x.persist) same, sym (ap (λ (x : Origin). x.numbers) same))

pub is_history : (base : Option Persist) (state : Option SlotState) (history : List Entry) {D : Type 0} (broker : BrokerView D) → StandsAfterIf base state history broker.tables broker.held
    → IsHistoryOf (origin_of base broker.held.sessions.numbers) state history
is_history base state history broker stands o slots is_origin is_state =
    let origin = origin_is base broker.held.sessions.numbers o is_origin in
    let after = stands o.persist slots origin.0 is_state in
    let same : slots.numbers ≡ o.numbers = after.stands.settled.sessions.numbers ∙ sym origin.1 in
    record {
      legal = subst (λ (n : Numbers). Legal o.persist n.active history) same after.legal;
      persist = subst (λ (n : Numbers). slots.persist ≡ (world_of o.persist n.active history).persist) same after.stands.persist;
      started = after.stands.settled.objects.started;
      sound = after.stands.settled.objects.sound;
      numbers = same;
    }

-- what it holds, by the world of the journal: the sessions that are left there are those that the broker lists
pub holds_left : (began : ℕ) (seen : Seen) (history : List Entry) {D : Type 0} (broker : BrokerView D) → StandsAfterIf seen.base seen.state history broker.tables broker.held
    → IfSome seen.state (λ slots. HoldsLeft began seen.faults history slots broker.held.sessions.left)
    → HoldsLeftOf (origin_of seen.base broker.held.sessions.numbers) began seen history
holds_left began seen history broker stands holds o slots is_origin is_state =
    let origin = origin_is seen.base broker.held.sessions.numbers o is_origin in
    let after = stands o.persist slots origin.0 is_state in
    let same : slots.numbers ≡ o.numbers = after.stands.settled.sessions.numbers ∙ sym origin.1 in
    subst (λ (n : Numbers). HoldsLeft began seen.faults history slots (world_of o.persist n.active history).left) same
    (subst (λ (left : List ℕ). HoldsLeft began seen.faults history slots left) (sym after.stands.left)
    (subst (λ (s : Option SlotState). IfSome s (λ slots. HoldsLeft began seen.faults history slots broker.held.sessions.left)) is_state holds))

-- the device tells what the history begins from
pub origin_told : (base : Option Persist) (state : Option SlotState) (history : List Entry) {D : Type 0} (broker : BrokerView D) → is_some state ≡ is_some base → StandsAfterIf base state history broker.tables broker.held
    → told_origin base state ≡ origin_of base broker.held.sessions.numbers
origin_told None None history broker same stands = refl
origin_told None (Some slots) history broker same stands = refl
origin_told (Some b) None history broker same stands = absurd cc
origin_told (Some b) (Some slots) history broker same stands = ap (λ (n : Numbers). origin_of (Some b) n) (stands b slots refl refl).stands.settled.sessions.numbers
