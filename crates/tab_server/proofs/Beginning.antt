-- How a broker begins, and what is left where none did.
use Rattle.std.proofs.Common.{◌≡◌, ◌∙◌, ◌⊎◌, ℕ, Bool, true, List, [], ◌∷◌, ◌++◌, length, Option, Some, None, refl, sym, ap, subst, inl, inr, arith}
use Rattle.std.specs.Prelude.{get_or, is_some, IfSome, IsSomeAnd}
use Rattle.tab_spec.specs.declared.numbers.Numbers.{Numbers}
use Rattle.tab_spec.specs.Count.{Rose}
use Rattle.tab_spec.specs.Numbers.{AreInRange}
use Rattle.tab_spec.specs.Persist.{Persist}
use Rattle.tab_spec.specs.declared.contexts.ContextLimits.{ContextLimits}
use Rattle.device_spec.specs.Answers.{IsWrongAnswer, profile_takes as takes, value_told}
use Rattle.device_spec.specs.Numbers.{number_command, number_properties}
use Rattle.device_spec.specs.Slots.{SlotState}
use Rattle.device_port.specs.Device.{Seen, Transmission, asked_of, last_of, newest_command, newest_response}
use Rattle.device_start.specs.Start.{HoldsNoMoreIf, StopsAtNumber, TellsProperties, answered}
use Rattle.broker_lock.specs.Known.{origin_of}
use Rattle.broker_core.specs.Broker.{LackedMemory, told_origin}
use Rattle.tab_server.specs.Status.{EndsStart, HasStatusCause, IsNumberOut}
use Rattle.tab_server.specs.Run.{After, Before, Leaves, after_of, before_of}
use Rattle.tab_server.proofs.Leaving.{unsaid}

-- ---- what a device tells

-- a history begins from what the device told
pub begins_from : (base base_new : Option Persist) (state : Option SlotState) (numbers : Numbers) → is_some state ≡ is_some base → base_new ≡ base → IfSome state (λ slots. slots.numbers ≡ numbers)
    → origin_of base_new numbers ≡ told_origin base state
begins_from None base_new None numbers same is_base are = ap (λ (b : Option Persist). origin_of b numbers) is_base
begins_from (Some b) base_new None numbers same is_base are = absurd cc
begins_from base base_new (Some slots) numbers same is_base are =
    ap (λ (b : Option Persist). origin_of b numbers) is_base ∙ ap (λ (n : Numbers). origin_of base n) (sym are)

-- a device that holds no more than it did has the numbers that it had
numbers_stay : (slots : SlotState) (state_new : Option SlotState) → HoldsNoMoreIf (Some slots) state_new → (after : SlotState) × (state_new ≡ Some after) × (after.numbers ≡ slots.numbers)
numbers_stay slots state_new few =
    let found = few slots refl in (found.0, found.1, ap (λ (s : SlotState). s.numbers) found.2.kept)

-- and it tells what it told
pub tells_still : (base base_new : Option Persist) (state state_new : Option SlotState) → base_new ≡ base → is_some state_new ≡ is_some state → HoldsNoMoreIf state state_new
    → told_origin base_new state_new ≡ told_origin base state
tells_still base base_new None None is_base tells few = refl
tells_still base base_new None (Some after) is_base tells few = absurd cc
tells_still base base_new (Some slots) state_new is_base tells few =
    let stay = numbers_stay slots state_new few in
    ap (λ (s : Option SlotState). told_origin base_new s) stay.1
    ∙ ap (λ (b : Option Persist). origin_of b stay.0.numbers) is_base
    ∙ ap (λ (n : Numbers). origin_of base n) stay.2

-- numbers that are out of range stay so
pub out_still : (state state_new : Option SlotState) → is_some state_new ≡ is_some state → HoldsNoMoreIf state state_new → IfSome state (λ slots. AreInRange slots.numbers → ⊥)
    → IfSome state_new (λ slots. AreInRange slots.numbers → ⊥)
out_still None None tells few out = tt
out_still None (Some after) tells few out = absurd cc
out_still (Some slots) state_new tells few out =
    let stay = numbers_stay slots state_new few in
    subst (λ (s : Option SlotState). IfSome s (λ slots. AreInRange slots.numbers → ⊥)) (sym stay.1) (λ range. out (subst AreInRange stay.2 range))

-- ---- the number that is out of range

-- the last command asked for the last of these values, and the response tells it
last_told : (properties before : List ℕ) (value : ℕ) (old new : List Transmission) → TellsProperties properties (before ++ value ∷ []) old new
    → (newest_command new ≡ number_command (get_or properties (length before) 0))
    × IsSomeAnd (newest_response new) (λ response. (takes true true (number_command (get_or properties (length before) 0)) response ≡ true) × (value_told response ≡ value))
last_told [] [] value old new told = absurd told
last_told [] (first ∷ before) value old new told = absurd told
last_told (property ∷ properties) [] value old new told = (
  ap newest_command told.3,
  subst (λ (t : List Transmission). IsSomeAnd (newest_response t) (λ response. (takes true true (number_command property) response ≡ true) × (value_told response ≡ value))) (sym told.3) (told.1, told.2),
)
last_told (property ∷ properties) (first ∷ before) value old new told =
    last_told properties before value (answered (number_command property) told.0 ∷ old) new told.3

-- the same for the property of that number
pub number_out : (old new : Seen) (property value : ℕ) → StopsAtNumber old.trace new.trace property value → IfSome new.state (λ slots. AreInRange slots.numbers → ⊥)
    → IsNumberOut property (asked_of new) (last_of new) new.state
number_out old new property value stops own =
    let last = last_told number_properties stops.out.before value _ new.trace stops.told in
    let asked_is : asked_of new ≡ number_command property = last.0 ∙ ap number_command (sym stops.out.property_is) in
    record {
      value = value;
      out = stops.out;
      asked_is = asked_is;
      told = subst (λ (asked : List ℕ). IsSomeAnd (last_of new) (λ response. (takes true true asked response ≡ true) × (value_told response ≡ value))) (sym last.0) last.1;
      own = own;
    }

-- ---- how far a start came, by its status

pub ends_lacking : {D : Type 0} (contexts : ContextLimits) (seen : D → Seen) (old new : D) → (new ≡ old) ⊎ LackedMemory (seen old) (seen new)
    → HoldsNoMoreIf (seen old).state (seen new).state → EndsStart contexts seen 5 0 old new
ends_lacking contexts seen old new lacks few = record {
  of_start = refl;
  memory = λ is. lacks;
  unanswered = λ is. elim is [ inl six ↦ absurd (omega arith) | inr seven ↦ absurd (omega arith) ];
  failed = λ is. absurd (omega arith);
  number = λ is. absurd (omega arith);
  few = few;
}

-- ---- where no broker began

module _ (contexts : ContextLimits) (limit : ℕ) (audit : Bool) (old new : Seen) (left written : Option (List ℕ)) (input output : ℕ) where
  abbrev then : Before
  then = before_of contexts (told_origin old.base old.state) old.faults left input written output

  abbrev now : After
  now = after_of new left input written output

  -- such a status comes of a start alone
  unplayed : (status detail : ℕ) → told_origin new.base new.state ≡ told_origin old.base old.state → HasStatusCause contexts status detail then.faults now.faults (asked_of new) (last_of new) new.state
      → (status ≡ 0 → ⊥) → (status ≡ 4 → ⊥) → (status ≡ 8 → ⊥) → (status ≡ 9 → ⊥) → (status ≡ 10 → ⊥) → Leaves limit audit then now status detail None
  unplayed status detail same cause not_0 not_4 not_8 not_9 not_10 = record {
    sound = record { legal = tt; faulted = tt; replies = tt; right = λ is. tt; begun = λ is. refl; base = same; held = tt };
    whole = λ is. elim is [ inl zero ↦ absurd (not_0 zero) | inr eight ↦ absurd (not_8 eight) ];
    part = λ is. tt;
    read = λ is. absurd (not_9 is);
    full = λ is. absurd (not_10 is);
    answered = λ is. tt;
    front = λ is. absurd (not_4 is);
    pulled = λ all rest is_given is_left. let same : all ≡ rest = (let both : Some all ≡ Some rest = sym is_given ∙ is_left in cc) in omega (arith, ap length same);
    ending = unsaid left status detail not_0 not_8;
    cause = cause;
  }

  -- memory lacked
  pub lacked : told_origin new.base new.state ≡ told_origin old.base old.state → Leaves limit audit then now 5 0 None
  lacked same = unplayed 5 0 same
      (record {
        known = refl;
        plain = λ is. refl;
        output = λ is. absurd (omega arith);
        quiet = λ not. refl;
        input_quiet = λ not not_output. refl;
        start = λ is. absurd (omega arith);
        answer = λ is. absurd (omega arith);
        numbers = λ is. absurd (omega arith);
        input = λ is. absurd (omega arith);
      }) (λ is. omega arith) (λ is. omega arith) (λ is. omega arith) (λ is. omega arith) (λ is. omega arith)

  -- a transmission failed
  pub failed : (count : ℕ) → told_origin new.base new.state ≡ told_origin old.base old.state → Rose old.faults new.faults → count ≡ new.faults → Leaves limit audit then now 6 count None
  failed count same rose is_count = unplayed 6 count same
      (record {
        known = refl;
        plain = λ is. elim is [ inl zero ↦ absurd (omega arith) | inr five ↦ absurd (omega arith) ];
        output = λ is. absurd (omega arith);
        quiet = λ not. refl;
        input_quiet = λ not not_output. refl;
        start = λ is. (rose, is_count);
        answer = λ is. absurd (omega arith);
        numbers = λ is. absurd (omega arith);
        input = λ is. absurd (omega arith);
      }) (λ is. omega arith) (λ is. omega arith) (λ is. omega arith) (λ is. omega arith) (λ is. omega arith)

  -- the device gave a wrong answer
  pub answered_wrong : (code : ℕ) → told_origin new.base new.state ≡ told_origin old.base old.state → IsWrongAnswer contexts (asked_of new) (last_of new) code → new.state ≡ None → Leaves limit audit then now 7 code None
  answered_wrong code same answer none = unplayed 7 code same
      (record {
        known = refl;
        plain = λ is. elim is [ inl zero ↦ absurd (omega arith) | inr five ↦ absurd (omega arith) ];
        output = λ is. absurd (omega arith);
        quiet = λ not. refl;
        input_quiet = λ not not_output. refl;
        start = λ is. absurd (omega arith);
        answer = λ is. (answer, none);
        numbers = λ is. absurd (omega arith);
        input = λ is. absurd (omega arith);
      }) (λ is. omega arith) (λ is. omega arith) (λ is. omega arith) (λ is. omega arith) (λ is. omega arith)

  -- a number was out of range
  pub out_of_range : (property : ℕ) → told_origin new.base new.state ≡ told_origin old.base old.state → IsNumberOut property (asked_of new) (last_of new) new.state → Leaves limit audit then now 11 property None
  out_of_range property same out = unplayed 11 property same
      (record {
        known = refl;
        plain = λ is. elim is [ inl zero ↦ absurd (omega arith) | inr five ↦ absurd (omega arith) ];
        output = λ is. absurd (omega arith);
        quiet = λ not. refl;
        input_quiet = λ not not_output. refl;
        start = λ is. absurd (omega arith);
        answer = λ is. absurd (omega arith);
        numbers = λ is. out;
        input = λ is. absurd (omega arith);
      }) (λ is. omega arith) (λ is. omega arith) (λ is. omega arith) (λ is. omega arith) (λ is. omega arith)
