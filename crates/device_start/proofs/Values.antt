-- What a device tells of its numbers, one after the other.
use Rattle.std.proofs.Common.{◌≡◌, ◌<◌, ◌≤◌, ◌^◌, ◌⊎◌, inl, inr, ℕ, suc, Bool, true, false, true≢false, List, [], ◌∷◌, ◌++◌, length, take, get_or, refl, ap, sym, ◌∙◌, subst, append_assoc, length-append, arith}
use Rattle.std.specs.Prelude.{◌||◌, not, nat_lt, Option, Some, None, IfSome, is_some, Ok, Err}
use Rattle.std.proofs.lemmas.Bool.{and_from, and_parts, le-ltb, lt-ltb, ltb-false, not-true, or_parts}
use Rattle.std.proofs.lemmas.List.{append-nil}
use Rattle.tab_spec.specs.declared.numbers.Numbers.{Numbers}
use Rattle.tab_spec.specs.declared.TheConstants.{CONTEXT_GAP, LOADED_SESSIONS, OBJECT_SLOTS, SESSION_NUMBERS}
use Rattle.tab_spec.specs.Commands.{startup_command}
use Rattle.tab_spec.specs.Numbers.{AreInRange}
use Rattle.tab_spec.specs.declared.contexts.ContextLimits.{ContextLimits}
use Rattle.device_spec.specs.Answers.{profile_takes as takes, value_told}
use Rattle.device_spec.specs.Numbers.{FitWords, are_in, is_out, number_command, number_properties, values_of}
use Rattle.device_spec.specs.Slots.{SlotState, slot_step}
use Rattle.device_port.specs.Device.{Answered, Seen, Transmission, asked_of, last_of}
use Rattle.device_port.specs.Own.{Asks, AsksSome}
use Rattle.device_port.specs.declared.own.SwapError.{SwapError}
use Rattle.device_port.proofs.Sending.{cause_then, sends_one}
use Rattle.device_port.proofs.Telling.{own_number}
use Rattle.device_laws.specs.Remains.{IsPropertyTold}
use Rattle.device_laws.proofs.Telling.{active_told, gap_told, loaded_told, slots_told}
use Rattle.device_start.specs.declared.starting.StartError.{StartError}
use Rattle.device_start.specs.declared.starting.StartError.TheVariants as errors
use Rattle.device_start.specs.Start.{Attempts, HasNumber, HasStartCause, HasValues, MissesNumber, NotStarted, Runs, SendsOne, TakenIf, TellsProperties, answered, running}
use Rattle.device_start.proofs.Found.{runs_few, runs_now, some_same, stays_few}
use Rattle.device_start.proofs.Left.{few_then}
use Rattle.device_start.proofs.Sent.{answered_one, attempts_then, some_of, startup_attempts, taken_as}

-- ---- the numbers by their places

abbrev pub property_at : ℕ → ℕ
property_at place = get_or number_properties place 0

abbrev pub number_at : ℕ → Numbers → ℕ
number_at place numbers = get_or (values_of numbers) place 0

-- where a device tells its state, what it tells of its numbers fits
abbrev pub FitIf : Option SlotState → Type 0
FitIf state = IfSome state (λ slots. FitWords slots.numbers)

-- a device that runs tells the number at this place
pub record IsToldAt (place : ℕ) : Type 0 where
  pub word : property_at place < 2 ^ 32
  pub within : place < 4
  pub told : (slots : SlotState) → slots.started ≡ true → FitWords slots.numbers → IsPropertyTold slots (property_at place) (number_at place slots.numbers)

pub slots_at : IsToldAt 0
slots_at = record { word = omega arith; within = omega arith; told = λ slots started fit. slots_told slots started fit.slots }

pub loaded_at : IsToldAt 1
loaded_at = record { word = omega arith; within = omega arith; told = λ slots started fit. loaded_told slots started fit.loaded }

pub active_at : IsToldAt 2
active_at = record { word = omega arith; within = omega arith; told = λ slots started fit. active_told slots started fit.active }

pub gap_at : IsToldAt 3
gap_at = record { word = omega arith; within = omega arith; told = λ slots started fit. gap_told slots started fit.gap }

-- ---- one question

pub number_taken : (place : ℕ) (old now : Option SlotState) → IsToldAt place → is_some now ≡ is_some old → FitIf old → Runs old now
    → TakenIf (number_command (property_at place)) now
number_taken place old None law some fit runs = tt
number_taken place None (Some t) law some fit runs = absurd cc
number_taken place (Some s) (Some t) law some fit runs =
    subst (λ (slots : SlotState). takes true true (number_command (property_at place)) (slot_step slots (number_command (property_at place))).1 ≡ true)
    (sym (some_same (runs s refl))) (law.told (running s) refl fit).taken

number_runs : (place : ℕ) (old now new : Option SlotState) (response : List ℕ) → IsToldAt place → FitIf old → Runs old now
    → Answered now (number_command (property_at place)) new response → Runs old new
number_runs place None now new response law fit runs answered slots is = absurd cc
number_runs place (Some s) now new response law fit runs answered slots is =
    let at : Answered (Some (running s)) (number_command (property_at place)) new response =
    subst (λ (n : Option SlotState). Answered n (number_command (property_at place)) new response) (runs s refl) answered in
    at.0 ∙ ap (λ (t : SlotState). Some t) ((law.told (running s) refl fit).same ∙ ap running (some_same is))

number_is : (place value : ℕ) (old now new : Option SlotState) (response : List ℕ) → IsToldAt place → FitIf old → Runs old now
    → Answered now (number_command (property_at place)) new response → value_told response ≡ value
    → IfSome old (λ slots. number_at place slots.numbers ≡ value)
number_is place value None now new response law fit runs answered is = tt
number_is place value (Some s) now new response law fit runs answered is =
    let at : Answered (Some (running s)) (number_command (property_at place)) new response =
    subst (λ (n : Option SlotState). Answered n (number_command (property_at place)) new response) (runs s refl) answered in
    sym (law.told (running s) refl fit).value_is ∙ sym (ap value_told at.1) ∙ is

-- a question was answered
pub has_number : {contexts : ContextLimits} {D : Type 0} (seen : D → Seen) (old new : D) (property value : ℕ) (response : List ℕ) {command : List ℕ} → command ≡ number_command property
    → Asks {A = Unit {0}} contexts seen old new command (Ok tt) → Answered (seen old).state command (seen new).state response → last_of (seen new) ≡ Some response
    → value ≡ value_told response → HasNumber seen old new property value
has_number {contexts = contexts} seen old new property value response {command = command} is asks state last value_is =
    let one = asks.one ∙ ap (λ (bytes : List ℕ). record { command = bytes; response = last_of (seen new) } ∷ (seen old).trace) is in
    record {
      response = response;
      taken = taken_as contexts (asked_of (seen new)) (last_of (seen new)) (number_command property) response (asks.asked ∙ is) last asks.answered refl refl;
      value_is = sym value_is;
      trace_is = answered_one (number_command property) response (last_of (seen new)) (seen new).trace (seen old).trace one last;
      state = subst (λ (bytes : List ℕ). Answered (seen old).state bytes (seen new).state response) is state;
      base = asks.base;
      count = asks.count;
    }

-- ---- one value more

take_more : (all values : List ℕ) → length values < length all → take (length values) all ≡ values
    → take (suc (length values)) all ≡ values ++ get_or all (length values) 0 ∷ []
take_more [] values less is = absurd (omega (arith, less))
take_more (x ∷ all) [] less is = refl
take_more (x ∷ all) (value ∷ values) less is =
    let head : x ≡ value = cc in
    let tail : take (length values) all ≡ values = cc in
    let more = take_more all values (omega (arith, less)) tail in
    λ i. head i ∷ more i

own_more : (values : List ℕ) (value : ℕ) (old : Option SlotState) → length values < 4
    → IfSome old (λ slots. take (length values) (values_of slots.numbers) ≡ values) → IfSome old (λ slots. number_at (length values) slots.numbers ≡ value)
    → IfSome old (λ slots. take (length (values ++ value ∷ [])) (values_of slots.numbers) ≡ values ++ value ∷ [])
own_more values value None less own is = tt
own_more values value (Some s) less own is =
    let one_more : length (values ++ value ∷ []) ≡ suc (length values) = omega (arith, length-append values (value ∷ [])) in
    ap (λ (n : ℕ). take n (values_of s.numbers)) one_more ∙ take_more (values_of s.numbers) values less own ∙ ap (λ (v : ℕ). values ++ v ∷ []) is

not_by : (out : Bool) → out ≡ false → not out ≡ true
not_by true is = absurd cc
not_by false is = refl

range_more : (before values : List ℕ) (value : ℕ) → are_in before values ≡ true → is_out (before ++ values) value ≡ false
    → are_in before (values ++ value ∷ []) ≡ true
range_more before [] value range inside =
    and_from (not (is_out before value)) true (not_by (is_out before value) (ap (λ (list : List ℕ). is_out list value) (sym (append-nil before)) ∙ inside)) refl
range_more before (first ∷ values) value range inside =
    let parts = and_parts (not (is_out before first)) (are_in (before ++ first ∷ []) values) range in
    let later = ap (λ (list : List ℕ). is_out list value) (append_assoc before (first ∷ []) values) ∙ inside in
    and_from (not (is_out before first)) (are_in (before ++ first ∷ []) (values ++ value ∷ [])) parts.0
    (range_more (before ++ first ∷ []) values value parts.1 later)

tells_more : (properties values : List ℕ) (value : ℕ) (old mid new : List Transmission) (response : List ℕ) → length values < length properties
    → TellsProperties properties values old mid → takes true true (number_command (get_or properties (length values) 0)) response ≡ true → value_told response ≡ value
    → new ≡ answered (number_command (get_or properties (length values) 0)) response ∷ mid → TellsProperties properties (values ++ value ∷ []) old new
tells_more [] values value old mid new response less told taken is trace = absurd (omega (arith, less))
tells_more (property ∷ properties) [] value old mid new response less same taken is trace =
    (response, taken, is, trace ∙ ap (λ (t : List Transmission). answered (number_command property) response ∷ t) same)
tells_more (property ∷ properties) (first ∷ values) value old mid new response less (reply, reply_taken, first_is, told) taken is trace =
    (reply, reply_taken, first_is, tells_more properties values value _ mid new response (omega (arith, less)) told taken is trace)

-- ---- what calls leave

none_own : (old : Option SlotState) → IfSome old (λ slots. take 0 (values_of slots.numbers) ≡ [])
none_own None = tt
none_own (Some s) = refl

-- Startup came first
pub no_values : {contexts : ContextLimits} {D : Type 0} (seen : D → Seen) (old new : D) (reply : List ℕ) → SendsOne {A = Unit {0}} contexts seen old new startup_command (Ok tt)
    → Answered (seen old).state startup_command (seen new).state reply → HasValues contexts seen old new []
no_values seen old new reply sends answered =
    let (startup, startup_is, taken) = some_of (last_of (seen new)) sends.taken in
    let runs = runs_now _ _ _ answered in
    record {
      startup = startup;
      startup_taken = taken;
      told = answered_one _ startup _ _ _ sends.one startup_is;
      range = refl;
      own = none_own (seen old).state;
      runs = runs;
      attempts = startup_attempts {A = Unit {0}} seen old new (Ok tt) sends (runs_few _ _ runs);
    }

number_attempts : {contexts : ContextLimits} {D : Type 0} (seen : D → Seen) (old mid new : D) (values : List ℕ) (property value : ℕ) → property < 2 ^ 32 → HasValues contexts seen old mid values
    → HasNumber seen mid new property value → Runs (seen old).state (seen new).state → Attempts contexts seen old new
number_attempts {contexts = contexts} seen old mid new values property value word has number runs =
    attempts_then seen old mid new has.attempts
    (record {
      sent = answered (number_command property) number.response ∷ [];
      trace_is = number.trace_is;
      own = (own_number contexts property word, tt);
    })
    number.base number.count (runs_few _ _ runs)

-- its value is in range
pub values_more : {contexts : ContextLimits} {D : Type 0} (seen : D → Seen) (old mid new : D) (values : List ℕ) (value : ℕ) → IsToldAt (length values) → FitIf (seen old).state
    → HasValues contexts seen old mid values → HasNumber seen mid new (property_at (length values)) value → is_out values value ≡ false
    → HasValues contexts seen old new (values ++ value ∷ [])
values_more seen old mid new values value law fit has number inside =
    let place = length values in
    let runs = number_runs place _ _ _ number.response law fit has.runs number.state in
    record {
      startup = has.startup;
      startup_taken = has.startup_taken;
      told = tells_more number_properties values value _ (seen mid).trace (seen new).trace number.response law.within has.told number.taken number.value_is number.trace_is;
      range = range_more [] values value has.range inside;
      own = own_more values value (seen old).state law.within has.own
          (number_is place value _ _ _ number.response law fit has.runs number.state number.value_is);
      runs = runs;
      attempts = number_attempts seen old mid new values (property_at place) value law.word has number runs;
    }

-- ---- a value out of range

neither : (a b : Bool) → a ≡ false → b ≡ false → (a || b) ≡ false
neither true b is other = absurd cc
neither false b is other = other

either : (a b : Bool) → b ≡ true → (a || b) ≡ true
either true b is = refl
either false b is = is

pub outside : (least most value : ℕ) → (value < least) ⊎ (most < value) → (nat_lt value least || nat_lt most value) ≡ true
outside least most value (inl low) = ap (λ (b : Bool). b || nat_lt most value) (lt-ltb value least low)
outside least most value (inr high) = either (nat_lt value least) (nat_lt most value) (lt-ltb most value high)

first_of : (a b : Bool) → (a || b) ≡ true → b ≡ false → a ≡ true
first_of true b is other = refl
first_of false b is other = absurd cc

-- a value between its bounds is in range
pub between : (least most value : ℕ) → least ≤ value → value ≤ most → (nat_lt value least || nat_lt most value) ≡ false
between least most value low high = neither (nat_lt value least) (nat_lt most value) (le-ltb value least low) (le-ltb most value high)

pub above : (least value : ℕ) → least ≤ value → nat_lt value least ≡ false
above least value low = le-ltb value least low

-- a word isn't above the largest one
pub below : (least value : ℕ) → value < 2 ^ 32 → (nat_lt value least || nat_lt 4294967295 value) ≡ true → nat_lt value least ≡ true
below least value word out =
    first_of (nat_lt value least) (nat_lt 4294967295 value) out (le-ltb 4294967295 value (omega (arith, word)))

-- numbers in range have no value that is out of it
never_out : (values : List ℕ) (value : ℕ) (numbers : Numbers) → length values < 4 → take (suc (length values)) (values_of numbers) ≡ values ++ value ∷ []
    → AreInRange numbers → is_out values value ≡ false
never_out [] value numbers less own range =
    let same : numbers.slots ≡ value = cc in
    ap (is_out []) (sym same) ∙ between OBJECT_SLOTS 254 numbers.slots range.slots_least range.slots_most
never_out (slots ∷ []) value numbers less own range =
    let same : numbers.loaded ≡ value = cc in
    ap (is_out (slots ∷ [])) (sym same)
    ∙ between LOADED_SESSIONS SESSION_NUMBERS numbers.loaded range.loaded_least (omega (arith, range.loaded_most, range.active_most))
never_out (slots ∷ loaded ∷ []) value numbers less own range =
    let same : numbers.active ≡ value = cc in
    let before : numbers.loaded ≡ loaded = cc in
    (λ i. is_out (slots ∷ sym before i ∷ []) (sym same i))
    ∙ between numbers.loaded SESSION_NUMBERS numbers.active range.loaded_most range.active_most
never_out (slots ∷ loaded ∷ active ∷ []) value numbers less own range =
    let same : numbers.gap ≡ value = cc in
    ap (is_out (slots ∷ loaded ∷ active ∷ [])) (sym same) ∙ above CONTEXT_GAP numbers.gap range.gap_least
never_out (slots ∷ loaded ∷ active ∷ gap ∷ values) value numbers less own range = absurd (omega (arith, less))

not_in_range : (values : List ℕ) (value : ℕ) (old : Option SlotState) → length values < 4
    → IfSome old (λ slots. take (length values) (values_of slots.numbers) ≡ values) → IfSome old (λ slots. number_at (length values) slots.numbers ≡ value)
    → is_out values value ≡ true → IfSome old (λ slots. AreInRange slots.numbers → ⊥)
not_in_range values value None less own is out = tt
not_in_range values value (Some s) less own is out =
    let all = take_more (values_of s.numbers) values less own ∙ ap (λ (v : ℕ). values ++ v ∷ []) is in
    λ range. true≢false (sym out ∙ never_out values value s.numbers less all range)

-- the start ends at such a value
number_stops : {contexts : ContextLimits} {D : Type 0} (seen : D → Seen) (old mid new : D) (values : List ℕ) (value : ℕ) → IsToldAt (length values) → FitIf (seen old).state
    → HasValues contexts seen old mid values → HasNumber seen mid new (property_at (length values)) value → is_out values value ≡ true
    → NotStarted contexts seen old new (errors.Numbers (property_at (length values)) value)
number_stops seen old mid new values value law fit has number out =
    let place = length values in
    let runs = number_runs place _ _ _ number.response law fit has.runs number.state in
    let is = number_is place value _ _ _ number.response law fit has.runs number.state number.value_is in
    record {
      attempts = number_attempts seen old mid new values (property_at place) value law.word has number runs;
      cause = (
        record {
          startup = has.startup;
          startup_taken = has.startup_taken;
          out = record { before = values; are_in = has.range; out = out; property_is = refl };
          told = tells_more number_properties values value _ (seen mid).trace (seen new).trace number.response law.within has.told number.taken number.value_is number.trace_is;
        },
        not_in_range values value (seen old).state law.within has.own is out,
      );
    }

-- and at a question that isn't answered
number_fails : {contexts : ContextLimits} {D : Type 0} (seen : D → Seen) (old mid new : D) (values : List ℕ) (e : SwapError) → length values < 4 → HasValues contexts seen old mid values
    → Asks {A = Unit {0}} contexts seen mid new (number_command (property_at (length values))) (Err e) → NotStarted contexts seen old new (errors.Unanswered e)
number_fails {contexts = contexts} seen old mid new values e within has asks = record {
  attempts = attempts_then seen old mid new has.attempts (sends_one contexts seen mid new (number_command (property_at (length values))) (Err e) asks) asks.base asks.count
      (few_then _ (seen mid).state _ (runs_few _ _ has.runs) (stays_few _ _ asks.err));
  cause = (
    cause_then contexts seen old mid new e has.attempts.count asks.cause,
    inr (record {
      startup = has.startup;
      values = values;
      asked = (seen mid).trace;
      later = record { command = number_command (property_at (length values)); response = last_of (seen new) } ∷ [];
      startup_taken = has.startup_taken;
      told = has.told;
      range = has.range;
      trace_is = asks.one;
      next = inl (within, (last_of (seen new), refl));
    }),
  );
}

-- and at a command that isn't answered, behind all numbers
pub later_fails : {contexts : ContextLimits} {D : Type 0} (seen : D → Seen) (old mid new : D) (numbers : Numbers) (e : SwapError) → HasValues contexts seen old mid (values_of numbers)
    → AsksSome {A = Unit {0}} contexts seen mid new (Err e) → HasStartCause contexts seen (errors.Unanswered e) old new
later_fails {contexts = contexts} seen old mid new numbers e has asks = (
  cause_then contexts seen old mid new e has.attempts.count asks.cause,
  inr (record {
    startup = has.startup;
    values = values_of numbers;
    asked = (seen mid).trace;
    later = asks.own.sent;
    startup_taken = has.startup_taken;
    told = has.told;
    range = has.range;
    trace_is = asks.own.trace_is;
    next = inr (refl, asks.own.own, asks.before);
  }),
)

pub number_misses : {contexts : ContextLimits} {D : Type 0} (seen : D → Seen) (old mid new : D) (values : List ℕ) (least most : ℕ) (e : StartError) → IsToldAt (length values)
    → FitIf (seen old).state → HasValues contexts seen old mid values
    → ((value : ℕ) → value < 2 ^ 32 → (nat_lt value least || nat_lt most value) ≡ true → is_out values value ≡ true)
    → MissesNumber contexts seen mid new (property_at (length values)) least most e → NotStarted contexts seen old new e
number_misses seen old mid new values least most (errors.Unanswered e) law fit has outside asks =
    number_fails seen old mid new values e law.within has asks
number_misses {contexts = contexts} seen old mid new values least most (errors.Numbers property value) law fit has outside (same, number, out, word) =
    subst (λ (p : ℕ). NotStarted contexts seen old new (errors.Numbers p value)) (sym same)
    (number_stops seen old mid new values value law fit has number (outside value word out))

-- nothing but Startup was sent
pub startup_fails : {contexts : ContextLimits} {D : Type 0} (seen : D → Seen) (old new : D) (e : SwapError) → SendsOne {A = Unit {0}} contexts seen old new startup_command (Err e)
    → NotStarted contexts seen old new (errors.Unanswered e)
startup_fails seen old new e sends = record {
  attempts = startup_attempts {A = Unit {0}} seen old new (Err e) sends (stays_few _ _ sends.err);
  cause = (sends.cause, inl (last_of (seen new), sends.one));
}

-- ---- all four

pub numbers_own : (numbers : Numbers) (old : Option SlotState) → IfSome old (λ slots. take 4 (values_of slots.numbers) ≡ values_of numbers)
    → IfSome old (λ slots. slots.numbers ≡ numbers)
numbers_own numbers None own = tt
numbers_own numbers (Some s) own =
    let slots : s.numbers.slots ≡ numbers.slots = cc in
    let loaded : s.numbers.loaded ≡ numbers.loaded = cc in
    let active : s.numbers.active ≡ numbers.active = cc in
    let gap : s.numbers.gap ≡ numbers.gap = cc in
    λ i. record { slots = slots i; loaded = loaded i; active = active i; gap = gap i }

bounds_of : (least most value : ℕ) → not (nat_lt value least || nat_lt most value) ≡ true → (least ≤ value) × (value ≤ most)
bounds_of least most value inside =
    let parts = or_parts (nat_lt value least) (nat_lt most value) (not-true (nat_lt value least || nat_lt most value) inside) in
    (ltb-false value least parts.0, ltb-false most value parts.1)

pub numbers_range : (numbers : Numbers) → are_in [] (values_of numbers) ≡ true → AreInRange numbers
numbers_range numbers inside =
    let first = and_parts (not (is_out [] numbers.slots)) (are_in (numbers.slots ∷ []) (numbers.loaded ∷ numbers.active ∷ numbers.gap ∷ [])) inside in
    let second = and_parts (not (is_out (numbers.slots ∷ []) numbers.loaded)) (are_in (numbers.slots ∷ numbers.loaded ∷ []) (numbers.active ∷ numbers.gap ∷ [])) first.1 in
    let third = and_parts (not (is_out (numbers.slots ∷ numbers.loaded ∷ []) numbers.active))
    (are_in (numbers.slots ∷ numbers.loaded ∷ numbers.active ∷ []) (numbers.gap ∷ [])) second.1 in
    let fourth = and_parts (not (nat_lt numbers.gap CONTEXT_GAP)) true third.1 in
    let slots = bounds_of OBJECT_SLOTS 254 numbers.slots first.0 in
    let loaded = bounds_of LOADED_SESSIONS SESSION_NUMBERS numbers.loaded second.0 in
    let active = bounds_of numbers.loaded SESSION_NUMBERS numbers.active third.0 in
    record {
      slots_least = slots.0;
      slots_most = slots.1;
      loaded_least = loaded.0;
      loaded_most = active.0;
      active_most = active.1;
      gap_least = ltb-false numbers.gap CONTEXT_GAP (not-true (nat_lt numbers.gap CONTEXT_GAP) fourth.0);
    }
