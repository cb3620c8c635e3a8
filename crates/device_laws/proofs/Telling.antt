-- What a started device answers when it is asked for one of its numbers.
use Rattle.std.proofs.Common.{◌≡◌, ◌^◌, ◌<◌, ℕ, true, List, ◌∷◌, ◌++◌, length, refl, ◌∙◌, ap, arith}
use Rattle.std.specs.Prelude.{Some, Result, Ok, nat_lt, ◌==◌, ◌&&◌, if◌then◌else◌}
use Rattle.std.specs.Int.{w32, from_be_bytes, to_be_bytes}
use Rattle.std.proofs.Math.Nat.{min-eq_left}
use Rattle.std.proofs.lemmas.Bool.{and_from, eq-eqb}
use Rattle.std.proofs.lemmas.Nat.{from_be_bytes-to_be_bytes_4}
use Rattle.tab_spec.specs.declared.TheConstants.{CC_GET_CAPABILITY, RC_SUCCESS, ST_NO_SESSIONS, TRANSIENT_FIRST}
use Rattle.tab_spec.specs.Auths.{auths_of}
use Rattle.tab_spec.specs.Frame.{is_frame}
use Rattle.tab_spec.specs.Reply.{response}
use Rattle.tab_spec.specs.declared.contexts.TheConstants.{PROFILE_CONTEXTS}
use Rattle.effect_spec.specs.Capabilities.{device_limits, listed, property_items, property_pairs, transient_from}
use Rattle.device_spec.specs.declared.TheConstants.{PT_ACTIVE_SESSIONS_MAX, PT_CONTEXT_GAP_MAX, PT_HR_LOADED_MIN, PT_HR_TRANSIENT_MIN}
use Rattle.device_spec.specs.Answers.{is_success_form, is_word, takes, tells_property, value_told, word_at}
use Rattle.device_spec.specs.Numbers.{number_command}
use Rattle.device_spec.specs.Slots.{SlotState, Step, active_count, capability_told, get_capability, listed_from, slot_step, step_by}
use Rattle.device_laws.specs.Remains.{IsPropertyTold}
use Rattle.device_laws.proofs.ContextSteps.{row_known, step_goes}
use Rattle.device_laws.proofs.Frames.{response_is_frame}
use Rattle.device_laws.proofs.HandleLists.{lists_form}
use Rattle.device_laws.proofs.Listing.{list_row}

-- ---- the response: whether more are left over, the capability, a count of one, and the property with its value

abbrev item_of : ℕ → ℕ → List ℕ
item_of property value = to_be_bytes w32 property ++ to_be_bytes w32 value

abbrev told_body : ℕ → ℕ → ℕ → List ℕ
told_body more property value = more ∷ to_be_bytes w32 6 ++ to_be_bytes w32 1 ++ item_of property value

abbrev told_response : ℕ → ℕ → ℕ → List ℕ
told_response more property value = response ST_NO_SESSIONS RC_SUCCESS (told_body more property value)

-- it tells the property, and a broker takes it
tells_by : (first property : ℕ) → first ≡ property → (true && true && first == property && true) ≡ true
tells_by first property is = rw (eq-eqb first property is) refl

told_taken : (more property value : ℕ) → property < 2 ^ 32 → takes PROFILE_CONTEXTS true true (number_command property) (told_response more property value) ≡ true
told_taken more property value fits =
    let asked = number_command property in
    let last = told_response more property value in
    let same : from_be_bytes w32 (to_be_bytes w32 property) ≡ property = from_be_bytes-to_be_bytes_4 property fits in
    let from : word_at 14 asked ≡ Some property = ap (λ (p : ℕ). Some p) same in
    let tells : tells_property last property ≡ true = tells_by (from_be_bytes w32 (to_be_bytes w32 property)) property same in
    and_from (is_frame last) (is_success_form PROFILE_CONTEXTS true asked last) (response_is_frame ST_NO_SESSIONS RC_SUCCESS (told_body more property value) (omega arith))
    (lists_form (is_word (tells_property last) (word_at 14 asked)) (ap (is_word (tells_property last)) from ∙ tells))

-- ---- the step

abbrev number_params : ℕ → List ℕ
number_params property = to_be_bytes w32 6 ++ to_be_bytes w32 property ++ to_be_bytes w32 1

number_goes : (slots : SlotState) (property : ℕ) → slots.started ≡ true
    → slot_step slots (number_command property) ≡ step_by slots (get_capability slots (number_params property))
unfolding auths_of
number_goes slots property started =
    step_goes slots list_row (number_command property) started (row_known CC_GET_CAPABILITY list_row (number_params property) (omega arith) refl refl)

-- the properties from this one on
abbrev items_from : SlotState → ℕ → List (List ℕ)
items_from slots property =
    property_items (property_pairs (device_limits slots.numbers) (transient_from TRANSIENT_FIRST slots.slots) (listed_from 0 slots.sessions) (active_count slots.sessions))
    property

-- what is told of these items
abbrev items_told : SlotState → ℕ → List (List ℕ) → Result Step ℕ
items_told slots property items = capability_told slots (Ok (listed (record { capability = 6; property = property; count = 1 }) items))

number_told : (slots : SlotState) (property : ℕ) → property < 2 ^ 32
    → get_capability slots (number_params property) ≡ items_told slots property (items_from slots property)
number_told slots property fits = ap (λ (p : ℕ). items_told slots p (items_from slots p)) (from_be_bytes-to_be_bytes_4 property fits)

-- the first of them, and whether more are left over
abbrev more_than_one : List (List ℕ) → ℕ
more_than_one items = if nat_lt 1 (length items) then 1 else 0

first_listed : (property value : ℕ) (rest : List (List ℕ))
    → listed (record { capability = 6; property = property; count = 1 }) (item_of property value ∷ rest)
    ≡ told_body (more_than_one (item_of property value ∷ rest)) property value
first_listed property value rest =
    let items = item_of property value ∷ rest in
    ap (λ (count : ℕ). more_than_one items ∷ to_be_bytes w32 6 ++ to_be_bytes w32 count ++ item_of property value) (min-eq_left {n = 1} {m = length items} (omega arith))

told_by : (slots : SlotState) (property value : ℕ) (rest : List (List ℕ)) → slots.started ≡ true → property < 2 ^ 32 → value < 2 ^ 32
    → items_from slots property ≡ item_of property value ∷ rest
    → IsPropertyTold slots property value
told_by slots property value rest started fits small items =
    let more : ℕ = more_than_one (item_of property value ∷ rest) in
    let steps : slot_step slots (number_command property) ≡ (slots, told_response more property value) =
    number_goes slots property started ∙ ap (step_by slots) (number_told slots property fits)
    ∙ ap (λ (found : List (List ℕ)). step_by slots (items_told slots property found)) items
    ∙ ap (λ (body : List ℕ). (slots, response ST_NO_SESSIONS RC_SUCCESS body)) (first_listed property value rest) in
    record {
      same = ap (λ (step : Step). step.0) steps;
      taken = ap (λ (step : Step). takes PROFILE_CONTEXTS true true (number_command property) step.1) steps ∙ told_taken more property value fits;
      value_is = ap (λ (step : Step). value_told step.1) steps ∙ from_be_bytes-to_be_bytes_4 value small;
    }

-- ---- the four numbers

pub slots_told : (slots : SlotState) → slots.started ≡ true → slots.numbers.slots < 2 ^ 32 → IsPropertyTold slots PT_HR_TRANSIENT_MIN slots.numbers.slots
unfolding property_items
slots_told slots started fits =
    told_by slots PT_HR_TRANSIENT_MIN slots.numbers.slots (items_from slots PT_HR_LOADED_MIN) started (omega arith) fits refl

pub loaded_told : (slots : SlotState) → slots.started ≡ true → slots.numbers.loaded < 2 ^ 32 → IsPropertyTold slots PT_HR_LOADED_MIN slots.numbers.loaded
unfolding property_items
loaded_told slots started fits =
    told_by slots PT_HR_LOADED_MIN slots.numbers.loaded (items_from slots PT_ACTIVE_SESSIONS_MAX) started (omega arith) fits refl

pub active_told : (slots : SlotState) → slots.started ≡ true → slots.numbers.active < 2 ^ 32 → IsPropertyTold slots PT_ACTIVE_SESSIONS_MAX slots.numbers.active
unfolding property_items
active_told slots started fits =
    told_by slots PT_ACTIVE_SESSIONS_MAX slots.numbers.active (items_from slots 0x112) started (omega arith) fits refl

pub gap_told : (slots : SlotState) → slots.started ≡ true → slots.numbers.gap < 2 ^ 32 → IsPropertyTold slots PT_CONTEXT_GAP_MAX slots.numbers.gap
unfolding property_items
gap_told slots started fits = told_by slots PT_CONTEXT_GAP_MAX slots.numbers.gap (items_from slots 0x11e) started (omega arith) fits refl
