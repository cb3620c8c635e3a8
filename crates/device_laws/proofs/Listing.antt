-- What a started device answers when it is asked for the handles of all that it holds.
use Rattle.std.proofs.Common.{◌≡◌, ◌+◌, ◌^◌, ◌<◌, ◌≤◌, ℕ, Bool, true, false, List, [], ◌∷◌, ◌++◌, length, take, refl, ◌∙◌, ap, arith}
use Rattle.std.specs.Prelude.{Option, Some, None, Result, Ok, map, min, nat_le, nat_lt, not, ◌&&◌, if◌then◌else◌}
use Rattle.std.specs.List.{filter}
use Rattle.std.specs.Int.{w32, to_be_bytes}
use Rattle.std.proofs.Math.Nat.{min-eq_right}
use Rattle.std.proofs.lemmas.Bool.{le-leb, le-ltb}
use Rattle.std.proofs.lemmas.List.{length-map, take_all}
use Rattle.std.proofs.lemmas.Nat.{from_be_bytes-to_be_bytes_4}
use Rattle.tab_spec.specs.declared.TheConstants.{CC_GET_CAPABILITY, RC_SUCCESS, ST_NO_SESSIONS, TRANSIENT_FIRST}
use Rattle.tab_spec.specs.declared.CommandRow.{CommandRow}
use Rattle.tab_spec.specs.declared.Kind.TheVariants.{Absent}
use Rattle.tab_spec.specs.Auths.{auths_of}
use Rattle.tab_spec.specs.Commands.{command_row}
use Rattle.tab_spec.specs.Object.{Object}
use Rattle.tab_spec.specs.Reply.{response}
use Rattle.tab_spec.specs.Shape.{number_of_session}
use Rattle.tab_spec.specs.declared.contexts.TheConstants.{PROFILE_CONTEXTS}
use Rattle.effect_spec.specs.Capabilities.{Listed, from_number, handles_listed, joined_items, listed_sessions, listed_with, most_items, transient_from}
use Rattle.effect_spec.specs.Capabilities.{handle_items as items_of}
use Rattle.device_spec.specs.Answers.{listed_handles, takes}
use Rattle.device_spec.specs.Remains.{handles_command, handles_of_sessions, object_handles, session_handles}
use Rattle.device_spec.specs.Slots.{IsSlots, SlotState, Step, capability_told, get_capability, listed_from, slot_step, step_by}
use Rattle.device_laws.specs.Remains.{IsListed}
use Rattle.device_laws.proofs.ContextSteps.{row_known, step_goes}
use Rattle.device_laws.proofs.HandleLists.{AreListed, handle_items, list_body, list_response, list_taken, listed_again}
use Rattle.device_laws.proofs.Held.{objects_few, objects_listed, sessions_few, sessions_listed}

-- ---- the step

abbrev pub list_row : CommandRow
list_row = command_row CC_GET_CAPABILITY Absent Absent 0 false

abbrev list_params : ℕ → List ℕ
list_params property = to_be_bytes w32 1 ++ to_be_bytes w32 property ++ to_be_bytes w32 most_items

list_goes : (slots : SlotState) (property : ℕ) → slots.started ≡ true
    → slot_step slots (handles_command property) ≡ step_by slots (get_capability slots (list_params property))
unfolding auths_of
list_goes slots property started =
    step_goes slots list_row (handles_command property) started (row_known CC_GET_CAPABILITY list_row (list_params property) (omega arith) refl refl)

-- what is told of these items
abbrev items_told : SlotState → ℕ → Result (List (List ℕ)) ℕ → Result Step ℕ
items_told slots property items =
    capability_told slots (handles_listed (record { capability = 1; property = property; count = most_items }) items)

abbrev items_from : SlotState → ℕ → Result (List (List ℕ)) ℕ
items_from slots property = items_of slots.persist (object_handles slots) (listed_from 0 slots.sessions) property

list_told : (slots : SlotState) (property : ℕ) → property < 2 ^ 32
    → get_capability slots (list_params property) ≡ items_told slots property (items_from slots property)
list_told slots property fits = ap (λ (p : ℕ). items_told slots p (items_from slots p)) (from_be_bytes-to_be_bytes_4 property fits)

-- a list that isn't too long is whole
whole_by : (more : Bool) (count : ℕ) (taken items : List (List ℕ)) → more ≡ false → count ≡ length items → taken ≡ items
    → (if more then 1 else 0) ∷ to_be_bytes w32 1 ++ to_be_bytes w32 count ++ joined_items taken
    ≡ 0 ∷ to_be_bytes w32 1 ++ to_be_bytes w32 (length items) ++ joined_items items
whole_by more count taken items none all same = rw (none, all, same) refl

listed_whole : (most : ℕ) (items : List (List ℕ)) → length items ≤ most
    → listed_with 1 most items ≡ 0 ∷ to_be_bytes w32 1 ++ to_be_bytes w32 (length items) ++ joined_items items
listed_whole most items few =
    whole_by (nat_lt most (length items)) (min most (length items)) (take most items) items (le-ltb most (length items) few)
    (min-eq_right few) (take_all most items few)

body_whole : (handles : List ℕ) → length handles ≤ 254 → listed_with 1 most_items (handle_items handles) ≡ list_body handles
body_whole handles few =
    listed_whole most_items (handle_items handles) (omega (arith, few, length-map handles (λ n. to_be_bytes w32 n)))
    ∙ ap (λ (count : ℕ). 0 ∷ to_be_bytes w32 1 ++ to_be_bytes w32 count ++ joined_items (handle_items handles)) (length-map handles (λ n. to_be_bytes w32 n))

list_step : (slots : SlotState) (property : ℕ) (handles : List ℕ) → slots.started ≡ true → property < 2 ^ 32
    → items_from slots property ≡ Ok (handle_items handles) → length handles ≤ 254
    → slot_step slots (handles_command property) ≡ (slots, list_response handles)
list_step slots property handles started fits items few =
    list_goes slots property started ∙ ap (step_by slots) (list_told slots property fits)
    ∙ ap (λ (found : Result (List (List ℕ)) ℕ). step_by slots (items_told slots property found)) items
    ∙ ap (λ (body : List ℕ). (slots, response ST_NO_SESSIONS RC_SUCCESS body)) (body_whole handles few)

listed_by : (slots : SlotState) (property : ℕ) (handles : List ℕ) → slots.started ≡ true → property < 2 ^ 32
    → items_from slots property ≡ Ok (handle_items handles) → length handles ≤ 254 → AreListed property handles → IsListed slots property handles
listed_by slots property handles started fits items few all =
    let steps = list_step slots property handles started fits items few in
    record {
      same = ap (λ (step : Step). step.0) steps;
      taken = ap (λ (step : Step). takes PROFILE_CONTEXTS true true (handles_command property) step.1) steps ∙ list_taken property handles fits few all;
      handles_are = ap (λ (step : Step). listed_handles step.1) steps ∙ listed_again property handles few all;
    }

-- ---- the items: no handle is below the one that was asked for

object_items : (least from : ℕ) (slots : List (Option Object)) → least ≤ from
    → from_number least (transient_from from slots) ≡ handle_items (transient_from from slots)
unfolding from_number
object_items least from [] above = refl
object_items least from (None ∷ slots) above = object_items least (from + 1) slots (omega arith)
object_items least from (Some o ∷ slots) above =
    rw (le-leb least from above) (ap (λ (items : List (List ℕ)). to_be_bytes w32 from ∷ items) (object_items least (from + 1) slots (omega arith)))

item_kept : (test above : Bool) (s : Listed) (left right : List Listed) → above ≡ true
    → map (λ (s : Listed). to_be_bytes w32 s.handle) left ≡ handle_items (map (λ (s : Listed). s.handle) right)
    → map (λ (s : Listed). to_be_bytes w32 s.handle) (if test && above then s ∷ left else left)
    ≡ handle_items (map (λ (s : Listed). s.handle) (if test then s ∷ right else right))
item_kept true above s left right is same = rw is (ap (λ (items : List (List ℕ)). to_be_bytes w32 s.handle ∷ items) same)
item_kept false above s left right is same = same

session_items : (in_use : Bool) (sessions : List Listed) → listed_sessions in_use 0 sessions ≡ handle_items (handles_of_sessions in_use sessions)
session_items in_use [] = refl
session_items in_use (s ∷ sessions) =
    item_kept (if in_use then s.in_use else not s.in_use) (nat_le 0 (number_of_session s.handle)) s
    (filter (λ (s : Listed). (if in_use then s.in_use else not s.in_use) && nat_le 0 (number_of_session s.handle)) sessions)
    (filter (λ (s : Listed). if in_use then s.in_use else not s.in_use) sessions)
    (le-leb 0 (number_of_session s.handle) (omega arith)) (session_items in_use sessions)

-- ---- the three lists

pub objects_are_listed : (slots : SlotState) → IsSlots slots → slots.started ≡ true → IsListed slots 0x80000000 (object_handles slots)
objects_are_listed slots sound started =
    listed_by slots 0x80000000 (object_handles slots) started (omega arith)
    (ap (λ (items : List (List ℕ)). let found : Result (List (List ℕ)) ℕ = Ok items in found) (object_items 0x80000000 TRANSIENT_FIRST slots.slots (omega arith)))
    (omega (arith, objects_few TRANSIENT_FIRST slots.slots, sound.count, sound.range.slots_most))
    (objects_listed TRANSIENT_FIRST slots.slots (omega arith) (omega (arith, sound.count, sound.range.slots_most)))

pub loaded_are_listed : (slots : SlotState) → IsSlots slots → slots.started ≡ true → IsListed slots 0x02000000 (session_handles true slots)
loaded_are_listed slots sound started =
    listed_by slots 0x02000000 (session_handles true slots) started (omega arith)
    (ap (λ (items : List (List ℕ)). let found : Result (List (List ℕ)) ℕ = Ok items in found) (session_items true (listed_from 0 slots.sessions)))
    (omega (arith, sessions_few true 0 slots.sessions, sound.numbers))
    (sessions_listed 0x02000000 true slots.counter 0 slots.sessions (λ handle is. is) sound.places (omega (arith, sound.numbers)))

pub saved_are_listed : (slots : SlotState) → IsSlots slots → slots.started ≡ true → IsListed slots 0x03000000 (session_handles false slots)
saved_are_listed slots sound started =
    listed_by slots 0x03000000 (session_handles false slots) started (omega arith)
    (ap (λ (items : List (List ℕ)). let found : Result (List (List ℕ)) ℕ = Ok items in found) (session_items false (listed_from 0 slots.sessions)))
    (omega (arith, sessions_few false 0 slots.sessions, sound.numbers))
    (sessions_listed 0x03000000 false slots.counter 0 slots.sessions (λ handle is. is) sound.places (omega (arith, sound.numbers)))
