-- GetCapability's list of what a machine holds.
use Rattle.std.proofs.Common.{◌≡◌, ◌∙◌, ◌≤◌, ℕ, List, length, Ok, Err, ap, sym, subst}
use Rattle.std.specs.Prelude.{MatchResult, Option, Result}
use Rattle.std.proofs.lemmas.List.{take_all}
use Rattle.tab_spec.specs.Commands.{all_commands}
use Rattle.tab_spec.specs.Object.{Object}
use Rattle.tab_spec.specs.Reply.{response}
use Rattle.tab_spec.specs.declared.TheConstants.{SESSION_NUMBERS, RC_SUCCESS, ST_NO_SESSIONS, TRANSIENT_FIRST}
use Rattle.effect_spec.specs.Capabilities.{CapabilityLimits, capability_of, device_limits}
use Rattle.effect_spec.specs.Capabilities.{transient_from}
use Rattle.device_spec.specs.Slots.{SlotState, SessionPlace, active_count, listed_from, capability_row, capability_told, Step}
use Rattle.device_slots.specs.Listed.{MOST_SLOTS, objects_of, sessions_of}

-- all the slots of a machine
pub all_objects : (slots : SlotState) → length slots.slots ≤ MOST_SLOTS → objects_of slots ≡ transient_from TRANSIENT_FIRST slots.slots
all_objects slots few = ap (λ (os : List (Option Object)). transient_from TRANSIENT_FIRST os) (take_all MOST_SLOTS slots.slots few)

pub same_row : (slots : SlotState) (limits : CapabilityLimits) (active : ℕ) (params : List ℕ) → limits ≡ device_limits slots.numbers
    → active ≡ active_count slots.sessions → length slots.slots ≤ MOST_SLOTS → length slots.sessions ≤ SESSION_NUMBERS
    → capability_row slots params
    ≡ capability_of limits all_commands slots.persist (objects_of slots) (listed_from 0 (sessions_of slots)) active params
same_row slots limits active params device counted few less =
    sym (
    ap (λ (l : CapabilityLimits). capability_of l all_commands slots.persist (objects_of slots) (listed_from 0 (sessions_of slots)) active params) device
    ∙ ap (λ (os : List (Option Object)). capability_of (device_limits slots.numbers) all_commands slots.persist (transient_from TRANSIENT_FIRST os) (listed_from 0 (sessions_of slots)) active params)
    (take_all MOST_SLOTS slots.slots few)
    ∙ ap (λ (ps : List SessionPlace). capability_of (device_limits slots.numbers) all_commands slots.persist (transient_from TRANSIENT_FIRST slots.slots) (listed_from 0 ps) active params)
    (take_all SESSION_NUMBERS slots.sessions less)
    ∙ ap (λ (n : ℕ). capability_of (device_limits slots.numbers) all_commands slots.persist (transient_from TRANSIENT_FIRST slots.slots) (listed_from 0 slots.sessions) n params) counted)

-- the same, where the state is seen by its fields
pub row_seen : (view slots : SlotState) (limits : CapabilityLimits) (active : ℕ) (params : List ℕ) → view ≡ slots → limits ≡ device_limits view.numbers
    → active ≡ active_count view.sessions → length view.slots ≤ MOST_SLOTS → length view.sessions ≤ SESSION_NUMBERS
    → capability_row slots params
    ≡ capability_of limits all_commands view.persist (objects_of slots) (listed_from 0 (sessions_of slots)) active params
row_seen view slots limits active params same device counted few less =
    subst (λ (m : SlotState). capability_row m params ≡ capability_of limits all_commands view.persist (objects_of m) (listed_from 0 (sessions_of m)) active params) same
    (same_row view limits active params device counted few less)

abbrev pub done : SlotState → List ℕ → Result Step ℕ
done slots reply = Ok (slots, reply)

pub succeeds : (slots : SlotState) (row : Result (List ℕ) ℕ) (params reply : List ℕ) → row ≡ Ok params
    → reply ≡ response ST_NO_SESSIONS RC_SUCCESS params → capability_told slots row ≡ Ok (slots, reply)
succeeds slots row params reply is whole = ap (capability_told slots) is ∙ ap (done slots) (sym whole)

pub refuses : (slots : SlotState) (row : Result (List ℕ) ℕ) (code : ℕ) → row ≡ Err code → capability_told slots row ≡ Err code
refuses slots row code is = ap (capability_told slots) is

pub refused_as : {T : Type 0} (result : Result T ℕ) (whole : Result Step ℕ) (Well : T → Type 0) (code found : ℕ) → result ≡ Err found
    → found ≡ code → whole ≡ Err code → MatchResult result Well (λ n. whole ≡ Err n)
refused_as {T} result whole Well code found is same refused =
    subst (λ (r : Result T ℕ). MatchResult r Well (λ n. whole ≡ Err n)) (sym is) (subst (λ (n : ℕ). whole ≡ Err n) (sym same) refused)
