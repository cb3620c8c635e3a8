-- What a device that tells its state answers to the commands that move objects, and what they make of the state.
use Rattle.std.proofs.Common.{◌≡◌, ◌+◌, ◌<◌, ◌≤◌, ◌^◌, ℕ, Bool, true, false, List, [], ◌∷◌, length, take, drop, refl, ap, subst, sym, ◌∙◌, arith}
use Rattle.std.specs.Prelude.{◌==◌, nat_le, Option, Some, None, is_some, IfSome}
use Rattle.std.specs.Int.{w32, from_be_bytes}
use Rattle.std.proofs.lemmas.Bool.{lt-leb}
use Rattle.std.proofs.lemmas.Nat.{from_be_bytes-to_be_bytes_4}
use Rattle.tab_spec.specs.declared.TheConstants.{CONTEXT_LIMIT, HT_TRANSIENT, RC_SUCCESS, ST_NO_SESSIONS, TRANSIENT_FIRST, MOST_CONTEXT_BYTES}
use Rattle.tab_spec.specs.Object.{Object, IsObject}
use Rattle.tab_spec.specs.Reply.{response, with_response_handle}
use Rattle.tab_spec.specs.Shape.{octet_of}
use Rattle.effect_spec.specs.Contexts.{object_context}
use Rattle.device_spec.specs.ContextCommands.{context_load_command, context_save_command, flush_context_command}
use Rattle.device_spec.specs.Answers.{profile_takes as takes}
use Rattle.device_spec.specs.Slots.{SlotState, Step, free_slot, in_slot, object_at, object_saved, slot_of, slot_step, step_by, with_slot}
use Rattle.device_port.specs.Device.{Answered}
use Rattle.device_laws.proofs.ContextSteps.{object_flush_step, object_load_step, object_save_step}
use Rattle.device_laws.proofs.Moves.{flush_taken, load_taken, save_taken}
use Rattle.device_laws.proofs.FreshContexts.{fresh_object_at, object_at_is}
use Rattle.object_swap.specs.Moves.{IsIn, IsLeast, IsOut, counted, emptied, filled}
use Rattle.object_swap.proofs.Moved.{free}

-- what is there
pub some_of : (o : Option Object) → is_some o ≡ true → (object : Object) × (o ≡ Some object)
some_of None is = absurd cc
some_of (Some o) is = (o, refl)

object_is : (o : Option Object) (object : Object) → o ≡ Some object → IfSome o IsObject → IsObject object
object_is o object is all = subst (λ (o : Option Object). IfSome o IsObject) is all

-- ---- ContextSave

-- with the response
pub record Steps (slots : SlotState) (asked : List ℕ) (after : SlotState) (reply : List ℕ) : Type 0 where
  pub state : (slot_step slots asked).0 ≡ after
  pub response : (slot_step slots asked).1 ≡ reply
  pub taken : takes true true asked (slot_step slots asked).1 ≡ true

steps_from : (slots : SlotState) (asked : List ℕ) (after : SlotState) (reply : List ℕ) → slot_step slots asked ≡ (after, reply)
    → takes true true asked (slot_step slots asked).1 ≡ true → Steps slots asked after reply
steps_from slots asked after reply is taken = record {
  state = ap (λ (step : Step). step.0) is;
  response = ap (λ (step : Step). step.1) is;
  taken = taken;
}

abbrev counted_slots : SlotState → SlotState
counted_slots slots = record slots { object_counter = slots.object_counter + 1 }

saved_step : (slots : SlotState) (o : Object) (full : Bool) → nat_le CONTEXT_LIMIT slots.object_counter ≡ full → full ≡ false
    → step_by slots (object_saved slots (Some o)) ≡ (counted_slots slots, response ST_NO_SESSIONS RC_SUCCESS (object_context slots.persist.seed slots.object_counter o))
saved_step slots o full test is = rw (test ∙ is) refl

pub record Save (slots : SlotState) (handle : ℕ) (o : Object) : Type 0 where
  pub there : in_slot slots handle ≡ Some o
  pub found : object_at slots None (Some (object_context slots.persist.seed slots.object_counter o)) ≡ Some o
  pub steps : Steps slots (context_save_command handle) (counted_slots slots)
      (response ST_NO_SESSIONS RC_SUCCESS (object_context slots.persist.seed slots.object_counter o))

save_of : (slots : SlotState) (handle : ℕ) (o : Object) → handle < 2 ^ 32 → (octet_of handle == HT_TRANSIENT) ≡ true → IsIn slots handle
    → slots.object_counter < CONTEXT_LIMIT → in_slot slots handle ≡ Some o → Save slots handle o
save_of slots handle o fits transient is below there =
    let object = object_is (in_slot slots handle) o there (object_at_is slots (Some (slot_of handle)) None is.sound) in
    let step = object_save_step slots handle o is.started fits transient there
    ∙ saved_step slots o (nat_le CONTEXT_LIMIT slots.object_counter) refl (lt-leb CONTEXT_LIMIT slots.object_counter below) in
    record {
      there = there;
      found = fresh_object_at slots slots.object_counter o object (omega arith);
      steps = steps_from slots (context_save_command handle) _ _ step (save_taken slots handle o is.sound is.started fits transient there below);
    }

pub save_told : (state : Option SlotState) (handle : ℕ) → handle < 2 ^ 32 → (octet_of handle == HT_TRANSIENT) ≡ true
    → IfSome state (λ slots. IsIn slots handle × (slots.object_counter < CONTEXT_LIMIT))
    → IfSome state (λ slots. takes true true (context_save_command handle) (slot_step slots (context_save_command handle)).1 ≡ true)
save_told None handle fits transient can = tt
save_told (Some slots) handle fits transient can =
    let there = some_of (in_slot slots handle) can.0.there in
    (save_of slots handle there.0 fits transient can.0 can.1 there.1).steps.taken

-- what the response and the state after it are
pub record SaveTold (state new_state : Option SlotState) (handle : ℕ) (last : List ℕ) : Type 0 where
  pub state_is : new_state ≡ counted state
  pub same : IfSome state (λ slots. object_at slots None (Some (drop 10 last)) ≡ in_slot slots handle)

pub save_answered : (state new_state : Option SlotState) (handle : ℕ) (last : List ℕ) → handle < 2 ^ 32 → (octet_of handle == HT_TRANSIENT) ≡ true
    → IfSome state (λ slots. IsIn slots handle × (slots.object_counter < CONTEXT_LIMIT))
    → Answered state (context_save_command handle) new_state last → SaveTold state new_state handle last
save_answered None new_state handle last fits transient can answered = record { state_is = answered; same = tt }
save_answered (Some slots) new_state handle last fits transient can answered =
    let there = some_of (in_slot slots handle) can.0.there in
    let save = save_of slots handle there.0 fits transient can.0 can.1 there.1 in
    record {
      state_is = answered.0 ∙ ap (λ (slots : SlotState). Some slots) save.steps.state;
      same = ap (λ (last : List ℕ). object_at slots None (Some (drop 10 last))) (answered.1 ∙ save.steps.response) ∙ save.found ∙ sym save.there;
    }

-- ---- FlushContext

flush_of : (slots : SlotState) (handle : ℕ) (o : Object) → handle < 2 ^ 32 → (octet_of handle == HT_TRANSIENT) ≡ true → IsIn slots handle
    → in_slot slots handle ≡ Some o
    → Steps slots (flush_context_command handle) (with_slot slots (slot_of handle) None) (response ST_NO_SESSIONS RC_SUCCESS [])
flush_of slots handle o fits transient is there =
    steps_from slots (flush_context_command handle) _ _ (object_flush_step slots handle o is.started fits transient there) (flush_taken slots handle o is.started fits transient there)

pub flush_told : (state : Option SlotState) (handle : ℕ) → handle < 2 ^ 32 → (octet_of handle == HT_TRANSIENT) ≡ true
    → IfSome state (λ slots. IsIn slots handle)
    → IfSome state (λ slots. takes true true (flush_context_command handle) (slot_step slots (flush_context_command handle)).1 ≡ true)
flush_told None handle fits transient can = tt
flush_told (Some slots) handle fits transient can =
    let there = some_of (in_slot slots handle) can.there in
    (flush_of slots handle there.0 fits transient can there.1).taken

pub flush_answered : (state new_state : Option SlotState) (handle : ℕ) (last : List ℕ) → handle < 2 ^ 32 → (octet_of handle == HT_TRANSIENT) ≡ true
    → IfSome state (λ slots. IsIn slots handle) → Answered state (flush_context_command handle) new_state last → new_state ≡ emptied handle state
flush_answered None new_state handle last fits transient can answered = answered
flush_answered (Some slots) new_state handle last fits transient can answered =
    let there = some_of (in_slot slots handle) can.there in
    answered.0 ∙ ap (λ (slots : SlotState). Some slots) (flush_of slots handle there.0 fits transient can there.1).state

-- ---- ContextLoad

load_of : (slots : SlotState) (context : List ℕ) (o : Object) → length context ≤ MOST_CONTEXT_BYTES → IsOut slots context → object_at slots None (Some context) ≡ Some o
    → Steps slots (context_load_command context) (with_slot slots (free_slot slots.slots) (Some o))
    (with_response_handle (response ST_NO_SESSIONS RC_SUCCESS (0 ∷ 0 ∷ 0 ∷ 0 ∷ [])) (TRANSIENT_FIRST + free_slot slots.slots))
load_of slots context o few out there =
    steps_from slots (context_load_command context) _ _ (object_load_step slots context o out.started (omega (arith, few)) out.room there)
    (load_taken slots context o out.sound out.started (omega (arith, few)) out.room there)

pub load_told : (state : Option SlotState) (context : List ℕ) → length context ≤ MOST_CONTEXT_BYTES → IfSome state (λ slots. IsOut slots context)
    → IfSome state (λ slots. takes true true (context_load_command context) (slot_step slots (context_load_command context)).1 ≡ true)
load_told None context few can = tt
load_told (Some slots) context few can =
    let there = some_of (object_at slots None (Some context)) can.there in
    (load_of slots context there.0 few can there.1).taken

pub record LoadTold (state new_state : Option SlotState) (context last : List ℕ) : Type 0 where
  pub state_is : new_state ≡ filled context state
  pub least : IsLeast state (from_be_bytes w32 (take 4 (drop 10 last)))

pub load_answered : (state new_state : Option SlotState) (context last : List ℕ) → length context ≤ MOST_CONTEXT_BYTES → IfSome state (λ slots. IsOut slots context)
    → Answered state (context_load_command context) new_state last → LoadTold state new_state context last
load_answered None new_state context last small can answered = record { state_is = answered; least = tt }
load_answered (Some slots) new_state context last small can answered =
    let there = some_of (object_at slots None (Some context)) can.there in
    let steps = load_of slots context there.0 small can there.1 in
    let free = free slots.slots can.room in
    let few : length slots.slots ≤ 254 = omega (arith, can.sound.count, can.sound.range.slots_most) in
    record {
      state_is = answered.0 ∙ ap (λ (slots : SlotState). Some slots) steps.state
          ∙ ap (λ (o : Option Object). Some (with_slot slots (free_slot slots.slots) o)) (sym there.1);
      least = ap (λ (last : List ℕ). from_be_bytes w32 (take 4 (drop 10 last))) (answered.1 ∙ steps.response)
          ∙ from_be_bytes-to_be_bytes_4 (TRANSIENT_FIRST + free_slot slots.slots) (omega (arith, free.fits, few));
    }
