-- What a flush leaves of what a device holds: everything but the first thing that the device lists.
use Rattle.std.proofs.Common.{◌≡◌, ◌+◌, ◌*◌, ◌^◌, ◌<◌, ℕ, Bool, true, false, List, [], ◌∷◌, ◌++◌, length, get_or, set, take, refl, ◌∙◌, sym, ap, subst, arith, length-append}
use Rattle.std.specs.Prelude.{Some, None, nat_lt}
use Rattle.std.specs.Int.{w32, to_be_bytes}
use Rattle.std.specs.List.{list_all}
use Rattle.std.proofs.lemmas.Bool.{and_parts, ltb-true}
use Rattle.tab_spec.specs.declared.TheConstants.{RC_SUCCESS, ST_NO_SESSIONS, TRANSIENT_FIRST}
use Rattle.tab_spec.specs.Object.{Object}
use Rattle.tab_spec.specs.Reply.{response}
use Rattle.tab_spec.specs.Shape.{octet_of}
use Rattle.tab_spec.specs.Values.{AreBytes}
use Rattle.tab_spec.specs.declared.contexts.TheConstants.{PROFILE_CONTEXTS}
use Rattle.device_spec.specs.Answers.{takes}
use Rattle.device_spec.specs.ContextCommands.{flush_context_command}
use Rattle.device_spec.specs.Remains.{emptied, object_handles, remains, session_handles}
use Rattle.device_spec.specs.Slots.{IsSlots, SlotState, Step, held, in_slot, inactive, is_active_with, place_of, slot_of, slot_step, with_place, with_slot}
use Rattle.device_laws.specs.Remains.{IsFlushed}
use Rattle.device_laws.proofs.AnswerForms.{transient_octet}
use Rattle.device_laws.proofs.ContextSteps.{object_flush_step}
use Rattle.device_laws.proofs.Held.{FirstSession, HandleOf, first_object, first_session, handle_of, handles_in, objects_counted, sessions_counted}
use Rattle.device_laws.proofs.Moves.{flushed_form}
use Rattle.device_laws.proofs.Replies.{step_keeps}
use Rattle.device_laws.proofs.SessionMoves.{session_gone_step}

-- ---- what is flushed

-- the command is of bytes: its head is given
joined_bytes : (front back : List ℕ) → list_all (λ byte. nat_lt byte 256) front ≡ true → AreBytes back → AreBytes (front ++ back)
joined_bytes [] back all more = more
joined_bytes (byte ∷ front) back all more =
    let parts = and_parts (nat_lt byte 256) (list_all (λ byte. nat_lt byte 256) front) all in
    (ltb-true byte 256 parts.0, joined_bytes front back parts.1 more)

number_bytes : (n : ℕ) → AreBytes (to_be_bytes w32 n)
number_bytes n = (omega arith, (omega arith, (omega arith, (omega arith, tt))))

flush_bytes : (handle : ℕ) → AreBytes (flush_context_command handle)
flush_bytes handle = joined_bytes (take 10 (flush_context_command handle)) (to_be_bytes w32 handle) refl (number_bytes handle)

-- the state after a flush, and its response
flushed_as : (slots left : SlotState) (handle : ℕ) (rest : List ℕ) → IsSlots slots
    → slot_step slots (flush_context_command handle) ≡ (left, response ST_NO_SESSIONS RC_SUCCESS []) → remains left ≡ rest → emptied left ≡ emptied slots
    → IsFlushed slots handle rest
flushed_as slots left handle rest sound steps rest_is same = record {
  taken = ap (λ (step : Step). takes PROFILE_CONTEXTS true true (flush_context_command handle) step.1) steps ∙ flushed_form handle;
  sound = step_keeps slots (flush_context_command handle) sound (flush_bytes handle);
  rest_is = ap (λ (step : Step). remains step.0) steps ∙ rest_is;
  same = ap (λ (step : Step). emptied step.0) steps ∙ same;
}

-- ---- an object

object_leaves : (slots : SlotState) (slot : ℕ) (o : Object) (rest : List ℕ) → IsSlots slots → slots.started ≡ true → slot < 254
    → get_or slots.slots slot None ≡ Some o → remains (with_slot slots slot None) ≡ rest → IsFlushed slots (TRANSIENT_FIRST + slot) rest
object_leaves slots slot o rest sound started below there rest_is =
    let handle = TRANSIENT_FIRST + slot in
    let slot_is : slot_of handle ≡ slot = omega arith in
    let held_is : in_slot slots handle ≡ Some o = ap (λ (n : ℕ). get_or slots.slots n None) slot_is ∙ there in
    flushed_as slots (with_slot slots slot None) handle rest sound
    (object_flush_step slots handle o started (omega (arith, below)) (transient_octet slot (omega (arith, below))) held_is
    ∙ ap (λ (n : ℕ). let step : Step = (with_slot slots n None, response ST_NO_SESSIONS RC_SUCCESS []) in step) slot_is)
    rest_is refl

first_leaves : (slots : SlotState) (handle : ℕ) (objects : List ℕ) → IsSlots slots → slots.started ≡ true → object_handles slots ≡ handle ∷ objects
    → IsFlushed slots handle (objects ++ session_handles true slots ++ session_handles false slots)
first_leaves slots handle objects sound started is =
    let first = first_object TRANSIENT_FIRST slots.slots handle objects is in
    let rest = objects ++ session_handles true slots ++ session_handles false slots in
    subst (λ (h : ℕ). IsFlushed slots h rest) (sym first.handle_is)
    (object_leaves slots first.slot first.object rest sound started (omega (arith, first.below, sound.count, sound.range.slots_most)) first.there
    (ap (λ (left : List ℕ). left ++ session_handles true slots ++ session_handles false slots) first.gone))

-- ---- a session

session_leaves : (slots : SlotState) (octet number : ℕ) (rest : List ℕ) → IsSlots slots → slots.started ≡ true → HandleOf octet number
    → is_active_with octet (get_or slots.sessions number inactive) ≡ true → remains (with_place slots number inactive) ≡ rest
    → IsFlushed slots (octet * 2 ^ 24 + number) rest
session_leaves slots octet number rest sound started of active rest_is =
    let handle = octet * 2 ^ 24 + number in
    let there : is_active_with (octet_of handle) (place_of slots handle) ≡ true =
    ap (λ (o : ℕ). is_active_with o (place_of slots handle)) of.octet_is
    ∙ ap (λ (n : ℕ). is_active_with octet (get_or slots.sessions n inactive)) of.number_is ∙ active in
    flushed_as slots (with_place slots number inactive) handle rest sound
    (session_gone_step slots handle started of.fits of.session there
    ∙ ap (λ (n : ℕ). let step : Step = (with_place slots n inactive, response ST_NO_SESSIONS RC_SUCCESS []) in step) of.number_is)
    rest_is refl

one_leaves : (slots : SlotState) (in_use : Bool) (handle : ℕ) (sessions rest : List ℕ) → IsSlots slots → slots.started ≡ true
    → (first : FirstSession in_use 0 slots.sessions handle sessions) → remains (with_place slots first.number inactive) ≡ rest → IsFlushed slots handle rest
one_leaves slots in_use handle sessions rest sound started first rest_is =
    subst (λ (h : ℕ). IsFlushed slots h rest) (omega (arith, first.handle_is))
    (session_leaves slots first.octet first.number rest sound started
    (handle_of first.octet first.number first.session (omega (arith, first.below, sound.numbers))) first.active rest_is)

-- ---- the first of all

three_parts : (a b c d e f : List ℕ) → a ≡ d → b ≡ e → c ≡ f → a ++ b ++ c ≡ d ++ e ++ f
three_parts a b c d e f x y z = rw (x, y, z) refl

flushed_by : (slots : SlotState) (handle : ℕ) (rest objects used kept : List ℕ) → IsSlots slots → slots.started ≡ true → object_handles slots ≡ objects
    → session_handles true slots ≡ used → session_handles false slots ≡ kept → objects ++ used ++ kept ≡ handle ∷ rest → IsFlushed slots handle rest
flushed_by slots handle rest (object ∷ objects) used kept sound started a b c is =
    let same : object ≡ handle = cc in
    let more : objects ++ used ++ kept ≡ rest = cc in
    subst (λ (left : List ℕ). IsFlushed slots handle left)
    (three_parts objects (session_handles true slots) (session_handles false slots) objects used kept refl b c ∙ more)
    (first_leaves slots handle objects sound started (a ∙ ap (λ (h : ℕ). h ∷ objects) same))
flushed_by slots handle rest [] (session ∷ used) kept sound started a b c is =
    let same : session ≡ handle = cc in
    let more : used ++ kept ≡ rest = cc in
    let first = first_session true slots.counter 0 slots.sessions handle used sound.places (b ∙ ap (λ (h : ℕ). h ∷ used) same) in
    one_leaves slots true handle used rest sound started first
    (three_parts (object_handles slots) (handles_in true 0 (set slots.sessions first.number inactive)) (handles_in false 0 (set slots.sessions first.number inactive))
    [] used kept a first.gone (first.others ∙ c) ∙ more)
flushed_by slots handle rest [] [] (session ∷ kept) sound started a b c is =
    let same : session ≡ handle = cc in
    let more : kept ≡ rest = cc in
    let first = first_session false slots.counter 0 slots.sessions handle kept sound.places (c ∙ ap (λ (h : ℕ). h ∷ kept) same) in
    one_leaves slots false handle kept rest sound started first
    (three_parts (object_handles slots) (handles_in true 0 (set slots.sessions first.number inactive)) (handles_in false 0 (set slots.sessions first.number inactive))
    [] [] kept a (first.others ∙ b) first.gone ∙ more)
flushed_by slots handle rest [] [] [] sound started a b c is = absurd cc

pub first_is_flushed : (slots : SlotState) (handle : ℕ) (rest : List ℕ) → IsSlots slots → slots.started ≡ true → remains slots ≡ handle ∷ rest
    → IsFlushed slots handle rest
first_is_flushed slots handle rest sound started is =
    flushed_by slots handle rest (object_handles slots) (session_handles true slots) (session_handles false slots) sound started refl refl refl is

-- ---- how many there are

pub remains_are_counted : (slots : SlotState) → held slots ≡ length (remains slots)
remains_are_counted slots =
    omega (
      arith,
      objects_counted TRANSIENT_FIRST slots.slots,
      sessions_counted 0 slots.sessions,
      length-append (object_handles slots ++ session_handles true slots) (session_handles false slots),
      length-append (object_handles slots) (session_handles true slots),
    )
