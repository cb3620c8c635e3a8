-- What a started device does with a command that it admits and doesn't answer itself: it looks for room, and runs its effect.
use Rattle.std.proofs.Common.{◌≡◌, ℕ, Bool, true, false, List, [], ◌∷◌, drop, refl, ap, sym, ◌∙◌, subst}
use Rattle.std.specs.Prelude.{Option, Some, Result, Ok, Err, IfOk, not, ◌==◌, if◌then◌else◌}
use Rattle.tab_spec.specs.declared.TheConstants.{CC_CONTEXT_LOAD, CC_CONTEXT_SAVE, CC_FLUSH_CONTEXT, CC_GET_CAPABILITY, CC_STARTUP, RC_BAD_TAG, RC_COMMAND_SIZE}
use Rattle.tab_spec.specs.declared.Auths.{Auths}
use Rattle.tab_spec.specs.declared.Admitted.{Admitted}
use Rattle.tab_spec.specs.declared.CommandRow.{CommandRow}
use Rattle.tab_spec.specs.Admission.{Tables, admitted, admitted_by}
use Rattle.tab_spec.specs.Commands.{row_of}
use Rattle.tab_spec.specs.Frame.{code_of, is_frame, tag_of}
use Rattle.tab_spec.specs.Shape.{is_command_tag, known_row, row_in, with_handles}
use Rattle.effect_spec.specs.Effect.{Effect, effect_of}
use Rattle.device_spec.specs.Slots.{SlotState, Step, effect_by, room_for, slot_admitted, slot_effect, slot_operands, slot_step, slot_tables, unless_full}
use Rattle.tab_laws.specs.OtherHandles.{AreHandlesOf, HandlesAreThere, admitted_handled, handled}
use Rattle.tab_laws.proofs.Behind.{AuthsBehind, auths_of_behind, drop_behind}
use Rattle.tab_laws.proofs.Handled.{handled_admitted, handled_is, passed}
use Rattle.device_laws.specs.OtherHandles.{effect_over}
use Rattle.device_laws.proofs.ContextSteps.{step_goes}
use Rattle.device_laws.proofs.EffectBytes.{effect_same}

-- none of the commands that the machine answers itself
pub record IsRun (code : ℕ) : Type 0 where
  pub startup : (code == CC_STARTUP) ≡ false
  pub save : (code == CC_CONTEXT_SAVE) ≡ false
  pub load : (code == CC_CONTEXT_LOAD) ≡ false
  pub flush : (code == CC_FLUSH_CONTEXT) ≡ false
  pub capability : (code == CC_GET_CAPABILITY) ≡ false

steps_last : {X : Type 0} (a b c d e : Bool) (u v w x y z : X) → a ≡ false → b ≡ false → c ≡ false → d ≡ false → e ≡ false
    → (if a then u else if b then v else if c then w else if d then x else if e then y else z) ≡ z
steps_last a b c d e u v w x y z first second third fourth fifth = rw (first, second, third, fourth, fifth) refl

row_by : (frame tag : Bool) (found : Option CommandRow) (row : CommandRow) → frame ≡ true → tag ≡ true → found ≡ Some row
    → (if not frame then Err RC_COMMAND_SIZE else if not tag then Err RC_BAD_TAG else known_row found) ≡ Ok row
row_by frame tag found row frame_is tag_is found_is = rw (frame_is, tag_is, found_is) refl

admitted_here : (tables : Tables) (row : CommandRow) (bytes : List ℕ) (a : Admitted) → row_in row_of bytes ≡ Ok row → admitted row_of tables bytes ≡ Ok a
    → admitted_by tables (Ok row) bytes ≡ Ok a
unfolding admitted
admitted_here tables row bytes a known e = ap (λ (found : Result CommandRow ℕ). admitted_by tables found bytes) (sym known) ∙ e

-- a started device goes on with a command that it admits
pub device_does : (slots : SlotState) (bytes : List ℕ) (a : Admitted) → slots.started ≡ true → admitted row_of (slot_tables slots) bytes ≡ Ok a
    → slot_step slots bytes ≡ slot_effect slots a.shape a.auths bytes
device_does slots bytes a started e =
    let tables = slot_tables slots in
    let p = passed tables bytes a e in
    let known : row_in row_of bytes ≡ Ok a.shape.row =
    row_by (is_frame bytes) (is_command_tag (tag_of bytes)) (row_of (code_of bytes)) a.shape.row p.frame p.tag p.found in
    step_goes slots a.shape.row bytes started known
    ∙ ap (λ (found : Result Admitted ℕ). slot_admitted slots found bytes) (admitted_here tables a.shape.row bytes a known e)

-- the same over other handles
pub over_does : (slots : SlotState) (tables : Tables) (bytes : List ℕ) (a : Admitted) (first second : ℕ) → slots.started ≡ true
    → admitted row_of tables bytes ≡ Ok a → AreHandlesOf a.shape first second → HandlesAreThere (slot_tables slots) bytes a first second
    → slot_step slots (with_handles bytes a.shape (first ∷ second ∷ []))
    ≡ slot_effect slots (handled a.shape first second) a.auths (with_handles bytes a.shape (first ∷ second ∷ []))
over_does slots tables bytes a first second started e are there =
    device_does slots (with_handles bytes a.shape (first ∷ second ∷ [])) (admitted_handled a first second) started
    (handled_admitted tables (slot_tables slots) bytes a first second e are there)

-- with the same parameters
pub same_params : (tables : Tables) (bytes : List ℕ) (a : Admitted) (first second : ℕ) → admitted row_of tables bytes ≡ Ok a
    → drop a.auths.params (with_handles bytes a.shape (first ∷ second ∷ [])) ≡ drop a.auths.params bytes
same_params tables bytes a first second e =
    let behind : AuthsBehind a.shape.rest a.auths =
    subst (λ (auths : Result Auths ℕ). IfOk auths (AuthsBehind a.shape.rest)) (passed tables bytes a e).given.auths_are (auths_of_behind bytes a.shape) in
    drop_behind a.shape.rest a.auths.params bytes (with_handles bytes a.shape (first ∷ second ∷ []))
    (handled_is tables bytes a first second e).agree behind.params

-- what it does where the room is this
abbrev pub run_with : SlotState → Effect → Option ℕ → Step
run_with slots effect room = unless_full slots room (effect_by slots effect)

pub device_run : (slots : SlotState) (bytes : List ℕ) (a : Admitted) → slots.started ≡ true → admitted row_of (slot_tables slots) bytes ≡ Ok a
    → IsRun a.shape.row.code
    → slot_step slots bytes
    ≡ run_with slots (effect_of slots.persist (slot_operands slots a.shape a.auths) a.shape a.auths bytes)
    (room_for slots a.shape.row.code (drop a.auths.params bytes))
device_run slots bytes a started e is =
    let code = a.shape.row.code in
    device_does slots bytes a started e
    ∙ steps_last (code == CC_STARTUP) (code == CC_CONTEXT_SAVE) (code == CC_CONTEXT_LOAD) (code == CC_FLUSH_CONTEXT) (code == CC_GET_CAPABILITY) _ _ _ _ _
    (run_with slots (effect_of slots.persist (slot_operands slots a.shape a.auths) a.shape a.auths bytes)
    (room_for slots code (drop a.auths.params bytes))) is.startup is.save is.load is.flush is.capability

-- and over other handles
pub over_run : (slots : SlotState) (tables : Tables) (bytes : List ℕ) (a : Admitted) (first second : ℕ) → slots.started ≡ true
    → admitted row_of tables bytes ≡ Ok a → AreHandlesOf a.shape first second → HandlesAreThere (slot_tables slots) bytes a first second → IsRun a.shape.row.code
    → slot_step slots (with_handles bytes a.shape (first ∷ second ∷ []))
    ≡ run_with slots (effect_over slots bytes a first second) (room_for slots a.shape.row.code (drop a.auths.params bytes))
over_run slots tables bytes a first second started e are there is =
    let new = with_handles bytes a.shape (first ∷ second ∷ []) in
    let operands = slot_operands slots (handled a.shape first second) a.auths in
    let params = same_params tables bytes a first second e in
    let effect = effect_same slots.persist operands tables bytes a first second e in
    device_run slots new (admitted_handled a first second) started (handled_admitted tables (slot_tables slots) bytes a first second e are there) is
    ∙ λ i. run_with slots (effect i) (room_for slots a.shape.row.code (params i))
