-- A command that a device runs over other handles, and what it leaves.
use Rattle.std.specs.Prelude.{◌≡◌, ◌==◌, ◌&&◌, ◌+◌, ℕ, Bool, true, false, not, List, ◌∷◌, [], get_or, set, Option, Some, None}
use Rattle.tab_spec.specs.declared.TheConstants.{HT_TRANSIENT, TRANSIENT_FIRST}
use Rattle.tab_spec.specs.declared.Admitted.{Admitted}
use Rattle.tab_spec.specs.declared.Kind.TheVariants.{Absent}
use Rattle.tab_spec.specs.declared.Shape.{Shape}
use Rattle.tab_spec.specs.Admission.{is_session_handle}
use Rattle.tab_spec.specs.Shape.{octet_of}
use Rattle.tab_spec.specs.Object.{Object}
use Rattle.tab_spec.specs.Reply.{with_response_handle}
use Rattle.effect_spec.specs.Operands.{an_object, Operands, plain_operand, Created, new_object, new_session, nothing}
use Rattle.effect_spec.specs.Effect.{Effect, effect_of}
use Rattle.tab_laws.specs.OtherHandles.{handled}
use Rattle.device_spec.specs.Slots.{SlotState, Step, free_slot, slot_operands}

-- whether a handle is of neither an object nor a session
abbrev pub is_plain_handle : ℕ → Bool
is_plain_handle handle = not (octet_of handle == HT_TRANSIENT) && not (is_session_handle handle)

-- an object in place of the first handle, and the second as it is
abbrev pub object_operands : Shape → Object → ℕ → Operands
object_operands shape o second =
    record { handles = an_object o ∷ plain_operand (get_or shape.row.handles 1 Absent) second ∷ []; session = None }

-- the effect of an admitted command over what these handles are on the device
abbrev pub effect_over : SlotState → List ℕ → Admitted → ℕ → ℕ → Effect
effect_over slots bytes a first second =
    effect_of slots.persist (slot_operands slots (handled a.shape first second) a.auths) a.shape a.auths bytes

-- the slots with an object that was made
abbrev pub slots_with : List (Option Object) → Created → List (Option Object)
slots_with slots nothing = slots
slots_with slots (new_object o) = set slots (free_slot slots) (Some o)
slots_with slots (new_session s) = slots

-- the reply, with the handle of an object that was made
abbrev pub reply_with : List (Option Object) → Created → List ℕ → List ℕ
reply_with slots nothing reply = reply
reply_with slots (new_object o) reply = with_response_handle reply (TRANSIENT_FIRST + free_slot slots)
reply_with slots (new_session s) reply = reply

-- whether no session was made
abbrev pub makes_no_session : Created → Bool
makes_no_session nothing = true
makes_no_session (new_object o) = true
makes_no_session (new_session s) = false

-- what such a command leaves, but for the sessions
pub record LeavesSlots (before : SlotState) (effect : Effect) (step : Step) : Type 0 where
  pub no_session : makes_no_session effect.outcome.created ≡ true
  pub started : step.0.started ≡ before.started
  pub persist : step.0.persist ≡ effect.persist
  pub slots : step.0.slots ≡ slots_with before.slots effect.outcome.created
  pub object_counter : step.0.object_counter ≡ before.object_counter
  pub counter : step.0.counter ≡ before.counter
  pub reply : step.1 ≡ reply_with before.slots effect.outcome.created effect.reply
