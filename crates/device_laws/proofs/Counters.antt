-- No command lowers the number of the next context, of an object or of a session.
use Rattle.std.proofs.Common.{◌≡◌, ◌+◌, ◌≤◌, ℕ, List, drop, get_or, refl, arith}
use Rattle.std.specs.Prelude.{Option, Some, None, Result, Ok, Err, nat_le, not, ◌==◌, ◌||◌, if◌then◌else◌}
use Rattle.std.proofs.lemmas.Bool.{cond_both}
use Rattle.tab_spec.specs.declared.TheConstants.{CC_CONTEXT_LOAD, CC_CONTEXT_SAVE, CC_FLUSH_CONTEXT, CC_GET_CAPABILITY, CC_STARTUP, CONTEXT_LIMIT, HT_TRANSIENT, RC_1, RC_CONTEXT_GAP, RC_FAILURE, RC_HANDLE, RC_INITIALIZE, RC_INSUFFICIENT, RC_P, RC_SESSION_MEMORY, RC_SIZE, RC_SUCCESS, RC_VALUE, TRANSIENT_FIRST}
use Rattle.tab_spec.specs.declared.Admitted.{Admitted}
use Rattle.tab_spec.specs.declared.Auths.{Auths}
use Rattle.tab_spec.specs.declared.CommandRow.{CommandRow}
use Rattle.tab_spec.specs.declared.Shape.{Shape}
use Rattle.tab_spec.specs.Admission.{admitted_by, is_session_handle}
use Rattle.tab_spec.specs.Commands.{row_of}
use Rattle.tab_spec.specs.Object.{Object}
use Rattle.tab_spec.specs.Parameters.{in_parameter, nothing_of}
use Rattle.tab_spec.specs.Reply.{error_reply}
use Rattle.tab_spec.specs.Session.{Session}
use Rattle.tab_spec.specs.Shape.{octet_of, row_in}
use Rattle.tab_spec.specs.Values.{number32, require}
use Rattle.effect_spec.specs.Contexts.{Context, blob_fits, context_of, opened_object, opened_session}
use Rattle.effect_spec.specs.Effect.{Effect, effect_of}
use Rattle.effect_spec.specs.Operands.{Created, new_object, new_session, nothing}
use Rattle.device_spec.specs.Slots.{SlotState, Step, capability_row, capability_told, context_load, context_save, effect_by, flush_context, gap_of, get_capability, in_slot, is_active_with, is_saved_under, loaded_count, loaded_session, made_by, object_flushed, object_loaded, object_saved, place_of, room_for, session_flushed, session_loaded, session_saved, sessions_left, slot_admitted, slot_effect, slot_operands, slot_row, slot_step, slot_tables, started_with, startup_code, step_by, unless_full}
use Rattle.device_laws.proofs.PcrRows.{fitting_read}

-- neither number is less than before
pub record Rises (slots after : SlotState) : Type 0 where
  pub objects : slots.object_counter ≤ after.object_counter
  pub sessions : slots.counter ≤ after.counter

stays : (slots after : SlotState) → after.object_counter ≡ slots.object_counter → after.counter ≡ slots.counter → Rises slots after
stays slots after objects sessions = record { objects = omega (arith, objects); sessions = omega (arith, sessions) }

abbrev RisesBy : SlotState → Result Step ℕ → Type 0
RisesBy slots step = Rises slots (step_by slots step).0

refused : (slots : SlotState) (code : ℕ) → RisesBy slots (Err code)
refused slots code = stays slots slots refl refl

-- ---- the commands of the machine itself

saved_object_rises : (slots : SlotState) (slot : Option Object) → RisesBy slots (object_saved slots slot)
saved_object_rises slots None = refused slots RC_FAILURE
saved_object_rises slots (Some o) =
    cond_both (nat_le CONTEXT_LIMIT slots.object_counter) (Err RC_FAILURE) _ (RisesBy slots) (λ last. refused slots RC_FAILURE)
    (λ more. record { objects = omega arith; sessions = omega arith })

saved_session_rises : (slots : SlotState) (handle : ℕ) (found : Option Session) → RisesBy slots (session_saved slots handle found)
saved_session_rises slots handle None = refused slots RC_FAILURE
saved_session_rises slots handle (Some s) =
    cond_both (nat_le CONTEXT_LIMIT slots.counter) (Err RC_FAILURE) _ (RisesBy slots) (λ last. refused slots RC_FAILURE) (λ more.
    cond_both (nat_le slots.numbers.gap (gap_of slots)) (Err RC_CONTEXT_GAP) _ (RisesBy slots) (λ gap. refused slots RC_CONTEXT_GAP)
    (λ near. record { objects = omega arith; sessions = omega arith }))

save_rises : (slots : SlotState) (handle : ℕ) (params : List ℕ) → RisesBy slots (context_save slots handle params)
save_rises slots handle params =
    fitting_read (RisesBy slots) (nothing_of params)
    (λ none.
    if octet_of handle == HT_TRANSIENT then object_saved slots (in_slot slots handle) else session_saved slots handle (loaded_session slots handle))
    (refused slots) (λ none.
    cond_both (octet_of handle == HT_TRANSIENT) (object_saved slots (in_slot slots handle)) (session_saved slots handle (loaded_session slots handle))
    (RisesBy slots) (λ object. saved_object_rises slots (in_slot slots handle))
    (λ session. saved_session_rises slots handle (loaded_session slots handle)))

loaded_object_rises : (slots : SlotState) (found : Option Object) → RisesBy slots (object_loaded slots found)
loaded_object_rises slots None = stays slots slots refl refl
loaded_object_rises slots (Some o) = stays slots (step_by slots (object_loaded slots (Some o))).0 refl refl

loaded_session_rises : (slots : SlotState) (c : Context) (found : Option Session) → RisesBy slots (session_loaded slots c found)
loaded_session_rises slots c None = stays slots slots refl refl
loaded_session_rises slots c (Some s) =
    cond_both (not (is_saved_under slots c.saved_handle c.sequence)) (Err (RC_HANDLE + RC_P + RC_1)) _ (RisesBy slots)
    (λ other. refused slots (RC_HANDLE + RC_P + RC_1)) (λ same.
    cond_both (nat_le slots.numbers.loaded (loaded_count slots.sessions)) (Err RC_SESSION_MEMORY) _ (RisesBy slots) (λ full. refused slots RC_SESSION_MEMORY)
    (λ room. record { objects = omega arith; sessions = omega arith }))

load_rises : (slots : SlotState) (params : List ℕ) → RisesBy slots (context_load slots params)
load_rises slots params =
    let seed = slots.persist.seed in
    fitting_read (RisesBy slots) (in_parameter 1 (require blob_fits RC_SIZE (context_of params)))
    (λ c.
    if c.saved_handle == TRANSIENT_FIRST then object_loaded slots (opened_object slots.persist.seed params)
    else if is_session_handle c.saved_handle then session_loaded slots c (opened_session slots.persist.seed params)
    else Err (RC_VALUE + RC_P + RC_1))
    (refused slots) (λ c.
    cond_both (c.saved_handle == TRANSIENT_FIRST) (object_loaded slots (opened_object seed params)) _ (RisesBy slots)
    (λ object. loaded_object_rises slots (opened_object seed params)) (λ other.
    cond_both (is_session_handle c.saved_handle) (session_loaded slots c (opened_session seed params)) (Err (RC_VALUE + RC_P + RC_1)) (RisesBy slots)
    (λ session. loaded_session_rises slots c (opened_session seed params)) (λ neither. refused slots (RC_VALUE + RC_P + RC_1))))

flushed_object_rises : (slots : SlotState) (handle : ℕ) (slot : Option Object) → RisesBy slots (object_flushed slots handle slot)
flushed_object_rises slots handle None = stays slots slots refl refl
flushed_object_rises slots handle (Some o) = stays slots (step_by slots (object_flushed slots handle (Some o))).0 refl refl

flushed_session_rises : (slots : SlotState) (handle : ℕ) → RisesBy slots (session_flushed slots handle)
flushed_session_rises slots handle =
    cond_both (is_active_with (octet_of handle) (place_of slots handle)) _ (Err (RC_HANDLE + RC_P + RC_1)) (RisesBy slots)
    (λ active. record { objects = omega arith; sessions = omega arith }) (λ none. refused slots (RC_HANDLE + RC_P + RC_1))

flush_rises : (slots : SlotState) (params : List ℕ) → RisesBy slots (flush_context slots params)
flush_rises slots params =
    fitting_read (RisesBy slots) (in_parameter 1 (number32 RC_INSUFFICIENT params))
    (λ handle.
    if octet_of handle == HT_TRANSIENT then object_flushed slots handle (in_slot slots handle)
    else if is_session_handle handle then session_flushed slots handle
    else Err (RC_VALUE + RC_P + RC_1))
    (refused slots) (λ handle.
    cond_both (octet_of handle == HT_TRANSIENT) (object_flushed slots handle (in_slot slots handle)) _ (RisesBy slots)
    (λ object. flushed_object_rises slots handle (in_slot slots handle)) (λ other.
    cond_both (is_session_handle handle) (session_flushed slots handle) (Err (RC_VALUE + RC_P + RC_1)) (RisesBy slots)
    (λ session. flushed_session_rises slots handle) (λ neither. refused slots (RC_VALUE + RC_P + RC_1))))

told_rises : (slots : SlotState) (row : Result (List ℕ) ℕ) → RisesBy slots (capability_told slots row)
told_rises slots (Err code) = stays slots slots refl refl
told_rises slots (Ok params) = stays slots slots refl refl

-- ---- every command

made_rises : (slots before : SlotState) (created : Created) (reply : List ℕ) → before.object_counter ≡ slots.object_counter → before.counter ≡ slots.counter
    → Rises slots (made_by before created reply).0
made_rises slots before nothing reply objects sessions = stays slots (made_by before nothing reply).0 objects sessions
made_rises slots before (new_object o) reply objects sessions = stays slots (made_by before (new_object o) reply).0 objects sessions
made_rises slots before (new_session s) reply objects sessions = stays slots (made_by before (new_session s) reply).0 objects sessions

effect_rises : (slots : SlotState) (effect : Effect) → Rises slots (effect_by slots effect).0
effect_rises slots effect =
    let before : SlotState =
    record slots { persist = effect.persist; sessions = sessions_left slots.sessions effect.operands effect.outcome.auth_ended } in
    made_rises slots before effect.outcome.created effect.reply refl refl

unless_full_rises : (slots : SlotState) (full : Option ℕ) (next : Step) → Rises slots next.0 → Rises slots (unless_full slots full next).0
unless_full_rises slots (Some code) next rises = stays slots slots refl refl
unless_full_rises slots None next rises = rises

run_rises : (slots : SlotState) (shape : Shape) (auths : Auths) (bytes : List ℕ) → Rises slots (slot_effect slots shape auths bytes).0
run_rises slots shape auths bytes =
    let P : Step → Type 0 = λ step. Rises slots step.0 in
    let params = drop auths.params bytes in
    let handle = get_or shape.handles 0 0 in
    let effect = effect_of slots.persist (slot_operands slots shape auths) shape auths bytes in
    let room = room_for slots shape.row.code params in
    cond_both (shape.row.code == CC_STARTUP) (started_with slots (startup_code slots.started params)) _ P
    (λ so. cond_both (startup_code slots.started params == RC_SUCCESS) _ _ P
    (λ starts. record { objects = omega arith; sessions = omega arith }) (λ refused. record { objects = omega arith; sessions = omega arith })) (λ not.
    cond_both (shape.row.code == CC_CONTEXT_SAVE) (step_by slots (context_save slots handle params)) _ P (λ so. save_rises slots handle params) (λ not.
    cond_both (shape.row.code == CC_CONTEXT_LOAD) (step_by slots (context_load slots params)) _ P (λ so. load_rises slots params) (λ not.
    cond_both (shape.row.code == CC_FLUSH_CONTEXT) (step_by slots (flush_context slots params)) _ P (λ so. flush_rises slots params) (λ not.
    cond_both (shape.row.code == CC_GET_CAPABILITY) (step_by slots (get_capability slots params)) (unless_full slots room (effect_by slots effect)) P
    (λ so. told_rises slots (capability_row slots params)) (λ not. unless_full_rises slots room (effect_by slots effect) (effect_rises slots effect))))))

admitted_rises : (slots : SlotState) (admitted : Result Admitted ℕ) (bytes : List ℕ) → Rises slots (slot_admitted slots admitted bytes).0
admitted_rises slots (Err code) bytes = stays slots slots refl refl
admitted_rises slots (Ok a) bytes = run_rises slots a.shape a.auths bytes

row_rises : (slots : SlotState) (row : Result CommandRow ℕ) (bytes : List ℕ) → Rises slots (slot_row slots row bytes).0
row_rises slots (Err code) bytes = stays slots slots refl refl
row_rises slots (Ok row) bytes =
    let admitted = admitted_by (slot_tables slots) (Ok row) bytes in
    cond_both (slots.started || row.code == CC_STARTUP) (slot_admitted slots admitted bytes) (slots, error_reply RC_INITIALIZE)
    (λ (step : Step). Rises slots step.0) (λ goes. admitted_rises slots admitted bytes) (λ refused. stays slots slots refl refl)

pub step_rises : (slots : SlotState) (bytes : List ℕ) → Rises slots (slot_step slots bytes).0
unfolding slot_step
step_rises slots bytes = row_rises slots (row_in row_of bytes) bytes
