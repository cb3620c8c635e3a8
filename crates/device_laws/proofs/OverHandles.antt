-- What a started device does with a command that does no more than its effect, over other handles.
use Rattle.std.proofs.Common.{◌≡◌, ℕ, Bool, true, false, List, [], ◌∷◌, take, drop, get_or, refl, ap, sym, ◌∙◌, subst}
use Rattle.std.specs.Prelude.{Option, Some, None, Result, Ok, Err, IfOk, not, ◌==◌, if◌then◌else◌}
use Rattle.tab_spec.specs.declared.TheConstants.{CC_CONTEXT_LOAD, CC_CONTEXT_SAVE, CC_CREATE_PRIMARY, CC_FLUSH_CONTEXT, CC_GET_CAPABILITY, CC_LOAD, CC_START_AUTH_SESSION, CC_STARTUP, HT_TRANSIENT}
use Rattle.tab_spec.specs.declared.Kind.{Kind}
use Rattle.tab_spec.specs.declared.Kind.TheVariants.{Absent}
use Rattle.tab_spec.specs.declared.Auths.{Auths}
use Rattle.tab_spec.specs.declared.Shape.{Shape}
use Rattle.tab_spec.specs.declared.Admitted.{Admitted}
use Rattle.tab_spec.specs.declared.CommandRow.{CommandRow}
use Rattle.tab_spec.specs.Admission.{Tables, admitted, admitted_by, is_session_handle, unless_fault}
use Rattle.tab_spec.specs.Commands.{row_of}
use Rattle.tab_spec.specs.Object.{Object}
use Rattle.tab_spec.specs.Persist.{Persist}
use Rattle.tab_spec.specs.Session.{Session}
use Rattle.tab_spec.specs.Shape.{is_present, octet_of, row_in, with_handles}
use Rattle.effect_spec.specs.Nv.{undefined_index}
use Rattle.effect_spec.specs.Objects.{create_primary_row, load_row}
use Rattle.effect_spec.specs.Operands.{Operand, absent, an_object, a_session, plain, Operands, Created, new_object, new_session, nothing, handles_left, number_of, object_in, object_operand, operand_at, policy_session_in, command_auth, session_operand, with_handle, with_operand, operand_by, session_named, operands_by}
use Rattle.effect_spec.specs.Sessions.{start_check, start_session_row}
use Rattle.effect_spec.specs.SessionAuths.{ResponseAuth, operand_name}
use Rattle.effect_spec.specs.Effect.{Effect, RowOutcome, authorization_fault, changing_policy, effect_authorized, effect_in, effect_of, effect_row, item_row, making_nothing, making_object, making_session, outcome_of, policy_row, response_auth_of, row_by, row_with}
use Rattle.device_spec.specs.Slots.{SlotState, SessionPlace, Step, effect_by, in_slot, loaded_session, made_by, room_for, session_too_many, sessions_left, slot_admitted, slot_effect, slot_operands, slot_step, slot_tables, unless_full, loaded_under}
use Rattle.tab_laws.specs.OtherHandles.{admitted_handled, AreHandlesOf, ArePasswords, HandlesAreThere, handled}
use Rattle.tab_laws.proofs.Behind.{AuthsBehind, auths_of_behind}
use Rattle.tab_laws.proofs.Handled.{handled_admitted, handled_is, passed}
use Rattle.device_laws.specs.Effects.{is_of_effects}
use Rattle.device_laws.proofs.AnswerForms.{OfEffects, of_effects}
use Rattle.device_laws.specs.OtherHandles.{effect_over, LeavesSlots, makes_no_session, reply_with, slots_with}
use Rattle.device_laws.proofs.ContextSteps.{step_goes}
use Rattle.device_laws.proofs.EffectBytes.{effect_same}

-- ---- the step

steps_last : {X : Type 0} (a b c d e : Bool) (u v w x y z : X) → a ≡ false → b ≡ false → c ≡ false → d ≡ false → e ≡ false
    → (if a then u else if b then v else if c then w else if d then x else if e then y else z) ≡ z
steps_last a b c d e u v w x y z first second third fourth fifth = rw (first, second, third, fourth, fifth) refl

-- no session is started
no_room_asked : (slots : SlotState) (code : ℕ) (params : List ℕ) → (code == CC_START_AUTH_SESSION) ≡ false → room_for slots code params ≡ None
no_room_asked slots code params other = ap (λ (starts : Bool). if starts then session_too_many slots (start_check params) else None) other

effect_step : (slots : SlotState) (shape : Shape) (auths : Auths) (bytes : List ℕ) → OfEffects shape.row.code
    → slot_effect slots shape auths bytes ≡ effect_by slots (effect_of slots.persist (slot_operands slots shape auths) shape auths bytes)
effect_step slots shape auths bytes is =
    let code = shape.row.code in
    let params = drop auths.params bytes in
    let step = effect_by slots (effect_of slots.persist (slot_operands slots shape auths) shape auths bytes) in
    steps_last (code == CC_STARTUP) (code == CC_CONTEXT_SAVE) (code == CC_CONTEXT_LOAD) (code == CC_FLUSH_CONTEXT) (code == CC_GET_CAPABILITY) _ _ _ _ _
    (unless_full slots (room_for slots code params) step) is.startup is.save is.load is.flush is.capability
    ∙ ap (λ (room : Option ℕ). unless_full slots room step) (no_room_asked slots code params is.start)

admitted_again : (tables : Tables) (row : CommandRow) (bytes : List ℕ) (found : Admitted) → row_in row_of bytes ≡ Ok row → admitted row_of tables bytes ≡ Ok found
    → admitted_by tables (Ok row) bytes ≡ Ok found
unfolding admitted
admitted_again tables row bytes found known e = ap (λ (known : Result CommandRow ℕ). admitted_by tables known bytes) (sym known) ∙ e

-- the whole step over other handles
pub over_step : (slots : SlotState) (tables : Tables) (bytes : List ℕ) (a : Admitted) (first second : ℕ) → slots.started ≡ true
    → admitted row_of tables bytes ≡ Ok a → AreHandlesOf a.shape first second → HandlesAreThere (slot_tables slots) bytes a first second
    → is_of_effects a.shape.row.code ≡ true
    → slot_step slots (with_handles bytes a.shape (first ∷ second ∷ [])) ≡ effect_by slots (effect_over slots bytes a first second)
over_step slots tables bytes a first second started e are there only =
    let new = with_handles bytes a.shape (first ∷ second ∷ []) in
    let shape = handled a.shape first second in
    let known = (handled_is tables bytes a first second e).row in
    let operands = slot_operands slots shape a.auths in
    step_goes slots a.shape.row new started known
    ∙ ap (λ (found : Result Admitted ℕ). slot_admitted slots found new)
    (admitted_again (slot_tables slots) a.shape.row new (admitted_handled a first second) known
    (handled_admitted tables (slot_tables slots) bytes a first second e are there))
    ∙ effect_step slots shape a.auths new (of_effects a.shape.row.code only)
    ∙ ap (effect_by slots) (effect_same slots.persist operands tables bytes a first second e)

-- ---- no session is made

abbrev MakesNoSession : Result RowOutcome ℕ → Type 0
MakesNoSession (Err code) = Unit
MakesNoSession (Ok done) = makes_no_session done.created ≡ true

nothing_is_none : (row : Result (Persist × List ℕ) ℕ) → MakesNoSession (making_nothing row)
nothing_is_none (Err code) = tt
nothing_is_none (Ok done) = refl

object_is_none : (persist : Persist) (row : Result (Object × List ℕ) ℕ) → MakesNoSession (making_object persist row)
object_is_none persist (Err code) = tt
object_is_none persist (Ok done) = refl

policy_is_none : (persist : Persist) (row : Result (Session × List ℕ) ℕ) → MakesNoSession (changing_policy persist row)
policy_is_none persist (Err code) = tt
policy_is_none persist (Ok done) = refl

choice_is_none : (test : Bool) (yes_row no_row : Result RowOutcome ℕ) → MakesNoSession yes_row → MakesNoSession no_row → MakesNoSession (if test then yes_row else no_row)
choice_is_none true yes_row no_row one other = one
choice_is_none false yes_row no_row one other = other

unstarted_is_none : (test : Bool) (yes_row no_row : Result RowOutcome ℕ) → test ≡ false → MakesNoSession no_row → MakesNoSession (if test then yes_row else no_row)
unstarted_is_none true yes_row no_row is other = absurd cc
unstarted_is_none false yes_row no_row is other = other

row_is_none : (code : ℕ) (persist : Persist) (operands : List Operand) (policy : Option Session) (item : Option Object) (params : List ℕ)
    → (code == CC_START_AUTH_SESSION) ≡ false → MakesNoSession (row_by code persist operands policy item params)
row_is_none code persist operands (Some s) item params other =
    policy_is_none persist (policy_row code persist s (operand_name persist (operand_at operands 0)) params)
row_is_none code persist operands None (Some item) params other =
    choice_is_none (code == CC_LOAD) (making_object persist (load_row item params)) (making_nothing (item_row code persist item params))
    (object_is_none persist (load_row item params)) (nothing_is_none (item_row code persist item params))
row_is_none code persist operands None None params other =
    let row = row_with code persist (number_of (operand_at operands 0)) (number_of (operand_at operands 1)) params in
    choice_is_none (code == CC_CREATE_PRIMARY) (making_object persist (create_primary_row persist params))
    (if code == CC_START_AUTH_SESSION then making_session (start_session_row persist params) else making_nothing row)
    (object_is_none persist (create_primary_row persist params))
    (unstarted_is_none (code == CC_START_AUTH_SESSION) (making_session (start_session_row persist params)) (making_nothing row) other (nothing_is_none row))

faultless_is_none : (fault : Option ℕ) (row : Result RowOutcome ℕ) → MakesNoSession row → MakesNoSession (unless_fault fault row)
faultless_is_none None row makes = makes
faultless_is_none (Some code) row makes = tt

outcome_is_none : (persist : Persist) (operands : Operands) (shape : Shape) (auths : Auths) (bytes : List ℕ) → (shape.row.code == CC_START_AUTH_SESSION) ≡ false
    → MakesNoSession (outcome_of persist operands shape auths bytes)
outcome_is_none persist operands shape auths bytes other =
    let first = operand_at operands.handles 0 in
    let second = operand_at operands.handles 1 in
    let params = drop auths.params bytes in
    let row = effect_row shape.row.code persist operands.handles params in
    let fault = authorization_fault persist operands shape auths bytes in
    faultless_is_none (undefined_index persist.nv 1 (number_of first ∷ number_of second ∷ [])) (unless_fault fault row)
    (faultless_is_none fault row
    (row_is_none shape.row.code persist operands.handles (policy_session_in operands.handles) (object_in first) params other))

closed_is_none : (persist : Persist) (operands : Operands) (shape : Shape) (auths : Auths) (done : RowOutcome) (closed : Result ResponseAuth ℕ)
    → makes_no_session done.created ≡ true → makes_no_session (effect_authorized persist operands shape auths done closed).outcome.created ≡ true
closed_is_none persist operands shape auths done (Err code) makes = refl
closed_is_none persist operands shape auths done (Ok closed) makes = makes

effect_is_none : (persist : Persist) (operands : Operands) (shape : Shape) (auths : Auths) (bytes : List ℕ) (row : Result RowOutcome ℕ) → MakesNoSession row
    → makes_no_session (effect_in persist operands shape auths bytes row).outcome.created ≡ true
effect_is_none persist operands shape auths bytes (Err code) makes = refl
effect_is_none persist operands shape auths bytes (Ok done) makes =
    closed_is_none persist operands shape auths done (response_auth_of persist operands shape auths bytes done) makes

pub makes_none : (persist : Persist) (operands : Operands) (shape : Shape) (auths : Auths) (bytes : List ℕ) → (shape.row.code == CC_START_AUTH_SESSION) ≡ false
    → makes_no_session (effect_of persist operands shape auths bytes).outcome.created ≡ true
unfolding effect_of
makes_none persist operands shape auths bytes other =
    effect_is_none persist operands shape auths bytes (outcome_of persist operands shape auths bytes) (outcome_is_none persist operands shape auths bytes other)

-- ---- what is left of the slots

made_leaves : (slots : SlotState) (effect : Effect) (created : Created) (sessions : List SessionPlace) → effect.outcome.created ≡ created → makes_no_session created ≡ true
    → let state : SlotState = record slots { persist = effect.persist; sessions = sessions } in
    LeavesSlots slots effect (made_by state created effect.reply)
made_leaves slots effect nothing sessions is none = record {
  no_session = ap makes_no_session is;
  started = refl;
  persist = refl;
  slots = sym (ap (slots_with slots.slots) is);
  object_counter = refl;
  counter = refl;
  reply = sym (ap (λ (created : Created). reply_with slots.slots created effect.reply) is);
}
made_leaves slots effect (new_object o) sessions is none = record {
  no_session = ap makes_no_session is;
  started = refl;
  persist = refl;
  slots = sym (ap (slots_with slots.slots) is);
  object_counter = refl;
  counter = refl;
  reply = sym (ap (λ (created : Created). reply_with slots.slots created effect.reply) is);
}
made_leaves slots effect (new_session s) sessions is none = absurd cc

effect_leaves : (slots : SlotState) (effect : Effect) → makes_no_session effect.outcome.created ≡ true → LeavesSlots slots effect (effect_by slots effect)
effect_leaves slots effect none =
    made_leaves slots effect effect.outcome.created (sessions_left slots.sessions effect.operands effect.outcome.auth_ended) refl none

pub over_leaves : (slots : SlotState) (tables : Tables) (bytes : List ℕ) (a : Admitted) (first second : ℕ) → slots.started ≡ true
    → admitted row_of tables bytes ≡ Ok a → AreHandlesOf a.shape first second → HandlesAreThere (slot_tables slots) bytes a first second
    → is_of_effects a.shape.row.code ≡ true
    → LeavesSlots slots (effect_over slots bytes a first second) (slot_step slots (with_handles bytes a.shape (first ∷ second ∷ [])))
over_leaves slots tables bytes a first second started e are there only =
    let effect = effect_over slots bytes a first second in
    subst (λ (step : Step). LeavesSlots slots effect step) (sym (over_step slots tables bytes a first second started e are there only))
    (effect_leaves slots effect
    (makes_none slots.persist (slot_operands slots (handled a.shape first second) a.auths) a.shape a.auths bytes (of_effects a.shape.row.code only).start))

-- ---- what is left of the sessions

abbrev is_no_session : Operand → Bool
is_no_session absent = true
is_no_session (plain handle) = true
is_no_session (an_object o) = true
is_no_session (a_session handle s) = false

object_no_session : (handle : ℕ) (slot : Option Object) → is_no_session (object_operand handle slot) ≡ true
object_no_session handle None = refl
object_no_session handle (Some o) = refl

no_session_by : (absent_here transient session : Bool) (handle : ℕ) (slot : Option Object) (found : Option Session) → session ≡ false
    → is_no_session (if absent_here then absent else if transient then object_operand handle slot else if session then session_operand handle found else plain handle)
    ≡ true
no_session_by true transient session handle slot found other = refl
no_session_by false true session handle slot found other = object_no_session handle slot
no_session_by false false true handle slot found other = absurd cc
no_session_by false false false handle slot found other = refl

operand_no_session : (objects : ℕ → Option Object) (sessions : ℕ → Option Session) (kind : Kind) (handle : ℕ) → is_session_handle handle ≡ false
    → is_no_session (operand_by objects sessions kind handle) ≡ true
operand_no_session objects sessions kind handle other =
    no_session_by (not (is_present kind)) (octet_of handle == HT_TRANSIENT) (is_session_handle handle) handle (objects handle) (sessions handle) other

left_as_was : (policy : Option Session) (one two : Operand) → is_no_session one ≡ true → is_no_session two ≡ true
    → handles_left policy (one ∷ two ∷ []) ≡ one ∷ two ∷ []
left_as_was None one two first second = refl
left_as_was (Some s) absent absent first second = refl
left_as_was (Some s) absent (plain handle) first second = refl
left_as_was (Some s) absent (an_object o) first second = refl
left_as_was (Some s) absent (a_session handle t) first second = absurd cc
left_as_was (Some s) (plain number) absent first second = refl
left_as_was (Some s) (plain number) (plain handle) first second = refl
left_as_was (Some s) (plain number) (an_object o) first second = refl
left_as_was (Some s) (plain number) (a_session handle t) first second = absurd cc
left_as_was (Some s) (an_object p) absent first second = refl
left_as_was (Some s) (an_object p) (plain handle) first second = refl
left_as_was (Some s) (an_object p) (an_object o) first second = refl
left_as_was (Some s) (an_object p) (a_session handle t) first second = absurd cc
left_as_was (Some s) (a_session number t) two first second = absurd cc

abbrev pub over_operands : Operand → Operand → Operands
over_operands one two = record { handles = one ∷ two ∷ []; session = None }

closed_as_was : (persist : Persist) (one two : Operand) (shape : Shape) (auths : Auths) (done : RowOutcome) (closed : Result ResponseAuth ℕ)
    → is_no_session one ≡ true → is_no_session two ≡ true
    → (effect_authorized persist (over_operands one two) shape auths done closed).operands ≡ over_operands one two
closed_as_was persist one two shape auths done (Err code) first second = refl
closed_as_was persist one two shape auths done (Ok closed) first second =
    ap (λ (handles : List Operand). let left : Operands = record { handles = handles; session = None } in left) (left_as_was done.policy one two first second)

effect_as_was : (persist : Persist) (one two : Operand) (shape : Shape) (auths : Auths) (bytes : List ℕ) (row : Result RowOutcome ℕ)
    → is_no_session one ≡ true → is_no_session two ≡ true
    → (effect_in persist (over_operands one two) shape auths bytes row).operands ≡ over_operands one two
effect_as_was persist one two shape auths bytes (Err code) first second = refl
effect_as_was persist one two shape auths bytes (Ok done) first second =
    closed_as_was persist one two shape auths done (response_auth_of persist (over_operands one two) shape auths bytes done) first second

operands_as_were : (persist : Persist) (one two : Operand) (shape : Shape) (auths : Auths) (bytes : List ℕ) → is_no_session one ≡ true → is_no_session two ≡ true
    → (effect_of persist (over_operands one two) shape auths bytes).operands ≡ over_operands one two
unfolding effect_of
operands_as_were persist one two shape auths bytes first second =
    effect_as_was persist one two shape auths bytes (outcome_of persist (over_operands one two) shape auths bytes) first second

put_back : (sessions : List SessionPlace) (operand : Operand) → is_no_session operand ≡ true → with_operand loaded_under sessions operand ≡ sessions
put_back sessions absent is = refl
put_back sessions (plain handle) is = refl
put_back sessions (an_object o) is = refl
put_back sessions (a_session handle s) is = absurd cc

both_back : (sessions : List SessionPlace) (one two : Operand) (ended : Bool) → is_no_session one ≡ true → is_no_session two ≡ true
    → sessions_left sessions (over_operands one two) ended ≡ sessions
both_back sessions one two ended first second =
    ap (λ (left : List SessionPlace). with_operand loaded_under left two) (put_back sessions one first) ∙ put_back sessions two second

sessions_as_were : (slots : SlotState) (one two : Operand) (shape : Shape) (auths : Auths) (bytes : List ℕ) → is_no_session one ≡ true → is_no_session two ≡ true
    → let effect = effect_of slots.persist (over_operands one two) shape auths bytes in
    sessions_left slots.sessions effect.operands effect.outcome.auth_ended ≡ slots.sessions
sessions_as_were slots one two shape auths bytes first second =
    let effect = effect_of slots.persist (over_operands one two) shape auths bytes in
    ap (λ (operands : Operands). sessions_left slots.sessions operands effect.outcome.auth_ended)
    (operands_as_were slots.persist one two shape auths bytes first second)
    ∙ both_back slots.sessions one two effect.outcome.auth_ended first second

made_sessions : (state : SlotState) (created : Created) (reply : List ℕ) → makes_no_session created ≡ true → (made_by state created reply).0.sessions ≡ state.sessions
made_sessions state nothing reply none = refl
made_sessions state (new_object o) reply none = refl
made_sessions state (new_session s) reply none = absurd cc

no_named : (sessions : ℕ → Option Session) (handle : ℕ) → is_session_handle handle ≡ false → session_named sessions handle ≡ None
no_named sessions handle other = ap (λ (session : Bool). if session then with_handle handle (sessions handle) else None) other

pub over_no_session : (objects : ℕ → Option Object) (sessions : ℕ → Option Session) (shape : Shape) (auths : Auths)
    → is_session_handle (command_auth auths).session ≡ false
    → operands_by objects sessions shape auths
    ≡ over_operands (operand_by objects sessions (get_or shape.row.handles 0 Absent) (get_or shape.handles 0 0))
    (operand_by objects sessions (get_or shape.row.handles 1 Absent) (get_or shape.handles 1 0))
over_no_session objects sessions shape auths other =
    ap (λ (session : Option (ℕ × Session)).
    let operands : Operands = record {
      handles = operand_by objects sessions (get_or shape.row.handles 0 Absent) (get_or shape.handles 0 0)
          ∷ operand_by objects sessions (get_or shape.row.handles 1 Absent) (get_or shape.handles 1 0) ∷ [];
      session = session;
    } in operands) (no_named sessions (command_auth auths).session other)

pub over_sessions : (slots : SlotState) (tables : Tables) (bytes : List ℕ) (a : Admitted) (first second : ℕ) → slots.started ≡ true
    → admitted row_of tables bytes ≡ Ok a → AreHandlesOf a.shape first second → HandlesAreThere (slot_tables slots) bytes a first second
    → is_of_effects a.shape.row.code ≡ true → ArePasswords (take a.auths.count a.auths.auths)
    → is_session_handle first ≡ false → is_session_handle second ≡ false
    → (slot_step slots (with_handles bytes a.shape (first ∷ second ∷ []))).0.sessions ≡ slots.sessions
over_sessions slots tables bytes a first second started e are there only passwords no_first no_second =
    let shape = handled a.shape first second in
    let objects = in_slot slots in
    let sessions = loaded_session slots in
    let one = operand_by objects sessions (get_or a.shape.row.handles 0 Absent) first in
    let two = operand_by objects sessions (get_or a.shape.row.handles 1 Absent) second in
    let effect : Operands → Effect = λ operands. effect_of slots.persist operands a.shape a.auths bytes in
    let left : Operands → List SessionPlace = λ operands. sessions_left slots.sessions (effect operands).operands (effect operands).outcome.auth_ended in
    let over = slot_operands slots shape a.auths in
    let behind : AuthsBehind a.shape.rest a.auths =
    subst (λ (auths : Result Auths ℕ). IfOk auths (AuthsBehind a.shape.rest)) (passed tables bytes a e).given.auths_are (auths_of_behind bytes a.shape) in
    ap (λ (step : Step). step.0.sessions) (over_step slots tables bytes a first second started e are there only)
    ∙ made_sessions (record slots { persist = (effect over).persist; sessions = left over }) (effect over).outcome.created (effect over).reply
    (makes_none slots.persist over a.shape a.auths bytes (of_effects a.shape.row.code only).start)
    ∙ ap left (over_no_session objects sessions shape a.auths (behind.no_session passwords))
    ∙ sessions_as_were slots one two a.shape a.auths bytes (operand_no_session objects sessions (get_or a.shape.row.handles 0 Absent) first no_first)
    (operand_no_session objects sessions (get_or a.shape.row.handles 1 Absent) second no_second)
