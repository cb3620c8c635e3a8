-- A device gives no wrong answer to a command that it admits and that has effects alone.
use Rattle.std.proofs.Common.{◌≡◌, ◌+◌, ◌^◌, ◌<◌, ◌≤◌, ℕ, Bool, true, false, List, [], ◌∷◌, ◌++◌, length, drop, refl, ◌∙◌, sym, ap, subst, arith, inl, inr}
use Rattle.std.specs.Prelude.{◌⊎◌, Option, Some, None, IfSome, Result, Ok, Err, not, ◌==◌, ◌||◌, ◌&&◌, if◌then◌else◌}
use Rattle.std.specs.List.{find}
use Rattle.std.specs.Int.{w32, to_be_bytes}
use Rattle.std.proofs.lemmas.Bool.{and_parts, cond_both, eqb-true}
use Rattle.tab_spec.specs.declared.TheConstants.{ST_SESSIONS, CC_STARTUP, CC_CONTEXT_LOAD, CC_CONTEXT_SAVE, CC_FLUSH_CONTEXT, CC_GET_CAPABILITY, CC_START_AUTH_SESSION, CC_CREATE_PRIMARY, CC_LOAD, HT_TRANSIENT, TRANSIENT_FIRST, RC_SUCCESS, RC_BAD_TAG, RC_COMMAND_SIZE}
use Rattle.tab_spec.specs.declared.Admitted.{Admitted}
use Rattle.tab_spec.specs.declared.Auth.{Auth}
use Rattle.tab_spec.specs.declared.Auths.{Auths}
use Rattle.tab_spec.specs.declared.CommandRow.{CommandRow}
use Rattle.tab_spec.specs.declared.Shape.{Shape}
use Rattle.tab_spec.specs.Admission.{admitted_by, unless_fault}
use Rattle.tab_spec.specs.Commands.{all_commands, row_of}
use Rattle.tab_spec.specs.Frame.{code_of, is_frame, tag_of}
use Rattle.tab_spec.specs.Object.{Object}
use Rattle.tab_spec.specs.Persist.{Persist, IsPersist, drawn}
use Rattle.tab_spec.specs.Reply.{error_reply, response}
use Rattle.tab_spec.specs.Session.{Session, IsSession}
use Rattle.tab_spec.specs.Shape.{IsShape, is_command_tag, known_row, octet_of, row_in}
use Rattle.tab_spec.specs.Values.{AreBytes}
use Rattle.tab_spec.specs.declared.contexts.TheConstants.{PROFILE_CONTEXTS}
use Rattle.effect_spec.specs.Authorization.{Entity}
use Rattle.effect_spec.specs.Nv.{undefined_index}
use Rattle.effect_spec.specs.Operands.{Operand, Operands, Created, handles_left, named_session, new_object, new_session, nothing, number_of, object_in, operand_at, policy_session_in, session_left, command_auth}
use Rattle.effect_spec.specs.Objects.{create_primary_row, load_row}
use Rattle.effect_spec.specs.SessionAuths.{ResponseAuth, response_auth, response_hmac, rp_hash, session_response_auth, session_response_with}
use Rattle.effect_spec.specs.Effect.{RowOutcome, authorization_fault, command_entity, effect_authorized, effect_in, effect_of, effect_row, ends_session, handle_area, making_object, outcome_of, response_auth_of, response_body, row_by}
use Rattle.device_spec.specs.Answers.{fits_handle, has_response_handle, is_word, takes}
use Rattle.device_spec.specs.Slots.{SlotState, IsSlots, Step, effect_by, free_slot, is_free, made_by, room_for, sessions_left, slot_effect, slot_operands, slot_tables, slot_admitted, slot_step, unless_full}
use Rattle.tab_laws.proofs.Admissions.{admitted_is_shape, admitted_row, admitted_tag, found_code}
use Rattle.device_laws.specs.Effects.{is_managed, is_of_effects}
use Rattle.device_laws.proofs.AnswerForms.{command_tag_fits, IsAnswer, OfEffects, body_whole, error_taken, handle_of_response, no_list_asked, of_effects, own_none, session_answer, success_taken, tag_of_response, transient_octet}
use Rattle.device_laws.proofs.ContextSteps.{step_goes}
use Rattle.device_laws.proofs.FaultRows.{closed_plain, outcome_plain}
use Rattle.device_laws.proofs.Faults.{Fails, IsPlain}
use Rattle.device_laws.proofs.Frames.{code_of_response}
use Rattle.device_laws.proofs.Outcomes.{LeftWell, Tells, TellsBy, left_outcome, tells_outcome}
use Rattle.device_laws.proofs.Replies.{found_in, step_replies}
use Rattle.device_laws.proofs.SessionRows.{DrawnExactly, drawn_exactly, hmac_few, nonce_few}
use Rattle.device_laws.proofs.Standing.{named_is, object_stands, operands_stand, policy_stands}

-- ---- the authorization of a response

abbrev AnswersWell : Result ResponseAuth ℕ → Type 0
AnswersWell (Err code) = Unit
AnswersWell (Ok c) = IsAnswer c.answer

drawn_answer : (entity : Entity) (s : Session) (auth : Auth) (bytes hash : List ℕ) (draw : Result (List ℕ × Persist) ℕ) → IsSession s
    → DrawnExactly (length s.nonce) draw → AnswersWell (session_response_auth (session_response_with entity s auth bytes hash draw))
drawn_answer entity s auth bytes hash (Err code) is drawn = tt
drawn_answer entity s auth bytes hash (Ok nonce) is drawn =
    session_answer nonce.0 (response_hmac entity s auth bytes hash nonce.0) auth.attributes (omega (arith, drawn.0, nonce_few s.nonce is.nonce))
    (hmac_few entity s auth bytes hash nonce.0)

closed_answer : (persist : Persist) (entity : Entity) (session : Option Session) (auth : Auth) (bytes hash : List ℕ) → IsPersist persist
    → IfSome session IsSession → AnswersWell (response_auth persist entity session auth bytes hash)
closed_answer persist entity None auth bytes hash sound is = λ size. refl
closed_answer persist entity (Some s) auth bytes hash sound is =
    drawn_answer entity s auth bytes hash (drawn persist (length s.nonce)) is (drawn_exactly persist (length s.nonce) sound)

-- the same where there are authorizations, and a plain code where it fails
record ClosesWell (sessions : Bool) (closed : Result ResponseAuth ℕ) : Type 0 where
  plain : Fails IsPlain closed
  answers : sessions ≡ true → AnswersWell closed

closes_by : (sessions : Bool) (closed unclosed : Result ResponseAuth ℕ) → Fails IsPlain closed → AnswersWell closed → Fails IsPlain unclosed
    → ClosesWell sessions (if sessions then closed else unclosed)
closes_by true closed unclosed plain answers fails = record { plain = plain; answers = λ is. answers }
closes_by false closed unclosed plain answers fails = record { plain = fails; answers = λ is. absurd cc }

outcome_closes : (persist : Persist) (operands : Operands) (shape : Shape) (auths : Auths) (bytes : List ℕ) (done : RowOutcome) → IsPersist done.persist
    → IfSome (named_session operands.session) IsSession → ClosesWell (shape.tag == ST_SESSIONS) (response_auth_of persist operands shape auths bytes done)
outcome_closes persist operands shape auths bytes done sound named =
    let entity = command_entity persist operands in
    let session = named_session operands.session in
    let auth = command_auth auths in
    let hash = rp_hash shape.row.code done.params in
    closes_by (shape.tag == ST_SESSIONS) (response_auth done.persist entity session auth bytes hash)
    (Ok (record { persist = done.persist; session = session; answer = [] })) (closed_plain done.persist entity session auth bytes hash)
    (closed_answer done.persist entity session auth bytes hash sound named) tt

-- ---- a command whose response has a handle makes an object

abbrev pub Makes : Bool → Created → Type 0
Makes false created = Unit
Makes true nothing = ⊥
Makes true (new_object o) = Unit
Makes true (new_session s) = ⊥

abbrev pub MadeAs : Bool → Result RowOutcome ℕ → Type 0
MadeAs named (Err code) = Unit
MadeAs named (Ok done) = Makes named done.created

unnamed : (row : Result RowOutcome ℕ) → MadeAs false row
unnamed (Err code) = tt
unnamed (Ok done) = tt

object_made : (persist : Persist) (row : Result (Object × List ℕ) ℕ) → MadeAs true (making_object persist row)
object_made persist (Err code) = tt
object_made persist (Ok done) = tt

primary_made : (persist : Persist) (operands : List Operand) (policy : Option Session) (item : Option Object) (params : List ℕ)
    → MadeAs true (row_by CC_CREATE_PRIMARY persist operands policy item params)
primary_made persist operands (Some s) item params = tt
primary_made persist operands None (Some item) params = tt
primary_made persist operands None None params = object_made persist (create_primary_row persist params)

load_made : (persist : Persist) (operands : List Operand) (policy : Option Session) (item : Option Object) (params : List ℕ)
    → MadeAs true (row_by CC_LOAD persist operands policy item params)
load_made persist operands (Some s) item params = tt
load_made persist operands None (Some item) params = object_made persist (load_row item params)
load_made persist operands None None params = tt

-- what holds of all rows holds of one that is found
abbrev pub all_of : (CommandRow → Bool) → List CommandRow → Bool
all_of test [] = true
all_of test (row ∷ rows) = test row && all_of test rows

found_by : (test : CommandRow → Bool) (is : Bool) (first row : CommandRow) (more : Option CommandRow) → test first ≡ true → (more ≡ Some row → test row ≡ true)
    → (if is then Some first else more) ≡ Some row → test row ≡ true
found_by test true first row more has later e = let same : first ≡ row = cc in subst (λ (r : CommandRow). test r ≡ true) same has
found_by test false first row more has later e = later e

pub found_has : (test : CommandRow → Bool) (code : ℕ) (rows : List CommandRow) (row : CommandRow) → all_of test rows ≡ true
    → find (λ r. r.code == code) rows ≡ Some row → test row ≡ true
found_has test code [] row all e = absurd cc
found_has test code (first ∷ rows) row all e =
    let parts = and_parts (test first) (all_of test rows) all in
    found_by test (first.code == code) first row (find (λ r. r.code == code) rows) parts.0 (found_has test code rows row parts.1) e

-- the commands whose response has a handle
abbrev is_handled : CommandRow → Bool
is_handled row =
    not row.response_handle || row.code == CC_CREATE_PRIMARY || row.code == CC_LOAD || row.code == CC_CONTEXT_LOAD || row.code == CC_START_AUTH_SESSION

one_of_two : (named primary load context start : Bool) → (not named || primary || load || context || start) ≡ true → context ≡ false → start ≡ false
    → named ≡ true → (primary ≡ true) ⊎ (load ≡ true)
one_of_two true true load context start is a b c = inl refl
one_of_two true false true context start is a b c = inr refl
one_of_two true false false true start is a b c = absurd cc
one_of_two true false false false true is a b c = absurd cc
one_of_two true false false false false is a b c = absurd cc
one_of_two false primary load context start is a b c = absurd cc

pub handled_codes : (row : CommandRow) → row_of row.code ≡ Some row → OfEffects row.code → row.response_handle ≡ true
    → ((row.code == CC_CREATE_PRIMARY) ≡ true) ⊎ ((row.code == CC_LOAD) ≡ true)
handled_codes row known of named =
    one_of_two row.response_handle (row.code == CC_CREATE_PRIMARY) (row.code == CC_LOAD) (row.code == CC_CONTEXT_LOAD) (row.code == CC_START_AUTH_SESSION)
    (found_has is_handled row.code all_commands row refl known) of.load of.start named

made_in : (code : ℕ) (persist : Persist) (operands : List Operand) (policy : Option Session) (item : Option Object) (params : List ℕ)
    → ((code == CC_CREATE_PRIMARY) ≡ true) ⊎ ((code == CC_LOAD) ≡ true) → MadeAs true (row_by code persist operands policy item params)
made_in code persist operands policy item params (inl is) =
    subst (λ (c : ℕ). MadeAs true (row_by c persist operands policy item params)) (sym (eqb-true code CC_CREATE_PRIMARY is))
    (primary_made persist operands policy item params)
made_in code persist operands policy item params (inr is) =
    subst (λ (c : ℕ). MadeAs true (row_by c persist operands policy item params)) (sym (eqb-true code CC_LOAD is))
    (load_made persist operands policy item params)

made_by_row : (named : Bool) (code : ℕ) (persist : Persist) (operands : List Operand) (policy : Option Session) (item : Option Object) (params : List ℕ)
    → (named ≡ true → ((code == CC_CREATE_PRIMARY) ≡ true) ⊎ ((code == CC_LOAD) ≡ true)) → MadeAs named (row_by code persist operands policy item params)
made_by_row false code persist operands policy item params codes = unnamed (row_by code persist operands policy item params)
made_by_row true code persist operands policy item params codes = made_in code persist operands policy item params (codes refl)

made_faultless : (named : Bool) (fault : Option ℕ) (row : Result RowOutcome ℕ) → MadeAs named row → MadeAs named (unless_fault fault row)
made_faultless named None row made = made
made_faultless named (Some code) row made = tt

pub made_outcome : (persist : Persist) (operands : Operands) (shape : Shape) (auths : Auths) (bytes : List ℕ) → row_of shape.row.code ≡ Some shape.row
    → OfEffects shape.row.code → MadeAs shape.row.response_handle (outcome_of persist operands shape auths bytes)
made_outcome persist operands shape auths bytes known of =
    let named = shape.row.response_handle in
    let first = operand_at operands.handles 0 in
    let second = operand_at operands.handles 1 in
    let params = drop auths.params bytes in
    let row = effect_row shape.row.code persist operands.handles params in
    let fault = authorization_fault persist operands shape auths bytes in
    made_faultless named (undefined_index persist.nv 1 (number_of first ∷ number_of second ∷ [])) (unless_fault fault row)
    (made_faultless named fault row
    (made_by_row named shape.row.code persist operands.handles (policy_session_in operands.handles) (object_in first) params
    (handled_codes shape.row known of)))

-- ---- the reply

-- what is known of the command: its code and tag, and whether its response has a handle
record Asked (bytes : List ℕ) (tag : ℕ) (named : Bool) : Type 0 where
  of : OfEffects (code_of bytes)
  tag_is : tag ≡ tag_of bytes
  tag_fits : tag < 2 ^ 16
  has : has_response_handle (row_of (code_of bytes)) ≡ named

abbrev Taken : List ℕ → List ℕ → Type 0
Taken bytes reply = is_frame reply ≡ true → takes PROFILE_CONTEXTS false false bytes reply ≡ true

refused_taken : (bytes : List ℕ) (code : ℕ) → OfEffects (code_of bytes) → IsPlain code → Taken bytes (error_reply code)
refused_taken bytes code of plain frame = error_taken bytes code (own_none bytes of) plain

pub free_few : (slots : List (Option Object)) → free_slot slots ≤ length slots
free_few [] = omega arith
free_few (slot ∷ slots) =
    cond_both (is_free slot) 0 (1 + free_slot slots) (λ (n : ℕ). n ≤ length (slot ∷ slots)) (λ free. omega arith) (λ taken. omega (arith, free_few slots))

-- the handle of an object
handle_fits : (start session : Bool) (ok saved octet : Bool) → start ≡ false → session ≡ false → octet ≡ true
    → (if start then ok else if session then saved else octet) ≡ true
handle_fits start session ok saved octet a b c = rw (a, b, c) refl

loads_none : (load session : Bool) → load ≡ false → (load && session) ≡ false
loads_none load session is = rw is refl

object_fits : (bytes : List ℕ) (number : ℕ) → OfEffects (code_of bytes) → number ≤ 254 → fits_handle false bytes (TRANSIENT_FIRST + number) ≡ true
object_fits bytes number of few =
    handle_fits (code_of bytes == CC_START_AUTH_SESSION) (code_of bytes == CC_CONTEXT_LOAD && _) _ _ (octet_of (TRANSIENT_FIRST + number) == HT_TRANSIENT) of.start
    (loads_none (code_of bytes == CC_CONTEXT_LOAD) _ of.load) (transient_octet number few)

-- by the command's tag in place of the response's
authorized_as : (tag other : ℕ) (whole : Bool) → tag ≡ other → (not (tag == ST_SESSIONS) || whole) ≡ true → (not (other == ST_SESSIONS) || whole) ≡ true
authorized_as tag other whole same is = subst (λ (t : ℕ). (not (t == ST_SESSIONS) || whole) ≡ true) same is

plain_taken : (bytes : List ℕ) (tag : ℕ) (params answer : List ℕ) → Asked bytes tag false → length params ≤ 4000 → ((tag == ST_SESSIONS) ≡ true → IsAnswer answer)
    → Taken bytes (response tag RC_SUCCESS (response_body tag params answer))
plain_taken bytes tag params answer asked small is frame =
    let last = response tag RC_SUCCESS (response_body tag params answer) in
    success_taken false false bytes last false frame (code_of_response tag RC_SUCCESS (response_body tag params answer) (omega arith)) asked.has
    (tag_of_response tag RC_SUCCESS (response_body tag params answer) asked.tag_fits ∙ asked.tag_is)
    (record { handled = refl; authorized = authorized_as tag (tag_of bytes) _ asked.tag_is (body_whole tag params answer (omega (arith, small)) is) })
    asked.of.save (no_list_asked bytes asked.of.capability)

object_taken : (bytes : List ℕ) (tag number : ℕ) (params answer : List ℕ) → Asked bytes tag true → number ≤ 254 → length params ≤ 4000
    → ((tag == ST_SESSIONS) ≡ true → IsAnswer answer)
    → Taken bytes (response tag RC_SUCCESS (to_be_bytes w32 (TRANSIENT_FIRST + number) ++ response_body tag params answer))
object_taken bytes tag number params answer asked few small is frame =
    let handle = TRANSIENT_FIRST + number in
    let body = to_be_bytes w32 handle ++ response_body tag params answer in
    let last = response tag RC_SUCCESS body in
    success_taken false false bytes last true frame (code_of_response tag RC_SUCCESS body (omega arith)) asked.has
    (tag_of_response tag RC_SUCCESS body asked.tag_fits ∙ asked.tag_is)
    (record {
      handled = ap (is_word (fits_handle false bytes)) (handle_of_response tag handle (response_body tag params answer) (omega (arith, few)))
          ∙ object_fits bytes number asked.of few;
      authorized = authorized_as tag (tag_of bytes) _ asked.tag_is (body_whole tag params answer (omega (arith, small)) is);
    })
    asked.of.save (no_list_asked bytes asked.of.capability)

made_taken : (bytes : List ℕ) (slots : SlotState) (created : Created) (named : Bool) (tag : ℕ) (params answer : List ℕ) → Asked bytes tag named
    → length slots.slots ≤ 254 → length params ≤ 4000 → ((tag == ST_SESSIONS) ≡ true → IsAnswer answer) → Makes named created → TellsBy named created
    → Taken bytes (made_by slots created (response tag RC_SUCCESS (handle_area named ++ response_body tag params answer))).1
made_taken bytes slots nothing false tag params answer asked few_slots small is makes tells = plain_taken bytes tag params answer asked small is
made_taken bytes slots nothing true tag params answer asked few_slots small is makes tells = absurd makes
made_taken bytes slots (new_object o) true tag params answer asked few_slots small is makes tells =
    object_taken bytes tag (free_slot slots.slots) params answer asked (omega (arith, free_few slots.slots, few_slots)) small is
made_taken bytes slots (new_object o) false tag params answer asked few_slots small is makes tells = absurd cc
made_taken bytes slots (new_session s) true tag params answer asked few_slots small is makes tells = absurd makes
made_taken bytes slots (new_session s) false tag params answer asked few_slots small is makes tells = absurd cc

closed_taken : (bytes : List ℕ) (slots : SlotState) (operands : Operands) (shape : Shape) (auths : Auths) (done : RowOutcome) (closed : Result ResponseAuth ℕ)
    → Asked bytes shape.tag shape.row.response_handle → length slots.slots ≤ 254 → length done.params ≤ 4000 → ClosesWell (shape.tag == ST_SESSIONS) closed
    → Makes shape.row.response_handle done.created → TellsBy shape.row.response_handle done.created
    → Taken bytes (effect_by slots (effect_authorized slots.persist operands shape auths done closed)).1
closed_taken bytes slots operands shape auths done (Err code) asked few_slots small well makes tells = refused_taken bytes code asked.of well.plain
closed_taken bytes slots operands shape auths done (Ok closed) asked few_slots small well makes tells =
    let after : Operands = record { handles = handles_left done.policy operands.handles; session = session_left operands.session closed.session } in
    let ended = ends_session operands shape auths in
    made_taken bytes (record slots { persist = closed.persist; sessions = sessions_left slots.sessions after ended }) done.created shape.row.response_handle
    shape.tag done.params closed.answer asked few_slots small well.answers makes tells

outcome_taken : (slots : SlotState) (operands : Operands) (shape : Shape) (auths : Auths) (bytes : List ℕ) (row : Result RowOutcome ℕ)
    → Asked bytes shape.tag shape.row.response_handle → length slots.slots ≤ 254 → IfSome (named_session operands.session) IsSession → Fails IsPlain row
    → LeftWell (AreBytes (drop auths.params bytes)) row → MadeAs shape.row.response_handle row → Tells shape.row (drop auths.params bytes) row
    → Taken bytes (effect_by slots (effect_in slots.persist operands shape auths bytes row)).1
outcome_taken slots operands shape auths bytes (Err code) asked few_slots named plain left made tells = refused_taken bytes code asked.of plain
outcome_taken slots operands shape auths bytes (Ok done) asked few_slots named plain left made tells =
    closed_taken bytes slots operands shape auths done (response_auth_of slots.persist operands shape auths bytes done) asked few_slots left.0
    (outcome_closes slots.persist operands shape auths bytes done left.1.0 named) made tells.0

effect_taken : (slots : SlotState) (shape : Shape) (auths : Auths) (bytes : List ℕ) → IsSlots slots → IsShape shape → Asked bytes shape.tag shape.row.response_handle
    → OfEffects shape.row.code → Taken bytes (effect_by slots (effect_of slots.persist (slot_operands slots shape auths) shape auths bytes)).1
unfolding effect_of
effect_taken slots shape auths bytes sound is asked of =
    let operands = slot_operands slots shape auths in
    let stand = operands_stand slots shape auths sound in
    outcome_taken slots operands shape auths bytes (outcome_of slots.persist operands shape auths bytes) asked (omega (arith, sound.count, sound.range.slots_most))
    (named_is slots.sessions operands.session stand.named) (outcome_plain slots.persist operands shape auths bytes)
    (left_outcome slots.persist operands shape auths bytes sound.persist (policy_stands slots.sessions operands stand) (object_stands slots.sessions operands stand))
    (made_outcome slots.persist operands shape auths bytes is.row of) (tells_outcome slots.persist operands shape auths bytes is.row)

-- ---- the step

room_none : (start : Bool) (some : Option ℕ) → start ≡ false → (if start then some else None) ≡ None
room_none start some is = rw is refl

goes_by : (P : Step → Type 0) (startup save load flush capability : Bool) (a b c d e f : Step) → startup ≡ false → save ≡ false → load ≡ false → flush ≡ false
    → capability ≡ false → P f → P (if startup then a else if save then b else if load then c else if flush then d else if capability then e else f)
goes_by P startup save load flush capability a b c d e f s1 s2 s3 s4 s5 is = rw (s1, s2, s3, s4, s5) is

run_taken : (slots : SlotState) (shape : Shape) (auths : Auths) (bytes : List ℕ) → IsSlots slots → IsShape shape → Asked bytes shape.tag shape.row.response_handle
    → OfEffects shape.row.code → Taken bytes (slot_effect slots shape auths bytes).1
run_taken slots shape auths bytes sound is asked of =
    let params = drop auths.params bytes in
    let code = shape.row.code in
    let effect = effect_by slots (effect_of slots.persist (slot_operands slots shape auths) shape auths bytes) in
    let room : room_for slots code params ≡ None = room_none (code == CC_START_AUTH_SESSION) _ of.start in
    goes_by (λ (step : Step). Taken bytes step.1) (code == CC_STARTUP) (code == CC_CONTEXT_SAVE) (code == CC_CONTEXT_LOAD) (code == CC_FLUSH_CONTEXT)
    (code == CC_GET_CAPABILITY) _ _ _ _ _ (unless_full slots (room_for slots code params) effect) of.startup of.save of.load of.flush of.capability
    (subst (λ (full : Option ℕ). Taken bytes (unless_full slots full effect).1) (sym room) (effect_taken slots shape auths bytes sound is asked of))

-- the row of an admitted command is that of its code
code_by : (found : Option CommandRow) (row : CommandRow) → found ≡ Some row → has_response_handle found ≡ row.response_handle
code_by None row e = absurd cc
code_by (Some r) row e = let same : r ≡ row = cc in ap (λ (x : CommandRow). x.response_handle) same

-- what is known of a command whose row was found
record Found (bytes : List ℕ) (row : CommandRow) : Type 0 where
  tag_known : is_command_tag (tag_of bytes) ≡ true
  row_is : row_of (code_of bytes) ≡ Some row

known_is : (found : Option CommandRow) (row : CommandRow) → known_row found ≡ Ok row → found ≡ Some row
known_is None row e = absurd cc
known_is (Some r) row e = cc

found_with : (frame tag : Bool) (bytes : List ℕ) (row : CommandRow) → is_command_tag (tag_of bytes) ≡ tag
    → (if not frame then Err RC_COMMAND_SIZE else if not tag then Err RC_BAD_TAG else known_row (row_of (code_of bytes))) ≡ Ok row → Found bytes row
found_with false tag bytes row is e = absurd cc
found_with true false bytes row is e = absurd cc
found_with true true bytes row is e = record { tag_known = is; row_is = known_is (row_of (code_of bytes)) row e }

asked_as : (bytes : List ℕ) (row : CommandRow) (shape : Shape) → Found bytes row → shape.row ≡ row → shape.tag ≡ tag_of bytes → OfEffects shape.row.code
    → Asked bytes shape.tag shape.row.response_handle
asked_as bytes row shape found row_is tag_is of =
    let code_is : shape.row.code ≡ code_of bytes = ap (λ (r : CommandRow). r.code) row_is ∙ found_code (code_of bytes) all_commands row found.row_is in
    record {
      of = subst OfEffects code_is of;
      tag_is = tag_is;
      tag_fits = subst (λ (t : ℕ). t < 2 ^ 16) (sym tag_is) (command_tag_fits (tag_of bytes) found.tag_known);
      has = code_by (row_of (code_of bytes)) shape.row (found.row_is ∙ ap (λ (r : CommandRow). Some r) (sym row_is));
    }

row_taken : (slots : SlotState) (bytes : List ℕ) (row : CommandRow) (a : Admitted) → IsSlots slots → slots.started ≡ true → row_in row_of bytes ≡ Ok row
    → admitted_by (slot_tables slots) (Ok row) bytes ≡ Ok a → is_of_effects a.shape.row.code ≡ true → takes PROFILE_CONTEXTS false false bytes (slot_step slots bytes).1 ≡ true
row_taken slots bytes row a sound started known admitted is =
    let of = of_effects a.shape.row.code is in
    let found = found_with (is_frame bytes) (is_command_tag (tag_of bytes)) bytes row refl known in
    let shape_is = admitted_is_shape (slot_tables slots) row bytes a (found_in (is_frame bytes) (is_command_tag (tag_of bytes)) bytes row known) admitted in
    let asked =
    asked_as bytes row a.shape found (admitted_row (slot_tables slots) row bytes a admitted) (admitted_tag (slot_tables slots) row bytes a admitted) of in
    let steps : slot_step slots bytes ≡ slot_effect slots a.shape a.auths bytes =
    step_goes slots row bytes started known ∙ ap (λ (r : Result Admitted ℕ). slot_admitted slots r bytes) admitted in
    subst (λ (step : Step). Taken bytes step.1) (sym steps) (run_taken slots a.shape a.auths bytes sound shape_is asked of) (step_replies slots bytes sound)

taken_by : (slots : SlotState) (bytes : List ℕ) (row : Result CommandRow ℕ) (a : Admitted) → row_in row_of bytes ≡ row → IsSlots slots → slots.started ≡ true
    → admitted_by (slot_tables slots) row bytes ≡ Ok a → is_of_effects a.shape.row.code ≡ true → takes PROFILE_CONTEXTS false false bytes (slot_step slots bytes).1 ≡ true
taken_by slots bytes (Err code) a known sound started admitted is = absurd cc
taken_by slots bytes (Ok row) a known sound started admitted is = row_taken slots bytes row a sound started known admitted is

pub answers_rightly : (slots : SlotState) (bytes : List ℕ) (a : Admitted) → IsSlots slots → slots.started ≡ true
    → admitted_by (slot_tables slots) (row_in row_of bytes) bytes ≡ Ok a → is_of_effects a.shape.row.code ≡ true
    → takes PROFILE_CONTEXTS false false bytes (slot_step slots bytes).1 ≡ true
answers_rightly slots bytes a sound started admitted is = taken_by slots bytes (row_in row_of bytes) a refl sound started admitted is

-- ---- the commands of clients

-- none of four tests, and neither of two others
none_of : (save load flush capability startup start : Bool) → (save || load || flush || capability) ≡ false → startup ≡ false → start ≡ false
    → not (startup || save || load || flush || capability || start) ≡ true
none_of false false false false false false managed e f = refl
none_of false false false false false true managed e f = absurd cc
none_of false false false false true start managed e f = absurd cc
none_of false false false true startup start managed e f = absurd cc
none_of false false true capability startup start managed e f = absurd cc
none_of false true flush capability startup start managed e f = absurd cc
none_of true load flush capability startup start managed e f = absurd cc

pub clients_have_effects : (code : ℕ) → is_managed code ≡ false → (code == CC_STARTUP) ≡ false → (code == CC_START_AUTH_SESSION) ≡ false
    → is_of_effects code ≡ true
clients_have_effects code managed startup start =
    none_of (code == CC_CONTEXT_SAVE) (code == CC_CONTEXT_LOAD) (code == CC_FLUSH_CONTEXT) (code == CC_GET_CAPABILITY) (code == CC_STARTUP)
    (code == CC_START_AUTH_SESSION) managed startup start
