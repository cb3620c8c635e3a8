-- A broker takes what a started device answers to StartAuthSession, where the device has room as its clients have.
use Rattle.std.proofs.Common.{◌≡◌, ◌+◌, ◌*◌, ◌^◌, ◌<◌, ◌≤◌, inl, inr, ℕ, suc, Bool, true, false, List, [], ◌∷◌, ◌++◌, length, get_or, drop, refl, ap, sym, ◌∙◌, subst, arith}
use Rattle.std.specs.Prelude.{Option, Some, None, Result, Ok, Err, not, nat_le, nat_lt, ◌==◌, ◌||◌, ◌&&◌, if◌then◌else◌}
use Rattle.std.specs.Int.{w32, to_be_bytes}
use Rattle.std.proofs.lemmas.Bool.{and_parts, cond_both, cond-false, eq-eqb, eqb-true, leb-false, leb-true, lt-ltb, ltb-false, not_from_false, or_left, or_parts}
use Rattle.std.proofs.lemmas.List.Sums.{sum_by-cons}
use Rattle.tab_spec.specs.declared.TheConstants.{CC_CONTEXT_LOAD, CC_CONTEXT_SAVE, CC_FLUSH_CONTEXT, CC_GET_CAPABILITY, CC_START_AUTH_SESSION, CC_STARTUP, HT_TRANSIENT, RC_SESSION_HANDLES, RC_SESSION_MEMORY, RC_SUCCESS, RH_NULL, SESSION_NUMBERS, ST_SESSIONS}
use Rattle.tab_spec.specs.declared.Kind.{Kind}
use Rattle.tab_spec.specs.declared.Kind.TheVariants.{Absent, Null}
use Rattle.tab_spec.specs.declared.SessionKind.{SessionKind}
use Rattle.tab_spec.specs.declared.SessionKind.TheVariants as sorts
use Rattle.tab_spec.specs.declared.Admitted.{Admitted}
use Rattle.tab_spec.specs.declared.CommandRow.{CommandRow}
use Rattle.tab_spec.specs.declared.Shape.{Shape}
use Rattle.tab_spec.specs.Admission.{admitted, is_session_handle}
use Rattle.tab_spec.specs.Commands.{command_row, row_of}
use Rattle.tab_spec.specs.Frame.{code_of, is_frame, tag_of}
use Rattle.tab_spec.specs.Object.{Object}
use Rattle.tab_spec.specs.Reply.{error_reply, response}
use Rattle.tab_spec.specs.Session.{Session, is_kind_number, kind_octet, kind_of}
use Rattle.tab_spec.specs.Shape.{are_of_kinds, handles_in, is_present, number_of_session, octet_of, rest_of}
use Rattle.tab_spec.specs.Values.{Reading}
use Rattle.tab_spec.specs.declared.contexts.TheConstants.{PROFILE_CONTEXTS}
use Rattle.effect_spec.specs.Effect.{Effect, RowOutcome, command_entity, effect_authorized, effect_in, effect_of, ends_session, handle_area, outcome_of, response_auth_of, response_body}
use Rattle.effect_spec.specs.Operands.{Operand, absent, plain, an_object, a_session, Operands, Created, command_auth, handles_left, named_session, new_object, new_session, nothing, object_operand, operand_at, operand_by, session_left, session_operand, with_handle, with_operand}
use Rattle.effect_spec.specs.SessionAuths.{ResponseAuth, response_auth, rp_hash}
use Rattle.effect_spec.specs.Sessions.{StartParameters, start_check}
use Rattle.device_spec.specs.Answers.{fits_handle, has_response_handle, is_own, is_started_handle, is_word, session_type_of, takes}
use Rattle.device_spec.specs.Slots.{SlotState, SessionPlace, IsSlots, Step, active_count, effect_by, free_number, in_slot, is_active, loaded_count, loaded_session, loaded_under, made_by, room_for, session_too_many, sessions_left, slot_operands, slot_step, slot_tables}
use Rattle.tab_laws.proofs.Admissions.{kinds_hold}
use Rattle.tab_laws.proofs.Handled.{code_found, passed}
use Rattle.device_laws.proofs.AnswerForms.{command_tag_fits, error_taken, handle_of_response, no_list_asked, success_taken, tag_of_response}
use Rattle.device_laws.proofs.FaultRows.{outcome_plain}
use Rattle.device_laws.proofs.Faults.{Fails, IsPlain}
use Rattle.device_laws.proofs.Frames.{code_of_response}
use Rattle.device_laws.proofs.Replies.{step_replies}
use Rattle.client_laws.proofs.Commands.{another_code, row_as}
use Rattle.client_laws.proofs.NoAuths.{NoAuths, no_auths, none_spare}
use Rattle.client_laws.proofs.Room.{HasPlace}
use Rattle.client_laws.proofs.Running.{IsRun, device_run, run_with}
use Rattle.client_laws.proofs.Starts.{IsChecked, IsStarted, StartsIn, outcome_starts, type_checked}

-- ---- its row and its handles

abbrev start_row : CommandRow
start_row = command_row CC_START_AUTH_SESSION Null Null 0 true

row_is : (row : CommandRow) → row_of row.code ≡ Some row → (row.code == CC_START_AUTH_SESSION) ≡ true → row ≡ start_row
row_is row known so = row_as row start_row CC_START_AUTH_SESSION known refl so

null_handle : (handle : ℕ) → (handle == RH_NULL) ≡ true → is_session_handle handle ≡ false
null_handle handle is = ap is_session_handle (eqb-true handle RH_NULL is)

null_handles : (handles : List ℕ) → are_of_kinds (Null ∷ Null ∷ []) handles ≡ true
    → (is_session_handle (get_or handles 0 0) ≡ false) × (is_session_handle (get_or handles 1 0) ≡ false)
null_handles [] is = absurd cc
null_handles (one ∷ []) is = let none : false ≡ true = (and_parts (one == RH_NULL) false is).1 in absurd cc
null_handles (one ∷ two ∷ more) is =
    let first = and_parts (one == RH_NULL) (two == RH_NULL && true) is in
    (null_handle one first.0, null_handle two (and_parts (two == RH_NULL) true first.1).0)

-- ---- it names no session, so it leaves them as they are

abbrev is_no_session : Operand → Bool
is_no_session absent = true
is_no_session (plain handle) = true
is_no_session (an_object o) = true
is_no_session (a_session handle s) = false

object_no_session : (handle : ℕ) (slot : Option Object) → is_no_session (object_operand handle slot) ≡ true
object_no_session handle None = refl
object_no_session handle (Some o) = refl

no_session_by : (present transient session : Bool) (handle : ℕ) (slot : Option Object) (found : Option Session) → session ≡ false
    → is_no_session (if not present then absent else if transient then object_operand handle slot else if session then session_operand handle found else plain handle)
    ≡ true
no_session_by false transient session handle slot found other = refl
no_session_by true true session handle slot found other = object_no_session handle slot
no_session_by true false true handle slot found other = absurd cc
no_session_by true false false handle slot found other = refl

operand_no_session : (slots : SlotState) (kind : Kind) (handle : ℕ) → is_session_handle handle ≡ false
    → is_no_session (operand_by (in_slot slots) (loaded_session slots) kind handle) ≡ true
operand_no_session slots kind handle other =
    no_session_by (is_present kind) (octet_of handle == HT_TRANSIENT) (is_session_handle handle) handle (in_slot slots handle) (loaded_session slots handle) other

put_back : (sessions : List SessionPlace) (operand : Operand) → is_no_session operand ≡ true → with_operand loaded_under sessions operand ≡ sessions
put_back sessions absent is = refl
put_back sessions (plain handle) is = refl
put_back sessions (an_object o) is = refl
put_back sessions (a_session handle s) is = absurd cc

-- what names no session
record NoSessions (operands : Operands) : Type 0 where
  first : is_no_session (operand_at operands.handles 0) ≡ true
  second : is_no_session (operand_at operands.handles 1) ≡ true
  named : operands.session ≡ None

abbrev left_of : Operands → Option Session → Option Session → Operands
left_of operands policy session = record { handles = handles_left policy operands.handles; session = session_left operands.session session }

all_back : (sessions : List SessionPlace) (operands : Operands) (policy session : Option Session) (ended : Bool) → policy ≡ None → NoSessions operands
    → sessions_left sessions (left_of operands policy session) ended ≡ sessions
all_back sessions operands policy session ended none apart =
    (λ i. sessions_left sessions (record { handles = handles_left (none i) operands.handles; session = session_left (apart.named i) session }) ended)
    ∙ ap (λ (left : List SessionPlace). with_operand loaded_under left (operand_at operands.handles 1)) (put_back sessions (operand_at operands.handles 0) apart.first)
    ∙ put_back sessions (operand_at operands.handles 1) apart.second

named_none : (is : Bool) (handle : ℕ) (found : Option Session) → is ≡ false → (if is then with_handle handle found else None) ≡ None
named_none true handle found other = absurd cc
named_none false handle found other = refl

-- ---- the number of the session

free_by : (active : Bool) (more count size : ℕ) → (count < size → more < size) → (if active then 1 else 0) + count < suc size
    → (if not active then 0 else 1 + more) < suc size
free_by true more count size later few = omega (arith, later (omega (arith, few)))
free_by false more count size later few = omega arith

-- where not all are active, the least unused number is below them
free_below : (sessions : List SessionPlace) → active_count sessions < length sessions → free_number sessions < length sessions
free_below [] few = absurd (omega (arith, few))
free_below (place ∷ sessions) few =
    let counts : active_count (place ∷ sessions) ≡ (if is_active place then 1 else 0) + active_count sessions =
    sum_by-cons (λ (p : SessionPlace). if is_active p then 1 else 0) place sessions in
    free_by (is_active place) (free_number sessions) (active_count sessions) (length sessions) (free_below sessions)
    (subst (λ (count : ℕ). count < length (place ∷ sessions)) counts few)

-- ---- its handle

kind_small : (kind : SessionKind) → kind_octet kind ≤ 3
kind_small sorts.Hmac = omega arith
kind_small sorts.Policy = omega arith
kind_small sorts.Trial = omega arith

four_from : (kind octet number : Bool) → kind ≡ true → octet ≡ true → number ≡ true → (kind && octet && number && not false) ≡ true
four_from kind octet number a b c = rw (a, b, c) refl

-- what is known of a StartAuthSession that is admitted
record Asks (bytes : List ℕ) (a : Admitted) : Type 0 where
  code : (code_of bytes == CC_START_AUTH_SESSION) ≡ true
  tag : a.shape.tag ≡ tag_of bytes
  fits : a.shape.tag < 2 ^ 16
  row : a.shape.row ≡ start_row
  known : row_of (code_of bytes) ≡ Some a.shape.row
  none : NoAuths a.shape a.auths
  rest : a.shape.rest ≡ 18
  first : is_session_handle (get_or a.shape.handles 0 0) ≡ false
  second : is_session_handle (get_or a.shape.handles 1 0) ≡ false

started_handle : (params : List ℕ) (b : StartParameters) (number : ℕ) (kind : SessionKind) → IsChecked params b → kind ≡ kind_of b.kind → number < SESSION_NUMBERS
    → is_started_handle false (session_type_of params) (kind_octet kind * 2 ^ 24 + number) ≡ true
started_handle params b number kind checked same few =
    let octet = kind_octet kind in
    let handle = octet * 2 ^ 24 + number in
    let octet_is : octet_of handle ≡ octet = omega (arith, few) in
    let number_is : number_of_session handle ≡ number = omega (arith, few) in
    ap (λ (read : Reading ℕ). is_started_handle false read handle) checked.1.1
    ∙ four_from (is_kind_number b.kind) (octet_of handle == kind_octet (kind_of b.kind)) (nat_lt (number_of_session handle) SESSION_NUMBERS) checked.0
    (eq-eqb (octet_of handle) (kind_octet (kind_of b.kind)) (octet_is ∙ ap kind_octet same))
    (lt-ltb (number_of_session handle) SESSION_NUMBERS (subst (λ (n : ℕ). n < SESSION_NUMBERS) (sym number_is) few))

handle_fits : (start started other : Bool) → start ≡ true → started ≡ true → (if start then started else other) ≡ true
handle_fits start started other a b = rw (a, b) refl

-- ---- its response is taken

abbrev Taken : List ℕ → List ℕ → Type 0
Taken bytes reply = is_frame reply ≡ true → takes PROFILE_CONTEXTS false false bytes reply ≡ true

no_own : (startup save flush load capability session object tables : Bool) → startup ≡ false → save ≡ false → flush ≡ false → load ≡ false → capability ≡ false
    → (startup || save || flush || (load && session) || ((load && object) && false) || (capability && tables)) ≡ false
no_own startup save flush load capability session object tables a b c d e = rw (a, b, c, d, e) refl

another : (code other : ℕ) → (code == CC_START_AUTH_SESSION) ≡ true → (CC_START_AUTH_SESSION == other) ≡ false → (code == other) ≡ false
another code other is not = another_code code CC_START_AUTH_SESSION other is not

own_none : (bytes : List ℕ) → (code_of bytes == CC_START_AUTH_SESSION) ≡ true → is_own PROFILE_CONTEXTS false bytes ≡ false
own_none bytes is =
    let code = code_of bytes in
    no_own (code == CC_STARTUP) (code == CC_CONTEXT_SAVE) (code == CC_FLUSH_CONTEXT) (code == CC_CONTEXT_LOAD) (code == CC_GET_CAPABILITY) _ _ _
    (another code CC_STARTUP is refl) (another code CC_CONTEXT_SAVE is refl) (another code CC_FLUSH_CONTEXT is refl) (another code CC_CONTEXT_LOAD is refl)
    (another code CC_GET_CAPABILITY is refl)

refused : (bytes : List ℕ) (a : Admitted) (code : ℕ) → Asks bytes a → IsPlain code → Taken bytes (error_reply code)
refused bytes a code asks hidden frame = error_taken bytes code (own_none bytes asks.code) hidden

session_told : (bytes : List ℕ) (a : Admitted) (number : ℕ) (kind : SessionKind) (b : StartParameters) (body : List ℕ) → Asks bytes a
    → start_check (drop a.auths.params bytes) ≡ Ok b → kind ≡ kind_of b.kind → number < SESSION_NUMBERS
    → Taken bytes (response a.shape.tag RC_SUCCESS (to_be_bytes w32 (kind_octet kind * 2 ^ 24 + number) ++ body))
session_told bytes a number kind b body asks checked same few frame =
    let handle = kind_octet kind * 2 ^ 24 + number in
    let whole = to_be_bytes w32 handle ++ body in
    let last = response a.shape.tag RC_SUCCESS whole in
    let place : a.auths.params ≡ 18 = asks.none.params ∙ asks.rest in
    let types : IsChecked (drop 18 bytes) b = type_checked (drop 18 bytes) b (ap (λ (n : ℕ). start_check (drop n bytes)) (sym place) ∙ checked) in
    success_taken false false bytes last true frame (code_of_response a.shape.tag RC_SUCCESS whole (omega arith))
    (ap has_response_handle asks.known ∙ ap (λ (row : CommandRow). row.response_handle) asks.row)
    (tag_of_response a.shape.tag RC_SUCCESS whole asks.fits ∙ asks.tag)
    (record {
      handled = ap (is_word (fits_handle false bytes)) (handle_of_response a.shape.tag handle body (omega (arith, few, kind_small kind)))
          ∙ handle_fits (code_of bytes == CC_START_AUTH_SESSION) (is_started_handle false (session_type_of (drop 18 bytes)) handle) _ asks.code
          (started_handle (drop 18 bytes) b number kind types same few);
      authorized = or_left (not (tag_of bytes == ST_SESSIONS)) _
          (not_from_false (tag_of bytes == ST_SESSIONS) (ap (λ (t : ℕ). t == ST_SESSIONS) (sym asks.tag) ∙ asks.none.sessions));
    })
    (another (code_of bytes) CC_CONTEXT_SAVE asks.code refl) (no_list_asked bytes (another (code_of bytes) CC_GET_CAPABILITY asks.code refl))

made_told : (slots : SlotState) (created : Created) (named : Bool) (params answer : List ℕ) (bytes : List ℕ) (a : Admitted) → Asks bytes a → named ≡ true
    → IsStarted (drop a.auths.params bytes) created → free_number slots.sessions < SESSION_NUMBERS
    → Taken bytes (made_by slots created (response a.shape.tag RC_SUCCESS (handle_area named ++ response_body a.shape.tag params answer))).1
made_told slots nothing named params answer bytes a asks has started few = absurd started
made_told slots (new_object o) named params answer bytes a asks has started few = absurd started
made_told slots (new_session s) true params answer bytes a asks has started few =
    session_told bytes a (free_number slots.sessions) s.kind started.0 (response_body a.shape.tag params answer) asks started.1.0 started.1.1 few
made_told slots (new_session s) false params answer bytes a asks has started few = absurd cc

done_told : (slots : SlotState) (operands : Operands) (bytes : List ℕ) (a : Admitted) (done : RowOutcome) (closed : Result ResponseAuth ℕ) (given : ResponseAuth)
    → Asks bytes a → NoSessions operands → StartsIn (drop a.auths.params bytes) (Ok done) → free_number slots.sessions < SESSION_NUMBERS → closed ≡ Ok given
    → Taken bytes (effect_by slots (effect_authorized slots.persist operands a.shape a.auths done closed)).1
done_told slots operands bytes a done closed given asks apart starts few is =
    let ended = ends_session operands a.shape a.auths in
    let left = sessions_left slots.sessions (left_of operands done.policy given.session) ended in
    let back : left ≡ slots.sessions = all_back slots.sessions operands done.policy given.session ended starts.0 apart in
    subst (λ (closed : Result ResponseAuth ℕ). Taken bytes (effect_by slots (effect_authorized slots.persist operands a.shape a.auths done closed)).1) (sym is)
    (made_told (record slots { persist = given.persist; sessions = left }) done.created a.shape.row.response_handle done.params given.answer bytes a asks
    (ap (λ (row : CommandRow). row.response_handle) asks.row) starts.1
    (subst (λ (sessions : List SessionPlace). free_number sessions < SESSION_NUMBERS) (sym back) few))

started_few : (params : List ℕ) (created : Created) (number : ℕ) → IsStarted params created → ((b : StartParameters) → start_check params ≡ Ok b → number < SESSION_NUMBERS)
    → number < SESSION_NUMBERS
started_few params nothing number started few = absurd started
started_few params (new_object o) number started few = absurd started
started_few params (new_session s) number started few = few started.0 started.1.0

row_told : (slots : SlotState) (operands : Operands) (bytes : List ℕ) (a : Admitted) (row : Result RowOutcome ℕ) → Asks bytes a → NoSessions operands
    → Fails IsPlain row → StartsIn (drop a.auths.params bytes) row
    → ((b : StartParameters) → start_check (drop a.auths.params bytes) ≡ Ok b → free_number slots.sessions < SESSION_NUMBERS)
    → Taken bytes (effect_by slots (effect_in slots.persist operands a.shape a.auths bytes row)).1
row_told slots operands bytes a (Err code) asks apart fails starts few = refused bytes a code asks fails
row_told slots operands bytes a (Ok done) asks apart fails starts few =
    let entity = command_entity slots.persist operands in
    let session = named_session operands.session in
    let hash = rp_hash a.shape.row.code done.params in
    let given : ResponseAuth = record { persist = done.persist; session = session; answer = [] } in
    done_told slots operands bytes a done (response_auth_of slots.persist operands a.shape a.auths bytes done) given asks apart starts
    (started_few (drop a.auths.params bytes) done.created (free_number slots.sessions) starts.1 few)
    (cond-false (a.shape.tag == ST_SESSIONS) (response_auth done.persist entity session (command_auth a.auths) bytes hash) (Ok given) asks.none.sessions)

effect_told : (slots : SlotState) (bytes : List ℕ) (a : Admitted) → Asks bytes a
    → ((b : StartParameters) → start_check (drop a.auths.params bytes) ≡ Ok b → free_number slots.sessions < SESSION_NUMBERS)
    → Taken bytes (effect_by slots (effect_of slots.persist (slot_operands slots a.shape a.auths) a.shape a.auths bytes)).1
unfolding effect_of
effect_told slots bytes a asks few =
    let operands = slot_operands slots a.shape a.auths in
    let session = (command_auth a.auths).session in
    row_told slots operands bytes a (outcome_of slots.persist operands a.shape a.auths bytes) asks
    (record {
      first = operand_no_session slots (get_or a.shape.row.handles 0 Absent) (get_or a.shape.handles 0 0) asks.first;
      second = operand_no_session slots (get_or a.shape.row.handles 1 Absent) (get_or a.shape.handles 1 0) asks.second;
      named = named_none (is_session_handle session) session (loaded_session slots session) asks.none.named;
    })
    (outcome_plain slots.persist operands a.shape a.auths bytes)
    (outcome_starts slots.persist operands a.shape a.auths bytes (ap (λ (row : CommandRow). row.code == CC_START_AUTH_SESSION) asks.row)) few

-- ---- where there is room

no_memory : (slots : SlotState) → HasPlace slots → active_count slots.sessions < slots.numbers.active
    → nat_le slots.numbers.loaded (loaded_count slots.sessions) ≡ true → ⊥
no_memory slots (inl place) few full = omega (arith, place, leb-true slots.numbers.loaded (loaded_count slots.sessions) full)
no_memory slots (inr all) few full = omega (arith, all, few)

room_told : (slots : SlotState) (bytes : List ℕ) (a : Admitted) (effect : Effect) (check : Result StartParameters ℕ) → IsSlots slots → Asks bytes a → HasPlace slots
    → (((b : StartParameters) → check ≡ Ok b → free_number slots.sessions < SESSION_NUMBERS) → Taken bytes (effect_by slots effect).1)
    → Taken bytes (run_with slots effect (session_too_many slots check)).1
room_told slots bytes a effect (Err code) sound asks place told = told (λ b is. absurd cc)
room_told slots bytes a effect (Ok b) sound asks place told =
    let P : Option ℕ → Type 0 = λ room. Taken bytes (run_with slots effect room).1 in
    let active = active_count slots.sessions in
    let loaded = loaded_count slots.sessions in
    let places = slots.numbers.loaded in
    let most = slots.numbers.active in
    cond_both (nat_le most active || nat_le SESSION_NUMBERS active) (Some RC_SESSION_HANDLES)
    (if nat_le places loaded then Some RC_SESSION_MEMORY else None) P
    (λ full. refused bytes a RC_SESSION_HANDLES asks refl) (λ free.
    let parts = or_parts (nat_le most active) (nat_le SESSION_NUMBERS active) free in
    let few = leb-false SESSION_NUMBERS active parts.1 in
    cond_both (nat_le places loaded) (Some RC_SESSION_MEMORY) None P (λ none. absurd (no_memory slots place (leb-false most active parts.0) none))
    (λ there. told (λ b is.
    subst (λ (size : ℕ). free_number slots.sessions < size) sound.numbers
    (free_below slots.sessions (subst (λ (size : ℕ). active < size) (sym sound.numbers) few)))))

-- ---- the step

asks_of : (slots : SlotState) (bytes : List ℕ) (a : Admitted) → admitted row_of (slot_tables slots) bytes ≡ Ok a
    → (a.shape.row.code == CC_START_AUTH_SESSION) ≡ true → Asks bytes a
asks_of slots bytes a e so =
    let p = passed (slot_tables slots) bytes a e in
    let code : a.shape.row.code ≡ code_of bytes = code_found bytes a.shape.row p.found in
    let row : a.shape.row ≡ start_row = row_is a.shape.row (ap row_of code ∙ p.found) so in
    let handles : handles_in a.shape.row.handles 1 bytes ≡ a.shape.handles = sym (ap (λ (shape : Shape). shape.handles) p.shape) in
    let tag : a.shape.tag ≡ tag_of bytes = ap (λ (shape : Shape). shape.tag) p.shape in
    let null = null_handles a.shape.handles (ap (λ (row : CommandRow). are_of_kinds row.handles a.shape.handles) (sym row)
    ∙ ap (are_of_kinds a.shape.row.handles) (sym handles) ∙ kinds_hold a.shape.row.handles 1 bytes p.wrong) in
    let few : a.auths.count ≤ a.shape.row.authorized =
    ltb-false a.shape.row.authorized a.auths.count (none_spare (nat_lt a.shape.row.authorized a.auths.count) _ p.given.no_spare) in
    record {
      code = ap (λ (c : ℕ). c == CC_START_AUTH_SESSION) (sym code) ∙ so;
      tag = tag;
      fits = subst (λ (t : ℕ). t < 2 ^ 16) (sym tag) (command_tag_fits (tag_of bytes) p.tag);
      row = row;
      known = p.found;
      none = no_auths bytes a.shape a.auths p.given.auths_are (subst (λ (row : CommandRow). a.auths.count ≤ row.authorized) row few);
      rest = ap (λ (shape : Shape). shape.rest) p.shape ∙ ap rest_of row;
      first = null.0;
      second = null.1;
    }

start_is_run : (code : ℕ) → (code == CC_START_AUTH_SESSION) ≡ true → IsRun code
start_is_run code is = record {
  startup = another code CC_STARTUP is refl;
  save = another code CC_CONTEXT_SAVE is refl;
  load = another code CC_CONTEXT_LOAD is refl;
  flush = another code CC_FLUSH_CONTEXT is refl;
  capability = another code CC_GET_CAPABILITY is refl;
}

room_asked : (slots : SlotState) (code : ℕ) (params : List ℕ) → (code == CC_START_AUTH_SESSION) ≡ true
    → room_for slots code params ≡ session_too_many slots (start_check params)
room_asked slots code params is = ap (λ (start : Bool). if start then session_too_many slots (start_check params) else None) is

pub start_taken : (slots : SlotState) (bytes : List ℕ) (a : Admitted) → IsSlots slots → slots.started ≡ true
    → admitted row_of (slot_tables slots) bytes ≡ Ok a → (a.shape.row.code == CC_START_AUTH_SESSION) ≡ true → HasPlace slots
    → takes PROFILE_CONTEXTS false false bytes (slot_step slots bytes).1 ≡ true
start_taken slots bytes a sound started e so place =
    let params = drop a.auths.params bytes in
    let effect = effect_of slots.persist (slot_operands slots a.shape a.auths) a.shape a.auths bytes in
    let asks = asks_of slots bytes a e so in
    let step : slot_step slots bytes ≡ run_with slots effect (session_too_many slots (start_check params)) =
    device_run slots bytes a started e (start_is_run a.shape.row.code so) ∙ ap (run_with slots effect) (room_asked slots a.shape.row.code params so) in
    subst (λ (step : Step). Taken bytes step.1) (sym step)
    (room_told slots bytes a effect (start_check params) sound asks place (effect_told slots bytes a asks)) (step_replies slots bytes sound)
