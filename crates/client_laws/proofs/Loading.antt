-- An object's context that a client loads: what a device that is ready answers, and what the plain machine does.
use Rattle.std.proofs.Common.{◌≡◌, ◌+◌, ◌≤◌, ℕ, Bool, true, false, List, [], ◌++◌, length, get_or, take, drop, refl, ap, sym, ◌∙◌, subst, drop-drop, length-append, take-append-drop, arith}
use Rattle.std.specs.Prelude.{Option, Some, None, Result, Ok, Err, not, nat_lt, ◌==◌, ◌||◌, ◌&&◌, if◌then◌else◌}
use Rattle.std.specs.Int.{w32, from_be_bytes, to_be_bytes}
use Rattle.std.proofs.lemmas.Bool.{and_parts, cond_both, cond-true, eqb-true, le-leb, not_from_false, or_left}
use Rattle.tab_spec.specs.declared.TheConstants.{CC_CONTEXT_LOAD, CC_CONTEXT_SAVE, CC_FLUSH_CONTEXT, CC_GET_CAPABILITY, CC_START_AUTH_SESSION, CC_STARTUP, HT_TRANSIENT, RC_1, RC_INSUFFICIENT, RC_INTEGRITY, RC_P, RC_SIZE, RC_SUCCESS, ST_NO_SESSIONS, ST_SESSIONS, TRANSIENT_FIRST}
use Rattle.tab_spec.specs.declared.Admitted.{Admitted}
use Rattle.tab_spec.specs.Admission.{Tables, client_admitted}
use Rattle.tab_spec.specs.Commands.{row_of}
use Rattle.tab_spec.specs.Frame.{code_of, tag_of}
use Rattle.tab_spec.specs.Object.{Object, IsObject, object_bytes}
use Rattle.tab_spec.specs.Parameters.{in_parameter, when_read}
use Rattle.tab_spec.specs.Reply.{error_reply, response}
use Rattle.tab_spec.specs.Shape.{loads_object, octet_of}
use Rattle.tab_spec.specs.Values.{AreBytes, Reading, fixed_bytes, number32, number64, require, sized, sized_bytes}
use Rattle.tab_spec.specs.declared.contexts.TheConstants.{PROFILE_CONTEXTS}
use Rattle.effect_spec.specs.Contexts.{Context, blob_fits, context_head, context_of, context_parameter, object_within, opened_by, opened_object, revealed}
use Rattle.history_spec.specs.declared.Pick.TheVariants.{Nothing}
use Rattle.world_spec.specs.World.{ClientState, ClientStep, choosing_nothing, client_step, load_parameters, load_step, object_opened, refused_step, tables_of}
use Rattle.device_spec.specs.Answers.{fits_handle, has_response_handle, is_word, loads_session, takes}
use Rattle.device_spec.specs.Slots.{SlotState, IsSlots, Step, context_load, free_slot, object_loaded, slot_step, step_by}
use Rattle.tab_laws.proofs.Handled.{client_is, handled_is}
use Rattle.tab_laws.proofs.Objects.{length-sized, object_small}
use Rattle.tab_laws.proofs.OneSpelling.{Fronts, bytes_back, left_so}
use Rattle.tab_laws.proofs.ReadBack.{Gives}
use Rattle.device_laws.proofs.AnswerForms.{handle_of_response, no_list_asked, refusal_taken, success_taken, transient_octet}
use Rattle.device_laws.proofs.Answering.{free_few}
use Rattle.device_laws.proofs.Contexts.{HoldsObject, context_fronts, context_length, context_written, opened_is, opened_spelling}
use Rattle.device_laws.proofs.ContextSteps.{load_row}
use Rattle.device_laws.proofs.Faults.{Fails, IsBare, IsPlain, fails_32, fails_fixed, fails_parameter, fails_read, fails_sized, fails_test, fails_then}
use Rattle.device_laws.proofs.Frames.{code_of_response, response_is_frame}
use Rattle.device_laws.proofs.Moves.{HasHandle, handle_read}
use Rattle.client_laws.specs.Ready.{IsReady, is_sent, sent_for}
use Rattle.client_laws.proofs.Agreeing.{runs}
use Rattle.client_laws.proofs.Commands.{another_code, clients_command, command_sent_code, row_as, sent_load, sent_loads_none}
use Rattle.client_laws.proofs.NoAuths.{bare}
use Rattle.client_laws.proofs.Running.{over_does, same_params}
use Rattle.client_laws.proofs.Steps.{step_loaded}

-- ---- what is read

whole_fails : {X Y : Type 0} (whole : Bool) (x : X) (y : Result Y ℕ) (code : ℕ) → (if whole then Ok x else Err RC_SIZE) ≡ Err code
    → (if whole then y else Err RC_SIZE) ≡ Err code
whole_fails true x y code e = absurd cc
whole_fails false x y code e = let same : RC_SIZE ≡ code = cc in ap (λ (c : ℕ). Err c) same

-- what follows a reading, by the reading alone
read_fails : {X Y : Type 0} (read : Reading X) (next : X → Result Y ℕ) (code : ℕ) → when_read read (λ x. Ok x) ≡ Err code → when_read read next ≡ Err code
read_fails (Err fault) next code e = let same : fault ≡ code = cc in ap (λ (c : ℕ). Err c) same
read_fails (Ok read) next code e = whole_fails (length read.1 == 0) read.0 (next read.0) code e

whole_gives : {X Y : Type 0} (whole : Bool) (found x : X) (next : X → Result Y ℕ) → (if whole then Ok found else Err RC_SIZE) ≡ Ok x
    → (if whole then next found else Err RC_SIZE) ≡ next x
whole_gives true found x next e = let same : found ≡ x = cc in ap next same
whole_gives false found x next e = absurd cc

read_gives : {X Y : Type 0} (read : Reading X) (next : X → Result Y ℕ) (x : X) → when_read read (λ x. Ok x) ≡ Ok x → when_read read next ≡ next x
read_gives (Err fault) next x e = absurd cc
read_gives (Ok read) next x e = whole_gives (length read.1 == 0) read.0 x next e

whole_holds : {X : Type 0} (P : X → Type 0) (whole : Bool) (found x : X) → P found → (if whole then Ok found else Err RC_SIZE) ≡ Ok x → P x
whole_holds P true found x holds e = let same : found ≡ x = cc in subst P same holds
whole_holds P false found x holds e = absurd cc

read_holds : {X : Type 0} (P : X → Type 0) (read : Reading X) (x : X) → Gives P read → when_read read (λ x. Ok x) ≡ Ok x → P x
read_holds P (Err fault) x gives e = absurd cc
read_holds P (Ok read) x gives e = whole_holds P (length read.1 == 0) read.0 x gives e

-- what holds of a context that is read holds of the parameter
parameter_gives : (P : Context → Type 0) (read : Reading Context) → Gives P read → Gives P (in_parameter 1 (require blob_fits RC_SIZE read))
parameter_gives P (Err code) gives = tt
parameter_gives P (Ok read) gives =
    cond_both (blob_fits read.0) (Ok read) (Err RC_SIZE) (λ (read : Reading Context). Gives P (in_parameter 1 read)) (λ fits. gives) (λ long. tt)

-- its savedHandle is that of an object
handle_is : (bytes params : List ℕ) (c : Context) → loads_object PROFILE_CONTEXTS bytes ≡ true → drop 10 bytes ≡ params → load_parameters params ≡ Ok c
    → (c.saved_handle == TRANSIENT_FIRST) ≡ true
handle_is bytes params c loads are e =
    let has : HasHandle params c =
    read_holds (HasHandle params) (context_parameter params) c (parameter_gives (HasHandle params) (context_of params) (handle_read params)) e in
    let behind : drop 8 params ≡ drop 18 bytes = ap (drop 8) (sym are) ∙ drop-drop 8 10 bytes in
    ap (λ (h : ℕ). h == TRANSIENT_FIRST) (has.1 ∙ ap (λ (more : List ℕ). from_be_bytes w32 (take 4 more)) behind)
    ∙ (and_parts (not (nat_lt (length bytes) 22)) (from_be_bytes w32 (take 4 (drop 18 bytes)) == TRANSIENT_FIRST) loads).1

-- ---- what a device that is ready answers

steps_third : {X : Type 0} (a b c : Bool) (u v w z : X) → a ≡ false → b ≡ false → c ≡ true → (if a then u else if b then v else if c then w else z) ≡ w
steps_third a b c u v w z first second third = rw (first, second, third) refl

load_over : (slots : SlotState) (client : ℕ) (state : ClientState) (bytes : List ℕ) (a : Admitted) (first : ℕ)
    → client_admitted (tables_of client state) bytes ≡ Ok a → (a.shape.row.code == CC_CONTEXT_LOAD) ≡ true → AreBytes bytes
    → IsReady slots client state a bytes first → slot_step slots (sent_for bytes a first) ≡ step_by slots (context_load slots (drop a.auths.params bytes))
load_over slots client state bytes a first e is all ready =
    let tables = tables_of client state in
    let second = get_or a.shape.handles 1 0 in
    let code = a.shape.row.code in
    let run = runs slots client state bytes a first e all ready in
    over_does slots tables bytes a first second ready.started run.whole run.are run.there
    ∙ steps_third (code == CC_STARTUP) (code == CC_CONTEXT_SAVE) (code == CC_CONTEXT_LOAD) _ _
    (step_by slots (context_load slots (drop a.auths.params (sent_for bytes a first)))) _ (client_is tables bytes a e).other
    (another_code code CC_CONTEXT_LOAD CC_CONTEXT_SAVE is refl) is
    ∙ ap (λ (params : List ℕ). step_by slots (context_load slots params)) (same_params tables bytes a first second run.whole)

pub load_refused : (slots : SlotState) (client : ℕ) (state : ClientState) (bytes : List ℕ) (a : Admitted) (first code : ℕ)
    → client_admitted (tables_of client state) bytes ≡ Ok a → (a.shape.row.code == CC_CONTEXT_LOAD) ≡ true → AreBytes bytes
    → IsReady slots client state a bytes first → load_parameters (drop a.auths.params bytes) ≡ Err code
    → slot_step slots (sent_for bytes a first) ≡ (slots, error_reply code)
load_refused slots client state bytes a first code e is all ready fault =
    let params = drop a.auths.params bytes in
    load_over slots client state bytes a first e is all ready ∙ ap (step_by slots) (read_fails (context_parameter params) _ code fault)

-- the parameters of ContextLoad stand behind the header
params_here : (tables : Tables) (bytes : List ℕ) (a : Admitted) → client_admitted tables bytes ≡ Ok a → (a.shape.row.code == CC_CONTEXT_LOAD) ≡ true
    → drop 10 bytes ≡ drop a.auths.params bytes
params_here tables bytes a e is =
    let row = row_as a.shape.row load_row CC_CONTEXT_LOAD (clients_command tables bytes a e).row refl is in
    ap (λ (n : ℕ). drop n bytes) (sym (bare tables bytes a load_row (client_is tables bytes a e).whole row refl).params)

sent_handle : (tables : Tables) (bytes : List ℕ) (a : Admitted) (c : Context) → client_admitted tables bytes ≡ Ok a → (a.shape.row.code == CC_CONTEXT_LOAD) ≡ true
    → is_sent PROFILE_CONTEXTS a bytes ≡ true → load_parameters (drop a.auths.params bytes) ≡ Ok c → (c.saved_handle == TRANSIENT_FIRST) ≡ true
sent_handle tables bytes a c e is sent read =
    handle_is bytes (drop a.auths.params bytes) c (sent_load PROFILE_CONTEXTS a bytes sent is) (params_here tables bytes a e is) read

pub load_opened : (slots : SlotState) (client : ℕ) (state : ClientState) (bytes : List ℕ) (a : Admitted) (first : ℕ) (c : Context)
    → client_admitted (tables_of client state) bytes ≡ Ok a → (a.shape.row.code == CC_CONTEXT_LOAD) ≡ true → is_sent PROFILE_CONTEXTS a bytes ≡ true → AreBytes bytes
    → IsReady slots client state a bytes first → load_parameters (drop a.auths.params bytes) ≡ Ok c
    → slot_step slots (sent_for bytes a first) ≡ step_by slots (object_loaded slots (opened_object slots.persist.seed (drop a.auths.params bytes)))
load_opened slots client state bytes a first c e is sent all ready read =
    let params = drop a.auths.params bytes in
    load_over slots client state bytes a first e is all ready
    ∙ ap (step_by slots)
    (read_gives (context_parameter params) _ c read
    ∙ cond-true (c.saved_handle == TRANSIENT_FIRST) (object_loaded slots (opened_object slots.persist.seed params)) _
    (sent_handle (tables_of client state) bytes a c e is sent read))

-- ---- what the plain machine does

plain_load : (client : ℕ) (state : ClientState) (bytes : List ℕ) (a : Admitted) (read : Result Context ℕ) → client_admitted (tables_of client state) bytes ≡ Ok a
    → (a.shape.row.code == CC_CONTEXT_LOAD) ≡ true → load_parameters (drop a.auths.params bytes) ≡ read
    → client_step client state bytes Nothing ≡ Some (load_step client state (drop a.auths.params bytes) read)
plain_load client state bytes a read e is found =
    step_loaded client state bytes Nothing a e is
    ∙ ap (λ (read : Result Context ℕ). choosing_nothing (load_step client state (drop a.auths.params bytes) read) Nothing) found

pub load_refused_plain : (client : ℕ) (state : ClientState) (bytes : List ℕ) (a : Admitted) (code : ℕ) → client_admitted (tables_of client state) bytes ≡ Ok a
    → (a.shape.row.code == CC_CONTEXT_LOAD) ≡ true → load_parameters (drop a.auths.params bytes) ≡ Err code
    → client_step client state bytes Nothing ≡ Some (refused_step state code)
load_refused_plain client state bytes a code e is fault = plain_load client state bytes a (Err code) e is fault

pub load_opened_plain : (client : ℕ) (state : ClientState) (bytes : List ℕ) (a : Admitted) (c : Context) → client_admitted (tables_of client state) bytes ≡ Ok a
    → (a.shape.row.code == CC_CONTEXT_LOAD) ≡ true → is_sent PROFILE_CONTEXTS a bytes ≡ true → load_parameters (drop a.auths.params bytes) ≡ Ok c
    → client_step client state bytes Nothing ≡ Some (object_opened state (opened_object state.persist.seed (drop a.auths.params bytes)))
load_opened_plain client state bytes a c e is sent read =
    plain_load client state bytes a (Ok c) e is read
    ∙ ap (λ (step : ClientStep). Some step)
    (cond-true (c.saved_handle == TRANSIENT_FIRST) (object_opened state (opened_object state.persist.seed (drop a.auths.params bytes))) _
    (sent_handle (tables_of client state) bytes a c e is sent read))

-- ---- a broker takes the response

fails_64 : (P : ℕ → Type 0) (lacking : ℕ) (bytes : List ℕ) → P lacking → Fails P (number64 lacking bytes)
fails_64 P lacking bytes own = fails_then P (fixed_bytes 8 lacking bytes) _ (fails_fixed P 8 lacking bytes own) (λ read rest. tt)

fails_context : (bytes : List ℕ) → Fails IsBare (context_of bytes)
fails_context bytes =
    fails_then IsBare (number64 RC_INSUFFICIENT bytes) _ (fails_64 IsBare RC_INSUFFICIENT bytes refl) (λ sequence rest.
    fails_then IsBare (number32 RC_INSUFFICIENT rest) _ (fails_32 IsBare RC_INSUFFICIENT rest refl) (λ handle rest.
    fails_then IsBare (number32 RC_INSUFFICIENT rest) _ (fails_32 IsBare RC_INSUFFICIENT rest refl) (λ hierarchy rest.
    fails_then IsBare (sized RC_INSUFFICIENT rest) _ (fails_sized IsBare RC_INSUFFICIENT rest refl) (λ blob rest. tt))))

fails_load : (params : List ℕ) → Fails IsPlain (load_parameters params)
fails_load params =
    fails_read (context_parameter params) (λ c. Ok c)
    (fails_parameter 1 (require blob_fits RC_SIZE (context_of params)) refl (fails_test IsBare blob_fits RC_SIZE (context_of params) refl (fails_context params)))
    (λ c. tt)

-- what is known of a ContextLoad of an object's context that is sent
record Asks (sent : List ℕ) : Type 0 where
  code : code_of sent ≡ CC_CONTEXT_LOAD
  tag : tag_of sent ≡ ST_NO_SESSIONS
  none : loads_session sent ≡ false

no_own : (startup save flush session object capability tables : Bool) → startup ≡ false → save ≡ false → flush ≡ false → session ≡ false → capability ≡ false
    → (startup || save || flush || session || (object && false) || (capability && tables)) ≡ false
no_own startup save flush session true capability tables a b c d e = rw (a, b, c, d, e) refl
no_own startup save flush session false capability tables a b c d e = rw (a, b, c, d, e) refl

refused_taken : (is_taken : Bool) (sent : List ℕ) (code : ℕ) → Asks sent → IsPlain code → takes PROFILE_CONTEXTS false is_taken sent (error_reply code) ≡ true
refused_taken is_taken sent code asks plain =
    refusal_taken is_taken sent code
    (no_own (code_of sent == CC_STARTUP) (code_of sent == CC_CONTEXT_SAVE) (code_of sent == CC_FLUSH_CONTEXT) (loads_session sent) _
    (code_of sent == CC_GET_CAPABILITY) _ (ap (λ (c : ℕ). c == CC_STARTUP) asks.code) (ap (λ (c : ℕ). c == CC_CONTEXT_SAVE) asks.code)
    (ap (λ (c : ℕ). c == CC_FLUSH_CONTEXT) asks.code) asks.none (ap (λ (c : ℕ). c == CC_GET_CAPABILITY) asks.code)) plain

handle_fits : (start session started saved octet : Bool) → start ≡ false → session ≡ false → octet ≡ true
    → (if start then started else if session then saved else octet) ≡ true
handle_fits start session started saved octet a b c = rw (a, b, c) refl

object_taken : (is_kept is_taken : Bool) (slots : SlotState) (sent : List ℕ) (o : Object) → IsSlots slots → Asks sent
    → takes PROFILE_CONTEXTS is_kept is_taken sent (step_by slots (object_loaded slots (Some o))).1 ≡ true
object_taken is_kept is_taken slots sent o sound asks =
    let handle = TRANSIENT_FIRST + free_slot slots.slots in
    let body = to_be_bytes w32 handle ++ [] in
    let few : free_slot slots.slots ≤ 254 = omega (arith, free_few slots.slots, sound.count, sound.range.slots_most) in
    success_taken is_kept is_taken sent (response ST_NO_SESSIONS RC_SUCCESS body) true (response_is_frame ST_NO_SESSIONS RC_SUCCESS body (omega arith))
    (code_of_response ST_NO_SESSIONS RC_SUCCESS body (omega arith)) (ap (λ (c : ℕ). has_response_handle (row_of c)) asks.code) (sym asks.tag)
    (record {
      handled = ap (is_word (fits_handle is_taken sent)) (handle_of_response ST_NO_SESSIONS handle [] (omega (arith, few)))
          ∙ handle_fits (code_of sent == CC_START_AUTH_SESSION) (loads_session sent) _ _ (octet_of handle == HT_TRANSIENT)
          (ap (λ (c : ℕ). c == CC_START_AUTH_SESSION) asks.code) asks.none (transient_octet (free_slot slots.slots) few);
      authorized = or_left (not (tag_of sent == ST_SESSIONS)) _
          (not_from_false (tag_of sent == ST_SESSIONS) (ap (λ (t : ℕ). t == ST_SESSIONS) asks.tag));
    })
    (ap (λ (c : ℕ). c == CC_CONTEXT_SAVE) asks.code) (no_list_asked sent (ap (λ (c : ℕ). c == CC_GET_CAPABILITY) asks.code))

opened_taken : (is_taken : Bool) (slots : SlotState) (sent : List ℕ) (opened : Option Object) → IsSlots slots → Asks sent
    → takes PROFILE_CONTEXTS false is_taken sent (step_by slots (object_loaded slots opened)).1 ≡ true
opened_taken is_taken slots sent None sound asks = refused_taken is_taken sent (RC_INTEGRITY + RC_P + RC_1) asks refl
opened_taken is_taken slots sent (Some o) sound asks = object_taken false is_taken slots sent o sound asks

asks_of : (tables : Tables) (bytes : List ℕ) (a : Admitted) (first : ℕ) → client_admitted tables bytes ≡ Ok a → (a.shape.row.code == CC_CONTEXT_LOAD) ≡ true
    → is_sent PROFILE_CONTEXTS a bytes ≡ true → Asks (sent_for bytes a first)
asks_of tables bytes a first e is sent =
    let whole = (client_is tables bytes a e).whole in
    let known = clients_command tables bytes a e in
    let row = row_as a.shape.row load_row CC_CONTEXT_LOAD known.row refl is in
    record {
      code = command_sent_code tables bytes a first e ∙ known.code ∙ eqb-true a.shape.row.code CC_CONTEXT_LOAD is;
      tag = (handled_is tables bytes a first (get_or a.shape.handles 1 0) whole).tag ∙ (bare tables bytes a load_row whole row refl).tag;
      none = sent_loads_none PROFILE_CONTEXTS tables bytes a first e sent;
    }

taken_by : (is_taken : Bool) (slots : SlotState) (client : ℕ) (state : ClientState) (bytes : List ℕ) (a : Admitted) (first : ℕ) (read : Result Context ℕ)
    → client_admitted (tables_of client state) bytes ≡ Ok a → (a.shape.row.code == CC_CONTEXT_LOAD) ≡ true → is_sent PROFILE_CONTEXTS a bytes ≡ true → AreBytes bytes
    → IsReady slots client state a bytes first → load_parameters (drop a.auths.params bytes) ≡ read
    → takes PROFILE_CONTEXTS false is_taken (sent_for bytes a first) (slot_step slots (sent_for bytes a first)).1 ≡ true
taken_by is_taken slots client state bytes a first (Err code) e is sent all ready found =
    let asked = sent_for bytes a first in
    ap (λ (step : Step). takes PROFILE_CONTEXTS false is_taken asked step.1) (load_refused slots client state bytes a first code e is all ready found)
    ∙ refused_taken is_taken asked code (asks_of (tables_of client state) bytes a first e is sent)
    (subst (λ (read : Result Context ℕ). Fails IsPlain read) found (fails_load (drop a.auths.params bytes)))
taken_by is_taken slots client state bytes a first (Ok c) e is sent all ready found =
    let asked = sent_for bytes a first in
    ap (λ (step : Step). takes PROFILE_CONTEXTS false is_taken asked step.1) (load_opened slots client state bytes a first c e is sent all ready found)
    ∙ opened_taken is_taken slots asked (opened_object slots.persist.seed (drop a.auths.params bytes)) ready.sound
    (asks_of (tables_of client state) bytes a first e is sent)

pub load_taken : (is_taken : Bool) (slots : SlotState) (client : ℕ) (state : ClientState) (bytes : List ℕ) (a : Admitted) (first : ℕ)
    → client_admitted (tables_of client state) bytes ≡ Ok a → (a.shape.row.code == CC_CONTEXT_LOAD) ≡ true → is_sent PROFILE_CONTEXTS a bytes ≡ true → AreBytes bytes
    → IsReady slots client state a bytes first → takes PROFILE_CONTEXTS false is_taken (sent_for bytes a first) (slot_step slots (sent_for bytes a first)).1 ≡ true
load_taken is_taken slots client state bytes a first e is sent all ready =
    taken_by is_taken slots client state bytes a first (load_parameters (drop a.auths.params bytes)) e is sent all ready refl

-- ---- a context that is opened is read

record IsRead (seed : List ℕ) (r : Reading Context) : Type 0 where
  read : Context × List ℕ
  is : r ≡ Ok read
  whole : (length read.1 == 0) ≡ true

opened_whole : (seed : List ℕ) (read : Context × List ℕ) (whole : Bool) (o : Object) → (length read.1 == 0) ≡ whole
    → object_within (if whole then revealed seed read.0 (sized RC_SIZE read.0.blob) else None) ≡ Some o → IsRead seed (Ok read)
opened_whole seed read true o test e = record { read = read; is = refl; whole = test }
opened_whole seed read false o test e = absurd cc

opened_read : (seed : List ℕ) (r : Reading Context) (o : Object) → object_within (opened_by seed r) ≡ Some o → IsRead seed r
opened_read seed (Err code) o e = absurd cc
opened_read seed (Ok read) o e = opened_whole seed read (length read.1 == 0) o refl e

opened_is_read : (seed params : List ℕ) (o : Object) → opened_object seed params ≡ Some o → IsRead seed (context_of params)
unfolding opened_object
opened_is_read seed params o e = opened_read seed (context_of params) o e

-- it is no longer than the context of an object
held_short : (seed params : List ℕ) (o : Object) → IsObject o → HoldsObject seed params o → length params ≤ 370
held_short seed params o is held =
    let c = held.0 in
    omega (arith, ap length held.1, context_length seed c.sequence c.saved_handle c.hierarchy (object_bytes o), object_small o is)

blob_within : (params : List ℕ) (c : Context) (rest : List ℕ) → Fronts context_written params c rest → length params ≤ 370 → blob_fits c ≡ true
blob_within params c rest front few =
    let head = context_head c.sequence c.saved_handle c.hierarchy in
    le-leb (length c.blob) 2048
    (omega (
      arith,
      ap length front.0,
      length-append (context_written c) rest,
      length-append head (sized_bytes c.blob),
      length-sized c.blob,
      few,
    ))

reads_by : (fits : Bool) (read : Context × List ℕ) → fits ≡ true → (length read.1 == 0) ≡ true
    → when_read (in_parameter 1 (if fits then Ok read else Err RC_SIZE)) (λ c. Ok c) ≡ Ok read.0
reads_by fits read fits_is whole = rw (fits_is, whole) refl

load_reads : (seed params : List ℕ) (o : Object) → AreBytes params → opened_object seed params ≡ Some o → (c : Context) × (load_parameters params ≡ Ok c)
load_reads seed params o all e =
    let found = opened_is_read seed params o e in
    let c = found.read.0 in
    let few = held_short seed params o (opened_is seed params o e) (opened_spelling seed params o all e) in
    let front = left_so (Fronts context_written params) (context_of params) c found.read.1 (context_fronts params all) found.is in (
      c,
      ap (λ (read : Reading Context). when_read (in_parameter 1 (require blob_fits RC_SIZE read)) (λ c. Ok c)) found.is
          ∙ reads_by (blob_fits c) found.read (blob_within params c found.read.1 front few) found.whole,
    )

pub load_taken_kept : (is_taken : Bool) (slots : SlotState) (client : ℕ) (state : ClientState) (bytes : List ℕ) (a : Admitted) (first : ℕ) (o : Object)
    → client_admitted (tables_of client state) bytes ≡ Ok a → (a.shape.row.code == CC_CONTEXT_LOAD) ≡ true → is_sent PROFILE_CONTEXTS a bytes ≡ true → AreBytes bytes
    → IsReady slots client state a bytes first → opened_object slots.persist.seed (drop a.auths.params bytes) ≡ Some o
    → takes PROFILE_CONTEXTS true is_taken (sent_for bytes a first) (slot_step slots (sent_for bytes a first)).1 ≡ true
load_taken_kept is_taken slots client state bytes a first o e is sent all ready opened =
    let asked = sent_for bytes a first in
    let params = drop a.auths.params bytes in
    let these : AreBytes params =
    bytes_back (take a.auths.params bytes) params (subst AreBytes (sym (take-append-drop a.auths.params bytes)) all) in
    let read = load_reads slots.persist.seed params o these opened in
    ap (λ (step : Step). takes PROFILE_CONTEXTS true is_taken asked step.1)
    (load_opened slots client state bytes a first read.0 e is sent all ready read.1
    ∙ ap (λ (found : Option Object). step_by slots (object_loaded slots found)) opened)
    ∙ object_taken true is_taken slots asked o ready.sound (asks_of (tables_of client state) bytes a first e is sent)
