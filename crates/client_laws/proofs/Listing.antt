-- A list of GetCapability that is the device's: a device tells a client what the plain machine tells it.
use Rattle.std.proofs.Common.{◌≡◌, ◌+◌, ◌*◌, ◌≤◌, ℕ, Bool, true, false, List, [], ◌∷◌, ◌++◌, length, get_or, take, drop, refl, ap, sym, ◌∙◌, drop-drop, length-drop, arith}
use Rattle.std.specs.Prelude.{Some, None, Result, Ok, Err, not, nat_lt, ◌==◌, ◌||◌, ◌&&◌, if◌then◌else◌}
use Rattle.std.specs.Int.{w32, from_be_bytes}
use Rattle.std.proofs.lemmas.Bool.{cond_both, eqb-true, le-ltb, ltb-false, not-true, not_from_false, or_left, or_parts}
use Rattle.tab_spec.specs.declared.TheConstants.{CC_CONTEXT_LOAD, CC_CONTEXT_SAVE, CC_CREATE_PRIMARY, CC_FLUSH_CONTEXT, CC_GET_CAPABILITY, CC_LOAD, CC_START_AUTH_SESSION, CC_STARTUP, HT_HMAC_SESSION, HT_NV_INDEX, HT_PERSISTENT, HT_POLICY_SESSION, HT_TRANSIENT, RC_1, RC_HANDLE, RC_INSUFFICIENT, RC_OBJECT_MEMORY, RC_P, RC_SIZE, RC_SUCCESS, RC_VALUE, ST_NO_SESSIONS, ST_SESSIONS, TRANSIENT_FIRST}
use Rattle.tab_spec.specs.declared.Admitted.{Admitted}
use Rattle.tab_spec.specs.declared.CommandRow.{CommandRow}
use Rattle.tab_spec.specs.declared.Kind.TheVariants.{Absent}
use Rattle.tab_spec.specs.Admission.{Tables, client_admitted, missing_session, repeated_session}
use Rattle.tab_spec.specs.Commands.{all_commands, command_row, row_of}
use Rattle.tab_spec.specs.Frame.{code_of, tag_of}
use Rattle.tab_spec.specs.Parameters.{in_parameter, when_read}
use Rattle.tab_spec.specs.Persist.{Persist}
use Rattle.tab_spec.specs.Reply.{error_reply, response}
use Rattle.tab_spec.specs.Shape.{are_of_kinds, handle_bytes, is_session_octet, loads_object, octet_of, with_handles}
use Rattle.tab_spec.specs.Values.{Reading, number32, then_read}
use Rattle.tab_spec.specs.declared.contexts.TheConstants.{PROFILE_CONTEXTS}
use Rattle.effect_spec.specs.Capabilities.{Asked, CapabilityLimits, Listed, asked_of, capability_of, client_limits, device_limits, handle_items, handles_listed, is_own_list, is_of_device, asks_another, list_of, listed, property_items, property_pairs, transient_from}
use Rattle.history_spec.specs.declared.Pick.TheVariants.{Nothing}
use Rattle.world_spec.specs.World as world
use Rattle.world_spec.specs.World.{ClientState, ClientStep, active, capability_step, choosing_nothing, client_capability, client_step, tables_of}
use Rattle.device_spec.specs.Answers.{asks_of_tables, has_response_handle, is_of_tables, is_word, takes, word_at}
use Rattle.device_spec.specs.Slots.{SlotState, Step, active_count, capability_row, capability_told, get_capability, listed_from, slot_step, slot_tables, step_by}
use Rattle.tab_laws.specs.OtherHandles.{AreHandlesOf, HandlesAreThere, absent_are_zero}
use Rattle.tab_laws.proofs.Handled.{client_is, handled_is}
use Rattle.tab_laws.proofs.ReadBack.{Gives, gives_next}
use Rattle.device_laws.proofs.AnswerForms.{no_tables_asked, refusal_taken, success_taken, takes_same}
use Rattle.device_laws.proofs.Capabilities.{short_capability}
use Rattle.device_laws.proofs.Faults.{Fails, IsPlain, fails_parameter_32, fails_read, fails_then}
use Rattle.device_laws.proofs.Frames.{code_of_response, response_is_frame}
use Rattle.device_laws.proofs.NvRows.{Short}
use Rattle.client_laws.specs.Ready.{is_sent, sent_for}
use Rattle.client_laws.proofs.Commands.{another_code, clients_command, command_sent_code, row_as, sent_list}
use Rattle.client_laws.proofs.NoAuths.{Bare, bare}
use Rattle.client_laws.proofs.Running.{over_does, same_params}
use Rattle.client_laws.proofs.Steps.{step_listed}

-- ---- the list is the same, whatever objects and sessions there are

handles_by : {X : Type 0} (zero nv hmac policy permanent transient persistent : Bool) (a b c other d another e f one g h : X)
    → (transient || (hmac || policy)) ≡ false
    → (if zero then a else if nv then b else if hmac then c else if policy then d else if permanent then e else if transient then f else if persistent then g else h)
    ≡ (if zero then a else if nv then b else if hmac then other else if policy then another else if permanent then e else if transient then one
    else if persistent then g else h)
handles_by zero nv hmac policy permanent transient persistent a b c other d another e f one g h none =
    let parts = or_parts transient (hmac || policy) none in
    let sessions = or_parts hmac policy parts.1 in
    rw (parts.0, sessions.0, sessions.1) refl

handles_same : (persist : Persist) (objects others : List ℕ) (sessions held : List Listed) (property : ℕ)
    → (octet_of property == HT_TRANSIENT || is_session_octet (octet_of property)) ≡ false
    → handle_items persist objects sessions property ≡ handle_items persist others held property
handles_same persist objects others sessions held property none =
    let octet = octet_of property in
    handles_by (octet == 0) (octet == HT_NV_INDEX) (octet == HT_HMAC_SESSION) (octet == HT_POLICY_SESSION) (octet == 0x40) (octet == HT_TRANSIENT)
    (octet == HT_PERSISTENT) _ _ _ _ _ _ _ _ _ _ _ none

list_by : {X : Type 0} (one two five six asks : Bool) (a other b c d another e : X) → (if one then asks else six) ≡ false → (asks ≡ false → a ≡ other)
    → (if one then a else if two then b else if five then c else if six then d else e)
    ≡ (if one then other else if two then b else if five then c else if six then another else e)
list_by true two five six asks a other b c d another e none same = same none
list_by false two five six asks a other b c d another e none same = rw none refl

list_same : (limits other : CapabilityLimits) (rows : List CommandRow) (persist : Persist) (objects others : List ℕ) (sessions held : List Listed) (active now : ℕ)
    (asked : Asked) → is_own_list asked ≡ false
    → list_of limits rows persist objects sessions active asked ≡ list_of other rows persist others held now asked
list_same limits other rows persist objects others sessions held active now asked none =
    list_by (asked.capability == 1) (asked.capability == 2) (asked.capability == 5) (asked.capability == 6)
    (octet_of asked.property == HT_TRANSIENT || is_session_octet (octet_of asked.property)) _ _ _ _ _ _ _ none
    (λ so. ap (handles_listed asked) (handles_same persist objects others sessions held asked.property so))

whole_same : (whole : Bool) (asked : Asked) (first second : Asked → Result (List ℕ) ℕ) → asks_another (if whole then Ok asked else Err RC_SIZE) ≡ true
    → (is_own_list asked ≡ false → first asked ≡ second asked) → (if whole then first asked else Err RC_SIZE) ≡ (if whole then second asked else Err RC_SIZE)
whole_same true asked first second of same = same (not-true (is_own_list asked) of)
whole_same false asked first second of same = absurd cc

read_same : (read : Reading Asked) (first second : Asked → Result (List ℕ) ℕ) → asks_another (when_read read (λ asked. Ok asked)) ≡ true
    → ((asked : Asked) → is_own_list asked ≡ false → first asked ≡ second asked) → when_read read first ≡ when_read read second
read_same (Err code) first second of same = absurd cc
read_same (Ok read) first second of same = whole_same (length read.1 == 0) read.0 first second of (same read.0)

pub capability_same : (limits other : CapabilityLimits) (rows : List CommandRow) (persist : Persist) (objects others : List ℕ) (sessions held : List Listed)
    (active now : ℕ) (params : List ℕ) → is_of_device params ≡ true
    → capability_of limits rows persist objects sessions active params ≡ capability_of other rows persist others held now params
capability_same limits other rows persist objects others sessions held active now params of =
    read_same (asked_of params) (list_of limits rows persist objects sessions active) (list_of other rows persist others held now) of
    (list_same limits other rows persist objects others sessions held active now)

-- ---- the step

abbrev list_row : CommandRow
list_row = command_row CC_GET_CAPABILITY Absent Absent 0 false

-- the reply that tells a list, or why there is none
abbrev told : Result (List ℕ) ℕ → List ℕ
told (Err code) = error_reply code
told (Ok params) = response ST_NO_SESSIONS RC_SUCCESS params

device_told : (slots : SlotState) (row : Result (List ℕ) ℕ) → step_by slots (capability_told slots row) ≡ (slots, told row)
device_told slots (Err code) = refl
device_told slots (Ok params) = refl

plain_told : (state : ClientState) (row : Result (List ℕ) ℕ) → capability_step state row ≡ (state, told row)
plain_told state (Err code) = refl
plain_told state (Ok params) = refl

-- it names nothing, so it may be run over any tables
list_there : (tables : Tables) (bytes : List ℕ) (a : Admitted) → Bare bytes a list_row → (a.shape.row.code == CC_GET_CAPABILITY) ≡ true
    → HandlesAreThere tables bytes a 0 0
list_there tables bytes a b is = record {
  handles = refl;
  sessions = ap (λ (n : ℕ). missing_session tables 0 (take n a.auths.auths)) b.none;
  once = ap (λ (n : ℕ). repeated_session (0 ∷ 0 ∷ []) 1 (take n a.auths.auths)) b.none;
  room = ap (λ (c : ℕ). if ((c == CC_CREATE_PRIMARY || c == CC_LOAD) || (c == CC_CONTEXT_LOAD && loads_object tables.contexts bytes)) && tables.is_full
      then Some RC_OBJECT_MEMORY else None) (eqb-true a.shape.row.code CC_GET_CAPABILITY is);
}

list_handles : (bytes : List ℕ) (a : Admitted) → Bare bytes a list_row → AreHandlesOf a.shape 0 0
list_handles bytes a b = record {
  first_fits = omega arith;
  second_fits = omega arith;
  kinds = ap (λ (r : CommandRow). are_of_kinds r.handles (0 ∷ 0 ∷ [])) b.row_is;
  absent = ap (λ (r : CommandRow). absent_are_zero r.handles (0 ∷ 0 ∷ [])) b.row_is;
}

list_sent : (bytes : List ℕ) (a : Admitted) (first : ℕ) → Bare bytes a list_row → sent_for bytes a first ≡ with_handles bytes a.shape (0 ∷ 0 ∷ [])
list_sent bytes a first b =
    let none : (handles : List ℕ) → handle_bytes a.shape.count handles ≡ [] = λ handles. ap (λ (n : ℕ). handle_bytes n handles) b.handles in
    ap (λ (handles : List ℕ). take 10 bytes ++ handles ++ drop a.shape.rest bytes)
    (none (first ∷ get_or a.shape.handles 1 0 ∷ []) ∙ sym (none (0 ∷ 0 ∷ [])))

steps_fifth : {X : Type 0} (a b c d e : Bool) (u v w x y z : X) → a ≡ false → b ≡ false → c ≡ false → d ≡ false → e ≡ true
    → (if a then u else if b then v else if c then w else if d then x else if e then y else z) ≡ y
steps_fifth a b c d e u v w x y z first second third fourth fifth = rw (first, second, third, fourth, fifth) refl

list_bare : (tables : Tables) (bytes : List ℕ) (a : Admitted) → client_admitted tables bytes ≡ Ok a → (a.shape.row.code == CC_GET_CAPABILITY) ≡ true
    → Bare bytes a list_row
list_bare tables bytes a e is =
    bare tables bytes a list_row (client_is tables bytes a e).whole (row_as a.shape.row list_row CC_GET_CAPABILITY (clients_command tables bytes a e).row refl is) refl

list_step : (slots : SlotState) (tables : Tables) (bytes : List ℕ) (a : Admitted) (first : ℕ) → slots.started ≡ true → client_admitted tables bytes ≡ Ok a
    → (a.shape.row.code == CC_GET_CAPABILITY) ≡ true
    → slot_step slots (sent_for bytes a first) ≡ step_by slots (get_capability slots (drop a.auths.params bytes))
list_step slots tables bytes a first started e is =
    let client = client_is tables bytes a e in
    let code = a.shape.row.code in
    let b = list_bare tables bytes a e is in
    let new = with_handles bytes a.shape (0 ∷ 0 ∷ []) in
    ap (slot_step slots) (list_sent bytes a first b)
    ∙ over_does slots tables bytes a 0 0 started client.whole (list_handles bytes a b) (list_there (slot_tables slots) bytes a b is)
    ∙ steps_fifth (code == CC_STARTUP) (code == CC_CONTEXT_SAVE) (code == CC_CONTEXT_LOAD) (code == CC_FLUSH_CONTEXT) (code == CC_GET_CAPABILITY) _ _ _ _
    (step_by slots (get_capability slots (drop a.auths.params new))) _ client.other (another_code code CC_GET_CAPABILITY CC_CONTEXT_SAVE is refl)
    (another_code code CC_GET_CAPABILITY CC_CONTEXT_LOAD is refl) (another_code code CC_GET_CAPABILITY CC_FLUSH_CONTEXT is refl) is
    ∙ ap (λ (params : List ℕ). step_by slots (get_capability slots params)) (same_params tables bytes a 0 0 client.whole)

-- over the slots what a client is told
row_same : (slots : SlotState) (client : ℕ) (state : ClientState) (params : List ℕ) → slots.persist ≡ state.persist → is_of_device params ≡ true
    → capability_row slots params ≡ client_capability client state params
row_same slots client state params persist of =
    let objects = transient_from TRANSIENT_FIRST slots.slots in
    let sessions = listed_from 0 slots.sessions in
    ap (λ (p : Persist). capability_of (device_limits slots.numbers) all_commands p objects sessions (active_count slots.sessions) params) persist
    ∙ capability_same (device_limits slots.numbers) (client_limits state.most) all_commands state.persist objects
    (transient_from TRANSIENT_FIRST state.objects) sessions (world.listed_sessions client 0 state.sessions) (active_count slots.sessions)
    (active state.sessions) params of

list_over : (slots : SlotState) (client : ℕ) (state : ClientState) (bytes : List ℕ) (a : Admitted) (first : ℕ)
    → client_admitted (tables_of client state) bytes ≡ Ok a → (a.shape.row.code == CC_GET_CAPABILITY) ≡ true → is_sent PROFILE_CONTEXTS a bytes ≡ true
    → slots.started ≡ true → slots.persist ≡ state.persist
    → slot_step slots (sent_for bytes a first) ≡ (slots, told (client_capability client state (drop a.auths.params bytes)))
list_over slots client state bytes a first e is sent started persist =
    let params = drop a.auths.params bytes in
    list_step slots (tables_of client state) bytes a first started e is
    ∙ device_told slots (capability_row slots params)
    ∙ ap (λ (row : Result (List ℕ) ℕ). (slots, told row)) (row_same slots client state params persist (sent_list PROFILE_CONTEXTS a bytes sent is))

list_plain : (client : ℕ) (state : ClientState) (bytes : List ℕ) (a : Admitted) → client_admitted (tables_of client state) bytes ≡ Ok a
    → (a.shape.row.code == CC_GET_CAPABILITY) ≡ true
    → client_step client state bytes Nothing ≡ Some (state, told (client_capability client state (drop a.auths.params bytes)))
list_plain client state bytes a e is =
    step_listed client state bytes Nothing a e is
    ∙ ap (λ (step : ClientStep). choosing_nothing step Nothing) (plain_told state (client_capability client state (drop a.auths.params bytes)))

pub list_told : (slots : SlotState) (client : ℕ) (state : ClientState) (bytes : List ℕ) (a : Admitted) (first : ℕ)
    → client_admitted (tables_of client state) bytes ≡ Ok a → (a.shape.row.code == CC_GET_CAPABILITY) ≡ true → is_sent PROFILE_CONTEXTS a bytes ≡ true
    → slots.started ≡ true → slots.persist ≡ state.persist
    → (reply : List ℕ) × ((slot_step slots (sent_for bytes a first) ≡ (slots, reply)) × (client_step client state bytes Nothing ≡ Some (state, reply)))
list_told slots client state bytes a first e is sent started persist = (
  told (client_capability client state (drop a.auths.params bytes)),
  (list_over slots client state bytes a first e is sent started persist, list_plain client state bytes a e is),
)

-- ---- a broker takes the response

fails_handles : (persist : Persist) (objects : List ℕ) (sessions : List Listed) (property : ℕ) → Fails IsPlain (handle_items persist objects sessions property)
fails_handles persist objects sessions property =
    let octet = octet_of property in
    let P : Result (List (List ℕ)) ℕ → Type 0 = λ items. Fails IsPlain items in
    cond_both (octet == 0) _ _ P (λ so. tt) (λ not.
    cond_both (octet == HT_NV_INDEX) _ _ P (λ so. tt) (λ not.
    cond_both (octet == HT_HMAC_SESSION) _ _ P (λ so. tt) (λ not.
    cond_both (octet == HT_POLICY_SESSION) _ _ P (λ so. tt) (λ not.
    cond_both (octet == 0x40) _ _ P (λ so. tt) (λ not.
    cond_both (octet == HT_TRANSIENT) _ _ P (λ so. tt) (λ not.
    cond_both (octet == HT_PERSISTENT) (Ok []) (Err (RC_HANDLE + RC_P + RC_1 * 2)) P (λ so. tt) (λ not. refl)))))))

fails_listed : (asked : Asked) (items : Result (List (List ℕ)) ℕ) → Fails IsPlain items → Fails IsPlain (handles_listed asked items)
fails_listed asked (Err code) fails = fails
fails_listed asked (Ok items) fails = tt

fails_list : (limits : CapabilityLimits) (rows : List CommandRow) (persist : Persist) (objects : List ℕ) (sessions : List Listed) (active : ℕ) (asked : Asked)
    → Fails IsPlain (list_of limits rows persist objects sessions active asked)
fails_list limits rows persist objects sessions active asked =
    let P : Result (List ℕ) ℕ → Type 0 = λ row. Fails IsPlain row in
    cond_both (asked.capability == 1) (handles_listed asked (handle_items persist objects sessions asked.property)) _ P
    (λ so. fails_listed asked (handle_items persist objects sessions asked.property) (fails_handles persist objects sessions asked.property)) (λ not.
    cond_both (asked.capability == 2) _ _ P (λ so. tt) (λ not.
    cond_both (asked.capability == 5) _ _ P (λ so. tt) (λ not.
    cond_both (asked.capability == 6) (Ok (listed asked (property_items (property_pairs limits objects sessions active) asked.property)))
    (Err (RC_VALUE + RC_P + RC_1)) P (λ so. tt) (λ not. refl))))

fails_asked : (params : List ℕ) → Fails IsPlain (asked_of params)
fails_asked params =
    fails_then IsPlain (in_parameter 1 (number32 RC_INSUFFICIENT params)) _ (fails_parameter_32 1 params refl) (λ capability rest.
    fails_then IsPlain (in_parameter 2 (number32 RC_INSUFFICIENT rest)) _ (fails_parameter_32 2 rest refl) (λ property rest.
    fails_then IsPlain (in_parameter 3 (number32 RC_INSUFFICIENT rest)) _ (fails_parameter_32 3 rest refl) (λ count rest. tt)))

-- where what is asked stands
abbrev HasAsked : List ℕ → Asked → Type 0
HasAsked params asked =
    (8 ≤ length params) × (asked.capability ≡ from_be_bytes w32 (take 4 params)) × (asked.property ≡ from_be_bytes w32 (take 4 (drop 4 params)))

abbrev behind_property : ℕ → ℕ → List ℕ → Reading Asked
behind_property capability property rest =
    then_read (in_parameter 3 (number32 RC_INSUFFICIENT rest)) (λ count rest.
    Ok (record { capability = capability; property = property; count = count }, rest))

abbrev behind_capability : ℕ → List ℕ → Reading Asked
behind_capability capability rest =
    then_read (in_parameter 2 (number32 RC_INSUFFICIENT rest)) (λ property rest. behind_property capability property rest)

property_kept : (params : List ℕ) (capability property : ℕ) (rest : List ℕ) → 8 ≤ length params → capability ≡ from_be_bytes w32 (take 4 params)
    → property ≡ from_be_bytes w32 (take 4 (drop 4 params)) → Gives (HasAsked params) (behind_property capability property rest)
property_kept params capability property rest long first second =
    gives_next (HasAsked params) (in_parameter 3 (number32 RC_INSUFFICIENT rest)) _ (λ count rest. (long, first, second))

capability_kept : (params : List ℕ) (capability : ℕ) → 4 ≤ length params → capability ≡ from_be_bytes w32 (take 4 params)
    → Gives (HasAsked params) (behind_capability capability (drop 4 params))
capability_kept params capability four first =
    cond_both (nat_lt (length (drop 4 params)) 4) (Err RC_INSUFFICIENT) (Ok (take 4 (drop 4 params), drop 4 (drop 4 params)))
    (λ (read : Reading (List ℕ)). Gives (HasAsked params)
    (then_read (in_parameter 2 (then_read read (λ read rest. Ok (from_be_bytes w32 read, rest)))) (behind_property capability)))
    (λ few. tt) (λ eight.
    property_kept params capability (from_be_bytes w32 (take 4 (drop 4 params))) (drop 4 (drop 4 params))
    (omega (arith, four, ltb-false (length (drop 4 params)) 4 eight, length-drop 4 params)) first refl)

asked_kept : (params : List ℕ) → Gives (HasAsked params) (asked_of params)
asked_kept params =
    cond_both (nat_lt (length params) 4) (Err RC_INSUFFICIENT) (Ok (take 4 params, drop 4 params))
    (λ (read : Reading (List ℕ)). Gives (HasAsked params)
    (then_read (in_parameter 1 (then_read read (λ read rest. Ok (from_be_bytes w32 read, rest)))) behind_capability))
    (λ few. tt) (λ four. capability_kept params (from_be_bytes w32 (take 4 params)) (ltb-false (length params) 4 four) refl)

-- what is asked of the device
abbrev IsAsked : List ℕ → Type 0
IsAsked params = (asked : Asked) × ((is_own_list asked ≡ false) × HasAsked params asked)

asked_by : (params : List ℕ) (whole : Bool) (asked : Asked) → asks_another (if whole then Ok asked else Err RC_SIZE) ≡ true → HasAsked params asked → IsAsked params
asked_by params true asked of has = (asked, (not-true (is_own_list asked) of, has))
asked_by params false asked of has = absurd cc

asked_in : (params : List ℕ) (read : Reading Asked) → Gives (HasAsked params) read → asks_another (when_read read (λ asked. Ok asked)) ≡ true → IsAsked params
asked_in params (Err code) gives of = absurd cc
asked_in params (Ok read) gives of = asked_by params (length read.1 == 0) read.0 of gives

tables_none : (six one tables : Bool) → (if one then tables else six) ≡ false → (one ≡ true → six ≡ false) → (six || (one && tables)) ≡ false
tables_none six true tables none only = rw (only refl, none) refl
tables_none six false tables none only = rw none refl

word_here : (bytes : List ℕ) (at n : ℕ) → at + 4 ≤ length bytes → n ≡ from_be_bytes w32 (take 4 (drop at bytes)) → word_at at bytes ≡ Some n
word_here bytes at n long is = rw (le-ltb (length bytes) (at + 4) long) (ap (λ (n : ℕ). Some n) (sym is))

asks_none : (code words : Bool) → words ≡ false → (code && words) ≡ false
asks_none true words none = none
asks_none false words none = refl

-- it isn't of the tables of a client
none_asked : (bytes params : List ℕ) → drop 10 bytes ≡ params → is_of_device params ≡ true → asks_of_tables bytes ≡ false
none_asked bytes params are of =
    let is = asked_in params (asked_of params) (asked_kept params) of in
    let asked = is.0 in
    let long : 18 ≤ length bytes = omega (arith, is.1.1.0, ap length are, length-drop 10 bytes) in
    let first : word_at 10 bytes ≡ Some asked.capability =
    word_here bytes 10 asked.capability (omega (arith, long)) (is.1.1.1 ∙ ap (λ (rest : List ℕ). from_be_bytes w32 (take 4 rest)) (sym are)) in
    let behind : drop 4 params ≡ drop 14 bytes = ap (drop 4) (sym are) ∙ drop-drop 4 10 bytes in
    let second : word_at 14 bytes ≡ Some asked.property =
    word_here bytes 14 asked.property (omega (arith, long)) (is.1.1.2 ∙ ap (λ (rest : List ℕ). from_be_bytes w32 (take 4 rest)) behind) in
    let none : (asked.capability == 6 || (asked.capability == 1 && is_of_tables asked.property)) ≡ false =
    tables_none (asked.capability == 6) (asked.capability == 1) (is_of_tables asked.property) is.1.0
    (λ one. another_code asked.capability 1 6 one refl) in
    asks_none (code_of bytes == CC_GET_CAPABILITY)
    (is_word (λ c. c == 6) (word_at 10 bytes) || (is_word (λ c. c == 1) (word_at 10 bytes) && is_word is_of_tables (word_at 14 bytes)))
    ((λ i. is_word (λ c. c == 6) (first i) || (is_word (λ c. c == 1) (first i) && is_word is_of_tables (second i))) ∙ none)

no_own : (startup save flush load session object tables : Bool) → startup ≡ false → save ≡ false → flush ≡ false → load ≡ false → tables ≡ false
    → (startup || save || flush || (load && session) || ((load && object) && false) || tables) ≡ false
no_own startup save flush load session object tables a b c d e = rw (a, b, c, d, e) refl

-- what is known of a GetCapability that is sent
record Asks (sent : List ℕ) : Type 0 where
  code : code_of sent ≡ CC_GET_CAPABILITY
  tag : tag_of sent ≡ ST_NO_SESSIONS
  none : asks_of_tables sent ≡ false

told_taken : (sent : List ℕ) (row : Result (List ℕ) ℕ) → Asks sent → Fails IsPlain row → Short row → takes PROFILE_CONTEXTS false false sent (told row) ≡ true
told_taken sent (Err code) asks plain short =
    refusal_taken false sent code
    (no_own (code_of sent == CC_STARTUP) (code_of sent == CC_CONTEXT_SAVE) (code_of sent == CC_FLUSH_CONTEXT) (code_of sent == CC_CONTEXT_LOAD) _ _
    (asks_of_tables sent) (ap (λ (c : ℕ). c == CC_STARTUP) asks.code) (ap (λ (c : ℕ). c == CC_CONTEXT_SAVE) asks.code)
    (ap (λ (c : ℕ). c == CC_FLUSH_CONTEXT) asks.code) (ap (λ (c : ℕ). c == CC_CONTEXT_LOAD) asks.code) asks.none)
    plain
told_taken sent (Ok params) asks plain short =
    success_taken false false sent (response ST_NO_SESSIONS RC_SUCCESS params) false (response_is_frame ST_NO_SESSIONS RC_SUCCESS params (omega (arith, short)))
    (code_of_response ST_NO_SESSIONS RC_SUCCESS params (omega arith)) (ap (λ (c : ℕ). has_response_handle (row_of c)) asks.code) (sym asks.tag)
    (record {
      handled = refl;
      authorized = or_left (not (tag_of sent == ST_SESSIONS)) _
          (not_from_false (tag_of sent == ST_SESSIONS) (ap (λ (t : ℕ). t == ST_SESSIONS) asks.tag));
    })
    (ap (λ (c : ℕ). c == CC_CONTEXT_SAVE) asks.code) (no_tables_asked sent asks.none)

-- whatever the broker holds
any_taken : (is_kept is_taken : Bool) (sent last : List ℕ) → code_of sent ≡ CC_GET_CAPABILITY → takes PROFILE_CONTEXTS false false sent last ≡ true
    → takes PROFILE_CONTEXTS is_kept is_taken sent last ≡ true
any_taken is_kept is_taken sent last code taken =
    let load = ap (λ (c : ℕ). c == CC_CONTEXT_LOAD) code in
    let start = ap (λ (c : ℕ). c == CC_START_AUTH_SESSION) code in
    takes_same PROFILE_CONTEXTS is_kept is_taken sent last load start ∙ sym (takes_same PROFILE_CONTEXTS false false sent last load start) ∙ taken

pub list_taken : (is_kept is_taken : Bool) (slots : SlotState) (client : ℕ) (state : ClientState) (bytes : List ℕ) (a : Admitted) (first : ℕ)
    → client_admitted (tables_of client state) bytes ≡ Ok a → (a.shape.row.code == CC_GET_CAPABILITY) ≡ true → is_sent PROFILE_CONTEXTS a bytes ≡ true
    → slots.started ≡ true → slots.persist ≡ state.persist
    → takes PROFILE_CONTEXTS is_kept is_taken (sent_for bytes a first) (slot_step slots (sent_for bytes a first)).1 ≡ true
list_taken is_kept is_taken slots client state bytes a first e is sent started persist =
    let tables = tables_of client state in
    let asked = sent_for bytes a first in
    let params = drop a.auths.params bytes in
    let b = list_bare tables bytes a e is in
    let second = get_or a.shape.handles 1 0 in
    let whole = (client_is tables bytes a e).whole in
    let code : code_of asked ≡ CC_GET_CAPABILITY =
    command_sent_code tables bytes a first e ∙ (clients_command tables bytes a e).code ∙ eqb-true a.shape.row.code CC_GET_CAPABILITY is in
    let are : drop 10 asked ≡ params = ap (λ (n : ℕ). drop n asked) (sym b.params) ∙ same_params tables bytes a first second whole in
    let asks : Asks asked = record {
      code = code;
      tag = (handled_is tables bytes a first second whole).tag ∙ b.tag;
      none = none_asked asked params are (sent_list PROFILE_CONTEXTS a bytes sent is);
    } in
    let objects = transient_from TRANSIENT_FIRST state.objects in
    let sessions = world.listed_sessions client 0 state.sessions in
    let count = active state.sessions in
    let limits = client_limits state.most in
    ap (λ (step : Step). takes PROFILE_CONTEXTS is_kept is_taken asked step.1) (list_over slots client state bytes a first e is sent started persist)
    ∙ any_taken is_kept is_taken asked (told (client_capability client state params)) code
    (told_taken asked (client_capability client state params) asks
    (fails_read (asked_of params) (list_of limits all_commands state.persist objects sessions count) (fails_asked params)
    (fails_list limits all_commands state.persist objects sessions count))
    (short_capability limits all_commands state.persist objects sessions count params))
