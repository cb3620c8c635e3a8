-- What the row of each command leaves, how long the parameters of its response are, and that what was made has a place for its handle.
use Rattle.std.proofs.Common.{◌≡◌, ◌≤◌, ℕ, Bool, true, List, [], ◌∷◌, ◌++◌, length, drop, take, refl, ◌∙◌, sym, ap, subst, arith}
use Rattle.std.specs.Prelude.{Option, Some, None, IfSome, Result, Ok, Err, is_ok, ◌==◌}
use Rattle.std.proofs.lemmas.Bool.{eqb-true, cond_both}
use Rattle.std.proofs.lemmas.List.{take-append-drop}
use Rattle.tab_spec.specs.declared.TheConstants.{CC_CREATE_PRIMARY, CC_CREATE, CC_LOAD, CC_UNSEAL, CC_HMAC, CC_READ_PUBLIC, CC_START_AUTH_SESSION, RC_SUCCESS, RC_COMMAND_CODE}
use Rattle.tab_spec.specs.declared.Kind.TheVariants as kinds
use Rattle.tab_spec.specs.declared.Shape.{Shape}
use Rattle.tab_spec.specs.declared.Auths.{Auths}
use Rattle.tab_spec.specs.declared.CommandRow.{CommandRow}
use Rattle.tab_spec.specs.Commands.{row_of, command_row}
use Rattle.tab_spec.specs.Shape.{IsShape}
use Rattle.tab_spec.specs.Admission.{unless_fault}
use Rattle.tab_spec.specs.Reply.{response}
use Rattle.tab_spec.specs.Values.{AreBytes}
use Rattle.tab_spec.specs.Persist.{Persist, IsPersist}
use Rattle.tab_spec.specs.Object.{IsObject, Object}
use Rattle.tab_spec.specs.Session.{IsSession, Session}
use Rattle.effect_spec.specs.Nv.{undefined_index}
use Rattle.effect_spec.specs.Objects.{create_primary_row, load_row, unseal_row, hmac_row, read_public_row}
use Rattle.effect_spec.specs.Sessions.{StartParameters, start_check, session_started, start_session_row}
use Rattle.effect_spec.specs.SessionAuths.{ResponseAuth, operand_name}
use Rattle.effect_spec.specs.Operands.{Operand, Operands, Created, nothing, new_object, new_session, number_of, object_in, operand_at, policy_session_in}
use Rattle.effect_spec.specs.Effect.{RowOutcome, HasHandle, effect_authorized, effect_of, effect_in, effect_row, response_auth_of, outcome_of, row_by, row_with, item_row, object_row, other_row, making_nothing, making_object, making_session, changing_policy, policy_row, keeping, handle_area, response_body, authorization_fault}
use Rattle.tab_laws.proofs.OneSpelling.{bytes_back}
use Rattle.device_laws.proofs.ObjectRows.{MadeWell, KeptWell, made_primary, made_load, kept_create, short_unseal, short_hmac, short_read_public}
use Rattle.device_laws.proofs.PcrRows.{fitting_keeping, fitting_row}
use Rattle.device_laws.proofs.SessionRows.{PolicyWell, StartWell, policy_well, start_well}

-- what stands further on in bytes are bytes
pub dropped_bytes : (n : ℕ) (bytes : List ℕ) → AreBytes bytes → AreBytes (drop n bytes)
dropped_bytes n bytes all = bytes_back (take n bytes) (drop n bytes) (subst AreBytes (sym (take-append-drop n bytes)) all)

-- ---- what is left

-- what was made is of this profile
abbrev pub IsMade : Created → Type 0
IsMade nothing = Unit
IsMade (new_object o) = IsObject o
IsMade (new_session s) = IsSession s

-- what a row leaves; of a policy session where this holds of the command
abbrev pub LeftWell : Type 0 → Result RowOutcome ℕ → Type 0
LeftWell Bytes (Err code) = Unit
LeftWell Bytes (Ok done) = (length done.params ≤ 4000) × (IsPersist done.persist × (IsMade done.created × (Bytes → IfSome done.policy IsSession)))

left_nothing : (Bytes : Type 0) (row : Result (Persist × List ℕ) ℕ) → KeptWell row → LeftWell Bytes (making_nothing row)
left_nothing Bytes (Err code) kept = tt
left_nothing Bytes (Ok done) kept = (kept.0, (kept.1, (tt, λ bytes. tt)))

left_object : (Bytes : Type 0) (persist : Persist) (row : Result (Object × List ℕ) ℕ) → IsPersist persist → MadeWell row → LeftWell Bytes (making_object persist row)
left_object Bytes persist (Err code) sound made = tt
left_object Bytes persist (Ok done) sound made = (made.0, (sound, (made.1, λ bytes. tt)))

left_session : (Bytes : Type 0) (row : Result (Session × Persist × List ℕ) ℕ) → StartWell row → LeftWell Bytes (making_session row)
left_session Bytes (Err code) started = tt
left_session Bytes (Ok done) started = (started.0, (started.1.0, (started.1.1, λ bytes. tt)))

left_policy : (Bytes : Type 0) (persist : Persist) (row : Result (Session × List ℕ) ℕ) → IsPersist persist → PolicyWell Bytes row
    → LeftWell Bytes (changing_policy persist row)
left_policy Bytes persist (Err code) sound well = tt
left_policy Bytes persist (Ok done) sound well = (well.0, (sound, (tt, well.1)))

kept_item : (code : ℕ) (persist : Persist) (item : Object) (params : List ℕ) → IsPersist persist → IsObject item → KeptWell (item_row code persist item params)
kept_item code persist item params sound is =
    cond_both (code == CC_CREATE) _ _ KeptWell (λ so. kept_create persist item params sound is) (λ not.
    cond_both (code == CC_UNSEAL) _ _ KeptWell (λ so. fitting_keeping persist (unseal_row item params) sound (short_unseal item params is)) (λ not.
    cond_both (code == CC_HMAC) _ _ KeptWell (λ so. fitting_keeping persist (hmac_row item params) sound (short_hmac item params)) (λ not.
    cond_both (code == CC_READ_PUBLIC) (keeping persist (read_public_row item params)) (Err RC_COMMAND_CODE) KeptWell
    (λ so. fitting_keeping persist (read_public_row item params) sound (short_read_public item params is)) (λ not. tt))))

left_by_object : (Bytes : Type 0) (code : ℕ) (persist : Persist) (item : Object) (params : List ℕ) → IsPersist persist → IsObject item
    → LeftWell Bytes (object_row code persist item params)
left_by_object Bytes code persist item params sound is =
    cond_both (code == CC_LOAD) (making_object persist (load_row item params)) (making_nothing (item_row code persist item params)) (LeftWell Bytes)
    (λ so. left_object Bytes persist (load_row item params) sound (made_load item params is))
    (λ not. left_nothing Bytes (item_row code persist item params) (kept_item code persist item params sound is))

left_by_other : (Bytes : Type 0) (code : ℕ) (persist : Persist) (first second : ℕ) (params : List ℕ) → IsPersist persist
    → LeftWell Bytes (other_row code persist first second params)
left_by_other Bytes code persist first second params sound =
    cond_both (code == CC_CREATE_PRIMARY) (making_object persist (create_primary_row persist params)) _ (LeftWell Bytes)
    (λ so. left_object Bytes persist (create_primary_row persist params) sound (made_primary persist params sound)) (λ not.
    cond_both (code == CC_START_AUTH_SESSION) (making_session (start_session_row persist params)) (making_nothing (row_with code persist first second params))
    (LeftWell Bytes) (λ so. left_session Bytes (start_session_row persist params) (start_well persist params sound))
    (λ not. left_nothing Bytes (row_with code persist first second params) (fitting_row code persist first second params sound)))

left_by : (code : ℕ) (persist : Persist) (operands : List Operand) (policy : Option Session) (item : Option Object) (params : List ℕ) → IsPersist persist
    → IfSome policy IsSession → IfSome item IsObject → LeftWell (AreBytes params) (row_by code persist operands policy item params)
left_by code persist operands (Some s) item params sound session held =
    let name = operand_name persist (operand_at operands 0) in
    left_policy (AreBytes params) persist (policy_row code persist s name params) sound (policy_well code persist s name params sound session)
left_by code persist operands None (Some item) params sound session held = left_by_object (AreBytes params) code persist item params sound held
left_by code persist operands None None params sound session held =
    left_by_other (AreBytes params) code persist (number_of (operand_at operands 0)) (number_of (operand_at operands 1)) params sound

left_faultless : (Bytes : Type 0) (fault : Option ℕ) (row : Result RowOutcome ℕ) → LeftWell Bytes row → LeftWell Bytes (unless_fault fault row)
left_faultless Bytes None row left = left
left_faultless Bytes (Some code) row left = tt

pub left_outcome : (persist : Persist) (operands : Operands) (shape : Shape) (auths : Auths) (bytes : List ℕ) → IsPersist persist
    → IfSome (policy_session_in operands.handles) IsSession → IfSome (object_in (operand_at operands.handles 0)) IsObject
    → LeftWell (AreBytes (drop auths.params bytes)) (outcome_of persist operands shape auths bytes)
left_outcome persist operands shape auths bytes sound session held =
    let first = operand_at operands.handles 0 in
    let second = operand_at operands.handles 1 in
    let params = drop auths.params bytes in
    let row = effect_row shape.row.code persist operands.handles params in
    let fault = authorization_fault persist operands shape auths bytes in
    let missing = undefined_index persist.nv 1 (number_of first ∷ number_of second ∷ []) in
    left_faultless (AreBytes params) missing (unless_fault fault row)
    (left_faultless (AreBytes params) fault row
    (left_by shape.row.code persist operands.handles (policy_session_in operands.handles) (object_in first) params sound session held))

-- ---- what a command made is told by a handle, and StartAuthSession alone starts a session

abbrev pub TellsBy : Bool → Created → Type 0
TellsBy has_handle nothing = Unit
TellsBy has_handle (new_object o) = has_handle ≡ true
TellsBy has_handle (new_session s) = has_handle ≡ true

abbrev pub StartsBy : ℕ → List ℕ → Created → Type 0
StartsBy code params nothing = Unit
StartsBy code params (new_object o) = Unit
StartsBy code params (new_session s) = ((code == CC_START_AUTH_SESSION) ≡ true) × (is_ok (start_check params) ≡ true)

-- both of a row
abbrev pub Tells : CommandRow → List ℕ → Result RowOutcome ℕ → Type 0
Tells row params (Err code) = Unit
Tells row params (Ok done) = TellsBy row.response_handle done.created × StartsBy row.code params done.created

tells_nothing : (row : CommandRow) (params : List ℕ) (done : Result (Persist × List ℕ) ℕ) → Tells row params (making_nothing done)
tells_nothing row params (Err code) = tt
tells_nothing row params (Ok done) = (tt, tt)

tells_policy : (row : CommandRow) (params : List ℕ) (persist : Persist) (done : Result (Session × List ℕ) ℕ) → Tells row params (changing_policy persist done)
tells_policy row params persist (Err code) = tt
tells_policy row params persist (Ok done) = (tt, tt)

tells_object : (row : CommandRow) (params : List ℕ) (persist : Persist) (done : Result (Object × List ℕ) ℕ) → row.response_handle ≡ true
    → Tells row params (making_object persist done)
tells_object row params persist (Err code) has = tt
tells_object row params persist (Ok done) has = (has, tt)

tells_session : (row : CommandRow) (params : List ℕ) (done : Result (Session × Persist × List ℕ) ℕ) → row.response_handle ≡ true
    → (row.code == CC_START_AUTH_SESSION) ≡ true → is_ok (start_check params) ≡ true → Tells row params (making_session done)
tells_session row params (Err code) has so checked = tt
tells_session row params (Ok done) has so checked = (has, (so, checked))

-- where the parameters are refused, no session starts
tells_started : (row : CommandRow) (persist : Persist) (params : List ℕ) (check : Result StartParameters ℕ) → start_check params ≡ check
    → row.response_handle ≡ true → (row.code == CC_START_AUTH_SESSION) ≡ true → Tells row params (making_session (session_started persist check))
tells_started row persist params (Err code) is has so = tt
tells_started row persist params (Ok b) is has so = tells_session row params (session_started persist (Ok b)) has so (ap is_ok is)

-- the three rows that make something have a response handle
has_handle_as : (row known : CommandRow) (code : ℕ) → row_of code ≡ Some known → known.response_handle ≡ true → row_of row.code ≡ Some row → (row.code == code) ≡ true
    → row.response_handle ≡ true
has_handle_as row known code there has is so =
    let same : Some known ≡ Some row = sym there ∙ subst (λ c. row_of c ≡ Some row) (eqb-true row.code code so) is in
    let rows : known ≡ row = cc in
    sym (ap (λ (r : CommandRow). r.response_handle) rows) ∙ has

load_has_handle : (row : CommandRow) → row_of row.code ≡ Some row → (row.code == CC_LOAD) ≡ true → row.response_handle ≡ true
load_has_handle row is so = has_handle_as row (command_row CC_LOAD kinds.Object kinds.Absent 1 true) CC_LOAD refl refl is so

primary_has_handle : (row : CommandRow) → row_of row.code ≡ Some row → (row.code == CC_CREATE_PRIMARY) ≡ true → row.response_handle ≡ true
primary_has_handle row is so = has_handle_as row (command_row CC_CREATE_PRIMARY kinds.Owner kinds.Absent 1 true) CC_CREATE_PRIMARY refl refl is so

start_has_handle : (row : CommandRow) → row_of row.code ≡ Some row → (row.code == CC_START_AUTH_SESSION) ≡ true → row.response_handle ≡ true
start_has_handle row is so =
    has_handle_as row (command_row CC_START_AUTH_SESSION kinds.Null kinds.Null 0 true) CC_START_AUTH_SESSION refl refl is so

tells_other : (row : CommandRow) (persist : Persist) (first second : ℕ) (params : List ℕ) → row_of row.code ≡ Some row
    → Tells row params (other_row row.code persist first second params)
tells_other row persist first second params is =
    cond_both (row.code == CC_CREATE_PRIMARY) (making_object persist (create_primary_row persist params)) _ (Tells row params)
    (λ so. tells_object row params persist (create_primary_row persist params) (primary_has_handle row is so)) (λ not.
    cond_both (row.code == CC_START_AUTH_SESSION) (making_session (start_session_row persist params))
    (making_nothing (row_with row.code persist first second params)) (Tells row params)
    (λ so. tells_started row persist params (start_check params) refl (start_has_handle row is so) so)
    (λ not. tells_nothing row params (row_with row.code persist first second params)))

tells_by : (row : CommandRow) (persist : Persist) (operands : List Operand) (policy : Option Session) (item : Option Object) (params : List ℕ)
    → row_of row.code ≡ Some row → Tells row params (row_by row.code persist operands policy item params)
tells_by row persist operands (Some s) item params is =
    tells_policy row params persist (policy_row row.code persist s (operand_name persist (operand_at operands 0)) params)
tells_by row persist operands None None params is =
    tells_other row persist (number_of (operand_at operands 0)) (number_of (operand_at operands 1)) params is
tells_by row persist operands None (Some item) params is =
    cond_both (row.code == CC_LOAD) (making_object persist (load_row item params)) (making_nothing (item_row row.code persist item params))
    (Tells row params) (λ so. tells_object row params persist (load_row item params) (load_has_handle row is so))
    (λ not. tells_nothing row params (item_row row.code persist item params))

tells_faultless : (row : CommandRow) (params : List ℕ) (fault : Option ℕ) (done : Result RowOutcome ℕ) → Tells row params done
    → Tells row params (unless_fault fault done)
tells_faultless row params None done tells = tells
tells_faultless row params (Some code) done tells = tt

pub tells_outcome : (persist : Persist) (operands : Operands) (shape : Shape) (auths : Auths) (bytes : List ℕ) → row_of shape.row.code ≡ Some shape.row
    → Tells shape.row (drop auths.params bytes) (outcome_of persist operands shape auths bytes)
tells_outcome persist operands shape auths bytes is =
    let first = operand_at operands.handles 0 in
    let second = operand_at operands.handles 1 in
    let params = drop auths.params bytes in
    let row = effect_row shape.row.code persist operands.handles params in
    let fault = authorization_fault persist operands shape auths bytes in
    let missing = undefined_index persist.nv 1 (number_of first ∷ number_of second ∷ []) in
    tells_faultless shape.row params missing (unless_fault fault row)
    (tells_faultless shape.row params fault row
    (tells_by shape.row persist operands.handles (policy_session_in operands.handles) (object_in first) params is))

handle_first : (has_handle : Bool) (tag : ℕ) (body : List ℕ) → has_handle ≡ true → 14 ≤ length (response tag RC_SUCCESS (handle_area has_handle ++ body))
handle_first has_handle tag body has = rw has (omega arith)

handle_by : (created : Created) (has_handle : Bool) (tag : ℕ) (body : List ℕ) → TellsBy has_handle created
    → HasHandle created (response tag RC_SUCCESS (handle_area has_handle ++ body))
handle_by nothing has_handle tag body tells = tt
handle_by (new_object o) has_handle tag body tells = handle_first has_handle tag body tells
handle_by (new_session s) has_handle tag body tells = handle_first has_handle tag body tells

handle_closed : (persist : Persist) (operands : Operands) (shape : Shape) (auths : Auths) (done : RowOutcome) (closed : Result ResponseAuth ℕ)
    → TellsBy shape.row.response_handle done.created
    → HasHandle (effect_authorized persist operands shape auths done closed).outcome.created (effect_authorized persist operands shape auths done closed).reply
handle_closed persist operands shape auths done (Err code) tells = tt
handle_closed persist operands shape auths done (Ok closed) tells =
    handle_by done.created shape.row.response_handle shape.tag (response_body shape.tag done.params closed.answer) tells

handle_in : (persist : Persist) (operands : Operands) (shape : Shape) (auths : Auths) (bytes : List ℕ) (row : Result RowOutcome ℕ)
    → Tells shape.row (drop auths.params bytes) row
    → HasHandle (effect_in persist operands shape auths bytes row).outcome.created (effect_in persist operands shape auths bytes row).reply
handle_in persist operands shape auths bytes (Err code) tells = tt
handle_in persist operands shape auths bytes (Ok done) tells =
    handle_closed persist operands shape auths done (response_auth_of persist operands shape auths bytes done) tells.0

pub made_has_handle : (persist : Persist) (operands : Operands) (shape : Shape) (auths : Auths) (bytes : List ℕ) → IsShape shape
    → HasHandle (effect_of persist operands shape auths bytes).outcome.created (effect_of persist operands shape auths bytes).reply
unfolding effect_of
made_has_handle persist operands shape auths bytes is =
    handle_in persist operands shape auths bytes (outcome_of persist operands shape auths bytes) (tells_outcome persist operands shape auths bytes is.row)
