-- The sessions that a client's command names: they are there, its effect leaves no others, and that of its authorization ends
-- where the command succeeded and didn't continue it.
use Rattle.std.proofs.Common.{◌≡◌, ◌+◌, ◌*◌, ℕ, zero, suc, Bool, true, false, true≢false, List, [], ◌∷◌, ◌++◌, get_or, take, refl, ap, sym, ◌∙◌, subst, arith}
use Rattle.std.specs.Prelude.{Option, Some, None, IfSome, is_some, Result, Ok, Err, not, nat_lt, ◌==◌, ◌||◌, ◌&&◌, if◌then◌else◌}
use Rattle.std.specs.List.{AllByRecursion, filter, list_any}
use Rattle.std.proofs.lemmas.Bool.{and_parts, eq-eqb, eqb-true, ltb-false, or_left, or_right}
use Rattle.tab_spec.specs.declared.TheConstants.{CC_START_AUTH_SESSION, HT_TRANSIENT, RC_1, RC_ATTRIBUTES, RC_REFERENCE_H0, RC_REFERENCE_S0, RC_S, RC_SUCCESS, RC_VALUE, RH_NULL, RS_PW, ST_SESSIONS}
use Rattle.tab_spec.specs.declared.Kind.{Kind}
use Rattle.tab_spec.specs.declared.Kind.TheVariants as sorts
use Rattle.tab_spec.specs.declared.Admitted.{Admitted}
use Rattle.tab_spec.specs.declared.Auth.{Auth}
use Rattle.tab_spec.specs.declared.CommandRow.{CommandRow}
use Rattle.tab_spec.specs.declared.Auths.{Auths}
use Rattle.tab_spec.specs.declared.Shape.{Shape}
use Rattle.tab_spec.specs.Admission.{Tables, client_admitted, is_missing, is_session_handle, missing_session}
use Rattle.tab_spec.specs.Auths.{no_auth}
use Rattle.tab_spec.specs.Commands.{all_commands}
use Rattle.tab_spec.specs.Frame.{code_of}
use Rattle.tab_spec.specs.Object.{Object}
use Rattle.tab_spec.specs.Persist.{Persist}
use Rattle.tab_spec.specs.Reply.{error_reply, response}
use Rattle.tab_spec.specs.Session.{Session}
use Rattle.tab_spec.specs.Shape.{are_of_kinds, is_of_kind, is_present, is_session_octet, octet_of}
use Rattle.effect_spec.specs.Effect.{Effect, RowOutcome, effect_authorized, effect_in, effect_of, handle_area, outcome_of, response_auth_of, response_body}
use Rattle.effect_spec.specs.Operands.{Operand, Operands, a_session, absent, an_object, command_auth, handles_left, object_operand, operand_at, plain, session_left, session_operand, with_handle, with_session}
use Rattle.effect_spec.specs.SessionAuths.{ResponseAuth, continues}
use Rattle.history_spec.specs.Table.{held_under}
use Rattle.world_spec.specs.World.{ClientState, client_operands, session_of, tables_of}
use Rattle.tab_laws.specs.OtherHandles.{ArePasswords}
use Rattle.tab_laws.proofs.Handled.{client_is, passed}
use Rattle.tab_laws.proofs.OwnHandles.{own_handles}
use Rattle.tab_laws.proofs.Passwords.{first_password}
use Rattle.device_laws.proofs.Answering.{found_has}
use Rattle.device_laws.proofs.FaultRows.{outcome_plain}
use Rattle.device_laws.proofs.Faults.{Fails, IsPlain}
use Rattle.device_laws.proofs.Frames.{code_of_response}
use Rattle.client_laws.specs.Ready.{IsAmong, SessionsAreAmong, client_effect, ends_session, named_sessions, starts_session}
use Rattle.client_laws.proofs.Commands.{clients_command}
use Rattle.client_laws.proofs.Made.{closes_plain, error_fails}

-- ---- they are there

-- what holds of each session handle among some holds of those that are kept
kept_all : (P : ℕ → Type 0) (is : Bool) (handle : ℕ) (more : List ℕ) → (is ≡ true → P handle) → AllByRecursion P more
    → AllByRecursion P (if is then handle ∷ more else more)
kept_all P true handle more one all = (one refl, all)
kept_all P false handle more one all = all

no_transient : (handle : ℕ) (transient : Bool) → (octet_of handle == HT_TRANSIENT) ≡ transient → is_session_handle handle ≡ true → transient ≡ false
no_transient handle true is session =
    absurd (true≢false (sym session ∙ ap is_session_octet (eqb-true (octet_of handle) HT_TRANSIENT is)))
no_transient handle false is session = refl

there_by : (transient object session there : Bool) → (if transient then not object else if session then not there else false) ≡ false
    → transient ≡ false → session ≡ true → there ≡ true
there_by true object session there e other is = absurd cc
there_by false object true true e other is = refl
there_by false object true false e other is = absurd cc
there_by false object false there e other is = absurd cc

handle_there : (tables : Tables) (handle : ℕ) → is_missing tables handle ≡ false → is_session_handle handle ≡ true → tables.has_session handle ≡ true
handle_there tables handle e is =
    there_by (octet_of handle == HT_TRANSIENT) (tables.has_object handle) (is_session_handle handle) (tables.has_session handle) e
    (no_transient handle (octet_of handle == HT_TRANSIENT) refl is) is

-- no handle is missing
both_there : (one two : Bool) (first second : ℕ) → (if one then Some first else if two then Some second else None) ≡ None → (one ≡ false) × (two ≡ false)
both_there true two first second e = absurd cc
both_there false true first second e = absurd cc
both_there false false first second e = (refl, refl)

-- an authorization that isn't missing names a session that is there, where it names one
auth_by : (password session there : Bool) (value missing : ℕ) (next : Option ℕ)
    → (if password then next else if not session then Some value else if not there then Some missing else next) ≡ None → password ≡ false → session ≡ true
    → there ≡ true
auth_by true session there value missing next e other is = absurd cc
auth_by false false there value missing next e other is = absurd cc
auth_by false true true value missing next e other is = refl
auth_by false true false value missing next e other is = absurd cc

no_password : (handle : ℕ) (password : Bool) → (handle == RS_PW) ≡ password → is_session_handle handle ≡ true → password ≡ false
no_password handle true is session = absurd (true≢false (sym session ∙ ap is_session_handle (eqb-true handle RS_PW is)))
no_password handle false is session = refl

first_there : (tables : Tables) (count : ℕ) (auths : List Auth) → (count ≡ 0 → is_session_handle (get_or auths 0 no_auth).session ≡ false)
    → missing_session tables 0 (take count auths) ≡ None → is_session_handle (get_or auths 0 no_auth).session ≡ true
    → tables.has_session (get_or auths 0 no_auth).session ≡ true
first_there tables zero auths none e is = absurd (true≢false (sym is ∙ none refl))
first_there tables (suc count) [] none e is = absurd cc
first_there tables (suc count) (auth ∷ auths) none e is =
    auth_by (auth.session == RS_PW) (is_session_handle auth.session) (tables.has_session auth.session) (RC_VALUE + RC_S + RC_1 * 1) (RC_REFERENCE_S0 + 0)
    (missing_session tables 1 (take count auths)) e (no_password auth.session (auth.session == RS_PW) refl is) is

-- what stands in the place of the first authorization names no session, where there is none
no_first : (tables : Tables) (bytes : List ℕ) (a : Admitted) → client_admitted tables bytes ≡ Ok a → a.auths.count ≡ 0
    → is_session_handle (command_auth a.auths).session ≡ false
no_first tables bytes a e none =
    first_password tables bytes a (client_is tables bytes a e).whole (subst (λ (n : ℕ). ArePasswords (take n a.auths.auths)) (sym none) tt)

-- each session that a command names is there
record AreOwn (tables : Tables) (a : Admitted) : Type 0 where
  first : is_session_handle (get_or a.shape.handles 0 0) ≡ true → tables.has_session (get_or a.shape.handles 0 0) ≡ true
  second : is_session_handle (get_or a.shape.handles 1 0) ≡ true → tables.has_session (get_or a.shape.handles 1 0) ≡ true
  auth : is_session_handle (command_auth a.auths).session ≡ true → tables.has_session (command_auth a.auths).session ≡ true

own_sessions : (tables : Tables) (bytes : List ℕ) (a : Admitted) → client_admitted tables bytes ≡ Ok a → AreOwn tables a
own_sessions tables bytes a e =
    let first = get_or a.shape.handles 0 0 in
    let second = get_or a.shape.handles 1 0 in
    let own = own_handles tables bytes a (client_is tables bytes a e).whole in
    let there = both_there (is_missing tables first) (is_missing tables second) (RC_REFERENCE_H0 + 0) (RC_REFERENCE_H0 + 1) own.there.handles in
    record {
      first = handle_there tables first there.0;
      second = handle_there tables second there.1;
      auth = first_there tables a.auths.count a.auths.auths (no_first tables bytes a e) own.there.sessions;
    }

pub named_own : (tables : Tables) (bytes : List ℕ) (a : Admitted) → client_admitted tables bytes ≡ Ok a
    → AllByRecursion (λ handle. tables.has_session handle ≡ true) (named_sessions a)
named_own tables bytes a e =
    let P : ℕ → Type 0 = λ handle. tables.has_session handle ≡ true in
    let first = get_or a.shape.handles 0 0 in
    let second = get_or a.shape.handles 1 0 in
    let auth = (command_auth a.auths).session in
    let own = own_sessions tables bytes a e in
    kept_all P (is_session_handle first) first (filter is_session_handle (second ∷ auth ∷ [])) own.first
    (kept_all P (is_session_handle second) second (filter is_session_handle (auth ∷ [])) own.second
    (kept_all P (is_session_handle auth) auth [] own.auth tt))

-- ---- where a session starts, none is named

abbrev is_null : Kind → Bool
is_null sorts.Absent = false
is_null sorts.Owner = false
is_null sorts.Pcr = false
is_null sorts.Nv = false
is_null sorts.NvAuth = false
is_null sorts.Object = false
is_null sorts.Policy = false
is_null sorts.Entity = false
is_null sorts.Saved = false
is_null sorts.Null = true

abbrev are_null : List Kind → Bool
are_null [] = false
are_null (one ∷ []) = false
are_null (one ∷ two ∷ []) = is_null one && is_null two
are_null (one ∷ two ∷ third ∷ kinds) = false

-- StartAuthSession has two handles, which are null
abbrev is_start_null : CommandRow → Bool
is_start_null row = not (row.code == CC_START_AUTH_SESSION) || are_null row.handles

so_by : (start null : Bool) → (not start || null) ≡ true → start ≡ true → null ≡ true
so_by true null e is = e
so_by false null e is = absurd cc

null_handle : (kind : Kind) (handle : ℕ) → is_null kind ≡ true → is_of_kind kind handle ≡ true → is_session_handle handle ≡ false
null_handle sorts.Absent handle is fits = absurd cc
null_handle sorts.Owner handle is fits = absurd cc
null_handle sorts.Pcr handle is fits = absurd cc
null_handle sorts.Nv handle is fits = absurd cc
null_handle sorts.NvAuth handle is fits = absurd cc
null_handle sorts.Object handle is fits = absurd cc
null_handle sorts.Policy handle is fits = absurd cc
null_handle sorts.Entity handle is fits = absurd cc
null_handle sorts.Saved handle is fits = absurd cc
null_handle sorts.Null handle is fits = ap is_session_handle (eqb-true handle RH_NULL fits)

null_handles : (kinds : List Kind) (first second : ℕ) → are_null kinds ≡ true → are_of_kinds kinds (first ∷ second ∷ []) ≡ true
    → (is_session_handle first ≡ false) × (is_session_handle second ≡ false)
null_handles [] first second null are = absurd cc
null_handles (one ∷ []) first second null are = absurd cc
null_handles (one ∷ two ∷ []) first second null are =
    let kinds = and_parts (is_null one) (is_null two) null in
    let handles = and_parts (is_of_kind one first) (is_of_kind two second && true) are in (
      null_handle one first kinds.0 handles.0,
      null_handle two second kinds.1 (and_parts (is_of_kind two second) true handles.1).0,
    )
null_handles (one ∷ two ∷ third ∷ kinds) first second null are = absurd cc

-- no handle among some is kept
kept_none : (is : Bool) (handle : ℕ) (more : List ℕ) → is ≡ false → more ≡ [] → (if is then handle ∷ more else more) ≡ []
kept_none true handle more other none = absurd cc
kept_none false handle more other none = none

spare_by : (spare : Bool) (code : ℕ) → (if spare then Some code else None) ≡ None → spare ≡ false
spare_by true code e = absurd cc
spare_by false code e = refl

count_none : (authorized count code : ℕ) → (if nat_lt authorized count then Some code else None) ≡ None → authorized ≡ 0 → count ≡ 0
count_none authorized count code e none = omega (arith, ltb-false authorized count (spare_by (nat_lt authorized count) code e), none)

pub named_none : (tables : Tables) (bytes : List ℕ) (a : Admitted) → client_admitted tables bytes ≡ Ok a → starts_session a ≡ true → named_sessions a ≡ []
named_none tables bytes a e start =
    let first = get_or a.shape.handles 0 0 in
    let second = get_or a.shape.handles 1 0 in
    let auth = (command_auth a.auths).session in
    let whole = (client_is tables bytes a e).whole in
    let known = clients_command tables bytes a e in
    let null : are_null a.shape.row.handles ≡ true =
    so_by (a.shape.row.code == CC_START_AUTH_SESSION) (are_null a.shape.row.handles)
    (found_has is_start_null a.shape.row.code all_commands a.shape.row refl known.row) start in
    let two = (own_handles tables bytes a whole).two in
    let handles = null_handles a.shape.row.handles first second null (subst (λ (h : List ℕ). are_of_kinds a.shape.row.handles h ≡ true) two known.shape.kinds) in
    let none = count_none a.shape.row.authorized a.auths.count (RC_ATTRIBUTES + RC_S + RC_1 * (a.shape.row.authorized + 1))
    (passed tables bytes a whole).given.no_spare (known.starts start).1 in
    kept_none (is_session_handle first) first (filter is_session_handle (second ∷ auth ∷ [])) handles.0
    (kept_none (is_session_handle second) second (filter is_session_handle (auth ∷ [])) handles.1
    (kept_none (is_session_handle auth) auth [] (no_first tables bytes a e none) refl))

-- ---- an effect leaves no others

-- whether a session is one of these
abbrev IsNamed : List ℕ → ℕ → Type 0
IsNamed named handle = list_any (λ other. other == handle) named ≡ true

-- a session handle among some is among those that are kept
kept_here : (is : Bool) (handle : ℕ) (more : List ℕ) → is ≡ true → IsNamed (if is then handle ∷ more else more) handle
kept_here true handle more so = or_left (handle == handle) (list_any (λ other. other == handle) more) (eq-eqb handle handle refl)
kept_here false handle more so = absurd cc

kept_further : (is : Bool) (before handle : ℕ) (more : List ℕ) → IsNamed more handle → IsNamed (if is then before ∷ more else more) handle
kept_further true before handle more so = or_right (before == handle) (list_any (λ other. other == handle) more) so
kept_further false before handle more so = so

record AreNamed (a : Admitted) : Type 0 where
  first : is_session_handle (get_or a.shape.handles 0 0) ≡ true → IsNamed (named_sessions a) (get_or a.shape.handles 0 0)
  second : is_session_handle (get_or a.shape.handles 1 0) ≡ true → IsNamed (named_sessions a) (get_or a.shape.handles 1 0)
  auth : is_session_handle (command_auth a.auths).session ≡ true → IsNamed (named_sessions a) (command_auth a.auths).session

are_named : (a : Admitted) → AreNamed a
are_named a =
    let first = get_or a.shape.handles 0 0 in
    let second = get_or a.shape.handles 1 0 in
    let auth = (command_auth a.auths).session in
    let behind = filter is_session_handle (second ∷ auth ∷ []) in
    let last = filter is_session_handle (auth ∷ []) in
    record {
      first = λ is. kept_here (is_session_handle first) first behind is;
      second = λ is. kept_further (is_session_handle first) first second behind (kept_here (is_session_handle second) second last is);
      auth = λ is. kept_further (is_session_handle first) first auth behind
          (kept_further (is_session_handle second) second auth last (kept_here (is_session_handle auth) auth [] is));
    }

-- what a handle stands for
among_by : (named : List ℕ) (present transient session : Bool) (handle : ℕ) (object : Option Object) (found : Option Session)
    → (session ≡ true → IsNamed named handle)
    → IsAmong named (if not present then absent else if transient then object_operand handle object else if session then session_operand handle found else plain handle)
among_by named false transient session handle object found is = tt
among_by named true true session handle None found is = tt
among_by named true true session handle (Some o) found is = tt
among_by named true false true handle object None is = tt
among_by named true false true handle object (Some s) is = is refl
among_by named true false false handle object found is = tt

auth_among : (named : List ℕ) (session : Bool) (handle : ℕ) (found : Option Session) → (session ≡ true → IsNamed named handle)
    → IfSome (if session then with_handle handle found else None) (λ held. IsNamed named held.0)
auth_among named true handle None is = tt
auth_among named true handle (Some s) is = is refl
auth_among named false handle found is = tt

given_among : (client : ℕ) (state : ClientState) (a : Admitted) → SessionsAreAmong (named_sessions a) (client_operands client state a.shape a.auths)
given_among client state a =
    let first = get_or a.shape.handles 0 0 in
    let second = get_or a.shape.handles 1 0 in
    let auth = (command_auth a.auths).session in
    let named = named_sessions a in
    let are = are_named a in
    record {
      first = among_by named (is_present (get_or a.shape.row.handles 0 sorts.Absent)) (octet_of first == HT_TRANSIENT) (is_session_handle first) first
          (held_under state.objects first) (session_of state.sessions client first) are.first;
      second = among_by named (is_present (get_or a.shape.row.handles 1 sorts.Absent)) (octet_of second == HT_TRANSIENT) (is_session_handle second) second
          (held_under state.objects second) (session_of state.sessions client second) are.second;
      authorization = auth_among named (is_session_handle auth) auth (session_of state.sessions client auth) are.auth;
    }

-- what a command leaves has the handles that it had
among_with : (named : List ℕ) (s : Session) (operand : Operand) → IsAmong named operand → IsAmong named (with_session s operand)
among_with named s absent is = tt
among_with named s (plain handle) is = tt
among_with named s (an_object o) is = tt
among_with named s (a_session handle old) is = is

among_left : (named : List ℕ) (handles : List Operand) (policy : Option Session)
    → IsAmong named (operand_at handles 0) × IsAmong named (operand_at handles 1)
    → IsAmong named (operand_at (handles_left policy handles) 0) × IsAmong named (operand_at (handles_left policy handles) 1)
among_left named handles None are = are
among_left named handles (Some s) are = (among_with named s (operand_at handles 0) are.0, among_with named s (operand_at handles 1) are.1)

auth_left : (named : List ℕ) (held : Option (ℕ × Session)) (left : Option Session) → IfSome held (λ held. IsNamed named held.0)
    → IfSome (session_left held left) (λ held. IsNamed named held.0)
auth_left named None left is = tt
auth_left named (Some held) None is = is
auth_left named (Some held) (Some s) is = is

among_closed : (named : List ℕ) (persist : Persist) (operands : Operands) (shape : Shape) (auths : Auths) (done : RowOutcome) (closed : Result ResponseAuth ℕ)
    → SessionsAreAmong named operands → SessionsAreAmong named (effect_authorized persist operands shape auths done closed).operands
among_closed named persist operands shape auths done (Err code) are = are
among_closed named persist operands shape auths done (Ok closed) are =
    let left = among_left named operands.handles done.policy (are.first, are.second) in
    record { first = left.0; second = left.1; authorization = auth_left named operands.session closed.session are.authorization }

among_in : (named : List ℕ) (persist : Persist) (operands : Operands) (shape : Shape) (auths : Auths) (bytes : List ℕ) (row : Result RowOutcome ℕ)
    → SessionsAreAmong named operands → SessionsAreAmong named (effect_in persist operands shape auths bytes row).operands
among_in named persist operands shape auths bytes (Err code) are = are
among_in named persist operands shape auths bytes (Ok done) are =
    among_closed named persist operands shape auths done (response_auth_of persist operands shape auths bytes done) are

among_of : (named : List ℕ) (persist : Persist) (operands : Operands) (shape : Shape) (auths : Auths) (bytes : List ℕ)
    → SessionsAreAmong named operands → SessionsAreAmong named (effect_of persist operands shape auths bytes).operands
unfolding effect_of
among_of named persist operands shape auths bytes are =
    among_in named persist operands shape auths bytes (outcome_of persist operands shape auths bytes) are

pub left_among : (client : ℕ) (state : ClientState) (bytes : List ℕ) (a : Admitted)
    → SessionsAreAmong (named_sessions a) (client_effect client state a bytes).operands
left_among client state bytes a =
    among_of (named_sessions a) state.persist (client_operands client state a.shape a.auths) a.shape a.auths bytes (given_among client state a)

-- ---- the session of the authorization ends

-- the session of the authorization is there where it names one
some_by : (session : Bool) (handle : ℕ) (found : Option Session) → (session ≡ true → is_some found ≡ true)
    → is_some (if session then with_handle handle found else None) ≡ session
some_by true handle None there = there refl
some_by true handle (Some s) there = refl
some_by false handle found there = refl

ended_same : (success tag some session more : Bool) → success ≡ true → some ≡ session → (tag && some && more) ≡ (success && tag && session && more)
ended_same success tag some session more is same = rw (is, same) refl

not_ended : (success tag session more : Bool) → success ≡ false → false ≡ (success && tag && session && more)
not_ended success tag session more is = rw is refl

abbrev Ends : Admitted → Effect → Type 0
Ends a effect = effect.outcome.auth_ended ≡ ends_session a effect.reply

ends_failed : (a : Admitted) (code : ℕ) → IsPlain code → false ≡ ends_session a (error_reply code)
ends_failed a code plain_is =
    not_ended (code_of (error_reply code) == RC_SUCCESS) (a.shape.tag == ST_SESSIONS) (is_session_handle (command_auth a.auths).session)
    (not (continues (command_auth a.auths))) (error_fails code plain_is)

ends_closed : (persist : Persist) (operands : Operands) (a : Admitted) (done : RowOutcome) (closed : Result ResponseAuth ℕ)
    → is_some operands.session ≡ is_session_handle (command_auth a.auths).session → Fails IsPlain closed
    → Ends a (effect_authorized persist operands a.shape a.auths done closed)
ends_closed persist operands a done (Err code) some fails = ends_failed a code fails
ends_closed persist operands a done (Ok closed) some fails =
    let body = handle_area a.shape.row.response_handle ++ response_body a.shape.tag done.params closed.answer in
    let reply = response a.shape.tag RC_SUCCESS body in
    ended_same (code_of reply == RC_SUCCESS) (a.shape.tag == ST_SESSIONS) (is_some operands.session) (is_session_handle (command_auth a.auths).session)
    (not (continues (command_auth a.auths))) (eq-eqb (code_of reply) RC_SUCCESS (code_of_response a.shape.tag RC_SUCCESS body (omega arith))) some

ends_in : (persist : Persist) (operands : Operands) (a : Admitted) (bytes : List ℕ) (row : Result RowOutcome ℕ)
    → is_some operands.session ≡ is_session_handle (command_auth a.auths).session → Fails IsPlain row
    → Ends a (effect_in persist operands a.shape a.auths bytes row)
ends_in persist operands a bytes (Err code) some fails = ends_failed a code fails
ends_in persist operands a bytes (Ok done) some fails =
    ends_closed persist operands a done (response_auth_of persist operands a.shape a.auths bytes done) some
    (closes_plain persist operands a.shape a.auths bytes done)

ends_of : (persist : Persist) (operands : Operands) (a : Admitted) (bytes : List ℕ)
    → is_some operands.session ≡ is_session_handle (command_auth a.auths).session → Ends a (effect_of persist operands a.shape a.auths bytes)
unfolding effect_of
ends_of persist operands a bytes some =
    ends_in persist operands a bytes (outcome_of persist operands a.shape a.auths bytes) some (outcome_plain persist operands a.shape a.auths bytes)

pub authorization_ends : (client : ℕ) (state : ClientState) (bytes : List ℕ) (a : Admitted) → client_admitted (tables_of client state) bytes ≡ Ok a
    → (client_effect client state a bytes).outcome.auth_ended ≡ ends_session a (client_effect client state a bytes).reply
authorization_ends client state bytes a e =
    let auth = (command_auth a.auths).session in
    ends_of state.persist (client_operands client state a.shape a.auths) a bytes
    (some_by (is_session_handle auth) auth (session_of state.sessions client auth) (own_sessions (tables_of client state) bytes a e).auth)
