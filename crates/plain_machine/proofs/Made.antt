-- What a command makes: an object by CreatePrimary and Load alone, a session by StartAuthSession alone. Their responses have a
-- handle.
use Rattle.std.proofs.Common.{◌≡◌, ◌≤◌, ◌∙◌, ℕ, Bool, true, false, true≢false, List, ◌++◌, length, drop, refl, sym, ap, subst, arith}
use Rattle.std.specs.Prelude.{Option, Some, None, Result, Ok, Err, is_ok, ◌==◌, ◌||◌, ◌&&◌, ◌∷◌, [], if◌then◌else◌}
use Rattle.std.proofs.lemmas.Bool.{eqb-true, cond_both, or_left, or_right}
use Rattle.tab_spec.specs.declared.TheConstants.{CC_CONTEXT_LOAD, CC_CREATE_PRIMARY, CC_LOAD, CC_START_AUTH_SESSION, RC_OBJECT_MEMORY, RC_SUCCESS}
use Rattle.tab_spec.specs.declared.contexts.TheConstants.{PROFILE_CONTEXTS}
use Rattle.tab_spec.specs.declared.Kind.TheVariants as kinds
use Rattle.tab_spec.specs.declared.Shape.{Shape}
use Rattle.tab_spec.specs.declared.Auths.{Auths}
use Rattle.tab_spec.specs.declared.CommandRow.{CommandRow}
use Rattle.tab_spec.specs.Commands.{row_of, command_row}
use Rattle.tab_spec.specs.Shape.{IsShape, loads_object}
use Rattle.tab_spec.specs.Admission.{is_session_handle, object_too_many, unless_fault}
use Rattle.tab_spec.specs.Reply.{response}
use Rattle.tab_spec.specs.Persist.{Persist}
use Rattle.tab_spec.specs.Object.{Object}
use Rattle.tab_spec.specs.Session.{Session}
use Rattle.effect_spec.specs.Nv.{undefined_index}
use Rattle.effect_spec.specs.Objects.{create_primary_row, load_row}
use Rattle.effect_spec.specs.Sessions.{start_session_row}
use Rattle.effect_spec.specs.SessionAuths.{ResponseAuth, operand_name}
use Rattle.effect_spec.specs.Operands.{Operand, Operands, Created, nothing, new_object, new_session, number_of, object_in, operand_at, policy_session_in, command_auth, named_session}
use Rattle.effect_spec.specs.Effect.{Effect, RowOutcome, effect_authorized, effect_of, effect_in, effect_row, response_auth_of, outcome_of, row_by, row_with, item_row, other_row, making_nothing, making_object, making_session, changing_policy, policy_row, handle_area, response_body, authorization_fault}
use Rattle.history_spec.specs.Table.{held_under, is_full}
use Rattle.world_spec.specs.World.{ClientState, client_operands, session_of, tables_of}
use Rattle.plain_machine.specs.Picks.{is_session, starts_session}
use Rattle.plain_machine.specs.Views.{HasPlaceForMade}
use Rattle.plain_machine.proofs.Starting.{closes, null_operands, null_stand, row_is, start_outcome, start_row}

abbrev is_maker : ℕ → Bool
is_maker code = code == CC_CREATE_PRIMARY || code == CC_LOAD

-- what is made by a command that starts a session, or does not
abbrev MadeBy : CommandRow → Bool → Created → Type 0
MadeBy row starts nothing = starts ≡ false
MadeBy row starts (new_object o) = (row.response_handle ≡ true) × (is_maker row.code ≡ true) × (starts ≡ false)
MadeBy row starts (new_session s) = (row.response_handle ≡ true) × (starts ≡ true)

abbrev Makes : CommandRow → Bool → Result RowOutcome ℕ → Type 0
Makes row starts (Err code) = starts ≡ false
Makes row starts (Ok done) = MadeBy row starts done.created

-- ---- the rows

makes_nothing : (row : CommandRow) (starts : Bool) (done : Result (Persist × List ℕ) ℕ) → starts ≡ false → Makes row starts (making_nothing done)
makes_nothing row starts (Err code) none = none
makes_nothing row starts (Ok done) none = none

makes_policy : (row : CommandRow) (starts : Bool) (persist : Persist) (done : Result (Session × List ℕ) ℕ) → starts ≡ false
    → Makes row starts (changing_policy persist done)
makes_policy row starts persist (Err code) none = none
makes_policy row starts persist (Ok done) none = none

makes_session : (row : CommandRow) (starts : Bool) (done : Result (Session × Persist × List ℕ) ℕ) → row.response_handle ≡ true → starts ≡ is_ok done
    → Makes row starts (making_session done)
makes_session row starts (Err code) has is = is
makes_session row starts (Ok done) has is = (has, is)

makes_object : (row : CommandRow) (starts : Bool) (persist : Persist) (done : Result (Object × List ℕ) ℕ) → row.response_handle ≡ true
    → is_maker row.code ≡ true → starts ≡ false → Makes row starts (making_object persist done)
makes_object row starts persist (Err code) has is none = none
makes_object row starts persist (Ok done) has is none = (has, is, none)

has_handle_as : (row known : CommandRow) (code : ℕ) → row_of code ≡ Some known → known.response_handle ≡ true → row_of row.code ≡ Some row → (row.code == code) ≡ true
    → row.response_handle ≡ true
has_handle_as row known code there has is so =
    let same : Some known ≡ Some row = sym there ∙ subst (λ c. row_of c ≡ Some row) (eqb-true row.code code so) is in
    let rows : known ≡ row = cc in
    sym (ap (λ (r : CommandRow). r.response_handle) rows) ∙ has

load_has_handle : (row : CommandRow) → row_of row.code ≡ Some row → (row.code == CC_LOAD) ≡ true → row.response_handle ≡ true
load_has_handle row is so = has_handle_as row (command_row CC_LOAD kinds.Object kinds.Absent 1 true) CC_LOAD refl refl is so

primary_has_handle : (row : CommandRow) → row_of row.code ≡ Some row → (row.code == CC_CREATE_PRIMARY) ≡ true → row.response_handle ≡ true
primary_has_handle row is so = has_handle_as row (command_row CC_CREATE_PRIMARY kinds.Owner kinds.Absent 1 true) CC_CREATE_PRIMARY refl refl is so

other_makes : (row : CommandRow) (starts : Bool) (persist : Persist) (first second : ℕ) (params : List ℕ) → row_of row.code ≡ Some row
    → (row.code == CC_START_AUTH_SESSION) ≡ false → starts ≡ false → Makes row starts (other_row row.code persist first second params)
other_makes row starts persist first second params is other none =
    cond_both (row.code == CC_CREATE_PRIMARY) (making_object persist (create_primary_row persist params)) _ (Makes row starts)
    (λ so. makes_object row starts persist (create_primary_row persist params) (primary_has_handle row is so)
    (or_left (row.code == CC_CREATE_PRIMARY) (row.code == CC_LOAD) so) none) (λ not.
    cond_both (row.code == CC_START_AUTH_SESSION) (making_session (start_session_row persist params))
    (making_nothing (row_with row.code persist first second params)) (Makes row starts)
    (λ so. absurd (true≢false (sym so ∙ other)))
    (λ not. makes_nothing row starts (row_with row.code persist first second params) none))

row_makes : (row : CommandRow) (starts : Bool) (persist : Persist) (operands : List Operand) (policy : Option Session) (item : Option Object)
    (params : List ℕ) → row_of row.code ≡ Some row → (row.code == CC_START_AUTH_SESSION) ≡ false → starts ≡ false
    → Makes row starts (row_by row.code persist operands policy item params)
row_makes row starts persist operands (Some s) item params is other none =
    makes_policy row starts persist (policy_row row.code persist s (operand_name persist (operand_at operands 0)) params) none
row_makes row starts persist operands None None params is other none =
    other_makes row starts persist (number_of (operand_at operands 0)) (number_of (operand_at operands 1)) params is other none
row_makes row starts persist operands None (Some item) params is other none =
    cond_both (row.code == CC_LOAD) (making_object persist (load_row item params)) (making_nothing (item_row row.code persist item params))
    (Makes row starts) (λ so. makes_object row starts persist (load_row item params) (load_has_handle row is so)
    (or_right (row.code == CC_CREATE_PRIMARY) (row.code == CC_LOAD) so) none)
    (λ not. makes_nothing row starts (item_row row.code persist item params) none)

faultless_makes : (row : CommandRow) (starts : Bool) (fault : Option ℕ) (done : Result RowOutcome ℕ) → starts ≡ false → Makes row starts done
    → Makes row starts (unless_fault fault done)
faultless_makes row starts None done none makes = makes
faultless_makes row starts (Some code) done none makes = none

outcome_makes : (persist : Persist) (operands : Operands) (shape : Shape) (auths : Auths) (bytes : List ℕ) (starts : Bool)
    → row_of shape.row.code ≡ Some shape.row → (shape.row.code == CC_START_AUTH_SESSION) ≡ false → starts ≡ false
    → Makes shape.row starts (outcome_of persist operands shape auths bytes)
outcome_makes persist operands shape auths bytes starts is other none =
    let first = operand_at operands.handles 0 in
    let second = operand_at operands.handles 1 in
    let params = drop auths.params bytes in
    let row = effect_row shape.row.code persist operands.handles params in
    let fault = authorization_fault persist operands shape auths bytes in
    let missing = undefined_index persist.nv 1 (number_of first ∷ number_of second ∷ []) in
    faultless_makes shape.row starts missing (unless_fault fault row) none
    (faultless_makes shape.row starts fault row none
    (row_makes shape.row starts persist operands.handles (policy_session_in operands.handles) (object_in first) params is other none))

-- ---- the place of what is made

-- there is a place for it, and it is a session where one is started
pub record Placed (objects : List (Option Object)) (starts : Bool) (created : Created) (reply : List ℕ) : Type 0 where
  pub place : HasPlaceForMade created objects reply
  pub session : is_session created ≡ starts

handle_first : (has_handle : Bool) (tag : ℕ) (body : List ℕ) → has_handle ≡ true → 14 ≤ length (response tag RC_SUCCESS (handle_area has_handle ++ body))
handle_first has_handle tag body has = rw has (omega arith)

place_by : (objects : List (Option Object)) (row : CommandRow) (starts : Bool) (created : Created) (tag : ℕ) (body : List ℕ)
    → (is_maker row.code ≡ true → is_full objects ≡ false) → MadeBy row starts created
    → Placed objects starts created (response tag RC_SUCCESS (handle_area row.response_handle ++ body))
place_by objects row starts nothing tag body room made = record { place = tt; session = sym made }
place_by objects row starts (new_object o) tag body room made =
    record { place = (room made.1, handle_first row.response_handle tag body made.0); session = sym made.2 }
place_by objects row starts (new_session s) tag body room made =
    record { place = handle_first row.response_handle tag body made.0; session = sym made.1 }

-- where a session starts, nothing fails
not_started : (starts : Bool) → (starts ≡ true → false ≡ true) → false ≡ starts
not_started true done = done refl
not_started false done = refl

place_closed : (objects : List (Option Object)) (persist : Persist) (operands : Operands) (shape : Shape) (auths : Auths) (starts : Bool) (done : RowOutcome)
    (closed : Result ResponseAuth ℕ) → (is_maker shape.row.code ≡ true → is_full objects ≡ false) → MadeBy shape.row starts done.created
    → (starts ≡ true → is_ok closed ≡ true)
    → Placed objects starts (effect_authorized persist operands shape auths done closed).outcome.created (effect_authorized persist operands shape auths done closed).reply
place_closed objects persist operands shape auths starts done (Err code) room made whole = record { place = tt; session = not_started starts whole }
place_closed objects persist operands shape auths starts done (Ok closed) room made whole =
    place_by objects shape.row starts done.created shape.tag (response_body shape.tag done.params closed.answer) room made

place_in : (objects : List (Option Object)) (persist : Persist) (operands : Operands) (shape : Shape) (auths : Auths) (bytes : List ℕ) (starts : Bool)
    (row : Result RowOutcome ℕ) → (is_maker shape.row.code ≡ true → is_full objects ≡ false) → Makes shape.row starts row
    → (starts ≡ true → named_session operands.session ≡ None)
    → Placed objects starts (effect_in persist operands shape auths bytes row).outcome.created (effect_in persist operands shape auths bytes row).reply
place_in objects persist operands shape auths bytes starts (Err code) room makes bare = record { place = tt; session = sym makes }
place_in objects persist operands shape auths bytes starts (Ok done) room makes bare =
    place_closed objects persist operands shape auths starts done (response_auth_of persist operands shape auths bytes done) room makes
    (λ so. closes persist operands shape auths bytes done (bare so))

free_by : (maker other full : Bool) → ◌≡◌ {A = Option ℕ} (if (maker || other) && full then Some RC_OBJECT_MEMORY else None) None → maker ≡ true
    → full ≡ false
free_by true other true few is = absurd cc
free_by true other false few is = refl
free_by false other full few is = absurd cc

abbrev pub Places : List (Option Object) → Bool → Effect → Type 0
Places objects starts effect = Placed objects starts effect.outcome.created effect.reply

not_true : (starts : Bool) → starts ≡ false → starts ≡ true → ⊥
not_true starts none so = true≢false (sym so ∙ none)

other_placed : (objects : List (Option Object)) (persist : Persist) (operands : Operands) (shape : Shape) (auths : Auths) (bytes : List ℕ)
    (starts : Bool) → IsShape shape → (is_maker shape.row.code ≡ true → is_full objects ≡ false)
    → (shape.row.code == CC_START_AUTH_SESSION) ≡ false → starts ≡ false → Places objects starts (effect_of persist operands shape auths bytes)
unfolding effect_of
other_placed objects persist operands shape auths bytes starts is room other none =
    place_in objects persist operands shape auths bytes starts (outcome_of persist operands shape auths bytes) room
    (outcome_makes persist operands shape auths bytes starts is.row other none) (λ so. absurd (not_true starts none so))

start_placed : (objects : List (Option Object)) (persist : Persist) (shape : Shape) (auths : Auths) (bytes : List ℕ) (starts : Bool)
    → (is_maker shape.row.code ≡ true → is_full objects ≡ false) → shape.row ≡ start_row
    → starts ≡ is_ok (start_session_row persist (drop auths.params bytes)) → Places objects starts (effect_of persist null_operands shape auths bytes)
unfolding effect_of
start_placed objects persist shape auths bytes starts room row started =
    let done = start_session_row persist (drop auths.params bytes) in
    let has : shape.row.response_handle ≡ true = ap (λ (r : CommandRow). r.response_handle) row in
    place_in objects persist null_operands shape auths bytes starts (outcome_of persist null_operands shape auths bytes) room
    (subst (λ (outcome : Result RowOutcome ℕ). Makes shape.row starts outcome) (sym (start_outcome persist shape auths bytes row))
    (makes_session shape.row starts done has started)) (λ so. refl)

placed_by : (start : Bool) (client : ℕ) (state : ClientState) (shape : Shape) (auths : Auths) (bytes : List ℕ) (starts : Bool) → IsShape shape
    → (is_maker shape.row.code ≡ true → is_full state.objects ≡ false)
    → ((shape.row.code == CC_START_AUTH_SESSION) ≡ true → is_session_handle (command_auth auths).session ≡ false)
    → (shape.row.code == CC_START_AUTH_SESSION) ≡ start → starts ≡ start && is_ok (start_session_row state.persist (drop auths.params bytes))
    → Places state.objects starts (effect_of state.persist (client_operands client state shape auths) shape auths bytes)
placed_by true client state shape auths bytes starts is room bare so started =
    let row = row_is shape is so in
    let null : client_operands client state shape auths ≡ null_operands =
    null_stand (held_under state.objects) (session_of state.sessions client) shape auths is row (bare so) in
    subst (λ (o : Operands). Places state.objects starts (effect_of state.persist o shape auths bytes)) (sym null)
    (start_placed state.objects state.persist shape auths bytes starts room row started)
placed_by false client state shape auths bytes starts is room bare other started =
    other_placed state.objects state.persist (client_operands client state shape auths) shape auths bytes starts is room other started

-- the effect of a client's command
pub made_placed : (client : ℕ) (state : ClientState) (shape : Shape) (auths : Auths) (bytes : List ℕ) → IsShape shape
    → object_too_many (tables_of client state) shape bytes ≡ None
    → ((shape.row.code == CC_START_AUTH_SESSION) ≡ true → is_session_handle (command_auth auths).session ≡ false)
    → Places state.objects (starts_session state.persist shape.row.code (drop auths.params bytes))
    (effect_of state.persist (client_operands client state shape auths) shape auths bytes)
made_placed client state shape auths bytes is few bare =
    placed_by (shape.row.code == CC_START_AUTH_SESSION) client state shape auths bytes
    (starts_session state.persist shape.row.code (drop auths.params bytes)) is
    (free_by (is_maker shape.row.code) (shape.row.code == CC_CONTEXT_LOAD && loads_object PROFILE_CONTEXTS bytes) (is_full state.objects) few) bare refl refl
