-- Which step a command that was admitted is, and which pick it may have.
use Rattle.std.proofs.Common.{◌≡◌, ℕ, Bool, true, false, List, refl, ◌∙◌, ap, sym}
use Rattle.std.specs.Prelude.{Option, Some, None, is_some, Result, Ok, Err, is_ok, not, nat_le, set, drop, ◌==◌, ◌&&◌, ◌+◌, ◌*◌, ◌^◌, if◌then◌else◌}
use Rattle.tab_spec.specs.declared.TheConstants.{CC_CONTEXT_LOAD, CC_CONTEXT_SAVE, CC_FLUSH_CONTEXT, CC_GET_CAPABILITY, CC_START_AUTH_SESSION, RC_SESSION_HANDLES}
use Rattle.tab_spec.specs.declared.Shape.{Shape}
use Rattle.tab_spec.specs.declared.Auths.{Auths}
use Rattle.tab_spec.specs.declared.Admitted.{Admitted}
use Rattle.tab_spec.specs.Admission.{client_admitted, is_session_handle, object_too_many}
use Rattle.tab_spec.specs.Reply.{with_response_handle}
use Rattle.tab_spec.specs.Session.{kind_octet}
use Rattle.tab_spec.specs.Shape.{IsShape}
use Rattle.effect_spec.specs.Effect.{effect_of}
use Rattle.effect_spec.specs.Operands.{Created, command_auth, nothing, new_object, new_session, sessions_after}
use Rattle.effect_spec.specs.Sessions.{StartParameters, start_check, start_session_row}
use Rattle.history_spec.specs.declared.Pick.{Pick}
use Rattle.history_spec.specs.declared.Pick.TheVariants as picks
use Rattle.world_spec.specs.World.{ClientState, ClientStep, Owned, active, admitted_step, capability_step, choosing_nothing, client_capability, client_operands, client_step, effect_step, is_unused, left_by, load_parameters, load_step, made_step, own_place, refused_step, room_for, run_step, session_of, session_too_many, tables_of, unless_full}
use Rattle.history_spec.specs.Table.{held_under}
use Rattle.plain_machine.specs.Picks.{effect_run, is_nothing, is_session, lacks_number, may_have, starts_session}
use Rattle.plain_machine.proofs.Made.{made_placed}
use Rattle.plain_machine.proofs.Starting.{null_stand, row_is, sessions_same}

-- ---- picks

-- where no session is started, which sessions there are is all the same
none_started : (sessions other : List (Option Owned)) (pick : Pick) → may_have false sessions pick ≡ may_have false other pick
none_started sessions other picks.Nothing = refl
none_started sessions other (picks.Session number) = refl
none_started sessions other (picks.Sequence number) = refl

choosing : (step : ClientStep) (sessions : List (Option Owned)) (pick : Pick) → is_some (choosing_nothing step pick) ≡ may_have false sessions pick
choosing step sessions picks.Nothing = refl
choosing step sessions (picks.Session number) = refl
choosing step sessions (picks.Sequence number) = refl

-- with a pick there is no step of a command that leaves no choice
pub nothing_refused : (step : ClientStep) (pick : Pick) → is_nothing pick ≡ false → choosing_nothing step pick ≡ None
nothing_refused step picks.Nothing is = absurd cc
nothing_refused step (picks.Session number) is = refl
nothing_refused step (picks.Sequence number) is = refl

some_by : {S : Type 0} (test : Bool) (s : S) → is_some (if test then Some s else None) ≡ test
some_by true s = refl
some_by false s = refl

-- what was made has a step exactly where the command may have the pick
made_chosen : (client : ℕ) (state : ClientState) (created : Created) (reply : List ℕ) (pick : Pick)
    → is_some (made_step client state created reply pick) ≡ may_have (is_session created) state.sessions pick
made_chosen client state nothing reply pick = choosing (state, reply) state.sessions pick
made_chosen client state (new_object o) reply picks.Nothing = refl
made_chosen client state (new_object o) reply (picks.Session number) = refl
made_chosen client state (new_object o) reply (picks.Sequence number) = refl
made_chosen client state (new_session s) reply picks.Nothing = refl
made_chosen client state (new_session s) reply (picks.Session number) =
    let handle = kind_octet s.kind * 2 ^ 24 + number in
    some_by (is_unused state.sessions number)
    (record state { sessions = set state.sessions number (own_place client handle s) }, with_response_handle reply handle)
made_chosen client state (new_session s) reply (picks.Sequence number) = refl

-- ---- the sessions that an effect leaves

may_by : (start : Bool) (client : ℕ) (state : ClientState) (shape : Shape) (auths : Auths) (bytes : List ℕ) (ended starts : Bool) (pick : Pick)
    → IsShape shape → ((shape.row.code == CC_START_AUTH_SESSION) ≡ true → is_session_handle (command_auth auths).session ≡ false)
    → (shape.row.code == CC_START_AUTH_SESSION) ≡ start → (start ≡ false → starts ≡ false)
    → may_have starts (sessions_after (own_place client) None state.sessions
    (effect_of state.persist (client_operands client state shape auths) shape auths bytes).operands ended) pick
    ≡ may_have starts state.sessions pick
may_by true client state shape auths bytes ended starts pick is bare so other =
    ap (λ (sessions : List (Option Owned)). may_have starts sessions pick)
    (sessions_same client state.sessions state.persist (client_operands client state shape auths) shape auths bytes ended
    (null_stand (held_under state.objects) (session_of state.sessions client) shape auths is (row_is shape is so) (bare so)))
may_by false client state shape auths bytes ended starts pick is bare so other =
    let after = sessions_after (own_place client) None state.sessions
    (effect_of state.persist (client_operands client state shape auths) shape auths bytes).operands ended in
    ap (λ (b : Bool). may_have b after pick) (other refl) ∙ none_started after state.sessions pick
    ∙ sym (ap (λ (b : Bool). may_have b state.sessions pick) (other refl))

none_by : (start row : Bool) → start ≡ false → start && row ≡ false
none_by start row is = ap (λ (b : Bool). b && row) is

-- a pick is one that a command may have, once its effect is done, where it was one before
pub still_may : (client : ℕ) (state : ClientState) (shape : Shape) (auths : Auths) (bytes : List ℕ) → IsShape shape
    → object_too_many (tables_of client state) shape bytes ≡ None
    → ((shape.row.code == CC_START_AUTH_SESSION) ≡ true → is_session_handle (command_auth auths).session ≡ false)
    → (pick : Pick)
    → (let effect = effect_of state.persist (client_operands client state shape auths) shape auths bytes in
    may_have (is_session effect.outcome.created)
    (sessions_after (own_place client) None state.sessions effect.operands effect.outcome.auth_ended) pick
    ≡ may_have (starts_session state.persist shape.row.code (drop auths.params bytes)) state.sessions pick)
still_may client state shape auths bytes is few bare pick =
    let params = drop auths.params bytes in
    let starts = starts_session state.persist shape.row.code params in
    let effect = effect_of state.persist (client_operands client state shape auths) shape auths bytes in
    let after = sessions_after (own_place client) None state.sessions effect.operands effect.outcome.auth_ended in
    ap (λ (b : Bool). may_have b after pick) (made_placed client state shape auths bytes is few bare).session
    ∙ may_by (shape.row.code == CC_START_AUTH_SESSION) client state shape auths bytes effect.outcome.auth_ended starts pick is bare refl
    (none_by (shape.row.code == CC_START_AUTH_SESSION) (is_ok (start_session_row state.persist params)))

-- ---- the step of an effect alone

-- whether a command starts a session that has a number
abbrev pub is_started : ClientState → ℕ → List ℕ → Bool
is_started state code params = not (lacks_number state.most state.sessions code params) && starts_session state.persist code params

room_by : (start : Bool) (state : ClientState) (check : Result StartParameters ℕ) → (if start then session_too_many state check else None)
    ≡ (if start && is_ok check && nat_le state.most (active state.sessions) then Some RC_SESSION_HANDLES else None)
room_by false state check = refl
room_by true state (Err code) = refl
room_by true state (Ok beginning) = refl

room_is : (state : ClientState) (code : ℕ) (params : List ℕ)
    → room_for state code params ≡ (if lacks_number state.most state.sessions code params then Some RC_SESSION_HANDLES else None)
room_is state code params = room_by (code == CC_START_AUTH_SESSION) state (start_check params)

abbrev Step : Type 0
Step = Option ClientStep

full_runs : (client : ℕ) (state : ClientState) (shape : Shape) (auths : Auths) (command : List ℕ) (pick : Pick)
    → lacks_number state.most state.sessions shape.row.code (drop auths.params command) ≡ true
    → effect_run client state shape auths command pick ≡ choosing_nothing (refused_step state RC_SESSION_HANDLES) pick
full_runs client state shape auths command pick lacks =
    let code = shape.row.code in
    let params = drop auths.params command in
    let effect = effect_of state.persist (client_operands client state shape auths) shape auths command in
    let next : Pick → Step = effect_step client state effect in
    ap (λ (room : Option ℕ). unless_full state room next pick) (room_is state code params)
    ∙ ap (λ (b : Bool). unless_full state (if b then Some RC_SESSION_HANDLES else None) next pick) lacks

effect_runs : (client : ℕ) (state : ClientState) (shape : Shape) (auths : Auths) (command : List ℕ) (pick : Pick)
    → lacks_number state.most state.sessions shape.row.code (drop auths.params command) ≡ false
    → effect_run client state shape auths command pick
    ≡ effect_step client state (effect_of state.persist (client_operands client state shape auths) shape auths command) pick
effect_runs client state shape auths command pick lacks =
    let code = shape.row.code in
    let params = drop auths.params command in
    let effect = effect_of state.persist (client_operands client state shape auths) shape auths command in
    let next : Pick → Step = effect_step client state effect in
    ap (λ (room : Option ℕ). unless_full state room next pick) (room_is state code params)
    ∙ ap (λ (b : Bool). unless_full state (if b then Some RC_SESSION_HANDLES else None) next pick) lacks

-- ---- which picks such a command may have

runs_by : (lacks : Bool) (client : ℕ) (state : ClientState) (shape : Shape) (auths : Auths) (command : List ℕ) (pick : Pick) → IsShape shape
    → object_too_many (tables_of client state) shape command ≡ None
    → ((shape.row.code == CC_START_AUTH_SESSION) ≡ true → is_session_handle (command_auth auths).session ≡ false)
    → lacks_number state.most state.sessions shape.row.code (drop auths.params command) ≡ lacks
    → is_some (effect_run client state shape auths command pick)
    ≡ may_have (is_started state shape.row.code (drop auths.params command)) state.sessions pick
runs_by true client state shape auths command pick is few bare full =
    let params = drop auths.params command in
    let none : is_started state shape.row.code params ≡ false =
    ap (λ (b : Bool). not b && starts_session state.persist shape.row.code params) full in
    ap (λ (step : Step). is_some step) (full_runs client state shape auths command pick full)
    ∙ choosing (refused_step state RC_SESSION_HANDLES) state.sessions pick
    ∙ ap (λ (b : Bool). may_have b state.sessions pick) (sym none)
runs_by false client state shape auths command pick is few bare full =
    let params = drop auths.params command in
    let effect = effect_of state.persist (client_operands client state shape auths) shape auths command in
    let same : is_started state shape.row.code params ≡ starts_session state.persist shape.row.code params =
    ap (λ (b : Bool). not b && starts_session state.persist shape.row.code params) full in
    ap (λ (step : Step). is_some step) (effect_runs client state shape auths command pick full)
    ∙ made_chosen client (left_by client state effect) effect.outcome.created effect.reply pick
    ∙ still_may client state shape auths command is few bare pick
    ∙ ap (λ (b : Bool). may_have b state.sessions pick) (sym same)

pub runs_where : (client : ℕ) (state : ClientState) (shape : Shape) (auths : Auths) (command : List ℕ) (pick : Pick) → IsShape shape
    → object_too_many (tables_of client state) shape command ≡ None
    → ((shape.row.code == CC_START_AUTH_SESSION) ≡ true → is_session_handle (command_auth auths).session ≡ false)
    → is_some (effect_run client state shape auths command pick)
    ≡ may_have (is_started state shape.row.code (drop auths.params command)) state.sessions pick
runs_where client state shape auths command pick is few bare =
    runs_by (lacks_number state.most state.sessions shape.row.code (drop auths.params command)) client state shape auths command pick is few bare refl

-- a step is there or not
pub none_there : {S : Type 0} (step : Option S) → is_some step ≡ false → step ≡ None
none_there None is = refl
none_there (Some s) is = absurd cc

-- ---- what the calls tell of a pick

pub may_is : (state : ClientState) (code : ℕ) (params read : List ℕ) (pick : Pick) (sessions others : List (Option Owned)) (lacks starts may : Bool)
    → read ≡ params → sessions ≡ state.sessions → others ≡ state.sessions → lacks ≡ lacks_number state.most sessions code read
    → starts ≡ not lacks && starts_session state.persist code read → may ≡ may_have starts others pick
    → may ≡ may_have (is_started state code params) state.sessions pick
may_is state code params read pick sessions others lacks starts may same owned also lacks_is starts_is is =
    let lacking : lacks ≡ lacks_number state.most state.sessions code params = lacks_is ∙ (λ i. lacks_number state.most (owned i) code (same i)) in
    let starting : starts ≡ is_started state code params =
    starts_is ∙ (λ i. not (lacking i) && starts_session state.persist code (same i)) in
    is ∙ (λ i. may_have (starting i) (also i) pick)

-- ---- commands that have a step of their own

pub load_runs : (client : ℕ) (state : ClientState) (shape : Shape) (auths : Auths) (command : List ℕ) (pick : Pick) → shape.row.code ≡ CC_CONTEXT_LOAD
    → (let params = drop auths.params command in
    run_step client state shape auths command pick ≡ choosing_nothing (load_step client state params (load_parameters params)) pick)
load_runs client state shape auths command pick is =
    let flush : (shape.row.code == CC_FLUSH_CONTEXT) ≡ false = ap (λ (n : ℕ). n == CC_FLUSH_CONTEXT) is in
    let save : (shape.row.code == CC_CONTEXT_SAVE) ≡ false = ap (λ (n : ℕ). n == CC_CONTEXT_SAVE) is in
    let load : (shape.row.code == CC_CONTEXT_LOAD) ≡ true = ap (λ (n : ℕ). n == CC_CONTEXT_LOAD) is in
    rw (flush, save, load) refl

pub capability_runs : (client : ℕ) (state : ClientState) (shape : Shape) (auths : Auths) (command : List ℕ) (pick : Pick)
    → shape.row.code ≡ CC_GET_CAPABILITY
    → run_step client state shape auths command pick
    ≡ choosing_nothing (capability_step state (client_capability client state (drop auths.params command))) pick
capability_runs client state shape auths command pick is =
    let flush : (shape.row.code == CC_FLUSH_CONTEXT) ≡ false = ap (λ (n : ℕ). n == CC_FLUSH_CONTEXT) is in
    let save : (shape.row.code == CC_CONTEXT_SAVE) ≡ false = ap (λ (n : ℕ). n == CC_CONTEXT_SAVE) is in
    let load : (shape.row.code == CC_CONTEXT_LOAD) ≡ false = ap (λ (n : ℕ). n == CC_CONTEXT_LOAD) is in
    let asks : (shape.row.code == CC_GET_CAPABILITY) ≡ true = ap (λ (n : ℕ). n == CC_GET_CAPABILITY) is in
    rw (flush, save, load, asks) refl

-- ---- a command, whole

pub refused_runs : (client : ℕ) (state : ClientState) (command : List ℕ) (code : ℕ) (pick : Pick)
    → client_admitted (tables_of client state) command ≡ Err code
    → client_step client state command pick ≡ choosing_nothing (refused_step state code) pick
unfolding client_step
refused_runs client state command code pick is =
    ap (λ (admitted : Result Admitted ℕ). admitted_step client state admitted command pick) is

pub admitted_runs : (client : ℕ) (state : ClientState) (command : List ℕ) (a : Admitted) (pick : Pick)
    → client_admitted (tables_of client state) command ≡ Ok a
    → client_step client state command pick ≡ run_step client state a.shape a.auths command pick
unfolding client_step
admitted_runs client state command a pick is =
    ap (λ (admitted : Result Admitted ℕ). admitted_step client state admitted command pick) is
