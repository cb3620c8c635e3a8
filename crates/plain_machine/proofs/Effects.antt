-- The step of a command, by what the call of its effect left.
use Rattle.std.proofs.Common.{◌≡◌, ℕ, true, false, List, drop, ◌∙◌, ap, sym, subst}
use Rattle.std.specs.Prelude.{◌==◌, Option, None}
use Rattle.tab_spec.specs.declared.TheConstants.{CC_START_AUTH_SESSION}
use Rattle.tab_spec.specs.declared.Shape.{Shape}
use Rattle.tab_spec.specs.declared.Auths.{Auths}
use Rattle.tab_spec.specs.Admission.{is_session_handle, object_too_many}
use Rattle.tab_spec.specs.Object.{Object}
use Rattle.tab_spec.specs.Shape.{IsShape}
use Rattle.effect_spec.specs.Effect.{Effect, effect_of}
use Rattle.effect_spec.specs.Operands.{Operands, command_auth, operands_by, sessions_after}
use Rattle.history_spec.specs.declared.Pick.{Pick}
use Rattle.history_spec.specs.Table.{held_under}
use Rattle.world_spec.specs.World.{ClientState, ClientStep, Owned, client_operands, effect_step, left_by, made_step, own_place, session_of, tables_of}
use Rattle.plain_machine.specs.Picks.{is_session, may_have, starts_session}
use Rattle.plain_machine.specs.Views.{HasPlaceForMade}
use Rattle.plain_machine.proofs.Made.{made_placed}
use Rattle.plain_machine.proofs.Running.{still_may}

-- what the call left is the effect of the client's command
abbrev pub IsLeft : ℕ → ClientState → Shape → Auths → List ℕ → Effect → Type 0
IsLeft client state shape auths bytes left =
    left ≡ effect_of state.persist (client_operands client state shape auths) shape auths bytes

-- what its handles stand for, where these are its objects and its sessions
pub names : (client : ℕ) (state : ClientState) (shape : Shape) (auths : Auths) (objects : List (Option Object))
    (sessions : List (Option Owned)) → objects ≡ state.objects → sessions ≡ state.sessions
    → operands_by (held_under objects) (session_of sessions client) shape auths ≡ client_operands client state shape auths
names client state shape auths objects sessions held owned =
    λ i. operands_by (held_under (held i)) (session_of (owned i) client) shape auths

pub left_is : (client : ℕ) (state : ClientState) (shape : Shape) (auths : Auths) (bytes : List ℕ) (operands : Operands) (left : Effect)
    → operands ≡ client_operands client state shape auths → left ≡ effect_of state.persist operands shape auths bytes
    → IsLeft client state shape auths bytes left
left_is client state shape auths bytes operands left named is =
    is ∙ ap (λ (o : Operands). effect_of state.persist o shape auths bytes) named

pub left_place : (client : ℕ) (state : ClientState) (shape : Shape) (auths : Auths) (bytes : List ℕ) (left : Effect)
    → IsLeft client state shape auths bytes left → IsShape shape → object_too_many (tables_of client state) shape bytes ≡ None
    → ((shape.row.code == CC_START_AUTH_SESSION) ≡ true → is_session_handle (command_auth auths).session ≡ false)
    → HasPlaceForMade left.outcome.created state.objects left.reply
left_place client state shape auths bytes left is shaped few bare =
    subst (λ (e : Effect). HasPlaceForMade e.outcome.created state.objects e.reply) (sym is)
    (made_placed client state shape auths bytes shaped few bare).place

pub left_pick : (client : ℕ) (state : ClientState) (shape : Shape) (auths : Auths) (bytes : List ℕ) (left : Effect) (pick : Pick)
    → IsLeft client state shape auths bytes left → IsShape shape → object_too_many (tables_of client state) shape bytes ≡ None
    → ((shape.row.code == CC_START_AUTH_SESSION) ≡ true → is_session_handle (command_auth auths).session ≡ false)
    → may_have (starts_session state.persist shape.row.code (drop auths.params bytes)) state.sessions pick ≡ true
    → may_have (is_session left.outcome.created)
    (sessions_after (own_place client) None state.sessions left.operands left.outcome.auth_ended) pick ≡ true
left_pick client state shape auths bytes left pick is shaped few bare may =
    ap (λ (e : Effect). may_have (is_session e.outcome.created)
    (sessions_after (own_place client) None state.sessions e.operands e.outcome.auth_ended) pick) is
    ∙ still_may client state shape auths bytes shaped few bare pick ∙ may

pub left_step : (client : ℕ) (state : ClientState) (shape : Shape) (auths : Auths) (bytes : List ℕ) (left : Effect) (pick : Pick)
    (step : Option ClientStep) → IsLeft client state shape auths bytes left
    → made_step client (left_by client state left) left.outcome.created left.reply pick ≡ step
    → effect_step client state (effect_of state.persist (client_operands client state shape auths) shape auths bytes) pick ≡ step
left_step client state shape auths bytes left pick step is made =
    ap (λ (e : Effect). effect_step client state e pick) (sym is) ∙ made
