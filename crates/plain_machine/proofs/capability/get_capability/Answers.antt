use Rattle.std.proofs.Common.{◌≡◌, ◌∙◌, ℕ, List, Option, Ok, ap, sym}
use Rattle.tab_spec.specs.declared.TheConstants.{RC_SUCCESS, ST_NO_SESSIONS, TRANSIENT_FIRST}
use Rattle.tab_spec.specs.Commands.{all_commands}
use Rattle.tab_laws.proofs.Responses.{response_ended}
use Rattle.effect_spec.specs.Capabilities.{CapabilityLimits, capability_of, transient_from}
use Rattle.fx_capability.specs.Views.{limits_of}
use Rattle.world_spec.specs.World.{ClientState, active, client_capability, listed_sessions}
use Rattle.plain_machine.specs.declared.sessions.Owned.{Owned}
use Rattle.plain_machine.specs.Owners.{owners_of}
use Rattle.plain_machine.specs.Views.{objects_of, state_of}
use Rattle.plain_machine.proofs.Telling.{capability_told}
use Rattle.plain_machine.proofs.capability.get_capability.Goals as goal

pub returns-in-Ok-clause-ran : goal.returns-in-Ok-clause-ran
returns-in-Ok-clause-ran c =
    let client = c.args.client in
    let bytes = c.args.params.now in
    let state : ClientState = state_of c.args.shared.now (objects_of c.args.places.now) in
    let handles = transient_from TRANSIENT_FIRST state.objects in
    let (params, is, appended) = c.in-Ok.ensures.row in
    let limits = c.of_a_client-limits.result in
    let count = c.active_count-active.result in
    let counted : count ≡ active state.sessions =
    c.active_count-active.ensures.count
    ∙ ap (λ (places : List (Option Owned)). active (owners_of places)) c.deref-2.ensures.value in
    let row : client_capability client state bytes ≡ Ok params =
    ap (λ (l : CapabilityLimits).
    capability_of l all_commands state.persist handles
    (listed_sessions client 0 state.sessions) (active state.sessions) bytes)
    (sym c.of_a_client-limits.ensures)
    ∙ ap (λ (n : ℕ).
    capability_of (limits_of limits) all_commands state.persist handles
    (listed_sessions client 0 state.sessions) n bytes)
    (sym counted)
    ∙ ap (λ (places : List (Option Owned)).
    capability_of (limits_of limits) all_commands state.persist handles
    (listed_sessions client 0 (owners_of places)) count bytes)
    (sym c.deref.ensures.value)
    ∙ is in
    let whole =
    response_ended ST_NO_SESSIONS RC_SUCCESS c.start_response.new.reply params
    c.capability.new.reply c.end_response.new.reply
    c.start_response.ensures appended c.end_response.ensures in
    capability_told state (client_capability client state bytes) c.args.pick params
    c.end_response.new.reply (sym c.if-not-is_nothing.ensures) row whole
