use Rattle.std.proofs.Common.{◌≡◌, ◌∙◌, ℕ, List, ap, sym}
use Rattle.std.specs.Result.{is_err}
use Rattle.tab_spec.specs.declared.TheConstants.{RC_SUCCESS, ST_NO_SESSIONS}
use Rattle.tab_spec.specs.Reply.{response}
use Rattle.tab_laws.proofs.Outcomes.{from_ok}
use Rattle.tab_laws.proofs.Responses.{response_ended}
use Rattle.effect_spec.specs.Contexts.{object_context}
use Rattle.tab_values.specs.Views.{object_of}
use Rattle.history_spec.specs.Table.{held_under}
use Rattle.world_spec.specs.World.{ClientState}
use Rattle.plain_machine.specs.Views.{objects_of, state_of}
use Rattle.plain_machine.proofs.Handing.{object_hands}
use Rattle.plain_machine.proofs.contexts.hand_object.Goals as goal

pub returns-clause-ran : goal.returns-clause-ran
returns-clause-ran c =
    let state : ClientState = state_of c.args.shared.now (objects_of c.args.places.now) in
    let o = object_of c.in-Some.object.now in
    let sequence = c.args.sequence in
    let reply = c.end_response.new.reply in
    let whole : reply ≡ response ST_NO_SESSIONS RC_SUCCESS (object_context state.persist.seed sequence o) =
    response_ended ST_NO_SESSIONS RC_SUCCESS c.start_response.new.reply (object_context c.new-keys.result sequence o) c.seal_object.new.out reply
    c.start_response.ensures (from_ok c.seal_object.result _ c.seal_object.ensures.ok (ap is_err c.unwrap.ensures)) c.end_response.ensures
    ∙ ap (λ (seed : List ℕ). response ST_NO_SESSIONS RC_SUCCESS (object_context seed sequence o)) (c.new-keys.ensures ∙ c.seed.ensures) in
    object_hands state (held_under state.objects c.args.handle) sequence o reply c.in-Some.ensures (sym c.if-not-may_hand_out.ensures.may) whole
