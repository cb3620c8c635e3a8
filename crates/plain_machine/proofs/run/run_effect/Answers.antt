use Rattle.std.proofs.Common.{◌≡◌, ◌∙◌, List, Option, length, ap, sym, arith}
use Rattle.std.specs.Prelude.{None, Some}
use Rattle.std.specs.Vec.{with_items}
use Rattle.std.proofs.lemmas.List.{with_items_is}
use Rattle.effect_spec.specs.Effect.{Effect}
use Rattle.effect_spec.specs.Operands.{sessions_after}
use Rattle.fx_table.specs.Views.{effect_left, operands_of}
use Rattle.world_spec.specs.World.{ClientState, ClientStep, Owned, client_operands, made_step, own_place}
use Rattle.plain_machine.specs.Owners.{owners_of}
use Rattle.plain_machine.specs.Picks.{is_session, may_have}
use Rattle.plain_machine.specs.Views.{objects_of, state_of}
use Rattle.plain_machine.proofs.Effects.{IsLeft, left_is, left_pick, left_place, left_step, names}
use Rattle.plain_machine.proofs.run.run_effect.Goals as goal

pub put_made-requires-clause-place : goal.put_made-requires-clause-place
put_made-requires-clause-place c =
    let shape = c.args.admitted.now.shape in
    let auths = c.args.admitted.now.auths in
    let state : ClientState = state_of c.args.shared.now (objects_of c.args.places.now.items) in
    let named : operands_of c.operands-ops.result ≡ client_operands c.args.client state shape auths =
    c.operands-ops.ensures.value
    ∙ names c.args.client state shape auths (objects_of c.deref.result.now) (owners_of c.deref-2.result.now)
    (ap objects_of c.deref.ensures.value) (ap owners_of c.deref-2.ensures.value) in
    let left : Effect = effect_left c.effect-made.new.p c.effect-made.new.ops c.effect-made.result c.effect-made.new.reply in
    let is : IsLeft c.args.client state shape auths c.args.command.now left =
    left_is c.args.client state shape auths c.args.command.now (operands_of c.operands-ops.result) left named c.effect-made.ensures in
    left_place c.args.client state shape auths c.args.command.now left is c.requires.shape c.requires.few c.requires.bare

pub put_made-requires-clause-pick : goal.put_made-requires-clause-pick
put_made-requires-clause-pick c =
    let shape = c.args.admitted.now.shape in
    let auths = c.args.admitted.now.auths in
    let state : ClientState = state_of c.args.shared.now (objects_of c.args.places.now.items) in
    let named : operands_of c.operands-ops.result ≡ client_operands c.args.client state shape auths =
    c.operands-ops.ensures.value
    ∙ names c.args.client state shape auths (objects_of c.deref.result.now) (owners_of c.deref-2.result.now)
    (ap objects_of c.deref.ensures.value) (ap owners_of c.deref-2.ensures.value) in
    let left : Effect = effect_left c.effect-made.new.p c.effect-made.new.ops c.effect-made.result c.effect-made.new.reply in
    let is : IsLeft c.args.client state shape auths c.args.command.now left =
    left_is c.args.client state shape auths c.args.command.now (operands_of c.operands-ops.result) left named c.effect-made.ensures in
    let sessions = c.args.shared.now.sessions in
    let whole : length c.put_sessions.new.places ≡ sessions.len = omega arith in
    let after : List (Option Owned) → List (Option Owned) =
    λ before. sessions_after (own_place c.args.client) None before left.operands left.outcome.auth_ended in
    let kept : owners_of (with_items sessions c.put_sessions.new.places).items ≡ after state.sessions =
    ap owners_of (with_items_is sessions c.put_sessions.new.places whole) ∙ c.put_sessions.ensures
    ∙ ap (λ places. after (owners_of places)) c.deref_mut.ensures.value in
    ap (λ (owned : List (Option Owned)). may_have (is_session left.outcome.created) owned c.args.pick) kept
    ∙ left_pick c.args.client state shape auths c.args.command.now left c.args.pick is c.requires.shape c.requires.few c.requires.bare
    c.requires.pick

pub returns-clause-step : goal.returns-clause-step
returns-clause-step c =
    let shape = c.args.admitted.now.shape in
    let auths = c.args.admitted.now.auths in
    let state : ClientState = state_of c.args.shared.now (objects_of c.args.places.now.items) in
    let named : operands_of c.operands-ops.result ≡ client_operands c.args.client state shape auths =
    c.operands-ops.ensures.value
    ∙ names c.args.client state shape auths (objects_of c.deref.result.now) (owners_of c.deref-2.result.now)
    (ap objects_of c.deref.ensures.value) (ap owners_of c.deref-2.ensures.value) in
    let left : Effect = effect_left c.effect-made.new.p c.effect-made.new.ops c.effect-made.result c.effect-made.new.reply in
    let is : IsLeft c.args.client state shape auths c.args.command.now left =
    left_is c.args.client state shape auths c.args.command.now (operands_of c.operands-ops.result) left named c.effect-made.ensures in
    let sessions = c.args.shared.now.sessions in
    let whole : length c.put_sessions.new.places ≡ sessions.len = omega arith in
    let after : List (Option Owned) → List (Option Owned) =
    λ before. sessions_after (own_place c.args.client) None before left.operands left.outcome.auth_ended in
    let kept : owners_of (with_items sessions c.put_sessions.new.places).items ≡ after state.sessions =
    ap owners_of (with_items_is sessions c.put_sessions.new.places whole) ∙ c.put_sessions.ensures
    ∙ ap (λ places. after (owners_of places)) c.deref_mut.ensures.value in
    let step : Option ClientStep =
    Some (state_of c.put_made.new.shared (objects_of c.put_made.new.places.items), c.put_made.new.reply) in
    let made : List (Option Owned) → Option ClientStep =
    λ owned. made_step c.args.client (record state { persist = left.persist; sessions = owned }) left.outcome.created left.reply c.args.pick in
    left_step c.args.client state shape auths c.args.command.now left c.args.pick step is (sym (ap made kept) ∙ c.put_made.ensures.made)
