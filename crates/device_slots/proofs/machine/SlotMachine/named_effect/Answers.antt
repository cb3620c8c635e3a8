use Rattle.std.proofs.Common.{◌≡◌, ◌∙◌, List, length, ap, sym, subst, arith}
use Rattle.std.specs.Prelude.{Option}
use Rattle.tab_values.specs.declared.object.Object.{Object}
use Rattle.std.specs.Vec.{with_items}
use Rattle.std.proofs.lemmas.List.{with_items_is}
use Rattle.effect_spec.specs.Effect.{Effect, HasHandle, effect_of}
use Rattle.effect_spec.specs.Operands as operands
use Rattle.effect_spec.specs.Operands.{operands_by}
use Rattle.fx_table.specs.Views.{created_of, operands_of}
use Rattle.device_laws.proofs.Outcomes.{made_has_handle}
use Rattle.device_laws.proofs.Seeds.{effect_seed}
use Rattle.device_spec.specs.Slots.{SlotState, SessionPlace, Step, made_by, sessions_left, slot_operands, effect_by}
use Rattle.device_slots.specs.declared.sessions.Place.{Place}
use Rattle.device_slots.specs.Views.{object_under, places_of, session_under, slots_of}
use Rattle.device_slots.proofs.machine.SlotMachine.named_effect.Goals as goal

pub put_made-requires : goal.put_made-requires
put_made-requires c =
    let room = made_has_handle c.self.inside.persist (operands_of c.operands-ops.result) c.args.shape.now c.args.auths.now c.args.command.now c.requires.shape in
    subst (λ (e : Effect). HasHandle e.outcome.created e.reply) (sym c.effect-made.ensures) room

pub invariant_of-self : goal.invariant_of-self
invariant_of-self c =
    let inside = c.self.inside in
    let whole : length c.put_sessions.new.places ≡ inside.sessions.len = omega arith in
    let same : c.effect-made.new.p.seed ≡ inside.persist.seed =
    ap (λ (e : Effect). e.persist.seed) c.effect-made.ensures
    ∙ effect_seed inside.persist (operands_of c.operands-ops.result) c.args.shape.now c.args.auths.now c.args.command.now in (
      c.self.invariant.0,
      omega (arith, ap length (with_items_is inside.sessions c.put_sessions.new.places whole), c.self.invariant.1),
      c.self.invariant.2 ∙ sym same,
      c.self.invariant.3,
    )

pub returns : goal.returns
returns c =
    let inside = c.self.inside in
    let made = c.effect-made.result in
    let reply = c.effect-made.new.reply in
    let left = operands_of c.effect-made.new.ops in
    let items : List Place = inside.sessions.items in
    let step : Step = (c.put_made.new.self, c.put_made.new.reply) in
    let slots : SlotState = record { started = inside.started; persist = inside.persist; numbers = inside.numbers; slots = slots_of inside.slots.items; sessions = places_of items; object_counter = inside.object_counter; counter = inside.counter } in
    let whole : length c.put_sessions.new.places ≡ inside.sessions.len = omega arith in
    let kept : places_of (with_items inside.sessions c.put_sessions.new.places).items ≡ sessions_left (places_of items) left made.auth_ended =
    ap places_of (with_items_is inside.sessions c.put_sessions.new.places whole) ∙ c.put_sessions.ensures
    ∙ ap (λ (ps : List Place). sessions_left (places_of ps) left made.auth_ended) c.deref_mut.ensures.value in
    let named : operands_of c.operands-ops.result ≡ slot_operands slots c.args.shape.now c.args.auths.now =
    c.operands-ops.ensures.value
    ∙ ap (λ (os : List (Option Object)). operands_by (object_under (slots_of os)) (session_under (places_of c.deref-2.result.now)) c.args.shape.now c.args.auths.now) c.deref.ensures.value
    ∙ ap (λ (ps : List Place). operands_by (object_under (slots_of inside.slots.items)) (session_under (places_of ps)) c.args.shape.now c.args.auths.now)
    c.deref-2.ensures.value in
    subst (λ (m : SlotState). step ≡ effect_by m (effect_of m.persist (slot_operands m c.args.shape.now c.args.auths.now) c.args.shape.now c.args.auths.now c.args.command.now)) c.self.view_is
    (c.put_made.ensures
    ∙ ap (λ (ps : List SessionPlace). made_by (record slots { persist = c.effect-made.new.p; sessions = ps }) (created_of made.created) reply) kept
    ∙ ap (effect_by slots) (c.effect-made.ensures
    ∙ ap (λ (o : operands.Operands). effect_of inside.persist o c.args.shape.now c.args.auths.now c.args.command.now) named))
