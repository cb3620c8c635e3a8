use Rattle.std.proofs.Common.{◌≡◌, ◌∙◌, ap, sym}
use Rattle.effect_spec.specs.Effect.{Effect}
use Rattle.effect_spec.specs.Operands.{plain_operands}
use Rattle.device_laws.proofs.Seeds.{effect_seed}
use Rattle.device_slots.proofs.machine.SlotMachine.effect.Goals as goal

pub invariant_of-self : goal.invariant_of-self
invariant_of-self c =
    let inside = c.self.inside in
    let same : c.shared_effect.new.p.seed ≡ inside.persist.seed =
    ap (λ (e : Effect). e.persist.seed) c.shared_effect.ensures
    ∙ effect_seed inside.persist (plain_operands c.args.shape.now) c.args.shape.now c.args.auths.now c.args.command.now in
    (c.self.invariant.0, c.self.invariant.1, c.self.invariant.2 ∙ sym same, c.self.invariant.3)
