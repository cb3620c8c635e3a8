use Rattle.std.proofs.Common.{◌∙◌, [], ap, arith, inr, refl, sym}
use Rattle.std.specs.Prelude.{is_some}
use Rattle.session_swap.specs.Items.{no_items}
use Rattle.tab_spec.specs.declared.contexts.ContextLimits.{ContextLimits}
use Rattle.broker_core.proofs.Beginning.{attempted, holds_begun, limit_most}
use Rattle.broker_core.proofs.broker.Broker.begin.Goals as goal

pub invariant_of-result : goal.invariant_of-result
invariant_of-result g c =
    let started = c.in-Ok-start.ensures in
    let same = g.met.D.Device.told_together c.args.device ∙ ap is_some (sym started.attempts.base) ∙ sym (g.met.D.Device.told_together c.start.new.device) in
    rw (c.in-Ok.ensures.empty, c.new-7.ensures.items, c.new-7.ensures.lists, c.new-7.ensures.present) (
      holds_begun _ _ _ _ _ _ c.in-Ok-start.numbers same c.requires.at_base started.cleared started.attempts.base
          (omega (arith, c.fault_count-began.ensures, started.attempts.count))
          started.answered
          (omega (arith, c.in-Ok.ensures.limit, limit_most _ c.requires.limit)) started.range started.own
          (c.in-Ok-new-4.ensures
          ∙ ap (λ (read : ContextLimits). record { items = []; slots = c.in-Ok-start.numbers.slots; order = []; owners = []; left = []; contexts = read }) c.CONTEXTS.ensures)
          (c.in-Ok-new-5.ensures
          ∙ ap (λ (read : ContextLimits). record { numbers = c.in-Ok-start.numbers; items = no_items; next = 0; order = []; saved = []; left = []; contexts = read }) c.CONTEXTS-2.ensures),
      refl,
    )

pub returns-clause-keeps : goal.returns-clause-keeps
returns-clause-keeps g c =
    let told = g.met.D.Device.told_together in
    (attempted g.D.Device.seen c.args.device c.start.new.device (told c.args.device) (told c.start.new.device) c.in-Ok-start.ensures.attempts).0

-- memory lacks when the device was started
pub returns-in_default-new-4-clause-cause : goal.returns-in_default-new-4-clause-cause
returns-in_default-new-4-clause-cause g c = let started = c.in-Ok-start.ensures in inr (c.in-Ok-start.numbers, started.started, started.range, started.cleared)

pub returns-in_default-new-4-clause-keeps_err : goal.returns-in_default-new-4-clause-keeps_err
returns-in_default-new-4-clause-keeps_err g c =
    let told = g.met.D.Device.told_together in
    attempted g.D.Device.seen c.args.device c.start.new.device (told c.args.device) (told c.start.new.device) c.in-Ok-start.ensures.attempts

pub returns-in_default-new-5-clause-cause : goal.returns-in_default-new-5-clause-cause
returns-in_default-new-5-clause-cause g c = let started = c.in-Ok-start.ensures in inr (c.in-Ok-start.numbers, started.started, started.range, started.cleared)

pub returns-in_default-new-5-clause-keeps_err : goal.returns-in_default-new-5-clause-keeps_err
returns-in_default-new-5-clause-keeps_err g c =
    let told = g.met.D.Device.told_together in
    attempted g.D.Device.seen c.args.device c.start.new.device (told c.args.device) (told c.start.new.device) c.in-Ok-start.ensures.attempts
