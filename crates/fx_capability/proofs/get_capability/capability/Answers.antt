use Rattle.std.proofs.Common.{◌∙◌}
use Rattle.tab_spec.specs.Commands.{all_commands}
use Rattle.effect_spec.specs.Capabilities as capabilities
use Rattle.effect_spec.specs.Capabilities.{list_of}
use Rattle.fx_capability.specs.Views.{asked_of, limits_of}
use Rattle.fx_capability.proofs.Others.{read_next}
use Rattle.fx_capability.proofs.get_capability.capability.Goals as goal

pub returns-then-put_own-clause-row : goal.returns-then-put_own-clause-row
returns-then-put_own-clause-row g c =
    let held = c.args.held.now in
    let row = c.if-put_own.ensures.row in (
      row.0,
      read_next (capabilities.asked_of c.args.params.now) (asked_of c.in_ok-asked.asked)
          (list_of (limits_of c.args.limits.now) all_commands c.args.p.now (g.H.Holdings.objects held) (g.H.Holdings.sessions held) c.args.active) c.in_ok-asked.ensures
          ∙ row.1 c.args.p.now,
      row.2,
    )
