use Rattle.std.proofs.Common.{◌≡◌, ◌∙◌, ap, sym}
use Rattle.tab_spec.specs.Commands.{all_commands}
use Rattle.effect_spec.specs.Capabilities as capabilities
use Rattle.effect_spec.specs.Capabilities.{client_limits, list_of}
use Rattle.fx_capability.specs.Views.{asked_of, limits_of}
use Rattle.fx_capability.proofs.Others.{read_next}
use Rattle.fx_capability.proofs.get_capability.client_capability.Goals as goal

pub returns-then-put_own-clause-told : goal.returns-then-put_own-clause-told
returns-then-put_own-clause-told g c =
    let held = c.args.held.now in
    let asked = asked_of c.in-Ok.asked in
    let row = c.if-put_own.ensures.row in
    let limits : limits_of c.of_a_client.result ≡ client_limits c.args.most = c.of_a_client.ensures in (
      row.0,
      λ persist.
          read_next (capabilities.asked_of c.args.params.now) asked
          (list_of (client_limits c.args.most) all_commands persist (g.H.Holdings.objects held) (g.H.Holdings.sessions held) c.args.active) c.in-Ok.ensures
          ∙ ap (λ (l : capabilities.CapabilityLimits). list_of l all_commands persist (g.H.Holdings.objects held) (g.H.Holdings.sessions held) c.args.active asked) (sym limits)
          ∙ row.1 persist,
      row.2,
    )
