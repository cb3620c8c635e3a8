use Rattle.std.proofs.Common.{◌<◌}
use Rattle.std.proofs.lemmas.List.Elements.{All-same}
use Rattle.tab_spec.specs.declared.TheConstants.{PCRS}
use Rattle.fx_pcr.proofs.Selected.{answered_within}
use Rattle.fx_pcr.proofs.read.answered_pcrs.Goals as goal

pub returns-in-Some-clause-known : goal.returns-in-Some-clause-known
returns-in-Some-clause-known c = All-same (λ pcr. pcr < PCRS) _ _ c.first_selected.ensures (answered_within c.in-Some.bits)
