use Rattle.std.proofs.Common.{◌∙◌}
use Rattle.script_lines.proofs.LabelLemmas.{client_seen}
use Rattle.script_lines.proofs.labels.Labels.client.Goals as goal

pub returns : goal.returns
returns c = c.copied.ensures ∙ c.get.ensures.value ∙ client_seen c.self.inside.items.items c.self.inside.first _ c.self.invariant c.args.self.now c.self.view_is c.args.label
