use Rattle.std.proofs.Common.{refl}
use Rattle.script_lines.proofs.LabelLemmas.{kept_none}
use Rattle.script_lines.proofs.labels.Labels.new.Goals as goal

pub invariant_of-result : goal.invariant_of-result
invariant_of-result c = rw c.new.ensures.items (kept_none _ (λ q. rw c.new-2.ensures.empty refl))
