use Rattle.std.proofs.Common.{refl}
use Rattle.tab_spec.specs.Frame.{frames_within}
use Rattle.script_spec.proofs.examples.bad_sizes_and_closes_end_labels.Goals as goal

pub returns-clause-bad : goal.returns-clause-bad
unfolding frames_within
returns-clause-bad c = refl

pub returns-clause-closed : goal.returns-clause-closed
unfolding frames_within
returns-clause-closed c = refl

pub returns-clause-not_open : goal.returns-clause-not_open
unfolding frames_within
returns-clause-not_open c = refl
