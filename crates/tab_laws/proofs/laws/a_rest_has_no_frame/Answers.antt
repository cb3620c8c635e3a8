use Rattle.tab_laws.proofs.Cuts.{left_nothing, left_frames, left_few}
use Rattle.tab_laws.proofs.laws.a_rest_has_no_frame.Goals as goal

pub returns-clause-same : goal.returns-clause-same
returns-clause-same c = left_nothing

pub returns-clause-none : goal.returns-clause-none
returns-clause-none c = left_frames

pub returns-clause-few : goal.returns-clause-few
returns-clause-few c = left_few
