use Rattle.tab_laws.proofs.Cuts.{frame_before, left_before}
use Rattle.tab_laws.proofs.laws.a_frame_comes_first.Goals as goal

pub returns-clause-items : goal.returns-clause-items
returns-clause-items c = frame_before

pub returns-clause-left : goal.returns-clause-left
returns-clause-left c = left_before
