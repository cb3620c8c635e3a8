use Rattle.tab_laws.proofs.Cuts.{one_frame}
use Rattle.tab_laws.proofs.laws.one_frame_is_cut_whole.Goals as goal

pub returns : goal.returns
returns c = one_frame
