use Rattle.std.proofs.Common.{refl}
use Rattle.tab_spec.specs.Frame.{frames_within}
use Rattle.script_spec.proofs.examples.pieces_make_calls.Goals as goal

pub returns-clause-by_turns : goal.returns-clause-by_turns
unfolding frames_within
returns-clause-by_turns c = refl

pub returns-clause-a_cancel : goal.returns-clause-a_cancel
unfolding frames_within
returns-clause-a_cancel c = refl

pub returns-clause-a_cut : goal.returns-clause-a_cut
unfolding frames_within
returns-clause-a_cut c = refl

pub returns-clause-two_at_once : goal.returns-clause-two_at_once
unfolding frames_within
returns-clause-two_at_once c = refl

pub returns-clause-a_rest : goal.returns-clause-a_rest
unfolding frames_within
returns-clause-a_rest c = refl
