use Rattle.std.proofs.Common.{refl}
use Rattle.tab_spec.specs.Frame.{frames_within}
use Rattle.script_spec.proofs.examples.cancels_are_about_commands_of_their_piece.Goals as goal

pub returns-clause-between : goal.returns-clause-between
unfolding frames_within
returns-clause-between c = refl

pub returns-clause-behind : goal.returns-clause-behind
unfolding frames_within
returns-clause-behind c = refl

pub returns-clause-cut : goal.returns-clause-cut
unfolding frames_within
returns-clause-cut c = refl

pub returns-clause-late : goal.returns-clause-late
unfolding frames_within
returns-clause-late c = refl

pub returns-clause-last : goal.returns-clause-last
unfolding frames_within
returns-clause-last c = refl

pub returns-clause-other : goal.returns-clause-other
unfolding frames_within
returns-clause-other c = refl
