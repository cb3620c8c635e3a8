use Rattle.std.proofs.Common.{refl}
use Rattle.tab_spec.specs.Frame.{frames_within}
use Rattle.tab_examples.proofs.streams_are_cut_into_frames.Goals as goal

pub returns-clause-nothing : goal.returns-clause-nothing
unfolding frames_within
returns-clause-nothing c = refl

pub returns-clause-two : goal.returns-clause-two
unfolding frames_within
returns-clause-two c = refl

pub returns-clause-a_cancel_between : goal.returns-clause-a_cancel_between
unfolding frames_within
returns-clause-a_cancel_between c = refl

pub returns-clause-two_bytes_short : goal.returns-clause-two_bytes_short
unfolding frames_within
returns-clause-two_bytes_short c = refl

pub returns-clause-no_size : goal.returns-clause-no_size
unfolding frames_within
returns-clause-no_size c = refl
