use Rattle.std.proofs.Common.{ap}
use Rattle.tab_spec.specs.Frame.{Frames}
use Rattle.tab_laws.proofs.Cuts.{stream_goes_on, left_goes_on, bad_stays}
use Rattle.tab_laws.proofs.laws.streams_go_on.Goals as goal

pub returns-clause-items : goal.returns-clause-items
returns-clause-items c = λ a b. ap (λ (cut : Frames). cut.items) (stream_goes_on a b)

pub returns-clause-ending : goal.returns-clause-ending
returns-clause-ending c = λ a b. ap (λ (cut : Frames). cut.ending) (stream_goes_on a b)

pub returns-clause-left : goal.returns-clause-left
returns-clause-left c = left_goes_on

pub returns-clause-bad : goal.returns-clause-bad
returns-clause-bad c = bad_stays
