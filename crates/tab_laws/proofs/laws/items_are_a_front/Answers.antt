use Rattle.std.proofs.Common.{◌++◌, ap}
use Rattle.tab_spec.specs.Frame.{Frames, frames, left_of}
use Rattle.tab_laws.proofs.Cuts.{stream_goes_on}
use Rattle.tab_laws.proofs.laws.items_are_a_front.Goals as goal

pub returns : goal.returns
returns c = λ a b. ((frames (left_of a ++ b)).items, ap (λ (cut : Frames). cut.items) (stream_goes_on a b))
