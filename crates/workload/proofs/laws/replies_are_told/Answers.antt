use Rattle.workload.proofs.Telling.{calls_are_told}
use Rattle.workload.proofs.laws.replies_are_told.Goals as goal

pub returns : goal.returns
returns c = λ limit before after calls plays bytes. calls_are_told limit calls before after plays bytes
