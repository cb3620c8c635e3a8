use Rattle.device_laws.proofs.AnswerForms.{takes_same}
use Rattle.device_laws.proofs.laws.two_commands_are_answered_by_what_is_held.Goals as goal

pub returns : goal.returns
returns c = takes_same
