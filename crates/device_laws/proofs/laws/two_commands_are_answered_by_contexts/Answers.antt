use Rattle.device_laws.proofs.AnswerForms.{takes_of_any}
use Rattle.device_laws.proofs.laws.two_commands_are_answered_by_contexts.Goals as goal

pub returns : goal.returns
returns c = takes_of_any
