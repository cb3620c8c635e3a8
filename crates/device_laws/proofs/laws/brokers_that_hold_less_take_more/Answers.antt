use Rattle.device_laws.proofs.AnswerForms.{takes_more}
use Rattle.device_laws.proofs.laws.brokers_that_hold_less_take_more.Goals as goal

pub returns : goal.returns
returns c = takes_more
