use Rattle.device_laws.proofs.Answering.{answers_rightly, clients_have_effects}
use Rattle.device_laws.proofs.laws.devices_answer_rightly.Goals as goal

pub returns-clause-rightly : goal.returns-clause-rightly
returns-clause-rightly c = answers_rightly

pub returns-clause-clients : goal.returns-clause-clients
returns-clause-clients c = clients_have_effects
