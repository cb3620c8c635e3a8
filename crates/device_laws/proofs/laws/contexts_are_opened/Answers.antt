use Rattle.device_laws.proofs.Contexts.{object_opened, object_context_small, opened_is, opened_spelling}
use Rattle.device_laws.proofs.laws.contexts_are_opened.Goals as goal

pub returns-clause-object : goal.returns-clause-object
returns-clause-object c = object_opened

pub returns-clause-most : goal.returns-clause-most
returns-clause-most c = object_context_small

pub returns-clause-sound : goal.returns-clause-sound
returns-clause-sound c = opened_is

pub returns-clause-one_spelling : goal.returns-clause-one_spelling
returns-clause-one_spelling c = opened_spelling
