use Rattle.device_laws.proofs.ContextSteps.{object_flush_step, object_load_step, object_save_step}
use Rattle.device_laws.proofs.laws.objects_are_moved.Goals as goal

pub returns-clause-save : goal.returns-clause-save
returns-clause-save c = object_save_step

pub returns-clause-flush : goal.returns-clause-flush
returns-clause-flush c = object_flush_step

pub returns-clause-load : goal.returns-clause-load
returns-clause-load c = object_load_step
