use Rattle.device_laws.proofs.Moves.{flush_taken, load_taken, save_taken}
use Rattle.device_laws.proofs.laws.moved_objects_are_taken.Goals as goal

pub returns-clause-save : goal.returns-clause-save
returns-clause-save c = save_taken

pub returns-clause-flush : goal.returns-clause-flush
returns-clause-flush c = flush_taken

pub returns-clause-load : goal.returns-clause-load
returns-clause-load c = load_taken
