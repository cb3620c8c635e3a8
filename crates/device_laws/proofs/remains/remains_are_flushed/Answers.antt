use Rattle.device_laws.proofs.Flushing.{first_is_flushed, remains_are_counted}
use Rattle.device_laws.proofs.remains.remains_are_flushed.Goals as goal

pub returns-clause-first : goal.returns-clause-first
returns-clause-first c = first_is_flushed

pub returns-clause-count : goal.returns-clause-count
returns-clause-count c = remains_are_counted
