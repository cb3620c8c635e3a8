use Rattle.device_laws.proofs.Listing.{loaded_are_listed, objects_are_listed, saved_are_listed}
use Rattle.device_laws.proofs.remains.remains_are_listed.Goals as goal

pub returns-clause-objects : goal.returns-clause-objects
returns-clause-objects c = objects_are_listed

pub returns-clause-loaded : goal.returns-clause-loaded
returns-clause-loaded c = loaded_are_listed

pub returns-clause-saved : goal.returns-clause-saved
returns-clause-saved c = saved_are_listed
