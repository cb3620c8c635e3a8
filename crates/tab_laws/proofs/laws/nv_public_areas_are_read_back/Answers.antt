use Rattle.tab_laws.proofs.OneSpelling.{nv_public_spelling}
use Rattle.tab_laws.proofs.ReadBack.{nv_public_again, nv_public_read}
use Rattle.tab_laws.proofs.laws.nv_public_areas_are_read_back.Goals as goal

pub returns-clause-written : goal.returns-clause-written
returns-clause-written c = nv_public_again

pub returns-clause-read : goal.returns-clause-read
returns-clause-read c = nv_public_read

pub returns-clause-one_spelling : goal.returns-clause-one_spelling
returns-clause-one_spelling c = nv_public_spelling
