use Rattle.tab_laws.proofs.OneSpelling.{public_spelling}
use Rattle.tab_laws.proofs.ReadBack.{public_again, public_read}
use Rattle.tab_laws.proofs.laws.public_areas_are_read_back.Goals as goal

pub returns-clause-written : goal.returns-clause-written
returns-clause-written c = public_again

pub returns-clause-read : goal.returns-clause-read
returns-clause-read c = public_read

pub returns-clause-one_spelling : goal.returns-clause-one_spelling
returns-clause-one_spelling c = public_spelling
