use Rattle.tab_laws.proofs.OneSpelling.{selection_spelling}
use Rattle.tab_laws.proofs.ReadBack.{selection_again, selection_read}
use Rattle.tab_laws.proofs.laws.selections_are_read_back.Goals as goal

pub returns-clause-written : goal.returns-clause-written
returns-clause-written c = selection_again

pub returns-clause-read : goal.returns-clause-read
returns-clause-read c = selection_read

pub returns-clause-one_spelling : goal.returns-clause-one_spelling
returns-clause-one_spelling c = selection_spelling
