use Rattle.tab_laws.proofs.Objects.{object_again, object_read, object_spelling, object_small, object_short}
use Rattle.tab_laws.proofs.laws.objects_are_read_back.Goals as goal

pub returns-clause-written : goal.returns-clause-written
returns-clause-written c = object_again

pub returns-clause-read : goal.returns-clause-read
returns-clause-read c = object_read

pub returns-clause-one_spelling : goal.returns-clause-one_spelling
returns-clause-one_spelling c = object_spelling

pub returns-clause-most : goal.returns-clause-most
returns-clause-most c = object_small

pub returns-clause-short : goal.returns-clause-short
returns-clause-short c = object_short
