use Rattle.tab_laws.proofs.Sessions.{session_again, session_read, session_spelling, session_small, session_short}
use Rattle.tab_laws.proofs.laws.sessions_are_read_back.Goals as goal

pub returns-clause-written : goal.returns-clause-written
returns-clause-written c = session_again

pub returns-clause-read : goal.returns-clause-read
returns-clause-read c = session_read

pub returns-clause-one_spelling : goal.returns-clause-one_spelling
returns-clause-one_spelling c = session_spelling

pub returns-clause-most : goal.returns-clause-most
returns-clause-most c = session_small

pub returns-clause-short : goal.returns-clause-short
returns-clause-short c = session_short
