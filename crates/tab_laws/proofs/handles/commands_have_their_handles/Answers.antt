use Rattle.tab_laws.proofs.OwnHandles.{other_first, own_handles}
use Rattle.tab_laws.proofs.handles.commands_have_their_handles.Goals as goal

pub returns-clause-two : goal.returns-clause-two
returns-clause-two c = λ tables bytes a e. (own_handles tables bytes a e).two

pub returns-clause-are : goal.returns-clause-are
returns-clause-are c = λ tables bytes a e. (own_handles tables bytes a e).are

pub returns-clause-there : goal.returns-clause-there
returns-clause-there c = λ tables bytes a e. (own_handles tables bytes a e).there

pub returns-clause-same : goal.returns-clause-same
returns-clause-same c = λ tables bytes a e. (own_handles tables bytes a e).same

pub returns-clause-first : goal.returns-clause-first
returns-clause-first c = other_first
