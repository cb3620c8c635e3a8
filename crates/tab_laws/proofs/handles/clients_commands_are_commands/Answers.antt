use Rattle.tab_laws.proofs.Handled.{client_is, code_found, passed}
use Rattle.tab_laws.proofs.handles.clients_commands_are_commands.Goals as goal

pub returns-clause-whole : goal.returns-clause-whole
returns-clause-whole c = λ tables bytes a e. (client_is tables bytes a e).whole

pub returns-clause-other : goal.returns-clause-other
returns-clause-other c = λ tables bytes a e. (client_is tables bytes a e).other

pub returns-clause-code : goal.returns-clause-code
returns-clause-code c = λ tables bytes a e. code_found bytes a.shape.row (passed tables bytes a e).found
