use Rattle.tab_laws.proofs.Handled.{client_is}
use Rattle.client_laws.proofs.Commands.{clients_command, command_frame, command_makes, command_object, command_sent_code, command_session}
use Rattle.client_laws.proofs.laws.clients_commands_go_over_other_handles.Goals as goal

pub returns-clause-frame : goal.returns-clause-frame
returns-clause-frame c = command_frame

pub returns-clause-second : goal.returns-clause-second
returns-clause-second c = λ tables bytes a e. (clients_command tables bytes a e).second

pub returns-clause-known : goal.returns-clause-known
returns-clause-known c = λ tables bytes a e. (client_is tables bytes a e).other

pub returns-clause-row : goal.returns-clause-row
returns-clause-row c = λ tables bytes a e. (clients_command tables bytes a e).row

pub returns-clause-code : goal.returns-clause-code
returns-clause-code c = λ tables bytes a e. (clients_command tables bytes a e).code

pub returns-clause-sent_code : goal.returns-clause-sent_code
returns-clause-sent_code c = command_sent_code

pub returns-clause-one_object : goal.returns-clause-one_object
returns-clause-one_object c = command_makes

pub returns-clause-object_fits : goal.returns-clause-object_fits
returns-clause-object_fits c = command_object

pub returns-clause-session_fits : goal.returns-clause-session_fits
returns-clause-session_fits c = command_session
