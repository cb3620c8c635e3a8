use Rattle.client_laws.proofs.Made.{command_made}
use Rattle.client_laws.proofs.OverSlots.{command_full, command_run, command_taken}
use Rattle.client_laws.proofs.laws.clients_commands_run_over_slots.Goals as goal

pub returns-clause-full : goal.returns-clause-full
returns-clause-full c = command_full

pub returns-clause-run : goal.returns-clause-run
returns-clause-run c = command_run

pub returns-clause-taken : goal.returns-clause-taken
returns-clause-taken c = command_taken

pub returns-clause-made : goal.returns-clause-made
returns-clause-made c = command_made
