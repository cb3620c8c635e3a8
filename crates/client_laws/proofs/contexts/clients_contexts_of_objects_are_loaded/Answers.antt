use Rattle.std.proofs.Common.{drop}
use Rattle.device_laws.proofs.Contexts.{opened_is}
use Rattle.client_laws.proofs.Loading.{load_opened, load_opened_plain, load_refused, load_refused_plain, load_taken, load_taken_kept}
use Rattle.client_laws.proofs.contexts.clients_contexts_of_objects_are_loaded.Goals as goal

pub returns-clause-refused : goal.returns-clause-refused
returns-clause-refused c = load_refused

pub returns-clause-plain_refused : goal.returns-clause-plain_refused
returns-clause-plain_refused c = load_refused_plain

pub returns-clause-loaded : goal.returns-clause-loaded
returns-clause-loaded c = load_opened

pub returns-clause-plain_loaded : goal.returns-clause-plain_loaded
returns-clause-plain_loaded c = load_opened_plain

pub returns-clause-taken : goal.returns-clause-taken
returns-clause-taken c = load_taken

pub returns-clause-kept : goal.returns-clause-kept
returns-clause-kept c = load_taken_kept

pub returns-clause-object : goal.returns-clause-object
returns-clause-object c = λ seed bytes a. opened_is seed (drop a.auths.params bytes)
