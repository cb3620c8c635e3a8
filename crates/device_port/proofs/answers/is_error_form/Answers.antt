use Rattle.std.proofs.Common.{rules}
use Rattle.device_port.proofs.answers.is_error_form.Goals as goal

pub returns-then-tag_of-eq-ST_NO_SESSIONS : goal.returns-then-tag_of-eq-ST_NO_SESSIONS
returns-then-tag_of-eq-ST_NO_SESSIONS c = search rules
