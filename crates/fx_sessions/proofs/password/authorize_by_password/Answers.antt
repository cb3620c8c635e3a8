use Rattle.std.proofs.Common.{false, []}
use Rattle.fx_sessions.proofs.password.authorize_by_password.Goals as goal

pub returns : goal.returns
returns c = c.by_password.ensures false []
