use Rattle.std.proofs.Common.{sym}
use Rattle.fx_sessions.proofs.authorization.authorize.Goals as goal

pub returns-in_default : goal.returns-in_default
returns-in_default c =
    rw (c.in_default.is, sym c.as_slice.ensures.same) (c.by_password.ensures c.args.e.now.is_object c.args.e.now.policy)
