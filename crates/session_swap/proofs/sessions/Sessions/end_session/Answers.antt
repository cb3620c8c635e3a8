use Rattle.std.proofs.Common.{subst}
use Rattle.session_swap.specs.Items.{ListsThose, SessionsView, is_left}
use Rattle.session_swap.proofs.sessions.Sessions.end_session.Goals as goal

pub returns-clause-listed : goal.returns-clause-listed
returns-clause-listed c = subst (λ (v : SessionsView). ListsThose is_left v.left v.items) c.self.view_is c.self.invariant.left_are
