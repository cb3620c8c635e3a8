use Rattle.std.proofs.Common.{◌∙◌, sym}
use Rattle.session_swap.specs.Items.{is_orphan}
use Rattle.session_swap.proofs.Counts.{none_counted}
use Rattle.session_swap.proofs.sessions.Sessions.orphan.Goals as goal

pub returns-then-orphans-eq0 : goal.returns-then-orphans-eq0
returns-then-orphans-eq0 c = none_counted is_orphan c.args.self.now.items (sym c.orphans.ensures ∙ c.if-orphans-eq0.true)
