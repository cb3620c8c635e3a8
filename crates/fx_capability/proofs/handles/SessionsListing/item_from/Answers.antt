use Rattle.std.proofs.Common.{◌∙◌, arith}
use Rattle.fx_capability.proofs.Sessions.{listed_end}
use Rattle.fx_capability.proofs.handles.SessionsListing.item_from.Goals as goal

pub returns : goal.returns
returns g c =
    let held = c.args.self.now.held.now in
    c.loop-number.invariant
    ∙ listed_end c.args.self.now.in_use 64 c.loop-number.number (g.H.Holdings.sessions held) (g.met.H.Holdings.sessions_fit held)
    (omega (arith, c.loop-number-test.false, c.from-number-end.ensures))
