use Rattle.std.proofs.Common.{◌≡◌}
use Rattle.effect_spec.specs.Capabilities.{listed_sessions}
use Rattle.fx_capability.proofs.handles.SessionsListing.item_from.Given as goal

-- no session with a number so far is of the sort
abbrev pub invariant-loop-number : goal.invariant-loop-number
invariant-loop-number g l =
    listed_sessions l.self.in_use l.least (g.H.Holdings.sessions l.self.held.now) ≡ listed_sessions l.self.in_use l.number (g.H.Holdings.sessions l.self.held.now)
