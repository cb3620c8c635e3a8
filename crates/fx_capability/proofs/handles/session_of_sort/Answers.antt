use Rattle.std.proofs.Common.{sym, ◌∙◌}
use Rattle.fx_capability.specs.Views.{listed_of}
use Rattle.fx_capability.proofs.Sessions.{listed_found, listed_other, listed_skip}
use Rattle.fx_capability.proofs.handles.session_of_sort.Goals as goal

pub returns-then-is_of_sort : goal.returns-then-is_of_sort
returns-then-is_of_sort g c =
    let held = c.args.held.now in
    listed_found c.args.in_use c.args.number (g.H.Holdings.sessions held) (listed_of c.in-Some.session) (g.met.H.Holdings.sessions_rise held)
    c.in-Some.ensures (sym c.is_of_sort.ensures ∙ c.if-is_of_sort.true)

pub returns-else-is_of_sort : goal.returns-else-is_of_sort
returns-else-is_of_sort g c =
    let held = c.args.held.now in
    listed_other c.args.in_use c.args.number (g.H.Holdings.sessions held) (listed_of c.in-Some.session) (g.met.H.Holdings.sessions_rise held)
    c.in-Some.ensures (sym c.is_of_sort.ensures ∙ c.if-is_of_sort.false)

pub returns-in-None : goal.returns-in-None
returns-in-None g c =
    let held = c.args.held.now in
    listed_skip c.args.in_use c.args.number (g.H.Holdings.sessions held) (g.met.H.Holdings.sessions_rise held) c.in-None.ensures
