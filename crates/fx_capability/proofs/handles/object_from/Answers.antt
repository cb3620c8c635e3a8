use Rattle.std.proofs.Common.{◌^◌, arith}
use Rattle.fx_capability.proofs.Lists.{number_past}
use Rattle.fx_capability.proofs.handles.object_from.Goals as goal

pub returns-then-least-from : goal.returns-then-least-from
returns-then-least-from g c =
    let held = c.args.held.now in
    number_past (2 ^ 32) c.args.least (g.H.Holdings.objects held) (g.met.H.Holdings.objects_fit held)
    (omega (arith, c.if-least-from.true, c.from.ensures))
