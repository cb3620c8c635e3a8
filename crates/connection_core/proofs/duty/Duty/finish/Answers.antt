use Rattle.connection_core.specs.declared.duty.Stage.TheVariants as stages
use Rattle.connection_core.proofs.Serving.{worked_cut}
use Rattle.connection_core.proofs.Taking.{stood}
use Rattle.connection_core.proofs.duty.Duty.finish.Goals as goal

pub returns-in-CutOver : goal.returns-in-CutOver
returns-in-CutOver g c start is =
    let k = c.loop.invariant.keeps start is in
    let cuts = stood _ stages.CutOver start _ _ _ _ _ _ _ _ c.in-CutOver.is k.stands in
    record {
      side = k.side;
      goes_on = k.goes_on;
      worked = worked_cut _ _ _ _ _ _ _ _ cuts.cut cuts.after;
      sink_ended = cuts.sink_ended;
      counts = cuts.rose;
    }
