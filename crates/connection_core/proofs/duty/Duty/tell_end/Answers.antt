use Rattle.std.proofs.Common.{sym, ap, ◌∙◌}
use Rattle.tab_laws.proofs.Outcomes.{from_err, from_ok}
use Rattle.link_port.specs.Port.{at_end}
use Rattle.connection_core.specs.declared.duty.Stage.TheVariants as stages
use Rattle.connection_core.proofs.Serving.{worked_bad, worked_bad_cut, worked_fault, worked_no_more}
use Rattle.connection_core.proofs.Taking.{stood}
use Rattle.connection_core.proofs.duty.Duty.tell_end.Goals as goal

pub returns-in-NoMore : goal.returns-in-NoMore
returns-in-NoMore g c start is =
    let k = c.requires.keeps start is in
    let well = stood _ (stages.Over c.args.ended) start _ _ _ _ _ _ _ _ c.requires.over k.stands in
    record { side = k.side; goes_on = k.goes_on; worked = worked_no_more _ _ _ _ _ _ _ _ well.so_far c.in-NoMore.is; sink_ended = well.sink_open; counts = well.same }

pub returns-in-Fault : goal.returns-in-Fault
returns-in-Fault g c start is =
    let k = c.requires.keeps start is in
    let well = stood _ (stages.Over c.args.ended) start _ _ _ _ _ _ _ _ c.requires.over k.stands in
    record { side = k.side; goes_on = k.goes_on; worked = worked_fault _ _ _ _ _ _ _ _ well.so_far c.in-Fault.is; sink_ended = well.sink_open; counts = well.same }

pub returns-then-is_err : goal.returns-then-is_err
returns-then-is_err g c start is =
    let k = c.requires.keeps start is in
    let well = stood _ (stages.Over c.args.ended) start _ _ _ _ _ _ _ _ c.requires.over k.stands in
    let bad = sym c.is_err.ensures.value ∙ c.if-is_err.true in
    record {
      side = rw c.tell_bad_size.ensures.side k.side;
      goes_on = rw c.tell_bad_size.ensures.pass k.goes_on;
      worked = rw (c.end.ensures.written, c.tell_bad_size.ensures.client, c.tell_bad_size.ensures.done, c.tell_bad_size.ensures.pass, c.tell_bad_size.ensures.side)
          (worked_bad_cut _ _ _ c.in-BadSize.size _ _ _ _ _ _ well.so_far c.in-BadSize.is
          (from_err c.tell_bad_size.result _ c.tell_bad_size.ensures.pushed.front bad));
      sink_ended = c.end.ensures.end_told ∙ ap at_end
          (c.tell_bad_size.ensures.pushed.goes_on ∙ well.sink_open);
      counts = rw (c.end.ensures.faults, sym well.same)
          (from_err c.tell_bad_size.result _ c.tell_bad_size.ensures.pushed.fault bad);
    }

pub returns-else-is_err : goal.returns-else-is_err
returns-else-is_err g c start is =
    let k = c.requires.keeps start is in
    let well = stood _ (stages.Over c.args.ended) start _ _ _ _ _ _ _ _ c.requires.over k.stands in
    let good = sym c.is_err.ensures.value ∙ c.if-is_err.false in
    record {
      side = rw c.tell_bad_size.ensures.side k.side;
      goes_on = rw c.tell_bad_size.ensures.pass k.goes_on;
      worked = rw (c.tell_bad_size.ensures.client, c.tell_bad_size.ensures.done, c.tell_bad_size.ensures.pass, c.tell_bad_size.ensures.side)
          (worked_bad _ _ _ c.in-BadSize.size _ _ _ _ _ _ well.so_far c.in-BadSize.is
          (from_ok c.tell_bad_size.result _ c.tell_bad_size.ensures.pushed.ok good));
      sink_ended = c.tell_bad_size.ensures.pushed.goes_on ∙ well.sink_open;
      counts = from_ok c.tell_bad_size.result _ c.tell_bad_size.ensures.pushed.quiet good
          ∙ well.same;
    }
