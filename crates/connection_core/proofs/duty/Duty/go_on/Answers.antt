use Rattle.std.proofs.Common.{refl, sym, ap, subst, ◌∙◌}
use Rattle.tab_laws.proofs.Outcomes.{from_err, from_ok}
use Rattle.crossbeam_channel.specs.Claims.{view}
use Rattle.link_port.specs.Port.{at_end}
use Rattle.connection_core.specs.declared.between.Between.{Between}
use Rattle.connection_core.specs.declared.duty.Stage.TheVariants as stages
use Rattle.connection_core.specs.declared.message.Message.{Message}
use Rattle.connection_core.specs.Line.{LineView, with_taken}
use Rattle.connection_core.specs.Sides.{IsWorkers}
use Rattle.connection_core.proofs.Entering.{goes_on_act, goes_on_more}
use Rattle.connection_core.proofs.Serving.{dropped_none, so_far_cut, so_far_end, so_far_run, taken_by}
use Rattle.connection_core.proofs.Taking.{below, between_of, stood, workers_now, workers_of}
use Rattle.connection_core.proofs.duty.Duty.go_on.Goals as goal

pub try_take-requires-clause-line : goal.try_take-requires-clause-line
try_take-requires-clause-line g c = (workers_of g.K.Sink.written g.K.Sink.ended g.K.Sink.faults _ _ _ c.args.self.now c.requires.begun c.requires.keeps).of.line

pub try_take-requires-clause-takes : goal.try_take-requires-clause-takes
try_take-requires-clause-takes g c = (workers_of g.K.Sink.written g.K.Sink.ended g.K.Sink.faults _ _ _ c.args.self.now c.requires.begun c.requires.keeps).takes

pub returns-in_default : goal.returns-in_default
returns-in_default g c start is =
    let k = c.requires.keeps start is in
    let same = between_of _ _ c.args.between.now start c.requires.begun is in
    record {
      side = workers_now _ _ c.args.self.now.worker.side _ same k.side c.try_take.ensures.line (ap (λ (v : LineView). v.takes) c.in_default.ensures.none)
          (workers_of g.K.Sink.written g.K.Sink.ended g.K.Sink.faults _ _ _ c.args.self.now c.requires.begun c.requires.keeps).of.spares refl;
      goes_on = k.goes_on;
      stands = rw c.in_default.ensures.none k.stands;
    }

pub run-requires-clause-opened : goal.run-requires-clause-opened
run-requires-clause-opened g c κs lives =
    let k = c.requires.keeps c.requires.begun.start c.requires.begun.is in
    record {
      lock_is = k.goes_on.lock ∙ c.requires.begun.lock_is;
      present = (stood _ stages.Going c.requires.begun.start _ _ _ _ _ _ _ _ c.requires.going
          k.stands).so_far.serves.present;
    }

pub run-requires-clause-more : goal.run-requires-clause-more
run-requires-clause-more g c κs lives =
    below _ _ _ _ _ c.in-Some.message _ _ _ (stood _ stages.Going c.requires.begun.start _ _ _ _ _ _ _ _ c.requires.going (c.requires.keeps c.requires.begun.start c.requires.begun.is).stands).so_far
    (ap (λ (v : LineView). v.taken) c.in-Some.ensures.some.0) c.in-Some.ensures.some.1

pub run-requires-clause-side : goal.run-requires-clause-side
run-requires-clause-side g c κs lives =
    let k = workers_of g.K.Sink.written g.K.Sink.ended g.K.Sink.faults _ _ _ c.args.self.now c.requires.begun c.requires.keeps in
    workers_now _ c.args.between.now c.args.self.now.worker.side _ refl k c.try_take.ensures.line (ap (λ (v : LineView). v.takes) c.in-Some.ensures.some.0) k.of.spares refl

pub returns-then-is_err : goal.returns-then-is_err
returns-then-is_err g c start is =
    let k = c.requires.keeps start is in
    let same = between_of _ _ c.args.between.now start c.requires.begun is in
    let well = stood _ stages.Going start _ _ _ _ _ _ _ _ c.requires.going k.stands in
    let took = c.in-Some.ensures.some.0 ∙ ap (λ (m : Message). with_taken (view c.args.self.now.worker.side.pass) m) c.in-Command.is in
    let bad = sym c.is_err.ensures.value ∙ c.if-is_err.true in
    record {
      side = subst (λ (x : Between). IsWorkers x c.run.new.self.side) (sym same)
          c.run.ensures.took.side;
      goes_on = goes_on_more _ c.args.self.now.worker.pass _ k.goes_on
          (goes_on_act _ _ _ _ _ _ c.run.ensures.took.acts.asks.1);
      stands = record {
        before = (view c.run.new.self.side.pass).taken;
        cut = rw (c.run.ensures.took.client, c.run.ensures.took.done, c.end.ensures.written)
            (so_far_cut c.args.self.now.worker.pass _ _ _ _ _ c.args.self.now.worker.side.seat _ _ _
            _ _ c.run.new.reply well.so_far (taken_by _ _ _ _ c.run.ensures.took.line took)
            c.run.ensures.took.acts
            (from_err c.run.result _ c.run.ensures.pushed.front bad));
        after = dropped_none _;
        sink_ended = c.end.ensures.end_told ∙ ap at_end
            (c.run.ensures.pushed.goes_on ∙ well.sink_open);
        rose = rw (c.end.ensures.faults, sym well.same)
            (from_err c.run.result _ c.run.ensures.pushed.fault bad);
      };
    }

pub returns-else-is_err : goal.returns-else-is_err
returns-else-is_err g c start is =
    let k = c.requires.keeps start is in
    let same = between_of _ _ c.args.between.now start c.requires.begun is in
    let well = stood _ stages.Going start _ _ _ _ _ _ _ _ c.requires.going k.stands in
    let took = c.in-Some.ensures.some.0 ∙ ap (λ (m : Message). with_taken (view c.args.self.now.worker.side.pass) m) c.in-Command.is in
    let good = sym c.is_err.ensures.value ∙ c.if-is_err.false in
    record {
      side = subst (λ (x : Between). IsWorkers x c.run.new.self.side) (sym same)
          c.run.ensures.took.side;
      goes_on = goes_on_more _ c.args.self.now.worker.pass _ k.goes_on
          (goes_on_act _ _ _ _ _ _ c.run.ensures.took.acts.asks.1);
      stands = stood stages.Going _ start _ _ _ _ _ _ _ _ (sym c.requires.going) (record {
        so_far = rw (c.run.ensures.took.client, c.run.ensures.took.done)
            (so_far_run c.args.self.now.worker.pass _ _ _ _ _ c.args.self.now.worker.side.seat _ _ _
            _ _ c.run.new.reply well.so_far (taken_by _ _ _ _ c.run.ensures.took.line took)
            c.run.ensures.took.acts
            (from_ok c.run.result _ c.run.ensures.pushed.ok good));
        sink_open = c.run.ensures.pushed.goes_on ∙ well.sink_open;
        same = from_ok c.run.result _ c.run.ensures.pushed.quiet good ∙ well.same;
      });
    }

pub returns-in-End : goal.returns-in-End
returns-in-End g c start is =
    let k = c.requires.keeps start is in
    let same = between_of _ _ c.args.between.now start c.requires.begun is in
    let well = stood _ stages.Going start _ _ _ _ _ _ _ _ c.requires.going k.stands in
    let took = c.in-Some.ensures.some.0 ∙ ap (λ (m : Message). with_taken (view c.args.self.now.worker.side.pass) m) c.in-End.is in
    record {
      side = workers_now _ _ c.args.self.now.worker.side _ same k.side c.try_take.ensures.line (ap (λ (v : LineView). v.takes) took) (workers_of g.K.Sink.written g.K.Sink.ended g.K.Sink.faults _ _ _ c.args.self.now c.requires.begun c.requires.keeps).of.spares refl;
      goes_on = k.goes_on;
      stands = record { so_far = so_far_end _ _ _ _ _ _ _ _ c.in-End.ended well.so_far (ap (λ (v : LineView). v.taken) took); sink_open = well.sink_open; same = well.same };
    }
