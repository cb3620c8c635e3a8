use Rattle.std.proofs.Common.{refl, sym, ap, ◌∙◌}
use Rattle.crossbeam_channel.specs.Claims.{view}
use Rattle.connection_core.specs.declared.duty.Stage.TheVariants as stages
use Rattle.connection_core.specs.declared.message.Message.{Message}
use Rattle.connection_core.specs.Line.{LineView, with_taken}
use Rattle.connection_core.proofs.Serving.{drained, dropped_one}
use Rattle.connection_core.proofs.Taking.{between_of, stood, workers_now, workers_of}
use Rattle.connection_core.proofs.duty.Duty.drop_next.Goals as goal

pub try_take-requires-clause-line : goal.try_take-requires-clause-line
try_take-requires-clause-line g c = (workers_of g.K.Sink.written g.K.Sink.ended g.K.Sink.faults _ _ _ c.args.self.now c.requires.begun c.requires.keeps).of.line

pub try_take-requires-clause-takes : goal.try_take-requires-clause-takes
try_take-requires-clause-takes g c = (workers_of g.K.Sink.written g.K.Sink.ended g.K.Sink.faults _ _ _ c.args.self.now c.requires.begun c.requires.keeps).takes

pub returns-in_default : goal.returns-in_default
returns-in_default g c start is =
    let k = c.requires.keeps start is in
    let same = between_of _ _ c.args.between.now start c.requires.begun is in
    record {
      side = workers_now _ _ c.args.self.now.worker.side _ same k.side c.try_take.ensures.line (ap (λ (v : LineView). v.takes) c.in_default.ensures.none)
          (workers_of g.K.Sink.written g.K.Sink.ended g.K.Sink.faults _ _ _ c.args.self.now c.requires.begun c.requires.keeps).of.spares refl;
      goes_on = k.goes_on;
      stands = rw c.in_default.ensures.none k.stands;
    }

pub give-requires : goal.give-requires
give-requires g c = (workers_of g.K.Sink.written g.K.Sink.ended g.K.Sink.faults _ _ _ c.args.self.now c.requires.begun c.requires.keeps).of.spares

pub returns-in-Command : goal.returns-in-Command
returns-in-Command g c start is =
    let k = c.requires.keeps start is in
    let same = between_of _ _ c.args.between.now start c.requires.begun is in
    let cuts = stood _ stages.Cut start _ _ _ _ _ _ _ _ c.requires.cut k.stands in
    let took = c.in-Some.ensures.some.0 ∙ ap (λ (m : Message). with_taken (view c.args.self.now.worker.side.pass) m) c.in-Command.is in
    record {
      side = workers_now _ _ c.args.self.now.worker.side _ same k.side c.try_take.ensures.line (ap (λ (v : LineView). v.takes) took) c.give.ensures refl;
      goes_on = k.goes_on;
      stands = stood stages.Cut _ start _ _ _ _ _ _ _ _ (sym c.requires.cut) (record {
        before = cuts.before;
        cut = cuts.cut;
        after = dropped_one _ _ _ _ cuts.after (ap (λ (v : LineView). v.taken) took);
        sink_ended = cuts.sink_ended;
        rose = cuts.rose;
      });
    }

pub returns-in-End : goal.returns-in-End
returns-in-End g c start is =
    let k = c.requires.keeps start is in
    let same = between_of _ _ c.args.between.now start c.requires.begun is in
    let cuts = stood _ stages.Cut start _ _ _ _ _ _ _ _ c.requires.cut k.stands in
    let took = c.in-Some.ensures.some.0 ∙ ap (λ (m : Message). with_taken (view c.args.self.now.worker.side.pass) m) c.in-End.is in
    record {
      side = workers_now _ _ c.args.self.now.worker.side _ same k.side c.try_take.ensures.line (ap (λ (v : LineView). v.takes) took) (workers_of g.K.Sink.written g.K.Sink.ended g.K.Sink.faults _ _ _ c.args.self.now c.requires.begun c.requires.keeps).of.spares refl;
      goes_on = k.goes_on;
      stands = record { before = cuts.before; cut = cuts.cut; after = drained _ _ _ _ cuts.after (ap (λ (v : LineView). v.taken) took); sink_ended = cuts.sink_ended; rose = cuts.rose };
    }
