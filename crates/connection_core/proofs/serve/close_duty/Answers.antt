use Rattle.std.proofs.Common.{◌∙◌, []}
use Rattle.broker_lock.specs.declared.calls.Job.TheVariants as jobs
use Rattle.connection_core.proofs.Entering.{goes_on_act, goes_on_more}
use Rattle.connection_core.proofs.serve.close_duty.Goals as goal

pub close-requires-clause-opened : goal.close-requires-clause-opened
close-requires-clause-opened g c κs lives =
    let f = c.finish-ending.ensures c.requires.begun.start c.requires.begun.is in
    record {
      lock_is = f.goes_on.lock ∙ c.requires.begun.lock_is;
      present = f.worked.serves.present;
    }

pub returns : goal.returns
returns g c start is =
    let f = c.finish-ending.ensures start is in
    let last = c.finish-ending.new.self.worker.pass in
    let closed = c.close.new.self.pass in
    let asks = c.close.ensures.acts in
    record {
      leaves = record {
        last = last;
        reply = c.close.new.reply;
        of = rw c.close.ensures.side f.side;
        goes_on = goes_on_more start.pass last closed f.goes_on (goes_on_act last closed (jobs.Close c.finish-ending.new.self.worker.client) [] c.close.new.reply asks.0 asks.1);
        worked = rw (c.close.ensures.client, c.close.ensures.done, c.close.ensures.sink, c.close.ensures.side) f.worked;
        closes = rw c.close.ensures.client asks;
        counts = rw c.close.ensures.sink f.counts;
      };
      sink_ended = rw c.close.ensures.sink f.sink_ended;
    }
