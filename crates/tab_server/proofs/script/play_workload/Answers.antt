use Rattle.std.proofs.Common.{Some, ap, refl}
use Rattle.broker_core.specs.Broker.{told_origin}
use Rattle.tab_server.proofs.Summing.{leaves_all, unbegun_workload}
use Rattle.tab_server.specs.Run.{after_of, before_of}
use Rattle.tab_server.proofs.script.play_workload.Goals as goal

pub returns-in-Ok-clause-leaves : goal.returns-in-Ok-clause-leaves
returns-in-Ok-clause-leaves g c left input =
    let plan = c.args.plan.now in
    let over = c.play_over-cause in
    let summary = c.write_summary-cause in
    let audit = c.write_audit-cause in
    let began = c.in-Ok.ensures.broker in
    let device = over.result.device in
    let leaves = rw (began.began_is, began.limit_is, began.base_is, c.new-script.ensures, c.new-tally.ensures) at over.ensures.leaves in
    let to_end = rw (began.limit_is, c.new-script.ensures, c.new-tally.ensures) at over.ensures.to_end in
    rw c.finished.ensures
    (leaves_all g.D.Device.CONTEXTS plan.limit plan.audit plan.start plan.lines (told_origin (g.D.Device.seen c.args.device).base (g.D.Device.seen c.args.device).state) (g.D.Device.seen c.args.device).faults (g.D.Device.seen device) (Some over.new.input) over.new.output left
    (g.O.Sink.written c.args.output.now) (g.O.Sink.written summary.new.output) (g.O.Sink.written audit.new.output)
    input (g.O.Sink.faults c.args.output.now) (g.O.Sink.faults summary.new.output) (g.O.Sink.faults audit.new.output)
    over.result.whole over.result.cause summary.result audit.result over.result.journal.entries c.requires.lines c.replies_are_bytes.ensures leaves to_end
    (λ early. let same = summary.ensures.early early in (same.0, ap g.O.Sink.written same.1, ap g.O.Sink.faults same.1))
    summary.ensures.summary
    (λ unasked. let same = audit.ensures.unasked unasked in (same.0, ap g.O.Sink.written same.1, ap g.O.Sink.faults same.1))
    (λ failed. let same = audit.ensures.failed failed in (same.0, ap g.O.Sink.written same.1, ap g.O.Sink.faults same.1))
    audit.ensures.text)

pub returns-in-Err-clause-leaves : goal.returns-in-Err-clause-leaves
returns-in-Err-clause-leaves g c left input =
    let plan = c.args.plan.now in
    rw c.in-Err.ensures.none.0
    (unbegun_workload plan.limit plan.audit plan.start plan.lines (before_of g.D.Device.CONTEXTS (told_origin (g.D.Device.seen c.args.device).base (g.D.Device.seen c.args.device).state) ((g.D.Device.seen c.args.device).faults) (left) (input) (g.O.Sink.written c.args.output.now) (g.O.Sink.faults c.args.output.now)) (after_of (g.D.Device.seen c.in-Err.unplayed.device) (left) (input) (g.O.Sink.written c.args.output.now) (g.O.Sink.faults c.args.output.now)) c.in-Err.unplayed.status c.in-Err.unplayed.detail
    (c.in-Err.ensures.leaves plan.audit left (g.O.Sink.written c.args.output.now) input (g.O.Sink.faults c.args.output.now)) refl refl)
