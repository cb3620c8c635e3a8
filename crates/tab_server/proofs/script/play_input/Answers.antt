use Rattle.std.proofs.Common.{ap}
use Rattle.broker_core.specs.Broker.{told_origin}
use Rattle.tab_server.proofs.Auditing.{leaves_ended}
use Rattle.tab_server.specs.Run.{after_of, before_of}
use Rattle.tab_server.proofs.script.play_input.Goals as goal

pub returns-in-Ok-clause-leaves : goal.returns-in-Ok-clause-leaves
returns-in-Ok-clause-leaves g c =
    let over = c.play_over-cause in
    let audit = c.write_audit-cause in
    let began = c.in-Ok.ensures.broker in
    let device = over.result.device in
    let left = rw (began.began_is, began.limit_is, began.base_is) at over.ensures.leaves in
    rw c.finished.ensures
    (leaves_ended c.args.plan.now.limit c.args.plan.now.audit (before_of g.D.Device.CONTEXTS (told_origin (g.D.Device.seen c.args.device).base (g.D.Device.seen c.args.device).state) ((g.D.Device.seen c.args.device).faults) (g.I.Source.left c.args.input.now) (g.I.Source.faults c.args.input.now) (g.O.Sink.written c.args.output.now) (g.O.Sink.faults c.args.output.now)) (after_of (g.D.Device.seen device) (g.I.Source.left over.new.input) (g.I.Source.faults over.new.input) (g.O.Sink.written over.new.output) (g.O.Sink.faults over.new.output)) over.result.cause audit.result over.result.journal.entries (g.O.Sink.written audit.new.output) (g.O.Sink.faults audit.new.output) left
    (λ unasked. let same = audit.ensures.unasked unasked in (same.0, ap g.O.Sink.written same.1, ap g.O.Sink.faults same.1))
    (λ failed. let same = audit.ensures.failed failed in (same.0, ap g.O.Sink.written same.1, ap g.O.Sink.faults same.1))
    audit.ensures.text)

pub returns-in-Err-clause-leaves : goal.returns-in-Err-clause-leaves
returns-in-Err-clause-leaves g c =
    rw c.in-Err.ensures.none.0
    (c.in-Err.ensures.leaves c.args.plan.now.audit (g.I.Source.left c.args.input.now) (g.O.Sink.written c.args.output.now) (g.I.Source.faults c.args.input.now) (g.O.Sink.faults c.args.output.now))
