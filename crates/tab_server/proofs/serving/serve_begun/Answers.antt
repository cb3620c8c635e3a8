use Rattle.std.proofs.Common.{◌≡◌, None, Some, ap, ◌∙◌}
use Rattle.std.specs.Prelude.{is_some}
use denote.Exit.{no}
use denote.Param.{param}
use denote.Param.Send.{IsSend, arg_send, param_send, sendable}
use Rattle.std.proofs.Crossing.{crosses}
use Rattle.std.proofs.MapsCrossing as maps
use Rattle.broker_lock.specs.Known.{origin_of}
use Rattle.broker_core.specs.contracts.broker.Broker as broker
use Rattle.accept_loop.specs.declared.serving.AcceptError.{AcceptError}
use Rattle.accept_loop.specs.declared.serving.AcceptError.TheVariants as errors
use Rattle.accept_loop.specs.declared.serving.LinkDone.{LinkDone}
use Rattle.tab_server.specs.Serving.{IsLinkDone}
use Rattle.tab_server.proofs.Connecting.{err_of, leaves_finished, leaves_lacking, ok_of, served_told, wrong_told}
use Rattle.tab_server.proofs.serving.serve_begun.Given.{Over}
use Rattle.tab_server.proofs.serving.serve_begun.Goals as goal

pub returns-in-Ok-clause-leaves : goal.returns-in-Ok-clause-leaves
returns-in-Ok-clause-leaves g c left input =
    let served = c.serve-accepted.ensures in
    let told = c.finished.ensures in
    leaves_finished g.D.Device.seen
    (λ j. j.entries) _ _ _ _ _ _ left input _ _ _ _ _ _ _ _ _ _ c.end_broker-device.result.2 None _ _ _ _ _ _ _
    served.fixed_is c.end_broker-device.ensures.journal told.device told.journal
    (ap (λ v. v.items) told.links)
    c.end_broker-device.ensures.ended told.told (ok_of _ _ c.in-Ok.is served.quiet)
    (served_told (IsLinkDone g.A.In.Source.left g.A.Out.Sink.written g.A.In.Source.faults g.A.Out.Sink.faults (record { base = origin_of (g.D.Device.seen c.args.broker.device).base c.args.broker.held.sessions.numbers; limit = c.args.broker.limit; began = c.args.broker.began; contexts = g.D.Device.CONTEXTS })) (λ (link : LinkDone _ _). link.client) _ _ _ _ _ _ _
    (wrong_told _ c.end_broker-device.result.2 None _ _ _ _ _ _ _ _ c.end_broker-device.ensures.wrong told.told) served.served) (λ none. ok_of _ _ c.in-Ok.is served.enough)

pub returns-in-Err-Failed-clause-leaves : goal.returns-in-Err-Failed-clause-leaves
returns-in-Err-Failed-clause-leaves g c left input =
    let served = c.serve-accepted.ensures in
    let told = c.finished-in-Err-Failed.ensures in
    let is : ◌≡◌ {A = AcceptError} c.in-Err-Failed.field-0 errors.Failed = rw c.in-Err-Failed.is at c.in-Err-Failed.field-0-is in
    leaves_finished g.D.Device.seen
    (λ j. j.entries) _ _ _ _ _ _ left input _ _ _ _ _ _ _ _ _ _ c.end_broker-device.result.2 (Some c.fault_count-count.result) _ _ _ _ _ _ _
    served.fixed_is c.end_broker-device.ensures.journal told.device told.journal
    (ap (λ v. v.items) told.links)
    c.end_broker-device.ensures.ended told.told (served.failed (err_of _ _ errors.Failed c.in-Err-Failed.is is), c.fault_count-count.ensures)
    (served_told (IsLinkDone g.A.In.Source.left g.A.Out.Sink.written g.A.In.Source.faults g.A.Out.Sink.faults (record { base = origin_of (g.D.Device.seen c.args.broker.device).base c.args.broker.held.sessions.numbers; limit = c.args.broker.limit; began = c.args.broker.began; contexts = g.D.Device.CONTEXTS })) (λ (link : LinkDone _ _). link.client) _ _ _ _ _ _ _
    (wrong_told _ c.end_broker-device.result.2 (Some c.fault_count-count.result) _ _ _ _ _ _ _ _ c.end_broker-device.ensures.wrong told.told) served.served) (λ none. absurd cc)

pub returns-in-Err-Memory-clause-leaves : goal.returns-in-Err-Memory-clause-leaves
returns-in-Err-Memory-clause-leaves g c left input =
    let served = c.serve-accepted.ensures in
    let is : ◌≡◌ {A = AcceptError} c.in-Err-Memory.field-0 errors.Memory = rw c.in-Err-Memory.is at c.in-Err-Memory.field-0-is in
    let idle = served.memory (err_of _ _ errors.Memory c.in-Err-Memory.is is) in
    leaves_lacking g.D.Device.seen
    _ _ _ _ _ _ left input _ _ _ _ _ _ c.end_broker-device.result.2 _ _ _ _
    served.fixed_is c.end_broker-device.ensures.journal
    (ap (λ b. b.journal) idle.2 ∙ c.requires.journal) idle.1
    (ap (λ a. g.A.Acceptor.coming a) idle.0) (ap (λ a. g.A.Acceptor.faults a) idle.0)
    (c.end_broker-device.ensures.wrong ∙ ap (λ b. b.wrong_code) idle.2 ∙ c.requires.sound)
    c.end_broker-device.ensures.ended
    (served_told (IsLinkDone g.A.In.Source.left g.A.Out.Sink.written g.A.In.Source.faults g.A.Out.Sink.faults (record { base = origin_of (g.D.Device.seen c.args.broker.device).base c.args.broker.held.sessions.numbers; limit = c.args.broker.limit; began = c.args.broker.began; contexts = g.D.Device.CONTEXTS })) (λ (link : LinkDone _ _). link.client) _ _ _ _ _ _ _
    (ap (λ b. is_some b.wrong_code) idle.2 ∙ ap is_some c.requires.sound) served.served)

-- the broker may go to another thread
broker_send : (g : Over) → IsSend (param 0 g.row.D) → IsSend (broker.the_row (param 0 g.row.D) g.D.Device)
broker_send g device = search (sendable, crosses, maps.crosses) depth 60 fits 100000

pub serve-accepted-requires-send-B : goal.serve-accepted-requires-send-B
serve-accepted-requires-send-B g c κs within =
    let device : IsSend (param 0 g.row.D) = search in
    param_send 0 _ (arg_send _ no _ (broker_send g device))
