use Rattle.std.proofs.Common.{◌∙◌, ap, sym, subst}
use Rattle.broker_lock.specs.Known.{Fixed, origin_of}
use Rattle.tab_server.specs.Run.{IsEnded, after_of, before_of, limits}
use Rattle.tab_server.proofs.Leaving.{leaves_ended_broker}
use Rattle.tab_server.proofs.ToEnd.{stands_to_end}
use Rattle.tab_server.proofs.script.play_over.Goals as goal

pub returns-clause-leaves : goal.returns-clause-leaves
returns-clause-leaves g c =
    let D = g.D.Device in
    let played = c.play_script-stop in
    let stop = played.result.stop in
    let broker = played.result.value.broker in
    let ended = c.end_broker-device in
    let wrong = ended.result.2 in
    let history = ended.result.1.entries in
    let before = before_of g.D.Device.CONTEXTS (origin_of (D.seen c.args.broker.device).base c.args.broker.held.sessions.numbers) c.args.broker.began (g.I.Source.left c.args.input.now) (g.I.Source.faults c.args.input.now) (g.O.Sink.written c.args.output.now) (g.O.Sink.faults c.args.output.now) in
    let after = after_of (D.seen ended.result.0) (g.I.Source.left played.new.input) (g.I.Source.faults played.new.input) (g.O.Sink.written played.new.output) (g.O.Sink.faults played.new.output) in
    rw c.cause_of.ensures
    (leaves_ended_broker c.args.broker.limit before after history broker.journal stop wrong broker.wrong_code (sym ended.ensures.journal) ended.ensures.wrong
    (subst (λ (f : Fixed). IsEnded f.contexts f.base f.began (D.seen ended.result.0) wrong history) played.ensures.fixed ended.ensures.ended)
    played.ensures.leaves played.ensures.cause played.ensures.pulled)

pub returns-clause-limit : goal.returns-clause-limit
returns-clause-limit g c = c.end_broker-device.ensures.limit ∙ ap (λ (f : Fixed). f.limit) c.play_script-stop.ensures.fixed

pub returns-clause-to_end : goal.returns-clause-to_end
returns-clause-to_end g c =
    let played = c.play_script-stop in
    let ended = c.end_broker-device in
    rw (c.is_end.ensures, c.cause_of.ensures, ended.ensures.journal)
    (stands_to_end played.result.stop ended.result.2 (limits g.D.Device.CONTEXTS c.args.broker.limit) _ (g.I.Source.left c.args.input.now) (g.I.Source.left played.new.input) (g.O.Sink.written c.args.output.now) (g.O.Sink.written played.new.output)
    played.result.value.broker.journal played.ensures.leaves)
