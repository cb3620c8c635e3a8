use Rattle.std.proofs.Common.{arith, refl, subst}
use Rattle.broker_core.specs.declared.broker.BeginError.{BeginError}
use Rattle.broker_core.specs.Broker.{HasBeginCause}
use Rattle.tab_server.proofs.Beginning.{begins_from, ends_lacking, lacked, number_out, out_of_range, out_still, tells_still}
use Rattle.tab_server.proofs.script.begin_broker.Goals as goal

pub returns-in-Ok-clause-broker : goal.returns-in-Ok-clause-broker
returns-in-Ok-clause-broker g c =
    let told = c.in-Ok.ensures in
    let D = g.D.Device in
    record {
      empty = told.empty.0;
      sound = told.empty.4;
      limit_is = told.fixed.1;
      began_is = told.fixed.0;
      base_is =
          begins_from (D.seen c.args.device).base (D.seen c.in-Ok.broker.device).base (D.seen c.args.device).state c.in-Ok.broker.held.sessions.numbers
          (g.met.D.Device.told_together c.args.device) told.keeps.base_is told.numbers;
      counted = omega (arith, told.fixed.0, told.keeps.count);
    }

pub returns-in-Err-Memory-default-clause-leaves : goal.returns-in-Err-Memory-default-clause-leaves
returns-in-Err-Memory-default-clause-leaves g c audit left written input output =
    let D = g.D.Device in
    let old = D.seen c.args.device in
    let new = D.seen c.in-Err-Memory-default.device in
    let keeps = c.in-Err-Memory-default.ensures.keeps_err in
    rw c.unplayed-in-Err-Memory-default.ensures
    (lacked g.D.Device.CONTEXTS c.args.limit audit old new left written input output (tells_still old.base new.base old.state new.state keeps.0.base_is keeps.0.tells keeps.1))

pub returns-in-Err-Memory-default-clause-none : goal.returns-in-Err-Memory-default-clause-none
returns-in-Err-Memory-default-clause-none g c =
    let end = c.in-Err-Memory-default in
    let cause = subst (λ (e : BeginError). HasBeginCause g.D.Device.CONTEXTS g.D.Device.seen e c.args.device end.device) end.field-0-0-is end.ensures.cause in
    rw c.unplayed-in-Err-Memory-default.ensures (refl, ends_lacking g.D.Device.CONTEXTS g.D.Device.seen c.args.device end.device cause end.ensures.keeps_err.1)

pub returns-in-Err-Numbers-default-clause-leaves : goal.returns-in-Err-Numbers-default-clause-leaves
returns-in-Err-Numbers-default-clause-leaves g c audit left written input output =
    let D = g.D.Device in
    let end = c.in-Err-Numbers-default in
    let old = D.seen c.args.device in
    let new = D.seen end.device in
    let keeps = end.ensures.keeps_err in
    let cause = subst (λ (e : BeginError). HasBeginCause D.CONTEXTS D.seen e c.args.device end.device) end.field-0-0-is end.ensures.cause in
    rw (c.unplayed-in-Err-Numbers-default.ensures, c.from-in-Err-Numbers-default.ensures)
    (out_of_range g.D.Device.CONTEXTS c.args.limit audit old new left written input output end.property (tells_still old.base new.base old.state new.state keeps.0.base_is keeps.0.tells keeps.1)
    (number_out old new end.property _ cause.0 (out_still old.state new.state keeps.0.tells keeps.1 cause.1)))
