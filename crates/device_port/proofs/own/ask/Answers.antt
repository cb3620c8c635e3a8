use Rattle.std.proofs.Common.{◌≡◌, true, false, ap, sym, ◌∙◌}
use Rattle.tab_spec.specs.Frame.{reported_code}
use Rattle.tab_spec.specs.declared.contexts.ContextLimits.{ContextLimits}
use Rattle.tab_laws.proofs.Outcomes.{from_err, from_ok}
use Rattle.device_spec.specs.Answers.{takes}
use Rattle.device_port.specs.Device.{count_of, newest_command, newest_response}
use Rattle.device_port.proofs.Asking.{answered, last_of, none_of, sent_as, succeeds, takes_either, untold, wrong_answer}
use Rattle.device_port.proofs.own.ask.Goals as goal

pub returns-then-is_err-clause-asks : goal.returns-then-is_err-clause-asks
returns-then-is_err-clause-asks g c =
    let failed = sym c.is_err.ensures.value ∙ c.if-is_err.true in
    let sent = c.transmit.ensures in
    record {
      asked = ap newest_command sent.trace;
      once = ap count_of sent.trace;
      one = sent_as _ _ _ _ sent.trace;
      own = c.requires.own;
      answered = tt;
      err = from_err c.transmit.result _ sent.unchanged failed;
      cause = (from_err c.transmit.result _ sent.fault failed, none_of c.transmit.result _ _ (ap newest_response sent.trace) failed);
      base = sent.base;
      count = sent.count;
    }

pub returns-then-not-takes-clause-asks : goal.returns-then-not-takes-clause-asks
returns-then-not-takes-clause-asks g c =
    let succeeded = sym c.is_err.ensures.value ∙ c.if-is_err.false in
    let sent = c.transmit.ensures in
    let command = c.args.command.now in
    let reply = c.transmit.new.reply in
    let contexts = g.D.Device.CONTEXTS in
    let not_taken : takes contexts true true command reply ≡ false =
    sym (takes_either contexts command reply c.requires.own.starts_none) ∙ ap (takes contexts true false command) (sym c.as_slice.ensures.value)
    ∙ ap (λ (read : ContextLimits). takes read true false command c.as_slice.result.now) (sym c.CONTEXTS.ensures) ∙ sym c.takes.ensures
    ∙ c.if-not-takes.true in
    let told = untold contexts _ _ command reply c.requires.told (g.met.D.Device.profile c.args.device.now) (from_ok c.transmit.result _ sent.answered succeeded) not_taken in
    record {
      asked = ap newest_command sent.trace;
      once = ap count_of sent.trace;
      one = sent_as _ _ _ _ sent.trace;
      own = c.requires.own;
      answered = tt;
      err = told.same;
      cause = (
        wrong_answer contexts command _ _ reply _ (ap newest_command sent.trace) (last_of c.transmit.result _ _ (ap newest_response sent.trace) succeeded) not_taken
            (c.reported_code.ensures ∙ ap reported_code c.as_slice-then-not-takes.ensures.value),
        told.none,
      );
      base = sent.base;
      count = sent.count;
    }

pub returns-clause-success : goal.returns-clause-success
returns-clause-success g c =
    let command = c.args.command.now in
    let reply = c.transmit.new.reply in
    let contexts = g.D.Device.CONTEXTS in
    succeeds contexts command reply c.requires.own
    (sym (takes_either contexts command reply c.requires.own.starts_none) ∙ ap (takes contexts true false command) (sym c.as_slice.ensures.value)
    ∙ ap (λ (read : ContextLimits). takes read true false command c.as_slice.result.now) (sym c.CONTEXTS.ensures) ∙ sym c.takes.ensures ∙ c.if-not-takes.false)

pub returns-clause-asks : goal.returns-clause-asks
returns-clause-asks g c =
    let succeeded = sym c.is_err.ensures.value ∙ c.if-is_err.false in
    let sent = c.transmit.ensures in
    let command = c.args.command.now in
    let reply = c.transmit.new.reply in
    let contexts = g.D.Device.CONTEXTS in
    record {
      asked = ap newest_command sent.trace;
      once = ap count_of sent.trace;
      one = sent_as _ _ _ _ sent.trace;
      own = c.requires.own;
      answered = answered contexts command _ _ reply c.requires.own (ap newest_command sent.trace) (last_of c.transmit.result _ _ (ap newest_response sent.trace) succeeded)
          (sym (takes_either contexts command reply c.requires.own.starts_none) ∙ ap (takes contexts true false command) (sym c.as_slice.ensures.value)
          ∙ ap (λ (read : ContextLimits). takes read true false command c.as_slice.result.now) (sym c.CONTEXTS.ensures) ∙ sym c.takes.ensures ∙ c.if-not-takes.false);
      err = tt;
      cause = tt;
      base = sent.base;
      count = sent.count;
    }
