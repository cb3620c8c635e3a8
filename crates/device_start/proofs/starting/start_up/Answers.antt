use Rattle.std.proofs.Common.{◌≡◌, true, false, refl, ap, sym, ◌∙◌}
use Rattle.device_laws.proofs.AnswerForms.{takes_of_any}
use Rattle.tab_laws.proofs.Outcomes.{from_ok}
use Rattle.tab_spec.specs.Commands.{startup_command}
use Rattle.tab_spec.specs.Frame.{reported_code}
use Rattle.device_spec.specs.Answers.{profile_takes as takes}
use Rattle.device_port.specs.Device.{newest_command, newest_response}
use Rattle.device_port.proofs.Asking.{last_of, sent_as, wrong_answer}
use Rattle.device_start.proofs.Found.{startup_untold}
use Rattle.device_start.proofs.starting.start_up.Goals as goal

pub returns-then-not-is_started-clause-sends : goal.returns-then-not-is_started-clause-sends
returns-then-not-is_started-clause-sends g c =
    let succeeded = sym c.is_err.ensures.value ∙ c.if-is_err.false in
    let sent = c.transmit.ensures in
    let reply = c.transmit.new.reply in
    let untaken : takes true true startup_command reply ≡ false =
    ap (takes true true startup_command) (sym c.as_slice.ensures.value) ∙ sym c.is_started.ensures ∙ c.if-not-is_started.true in
    let contexts = g.D.Device.CONTEXTS in
    let untold = startup_untold _ _ reply (from_ok c.transmit.result _ sent.answered succeeded) untaken in
    let last = last_of c.transmit.result _ _ (ap newest_response sent.trace) succeeded in
    record {
      one = sent_as _ _ _ _ sent.trace;
      taken = tt;
      err = untold.1;
      cause = (
        wrong_answer contexts startup_command _ _ reply _ (ap newest_command sent.trace) last (takes_of_any contexts true true startup_command reply refl refl ∙ untaken)
            (c.reported_code.ensures ∙ ap reported_code c.as_slice-then-not-is_started.ensures.value),
        untold.0,
      );
      base = sent.base;
      count = sent.count;
    }
