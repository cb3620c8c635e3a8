use Rattle.std.proofs.Common.{◌≡◌, ℕ, Bool, true, false, List, ap, sym, ◌∙◌}
use Rattle.tab_spec.specs.Frame.{reported_code}
use Rattle.tab_spec.specs.declared.contexts.ContextLimits.{ContextLimits}
use Rattle.tab_laws.proofs.Outcomes.{from_ok}
use Rattle.device_spec.specs.Answers.{takes}
use Rattle.device_port.specs.Device.{count_of, newest_command, newest_response}
use Rattle.device_port.proofs.Asking.{sent_as}
use Rattle.session_swap.specs.Items.{SessionsView}
use Rattle.client_machine.specs.Moves.{loads_kept, number_taken}
use Rattle.client_machine.proofs.Sending.{last_of, never_taken, untold, wrong_answer}
use Rattle.client_machine.proofs.machine.send.Goals as goal

told : (contexts shown_contexts : ContextLimits) (kept : Bool) (view : SessionsView) (result shown_kept taken is : Bool) (command shown other read reply : List ℕ)
    → shown_contexts ≡ contexts → result ≡ takes shown_contexts shown_kept taken command shown
    → ((c : ContextLimits) (t : Bool) → takes c shown_kept t command read ≡ takes c kept t command read)
    → taken ≡ number_taken view other → read ≡ reply → other ≡ reply → shown ≡ reply → result ≡ is
    → takes contexts kept (number_taken view reply) command reply ≡ is
told contexts shown_contexts kept view result shown_kept taken is command shown other read reply contexts_are result_is kept_is taken_is read_is other_is same test =
    ap (takes contexts kept (number_taken view reply) command) (sym read_is) ∙ sym (kept_is contexts (number_taken view reply))
    ∙ (λ i. takes (sym contexts_are i) shown_kept ((ap (number_taken view) (sym other_is) ∙ sym taken_is) i) command ((read_is ∙ sym same) i))
    ∙ sym result_is ∙ test

pub returns-then-not-takes-clause-err : goal.returns-then-not-takes-clause-err
returns-then-not-takes-clause-err g c =
    let sent = sym c.is_err.ensures.value ∙ c.if-is_err.false in
    let contexts = g.D.Device.CONTEXTS in
    let command = c.args.command.now in
    let kept = loads_kept c.args.held.now.objects.items command in
    let view = c.args.held.now.sessions in
    let reply = c.transmit.new.reply in
    let not_taken = told contexts c.CONTEXTS.result kept view c.takes.result c.refuses_kept-is_kept.result c.is_number_taken-is_taken.result false command c.as_slice-3.result.now c.as_slice-2.result.now c.as_slice.result.now reply
    c.CONTEXTS.ensures c.takes.ensures c.refuses_kept-is_kept.ensures c.is_number_taken-is_taken.ensures c.as_slice.ensures.value c.as_slice-2.ensures.value c.as_slice-3.ensures.value c.if-not-takes.true in
    let none = untold contexts _ _ kept (number_taken view) command reply c.requires.told (g.met.D.Device.profile c.args.device.now) (from_ok c.transmit.result _ c.transmit.ensures.answered sent) not_taken in
    let last_is = last_of c.transmit.result _ _ (ap newest_response c.transmit.ensures.trace) sent in
    record {
      sent = record { once = ap count_of c.transmit.ensures.trace; one = sent_as _ _ _ _ c.transmit.ensures.trace; asked_is = ap newest_command c.transmit.ensures.trace; failed = λ never. absurd (let some = sym last_is ∙ never in cc) };
      cause = (
        wrong_answer command _ _ reply _ (ap newest_command c.transmit.ensures.trace) last_is (never_taken g.D.Device.CONTEXTS kept (number_taken view reply) command reply not_taken)
            (c.reported_code.ensures ∙ ap reported_code c.as_slice-then-not-takes.ensures.value),
        none.0,
      );
      state_is = none.1;
      base_is = c.transmit.ensures.base;
      count = c.transmit.ensures.count;
    }

pub returns-clause-ok : goal.returns-clause-ok
returns-clause-ok g c =
    let sent = sym c.is_err.ensures.value ∙ c.if-is_err.false in
    let contexts = g.D.Device.CONTEXTS in
    let command = c.args.command.now in
    let kept = loads_kept c.args.held.now.objects.items command in
    let view = c.args.held.now.sessions in
    let reply = c.transmit.new.reply in
    let taken = told contexts c.CONTEXTS.result kept view c.takes.result c.refuses_kept-is_kept.result c.is_number_taken-is_taken.result true command c.as_slice-3.result.now c.as_slice-2.result.now c.as_slice.result.now reply
    c.CONTEXTS.ensures c.takes.ensures c.refuses_kept-is_kept.ensures c.is_number_taken-is_taken.ensures c.as_slice.ensures.value c.as_slice-2.ensures.value c.as_slice-3.ensures.value c.if-not-takes.false in
    let last_is = last_of c.transmit.result _ _ (ap newest_response c.transmit.ensures.trace) sent in
    record {
      sent = record { once = ap count_of c.transmit.ensures.trace; one = sent_as _ _ _ _ c.transmit.ensures.trace; asked_is = ap newest_command c.transmit.ensures.trace; failed = λ never. absurd (let some = sym last_is ∙ never in cc) };
      answered = from_ok c.transmit.result _ c.transmit.ensures.answered sent;
      last_is = last_is;
      taken = taken;
      base_is = c.transmit.ensures.base;
      count = c.transmit.ensures.count;
    }
