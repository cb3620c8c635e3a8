use Rattle.std.proofs.Common.{◌≡◌, ◌∙◌, ℕ, List, Option, None, ap, sym, subst}
use Rattle.std.specs.Prelude.{IfSome, IsSome}
use Rattle.device_spec.specs.Answers.{IsRight, IsWrongAnswer}
use Rattle.history_spec.specs.Entry.{Entry}
use Rattle.world_spec.specs.World.{world_of}
use Rattle.device_port.specs.Device.{asked_of, last_of}
use Rattle.broker_core.specs.Broker.{AreWhole, FaultsCounted, HoldsLeft, told_origin}
use Rattle.tab_server.specs.Run.{IsHistory}
use Rattle.tab_server.proofs.Causes.{holds_left, is_history, origin_told}
use Rattle.tab_server.proofs.ended_broker.end_broker.Goals as goal

pub returns-clause-ended : goal.returns-clause-ended
returns-clause-ended g c =
    let D = g.D.Device in
    let broker = c.args.broker in
    let end = c.finish-device.ensures in
    let device = c.finish-device.result.0 in
    let is_device = sym end.device in
    let is_journal = sym c.finish-device.ensures.journal.0 in
    let wrong : c.wrong_answer-wrong.result ≡ broker.wrong_code = c.wrong_answer-wrong.ensures.code in
    let told = is_history (D.seen broker.device).base (D.seen broker.device).state broker.journal broker end.stands in
    let held = holds_left broker.began (D.seen broker.device) broker.journal broker end.stands (end.held c.requires.closed) in
    record {
      legal = λ o slots is_base is_state. subst (λ (h : List Entry). IsHistory o slots h) is_journal (told o slots is_base (ap (λ d. (D.seen d).state) is_device ∙ is_state));
      faulted =
          subst (λ (h : List Entry). FaultsCounted broker.began (D.seen device).faults h 0) is_journal
          (subst (λ (d : _). FaultsCounted broker.began (D.seen d).faults broker.journal 0) is_device end.faulted);
      replies = subst AreWhole is_journal end.whole;
      base_is =
          ap (λ d. told_origin (D.seen d).base (D.seen d).state) end.device
          ∙ origin_told (D.seen broker.device).base (D.seen broker.device).state broker.journal broker (g.met.D.Device.told_together broker.device) end.stands;
      holds = λ o slots is_base is_state.
          subst (λ (h : List Entry). HoldsLeft broker.began (D.seen device).faults h slots (world_of o.persist o.numbers.active h).left) is_journal
          (subst (λ (n : ℕ). HoldsLeft broker.began n broker.journal slots (world_of o.persist o.numbers.active broker.journal).left) (ap (λ d. (D.seen d).faults) is_device)
          (held o slots is_base (ap (λ d. (D.seen d).state) is_device ∙ is_state)));
      right = λ none. subst (λ (d : _). IsRight D.CONTEXTS (asked_of (D.seen d)) (last_of (D.seen d))) is_device (end.last_answer.right (sym wrong ∙ none));
      answer =
          subst (λ (w : Option ℕ). IfSome w (IsWrongAnswer D.CONTEXTS (asked_of (D.seen device)) (last_of (D.seen device)))) (sym wrong)
          (subst (λ (d : _). IfSome broker.wrong_code (IsWrongAnswer D.CONTEXTS (asked_of (D.seen d)) (last_of (D.seen d)))) is_device end.last_answer.answer);
      taken = λ some. wrong ∙ subst (λ (d : _). IsSome (D.seen d).state → broker.wrong_code ≡ None) is_device end.last_answer.taken some;
    }
