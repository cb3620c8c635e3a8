use Rattle.std.proofs.Common.{◌≤◌, ◌++◌, take, length, refl, sym, ap, ◌∙◌, subst, arith}
use Rattle.std.proofs.lemmas.List.{take_rest}
use Rattle.std.proofs.lemmas.Result.{err_from_is_err_and, on_ok_weaker}
use Rattle.broker_lock.specs.Known.{limits_of}
use Rattle.tab_spec.specs.Frame.{command, cancel}
use Rattle.script_lines.specs.declared.label.Label.{Label}
use Rattle.script_lines.specs.Labels.{LabelsView, label_in, counted, replaced}
use Rattle.script_player.specs.declared.stop.Stop.{Stop}
use Rattle.script_player.specs.Play.{fed_calls, fed_labels, Leads}
use Rattle.script_player.specs.Stops.{StoppedIn}
use Rattle.tab_laws.proofs.Outcomes.{if_err_weaker, on_ok_both}
use Rattle.script_player.proofs.Relabeling.{same_some, some_label, is_found}
use Rattle.script_player.proofs.Keeping.{keeps_on}
use Rattle.script_player.proofs.Feeding.{keeping, keeps, keeps_all, fed_none, fed_cancel, fed_command, fed_more, fed_whole, fed_bad, fed_stopped, fed_bad_stopped, kept_found, smaller_item, smaller_fed, command_kept}
use Rattle.script_lines.proofs.Ahead.{feeds_some, none_left, some_left}
use Rattle.script_player.proofs.player.Player.play_piece.Goals as goal

pub loop-self-init : goal.loop-self-init
loop-self-init g c =
    let found = some_label _ _ c.requires.is_open in
    record {
      sound = c.requires.ready.sound;
      kept = record { fixed_is = refl; fits = c.requires.ready.fits };
      quiet = refl;
      fed = (
        found.0,
        found.1,
        found.2,
        fed_none (limits_of (g.B.Recorded.fixed c.args.self.now.value)) c.args.label c.canceled_up_to-upto.result found.0 c.args.piece.now c.args.self.now.labels (g.B.Recorded.history c.args.self.now.value) (g.O.Sink.written c.args.output.now) found.1 (is_found c.args.self.now.labels.present c.args.label found.0 found.1).label_is (c.canceled_up_to-upto.ensures found.0 found.1),
      );
    }

pub run-requires-clause-ready : goal.run-requires-clause-ready
run-requires-clause-ready g c =
    let so_far = c.loop-self.invariant.fed.3 in
    let next = c.in-Command.ensures so_far.x so_far.found in
    let at = keeps (limits_of (g.B.Recorded.fixed c.args.self.now.value)) c.args.label c.loop-self.self.labels c.next.new.self (g.B.Recorded.history c.loop-self.self.value) so_far.x next.0 c.loop-self.invariant.kept.fits so_far.found next.2 in
    record { fits = at.fits; sound = c.loop-self.invariant.sound }

pub run-requires-clause-is_open : goal.run-requires-clause-is_open
run-requires-clause-is_open g c =
    let so_far = c.loop-self.invariant.fed.3 in
    let next = c.in-Command.ensures so_far.x so_far.found in
    rw (keeps (limits_of (g.B.Recorded.fixed c.args.self.now.value)) c.args.label c.loop-self.self.labels c.next.new.self (g.B.Recorded.history c.loop-self.self.value) so_far.x next.0 c.loop-self.invariant.kept.fits so_far.found next.2).found
    (omega (arith, so_far.small, c.loop-self.invariant.fed.2))

pub loop-self-preserved-in-Continue-1 : goal.loop-self-preserved-in-Continue-1
loop-self-preserved-in-Continue-1 g c =
    let fed = c.loop-self.invariant.fed in
    let so_far = fed.3 in
    let next = c.in-Command.ensures so_far.x so_far.found in
    let at = keeps (limits_of (g.B.Recorded.fixed c.args.self.now.value)) c.args.label c.loop-self.self.labels c.next.new.self (g.B.Recorded.history c.loop-self.self.value) so_far.x next.0 c.loop-self.invariant.kept.fits so_far.found next.2 in
    let ran = c.in_ok-run-in-Command.ensures.ok (keeping so_far.x next.0) at.found in
    record {
      sound = c.in_ok-run-in-Command.ensures.outcome.sound;
      kept = keeps_on c.loop-self.invariant.kept c.in_ok-run-in-Command.ensures.kept;
      quiet = c.in_ok-run-in-Command.ensures.outcome.counts.quiet ∙ c.loop-self.invariant.quiet;
      fed = (
        fed.0,
        fed.1,
        fed.2,
        fed_command (limits_of (g.B.Recorded.fixed c.args.self.now.value)) c.args.label c.canceled_up_to-upto.result fed.0 c.args.piece.now c.args.self.now.labels (g.B.Recorded.history c.args.self.now.value) (g.O.Sink.written c.args.output.now) c.loop-self.self.labels c.next.new.self c.run.new.self.labels
            (g.B.Recorded.history c.loop-self.self.value) (g.B.Recorded.history c.run.new.self.value) (g.O.Sink.written c.loop-self.output) (g.O.Sink.written c.run.new.output) c.loop-self.rest.now next.0 c.next.new.out ran.0
            so_far next.1 next.2 (c.in_ok-run-in-Command.ensures.labels (keeping so_far.x next.0) at.found) (rw c.loop-self.invariant.kept.fixed_is at ran.2) ran.1,
      );
    }

pub loop-self-smaller-in-Continue-1 : goal.loop-self-smaller-in-Continue-1
loop-self-smaller-in-Continue-1 g c =
    let so_far = c.loop-self.invariant.fed.3 in
    let next = c.in-Command.ensures so_far.x so_far.found in
    let at = keeps (limits_of (g.B.Recorded.fixed c.args.self.now.value)) c.args.label c.loop-self.self.labels c.next.new.self (g.B.Recorded.history c.loop-self.self.value) so_far.x next.0 c.loop-self.invariant.kept.fits so_far.found next.2 in
    let later = command_kept c.args.label c.next.new.self c.run.new.self.labels (keeping so_far.x next.0) at.found (c.in_ok-run-in-Command.ensures.labels (keeping so_far.x next.0) at.found) in
    smaller_item (command c.next.new.out) so_far.x (counted (keeping so_far.x next.0)) next.0 c.next.new.out c.loop-self.rest.now _ _ next.1 refl
    (kept_found c.loop-self.self.labels.present c.args.label so_far.x so_far.found) (kept_found c.run.new.self.labels.present c.args.label (counted (keeping so_far.x next.0)) later)

pub returns-in_err-run-in-Command-clause-stopped : goal.returns-in_err-run-in-Command-clause-stopped
returns-in_err-run-in-Command-clause-stopped g c =
    let fed = c.loop-self.invariant.fed in
    let so_far = fed.3 in
    let next = c.in-Command.ensures so_far.x so_far.found in
    let at = keeps (limits_of (g.B.Recorded.fixed c.args.self.now.value)) c.args.label c.loop-self.self.labels c.next.new.self (g.B.Recorded.history c.loop-self.self.value) so_far.x next.0 c.loop-self.invariant.kept.fits so_far.found next.2 in
    let failed = err_from_is_err_and c.from_residual.result c.from_residual.ensures.1 in
    let stopped = fed_stopped (limits_of (g.B.Recorded.fixed c.args.self.now.value)) c.in_err-run-in-Command.field-0.0 c.args.label c.canceled_up_to-upto.result fed.0 c.args.piece.now c.args.self.now.labels (g.B.Recorded.history c.args.self.now.value) (g.O.Sink.written c.args.output.now) c.loop-self.self.labels c.next.new.self
    (g.B.Recorded.history c.loop-self.self.value) (g.O.Sink.written c.loop-self.output) c.loop-self.rest.now next.0 c.next.new.out c.run.new.self.labels.present (g.B.Recorded.history c.run.new.self.value) (g.O.Sink.written c.run.new.output) (g.B.Recorded.wrong c.run.new.self.value)
    so_far next.1 at (rw c.loop-self.invariant.kept.fixed_is at (c.in_err-run-in-Command.ensures.stopped (keeping so_far.x next.0) at.found)) in
    rw failed.1 (λ x found.
    subst (λ (stop : Stop). StoppedIn (limits_of (g.B.Recorded.fixed c.args.self.now.value)) stop (fed_calls x c.args.piece.now) c.args.self.now.labels.present (g.B.Recorded.history c.args.self.now.value) c.run.new.self.labels.present (g.B.Recorded.history c.run.new.self.value)
    (g.O.Sink.written c.args.output.now) (g.O.Sink.written c.run.new.output) (g.B.Recorded.wrong c.run.new.self.value)) (sym failed.2)
    (subst (λ (first : Label). StoppedIn (limits_of (g.B.Recorded.fixed c.args.self.now.value)) c.in_err-run-in-Command.field-0.0 (fed_calls first c.args.piece.now) c.args.self.now.labels.present (g.B.Recorded.history c.args.self.now.value) c.run.new.self.labels.present (g.B.Recorded.history c.run.new.self.value)
    (g.O.Sink.written c.args.output.now) (g.O.Sink.written c.run.new.output) (g.B.Recorded.wrong c.run.new.self.value)) (same_some (sym fed.1 ∙ found)) stopped))

pub loop-self-preserved-in-Cancel : goal.loop-self-preserved-in-Cancel
loop-self-preserved-in-Cancel g c =
    let fed = c.loop-self.invariant.fed in
    let so_far = fed.3 in
    let next = c.in-Cancel.ensures so_far.x so_far.found in
    let at = keeps (limits_of (g.B.Recorded.fixed c.args.self.now.value)) c.args.label c.loop-self.self.labels c.next.new.self (g.B.Recorded.history c.loop-self.self.value) so_far.x next.0 c.loop-self.invariant.kept.fits so_far.found next.2 in
    record {
      sound = c.loop-self.invariant.sound;
      kept = record { fixed_is = c.loop-self.invariant.kept.fixed_is; fits = at.fits };
      quiet = c.loop-self.invariant.quiet;
      fed = (
        fed.0,
        fed.1,
        fed.2,
        fed_cancel (limits_of (g.B.Recorded.fixed c.args.self.now.value)) c.args.label c.canceled_up_to-upto.result fed.0 c.args.piece.now c.args.self.now.labels (g.B.Recorded.history c.args.self.now.value) (g.O.Sink.written c.args.output.now) c.loop-self.self.labels c.next.new.self
            (g.B.Recorded.history c.loop-self.self.value) (g.O.Sink.written c.loop-self.output) c.loop-self.rest.now next.0 c.next.new.out so_far next.1 next.2,
      );
    }

pub loop-self-smaller-in-Cancel : goal.loop-self-smaller-in-Cancel
loop-self-smaller-in-Cancel g c =
    let so_far = c.loop-self.invariant.fed.3 in
    let next = c.in-Cancel.ensures so_far.x so_far.found in
    let at = keeps (limits_of (g.B.Recorded.fixed c.args.self.now.value)) c.args.label c.loop-self.self.labels c.next.new.self (g.B.Recorded.history c.loop-self.self.value) so_far.x next.0 c.loop-self.invariant.kept.fits so_far.found next.2 in
    smaller_item cancel so_far.x (keeping so_far.x next.0) next.0 c.next.new.out c.loop-self.rest.now _ _ next.1 refl
    (kept_found c.loop-self.self.labels.present c.args.label so_far.x so_far.found) (kept_found c.next.new.self.present c.args.label (keeping so_far.x next.0) at.found)

pub end_label-requires-clause-ready : goal.end_label-requires-clause-ready
end_label-requires-clause-ready g c =
    let so_far = c.loop-self.invariant.fed.3 in
    let next = c.in-BadSize.ensures so_far.x so_far.found in
    let same = keeps_all c.args.label c.loop-self.self.labels c.next.new.self so_far.x next.0 so_far.found next.1.1 next.2 in
    record { fits = rw same c.loop-self.invariant.kept.fits; sound = c.loop-self.invariant.sound }

pub end_label-requires-clause-is_open : goal.end_label-requires-clause-is_open
end_label-requires-clause-is_open g c =
    let so_far = c.loop-self.invariant.fed.3 in
    let next = c.in-BadSize.ensures so_far.x so_far.found in
    rw (keeps_all c.args.label c.loop-self.self.labels c.next.new.self so_far.x next.0 so_far.found next.1.1 next.2) (rw so_far.found refl)

pub returns-in-BadSize-clause-labels : goal.returns-in-BadSize-clause-labels
returns-in-BadSize-clause-labels g c =
    let fed = c.loop-self.invariant.fed in
    let so_far = fed.3 in
    let next = c.in-BadSize.ensures so_far.x so_far.found in
    let same = keeps_all c.args.label c.loop-self.self.labels c.next.new.self so_far.x next.0 so_far.found next.1.1 next.2 in
    on_ok_weaker c.end_label.result (λ both x found.
    let ended = rw same at both in
    let whole = fed_bad (limits_of (g.B.Recorded.fixed c.args.self.now.value)) c.args.label c.canceled_up_to-upto.result fed.0 c.args.piece.now c.args.self.now.labels (g.B.Recorded.history c.args.self.now.value) (g.O.Sink.written c.args.output.now) c.loop-self.self.labels
    (g.B.Recorded.history c.loop-self.self.value) (g.O.Sink.written c.loop-self.output) c.loop-self.rest.now c.in-BadSize.field-0 c.end_label.new.self.labels (g.B.Recorded.history c.end_label.new.self.value) (g.O.Sink.written c.end_label.new.output) ended.1.0
    so_far next.1.0 ended.0 ended.1.2 ended.1.1 in
    whole.labels_are ∙ ap (λ (first : Label). fed_labels first c.args.piece.now c.args.self.now.labels) (same_some (sym fed.1 ∙ found))) (on_ok_both c.end_label.result _ _ c.end_label.ensures.labels c.end_label.ensures.ok)

pub returns-in-BadSize-clause-ok : goal.returns-in-BadSize-clause-ok
returns-in-BadSize-clause-ok g c =
    let fed = c.loop-self.invariant.fed in
    let so_far = fed.3 in
    let next = c.in-BadSize.ensures so_far.x so_far.found in
    let same = keeps_all c.args.label c.loop-self.self.labels c.next.new.self so_far.x next.0 so_far.found next.1.1 next.2 in
    on_ok_weaker c.end_label.result (λ both x found.
    let ended = rw same at both in
    let whole = fed_bad (limits_of (g.B.Recorded.fixed c.args.self.now.value)) c.args.label c.canceled_up_to-upto.result fed.0 c.args.piece.now c.args.self.now.labels (g.B.Recorded.history c.args.self.now.value) (g.O.Sink.written c.args.output.now) c.loop-self.self.labels
    (g.B.Recorded.history c.loop-self.self.value) (g.O.Sink.written c.loop-self.output) c.loop-self.rest.now c.in-BadSize.field-0 c.end_label.new.self.labels (g.B.Recorded.history c.end_label.new.self.value) (g.O.Sink.written c.end_label.new.output) ended.1.0
    so_far next.1.0 ended.0 ended.1.2 ended.1.1 in (
      whole.more,
      whole.written_is,
      subst (λ (first : Label). Leads (limits_of (g.B.Recorded.fixed c.args.self.now.value)) c.args.self.now.labels.present (g.B.Recorded.history c.args.self.now.value) (fed_calls first c.args.piece.now) c.end_label.new.self.labels.present (g.B.Recorded.history c.end_label.new.self.value) whole.more)
          (same_some (sym fed.1 ∙ found)) whole.leads,
    )) (on_ok_both c.end_label.result _ _ c.end_label.ensures.labels c.end_label.ensures.ok)

pub returns-in-BadSize-clause-stopped : goal.returns-in-BadSize-clause-stopped
returns-in-BadSize-clause-stopped g c =
    let fed = c.loop-self.invariant.fed in
    let so_far = fed.3 in
    let next = c.in-BadSize.ensures so_far.x so_far.found in
    let same = keeps_all c.args.label c.loop-self.self.labels c.next.new.self so_far.x next.0 so_far.found next.1.1 next.2 in
    if_err_weaker c.end_label.result (λ stop at_end x found.
    let stopped = rw (same, c.loop-self.invariant.kept.fixed_is) at at_end in
    subst (λ (first : Label). StoppedIn (limits_of (g.B.Recorded.fixed c.args.self.now.value)) stop (fed_calls first c.args.piece.now) c.args.self.now.labels.present (g.B.Recorded.history c.args.self.now.value) c.end_label.new.self.labels.present (g.B.Recorded.history c.end_label.new.self.value)
    (g.O.Sink.written c.args.output.now) (g.O.Sink.written c.end_label.new.output) (g.B.Recorded.wrong c.end_label.new.self.value)) (same_some (sym fed.1 ∙ found))
    (fed_bad_stopped (limits_of (g.B.Recorded.fixed c.args.self.now.value)) stop c.args.label c.canceled_up_to-upto.result fed.0 c.args.piece.now c.args.self.now.labels (g.B.Recorded.history c.args.self.now.value) (g.O.Sink.written c.args.output.now) c.loop-self.self.labels
    (g.B.Recorded.history c.loop-self.self.value) (g.O.Sink.written c.loop-self.output) c.loop-self.rest.now c.in-BadSize.field-0 c.end_label.new.self.labels.present (g.B.Recorded.history c.end_label.new.self.value) (g.O.Sink.written c.end_label.new.output) (g.B.Recorded.wrong c.end_label.new.self.value)
    so_far next.1.0 stopped)) c.end_label.ensures.stopped

pub returns-then-is_empty-clause-kept : goal.returns-then-is_empty-clause-kept
returns-then-is_empty-clause-kept g c =
    let so_far = c.loop-self.invariant.fed.3 in
    let next = c.in-NotYet.ensures so_far.x so_far.found in
    let same = keeps_all c.args.label c.loop-self.self.labels c.next.new.self so_far.x next.0 so_far.found next.1.2 next.2 in
    record { fixed_is = c.loop-self.invariant.kept.fixed_is; fits = rw same c.loop-self.invariant.kept.fits }

pub returns-in_err-run-in-Command-clause-kept : goal.returns-in_err-run-in-Command-clause-kept
returns-in_err-run-in-Command-clause-kept g c = keeps_on c.loop-self.invariant.kept c.run.ensures.kept

pub returns-in-BadSize-clause-kept : goal.returns-in-BadSize-clause-kept
returns-in-BadSize-clause-kept g c = keeps_on c.loop-self.invariant.kept c.end_label.ensures.kept

pub returns-then-is_empty-clause-labels : goal.returns-then-is_empty-clause-labels
returns-then-is_empty-clause-labels g c x found =
    let fed = c.loop-self.invariant.fed in
    let so_far = fed.3 in
    let next = c.in-NotYet.ensures so_far.x so_far.found in
    let same = keeps_all c.args.label c.loop-self.self.labels c.next.new.self so_far.x next.0 so_far.found next.1.2 next.2 in
    let whole = fed_whole (limits_of (g.B.Recorded.fixed c.args.self.now.value)) c.args.label c.canceled_up_to-upto.result fed.0 c.args.piece.now c.args.self.now.labels (g.B.Recorded.history c.args.self.now.value) (g.O.Sink.written c.args.output.now) c.loop-self.self.labels
    (g.B.Recorded.history c.loop-self.self.value) (g.O.Sink.written c.loop-self.output) c.loop-self.rest.now so_far (none_left c.is_empty.result c.loop-self.rest.now c.is_empty.ensures c.if-is_empty.true) next.1.0 next.1.1 in
    same ∙ whole.labels_are ∙ ap (λ (first : Label). fed_labels first c.args.piece.now c.args.self.now.labels) (same_some (sym fed.1 ∙ found))

pub returns-then-is_empty-clause-ok : goal.returns-then-is_empty-clause-ok
returns-then-is_empty-clause-ok g c x found =
    let fed = c.loop-self.invariant.fed in
    let so_far = fed.3 in
    let next = c.in-NotYet.ensures so_far.x so_far.found in
    let same = keeps_all c.args.label c.loop-self.self.labels c.next.new.self so_far.x next.0 so_far.found next.1.2 next.2 in
    let whole = fed_whole (limits_of (g.B.Recorded.fixed c.args.self.now.value)) c.args.label c.canceled_up_to-upto.result fed.0 c.args.piece.now c.args.self.now.labels (g.B.Recorded.history c.args.self.now.value) (g.O.Sink.written c.args.output.now) c.loop-self.self.labels
    (g.B.Recorded.history c.loop-self.self.value) (g.O.Sink.written c.loop-self.output) c.loop-self.rest.now so_far (none_left c.is_empty.result c.loop-self.rest.now c.is_empty.ensures c.if-is_empty.true) next.1.0 next.1.1 in
    let leads = subst (λ (first : Label). Leads (limits_of (g.B.Recorded.fixed c.args.self.now.value)) c.args.self.now.labels.present (g.B.Recorded.history c.args.self.now.value) (fed_calls first c.args.piece.now) c.loop-self.self.labels.present (g.B.Recorded.history c.loop-self.self.value) whole.more)
    (same_some (sym fed.1 ∙ found)) whole.leads in
    (whole.more, whole.written_is, subst (λ (v : LabelsView). Leads (limits_of (g.B.Recorded.fixed c.args.self.now.value)) c.args.self.now.labels.present (g.B.Recorded.history c.args.self.now.value) (fed_calls x c.args.piece.now) v.present (g.B.Recorded.history c.loop-self.self.value) whole.more) (sym same) leads)

pub feed-fed-requires : goal.feed-fed-requires
feed-fed-requires g c =
    let so_far = c.loop-self.invariant.fed.3 in
    let next = c.in-NotYet.ensures so_far.x so_far.found in
    rw (keeps_all c.args.label c.loop-self.self.labels c.next.new.self so_far.x next.0 so_far.found next.1.2 next.2) (rw so_far.found refl)

pub slice_bounds-rest-count : goal.slice_bounds-rest-count
slice_bounds-rest-count g c =
    let so_far = c.loop-self.invariant.fed.3 in
    let next = c.in-NotYet.ensures so_far.x so_far.found in
    let same = keeps_all c.args.label c.loop-self.self.labels c.next.new.self so_far.x next.0 so_far.found next.1.2 next.2 in
    let feed = c.feed-fed.ensures so_far.x (ap (λ (v : LabelsView). label_in v.present c.args.label) same ∙ so_far.found) in
    omega (arith, feed.0)

pub slice_bounds-rest-start : goal.slice_bounds-rest-start
slice_bounds-rest-start g c =
    let so_far = c.loop-self.invariant.fed.3 in
    let next = c.in-NotYet.ensures so_far.x so_far.found in
    let same = keeps_all c.args.label c.loop-self.self.labels c.next.new.self so_far.x next.0 so_far.found next.1.2 next.2 in
    let feed = c.feed-fed.ensures so_far.x (ap (λ (v : LabelsView). label_in v.present c.args.label) same ∙ so_far.found) in
    let within : c.feed-fed.result ≤ length c.loop-self.rest.now = omega (arith, feed.0) in
    within

pub loop-self-preserved : goal.loop-self-preserved
loop-self-preserved g c =
    let fed = c.loop-self.invariant.fed in
    let so_far = fed.3 in
    let next = c.in-NotYet.ensures so_far.x so_far.found in
    let same = keeps_all c.args.label c.loop-self.self.labels c.next.new.self so_far.x next.0 so_far.found next.1.2 next.2 in
    let feed = c.feed-fed.ensures so_far.x (ap (λ (v : LabelsView). label_in v.present c.args.label) same ∙ so_far.found) in
    let within : c.feed-fed.result ≤ length c.loop-self.rest.now = omega (arith, feed.0) in
    let bytes = so_far.x.kept ++ take c.feed-fed.result c.loop-self.rest.now in
    let labels_are = feed.1 ∙ ap (λ (v : LabelsView). record v { present = replaced (keeping so_far.x bytes) v.present }) same in
    record {
      sound = c.loop-self.invariant.sound;
      kept = record {
        fixed_is = c.loop-self.invariant.kept.fixed_is;
        fits = (keeps (limits_of (g.B.Recorded.fixed c.args.self.now.value)) c.args.label c.loop-self.self.labels c.feed-fed.new.self (g.B.Recorded.history c.loop-self.self.value) so_far.x bytes c.loop-self.invariant.kept.fits so_far.found labels_are).fits;
      };
      quiet = c.loop-self.invariant.quiet;
      fed = (
        fed.0,
        fed.1,
        fed.2,
        fed_more (limits_of (g.B.Recorded.fixed c.args.self.now.value)) c.args.label c.canceled_up_to-upto.result fed.0 c.args.piece.now c.args.self.now.labels (g.B.Recorded.history c.args.self.now.value) (g.O.Sink.written c.args.output.now) c.loop-self.self.labels c.feed-fed.new.self
            (g.B.Recorded.history c.loop-self.self.value) (g.O.Sink.written c.loop-self.output) c.loop-self.rest.now _ c.feed-fed.result so_far within (take_rest c.loop-self.rest.now c.feed-fed.result) labels_are,
      );
    }

pub loop-self-smaller : goal.loop-self-smaller
loop-self-smaller g c =
    let so_far = c.loop-self.invariant.fed.3 in
    let next = c.in-NotYet.ensures so_far.x so_far.found in
    let same = keeps_all c.args.label c.loop-self.self.labels c.next.new.self so_far.x next.0 so_far.found next.1.2 next.2 in
    let feed = c.feed-fed.ensures so_far.x (ap (λ (v : LabelsView). label_in v.present c.args.label) same ∙ so_far.found) in
    let some = feeds_some so_far.x.kept c.loop-self.rest.now c.feed-fed.result next.1.0 next.1.1 (some_left c.is_empty.result c.loop-self.rest.now c.is_empty.ensures c.if-is_empty.false) feed.0 in
    let bytes = so_far.x.kept ++ take c.feed-fed.result c.loop-self.rest.now in
    let labels_are = feed.1 ∙ ap (λ (v : LabelsView). record v { present = replaced (keeping so_far.x bytes) v.present }) same in
    let at = keeps (limits_of (g.B.Recorded.fixed c.args.self.now.value)) c.args.label c.loop-self.self.labels c.feed-fed.new.self (g.B.Recorded.history c.loop-self.self.value) so_far.x bytes c.loop-self.invariant.kept.fits so_far.found labels_are in
    smaller_fed so_far.x c.loop-self.rest.now _ c.feed-fed.result _ _ some (take_rest c.loop-self.rest.now c.feed-fed.result)
    (kept_found c.loop-self.self.labels.present c.args.label so_far.x so_far.found) (kept_found c.feed-fed.new.self.present c.args.label (keeping so_far.x bytes) at.found)
