use Rattle.std.proofs.Common.{ℕ, List, [], ◌∷◌, ◌++◌, ap, refl, sym, ◌∙◌, subst}
use Rattle.std.proofs.lemmas.Result.{err_from_is_err_and, on_ok_weaker}
use Rattle.std.proofs.lemmas.List.{append-nil}
use Rattle.broker_lock.specs.Known.{limits_of}
use Rattle.tab_spec.specs.declared.TheConstants.{RC_COMMAND_SIZE}
use Rattle.tab_spec.specs.Reply.{error_reply}
use Rattle.link_port.specs.Port.{with_more}
use Rattle.script_spec.specs.Calls.{bad_size, closing}
use Rattle.script_spec.specs.Plays.{reply_line}
use Rattle.script_lines.specs.Labels.{LabelsView}
use Rattle.script_player.specs.declared.stop.Stop.{Stop}
use Rattle.script_player.specs.Stops.{CutsLastLine, StoppedIn}
use Rattle.script_player.proofs.Relabeling.{is_label}
use Rattle.script_player.proofs.Playing.{leads_on, leads_bad}
use Rattle.tab_laws.proofs.Outcomes.{if_err_weaker}
use Rattle.script_player.proofs.Stopping.{stopped_bad, stopped_close}
use Rattle.script_player.proofs.player.Player.end_label.Goals as goal

pub returns-in_err-write_reply-clause-stopped : goal.returns-in_err-write_reply-clause-stopped
returns-in_err-write_reply-clause-stopped g c =
    let failed = err_from_is_err_and c.from_residual.result c.from_residual.ensures.1 in
    let found = is_label _ c.requires.is_open in
    let written = g.O.Sink.written c.args.output.now in
    let written_new = g.O.Sink.written c.write_reply.new.output in
    let labels = c.args.self.now.labels.present in
    let history = (g.B.Recorded.history c.args.self.now.value) in
    let wrong = (g.B.Recorded.wrong c.args.self.now.value) in
    let front = subst (λ (reply : List ℕ). CutsLastLine (reply_line c.args.label reply) written written_new) c.error_reply.ensures c.in_err-write_reply.ensures.front in
    let stopped = stopped_bad (limits_of (g.B.Recorded.fixed c.args.self.now.value)) (g.O.Sink.faults c.write_reply.new.output) labels history c.args.label found.0 written written_new wrong found.1 front in
    rw failed.1 (rw (c.write_reply.ensures.labels, c.write_reply.ensures.value)
    (subst (λ (stop : Stop). StoppedIn (limits_of (g.B.Recorded.fixed c.args.self.now.value)) stop (bad_size c.args.label ∷ closing c.args.label ∷ []) labels history labels history written written_new wrong) (sym (failed.2 ∙ c.in_err-write_reply.ensures.err.0)) stopped))

pub returns-clause-ok : goal.returns-clause-ok
returns-clause-ok g c =
    let found = is_label _ c.requires.is_open in
    let written = g.O.Sink.written c.args.output.now in
    let labels = c.args.self.now.labels.present in
    let history = (g.B.Recorded.history c.args.self.now.value) in
    let line = reply_line c.args.label (error_reply RC_COMMAND_SIZE) in
    let wrote = c.in_ok-write_reply.ensures.written ∙ ap (λ (reply : List ℕ). with_more written (reply_line c.args.label reply)) c.error_reply.ensures ∙ ap (with_more written) (sym (append-nil line)) in
    let same_labels = ap (λ (v : LabelsView). v.present) c.write_reply.ensures.labels in
    let same_history = ap g.B.Recorded.history c.write_reply.ensures.value in
    let closes = rw (same_labels, same_history) at c.close_label.ensures.leads in
    on_ok_weaker c.close_label.result (λ sound. (
      line ++ [],
      wrote,
      leads_on (limits_of (g.B.Recorded.fixed c.args.self.now.value)) labels labels c.close_label.new.self.labels.present history history (g.B.Recorded.history c.close_label.new.self.value) (bad_size c.args.label ∷ []) (closing c.args.label ∷ []) line [] (leads_bad (limits_of (g.B.Recorded.fixed c.args.self.now.value)) labels history c.args.label found.0 found.1) closes,
    )) c.close_label.ensures.sound

pub returns-clause-stopped : goal.returns-clause-stopped
returns-clause-stopped g c =
    let found = is_label _ c.requires.is_open in
    let written = g.O.Sink.written c.args.output.now in
    let written_new = g.O.Sink.written c.write_reply.new.output in
    let labels = c.args.self.now.labels.present in
    let history = (g.B.Recorded.history c.args.self.now.value) in
    let line = reply_line c.args.label (error_reply RC_COMMAND_SIZE) in
    let wrote = c.in_ok-write_reply.ensures.written ∙ ap (λ (reply : List ℕ). with_more written (reply_line c.args.label reply)) c.error_reply.ensures ∙ ap (with_more written) (sym (append-nil line)) in
    let same_labels = ap (λ (v : LabelsView). v.present) c.write_reply.ensures.labels in
    let same_history = ap g.B.Recorded.history c.write_reply.ensures.value in
    let closes = rw (same_labels, same_history) at c.close_label.ensures.leads in
    let leads = leads_on (limits_of (g.B.Recorded.fixed c.args.self.now.value)) labels labels c.close_label.new.self.labels.present history history (g.B.Recorded.history c.close_label.new.self.value) (bad_size c.args.label ∷ []) (closing c.args.label ∷ []) line [] (leads_bad (limits_of (g.B.Recorded.fixed c.args.self.now.value)) labels history c.args.label found.0 found.1) closes in
    if_err_weaker c.close_label.result (λ stop is_wrong.
    subst (λ (s : Stop). StoppedIn (limits_of (g.B.Recorded.fixed c.args.self.now.value)) s (bad_size c.args.label ∷ closing c.args.label ∷ []) labels history c.close_label.new.self.labels.present (g.B.Recorded.history c.close_label.new.self.value) written written_new (g.B.Recorded.wrong c.close_label.new.self.value)) (sym is_wrong.0)
    (stopped_close (limits_of (g.B.Recorded.fixed c.args.self.now.value)) (bad_size c.args.label ∷ []) c.args.label (bad_size c.args.label ∷ closing c.args.label ∷ []) labels history c.close_label.new.self.labels.present (g.B.Recorded.history c.close_label.new.self.value) (line ++ []) written written_new (g.B.Recorded.wrong c.close_label.new.self.value) refl leads wrote))
    c.close_label.ensures.err
