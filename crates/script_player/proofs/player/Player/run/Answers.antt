use Rattle.std.proofs.Common.{◌+◌, ℕ, [], ◌∷◌, refl, ap, inl, sym, ◌∙◌, subst}
use Rattle.std.proofs.lemmas.Result.{err_from_is_err_and, on_ok_weaker}
use Rattle.broker_lock.specs.Known.{limits_of}
use Rattle.link_port.specs.Port.{with_more}
use Rattle.history_spec.specs.Cancels.{cover}
use Rattle.script_spec.specs.Calls.{command as run_command}
use Rattle.script_spec.specs.Plays.{reply_line}
use Rattle.script_lines.specs.Labels.{counted, replaced}
use Rattle.script_player.specs.declared.stop.Stop.{Stop}
use Rattle.script_player.specs.declared.stop.Stop.TheVariants as stops
use Rattle.script_player.specs.Stops.{CutsLastLine, StoppedIn}
use Rattle.tab_laws.proofs.Outcomes.{if_err_weaker}
use Rattle.script_player.proofs.Relabeling.{some_label, found_by_name, is_found}
use Rattle.script_player.proofs.Entries.{told_of_label}
use Rattle.script_player.proofs.Keeping.{not_true}
use Rattle.script_player.proofs.Playing.{is_ready, fits-told, leads-told}
use Rattle.script_player.proofs.Stopping.{stopped_told}
use Rattle.script_player.proofs.player.Player.run.Goals as goal

pub answer-told-requires-clause-present : goal.answer-told-requires-clause-present
answer-told-requires-clause-present g c =
    let found = some_label _ _ c.requires.is_open in
    let ready = is_ready c.args.self.now.labels (g.B.Recorded.history c.args.self.now.value) found.0 c.requires.ready.fits (found_by_name _ _ _ found.1) in
    rw (c.count-client.ensures found.0 found.1).0 ready.is_open

pub answer-told-requires-clause-number : goal.answer-told-requires-clause-number
answer-told-requires-clause-number g c =
    let found = some_label _ _ c.requires.is_open in
    let ready = is_ready c.args.self.now.labels (g.B.Recorded.history c.args.self.now.value) found.0 c.requires.ready.fits (found_by_name _ _ _ found.1) in
    rw (c.count-client.ensures found.0 found.1).0 ready.is_next

pub returns-in_err-write_reply-clause-kept : goal.returns-in_err-write_reply-clause-kept
returns-in_err-write_reply-clause-kept g c =
    let found = some_label _ _ c.requires.is_open in
    let count = c.count-client.ensures found.0 found.1 in
    let told = told_of_label (g.B.Recorded.fixed c.args.self.now.value) c.answer-told.result (g.B.Recorded.history c.args.self.now.value) (g.B.Recorded.history c.answer-told.new.self.value) c.count-client.result found.0.client (found.0.commands + 1) c.args.upto c.cover-covered.result c.args.self.now.frame c.answer-told.new.self.reply count.0 c.cover-covered.ensures c.answer-told.ensures.run c.answer-told.ensures.told in
    record {
      fixed_is = ap g.B.Recorded.fixed c.write_reply.ensures.value ∙ c.answer-told.ensures.fixed;
      fits = rw (c.write_reply.ensures.labels, c.answer-told.ensures.labels, c.write_reply.ensures.value, count.1)
          (fits-told (limits_of (g.B.Recorded.fixed c.args.self.now.value)) c.answer-told.result c.args.self.now.labels (g.B.Recorded.history c.args.self.now.value) (g.B.Recorded.history c.answer-told.new.self.value) found.0 c.args.self.now.frame _ _ told c.requires.ready.fits (found_by_name _ _ _ found.1));
    }

pub returns-clause-kept : goal.returns-clause-kept
returns-clause-kept g c =
    let found = some_label _ _ c.requires.is_open in
    let count = c.count-client.ensures found.0 found.1 in
    let told = told_of_label (g.B.Recorded.fixed c.args.self.now.value) c.answer-told.result (g.B.Recorded.history c.args.self.now.value) (g.B.Recorded.history c.answer-told.new.self.value) c.count-client.result found.0.client (found.0.commands + 1) c.args.upto c.cover-covered.result c.args.self.now.frame c.answer-told.new.self.reply count.0 c.cover-covered.ensures c.answer-told.ensures.run c.answer-told.ensures.told in
    record {
      fixed_is = ap g.B.Recorded.fixed c.write_reply.ensures.value ∙ c.answer-told.ensures.fixed;
      fits = rw (c.write_reply.ensures.labels, c.answer-told.ensures.labels, c.write_reply.ensures.value, count.1)
          (fits-told (limits_of (g.B.Recorded.fixed c.args.self.now.value)) c.answer-told.result c.args.self.now.labels (g.B.Recorded.history c.args.self.now.value) (g.B.Recorded.history c.answer-told.new.self.value) found.0 c.args.self.now.frame _ _ told c.requires.ready.fits (found_by_name _ _ _ found.1));
    }

pub returns-clause-ok : goal.returns-clause-ok
returns-clause-ok g c =
    on_ok_weaker c.after_told.result (λ not_answer x found.
    let count = c.count-client.ensures x found in
    let name = (is_found c.args.self.now.labels.present c.args.label x found).label_is in
    let told = told_of_label (g.B.Recorded.fixed c.args.self.now.value) c.answer-told.result (g.B.Recorded.history c.args.self.now.value) (g.B.Recorded.history c.answer-told.new.self.value) c.count-client.result x.client (x.commands + 1) c.args.upto c.cover-covered.result c.args.self.now.frame c.answer-told.new.self.reply count.0 c.cover-covered.ensures c.answer-told.ensures.run c.answer-told.ensures.told in (
      reply_line c.args.label c.answer-told.new.self.reply,
      c.in_ok-write_reply.ensures.written,
      λ output. rw (c.write_reply.ensures.labels, c.answer-told.ensures.labels, c.write_reply.ensures.value, count.1, ← name)
          (leads-told (limits_of (g.B.Recorded.fixed c.args.self.now.value)) c.answer-told.result c.args.self.now.labels (g.B.Recorded.history c.args.self.now.value) (g.B.Recorded.history c.answer-told.new.self.value) x c.args.self.now.frame (cover c.args.upto (x.commands + 1)) c.answer-told.new.self.reply told not_answer c.requires.ready.fits (found_by_name _ _ _ found) output),
    )) c.after_told.ensures.ok

pub returns-in_err-write_reply-clause-stopped : goal.returns-in_err-write_reply-clause-stopped
returns-in_err-write_reply-clause-stopped g c =
    let failed = err_from_is_err_and c.from_residual.result c.from_residual.ensures.1 in
    let written = g.O.Sink.written c.args.output.now in
    let written_new = g.O.Sink.written c.write_reply.new.output in
    rw failed.1 (λ x found.
    let count = c.count-client.ensures x found in
    let name = (is_found c.args.self.now.labels.present c.args.label x found).label_is in
    let told = told_of_label (g.B.Recorded.fixed c.args.self.now.value) c.answer-told.result (g.B.Recorded.history c.args.self.now.value) (g.B.Recorded.history c.answer-told.new.self.value) c.count-client.result x.client (x.commands + 1) c.args.upto c.cover-covered.result c.args.self.now.frame c.answer-told.new.self.reply count.0 c.cover-covered.ensures c.answer-told.ensures.run c.answer-told.ensures.told in
    let front = subst (λ (l : ℕ). CutsLastLine (reply_line l c.answer-told.new.self.reply) written written_new) (sym name) c.in_err-write_reply.ensures.front in
    let stopped = stopped_told (limits_of (g.B.Recorded.fixed c.args.self.now.value)) c.answer-told.result (stops.Output (g.O.Sink.faults c.write_reply.new.output)) c.args.self.now.labels (g.B.Recorded.history c.args.self.now.value) (g.B.Recorded.history c.answer-told.new.self.value) x c.args.self.now.frame (cover c.args.upto (x.commands + 1)) c.answer-told.new.self.reply
    written written_new (g.B.Recorded.wrong c.answer-told.new.self.value) told c.answer-told.ensures.wrong c.requires.ready.fits (found_by_name _ _ _ found) (λ last some is. some) (λ none is. absurd cc) front in
    let of_label = subst (λ (l : ℕ). StoppedIn (limits_of (g.B.Recorded.fixed c.args.self.now.value)) (stops.Output (g.O.Sink.faults c.write_reply.new.output)) (run_command l (x.commands + 1) c.args.self.now.frame (cover c.args.upto (x.commands + 1)) ∷ []) c.args.self.now.labels.present (g.B.Recorded.history c.args.self.now.value)
    (replaced (counted x) c.args.self.now.labels.present) (g.B.Recorded.history c.answer-told.new.self.value) written written_new (g.B.Recorded.wrong c.answer-told.new.self.value)) name stopped in
    rw (c.write_reply.ensures.labels, c.answer-told.ensures.labels, c.write_reply.ensures.value, count.1)
    (subst (λ (stop : Stop). StoppedIn (limits_of (g.B.Recorded.fixed c.args.self.now.value)) stop (run_command c.args.label (x.commands + 1) c.args.self.now.frame (cover c.args.upto (x.commands + 1)) ∷ []) c.args.self.now.labels.present (g.B.Recorded.history c.args.self.now.value)
    (replaced (counted x) c.args.self.now.labels.present) (g.B.Recorded.history c.answer-told.new.self.value) written written_new (g.B.Recorded.wrong c.answer-told.new.self.value)) (sym (failed.2 ∙ c.in_err-write_reply.ensures.err.0)) of_label))

pub returns-clause-stopped : goal.returns-clause-stopped
returns-clause-stopped g c =
    let written = g.O.Sink.written c.args.output.now in
    let written_new = g.O.Sink.written c.write_reply.new.output in
    if_err_weaker c.after_told.result (λ stop at x found.
    let count = c.count-client.ensures x found in
    let name = (is_found c.args.self.now.labels.present c.args.label x found).label_is in
    let told = told_of_label (g.B.Recorded.fixed c.args.self.now.value) c.answer-told.result (g.B.Recorded.history c.args.self.now.value) (g.B.Recorded.history c.answer-told.new.self.value) c.count-client.result x.client (x.commands + 1) c.args.upto c.cover-covered.result c.args.self.now.frame c.answer-told.new.self.reply count.0 c.cover-covered.ensures c.answer-told.ensures.run c.answer-told.ensures.told in
    let is_wrong = c.answer-told.ensures.wrong.0 at.1 in
    let wrote = c.in_ok-write_reply.ensures.written ∙ ap (λ (l : ℕ). with_more written (reply_line l c.answer-told.new.self.reply)) (sym name) in
    let stopped = stopped_told (limits_of (g.B.Recorded.fixed c.args.self.now.value)) c.answer-told.result stops.Answer c.args.self.now.labels (g.B.Recorded.history c.args.self.now.value) (g.B.Recorded.history c.answer-told.new.self.value) x c.args.self.now.frame (cover c.args.upto (x.commands + 1)) c.answer-told.new.self.reply
    written written_new (g.B.Recorded.wrong c.answer-told.new.self.value) told c.answer-told.ensures.wrong c.requires.ready.fits (found_by_name _ _ _ found) (λ last is. inl refl) (λ none. absurd (none is_wrong)) wrote in
    let of_label = subst (λ (l : ℕ). StoppedIn (limits_of (g.B.Recorded.fixed c.args.self.now.value)) stops.Answer (run_command l (x.commands + 1) c.args.self.now.frame (cover c.args.upto (x.commands + 1)) ∷ []) c.args.self.now.labels.present (g.B.Recorded.history c.args.self.now.value)
    (replaced (counted x) c.args.self.now.labels.present) (g.B.Recorded.history c.answer-told.new.self.value) written written_new (g.B.Recorded.wrong c.answer-told.new.self.value)) name stopped in
    rw (c.write_reply.ensures.labels, c.answer-told.ensures.labels, c.write_reply.ensures.value, count.1)
    (subst (λ (s : Stop). StoppedIn (limits_of (g.B.Recorded.fixed c.args.self.now.value)) s (run_command c.args.label (x.commands + 1) c.args.self.now.frame (cover c.args.upto (x.commands + 1)) ∷ []) c.args.self.now.labels.present (g.B.Recorded.history c.args.self.now.value)
    (replaced (counted x) c.args.self.now.labels.present) (g.B.Recorded.history c.answer-told.new.self.value) written written_new (g.B.Recorded.wrong c.answer-told.new.self.value)) (sym at.0) of_label)) c.after_told.ensures.err

pub returns-clause-outcome : goal.returns-clause-outcome
returns-clause-outcome g c =
    let same = ap g.B.Recorded.wrong c.write_reply.ensures.value in
    let quiet = c.in_ok-write_reply.ensures.counts.quiet in
    record {
      counts = record { count = c.write_reply.ensures.counts.count; quiet = on_ok_weaker c.after_told.result (λ not_answer. quiet) c.after_told.ensures.ok };
      sound = on_ok_weaker c.after_told.result (λ not_answer. same ∙ not_true _ (λ yes. not_answer (c.answer-told.ensures.wrong.1 yes))) c.after_told.ensures.ok;
      cause = if_err_weaker c.after_told.result (λ stop at. rw at.0 (same ∙ c.answer-told.ensures.wrong.0 at.1, quiet, refl)) c.after_told.ensures.err;
    }
