use Rattle.std.proofs.Common.{◌++◌, ◌∷◌, [], ℕ, ap, ◌∙◌}
use Rattle.std.proofs.lemmas.Result.{on_ok_weaker}
use Rattle.broker_lock.specs.Known.{limits_of}
use Rattle.history_spec.specs.Entry.{close_entry}
use Rattle.tab_laws.proofs.Outcomes.{if_err_weaker}
use Rattle.script_player.proofs.Keeping.{not_true}
use Rattle.script_player.proofs.Relabeling.{is_label, found_by_name}
use Rattle.script_player.proofs.Playing.{is_ready, fits-closed, leads_closed}
use Rattle.script_player.proofs.player.Player.close_label.Goals as goal

pub close_client-requires : goal.close_client-requires
close_client-requires g c =
    let found = is_label _ c.requires.is_open in
    rw (c.close-client.ensures found.0 found.1).0 ((is_ready c.args.self.now.labels (g.B.Recorded.history c.args.self.now.value) found.0 c.requires.fits (found_by_name _ _ _ found.1)).is_open)

pub returns-clause-labels : goal.returns-clause-labels
returns-clause-labels g c =
    let found = is_label _ c.requires.is_open in
    (c.close-client.ensures found.0 found.1).1

pub returns-clause-leads : goal.returns-clause-leads
returns-clause-leads g c =
    let found = is_label _ c.requires.is_open in
    let closed = c.close-client.ensures found.0 found.1 in
    let history = g.B.Recorded.history c.args.self.now.value in
    let entered = c.close_client.ensures.closed ∙ ap (λ (n : ℕ). history ++ close_entry n ∷ []) closed.0 in
    rw (entered, closed.1) (leads_closed (limits_of (g.B.Recorded.fixed c.args.self.now.value)) c.args.self.now.labels.present history c.args.label found.0 found.1)

pub returns-clause-sound : goal.returns-clause-sound
returns-clause-sound g c = on_ok_weaker c.after_closed.result (λ not. not_true _ (λ yes. not (c.close_client.ensures.wrong.1 yes))) c.after_closed.ensures.ok

pub returns-clause-err : goal.returns-clause-err
returns-clause-err g c = if_err_weaker c.after_closed.result (λ stop at. (at.0, c.close_client.ensures.wrong.0 at.1)) c.after_closed.ensures.err

pub returns-clause-kept : goal.returns-clause-kept
returns-clause-kept g c =
    let found = is_label _ c.requires.is_open in
    let closed = c.close-client.ensures found.0 found.1 in
    let history = g.B.Recorded.history c.args.self.now.value in
    let entered = c.close_client.ensures.closed ∙ ap (λ (n : ℕ). history ++ close_entry n ∷ []) closed.0 in
    record {
      fixed_is = c.close_client.ensures.fixed;
      fits = rw (entered, closed.1) (fits-closed c.args.self.now.labels history c.args.label found.0 c.requires.fits found.1);
    }
