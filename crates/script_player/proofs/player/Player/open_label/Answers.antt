use Rattle.std.proofs.Common.{◌≡◌, ◌-◌, ◌++◌, ◌∷◌, [], ℕ, ap, sym, subst, ◌∙◌, arith}
use Rattle.history_spec.specs.Entry.{open_entry}
use Rattle.script_lines.specs.Labels.{LabelsView, new_label}
use Rattle.tab_laws.proofs.Outcomes.{from_if_ok}
use Rattle.script_player.specs.declared.stop.Stop.{Stop}
use Rattle.script_player.specs.Play.{TellsFull}
use Rattle.script_player.proofs.Entries.{opens_full, opens_none}
use Rattle.script_player.proofs.Playing.{fits-open}
use Rattle.script_player.proofs.player.Player.open_label.Goals as goal

pub returns-in-Ok-clause-kept : goal.returns-in-Ok-clause-kept
returns-in-Ok-clause-kept g c =
    let labels = c.args.self.now.labels in
    let history = g.B.Recorded.history c.args.self.now.value in
    let added = from_if_ok c.open.result _ c.open.ensures.ok (sym c.is_err.ensures.value ∙ c.if-is_err.false) in
    let opened = c.in-Ok.ensures.opens in
    let entered = opened.entered ∙ ap (λ (n : ℕ). history ++ open_entry n ∷ []) (opened.client_is ∙ c.requires.ready.fits.opened) in
    record {
      fixed_is = c.in-Ok.ensures.fixed;
      fits = rw (entered, added.1.1, added.1.0) (fits-open labels history c.args.label c.requires.ready.fits);
    }

pub returns-in-Err-clause-kept : goal.returns-in-Err-clause-kept
returns-in-Err-clause-kept g c =
    let labels = c.args.self.now.labels in
    let added = from_if_ok c.open.result _ c.open.ensures.ok (sym c.is_err.ensures.value ∙ c.if-is_err.false) in
    let more = ap (λ (v : LabelsView). v.present) added.1.1 in
    let opened = ap (λ (v : LabelsView). v.opened) added.1.1 in
    let fewer : c.open.new.self.opened - 1 ≡ labels.opened = omega (arith, opened) in
    let back : c.take_back.new.self ≡ labels =
    c.take_back.ensures labels.present (new_label c.args.label added.0) more ∙ ap (λ (n : ℕ). record labels { opened = n }) fewer in
    rw (opens_none (g.B.Recorded.fixed c.args.self.now.value) _ _ c.in-Err.error c.in-Err.ensures.opens, back) (record { fixed_is = c.in-Err.ensures.fixed; fits = c.requires.ready.fits })

pub returns-in-Err-clause-full : goal.returns-in-Err-clause-full
returns-in-Err-clause-full g c =
    let fixed = g.B.Recorded.fixed c.args.self.now.value in
    subst (λ (s : Stop). TellsFull fixed.limit s (g.B.Recorded.history c.args.self.now.value)) (sym c.unopened.ensures) (opens_full fixed _ _ c.in-Err.error c.in-Err.ensures.opens)
