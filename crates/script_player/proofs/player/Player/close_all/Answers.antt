use Rattle.std.proofs.Common.{ℕ, List, [], ◌∷◌, ◌++◌, map, ap, sym, ◌∙◌, append_assoc}
use Rattle.broker_lock.specs.Known.{limits_of}
use Rattle.history_spec.specs.Entry.{close_entry}
use Rattle.script_lines.specs.declared.label.Label.{Label}
use Rattle.script_lines.specs.Labels.{LabelsView}
use Rattle.script_player.proofs.Playing.{fits-closed_first, leads_closing}
use Rattle.script_player.proofs.player.Player.close_all.Goals as goal

pub loop-client-preserved : goal.loop-client-preserved
loop-client-preserved g c =
    let labels = c.loop-client.self.labels in
    let history = (g.B.Recorded.history c.loop-client.self.value) in
    let first = c.in-Some.ensures in
    let x = first.0 in
    let xs = first.1 in
    let so_far = c.loop-client.invariant.closed in
    let entered = c.close_client.ensures.closed ∙ ap (λ (n : ℕ). history ++ close_entry n ∷ []) first.3 in
    let left = ap (λ (v : LabelsView). v.present) first.4 in
    record {
      kept = record {
        fixed_is = c.close_client.ensures.fixed ∙ c.loop-client.invariant.kept.fixed_is;
        fits = rw (entered, first.4) (fits-closed_first labels history x xs first.2 c.loop-client.invariant.kept.fits);
      };
      stays = λ some. c.close_client.ensures.stays (c.loop-client.invariant.stays some);
      closed = (
        so_far.0 ++ x.label ∷ [],
        so_far.1 ∙ ap (λ (ls : List Label). so_far.0 ++ map (λ y. y.label) ls) first.2 ∙ sym (append_assoc so_far.0 (x.label ∷ []) (map (λ y. y.label) xs))
            ∙ ap (λ (ls : List Label). (so_far.0 ++ x.label ∷ []) ++ map (λ y. y.label) ls) (sym left),
        rw (entered, left) (leads_closing (limits_of (g.B.Recorded.fixed c.args.self.now.value)) c.args.self.now.labels.present labels.present (g.B.Recorded.history c.args.self.now.value) history so_far.0 x xs first.2 so_far.2),
      );
    }
