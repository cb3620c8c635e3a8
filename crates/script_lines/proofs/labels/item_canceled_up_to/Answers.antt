use Rattle.std.proofs.Common.{◌≡◌, ◌++◌, ℕ, Option, None, sym, ap, subst, ◌∙◌}
use Rattle.tab_spec.specs.Frame.{frames}
use Rattle.history_spec.specs.Cancels.{canceled_up_to}
use Rattle.script_lines.specs.declared.label.Label.{Label}
use Rattle.script_lines.proofs.LabelLemmas.{label_same}
use Rattle.script_lines.proofs.labels.item_canceled_up_to.Goals as goal

pub returns-then-is_one_command : goal.returns-then-is_one_command
returns-then-is_one_command c = λ x found.
    let items = c.is_one_command.ensures c.if-is_one_command.true in
    subst (λ (y : Label). ◌≡◌ {A = Option ℕ} None (canceled_up_to y.commands (frames (y.kept ++ c.args.piece.now)).items))
    (label_same c.in-Some.x x (sym c.in-Some.is ∙ found)) (sym (ap (canceled_up_to c.in-Some.x.commands) items))
