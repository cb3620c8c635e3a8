use Rattle.std.proofs.Common.{length, eqb-true, sym, ◌∙◌}
use Rattle.script_lines.proofs.Ahead.{one_command}
use Rattle.script_lines.proofs.labels.is_one_command.Goals as goal

pub returns : goal.returns
returns c = λ is.
    let none = eqb-true (length c.args.kept.now) 0 (sym c.is_empty.ensures ∙ c.if-not-is_empty.false) in
    one_command c.args.kept.now c.args.piece.now none c.if-length.false c.if-length-2.false
    (sym c.size_of.ensures ∙ eqb-true c.size_of.result (length c.args.piece.now) is)
