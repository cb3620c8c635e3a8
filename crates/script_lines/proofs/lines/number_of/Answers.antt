use Rattle.std.proofs.Common.{◌+◌, arith, drop}
use Rattle.std.proofs.lemmas.List.{drop_more}
use Rattle.script_lines.proofs.LineWords.{number_of-too_large, number_of-none}
use Rattle.script_lines.proofs.lines.number_of.Goals as goal

pub returns-then-number-from : goal.returns-then-number-from
returns-then-number-from c =
    let front = drop_more c.args.digits.now c.loop-digit.digit-index 0 (omega arith) in
    number_of-none _ _ _
    (number_of-too_large c.args.digits.now (drop (c.loop-digit.digit-index + 1) c.args.digits.now) _ (rw front at c.loop-digit.invariant.0) (omega arith))
