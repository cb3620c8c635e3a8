use Rattle.std.proofs.Common.{◌+◌, ◌≤◌, drop, get_or, ◌∙◌, arith}
use Rattle.std.specs.List.{list_all}
use Rattle.std.proofs.lemmas.List.{drop_more}
use Rattle.script_spec.specs.Script.{is_digit}
use Rattle.command_line.proofs.NumberLemmas.{next_number, number_past}
use Rattle.command_line.proofs.words.number_of.Goals as goal

pub returns-in_err-tens : goal.returns-in_err-tens
returns-in_err-tens c =
    let digits = c.args.digits.now in
    let at = c.loop-digit.digit-index in
    let number = c.loop-digit.number in
    let rest = rw (drop_more digits at 0 (omega arith)) at c.loop-digit.invariant.0 in
    let past : 18446744073709551616 ≤ next_number number (get_or digits at 0) = omega (arith, c.in_err-tens.ensures) in
    c.from_residual.ensures ∙ number_past (list_all is_digit digits) digits (drop (at + 1) digits) (next_number number (get_or digits at 0)) rest past

pub returns-in_err-number : goal.returns-in_err-number
returns-in_err-number c =
    let digits = c.args.digits.now in
    let at = c.loop-digit.digit-index in
    let number = c.loop-digit.number in
    let rest = rw (drop_more digits at 0 (omega arith)) at c.loop-digit.invariant.0 in
    let past : 18446744073709551616 ≤ next_number number (get_or digits at 0) = omega (arith, c.in_err-number.ensures, c.in_ok-tens.ensures, c.from.ensures) in
    c.from_residual-in_err-number.ensures ∙ number_past (list_all is_digit digits) digits (drop (at + 1) digits) (next_number number (get_or digits at 0)) rest past
