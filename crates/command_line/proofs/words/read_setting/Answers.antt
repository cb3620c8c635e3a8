use Rattle.std.proofs.Common.{◌∙◌, sym, ap}
use Rattle.std.specs.String.{string_bytes}
use Rattle.command_line.specs.Words.{setting_in, takes_value}
use Rattle.command_line.proofs.WordLemmas.{none_first, some_first}
use Rattle.command_line.proofs.words.read_setting.Goals as goal

pub returns-in_err-read_word-clause-value : goal.returns-in_err-read_word-clause-value
returns-in_err-read_word-clause-value c =
    let word = c.as_str-word.ensures.value in
    rw c.from_residual.ensures
    (none_first string_bytes c.args.words.now c.index-words-0.result c.requires c.index-words-0.is
    (ap takes_value (sym word) ∙ sym c.takes_value.ensures ∙ c.if-not-takes_value.true)
    (ap setting_in (sym word) ∙ sym c.in_err-read_word.ensures))

pub returns-then-not-takes_value-clause-value : goal.returns-then-not-takes_value-clause-value
returns-then-not-takes_value-clause-value c =
    let word = c.as_str-word.ensures.value in
    some_first string_bytes c.args.words.now c.index-words-0.result c.in_ok-read_word.field-0 c.requires c.index-words-0.is
    (ap takes_value (sym word) ∙ sym c.takes_value.ensures ∙ c.if-not-takes_value.true)
    (ap setting_in (sym word) ∙ sym c.in_ok-read_word.ensures)
