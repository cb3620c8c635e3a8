use Rattle.std.proofs.Common.{◌≡◌, ◌∙◌, ◌<◌, false, length, None, arith, rules}
use Rattle.std.specs.List.{after_first, before_first, list_any, position_or_len}
use Rattle.std.proofs.lemmas.Str.Pattern.{split_once_first}
use Rattle.command_line.specs.Words.{flag_of, is_equals, setting_of}
use Rattle.command_line.proofs.WordLemmas.{flagged, none_passes}
use Rattle.command_line.proofs.words.read_word.Goals as goal

pub returns-in-None : goal.returns-in-None
returns-in-None c =
    let word = c.args.word.now in
    let ascii : 61 < 128 = omega arith in
    let at_end : position_or_len is_equals word ≡ length word = first_of (search (rules, split_once_first 61 word None c.in-None.ensures.cases ascii), search (rules, c.in-None.ensures.byte ascii (λ w o found. found))) in
    let none : list_any is_equals word ≡ false = none_passes is_equals word (omega (arith, at_end)) in
    c.read_flag.ensures ∙ flagged (list_any is_equals word) (setting_of (before_first is_equals word) (after_first is_equals word)) (flag_of word) none
