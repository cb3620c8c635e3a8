use Rattle.std.proofs.Common.{rules}
use Rattle.cancel_words.proofs.word.CancelWord.covers.Goals as goal

pub returns-then-word-number-clause-some : goal.returns-then-word-number-clause-some
returns-then-word-number-clause-some c = search rules

pub returns-else-word-number-clause-none : goal.returns-else-word-number-clause-none
returns-else-word-number-clause-none c = search rules
