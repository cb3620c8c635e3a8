use Rattle.std.proofs.Common.{rules}
use Rattle.cancel_words.proofs.word.CancelWord.finish.Goals as goal

pub settle-requires-clause-role : goal.settle-requires-clause-role
settle-requires-clause-role c = search rules

pub returns-clause-both : goal.returns-clause-both
returns-clause-both c = search rules
