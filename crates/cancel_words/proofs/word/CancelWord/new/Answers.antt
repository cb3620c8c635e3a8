use Rattle.std.proofs.Common.{rules}
use Rattle.cancel_words.proofs.Steps.{begins_it, splits_it}
use Rattle.cancel_words.proofs.word.CancelWord.new.Goals as goal

pub of_words-requires : goal.of_words-requires
of_words-requires c = begins_it

pub split_seat-worker-requires : goal.split_seat-worker-requires
split_seat-worker-requires c =
    (search rules, search rules, splits_it c.in_ok-table.reader.id c.in_ok-table.reader.me.0)
